pub mod Mode
pub mod Unit
