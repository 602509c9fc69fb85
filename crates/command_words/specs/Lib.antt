pub mod Meaning
pub mod Options
pub mod Plain
