pub mod Run
pub mod Forces
