pub mod Lent
pub mod View
