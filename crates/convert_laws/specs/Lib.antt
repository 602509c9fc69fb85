pub mod Converted
pub mod Orders
pub mod Conversions
pub mod Example
