pub mod Paged
pub mod Happening
