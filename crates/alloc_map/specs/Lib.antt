pub mod Bits
pub mod Pages
pub mod Runs
pub mod AllocMap
