pub mod Drawn
pub mod Calls
pub mod Fixed
pub mod Maker
