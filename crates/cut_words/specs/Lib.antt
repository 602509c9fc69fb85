pub mod Cut
pub mod Syncs
pub mod Between
pub mod Barriers
