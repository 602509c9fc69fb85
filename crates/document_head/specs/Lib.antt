pub mod Head
pub mod Says
