pub mod Answers
pub mod Leaves
pub mod Heads
pub mod Settled
pub mod Planned
