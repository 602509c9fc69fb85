pub mod Outcome
pub mod Answers
pub mod Carrying
pub mod Ending
pub mod Turn
pub mod Dropped
