pub mod Lends
pub mod Places
pub mod Answers
pub mod Numbers
pub mod Moves
