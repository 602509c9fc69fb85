pub mod Pair
pub mod Transcripts
pub mod Exact
pub mod Laws
