pub mod Entries
pub mod SectorStates
pub mod Progress
pub mod Survey
pub mod Triples
pub mod Counter
pub mod Runs
pub mod Laws
