pub mod ScanLemmas
mod PlaceLemmas
mod SectorStateLemmas
mod WalkLemmas
mod ClaimLemmas
mod EntryLemmas
pub mod TallyLemmas
pub mod OnceLemmas
pub mod SortLemmas
pub mod TripleLemmas
mod CounterLemmas
mod RunLemmas
mod LawLemmas
