mod RunLemmas
pub mod KeptLemmas
pub mod Outcomes
pub mod Lent
pub mod MapLemmas
pub mod MarkLemmas
pub mod FoundLemmas
pub mod TableLemmas
pub mod TableChange
pub mod LawLemmas
pub mod FileLemmas
pub mod AddLemmas
pub mod CutLemmas
pub mod StayLemmas
