pub mod ReadBack
mod Codes
pub mod Writes
pub mod Entries
pub mod InPart
pub mod Right
pub mod Passes
pub mod Asks
pub mod Changed
pub mod Sets
pub mod Begins
pub mod Places
pub mod Pieces
mod Outs
mod SlotCases
pub mod Rejoined
pub mod Removes
mod Pages
mod FirstLemmas
mod PageLemmas
mod HandleLemmas
mod WithinLemmas
mod NamedLemmas
