pub mod RunLemmas
pub mod LoopLemmas
pub mod ForceLemmas
pub mod MarkLemmas
