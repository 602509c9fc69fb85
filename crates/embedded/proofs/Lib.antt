mod CallLemmas
mod TakeLemmas
mod OpenLemmas
mod MadeLemmas
mod ReferenceLemmas
mod PieceLemmas
mod FaultLemmas
mod StopLemmas
pub mod SpendLemmas
