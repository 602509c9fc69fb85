pub mod RunLemmas
pub mod TimesLemmas
pub mod OrderLemmas
pub mod TryLemmas
mod CarryingLemmas
