pub mod RowLemmas
mod CrashStateLemmas
pub mod LowLemmas
mod FreedLemmas
mod FoundLemmas
mod RestoreLemmas
mod CutLemmas
mod ScavengeLemmas
mod AmongLemmas
mod NamingLemmas
mod MarkLemmas
pub mod CarryLemmas
pub mod LayoutLemmas
pub mod PlanLemmas
mod OrderLemmas
pub mod TopLemmas
pub mod BetweenLemmas
