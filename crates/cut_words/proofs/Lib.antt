pub mod UnitLemmas
pub mod LastSyncLemmas
pub mod NumberLemmas
pub mod KeepLemmas
pub mod BarrierLemmas
pub mod BarrierRunLemmas
pub mod BarrierCallLemmas
pub mod OneWriteLemmas
