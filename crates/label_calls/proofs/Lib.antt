pub mod BytesLemmas
pub mod ClearedCalls
pub mod ClearingLemmas
pub mod FreshLemmas
pub mod OwnLemmas
pub mod RelabelLemmas
pub mod RunLemmas
pub mod SyncedCalls
