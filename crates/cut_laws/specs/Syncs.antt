-- The last sync before a write, and what is so of each cut.
pub use Rattle.cut_words.specs.Syncs.{last_sync, IsLastSync, Tears, SyncLaws}
