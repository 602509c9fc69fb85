-- What the sector of the root reveals in each crash state of the writes of a call.
use Rattle.std.specs.Prelude.{◌≡◌, ℕ, ◌+◌, ◌<◌, ◌≤◌, true, List, ◌++◌, length, Some, slice_get}
use Rattle.labelled_disk.specs.declared.disk.DiskWrite.{DiskWrite}
use Rattle.labelled_disk.specs.CrashState.{crash_state}
use Rattle.labelled_disk.specs.Root.{serial_of, counter_of}
use Rattle.labelled_disk.specs.Sectors.{Sector}
use Rattle.labelled_disk.specs.State.{DiskState}
use Rattle.swapper_kernel.specs.Goes.{is_page_write}
use Rattle.volume_root.specs.declared.root.Root.{Root}

-- from the one state to the other, sector 0 is the same in each crash state
pub record RootStays (old new : DiskState) : Type 0 where
  pub stays : (d : List Sector) (before writes : List DiskWrite) → old.contents ≡ Some d → old.writes ≡ Some before → new.writes ≡ Some (before ++ writes) → (k : ℕ) → slice_get (crash_state d writes k) 0 ≡ slice_get d 0

-- So many writes, of pages under their labels alone, leave the counter, and the next one, if it was made, raises it by one; the serial stays.
pub record CountsOnce (serial counter : ℕ) (d : List Sector) (writes : List DiskWrite) : Type 0 where
  pub at : ℕ
  pub same_serial : (k : ℕ) → serial_of (crash_state d writes k) ≡ serial
  pub before : (k : ℕ) → k ≤ at → counter_of (crash_state d writes k) ≡ counter
  pub after : (k : ℕ) → at < k → k ≤ length writes → counter_of (crash_state d writes k) ≡ counter + 1
  pub quiet : (k : ℕ) (w : DiskWrite) → k < at → slice_get writes k ≡ Some w → is_page_write w ≡ true

-- from the one state to the other, where sector 0 reveals serial and counter of this root, it is so
pub record RootCounts (root : Root) (old new : DiskState) : Type 0 where
  pub counts : (d : List Sector) (before writes : List DiskWrite) → old.contents ≡ Some d → old.writes ≡ Some before → new.writes ≡ Some (before ++ writes) → serial_of d ≡ root.serial → counter_of d ≡ root.counter → CountsOnce root.serial root.counter d writes
