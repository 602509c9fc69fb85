-- A file map in form, and what a walk over its bytes reads.
use Rattle.std.specs.Prelude.{◌≡◌, ℕ, ◌-◌, ◌*◌, ◌<◌, ◌≤◌, List, length, map, slice_get, Some}
use Rattle.labelled_disk.specs.Layout.{vfm}
use Rattle.page_tree.specs.Tree.{IsChain}
use Rattle.file_map.specs.declared.run.Run.{Run}
use Rattle.file_map.specs.Run.{run_bytes}
use Rattle.file_map.specs.FileMap.{run_at, most_records}
use Rattle.volume_view.specs.Records.{AreRunsOfMap, AreAllInForm, Follows, last_of}

-- the bytes are those of a file map in form on a volume of n sectors
pub record HasForm (n : ℕ) (bytes : List ℕ) : Type 0 where
  pub runs : List Run
  pub of_map : AreRunsOfMap n bytes runs
  pub few : length runs ≤ most_records n

-- these runs are revealed by these records, each begins after the end of the one before, and each is in form on a volume
-- of n sectors
pub record AreRead (n : ℕ) (records : List (List ℕ)) (runs : List Run) : Type 0 where
  pub listed : map run_bytes runs ≡ records
  pub form : AreAllInForm n runs
  pub follow : (k : ℕ) → k < length runs → Follows (last_of runs k) (run_at runs k)

-- no page of the list is the header, and each is below this one
abbrev pub AreInside : ℕ → List ℕ → Type 0
AreInside pages free = (k q : ℕ) → slice_get free k ≡ Some q → (1 ≤ q) × (q < pages)

-- the list of free pages from `first` on
pub record IsFreeList (b : List ℕ) (pages first : ℕ) (free : List ℕ) : Type 0 where
  pub chain : IsChain b first free
  pub inside : AreInside pages free

-- the header's count is that of the records, and a map of n sectors may have so many
pub record AreCounted (count n records : ℕ) : Type 0 where
  pub same : count ≡ records
  pub capacity : records ≤ 9 * (vfm n - 8)
  pub most : records ≤ most_records n
