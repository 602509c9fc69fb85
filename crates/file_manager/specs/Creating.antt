-- A file that is created: the root with the next counter is written, then the file is made.
use Rattle.std.specs.Prelude.{◌≡◌, ℕ, ◌+◌, ◌*◌, ◌^◌, ◌≤◌, false, List, ◌∷◌, length, take}
use Rattle.labelled_disk.specs.declared.layout.Layout.{Layout}
use Rattle.labelled_disk.specs.Layout.{capacity}
use Rattle.labelled_disk.specs.Runs.{creation}
use Rattle.labelled_disk.specs.State.{DiskState}
use Rattle.frame_pool.specs.Frames.{Slots}
use Rattle.swapper_kernel.specs.Goes.{Makes}
use Rattle.filer_kernel.specs.declared.cached.CachedRuns.{CachedRuns}
use Rattle.session_words.specs.CreateLaws.{Creates}
use Rattle.session_words.specs.Volume.{volume_page}
use Rattle.volume_root.specs.declared.root.Root.{Root}
use Rattle.volume_root.specs.RootPage.{root_write}
use Rattle.file_manager.specs.Book.{Leads}

-- the identifier that the volume of this root gives out next
abbrev pub next_id : Root → ℕ
next_id root = root.serial * 2 ^ 32 + root.counter

-- the same root or a later one of the same volume: it gives out next no identifier below that which the earlier one does
abbrev pub IsMonotone : Root → Root → Type 0
IsMonotone old new = (next_id old ≤ next_id new) × (new.serial ≡ old.serial)

-- the root of the volume in use, once it is given out
abbrev pub counted : Root → Root
counted root = record root { clean = false; counter = root.counter + 1 }

-- a sector for the leader and so many for the pages; the root and the creation in these sectors were written, and that led from disk and frames to later ones
pub record CreatedAs (root : Root) (kind pages : ℕ) (old : DiskState) (before : Slots) (layout : Layout) (new : DiskState) (after : Slots) (runs : CachedRuns) : Type 0 where
  pub leader : ℕ
  pub sectors : List ℕ
  pub long : length sectors ≡ pages
  pub leads : Leads (Creates root.serial (root.counter + 1) (capacity layout.sectors) (next_id root) kind leader sectors) (root_write (counted root) ∷ creation (next_id root) kind leader sectors) old before layout new after runs

-- a sector for the leader and so many for the pages; the root was written, and their labels
pub record NewMade (root : Root) (kind pages : ℕ) (old : DiskState) (before : Slots) (new : DiskState) (after : Slots) : Type 0 where
  pub leader : ℕ
  pub sectors : List ℕ
  pub long : length sectors ≡ pages
  pub makes : Makes volume_page (root_write (counted root) ∷ creation (next_id root) kind leader sectors) old before new after

-- the first of such writes were made, the sectors being these: one for the leader and at most so many for the pages
pub record NewSome (root : Root) (kind pages : ℕ) (old : DiskState) (before : Slots) (new : DiskState) (after : Slots) : Type 0 where
  pub leader : ℕ
  pub sectors : List ℕ
  pub few : length sectors ≤ pages
  pub count : ℕ
  pub makes : Makes volume_page (take count (root_write (counted root) ∷ creation (next_id root) kind leader sectors)) old before new after
