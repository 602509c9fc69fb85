-- The page of a data sector, which is read and written past the frames.
use Rattle.std.specs.Prelude.{◌≡◌, ◌⊎◌, ℕ, true, List, [], ◌∷◌, Some, slice_get, slice_set}
use Rattle.labelled_disk.specs.declared.label.Label.{Label}
use Rattle.labelled_disk.specs.declared.label.Wanted.{Wanted}
use Rattle.labelled_disk.specs.declared.disk.DiskWrite.TheVariants as write
use Rattle.labelled_disk.specs.Label.{names}
use Rattle.labelled_disk.specs.Sectors.{Sector}
use Rattle.labelled_disk.specs.State.{DiskState}
use Rattle.labelled_disk.specs.Calls.{RevealsSame}
use Rattle.labelled_disk.specs.WriteRuns.{Appended}
use Rattle.frame_pool.specs.Frames.{Slots}
use Rattle.swapper_kernel.specs.Goes.{Change, Goes, Makes, this_page}
use Rattle.swapper_kernel.specs.Stands.{Stands}
use Rattle.label_calls.specs.Labels.{HasOne, IsUncovered, ones_of}

-- the sector has these bytes, under a label that names the page
pub record HasPage (wanted : Wanted) (bytes : List ℕ) (sectors : List Sector) (sector : ℕ) : Type 0 where
  pub label : Label
  pub here : slice_get sectors sector ≡ Some (label, bytes)
  pub named : names label wanted ≡ true

-- The disk has these bytes of the page. Where no frame is over the sector, so has the memory.
pub record ReadsPage (sector : ℕ) (wanted : Wanted) (bytes : List ℕ) (disk : DiskState) (slots : Slots) : Type 0 where
  pub on_disk : (d : List Sector) → disk.contents ≡ Some d → HasPage wanted bytes d sector
  pub in_memory : IsUncovered slots sector → (m : List Sector) → Stands disk slots m → HasPage wanted bytes m sector

-- the sector, whose label names the page, gets these bytes, and nothing else changes
abbrev pub PutsPage : ℕ → Wanted → List ℕ → Change
PutsPage sector wanted bytes m n =
    (s : Sector) × (slice_get m sector ≡ Some s) × (names s.0 wanted ≡ true) × (n ≡ slice_set m sector (s.0, bytes))

-- These bytes of the page were written, by one permitted write, over a label that names it. Where no frame is over the sector,
-- the memory has them in place of what it had, and is else as it was.
pub record WritesPage (sector : ℕ) (wanted : Wanted) (bytes : List ℕ) (old : DiskState) (slots : Slots) (new : DiskState) : Type 0 where
  pub named : (d : List Sector) → old.contents ≡ Some d → HasOne (ones_of wanted) d sector
  pub appended : Appended (write.Page sector wanted bytes ∷ []) old new
  pub makes : Makes (this_page wanted.id wanted.page) [] old slots new slots
  pub goes : IsUncovered slots sector → Goes (PutsPage sector wanted bytes) (this_page wanted.id wanted.page) [] old slots new slots

-- they were written, or nothing was
abbrev pub MayWritePage : ℕ → Wanted → List ℕ → DiskState → Slots → DiskState → Type 0
MayWritePage sector wanted bytes old slots new = RevealsSame old new ⊎ WritesPage sector wanted bytes old slots new
