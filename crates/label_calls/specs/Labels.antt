-- What a label write does to disk and frames.
use Rattle.std.specs.Prelude.{◌≡◌, ◌≢◌, ◌⊎◌, ℕ, ◌+◌, ◌<◌, ◌≤◌, true, false, List, [], ◌∷◌, Some, slice_get}
use Rattle.labelled_disk.specs.declared.label.Label.{Label}
use Rattle.labelled_disk.specs.declared.label.Wanted.{Wanted}
use Rattle.labelled_disk.specs.declared.layout.Layout.{Layout}
use Rattle.labelled_disk.specs.declared.disk.DiskWrite.{DiskWrite}
use Rattle.labelled_disk.specs.declared.disk.DiskWrite.TheVariants as write
use Rattle.labelled_disk.specs.declared.evidence.Evidence.{Evidence}
use Rattle.labelled_disk.specs.declared.evidence.Evidence.TheVariants.{Mismatch, Malformed, Missing}
use Rattle.labelled_disk.specs.Label.{is_free, is_file, names, permanent_label, immutable_label}
use Rattle.labelled_disk.specs.Sectors.{Sector}
use Rattle.labelled_disk.specs.State.{DiskState, HasLabel}
use Rattle.labelled_disk.specs.CrashState.{written}
use Rattle.labelled_disk.specs.WriteRuns.{Appended}
use Rattle.frame_pool.specs.Frames.{Frame, Slots, Has}
use Rattle.swapper_kernel.specs.Goes.{Goes, Makes, no_page}
use Rattle.label_calls.specs.declared.page.Mark.{Mark}
use Rattle.label_calls.specs.declared.page.Mark.TheVariants.{Permanent, Immutable}

-- so many sectors from this one on are data sectors of the layout, whose disk it is
pub record AreData (disk : DiskState) (layout : Layout) (sector pages : ℕ) : Type 0 where
  pub size : disk.sectors ≡ layout.sectors
  pub first : layout.first ≤ sector
  pub last : sector + pages ≤ layout.sectors

-- the label of a page of the space tables or of a file, or of a leader without marks
pub record IsFresh (label : Label) : Type 0 where
  pub of_file : ((label.page < 96) × (label ≡ record { id = 3; page = label.page; kind = 0; flags = 0; last = 0 })) ⊎ (is_file label ≡ true)
  pub no_flags : label.flags ≡ 0

-- the label with a mark more
abbrev pub with_mark : Mark → Label → Label
with_mark Permanent label = permanent_label label
with_mark Immutable label = immutable_label label

-- some labels
abbrev pub Labels : Type 1
Labels = Label → Type 0

-- those of free sectors
abbrev pub free_ones : Labels
free_ones label = is_free label ≡ true

-- those of this page
abbrev pub ones_of : Wanted → Labels
ones_of wanted label = names label wanted ≡ true

-- no frame has the sector as its home
abbrev pub IsUncovered : Slots → ℕ → Type 0
IsUncovered slots sector = (i : ℕ) (f : Frame) → Has slots i f → f.home.sector ≢ sector

-- the sector has one of these labels
abbrev pub HasOne : Labels → List Sector → ℕ → Type 0
HasOne labels sectors sector = (s : Sector) × (slice_get sectors sector ≡ Some s) × labels s.0

-- The sector had one of these labels, and one permitted write gave it another. Where no frame is over the sector, the memory
-- is what the write makes of it.
pub record Relabels (labels : Labels) (sector : ℕ) (write : DiskWrite) (old : DiskState) (slots : Slots) (new : DiskState) : Type 0 where
  pub found : (d : List Sector) → old.contents ≡ Some d → HasOne labels d sector
  pub appended : Appended (write ∷ []) old new
  pub makes : Makes no_page (write ∷ []) old slots new slots
  pub goes : IsUncovered slots sector → Goes (λ m n. n ≡ written write m) no_page (write ∷ []) old slots new slots

-- nothing was written, or the write was made
abbrev pub MayHaveWritten : DiskWrite → DiskState → Slots → DiskState → Type 0
MayHaveWritten write old slots new = Makes no_page [] old slots new slots ⊎ Makes no_page (write ∷ []) old slots new slots

-- Nothing was written; or the sector had one of these labels, and the write may have been made.
abbrev pub MayRelabel : Labels → ℕ → DiskWrite → DiskState → Slots → DiskState → Type 0
MayRelabel labels sector write old slots new =
    Makes no_page [] old slots new slots ⊎ (((d : List Sector) → old.contents ≡ Some d → HasOne labels d sector) × MayHaveWritten write old slots new)

-- Nothing was written; or the sector had this page, and its label may have been written with a mark more.
pub record MayMark (wanted : Wanted) (mark : Mark) (sector : ℕ) (old : DiskState) (slots : Slots) (new : DiskState) (after : Slots) : Type 0 where
  pub written : Makes no_page [] old slots new after
      ⊎ ((label : Label) × HasLabel old sector label × MayHaveWritten (write.LabelOnly sector (with_mark mark label)) old slots new)
  pub had : Makes no_page [] old slots new after ⊎ ((d : List Sector) → old.contents ≡ Some d → HasOne (ones_of wanted) d sector)

-- what is wanted where a sector is to be free
abbrev pub nobody : Wanted
nobody = record { id = 0; page = 0 }

-- the evidence is the label of this sector, which isn't free
abbrev pub IsTaken : ℕ → DiskState → Evidence → Type 0
IsTaken k disk (Mismatch sector wanted found) = (sector ≡ k) × (wanted ≡ nobody) × HasLabel disk k found × (is_free found ≡ false)
IsTaken k disk (Malformed structure page) = ⊥
IsTaken k disk (Missing id page) = ⊥

-- the evidence is the label of this sector, which doesn't name this page
abbrev pub IsNotOf : ℕ → Wanted → DiskState → Evidence → Type 0
IsNotOf k w disk (Mismatch sector wanted found) = (sector ≡ k) × (wanted ≡ w) × HasLabel disk k found × (names found w ≡ false)
IsNotOf k w disk (Malformed structure page) = ⊥
IsNotOf k w disk (Missing id page) = ⊥
