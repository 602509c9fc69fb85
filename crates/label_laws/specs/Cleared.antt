-- Free sectors whose page is zeros before they get a label.
use Rattle.std.specs.Prelude.{◌≡◌, ◌≢◌, ℕ, ◌<◌, ◌≤◌, Bool, true, List, Some, slice_get}
use Rattle.labelled_disk.specs.declared.disk.DiskWrite.{DiskWrite}
use Rattle.labelled_disk.specs.declared.disk.DiskWrite.TheVariants.{Whole, LabelOnly, Page}
use Rattle.labelled_disk.specs.declared.label.Label.{Label}
use Rattle.labelled_disk.specs.CrashState.{crash_state}
use Rattle.labelled_disk.specs.Label.{is_free, names}
use Rattle.labelled_disk.specs.Runs.{zero_bytes}
use Rattle.labelled_disk.specs.Sectors.{Sector}

-- a free label as a volume writes it: identifier 0, page 0, flags below 4, last byte 0. Over another free one no bytes can be written.
abbrev pub is_plain : Label → Bool
is_plain label = names label (record { id = 0; page = 0 })

-- The sector is free. Where its label is plain, its page is zeros.
pub record IsCleared (s : Sector) : Type 0 where
  pub free : is_free s.0 ≡ true
  pub zeros : is_plain s.0 ≡ true → s.1 ≡ zero_bytes

-- sector i is so in each crash state of these writes from s up to k
abbrev pub StaysCleared : List Sector → List DiskWrite → ℕ → ℕ → ℕ → Type 0
StaysCleared d writes i s k = (j : ℕ) → s ≤ j → j ≤ k → (t : Sector) × (slice_get (crash_state d writes j) i ≡ Some t) × IsCleared t

-- What is so of write k since write s, by its kind: a fresh label comes over a sector that was cleared then and stayed so; a label without a
-- page comes after no fresh one.
abbrev pub IsAfterClearing : List Sector → List DiskWrite → ℕ → ℕ → DiskWrite → Type 0
IsAfterClearing d writes s k (Whole sector label page) = StaysCleared d writes sector s k
IsAfterClearing d writes s k (LabelOnly sector label) =
    (j i : ℕ) (fresh : Label) (page : List ℕ) → s ≤ j → j < k → slice_get writes j ≢ Some (Whole i fresh page)
IsAfterClearing d writes s k (Page sector wanted page) = Unit {0}
