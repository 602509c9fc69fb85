-- What a disk is and reveals.
use Rattle.std.specs.Prelude.{◌≡◌, ℕ, Bool, List, ◌∷◌, slice_get, Option, Some, option_map}
use Rattle.labelled_disk.specs.declared.label.Label.{Label}
use Rattle.labelled_disk.specs.declared.label.Wanted.{Wanted}
use Rattle.labelled_disk.specs.declared.disk.DiskWrite.{DiskWrite}
use Rattle.labelled_disk.specs.Label.{names}
use Rattle.labelled_disk.specs.Sectors.{Sector}

-- How many sectors a disk has, what it holds, which writes were made on it since it was made and how many of them had
-- been made each time that it was settled, as far as it reveals, how many sectors were moved, how often it failed, whether
-- all writes are on the medium, and the ghost names of the references through which it is lent, the outermost first.
pub record DiskState : Type 0 where
  pub sectors : ℕ
  pub contents : Option (List Sector)
  pub writes : Option (List DiskWrite)
  pub syncs : Option (List ℕ)
  pub transfers : ℕ
  pub faults : ℕ
  pub synced : Bool
  pub lent : List ℕ

-- the same disk, through a reference with this ghost name
abbrev pub lent_state : ℕ → DiskState → DiskState
lent_state name disk = record {
  sectors = disk.sectors;
  contents = disk.contents;
  writes = disk.writes;
  syncs = disk.syncs;
  transfers = disk.transfers;
  faults = disk.faults;
  synced = disk.synced;
  lent = name ∷ disk.lent;
}

-- where the contents are revealed, this sector stands there
abbrev pub Holds : DiskState → ℕ → Sector → Type 0
Holds disk sector found = (d : List Sector) → disk.contents ≡ Some d → slice_get d sector ≡ Some found

-- where the contents are revealed, the sector there has this label
abbrev pub HasLabel : DiskState → ℕ → Label → Type 0
HasLabel disk sector label = (d : List Sector) → disk.contents ≡ Some d → option_map (λ s. s.0) (slice_get d sector) ≡ Some label

-- where the contents are revealed, whether the label there names the wanted page
abbrev pub NamesThere : DiskState → ℕ → Wanted → Bool → Type 0
NamesThere disk sector wanted answer = (d : List Sector) → disk.contents ≡ Some d → option_map (λ s. names s.0 wanted) (slice_get d sector) ≡ Some answer
