-- The one file that a permitted write may change, on any disk.
use Rattle.std.specs.Prelude.{◌≡◌, ◌≢◌, ℕ, Bool, List, [], ◌∷◌, slice_get}
use Rattle.std.specs.Option.{option_map_or}
use Rattle.labelled_disk.specs.declared.disk.DiskWrite.{DiskWrite}
use Rattle.labelled_disk.specs.declared.disk.DiskWrite.TheVariants.{Whole, LabelOnly, Page}
use Rattle.labelled_disk.specs.Sectors.{Sector}
use Rattle.labelled_disk.specs.CrashState.{crash_state, written}
use Rattle.labelled_disk.specs.FilesOn.{disk_file}
use Rattle.labelled_disk.specs.Permitted.{Permitted}
use Rattle.label_laws.specs.PermittedRuns.{ArePermitted}

-- the identifier of the sector that is written, before and after
abbrev pub id_of : List Sector → DiskWrite → ℕ
id_of d (Whole sector label page) = label.id
id_of d (LabelOnly sector label) = option_map_or (λ s. s.0.id) (slice_get d sector) 0
id_of d (Page sector wanted page) = wanted.id

-- a permitted write leaves all other files
abbrev pub OthersStay : Bool → Type 0
OthersStay with_temporary = (d : List Sector) (write : DiskWrite) (other : ℕ) → Permitted d write → other ≢ id_of d write → disk_file with_temporary (written write d) other ≡ disk_file with_temporary d other

-- none of these writes, each where those before it were made, is of this file
abbrev pub NoneOf : ℕ → List Sector → List DiskWrite → Type 0
NoneOf other d [] = Unit {0}
NoneOf other d (write ∷ writes) = (other ≢ id_of d write) × NoneOf other (written write d) writes

-- a file that no write is of stays, in each crash state
abbrev pub OthersStayInRuns : Bool → Type 0
OthersStayInRuns with_temporary = (d : List Sector) (writes : List DiskWrite) (other k : ℕ) → ArePermitted d writes → NoneOf other d writes
    → disk_file with_temporary (crash_state d writes k) other ≡ disk_file with_temporary d other
