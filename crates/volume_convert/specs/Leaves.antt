-- What a conversion leaves of an old volume, what it reveals, and what stands in each crash state of it.
use Rattle.std.specs.Prelude.{◌≡◌, ◌⊎◌, ℕ, ◌+◌, ◌-◌, ◌≤◌, List, ◌++◌, length, Some}
use Rattle.labelled_disk.specs.declared.disk.DiskWrite.{DiskWrite}
use Rattle.labelled_disk.specs.Calls.{RevealsSame}
use Rattle.labelled_disk.specs.Sectors.{Sector}
use Rattle.labelled_disk.specs.State.{DiskState}
use Rattle.labelled_disk.specs.Layout.{first_data}
use Rattle.labelled_disk.specs.CrashState.{crash_state}
use Rattle.labelled_disk.specs.WriteRuns.{Appended}
use Rattle.volume_root.specs.Format.{PartMade}
use Rattle.label_laws.specs.Counts.{total_pages}
use Rattle.old_files.specs.OldFiles.{files_old}
use Rattle.convert_laws.specs.Converted.{Conversion, convert_writes}
pub use Rattle.convert_laws.specs.Conversions.{IsFor, IsConvertedTo, IsOldOrConverted}
pub use Rattle.convert_laws.specs.Orders.{old_unneeded}
use Rattle.volume_convert.specs.declared.converting.Converted.{Converted}

-- how many files and pages there are, and how many sectors are freed
pub record IsRevealed (d : List Sector) (revealed : Converted) : Type 0 where
  pub files : revealed.files ≡ length (files_old d)
  pub pages : revealed.pages ≡ total_pages (files_old d)
  pub freed : revealed.freed ≡ length (old_unneeded d)

-- the disk revealed its sectors, and reveals those of their conversion
abbrev pub IsConverted : DiskState → DiskState → Type 0
IsConverted old new = (d : List Sector) → old.contents ≡ Some d
    → (h : List Sector) × (new.contents ≡ Some h) × IsConvertedTo d h

-- all writes of the conversion were made
abbrev pub AreMade : DiskState → DiskState → Type 0
AreMade old new = (d : List Sector) → old.contents ≡ Some d
    → (c : Conversion) × IsFor d c × Appended (convert_writes c) old new

-- none was made, or some first ones
abbrev pub ArePartMade : DiskState → DiskState → Type 0
ArePartMade old new = (d : List Sector) → old.contents ≡ Some d
    → RevealsSame old new ⊎ ((c : Conversion) × IsFor d c × PartMade (convert_writes c) old new)

-- after each write that was made since, the disk is old or converted
abbrev pub StaysConvertible : DiskState → DiskState → Type 0
StaysConvertible old new = (d : List Sector) (before writes : List DiskWrite) → old.contents ≡ Some d
    → old.writes ≡ Some before
    → new.writes ≡ Some (before ++ writes) → (k : ℕ) → IsOldOrConverted d (crash_state d writes k)

-- one for the root, one for each data sector, one for each freed sector, one for each file, one for each map sector,
-- one for the root
abbrev pub most_transfers : List Sector → ℕ
most_transfers d = 1 + (length d - first_data (length d)) + length (old_unneeded d) + length (files_old d) +
    (first_data (length d) - 1) + 1

-- so many sectors moved at most
abbrev pub CostsAtMost : DiskState → DiskState → Type 0
CostsAtMost old new = (d : List Sector) → old.contents ≡ Some d → new.transfers ≤ old.transfers + most_transfers d
