-- What a caller reads before a write that is permitted then.
use Rattle.std.specs.Prelude.{◌≡◌, ◌⊎◌, ℕ, ◌≤◌, true, List, length, replicate, Some}
use Rattle.labelled_disk.specs.declared.label.Label.{Label}
use Rattle.labelled_disk.specs.declared.disk.DiskWrite.TheVariants.{Whole, LabelOnly}
use Rattle.labelled_disk.specs.Calls.{RevealsSame}
use Rattle.labelled_disk.specs.Label.{is_free, is_file, leader_page, root_label}
use Rattle.labelled_disk.specs.Layout.{first_data}
use Rattle.labelled_disk.specs.Root.{IsRoot}
use Rattle.labelled_disk.specs.Sectors.{Sector, free_label}
use Rattle.labelled_disk.specs.State.{DiskState, Holds}
use Rattle.label_laws.specs.PermittedRuns.{PermittedThere}
use Rattle.label_laws.specs.Marks.{permanent_label, immutable_label}

-- revealed sectors are as many as the disk says, as on each disk
abbrev pub IsWholeDisk : DiskState → Type 0
IsWholeDisk disk = (d : List Sector) → disk.contents ≡ Some d → length d ≡ disk.sectors

-- this data sector was read
pub record WasRead (disk : DiskState) (sector : ℕ) (s : Sector) : Type 0 where
  pub whole : IsWholeDisk disk
  pub is_data : first_data disk.sectors ≤ sector
  pub holds : Holds disk sector s

pub record ThereLaws : Type 0 where
  pub root : (disk : DiskState) (page : List ℕ) → IsWholeDisk disk → IsRoot disk.sectors (Some (root_label, page))
      → PermittedThere disk (Whole 0 root_label page)
  pub fresh : (disk : DiskState) (sector : ℕ) (s : Sector) (label : Label) → WasRead disk sector s → is_free s.0 ≡ true → is_file label ≡ true → label.flags ≡ 0
      → PermittedThere disk (Whole sector label (replicate 512 0))
  pub freed : (disk : DiskState) (sector : ℕ) (s : Sector) → WasRead disk sector s → (s.0.id ≡ 3) ⊎ (16 ≤ s.0.id) → PermittedThere disk (LabelOnly sector free_label)
  pub permanent : (disk : DiskState) (sector : ℕ) (s : Sector) → WasRead disk sector s → 16 ≤ s.0.id → s.0.page ≡ leader_page → PermittedThere disk (LabelOnly sector (permanent_label s.0))
  pub immutable : (disk : DiskState) (sector : ℕ) (s : Sector) → WasRead disk sector s → 16 ≤ s.0.id → s.0.page ≡ leader_page → PermittedThere disk (LabelOnly sector (immutable_label s.0))
  pub still : (a b : DiskState) (sector : ℕ) (s : Sector) → RevealsSame a b → b.sectors ≡ a.sectors → WasRead a sector s → WasRead b sector s
