-- What evidence of damage says of a disk, whatever was asked for and why.
use Rattle.std.specs.Prelude.{◌≡◌, ◌⊎◌, ◌<◌, ◌≤◌, ℕ, false}
use Rattle.labelled_disk.specs.declared.label.Label.{Label}
use Rattle.labelled_disk.specs.declared.label.Wanted.{Wanted}
use Rattle.labelled_disk.specs.declared.evidence.Evidence.{Evidence}
use Rattle.labelled_disk.specs.declared.evidence.Evidence.TheVariants.{Mismatch, Malformed, Missing}
use Rattle.labelled_disk.specs.Structure.{IsOfFileMap, IsOfTables}
use Rattle.labelled_disk.specs.declared.evidence.Halt.{Halt}
use Rattle.labelled_disk.specs.declared.evidence.Halt.TheVariants.{Disk, Damaged}
use Rattle.labelled_disk.specs.Label.{is_free, names}
use Rattle.labelled_disk.specs.Layout.{layout_of}
use Rattle.labelled_disk.specs.State.{DiskState, HasLabel}
use Rattle.swapper_kernel.specs.Homes.{IsPlaced, home_at}

-- where a free sector is wanted the label isn't free; elsewhere it doesn't name the wanted page
abbrev pub IsUnwanted : Label → Wanted → Type 0
IsUnwanted found wanted = ((wanted ≡ record { id = 0; page = 0 }) × (is_free found ≡ false)) ⊎ (names found wanted ≡ false)

-- The layout of a disk of so many sectors lets the wanted page be in this one: for a page of a map it is the one home that the
-- page has, and for each other page, as where a free sector is wanted, it is a data sector.
abbrev pub MayBeIn : ℕ → ℕ → Wanted → Type 0
MayBeIn sectors sector wanted = IsPlaced (layout_of sectors) (home_at sector wanted)

-- a page that may be reported as missing: one of the 96 of the space tables, or any of an identifier that a client's file may have
abbrev pub MayBeMissing : ℕ → ℕ → Type 0
MayBeMissing id page = ((id ≡ 3) × (page < 96)) ⊎ (16 ≤ id)

-- The disk has that label in that sector, where the layout lets the wanted page be, and it is not the wanted one; or the window
-- is that of the file map or of the space tables, whatever the page; or the page may be reported as missing. Why the page was asked
-- for is said by the cause of the call.
abbrev pub IsEvident : DiskState → Evidence → Type 0
IsEvident disk (Mismatch sector wanted found) = HasLabel disk sector found × IsUnwanted found wanted × MayBeIn disk.sectors sector wanted
IsEvident disk (Malformed structure page) = IsOfFileMap structure ⊎ IsOfTables structure
IsEvident disk (Missing id page) = MayBeMissing id page

-- a halt of a call that left the disk so: the disk failed, or what the evidence says is so
abbrev pub ShowsEvidence : DiskState → Halt → Type 0
ShowsEvidence disk Disk = Unit {0}
ShowsEvidence disk (Damaged evidence) = IsEvident disk evidence
