-- Which writes change which permanent files there are, or their marks.
use Rattle.std.specs.Prelude.{◌≡◌, ◌⊎◌, ℕ, true, false, List}
use Rattle.labelled_disk.specs.declared.disk.DiskWrite.{DiskWrite}
use Rattle.labelled_disk.specs.declared.disk.DiskWrite.TheVariants.{LabelOnly}
use Rattle.labelled_disk.specs.CrashState.{written}
use Rattle.labelled_disk.specs.FilesOn.{leader_among, leads_file}
use Rattle.labelled_disk.specs.Label.{leader_page}
use Rattle.labelled_disk.specs.Layout.{data_sectors}
use Rattle.labelled_disk.specs.Permitted.{Permitted}
use Rattle.labelled_disk.specs.Sectors.{Sector, free_label}
use Rattle.labelled_disk.specs.WriteLaws.{HasData}

-- the permanent file has the same leader as before, or none as before
abbrev pub KeepsLeader : ℕ → List Sector → DiskWrite → Type 0
KeepsLeader id now write =
    leader_among false (data_sectors (written write now)) id ≡ leader_among false (data_sectors now) id

-- a label without its page is written over that of a leader: the permanent file's, which goes, or one by which the permanent
-- file has a leader
abbrev pub WritesLeader : ℕ → List Sector → DiskWrite → Type 0
WritesLeader id now (LabelOnly sector label) = (s : Sector) × HasData now sector s × (s.0.page ≡ leader_page)
    × (((label ≡ free_label) × (leads_file false id s ≡ true)) ⊎ (leads_file false id (label, s.1) ≡ true))
WritesLeader id now other = ⊥

-- no other permitted write changes a leader
abbrev pub LeadersChangeByLabels : Type 0
LeadersChangeByLabels = (now : List Sector) (write : DiskWrite) (id : ℕ) → Permitted now write
    → KeepsLeader id now write ⊎ WritesLeader id now write
