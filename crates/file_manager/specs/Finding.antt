-- A file, as its leader and the file map reveal it.
use Rattle.std.specs.Prelude.{◌≡◌, ◌⊎◌, ℕ, ◌≤◌, ◌<◌, List, Option, Some, None}
use Rattle.labelled_disk.specs.declared.evidence.Evidence.{Evidence}
use Rattle.labelled_disk.specs.declared.evidence.Halt.{Halt}
use Rattle.labelled_disk.specs.declared.label.Label.{Label}
use Rattle.labelled_disk.specs.declared.layout.Layout.{Layout}
use Rattle.labelled_disk.specs.Label.{leader_page, is_permanent, is_immutable}
use Rattle.labelled_disk.specs.State.{DiskState}
use Rattle.frame_pool.specs.Frames.{Slots}
use Rattle.swapper_kernel.specs.Halts.{HasCause}
use Rattle.swapper_kernel.specs.Homes.{home_at}
use Rattle.file_map.specs.declared.run.Run.{Run}
use Rattle.filer_kernel.specs.Causes.{MapEvidence, IsRunHome}
use Rattle.label_calls.specs.Labels.{IsNotOf}
use Rattle.session_words.specs.Parts.{Shape, Shapes, IsTriple}
use Rattle.file_manager.specs.declared.finding.FoundFile.{FoundFile}

-- the shape of a file with this leader and so many pages
abbrev pub shape_of_leader : Label → ℕ → Shape
shape_of_leader leader pages = record { kind = leader.kind; permanent = is_permanent leader; immutable = is_immutable leader; size = pages }

-- the leader of the file stands in this sector, and label and pages reveal its shape; or there is no such file
abbrev pub IsFoundFile : List Label → Shapes → ℕ → Option FoundFile → Type 0
IsFoundFile labels shapes id (Some file) = IsTriple labels id leader_page file.sector × (shapes id ≡ Some (shape_of_leader file.leader file.pages))
IsFoundFile labels shapes id None = shapes id ≡ None

-- the evidence is the label of a data sector, which isn't that of the leader of this file, though a run that was kept, or a
-- record of the map, has it there
pub record IsNoLeader (layout : Layout) (kept : List Run) (id : ℕ) (disk : DiskState) (slots : Slots) (evidence : Evidence) : Type 0 where
  pub sector : ℕ
  pub is_data : layout.first ≤ sector
  pub inside : sector < layout.sectors
  pub other : IsNotOf sector (record { id = id; page = leader_page }) disk evidence
  pub by_run : IsRunHome layout disk slots kept (home_at sector (record { id = id; page = leader_page }))

-- the halt of a search of the map; or a data sector has another label than that of the leader
abbrev pub FileHalts : Layout → List Run → ℕ → DiskState → Slots → DiskState → Halt → Type 0
FileHalts layout kept id old before new halt = HasCause (λ evidence. MapEvidence layout old before evidence ⊎ IsNoLeader layout kept id old before evidence) old new halt
