-- Where the power goes: what the files keep that no line of a trace names.
use Rattle.std.specs.Prelude.{◌≡◌, ◌<◌, ◌≤◌, ℕ, suc, false, List, length}
use Rattle.std.specs.List.{list_any}
use Rattle.labelled_disk.specs.declared.disk.DiskWrite.{DiskWrite}
use Rattle.labelled_disk.specs.CrashState.{crash_state}
use Rattle.labelled_disk.specs.Root.{root_page}
use Rattle.labelled_disk.specs.Sectors.{Sector}
use Rattle.labelled_disk.specs.State.{DiskState}
use Rattle.labelled_disk.specs.WriteRuns.{Appended}
use Rattle.flat_machine.specs.After.{TraceLine}
use Rattle.file_map.specs.FileMap.{Triples}
use Rattle.file_map.specs.InSectors.{MapNames}
use Rattle.volume_root.specs.RootPage.{root_in}
use Rattle.cut_laws.specs.Cut.{IsCut}
use Rattle.file_manager.specs.Creating.{next_id}
use Rattle.pilot_engine.specs.Sparing.{HasSameLabels, IsLasting}
use Rattle.pilot_top.specs.Parts.{InParts, PartMay}
use Rattle.pilot_top.specs.Sparing.{HasSameSectors, IsUnnamed, NoneUpTo, maps_file, stores}

-- Writes were made. Where the disk was synced after s of them and not since, when k were made, what stands there if the power goes is a cut e:
-- in each, the file has the labels that it had on these sectors: none is lost, and no other sector has one. It has its bytes too where no
-- line of the trace stores any; and where the file map was in form, and no line shows the file in a window.
pub record StaysInCuts (id : ℕ) (lines : List TraceLine) (d : List Sector) (old new : DiskState) : Type 0 where
  pub writes : List DiskWrite
  pub appended : Appended writes old new
  pub labels : (s k : ℕ) (e : List Sector) → IsCut d writes s k e → HasSameLabels id d e
  pub sectors : list_any stores lines ≡ false → (s k : ℕ) (e : List Sector) → IsCut d writes s k e → HasSameSectors id d e
  pub hidden : (named : Triples) → MapNames d named → list_any (maps_file id) lines ≡ false → (s k : ℕ) (e : List Sector) → IsCut d writes s k e
      → HasSameSectors id d e

-- A client's file, whose identifier was given out before the run. A part of the run begins after j of its writes; the file's leaders are all
-- permanent then, and none of the writes from there to the first k is of a line that names it. The disk was synced since, after s of them;
-- and e is a cut of those from s to k.
pub record IsCutSinceNamed (lines : List TraceLine) (d : List Sector) (writes : List DiskWrite) (part : ℕ → ℕ) (id j s k : ℕ) (e : List Sector) : Type 0 where
  pub client : 16 ≤ id
  pub given : id < next_id (root_in (root_page d))
  pub unnamed : IsUnnamed id lines part j k
  pub lasting : IsLasting id (crash_state d writes j)
  pub since : j ≤ s
  pub made : k ≤ length writes
  pub cut : IsCut d writes s k e

-- Each write belongs to a part of the run, and is one that this part may make. In each such cut the file has the labels that it had after the
-- first j writes. It has its bytes too where no line up to the cut stored any; and where the file map was in form at the start, and no line up
-- to the cut showed the file in a window.
pub record StaysSinceNamed (lines : List TraceLine) (d : List Sector) (old new : DiskState) : Type 0 where
  pub parts : InParts (PartMay lines) (suc (length lines)) old new
  pub labels : (id j s k : ℕ) (e : List Sector) → IsCutSinceNamed lines d parts.writes parts.part id j s k e → HasSameLabels id (crash_state d parts.writes j) e
  pub sectors : (id j s k : ℕ) (e : List Sector) → IsCutSinceNamed lines d parts.writes parts.part id j s k e
      → NoneUpTo stores lines parts.part k → HasSameSectors id (crash_state d parts.writes j) e
  pub hidden : (id j s k : ℕ) (e : List Sector) → IsCutSinceNamed lines d parts.writes parts.part id j s k e
      → (named : Triples) → MapNames d named → NoneUpTo (maps_file id) lines parts.part k → HasSameSectors id (crash_state d parts.writes j) e
