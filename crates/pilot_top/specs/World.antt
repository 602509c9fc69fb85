-- Disk, source and sink, as a command finds them and as it leaves them.
use Rattle.std.specs.Prelude.{◌≡◌, ℕ, List, Option, Some}
use Rattle.std.specs.Io.KnownBytes.{Appends}
use Rattle.labelled_disk.specs.Calls.{OnlyReads, Rose}
use Rattle.labelled_disk.specs.Sectors.{Sector}
use Rattle.labelled_disk.specs.State.{DiskState}
use Rattle.trace_io.specs.Stream.{IsPrefixOf}
use Rattle.pilot_top.specs.Last.{last_line, Puts}
use Rattle.pilot_top.specs.declared.last.Cause.{Cause}

-- The disk; the bytes that the source has left, and those that the sink took, where they reveal them; and how often source and
-- sink failed.
pub record World : Type 0 where
  pub disk : DiskState
  pub left : Option (List ℕ)
  pub source_faults : ℕ
  pub took : Option (List ℕ)
  pub sink_faults : ℕ

abbrev pub world : DiskState → Option (List ℕ) → ℕ → Option (List ℕ) → ℕ → World
world disk left source_faults took sink_faults = record { disk = disk; left = left; source_faults = source_faults; took = took; sink_faults = sink_faults }

-- the disk holds these sectors; the source has these bytes left; the sink took these
abbrev pub Holds : World → List Sector → Type 0
Holds w sectors = w.disk.contents ≡ Some sectors

abbrev pub Gives : World → List ℕ → Type 0
Gives w bytes = w.left ≡ Some bytes

abbrev pub Took : World → List ℕ → Type 0
Took w bytes = w.took ≡ Some bytes

-- the disk failed in this time; the source; the sink
abbrev pub DiskFailed : World → World → Type 0
DiskFailed before after = Rose before.disk.faults after.disk.faults

abbrev pub SourceFailed : World → World → Type 0
SourceFailed before after = Rose before.source_faults after.source_faults

abbrev pub SinkFailed : World → World → Type 0
SinkFailed before after = Rose before.sink_faults after.sink_faults

-- nothing was written to the disk
abbrev pub StaysUnwritten : World → World → Type 0
StaysUnwritten before after = OnlyReads before.disk after.disk

-- the sink took the text; a prefix of it; or the line that says why the command stopped, or, as it failed, a prefix of that
abbrev pub Writes : World → World → List ℕ → Type 0
Writes before after text = Appends before.took after.took text

abbrev pub WritesPrefix : World → World → List ℕ → Type 0
WritesPrefix before after text = (prefix : List ℕ) × IsPrefixOf prefix text × Appends before.took after.took prefix

abbrev pub WritesLast : World → World → Cause → Type 0
WritesLast before after why = Puts (SinkFailed before after) before.took after.took (last_line why)
