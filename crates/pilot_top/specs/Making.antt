-- What the making of a volume writes.
use Rattle.std.specs.Prelude.{◌≡◌, ◌↔◌, ◌⊎◌, ℕ, ◌++◌, List, Some, true, codes}
use Rattle.std.specs.Fmt.{decimal}
use Rattle.cut_words.specs.Between.{EachCutFromFirstSync}
use Rattle.labelled_disk.specs.declared.layout.RootFault.TheVariants as fault
use Rattle.labelled_disk.specs.Calls.{OnlyReads}
use Rattle.labelled_disk.specs.Layout.{IsCount, capacity}
use Rattle.labelled_disk.specs.Sectors.{Sector}
use Rattle.labelled_disk.specs.State.{DiskState}
use Rattle.labelled_disk.specs.WriteRuns.{Appended}
use Rattle.volume_root.specs.Format.{IsNoneOrNew, PartMade, format_writes}
use Rattle.volume_root.specs.FormatLaws.{IsEmptyVolume}
use Rattle.pilot_top.specs.Last.{last_line}
use Rattle.pilot_top.specs.World.{World, DiskFailed, SinkFailed, Writes, WritesPrefix, WritesLast}
use Rattle.pilot_top.specs.declared.last.Cause.TheVariants as cause
use Rattle.pilot_top.specs.declared.status.Status.{Status}
use Rattle.pilot_top.specs.declared.status.Status.TheVariants as status

-- the line about a new volume of n sectors
abbrev pub made_line : ℕ → List ℕ
made_line n = codes "formatted " ++ decimal (capacity n) ++ codes "\n"

-- a new volume was made: a sound one without a file, whatever the disk held; and all of it is on the medium
pub record IsMade (serial counter : ℕ) (old new : DiskState) : Type 0 where
  pub empty : (d e : List Sector) → old.contents ≡ Some d → new.contents ≡ Some e → IsEmptyVolume old.sectors serial counter e
  pub writes : Appended (format_writes old.sectors serial counter) old new
  pub synced : new.synced ≡ true

-- A count of sectors that no volume has is refused, and nothing else: the line names the count, and nothing was written. `puts` says of a line
-- that it was written.
pub record RefusesCount (s : Status) (old new : DiskState) (puts : List ℕ → Type 0) : Type 0 where
  pub not_opened : s ≡ status.NotOpened ↔ ¬ IsCount old.sectors
  pub line : s ≡ status.NotOpened → puts (last_line (cause.Root (fault.BadCount old.sectors)))
  pub unwritten : s ≡ status.NotOpened → OnlyReads old new

-- A `format` ended with this status, and left disk and sink so: a new volume, whatever the disk held, and a line about it.
pub record Formatted (serial counter : ℕ) (s : Status) (before after : World) : Type 0 where
  pub made : (s ≡ status.Done) ⊎ (s ≡ status.StreamFault) → IsMade serial counter before.disk after.disk
  pub line : s ≡ status.Done → Writes before after (made_line before.disk.sectors)
  pub part_of_line : s ≡ status.StreamFault → WritesPrefix before after (made_line before.disk.sectors)
  pub part : s ≡ status.DiskFault → PartMade (format_writes before.disk.sectors serial counter) before.disk after.disk × WritesLast before after cause.DiskFault
  -- Where the power goes, once its first write is on the medium: no root that is accepted, or the new volume.
  pub cuts : EachCutFromFirstSync (λ d e. IsNoneOrNew before.disk.sectors serial counter e) before.disk after.disk
  -- It does all its work where nothing failed, and refuses a count of sectors alone.
  pub complete : IsCount before.disk.sectors → ¬ DiskFailed before after → ¬ SinkFailed before after → (s ≡ status.Done) ⊎ (s ≡ status.NoMemory)
  pub only_count : s ≡ status.NotOpened → ¬ IsCount before.disk.sectors
