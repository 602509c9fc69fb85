-- The parts of a run: its start, one for each line of the trace, and its end. And in which part the last of its writes is.
use Rattle.std.specs.Prelude.{◌≡◌, ◌≢◌, ◌⊎◌, ℕ, zero, suc, ◌≤◌, if◌then◌else◌, List, [], ◌++◌, length, flat_map, Option, Some, None, slice_get}
use Rattle.std.specs.List.{list_any}
use Rattle.labelled_disk.specs.declared.disk.DiskWrite.{DiskWrite}
use Rattle.labelled_disk.specs.declared.disk.DiskWrite.TheVariants.{Whole, LabelOnly, Page}
use Rattle.labelled_disk.specs.declared.evidence.Evidence.{Evidence}
use Rattle.labelled_disk.specs.CrashState.{crash_state}
use Rattle.labelled_disk.specs.Permitted.{Permitted}
use Rattle.labelled_disk.specs.Sectors.{Sector}
use Rattle.labelled_disk.specs.State.{DiskState}
use Rattle.labelled_disk.specs.WriteRuns.{Appended}
use Rattle.flat_machine.specs.declared.call.Reply.{Reply}
use Rattle.flat_machine.specs.After.{TraceLine}
use Rattle.flat_machine.specs.Text.{text}
use Rattle.trace_io.specs.Reading.{is_last, reading, whole_reading}
use Rattle.volume_root.specs.declared.root.Root.{Root}
use Rattle.volume_root.specs.RootPage.{root_in}
use Rattle.file_manager.specs.Creating.{IsMonotone, counted, next_id}
use Rattle.pilot_engine.specs.Writing.{Written}
use Rattle.pilot_top.specs.Headline.{HasWritten, Taken}
use Rattle.pilot_top.specs.Last.{last_line}
use Rattle.pilot_top.specs.LineWrites.{LineMay, StartMay}
use Rattle.pilot_top.specs.declared.last.Cause.TheVariants as cause
use Rattle.pilot_top.specs.declared.status.Status.{Status}
use Rattle.pilot_top.specs.declared.status.Status.TheVariants as status

-- What a part may write.

-- what comes next in a trace: a line, or its end
abbrev pub NextMay : Option TraceLine → List Sector → DiskWrite → Type 0
NextMay (Some line) d w = LineMay line d w
NextMay None d w = Unit {0}

-- part 0 is the start, part 1 the first line, and the part after the last line the end
abbrev pub PartMay : List TraceLine → ℕ → List Sector → DiskWrite → Type 0
PartMay lines zero d w = Permitted d w × StartMay w
PartMay lines (suc j) d w = Permitted d w × NextMay (slice_get lines j) d w

-- Which writes were made.

-- what a line wrote
abbrev pub LineWrote : TraceLine → DiskState → DiskState → Type 0
LineWrote line old new = Written (λ d w. Permitted d w × LineMay line d w) old new

-- So it is part by part: each write belongs to one, the parts never fall, and none is after this one.
pub record InParts (may : ℕ → List Sector → DiskWrite → Type 0) (last : ℕ) (old new : DiskState) : Type 0 where
  pub writes : List DiskWrite
  pub appended : Appended writes old new
  pub part : ℕ → ℕ
  pub rise : (j k : ℕ) → j ≤ k → part j ≤ part k
  pub by_last : (k : ℕ) → part k ≤ last
  pub each : (d : List Sector) (earlier : List DiskWrite) (k : ℕ) (w : DiskWrite) → old.contents ≡ Some d → old.writes ≡ Some earlier
      → slice_get writes k ≡ Some w → may (part k) (crash_state d writes k) w

-- Which roots were written.

-- a root that is written has this serial, and gives out this identifier next
abbrev pub RootMay : ℕ → ℕ → List Sector → DiskWrite → Type 0
RootMay serial n d (Whole sector label page) = sector ≡ 0 → ((root_in page).serial ≡ serial) × (next_id (root_in page) ≡ n)
RootMay serial n d (LabelOnly sector label) = Unit {0}
RootMay serial n d (Page sector wanted page) = Unit {0}

-- Each root that was written has the serial of the first of these; and it gives out next no identifier below the first one's next, nor below
-- that of a root that was written before it, nor above the last one's.
pub record RaisesRoot (first last : Root) (old new : DiskState) : Type 0 where
  pub roots : InParts (RootMay first.serial) (next_id last) old new
  pub from : (k : ℕ) → next_id first ≤ roots.part k

-- So it is of a line: the root of the volume is this one after it, where other lines may follow; else its counter was raised once at most.
pub record TurnsRoot (going : Type 0) (old now : Root) (before after : DiskState) : Type 0 where
  pub monotone : IsMonotone old now
  pub raises : going → RaisesRoot old now before after
  pub counts : RaisesRoot old (counted old) before after

-- Where a run stopped.

-- the last part of a run of all these lines: that of the line that ends the trace, or its end
abbrev pub last_part : List TraceLine → ℕ
last_part lines = if list_any is_last lines then length lines else suc (length lines)

-- nothing was taken of a source that has some bytes, so no session started
abbrev pub IsUntaken : List ℕ → Option (List ℕ) → Type 0
IsUntaken b left = (left ≡ Some b) × (b ≢ [])

-- A run whose source had the bytes b and whose sink the bytes t ended so: `wrote k` says that no write is after part k.
abbrev pub Stops : Status → List ℕ → Option (List ℕ) → List ℕ → Option (List ℕ) → Type 0 → (ℕ → Type 0) → Type 0
Stops status.Done b left t took failed wrote = wrote (last_part (reading b))
-- none is after the line that has no reply, or the end where there is no such line; and none after the start, where nothing was taken
Stops status.DiskFault b left t took failed wrote =
    (replies : List Reply) × HasWritten failed (t ++ flat_map text replies) took (last_line cause.DiskFault) × wrote (suc (length replies))
    × (IsUntaken b left → wrote 0)
Stops status.Damaged b left t took failed wrote =
    (replies : List Reply) × (e : Evidence) × HasWritten failed (t ++ flat_map text replies) took (last_line (cause.Damaged e)) × wrote (suc (length replies))
    × (IsUntaken b left → wrote 0)
-- none is after the lines that are whole in the bytes taken, or where nothing is left after all lines
Stops status.Long b left t took failed wrote = (taken : Taken b left) × wrote (length (whole_reading taken.bytes))
Stops status.StreamFault b left t took failed wrote =
    ((taken : Taken b left) × wrote (length (whole_reading taken.bytes))) ⊎ ((left ≡ Some []) × wrote (length (reading b)))
-- no session started
Stops other b left t took failed wrote = wrote 0
