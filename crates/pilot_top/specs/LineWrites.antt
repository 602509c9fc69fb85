-- What the start of a run may write, and each line.
use Rattle.std.specs.Prelude.{◌≡◌, ◌⊎◌, ℕ, ◌<◌, List, Option, Some, None, slice_get}
use Rattle.labelled_disk.specs.declared.disk.DiskWrite.{DiskWrite}
use Rattle.labelled_disk.specs.declared.disk.DiskWrite.TheVariants.{Whole, LabelOnly, Page}
use Rattle.labelled_disk.specs.CrashState.{crash_state}
use Rattle.labelled_disk.specs.Sectors.{Sector}
use Rattle.labelled_disk.specs.State.{DiskState}
use Rattle.flat_machine.specs.declared.call.Call.TheVariants.{Close, Halt}
use Rattle.flat_machine.specs.After.{TraceLine}
use Rattle.session_words.specs.Volume.{volume_page}
use Rattle.volume_root.specs.declared.root.Root.{Root}
use Rattle.file_manager.specs.Creating.{counted, next_id}
use Rattle.pilot_engine.specs.Writing.{CallMay}

-- a start: the root, labels of the space tables, and pages of the volume's own
abbrev pub StartMay : DiskWrite → Type 0
StartMay (Whole sector label page) = (sector ≡ 0) ⊎ (label.id ≡ 3)
StartMay (LabelOnly sector label) = ⊥
StartMay (Page sector wanted page) = volume_page wanted.id wanted.page

-- a line: a bad one and a `halt` write nothing, and a `close` is the end; a call writes what it may on a volume with some root
abbrev pub LineMay : TraceLine → List Sector → DiskWrite → Type 0
LineMay None d w = ⊥
LineMay (Some Halt) d w = ⊥
LineMay (Some Close) d w = Unit {0}
LineMay (Some c) d w = (root : Root) × CallMay (next_id root) (counted root) c d w

-- there is such a line, and it may write this
abbrev pub IsOfLine : Option TraceLine → List Sector → DiskWrite → Type 0
IsOfLine (Some line) d w = LineMay line d w
IsOfLine None d w = ⊥

-- Each write that was made at one of the first k lines, on a disk that reveals them, is one that this line may make; or one of a start, which
-- come first.
abbrev pub AreOfLines : List TraceLine → ℕ → List DiskWrite → (ℕ → ℕ) → DiskState → Type 0
AreOfLines lines k writes place old = (d : List Sector) (made : List DiskWrite) (i : ℕ) (w : DiskWrite) → old.contents ≡ Some d → old.writes ≡ Some made → place i < k
    → slice_get writes i ≡ Some w → IsOfLine (slice_get lines (place i)) (crash_state d writes i) w ⊎ ((place i ≡ 0) × StartMay w)
