-- Where the power goes: what a run has waited for.
use Rattle.std.specs.Prelude.{◌≡◌, ℕ, ◌+◌, ◌<◌, ◌≤◌, false, List, length, map, Some, slice_get}
use Rattle.labelled_disk.specs.declared.disk.DiskWrite.{DiskWrite}
use Rattle.labelled_disk.specs.File.{File, byte}
use Rattle.labelled_disk.specs.FilesOn.{disk_file}
use Rattle.labelled_disk.specs.Sectors.{Sector}
use Rattle.labelled_disk.specs.State.{DiskState}
use Rattle.swapper_kernel.specs.SyncLaws.{HasSync}
use Rattle.flat_machine.specs.After.{TraceLine, after}
use Rattle.flat_machine.specs.Machine.{Machine}
use Rattle.cut_laws.specs.Cut.{IsCut}
use Rattle.cut_laws.specs.Honest.{IsBetweenSyncs}
use Rattle.pilot_top.specs.CrashStates.{IsBy, staged, steps_of}
use Rattle.pilot_top.specs.Headline.{LeadsTo}
use Rattle.pilot_top.specs.OnePlace.{CutsHaveFiles, ForcesIfThere}
use Rattle.pilot_top.specs.Waiting.{IsAnsweredAt, WaitsAt}

-- at each place after line j, up to k lines and i steps, the page has these forced bytes, if the file is settled: none of these lines
-- stored there, gave the page up or took it from the file
abbrev pub IsForcedFrom : Machine → List TraceLine → ℕ → ℕ → ℕ → ℕ → ℕ → List ℕ → Type 0
IsForcedFrom m lines j k i id page bytes = (l g : ℕ) → j < l → IsBy l g k i → g ≤ steps_of (after m lines l) (slice_get lines l)
    → ForcesIfThere id page bytes (staged m lines l g)

-- A run answered k lines, and line j of them waits: it was answered when n of the writes were made, the disk was synced then, and each cut
-- since that sync or a later one has in a page of a file the bytes that are forced from that line up to the place of the cut.
abbrev pub WaitedForLasts : Type 0
WaitedForLasts = (m : Machine) (lines : List TraceLine) (d : List Sector) (old new : DiskState) (k i j : ℕ) (made : List DiskWrite)
    → (leads : LeadsTo m lines old new k i) → IsBy k i (length lines) 0 → CutsHaveFiles m lines d old new → old.contents ≡ Some d
    → old.writes ≡ Some made → j < k → WaitsAt m lines j
    → (n : ℕ) × (n ≤ length leads.1.writes) × IsAnsweredAt leads.1.line j n × HasSync new (length made + n)
    × ((syncs : List ℕ) (s l : ℕ) (e : List Sector) → new.syncs ≡ Some syncs → n ≤ s → l ≤ length leads.1.writes
    → IsBetweenSyncs syncs (length made + s) (length made + l) → IsCut d leads.1.writes s l e
    → (id page : ℕ) (f : File) (bytes : List ℕ) → disk_file false e id ≡ Some f
    → IsForcedFrom m lines j (leads.1.line l) (leads.1.step l) id page bytes → slice_get f.pages page ≡ Some (map byte bytes))
