-- Calls of a run that wait until what they leave is on the medium.
use Rattle.std.specs.Prelude.{◌≡◌, ◌⊎◌, ℕ, ◌+◌, ◌<◌, ◌≤◌, true, List, length, slice_get, Some, None}
use Rattle.labelled_disk.specs.declared.disk.DiskWrite.{DiskWrite}
use Rattle.labelled_disk.specs.State.{DiskState}
use Rattle.swapper_kernel.specs.SyncLaws.{HasSync}
use Rattle.flat_machine.specs.declared.call.Call.TheVariants as call
use Rattle.flat_machine.specs.After.{TraceLine, after}
use Rattle.flat_machine.specs.Machine.{Machine}
use Rattle.flat_machine.specs.Refusal.{refusal}
use Rattle.pilot_engine.specs.Stepping.{waits}

-- `force`, `unmap`, `protect` to read-only, or `close`, that the machine does not refuse
abbrev pub WaitsLine : Machine → TraceLine → Type 0
WaitsLine m (Some c) = ((waits c ≡ true) ⊎ (c ≡ call.Close)) × (refusal m c ≡ None)
WaitsLine m None = ⊥

-- where it waits, all that was written is on the medium
abbrev pub IsBrought : Machine → TraceLine → DiskState → Type 0
IsBrought m line disk = WaitsLine m line → disk.synced ≡ true

-- line j is one that waits
abbrev pub WaitsAt : Machine → List TraceLine → ℕ → Type 0
WaitsAt m lines j = (line : TraceLine) × (slice_get lines j ≡ Some line) × WaitsLine (after m lines j) line

-- Line j was answered when n of the writes were made: the place of the crash state then is after that line, and the place of each one
-- before is at that line or an earlier one. So the first n writes were made in lines up to j, and all others in later ones.
abbrev pub IsAnsweredAt : (ℕ → ℕ) → ℕ → ℕ → Type 0
IsAnsweredAt place j n = (j < place n) × ((i : ℕ) → i < n → place i ≤ j)

-- Writes were made, each crash state at the place of such a line. Of the first k lines each that waits was waited for: the disk was
-- synced after all writes that were made when it was answered, and before any other.
abbrev pub HasWaited : Machine → List TraceLine → ℕ → List DiskWrite → (ℕ → ℕ) → DiskState → DiskState → Type 0
HasWaited m lines k writes place old new = (made : List DiskWrite) → old.writes ≡ Some made → (j : ℕ) → j < k → WaitsAt m lines j
    → (n : ℕ) × (n ≤ length writes) × IsAnsweredAt place j n × HasSync new (length made + n)
