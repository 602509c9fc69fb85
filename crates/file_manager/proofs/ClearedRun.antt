-- A run of sectors that may be cleared before they get labels.
use Rattle.std.proofs.Common.{◌≡◌, ℕ, ◌+◌, ◌*◌, ◌≤◌, List, [], ◌∙◌, arith}
use Rattle.std.proofs.Math.Nat.{mul-le-mul_left}
use Rattle.labelled_disk.specs.declared.disk.DiskWrite.{DiskWrite}
use Rattle.labelled_disk.specs.declared.evidence.Halt.{Halt}
use Rattle.labelled_disk.specs.Sectors.{Sector}
use Rattle.labelled_disk.specs.State.{DiskState}
use Rattle.labelled_disk.specs.WriteRuns.{after_writes}
use Rattle.frame_pool.specs.Frames.{Slots}
use Rattle.swapper_kernel.specs.Goes.{Makes, Pages, this_page}
use Rattle.swapper_kernel.specs.GoesLaws.{goes_wider, makes_wider}
use Rattle.swapper_kernel.specs.Halts.{HasCause}
use Rattle.swapper_kernel.specs.Homes.{IsLayout}
use Rattle.label_calls.specs.ClearedLaws.{after_sync_then, labels_after_sync, quiet_after_sync, wrote_after_sync}
use Rattle.label_calls.specs.Clearing.{NamedCleared, RelabelsCleared}
use Rattle.label_calls.specs.Fails.{FailsBy}
use Rattle.label_calls.specs.Labels.{Labels, free_ones}
use Rattle.label_calls.specs.Runs.{IsOneTaken, NamedSome, RelabelsOnes}
use Rattle.label_calls.specs.Synced.{LabelsAfterSync}
use Rattle.filer_kernel.specs.Fails.{Fails}
use Rattle.filer_kernel.specs.View.{View}
use Rattle.session_words.specs.Volume.{volume_page}
use Rattle.file_manager.proofs.Faults.{counted}
use Rattle.file_manager.proofs.SoLemmas.{so_of_taken}

-- labels without zeros before them
pub as_cleared : {sector pages : ℕ} {run : List DiskWrite} {a b : DiskState} {s : Slots} → RelabelsOnes (λ k. free_ones) sector pages run a s b → RelabelsCleared sector pages run a s b
as_cleared {run = run} made = record {
  were = made.were;
  makes = makes_wider (this_page 0 0) (λ id page none. absurd none) made.relabels.makes;
  goes = λ free. goes_wider (λ m n. n ≡ after_writes run m) (λ m n. n ≡ after_writes run m) (this_page 0 0) (λ m n is. is) (λ id page none. absurd none) (made.relabels.goes free);
}

-- or the first of them
pub as_named : {place : ℕ → ℕ} {labels : ℕ → Labels} {run : List DiskWrite} {a b : DiskState} {s : Slots} → NamedSome place labels run a s b → NamedCleared place labels run a s b
as_named some = record { count = some.count; within = some.within; makes = makes_wider (this_page 0 0) (λ id page none. absurd none) some.makes; found = some.found }

-- a label that wasn't free
pub label_fails : {v w : View} {e : Halt} {right : List Sector → Type 0} (sector pages : ℕ) → IsLayout v.layout → v.disk.sectors ≡ v.layout.sectors → w.disk.sectors ≡ v.disk.sectors → v.layout.first ≤ sector → sector + pages ≤ v.layout.sectors
    → FailsBy right (IsOneTaken sector pages) v.disk v.slots w.disk e → Fails (HasCause (IsOneTaken sector pages v.disk) v.disk w.disk) v w e
label_fails {v = v} {w = w} {e = e} sector pages is size same from to fails = record {
  cause = fails.cause;
  counted = counted (IsOneTaken sector pages v.disk) v.disk.faults v.disk w.disk e (omega arith) fails.cause;
  evidence_seen = so_of_taken v.layout w.disk is (same ∙ size) sector pages from to v.disk w.disk e fails.evidence_seen;
}

-- zeros of free sectors are among what any call may write
pub volume_makes : {run : List DiskWrite} {a b : DiskState} {s t : Slots} → Makes (this_page 0 0) run a s b t → Makes volume_page run a s b t
volume_makes made = makes_wider volume_page (λ id page own. let free = own.0 in omega (arith, free)) made

-- a run is taken, labelled, and added
pub run_cleared : {pages more last : Pages} {run : List DiskWrite} {a b c d : DiskState} {s t u v w x : Slots} → Makes pages [] a s b t → Makes more run b u c v → LabelsAfterSync b c → Makes last [] c w d x → LabelsAfterSync a d
run_cleared taken made cleared added = labels_after_sync (after_sync_then (quiet_after_sync taken) (after_sync_then (wrote_after_sync made cleared) (quiet_after_sync added)))

-- ---- What it costs, at so many transfers a label.

pub run_costs : (t0 t1 t2 t3 n p most v : ℕ) → p ≤ most → t1 ≤ t0 + 8 * v → t2 ≤ t1 + n * p → t3 ≤ t2 + 98 → (t3 ≤ t0 + (8 * v + n * most + 98)) × (t3 ≤ t0 + (8 * v + n * p + 98))
run_costs t0 t1 t2 t3 n p most v few first second third = let more = mul-le-mul_left n few in (omega (arith, first, second, third, more), omega (arith, first, second, third))
