-- A queue that stops at the first syncing that fails.
use Rattle.std.specs.Prelude.{◌≡◌, ℕ, ◌-◌, ◌^◌, ◌≤◌, nat_lt, if◌then◌else◌, Bool, true, ◌∷◌}
use Rattle.labelled_disk.specs.declared.disk.Disk.{Ghosts}
use Rattle.labelled_disk.specs.Calls.{Rose}
use Rattle.labelled_disk.specs.State.{DiskState}
use Rattle.write_queue.specs.declared.queue.QueueOver.{QueueOver}
use Rattle.write_queue.specs.Queue.{state_of}

-- The disk that it is, where so many syncings failed: the queue, whose faults stand at their last value once one has. It is
-- known by two numbers more, how many sectors were moved beneath, and how many faults there were, when it was made.
abbrev pub stopping : ℕ → ℕ → ℕ → DiskState → DiskState
stopping begun before failed queue = record queue {
  faults = if nat_lt 0 failed then 2 ^ 64 - 1 else queue.faults;
  lent = begun ∷ before ∷ queue.lent;
}

module _ {D A : Type 0} {G : Ghosts D} where
  -- a syncing failed
  abbrev pub has_stopped : QueueOver D A G → Bool
  has_stopped q = nat_lt 0 q.no_sync

  -- no fault was counted less than when it was made
  abbrev pub IsLow : ℕ → QueueOver D A G → Type 0
  IsLow before q = before ≤ (state_of q).faults

  -- a syncing that failed comes with a fault
  abbrev pub IsStoppedByFault : ℕ → QueueOver D A G → Type 0
  IsStoppedByFault before q = has_stopped q ≡ true → Rose before (state_of q).faults

  -- one failed at most
  abbrev pub FailedOnce : QueueOver D A G → Type 0
  FailedOnce q = q.no_sync ≤ 1
