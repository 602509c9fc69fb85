-- The disk that the queue of a run is, and what lies beneath it.
use Rattle.std.specs.Prelude.{◌≡◌, ℕ, ◌+◌, ◌*◌, ◌≤◌, true, List, ◌∷◌, Option, None, Result, Err}
use Rattle.labelled_disk.specs.declared.disk.Disk.{Ghosts}
use Rattle.labelled_disk.specs.declared.disk.DiskError.{DiskError}
use Rattle.labelled_disk.specs.declared.disk.DiskError.TheVariants as error
use Rattle.labelled_disk.specs.declared.label.Label.{Label}
use Rattle.labelled_disk.specs.declared.label.Wanted.{Wanted}
use Rattle.labelled_disk.specs.Calls.{Rose}
use Rattle.labelled_disk.specs.State.{DiskState, HasLabel}
use Rattle.write_queue.specs.declared.run_queue.RunQueue.{RunQueue}
use Rattle.write_queue.specs.Queue.{state_of}
use Rattle.write_queue.specs.Stopping.{has_stopped, stopping}

module _ {D A : Type 0} {G : Ghosts D} where
  -- the disk that it is
  abbrev pub run_state : RunQueue D A G → DiskState
  run_state q = stopping q.queue.begun q.before q.queue.no_sync (state_of q.queue)

  -- the disk beneath
  abbrev pub held_by : RunQueue D A G → D
  held_by q = q.queue.beneath

  -- the label that was met and had changed
  abbrev pub changed_by : RunQueue D A G → Option (ℕ × Wanted × Label)
  changed_by q = q.queue.changed

  -- once a syncing failed a call fails, and nothing comes of it
  abbrev pub StaysStopped : {T : Type 0} → RunQueue D A G → Result T DiskError → RunQueue D A G → Type 0
  StaysStopped old result new = has_stopped old.queue ≡ true → (result ≡ Err error.Failed) × (new ≡ old)

-- A queue that was made over a disk: it is as that disk is, no sector was moved, and it is known by the counts that stood then.
pub record Starts (under queue : DiskState) : Type 0 where
  pub sectors : queue.sectors ≡ under.sectors
  pub contents : queue.contents ≡ under.contents
  pub transfers : queue.transfers ≡ 0
  pub faults : queue.faults ≡ under.faults
  pub synced : queue.synced ≡ under.synced
  pub lent : queue.lent ≡ under.transfers ∷ under.faults ∷ under.lent

-- What lies beneath a queue that was made over a disk of so many transfers and faults and these names: two sectors were moved for each of
-- its calls that names one, and one more, at most; and a fault of the queue is one beneath, unless a label had changed.
pub record IsOf (begun before : ℕ) (names : List ℕ) (queue : DiskState) (changed : Option (ℕ × Wanted × Label)) (under : DiskState) : Type 0 where
  pub lent : under.lent ≡ names
  pub moved : under.transfers ≤ begun + 2 * queue.transfers + 1
  pub fault : changed ≡ None → Rose before queue.faults → Rose before under.faults

-- What lies beneath: the labels are those of the queue; and where that is synced, nothing waits, and all stands on the medium.
pub record LiesBeneath (queue : DiskState) (changed : Option (ℕ × Wanted × Label)) (under : DiskState) : Type 0 where
  pub sectors : under.sectors ≡ queue.sectors
  pub labels : (k : ℕ) (l : Label) → HasLabel queue k l → HasLabel under k l
  pub unrevealed : queue.contents ≡ None → under.contents ≡ None
  pub synced : queue.synced ≡ true → (under.contents ≡ queue.contents) × (under.synced ≡ true)
  pub from : (begun before : ℕ) (names : List ℕ) → queue.lent ≡ begun ∷ before ∷ names → IsOf begun before names queue changed under
