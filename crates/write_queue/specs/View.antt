-- What a queue is to one who doesn't look into it.
use Rattle.std.specs.Prelude.{ℕ, ◌+◌, ◌-◌, ◌*◌, ◌^◌, ◌<◌, ◌≤◌, length, List, [], Option, None}
use Rattle.labelled_disk.specs.declared.label.Label.{Label}
use Rattle.labelled_disk.specs.declared.label.Wanted.{Wanted}
use Rattle.labelled_disk.specs.State.{DiskState}
use Rattle.write_queue.specs.declared.entry.Entry.{Entry}

-- The disk beneath, the pages that wait, how many may wait, the sector that was written out last, how many labels
-- were met that had changed, and the last of these.
pub record View : Type 0 where
  pub beneath : DiskState
  pub waiting : List Entry
  pub room : ℕ
  pub head : ℕ
  pub own : ℕ
  pub changed : Option (ℕ × Wanted × Label)

-- How many sectors had been moved beneath when the queue was made, how many calls named a sector since, and how many
-- calls of `sync` did not answer Ok.
pub record Tally : Type 0 where
  pub begun : ℕ
  pub transfers : ℕ
  pub no_sync : ℕ

-- an empty queue
abbrev pub new_view : DiskState → ℕ → View
new_view under room = record { beneath = under; waiting = []; room = room; head = 0; own = 0; changed = None }

-- no call yet
abbrev pub new_tally : DiskState → Tally
new_tally under = record { begun = under.transfers; transfers = 0; no_sync = 0 }

-- The sectors that were moved beneath, and the pages that wait, are paid for: twice by each call that names a sector,
-- and once by each syncing that did not answer Ok; so many are paid for beforehand. Nothing is said once the counts
-- stand at their end.
abbrev pub Covers : ℕ → ℕ → ℕ → ℕ → ℕ → ℕ → Type 0
Covers spare begun transfers no_sync beneath waiting =
    transfers + no_sync < 2 ^ 64 - 1 → beneath + waiting + spare ≤ begun + 2 * transfers + no_sync

-- The sectors that were moved beneath are at most two for each call that names a sector, and one for each syncing that
-- did not answer Ok. Until the counts stand at their end, the pages that wait are paid for as well.
pub record IsPaid (view : View) (tally : Tally) : Type 0 where
  pub moved : view.beneath.transfers ≤ tally.begun + 2 * tally.transfers + tally.no_sync
  pub waiting : Covers 0 tally.begun tally.transfers tally.no_sync view.beneath.transfers (length view.waiting)
