use Rattle.std.proofs.Common.{inl, inr, ℕ, ◌+◌, ◌-◌, ◌*◌, ◌^◌, ◌<◌, ◌≤◌, length, arith}
use Rattle.std.proofs.lemmas.Bool.{cases_lt}
use Rattle.write_queue.specs.View.{Covers}
use Rattle.write_queue.proofs.queue.QueueOver.moved_beneath.Goals as goal

-- a count beneath that fits is paid for even where the queue's counts stand at their end
paid_for : (begun calls no_sync beneath waiting : ℕ) → beneath < 2 ^ 64 → Covers 0 begun calls no_sync beneath waiting → beneath ≤ begun + 2 * calls + no_sync
paid_for begun calls no_sync beneath waiting few paid = elim (cases_lt (calls + no_sync) (2 ^ 64 - 1)) [ inl low ↦ (let covered = paid low in omega (arith, covered)) | inr high ↦ omega (arith, few, high) ]

pub returns-clause-paid : goal.returns-clause-paid
returns-clause-paid g c =
    let self = c.args.self.now in
    record {
      moved = paid_for self.begun self.transfers self.no_sync (g.D.Disk.state self.beneath).transfers (length self.entries.items) (g.met.D.Disk.few_transfers self.beneath) self.paid;
      waiting = self.paid;
    }
