use Rattle.std.proofs.Common.{rules, ◌∙◌, sym, arith, ◌≡◌, Err, Ok}
use Rattle.write_queue.specs.Queue.{view_of}
use Rattle.write_queue.proofs.BeneathLemmas.{emptied, emptied_then}
use Rattle.write_queue.proofs.CrashStateLemmas.{crash_states_emptied}
use Rattle.write_queue.proofs.WaitLemmas.{are_kept, labels_same, sweeps_long}
use Rattle.write_queue.proofs.disk.QueueOverDisk.sync.Goals as goal

pub invariant_of-self-2 : goal.invariant_of-self-2
invariant_of-self-2 g c =
    let self = c.args.self.now in
    let left = c.empty.new.self in
    let old = g.D.Disk.state left.beneath in
    let new = g.D.Disk.state c.sync.new.self in
    let swept = c.in_ok-empty.ensures.swept in
    let long = sweeps_long self.head self.entries.items swept.swept left.entries.items swept.sweeps in
    record {
      waiting = are_kept old new left.entries.items c.sync.ensures.sectors (labels_same old new c.sync.ensures.same) left.waiting;
      listed = left.listed;
      filtered = left.filtered;
      freed = left.freed;
      fits = left.fits;
      room_kept = left.room_kept;
      rooms = left.rooms;
      unchanged = λ d is. left.unchanged d (sym c.sync.ensures.same.contents ∙ is);
      counted = left.counted;
      differs = left.differs;
      few_transfers = left.few_transfers;
      paid = λ below. omega (arith, self.paid (omega (arith, below, c.empty.ensures.same.transfers)), long, swept.all.2, c.sync.ensures.transfers, c.empty.ensures.same.begun, c.empty.ensures.same.transfers);
    }

pub returns-in_err-empty-clause-beneath : goal.returns-in_err-empty-clause-beneath
returns-in_err-empty-clause-beneath g c =
    let same : c.from_residual.result ≡ Err c.in_err-empty.field-0.0 = search rules in
    rw same (emptied (view_of c.args.self.now) (Err c.in_err-empty.field-0.0) (view_of c.empty.new.self) c.in_err-empty.ensures.swept c.in_err-empty.ensures.met)

pub returns-in_err-sync-clause-beneath : goal.returns-in_err-sync-clause-beneath
returns-in_err-sync-clause-beneath g c =
    let same : c.from_residual-in_err-sync.result ≡ Err c.in_err-sync.field-0.0 = search rules in
    rw same (emptied_then (view_of c.args.self.now) (view_of c.empty.new.self) c.in_ok-empty.field-0 (g.D.Disk.state c.sync.new.self) (Err c.in_err-sync.field-0.0)
    (emptied (view_of c.args.self.now) _ (view_of c.empty.new.self) c.in_ok-empty.ensures.swept c.in_ok-empty.ensures.met) c.sync.ensures.same)

pub returns-clause-beneath : goal.returns-clause-beneath
returns-clause-beneath g c =
    emptied_then (view_of c.args.self.now) (view_of c.empty.new.self) c.in_ok-empty.field-0 (g.D.Disk.state c.sync.new.self) (Ok tt)
    (emptied (view_of c.args.self.now) _ (view_of c.empty.new.self) c.in_ok-empty.ensures.swept c.in_ok-empty.ensures.met) c.sync.ensures.same

pub returns-in_err-empty-clause-crash_states : goal.returns-in_err-empty-clause-crash_states
returns-in_err-empty-clause-crash_states g c = crash_states_emptied (view_of c.args.self.now) _ _ (returns-in_err-empty-clause-beneath g c)

pub returns-in_err-sync-clause-crash_states : goal.returns-in_err-sync-clause-crash_states
returns-in_err-sync-clause-crash_states g c = crash_states_emptied (view_of c.args.self.now) _ _ (returns-in_err-sync-clause-beneath g c)

pub returns-clause-crash_states : goal.returns-clause-crash_states
returns-clause-crash_states g c = crash_states_emptied (view_of c.args.self.now) _ _ (returns-clause-beneath g c)
