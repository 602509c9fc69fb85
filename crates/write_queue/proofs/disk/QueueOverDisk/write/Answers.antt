use Rattle.std.proofs.Common.{rules, ◌≡◌, Err}
use Rattle.labelled_disk.specs.declared.disk.DiskWrite.TheVariants as write
use Rattle.labelled_disk.specs.Calls.{Moved}
use Rattle.write_queue.specs.Queue.{view_of}
use Rattle.write_queue.proofs.BeneathLemmas.{emptied, passed, passed_none}
use Rattle.write_queue.proofs.CrashStateLemmas.{crash_states_passed}
use Rattle.write_queue.proofs.QueueLemmas.{writes_swept}
use Rattle.write_queue.proofs.disk.QueueOverDisk.write.Goals as goal

pub returns-clause-writes : goal.returns-clause-writes
returns-clause-writes g c =
    let self = c.args.self.now in
    let left = c.empty.new.self in
    let moved : Moved self.transfers left.transfers = record { later = search rules; by_one = search rules } in
    writes_swept (g.D.Disk.state self.beneath) (g.D.Disk.state left.beneath) (g.D.Disk.state c.write.new.self) self.entries.items left.entries.items self.transfers self.own left.transfers left.own
    (write.Whole c.args.sector c.args.label.now c.args.page.now) c.write.result c.in_ok-empty.ensures.swept.all.0 c.empty.ensures.revealed c.empty.ensures.swept.sectors c.empty.ensures.swept.lent moved c.empty.ensures.later c.write.ensures

pub returns-in_err-empty-clause-beneath : goal.returns-in_err-empty-clause-beneath
returns-in_err-empty-clause-beneath g c =
    let same : c.from_residual.result ≡ Err c.in_err-empty.field-0.0 = search rules in
    let left = view_of c.empty.new.self in
    rw same (passed_none (write.Whole c.args.sector c.args.label.now c.args.page.now) (view_of c.args.self.now) left c.in_err-empty.field-0.0
    (emptied (view_of c.args.self.now) (Err c.in_err-empty.field-0.0) left c.in_err-empty.ensures.swept c.in_err-empty.ensures.met))

pub returns-clause-beneath : goal.returns-clause-beneath
returns-clause-beneath g c =
    let left = view_of c.empty.new.self in
    passed (write.Whole c.args.sector c.args.label.now c.args.page.now) (view_of c.args.self.now) left c.in_ok-empty.field-0 (g.D.Disk.state c.write.new.self) c.write.result
    (emptied (view_of c.args.self.now) _ left c.in_ok-empty.ensures.swept c.in_ok-empty.ensures.met) c.write.ensures

pub returns-in_err-empty-clause-crash_states : goal.returns-in_err-empty-clause-crash_states
returns-in_err-empty-clause-crash_states g c = crash_states_passed (write.Whole c.args.sector c.args.label.now c.args.page.now) (view_of c.args.self.now) _ _ (returns-in_err-empty-clause-beneath g c)

pub returns-clause-crash_states : goal.returns-clause-crash_states
returns-clause-crash_states g c = crash_states_passed (write.Whole c.args.sector c.args.label.now c.args.page.now) (view_of c.args.self.now) c.write.result _ (returns-clause-beneath g c)
