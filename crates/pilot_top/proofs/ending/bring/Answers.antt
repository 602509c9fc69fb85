use Rattle.std.proofs.Common.{inl, inr, ap, Some, refl}
use Rattle.labelled_disk.specs.declared.evidence.Halt.TheVariants as halt
use Rattle.pilot_top.specs.declared.status.Status.{Status}
use Rattle.pilot_top.proofs.ShownLemmas.{on_change, on_disk, on_ends, some_of}
use Rattle.pilot_top.proofs.ending.bring.Goals as goal

pub returns-in-Err-clause-disk_fault : goal.returns-in-Err-clause-disk_fault
returns-in-Err-clause-disk_fault g c failed =
    let stopped = on_disk (g.D.RunDisk.shown c.rest.new.self) halt.Disk c.stop_on.result c.stop_on.ensures.status _ _ _ (some_of failed) c.stop_on.ensures.line in
    (stopped.0, c.in-Err.ensures.same.fails.cause, stopped.2)

pub returns-in-Err-clause-changed : goal.returns-in-Err-clause-changed
returns-in-Err-clause-changed g c damaged =
    on_change (g.D.RunDisk.shown c.rest.new.self) halt.Disk c.stop_on.result c.stop_on.ensures.status _ _ _ refl (some_of damaged) c.stop_on.ensures.line

pub returns-in-Err-clause-ends : goal.returns-in-Err-clause-ends
returns-in-Err-clause-ends g c = elim (on_ends (g.D.RunDisk.shown c.rest.new.self) halt.Disk c.stop_on.result c.stop_on.ensures.status) [
  | inl disk ↦ inr (inl (ap (λ (s : Status). Some s) disk))
  | inr damaged ↦ inr (inr (ap (λ (s : Status). Some s) damaged))
]
