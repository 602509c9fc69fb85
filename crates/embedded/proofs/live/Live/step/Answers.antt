use Rattle.std.proofs.Common.{◌∙◌, sym, ap}
use Rattle.labelled_disk.specs.declared.layout.Layout.{Layout}
use Rattle.embedded.proofs.live.Live.step.Goals as goal
use Rattle.filer_kernel.specs.FailsLaws.{counted_in, evidence_seen_in}

pub returns : goal.returns
returns g c = record {
  carried = λ m r. (c.step.ensures.machine m r).answers.carried;
  sound = λ m r. (c.step.ensures.machine m r).answers.sound;
  passes = λ m r. (c.step.ensures.machine m r).answers.passes;
  forced = λ m waits free r. (c.step.ensures.machine m r).forced waits free;
  counted = (counted_in _ _ _ c.step.result c.step.ensures.halts.fails);
  evidence_seen = (evidence_seen_in _ _ _ c.step.result c.step.ensures.halts.fails);
  goes_on = c.step.ensures.remains.goes_on;
  later = record { sectors = c.step.ensures.writes.wrote.makes.went.sectors; faults = c.step.ensures.writes.wrote.makes.went.faults };
  cost = λ m r. (c.step.ensures.machine m r).answers.cost;
  few = c.step.ensures.reference;
}
