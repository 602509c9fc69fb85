use Rattle.std.proofs.Common.{◌∙◌, rules}
use Rattle.file_manager.proofs.SoLemmas.{so_of_run}
use Rattle.file_manager.proofs.shrinking.free_labels_down.Goals as goal
use Rattle.filer_kernel.specs.View.{accepted, view_of}

pub returns-in-Err-clause-sound : goal.returns-in-Err-clause-sound
returns-in-Err-clause-sound g c = λ m stands free ones. (rw c.swapper_over-swapper.ensures.value at c.in-Err.ensures.fails).sound m stands (free, ones)

pub returns-in-Err-clause-fails : goal.returns-in-Err-clause-fails
returns-in-Err-clause-fails g c = let fails = rw c.swapper_over-swapper.ensures.value at c.in-Err.ensures.fails in record {
  cause = fails.cause;
  counted = search rules;
  evidence_seen =
      let new = g.D.Disk.state c.free_pages_down.new.memory.disk in
      let size = (rw c.swapper_over-swapper.ensures.value at c.in-Err.ensures.stopped).makes.went.sectors ∙ c.requires.size in
      so_of_run (view_of c.args.filer.now).layout new (accepted c.args.filer.now) size c.args.run c.requires.data c.requires.form (view_of c.args.filer.now).disk new c.in-Err.halt fails.evidence_seen;
}

pub returns-in-Ok-clause-writes : goal.returns-in-Ok-clause-writes
returns-in-Ok-clause-writes g c = let made = rw c.swapper_over-swapper.ensures.value at c.in-Ok.ensures.freed in (made.relabels, made.were)

pub returns-in-Err-clause-writes : goal.returns-in-Err-clause-writes
returns-in-Err-clause-writes g c = let some = rw c.swapper_over-swapper.ensures.value at c.in-Err.ensures.stopped in record { count = some.count; within = some.within; makes = some.makes }

pub returns-in-Ok-clause-own : goal.returns-in-Ok-clause-own
returns-in-Ok-clause-own g c = (rw c.swapper_over-swapper.ensures.value at c.free_pages_down.ensures.labels).own

pub returns-in-Err-clause-own : goal.returns-in-Err-clause-own
returns-in-Err-clause-own g c = (rw c.swapper_over-swapper.ensures.value at c.free_pages_down.ensures.labels).own
