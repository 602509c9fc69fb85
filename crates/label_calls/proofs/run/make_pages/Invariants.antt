use Rattle.std.proofs.Common.{◌+◌}
use Rattle.labelled_disk.specs.declared.disk.DiskWrite.TheVariants as write
use Rattle.labelled_disk.specs.Runs.{zero_bytes}
use Rattle.labelled_disk.specs.Label.{page_label}
use Rattle.label_calls.specs.Labels.{free_ones}
use Rattle.label_calls.specs.Runs.{AreUncovered}
use Rattle.label_calls.proofs.RunLemmas.{IsSoFar}
use Rattle.label_calls.proofs.run.make_pages.Given as goal

abbrev pub invariant-loop-k : goal.invariant-loop-k
invariant-loop-k g l =
    IsSoFar (λ k. l.fn.sector + k) (λ k. write.Whole (l.fn.sector + k) (page_label l.fn.id l.fn.kind (l.fn.page + k)) zero_bytes) (λ k. free_ones) (AreUncovered l.fn.memory.pool l.fn.sector l.fn.pages)
    (g.D.Disk.state l.fn.memory.disk) l.fn.memory.pool l.fn.memory.layout (g.D.Disk.state l.memory.disk) l.memory.pool l.memory.layout l.k
