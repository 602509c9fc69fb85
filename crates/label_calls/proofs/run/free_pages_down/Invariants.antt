use Rattle.std.proofs.Common.{false, ◌+◌, ◌-◌}
use Rattle.labelled_disk.specs.declared.disk.DiskWrite.TheVariants as write
use Rattle.labelled_disk.specs.Sectors.{free_label}
use Rattle.label_calls.specs.Labels.{ones_of}
use Rattle.label_calls.specs.Runs.{AreUncovered}
use Rattle.label_calls.specs.Synced.{SyncsAround}
use Rattle.label_calls.proofs.RunLemmas.{IsSoFar}
use Rattle.label_calls.proofs.run.free_pages_down.Given as goal

abbrev pub invariant-loop-k : goal.invariant-loop-k
invariant-loop-k g l =
    IsSoFar (λ k. l.fn.sector + (l.fn.pages - (k + 1))) (λ k. write.LabelOnly (l.fn.sector + (l.fn.pages - (k + 1))) free_label) (λ k. ones_of (record { id = l.fn.id; page = l.fn.page + (l.fn.pages - (k + 1)) })) (AreUncovered l.fn.memory.pool l.fn.sector l.fn.pages)
    (g.D.Disk.state l.fn.memory.disk) l.fn.memory.pool l.fn.memory.layout (g.D.Disk.state l.memory.disk) l.memory.pool l.memory.layout l.k × SyncsAround false (g.D.Disk.state l.fn.memory.disk) (g.D.Disk.state l.memory.disk)
