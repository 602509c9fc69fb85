use Rattle.std.proofs.Common.{refl, arith}
use Rattle.swapper_kernel.specs.HaltLaws.{brings_same}
use Rattle.filer_kernel.specs.View.{accepted, View, view_of}
use Rattle.fault_core.proofs.RestLemmas.{few_dirty, write_back_reaches}
use Rattle.fault_core.proofs.range.flush_run.Goals as goal

pub returns-clause-sound : goal.returns-clause-sound
returns-clause-sound g c = λ m named b known. (rw c.swapper_over.ensures.value at c.flush.ensures.sound) m known.stands

pub returns-clause-reaches : goal.returns-clause-reaches
returns-clause-reaches g c =
    let now = c.flush.new.memory in
    let x : View = record { disk = g.D.Disk.state now.disk; slots = now.pool; layout = now.layout; runs = c.args.filer.now.runs } in
    write_back_reaches (view_of c.args.filer.now) x (accepted c.args.filer.now) (rw c.swapper_over.ensures.value at c.flush.ensures.swaps) (rw c.swapper_over.ensures.value at c.flush.ensures.run).frames (rw c.swapper_over.ensures.value at c.flush.ensures.layout) refl

pub returns-clause-came : goal.returns-clause-came
returns-clause-came g c = brings_same _ (rw c.swapper_over.ensures.value at c.flush.ensures.run).frames

pub returns-clause-cost : goal.returns-clause-cost
returns-clause-cost g c =
    let cost = (rw c.swapper_over.ensures.value at c.flush.ensures.cost) in
    let few = few_dirty c.args.id c.args.first c.args.pages (view_of c.args.filer.now).slots in
    omega (arith, cost, few)

pub returns-clause-frames : goal.returns-clause-frames
returns-clause-frames g c = rw c.swapper_over.ensures.value at c.flush.ensures.stay
