use Rattle.std.proofs.Common.{rules, ◌≡◌, true, IfOk}
use Rattle.labelled_disk.specs.declared.evidence.Halt.TheVariants as halt
use Rattle.swapper_kernel.specs.declared.manager.Manager.TheVariants.{AllocationMap}
use Rattle.swapper_kernel.specs.Stands.{Stands}
use Rattle.alloc_map.specs.Runs.{IfMem}
use Rattle.filer_kernel.specs.Becomes.{Becomes}
use Rattle.filer_kernel.specs.Marks.{BitsAre, marked}
use Rattle.filer_kernel.proofs.Lent.{lent}
use Rattle.filer_kernel.proofs.Outcomes.{ok_wider, err_wider, mem_wider}
use Rattle.filer_kernel.proofs.MapLemmas.{stays_shown}
use Rattle.filer_kernel.proofs.MarkLemmas.{becomes_marked, bits_revealed}
use Rattle.filer_kernel.proofs.filer.Filer.take.Goals as goal

pub returns-clause-taken : goal.returns-clause-taken
returns-clause-taken g c = λ m marks stands bits.
    let x = c.args.self.now.swapper.layout in
    let revealed = bits_revealed c.requires.size m marks stands bits in
    let which = rw (c.over-map.ensures.memory, c.map_memory.ensures.which) at c.take-answer.ensures.kept.1 in
    let kept = rw (c.over-map.ensures.memory, c.map_memory.ensures.value, c.map_memory.ensures.which) at c.take-answer.ensures.kept.2 in
    lent (λ d s. IfOk c.take-answer.result (λ run. Becomes AllocationMap x m (BitsAre x (marked true run.0 run.1 marks)) d s)) _ (g.D.Disk.state c.take-answer.new.self.mem.swapper.now.disk) _ c.take-answer.new.self.mem.swapper.now.pool (search rules) (search rules)
    (ok_wider c.take-answer.result _ _ (λ run is. becomes_marked true which kept m marks stands bits run.0 run.1 is)
    (c.take-answer.ensures.taken bits.bytes (rw (c.over-map.ensures.memory, c.map_memory.ensures.value, c.map_memory.ensures.which) revealed)))

pub returns-clause-same : goal.returns-clause-same
returns-clause-same g c = λ m marks stands bits full.
    let revealed = bits_revealed c.requires.size m marks stands bits in
    let which = rw (c.over-map.ensures.memory, c.map_memory.ensures.which) at c.take-answer.ensures.kept.1 in
    let kept = rw (c.over-map.ensures.memory, c.map_memory.ensures.value, c.map_memory.ensures.which) at c.take-answer.ensures.kept.2 in
    lent (λ d s. Stands d s m) _ (g.D.Disk.state c.take-answer.new.self.mem.swapper.now.disk) _ c.take-answer.new.self.mem.swapper.now.pool (search rules) (search rules)
    (stays_shown which kept m stands bits.bytes bits.shows (c.take-answer.ensures.unchanged bits.bytes (rw (c.over-map.ensures.memory, c.map_memory.ensures.value, c.map_memory.ensures.which) revealed) full))

pub returns-clause-fails : goal.returns-clause-fails
returns-clause-fails g c = record {
  sound = λ m stands named.
      err_wider c.take-answer.result _ (IfMem (λ e. e ≡ halt.Disk)) (λ e is. mem_wider _ (λ h. h ≡ halt.Disk) (λ h acc. acc.sound m stands named) e is)
      (rw (c.over-map.ensures.memory, c.map_memory.ensures.value, c.map_memory.ensures.which) at c.take-answer.ensures.cause);
  cause = search rules;
}
