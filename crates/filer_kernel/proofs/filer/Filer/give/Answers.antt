use Rattle.std.proofs.Common.{rules, ◌≡◌, false, OnOk}
use Rattle.labelled_disk.specs.declared.evidence.Halt.TheVariants as halt
use Rattle.swapper_kernel.specs.declared.manager.Manager.TheVariants.{AllocationMap}
use Rattle.filer_kernel.specs.Becomes.{Becomes}
use Rattle.filer_kernel.specs.Marks.{BitsAre, marked}
use Rattle.filer_kernel.proofs.Lent.{lent}
use Rattle.filer_kernel.proofs.Outcomes.{on_ok_wider, err_wider}
use Rattle.filer_kernel.proofs.MarkLemmas.{becomes_marked, bits_revealed}
use Rattle.filer_kernel.proofs.filer.Filer.give.Goals as goal

pub returns-clause-sound : goal.returns-clause-sound
returns-clause-sound g c = λ m stands named.
    err_wider c.give.result _ (λ e. e ≡ halt.Disk) (λ e is. is.sound m stands named)
    (rw (c.over-map.ensures.memory, c.map_memory.ensures.value, c.map_memory.ensures.which) at c.give.ensures.cause)

pub returns-clause-given : goal.returns-clause-given
returns-clause-given g c = λ m marks stands bits.
    let x = c.args.self.now.swapper.layout in
    let revealed = bits_revealed c.requires.size m marks stands bits in
    let which = rw (c.over-map.ensures.memory, c.map_memory.ensures.which) at c.give.ensures.kept.1 in
    let kept = rw (c.over-map.ensures.memory, c.map_memory.ensures.value, c.map_memory.ensures.which) at c.give.ensures.kept.2 in
    lent (λ d s. OnOk c.give.result (Becomes AllocationMap x m (BitsAre x (marked false c.args.sector c.args.pages marks)) d s)) _ (g.D.Disk.state c.give.new.self.mem.swapper.now.disk) _ c.give.new.self.mem.swapper.now.pool (search rules) (search rules)
    (on_ok_wider c.give.result _ _ (becomes_marked false which kept m marks stands bits c.args.sector c.args.pages)
    (c.give.ensures.given bits.bytes (rw (c.over-map.ensures.memory, c.map_memory.ensures.value, c.map_memory.ensures.which) revealed)))
