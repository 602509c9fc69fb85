use Rattle.std.proofs.Common.{rules, IfOk}
use Rattle.alloc_map.specs.Runs.{RevealsTaken}
use Rattle.swapper_kernel.specs.declared.manager.Manager.TheVariants.{AllocationMap}
use Rattle.swapper_kernel.specs.Window.{Reveals}
use Rattle.swapper_callers.specs.Lent.{lent}
use Rattle.swapper_callers.proofs.book.BookOver.take.Goals as goal

pub returns-clause-taken : goal.returns-clause-taken
returns-clause-taken g c = λ b h.
    let mem = c.take.new.self.mem in
    lent (λ w d s x. IfOk c.take.result (RevealsTaken (Reveals w d s x) b)) AllocationMap mem.which _ (g.D.Disk.state mem.swapper.now.disk) _ mem.swapper.now.pool _ mem.swapper.now.layout
    (search rules) (search rules) (search rules) (search rules) (c.take.ensures.taken b (rw (c.over-map.ensures.memory, c.map_memory.ensures.value, c.map_memory.ensures.which) h))
