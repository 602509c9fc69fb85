use Rattle.std.proofs.Common.{rules, OnOk, false, ◌+◌}
use Rattle.alloc_map.specs.Bits.{RevealsMarked}
use Rattle.swapper_kernel.specs.declared.manager.Manager.TheVariants.{AllocationMap}
use Rattle.swapper_kernel.specs.Window.{Reveals}
use Rattle.swapper_callers.specs.Lent.{lent}
use Rattle.swapper_callers.proofs.book.BookOver.give.Goals as goal

pub returns-clause-given : goal.returns-clause-given
returns-clause-given g c = λ b h.
    let mem = c.give.new.self.mem in
    lent (λ w d s x. OnOk c.give.result (RevealsMarked false (Reveals w d s x) b c.args.sector (c.args.sector + c.args.pages))) AllocationMap mem.which _ (g.D.Disk.state mem.swapper.now.disk) _ mem.swapper.now.pool _ mem.swapper.now.layout
    (search rules) (search rules) (search rules) (search rules) (c.give.ensures.given b (rw (c.over-map.ensures.memory, c.map_memory.ensures.value, c.map_memory.ensures.which) h))
