use Rattle.std.proofs.Common.{◌+◌, rules, refl, OnOk}
use Rattle.record_table.specs.Edits.{IsInserted}
use Rattle.record_table.specs.Table.{RevealsEntries, entries}
use Rattle.swapper_kernel.specs.declared.manager.Manager.TheVariants.{FileMap}
use Rattle.swapper_kernel.specs.Window.{Reveals}
use Rattle.swapper_callers.specs.Lent.{lent}
use Rattle.swapper_callers.proofs.InsertLemmas.{inserted_at}
use Rattle.swapper_callers.proofs.book.BookOver.add.Goals as goal

pub returns-clause-inserted : goal.returns-clause-inserted
returns-clause-inserted g c = λ b h.
    let count = c.args.self.now.count in
    let xs = entries 24 b count in
    let mem = c.insert-answer.new.self.mem in
    let old = c.over-table.result.mem in
    let lists : RevealsEntries 24 (Reveals old.which (g.D.Disk.state old.swapper.now.disk) old.swapper.now.pool old.swapper.now.layout) c.over-table.result.count xs =
    record { bytes = b; revealed = rw (c.over-table.ensures.memory, c.map_memory.ensures.value, c.map_memory.ensures.which) h; are = rw c.over-table.ensures.count refl } in
    lent (λ w d s x. OnOk c.insert-answer.result (IsInserted 12 (RevealsEntries 24 (Reveals w d s x) (count + 1)) xs c.args.entry.now)) FileMap mem.which _ (g.D.Disk.state mem.swapper.now.disk) _ mem.swapper.now.pool _ mem.swapper.now.layout
    (search rules) (search rules) (search rules) (search rules)
    (inserted_at c.insert-answer.result c.insert-answer.new.self.count count (Reveals mem.which (g.D.Disk.state mem.swapper.now.disk) mem.swapper.now.pool mem.swapper.now.layout) xs c.args.entry.now (search rules) (c.insert-answer.ensures.inserted xs lists))
