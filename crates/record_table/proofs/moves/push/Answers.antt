use Rattle.std.proofs.Common.{◌≡◌, ◌-◌, ◌*◌, ℕ, arith, ◌∙◌, ap}
use Rattle.flat_mem.specs.Memory.{part}
use Rattle.record_table.specs.Table.{per_page}
use Rattle.record_table.proofs.Slots.{is_pushed, room_for}
use Rattle.record_table.proofs.moves.push.Goals as goal

pub returns-clause-pushed : goal.returns-clause-pushed
returns-clause-pushed g c =
    let e = g.row.E in
    let width : (e * per_page e) - ((e * per_page e) - e) ≡ e = omega (arith, room_for e c.args.slot c.requires.inside) in
    let taken : c.copy_from_slice.new.self ≡ part c.args.page.now (e * per_page e - e) e = c.copy_from_slice.ensures.after ∙ ap (λ (n : ℕ). part c.args.page.now (e * per_page e - e) n) width in
    rw (c.put-2.ensures, c.put.ensures) (is_pushed e c.args.slot c.args.page.now c.args.carried.now c.told-page c.told-carried c.requires.inside c.copy_from_slice.new.self taken)
