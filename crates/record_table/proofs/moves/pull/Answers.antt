use Rattle.std.proofs.Common.{◌≡◌, ◌+◌, ◌-◌, ◌*◌, ℕ, arith, ◌∙◌, ap}
use Rattle.flat_mem.specs.Memory.{part}
use Rattle.record_table.proofs.Slots.{is_pulled}
use Rattle.record_table.proofs.moves.pull.Goals as goal

pub returns-clause-pulled : goal.returns-clause-pulled
returns-clause-pulled g c =
    let e = g.row.E in
    let width : (e * c.args.slot + e) - e * c.args.slot ≡ e = omega arith in
    let taken : c.copy_from_slice.new.self ≡ part c.args.page.now (e * c.args.slot) e = c.copy_from_slice.ensures.after ∙ ap (λ (n : ℕ). part c.args.page.now (e * c.args.slot) n) width in
    rw (c.put-2.ensures, c.put.ensures) (is_pulled e c.args.slot c.args.page.now c.args.carried.now c.told-page c.told-carried c.requires.inside c.copy_from_slice.new.self taken)
