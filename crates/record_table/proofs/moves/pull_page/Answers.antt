use Rattle.std.proofs.Common.{◌+◌, ◌*◌, ◌/◌, ◌≤◌, length, arith}
use Rattle.std.proofs.lemmas.Result.{on_ok_weaker}
use Rattle.flat_mem.specs.Memory.{overwritten}
use Rattle.record_table.specs.Table.{per_page}
use Rattle.record_table.proofs.Places.{per_page_some}
use Rattle.record_table.proofs.PageMoves.{moves_down, page_fits}
use Rattle.record_table.proofs.moves.pull_page.Goals as goal

pub returns-clause-moved : goal.returns-clause-moved
returns-clause-moved g c = λ b h.
    let e = g.row.E in
    let fits : 512 * (c.args.at / per_page e) + 512 ≤ length b =
    rw (g.met.M.FlatMem.revealed_length c.args.mem.now b h) (page_fits (per_page e) c.args.at _ (per_page_some e c.requires.some c.requires.most) c.requires.inside) in
    on_ok_weaker c.write_page.result
    (λ (revealed : g.M.FlatMem.reveals c.write_page.new.mem (overwritten b (512 * (c.args.at / per_page e)) c.pull.new.page)).
    moves_down e c.requires.some c.requires.most b c.pull.new.page c.args.carried.now c.pull.new.carried c.args.at (g.M.FlatMem.reveals c.write_page.new.mem) c.pull.array_long fits revealed
    (rw (← c.in_ok-read_page.ensures.read b h) c.pull.ensures.pulled))
    (c.write_page.ensures.written b (c.read_page.ensures.unchanged b h))

pub returns-clause-kept : goal.returns-clause-kept
returns-clause-kept g c = g.met.M.FlatMem.beside_through _ _ _ c.read_page.ensures.kept c.write_page.ensures.kept

pub returns-clause-cost : goal.returns-clause-cost
returns-clause-cost g c = omega (arith, c.read_page.ensures.cost, c.write_page.ensures.cost)

pub returns-in_err-read_page-clause-cost : goal.returns-in_err-read_page-clause-cost
returns-in_err-read_page-clause-cost g c = omega (arith, c.read_page.ensures.cost)
