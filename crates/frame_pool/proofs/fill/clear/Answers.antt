use Rattle.std.proofs.Common.{◌<◌, ◌+◌, None, arith, rules}
use Rattle.std.specs.Prelude.{◌^◌}
use Rattle.frame_pool.proofs.PoolLemmas.{cleared_pool, found_pool, held_frame, with_frame}
use Rattle.frame_pool.proofs.RunLemmas.{runs_cleared}
use Rattle.frame_pool.proofs.fill.clear.Goals as goal

pub returns-in-Some-clause-pool : goal.returns-in-Some-clause-pool
returns-in-Some-clause-pool g c =
    let l0 = c.args.table.now in
    let frame = held_frame _ _ _ c.in-Some.ensures in
    rw (c.empty.ensures, c.exchange.ensures.kept.frames, c.unlink.ensures.kept.frames)
    (found_pool (with_frame l0 c.exchange.new.table c.args.slot None) (c.args.empties + 1) _
    (cleared_pool l0 c.unlink.new.table c.exchange.new.table c.args.slot c.args.empties frame.0 c.requires.pool c.requires.slot frame.1 c.unlink.ensures.kept
    c.unlink.ensures.unlinked
    c.exchange.ensures.kept c.exchange.ensures.order c.exchange.ensures.moved))

pub returns-in-Some-clause-runs : goal.returns-in-Some-clause-runs
returns-in-Some-clause-runs g c =
    let l0 = c.args.table.now in
    let time = c.args.time.now in
    let later = c.saturating_add.result in
    let is = c.saturating_add.ensures in
    let fits : time < 2 ^ 32 = search rules in
    rw (c.empty.ensures, c.exchange.ensures.kept.founds, c.unlink.ensures.kept.founds)
    (runs_cleared l0.frames _ l0.founds time later c.args.slot (omega (arith, is, fits)) (λ low. omega (arith, is, low)) c.requires.runs)
