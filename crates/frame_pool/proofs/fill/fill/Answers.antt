use Rattle.std.proofs.Common.{◌≡◌, ◌+◌, ◌-◌, Some, arith}
use Rattle.frame_pool.specs.Frames.{new_frame}
use Rattle.frame_pool.specs.Pool.{IsPool}
use Rattle.frame_pool.proofs.PoolLemmas.{filled_pool, found_pool, with_frame}
use Rattle.frame_pool.proofs.RunLemmas.{runs_filled}
use Rattle.frame_pool.proofs.fill.fill.Goals as goal

pub returns-clause-pool : goal.returns-clause-pool
returns-clause-pool g c =
    let l0 = c.args.table.now in
    let place = c.args.empties - 1 in
    let frame = new_frame c.args.home c.args.bytes.now in
    let low = c.requires.pool.first_empties.placed c.args.slot c.requires.slot c.requires.empty in
    let one_less : place + 1 ≡ c.args.empties = omega (arith, low) in
    let pool : IsPool l0 (place + 1) = rw one_less c.requires.pool in
    rw (c.fill.ensures.value, c.exchange.ensures.kept.frames, c.link.ensures.kept.frames)
    (found_pool (with_frame l0 c.exchange.new.table c.args.slot (Some frame)) place _
    (filled_pool l0 c.link.new.table c.exchange.new.table c.args.slot place frame pool c.requires.slot c.requires.empty c.requires.nowhere c.fill.ensures.page c.link.ensures.kept
    (λ at puts. c.link.ensures.linked at (rw (c.bucket_of-bucket.ensures.value, c.len.ensures) puts))
    c.exchange.ensures.kept c.exchange.ensures.order c.exchange.ensures.moved))

pub returns-clause-runs : goal.returns-clause-runs
returns-clause-runs g c time runs =
    let l0 = c.args.table.now in
    rw (c.fill.ensures.value, c.exchange.ensures.kept.frames, c.exchange.ensures.kept.founds, c.link.ensures.kept.frames, c.link.ensures.kept.founds)
    (runs_filled l0.frames l0.founds time c.args.slot (new_frame c.args.home c.args.bytes.now) c.requires.slot c.requires.empty runs)
