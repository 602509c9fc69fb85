use Rattle.std.proofs.Common.{◌*◌, ◌/◌, ◌≤◌, length, arith}
use Rattle.flat_mem.specs.Memory.{overwritten}
use Rattle.page_tree.specs.Page.{filled}
use Rattle.page_tree.specs.Broken.{Breaks}
use Rattle.page_tree.proofs.WayLaws.{from_memory}
use Rattle.page_tree.proofs.KeyUpdated.{pending_closed, ample_enough}
use Rattle.page_tree.proofs.underfull.rebalance_up.Goals as goal

pub returns-in-Ok-clause-rebalanced : goal.returns-in-Ok-clause-rebalanced
returns-in-Ok-clause-rebalanced g c = λ b h records pending.
    let size : 512 * (g.M.FlatMem.size c.args.mem.now / 512) ≤ length b = omega (arith, g.met.M.FlatMem.revealed_length c.args.mem.now b h) in (
      overwritten b (512 * c.args.at.now) c.args.page.now,
      c.in-Ok.ensures.written b h,
      pending_closed g.row.E g.row.K (g.M.FlatMem.size c.args.mem.now / 512) b records c.args.header.now.levels c.args.level c.args.path.now.pages c.args.path.now.index c.args.at.now c.args.page.now c.args.header.now.root c.args.header.now.free c.args.header.now.top pending
          c.requires.below.some (omega (arith, c.requires.below.lower)) size c.told-page (ample_enough g.row.E g.row.K c.args.level (filled c.args.page.now) c.args.header.now.levels (c.is_ample.ensures.ample c.if-is_ample.true)),
    )

pub returns-in-Err-clause-on : goal.returns-in-Err-clause-on
returns-in-Err-clause-on g c = λ root b d h rebalancing at_met. from_memory (Breaks g.row.E g.row.K (g.M.FlatMem.size c.args.mem.now / 512) b) c.in-Err.error c.in-Err.ensures.memory
