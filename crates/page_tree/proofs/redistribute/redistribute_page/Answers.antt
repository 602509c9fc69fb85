use Rattle.std.proofs.Common.{ℕ, ◌+◌, ◌*◌, ◌/◌, ◌≤◌, [], length, get_or, arith, sym, subst}
use Rattle.flat_mem.specs.Memory.{overwritten}
use Rattle.page_tree.specs.Rebalance.{IsRebalance}
use Rattle.page_tree.proofs.Redistributed.{pair_joined, pair_shifted, stays}
use Rattle.page_tree.proofs.RebalancingLaws.{rebalancing_up}
use Rattle.page_tree.proofs.Calls.{works_as, works_on}
use Rattle.page_tree.proofs.redistribute.redistribute_page.Goals as goal

pub returns-in-Ok-give_page-clause-redistribute : goal.returns-in-Ok-give_page-clause-redistribute
returns-in-Ok-give_page-clause-redistribute g c = λ b h records levels paths index slot pair some.
    let pages = g.M.FlatMem.size c.args.mem.now / 512 in
    let size : 512 * (g.M.FlatMem.size c.args.mem.now / 512) ≤ length b = omega (arith, g.met.M.FlatMem.revealed_length c.args.mem.now b h) in
    let balanced = c.if-joined.ensures.balanced (g.M.FlatMem.size c.args.mem.now / 512) b records levels paths index c.args.pair.left c.args.pair.right slot c.args.header.now.root c.args.header.now.free c.args.header.now.top pair some in
    let given = c.in-Ok-give_page.ensures.given (overwritten b (512 * c.args.pair.left) c.balance-joined.new.left) (c.in-Ok.ensures.written b h) in
    let rebalance = pair_joined g.row.E g.row.K (g.M.FlatMem.size c.args.mem.now / 512) b records levels c.args.pair.level paths index c.args.pair.left c.args.pair.right slot c.args.left.now c.args.right.now c.args.key.now c.args.header.now.root c.args.header.now.free c.args.header.now.top pair some size
    c.balance-joined.new.left given.0 c.balance-joined.array_long given.1 balanced given.2 given.3 in
    record {
      now = overwritten (overwritten b (512 * c.args.pair.left) c.balance-joined.new.left) (512 * c.args.pair.right) given.0;
      revealed = given.4;
      rebalance = subst (λ (q : ℕ). IsRebalance g.row.E g.row.K (g.M.FlatMem.size c.args.mem.now / 512) (overwritten (overwritten b (512 * c.args.pair.left) c.balance-joined.new.left) (512 * c.args.pair.right) given.0) records levels (c.args.pair.level + 1) paths index (get_or paths (c.args.pair.level + 1) 0) slot 1 [] c.args.header.now.root q c.args.header.now.top)
          (sym c.in-Ok-give_page.ensures.free) rebalance;
      others = stays g.row.E g.row.K (g.M.FlatMem.size c.args.mem.now / 512) b records levels c.args.pair.level paths index c.args.pair.left c.args.pair.right slot c.args.left.now c.args.right.now c.args.key.now c.args.header.now.root c.args.header.now.free c.args.header.now.top pair some size
          c.balance-joined.new.left given.0 c.balance-joined.array_long given.1;
    }

pub returns-in-Ok-store-clause-redistribute : goal.returns-in-Ok-store-clause-redistribute
returns-in-Ok-store-clause-redistribute g c = λ b h records levels paths index slot pair some.
    let size : 512 * (g.M.FlatMem.size c.args.mem.now / 512) ≤ length b = omega (arith, g.met.M.FlatMem.revealed_length c.args.mem.now b h) in
    let balanced = c.if-joined.ensures.balanced (g.M.FlatMem.size c.args.mem.now / 512) b records levels paths index c.args.pair.left c.args.pair.right slot c.args.header.now.root c.args.header.now.free c.args.header.now.top pair some in
    record {
      now = overwritten (overwritten b (512 * c.args.pair.left) c.balance-joined.new.left) (512 * c.args.pair.right) c.balance-joined.new.right;
      revealed = c.in-Ok-store.ensures.written (overwritten b (512 * c.args.pair.left) c.balance-joined.new.left) (c.in-Ok.ensures.written b h);
      rebalance = pair_shifted g.row.E g.row.K (g.M.FlatMem.size c.args.mem.now / 512) b records levels c.args.pair.level paths index c.args.pair.left c.args.pair.right slot c.args.left.now c.args.right.now c.args.key.now c.args.header.now.root c.args.header.now.free c.args.header.now.top pair some size
          c.balance-joined.new.left c.balance-joined.new.right c.balance-joined.array_long c.balance-joined.array_long2 c.balance-joined.new.key balanced;
      others = stays g.row.E g.row.K (g.M.FlatMem.size c.args.mem.now / 512) b records levels c.args.pair.level paths index c.args.pair.left c.args.pair.right slot c.args.left.now c.args.right.now c.args.key.now c.args.header.now.root c.args.header.now.free c.args.header.now.top pair some size
          c.balance-joined.new.left c.balance-joined.new.right c.balance-joined.array_long c.balance-joined.array_long2;
    }

pub returns-in-Ok-give_page-clause-on : goal.returns-in-Ok-give_page-clause-on
returns-in-Ok-give_page-clause-on g c = λ root levels paths index b d h rebalancing some left_met right_met apart.
    let size : 512 * (g.M.FlatMem.size c.args.mem.now / 512) ≤ length d = omega (arith, g.met.M.FlatMem.revealed_length c.args.mem.now d h) in
    let given = c.in-Ok-give_page.ensures.given (overwritten d (512 * c.args.pair.left) c.balance-joined.new.left) (c.in-Ok.ensures.written d h) in (
      overwritten (overwritten d (512 * c.args.pair.left) c.balance-joined.new.left) (512 * c.args.pair.right) given.0,
      given.4,
      rebalancing_up g.row.K b d levels c.args.pair.level root paths index rebalancing some c.args.pair.left c.args.pair.right left_met right_met apart c.balance-joined.new.left given.0 c.balance-joined.array_long given.1
          (omega (arith, size, c.requires.left_inside)) (omega (arith, size, c.requires.right_inside)),
    )

pub returns-in-Ok-store-clause-on : goal.returns-in-Ok-store-clause-on
returns-in-Ok-store-clause-on g c = λ root levels paths index b d h rebalancing some left_met right_met apart.
    let size : 512 * (g.M.FlatMem.size c.args.mem.now / 512) ≤ length d = omega (arith, g.met.M.FlatMem.revealed_length c.args.mem.now d h) in (
      overwritten (overwritten d (512 * c.args.pair.left) c.balance-joined.new.left) (512 * c.args.pair.right) c.balance-joined.new.right,
      c.in-Ok-store.ensures.written (overwritten d (512 * c.args.pair.left) c.balance-joined.new.left) (c.in-Ok.ensures.written d h),
      rebalancing_up g.row.K b d levels c.args.pair.level root paths index rebalancing some c.args.pair.left c.args.pair.right left_met right_met apart c.balance-joined.new.left c.balance-joined.new.right c.balance-joined.array_long c.balance-joined.array_long2
          (omega (arith, size, c.requires.left_inside)) (omega (arith, size, c.requires.right_inside)),
    )

pub returns-in-Err-clause-works : goal.returns-in-Err-clause-works
returns-in-Err-clause-works g c = works_as g.M.FlatMem c.store.ensures.works c.in-Err.ensures.works.cause (omega (arith, c.store.ensures.works.cost))

pub returns-in-Ok-give_page-clause-works : goal.returns-in-Ok-give_page-clause-works
returns-in-Ok-give_page-clause-works g c = works_on g.M.FlatMem g.met.M.FlatMem.beside_through g.met.M.FlatMem.beside_itself g.met.M.FlatMem.accounted_wider c.store.ensures.works.kept c.give_page.ensures.works tt (omega (arith, c.store.ensures.works.cost, c.give_page.ensures.works.cost))

pub returns-in-Err-give_page-clause-works : goal.returns-in-Err-give_page-clause-works
returns-in-Err-give_page-clause-works g c = works_on g.M.FlatMem g.met.M.FlatMem.beside_through g.met.M.FlatMem.beside_itself g.met.M.FlatMem.accounted_wider c.store.ensures.works.kept c.give_page.ensures.works c.in-Err-give_page.ensures.works.cause (omega (arith, c.store.ensures.works.cost, c.give_page.ensures.works.cost))

pub returns-in-Ok-store-clause-works : goal.returns-in-Ok-store-clause-works
returns-in-Ok-store-clause-works g c = works_on g.M.FlatMem g.met.M.FlatMem.beside_through g.met.M.FlatMem.beside_itself g.met.M.FlatMem.accounted_wider c.store.ensures.works.kept c.store-2.ensures.works tt (omega (arith, c.store.ensures.works.cost, c.store-2.ensures.works.cost))

pub returns-in-Err-store-clause-works : goal.returns-in-Err-store-clause-works
returns-in-Err-store-clause-works g c = works_on g.M.FlatMem g.met.M.FlatMem.beside_through g.met.M.FlatMem.beside_itself g.met.M.FlatMem.accounted_wider c.store.ensures.works.kept c.store-2.ensures.works c.in-Err-store.ensures.works.cause (omega (arith, c.store.ensures.works.cost, c.store-2.ensures.works.cost))
