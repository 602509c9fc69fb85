use Rattle.std.proofs.Common.{◌≡◌, ℕ, ◌+◌, ◌*◌, ◌/◌, ◌≤◌, List, length, take, remove, arith, sym, ◌∙◌, ap, subst}
use Rattle.page_tree.specs.Page.{filled, record_at}
use Rattle.page_tree.specs.Tree.{before}
use Rattle.page_tree.specs.Copied.{leaf_without}
use Rattle.page_tree.specs.Climb.{RevealsClosed}
use Rattle.page_tree.specs.Named.{IsNamed}
use Rattle.page_tree.specs.Underfull.{IsPending}
use Rattle.page_tree.proofs.FirstOut.{can_name, first_pending}
use Rattle.page_tree.specs.Broken.{Breaks}
use Rattle.page_tree.proofs.WayLaws.{from_memory}
use Rattle.page_tree.proofs.MetLaws.{met_after}
use Rattle.page_tree.proofs.RebalancingLaws.{met_can_name, rebalancing_named}
use Rattle.page_tree.proofs.Calls.{works_as, works_on}
use Rattle.page_tree.proofs.taking.take_first.Goals as goal

pub returns-in-Err-clause-out : goal.returns-in-Err-clause-out
returns-in-Err-clause-out g c = λ b h records here home path read. c.in-Err.ensures.named b h (can_name g.row.E g.row.K (g.M.FlatMem.size c.args.mem.now / 512) b records c.args.header.now.levels c.args.header.now.root c.args.header.now.free c.args.header.now.top here c.args.path.now.pages c.args.path.now.index c.args.at home path)

pub returns-in-Err-rebalance-clause-out : goal.returns-in-Err-rebalance-clause-out
returns-in-Err-rebalance-clause-out g c = λ b h records here home path read.
    let size : 512 * (g.M.FlatMem.size c.args.mem.now / 512) ≤ length b = omega (arith, g.met.M.FlatMem.revealed_length c.args.mem.now b h) in
    let key_is : c.copy_from_slice.new.self ≡ take g.row.K (record_at g.row.E c.args.page.now 1) = c.copy_from_slice.ensures.after ∙ ap (take g.row.K) c.record_of.ensures in
    let named = subst (λ (x : List ℕ). IsNamed g.row.K (g.M.FlatMem.reveals c.name_leaf.new.mem) b c.args.header.now.levels c.args.path.now.pages c.args.path.now.index x) key_is
    (c.in-Ok.ensures.named b h (can_name g.row.E g.row.K (g.M.FlatMem.size c.args.mem.now / 512) b records c.args.header.now.levels c.args.header.now.root c.args.header.now.free c.args.header.now.top here c.args.path.now.pages c.args.path.now.index c.args.at home path)) in
    let pending = first_pending g.row.E g.row.K (g.M.FlatMem.size c.args.mem.now / 512) b records c.args.header.now.levels c.args.header.now.root c.args.header.now.free c.args.header.now.top here c.requires.sized.widths (omega (arith, c.requires.way.some)) c.args.page.now c.args.path.now.pages c.args.path.now.index c.args.at home path read c.told-page (omega (arith, c.requires.two.two, c.requires.two.counts)) size (g.M.FlatMem.reveals c.name_leaf.new.mem) named in
    let is : c.remove_record.new.page ≡ leaf_without g.row.E c.args.page.now (filled c.args.page.now) 0 = c.remove_record.ensures ∙ ap (λ (n : ℕ). leaf_without g.row.E c.args.page.now n 0) c.requires.two.counts in
    let same = g.met.M.FlatMem.same_size _ _ c.name_leaf.ensures.works.kept in
    let moved = subst (λ (s : ℕ). IsPending g.row.E g.row.K (s / 512) pending.0 (remove records (before (here.nodes 1) (home 1) + 0)) c.args.header.now.levels 1 c.args.path.now.pages c.args.path.now.index c.args.at c.remove_record.new.page c.args.header.now.root c.args.header.now.free c.args.header.now.top) same
    (subst (λ (x : List ℕ). IsPending g.row.E g.row.K (g.M.FlatMem.size c.args.mem.now / 512) pending.0 (remove records (before (here.nodes 1) (home 1) + 0)) c.args.header.now.levels 1 c.args.path.now.pages c.args.path.now.index c.args.at x c.args.header.now.root c.args.header.now.free c.args.header.now.top) (sym is) pending.2) in
    c.in-Err-rebalance.ensures.rebalanced pending.0 pending.1 (remove records (before (here.nodes 1) (home 1) + 0)) moved

pub returns-clause-out : goal.returns-clause-out
returns-clause-out g c = λ b h records here home path read.
    let size : 512 * (g.M.FlatMem.size c.args.mem.now / 512) ≤ length b = omega (arith, g.met.M.FlatMem.revealed_length c.args.mem.now b h) in
    let key_is : c.copy_from_slice.new.self ≡ take g.row.K (record_at g.row.E c.args.page.now 1) = c.copy_from_slice.ensures.after ∙ ap (take g.row.K) c.record_of.ensures in
    let named = subst (λ (x : List ℕ). IsNamed g.row.K (g.M.FlatMem.reveals c.name_leaf.new.mem) b c.args.header.now.levels c.args.path.now.pages c.args.path.now.index x) key_is
    (c.in-Ok.ensures.named b h (can_name g.row.E g.row.K (g.M.FlatMem.size c.args.mem.now / 512) b records c.args.header.now.levels c.args.header.now.root c.args.header.now.free c.args.header.now.top here c.args.path.now.pages c.args.path.now.index c.args.at home path)) in
    let pending = first_pending g.row.E g.row.K (g.M.FlatMem.size c.args.mem.now / 512) b records c.args.header.now.levels c.args.header.now.root c.args.header.now.free c.args.header.now.top here c.requires.sized.widths (omega (arith, c.requires.way.some)) c.args.page.now c.args.path.now.pages c.args.path.now.index c.args.at home path read c.told-page (omega (arith, c.requires.two.two, c.requires.two.counts)) size (g.M.FlatMem.reveals c.name_leaf.new.mem) named in
    let is : c.remove_record.new.page ≡ leaf_without g.row.E c.args.page.now (filled c.args.page.now) 0 = c.remove_record.ensures ∙ ap (λ (n : ℕ). leaf_without g.row.E c.args.page.now n 0) c.requires.two.counts in
    let same = g.met.M.FlatMem.same_size _ _ c.name_leaf.ensures.works.kept in
    let moved = subst (λ (s : ℕ). IsPending g.row.E g.row.K (s / 512) pending.0 (remove records (before (here.nodes 1) (home 1) + 0)) c.args.header.now.levels 1 c.args.path.now.pages c.args.path.now.index c.args.at c.remove_record.new.page c.args.header.now.root c.args.header.now.free c.args.header.now.top) same
    (subst (λ (x : List ℕ). IsPending g.row.E g.row.K (g.M.FlatMem.size c.args.mem.now / 512) pending.0 (remove records (before (here.nodes 1) (home 1) + 0)) c.args.header.now.levels 1 c.args.path.now.pages c.args.path.now.index c.args.at x c.args.header.now.root c.args.header.now.free c.args.header.now.top) (sym is) pending.2) in
    let done = c.in-Ok-rebalance.ensures.rebalanced pending.0 pending.1 (remove records (before (here.nodes 1) (home 1) + 0)) moved in
    subst (λ (s : ℕ). RevealsClosed g.row.E g.row.K (s / 512) (g.M.FlatMem.reveals c.rebalance.new.mem) (remove records (before (here.nodes 1) (home 1) + 0)) c.rebalance.new.header.levels c.rebalance.new.header.root c.rebalance.new.header.free c.rebalance.new.header.top) (sym same) done

pub returns-in-Err-clause-broken : goal.returns-in-Err-clause-broken
returns-in-Err-clause-broken g c = λ root b h levels_is met at_met.
    let size : 512 * (g.M.FlatMem.size c.args.mem.now / 512) ≤ length b = omega (arith, g.met.M.FlatMem.revealed_length c.args.mem.now b h) in
    from_memory (Breaks g.row.E g.row.K (g.M.FlatMem.size c.args.mem.now / 512) b) c.in-Err.error (c.in-Err.ensures.named b h (met_can_name g.row.K b (g.M.FlatMem.size c.args.mem.now / 512) c.args.header.now.levels root c.args.path.now.pages c.args.path.now.index c.requires.sized.widths.some_key c.requires.sized.widths.key_most levels_is met c.requires.way.path size))

pub returns-in-Err-rebalance-clause-broken : goal.returns-in-Err-rebalance-clause-broken
returns-in-Err-rebalance-clause-broken g c = λ root b h levels_is met at_met.
    let size : 512 * (g.M.FlatMem.size c.args.mem.now / 512) ≤ length b = omega (arith, g.met.M.FlatMem.revealed_length c.args.mem.now b h) in
    let named = c.in-Ok.ensures.named b h (met_can_name g.row.K b (g.M.FlatMem.size c.args.mem.now / 512) c.args.header.now.levels root c.args.path.now.pages c.args.path.now.index c.requires.sized.widths.some_key c.requires.sized.widths.key_most levels_is met c.requires.way.path size) in
    let rebalancing = rebalancing_named g.row.K b (g.M.FlatMem.size c.args.mem.now / 512) c.args.header.now.levels root c.args.path.now.pages c.args.path.now.index c.requires.sized.widths.some_key c.requires.sized.widths.key_most levels_is met c.requires.way.path size (g.M.FlatMem.reveals c.name_leaf.new.mem) c.copy_from_slice.new.self c.name_leaf.ensures.width named in
    let same = g.met.M.FlatMem.same_size _ _ c.name_leaf.ensures.works.kept in
    rw same (c.in-Err-rebalance.ensures.broken root b rebalancing.0 rebalancing.1 rebalancing.2 at_met)

pub returns-in-Err-clause-named : goal.returns-in-Err-clause-named
returns-in-Err-clause-named g c = λ root b h levels_is met.
    let size : 512 * (g.M.FlatMem.size c.args.mem.now / 512) ≤ length b = omega (arith, g.met.M.FlatMem.revealed_length c.args.mem.now b h) in
    from_memory (λ page. 1 ≤ page) c.in-Err.error (c.in-Err.ensures.named b h (met_can_name g.row.K b (g.M.FlatMem.size c.args.mem.now / 512) c.args.header.now.levels root c.args.path.now.pages c.args.path.now.index c.requires.sized.widths.some_key c.requires.sized.widths.key_most levels_is met c.requires.way.path size))

pub returns-in-Err-rebalance-clause-named : goal.returns-in-Err-rebalance-clause-named
returns-in-Err-rebalance-clause-named g c = λ root b h levels_is met. c.in-Err-rebalance.ensures.named (λ l above most. met_after g.row.K b l _ (met.met l above most))

pub returns-in-Err-clause-works : goal.returns-in-Err-clause-works
returns-in-Err-clause-works g c = works_as g.M.FlatMem c.name_leaf.ensures.works c.in-Err.ensures.works.cause (omega (arith, c.name_leaf.ensures.works.cost))

pub returns-in-Err-rebalance-clause-works : goal.returns-in-Err-rebalance-clause-works
returns-in-Err-rebalance-clause-works g c = works_on g.M.FlatMem g.met.M.FlatMem.beside_through g.met.M.FlatMem.beside_itself g.met.M.FlatMem.accounted_wider c.name_leaf.ensures.works.kept c.rebalance.ensures.works c.in-Err-rebalance.ensures.works.cause (omega (arith, c.name_leaf.ensures.works.cost, c.rebalance.ensures.works.cost))

pub returns-clause-works : goal.returns-clause-works
returns-clause-works g c = works_on g.M.FlatMem g.met.M.FlatMem.beside_through g.met.M.FlatMem.beside_itself g.met.M.FlatMem.accounted_wider c.name_leaf.ensures.works.kept c.rebalance.ensures.works tt (omega (arith, c.name_leaf.ensures.works.cost, c.rebalance.ensures.works.cost))
