use Rattle.std.proofs.Common.{◌≡◌, inl, ℕ, ◌+◌, ◌*◌, ◌/◌, ◌≤◌, List, length, remove, arith, sym, ◌∙◌, ap, subst}
use Rattle.page_tree.specs.Page.{filled}
use Rattle.page_tree.specs.Tree.{before}
use Rattle.page_tree.specs.Copied.{leaf_without}
use Rattle.page_tree.specs.Underfull.{IsPending}
use Rattle.page_tree.proofs.TakenOut.{out_pending}
use Rattle.page_tree.proofs.RebalancingLaws.{rebalancing_begun}
use Rattle.page_tree.proofs.taking.take_later.Goals as goal

pub returns-in-Err-clause-out : goal.returns-in-Err-clause-out
returns-in-Err-clause-out g c = λ b h records here home path read.
    let pending = out_pending g.row.E g.row.K (g.M.FlatMem.size c.args.mem.now / 512) b records c.args.header.now.levels c.args.header.now.root c.args.header.now.free c.args.header.now.top here c.requires.sized.widths (omega (arith, c.requires.way.some))
    c.args.page.now c.args.path.now.pages c.args.path.now.index c.args.place.page home path read c.args.place.index (omega (arith, c.requires.below, c.requires.two.counts)) c.told-page (omega (arith, c.requires.two.two, c.requires.two.counts)) (inl c.requires.after) in
    let is : c.remove_record.new.page ≡ leaf_without g.row.E c.args.page.now (filled c.args.page.now) c.args.place.index = c.remove_record.ensures ∙ ap (λ (n : ℕ). leaf_without g.row.E c.args.page.now n c.args.place.index) c.requires.two.counts in
    let moved = subst (λ (x : List ℕ). IsPending g.row.E g.row.K (g.M.FlatMem.size c.args.mem.now / 512) b (remove records (before (here.nodes 1) (home 1) + c.args.place.index)) c.args.header.now.levels 1 c.args.path.now.pages c.args.path.now.index c.args.place.page x c.args.header.now.root c.args.header.now.free c.args.header.now.top) (sym is) pending in
    c.in-Err.ensures.rebalanced b h (remove records (before (here.nodes 1) (home 1) + c.args.place.index)) moved

pub returns-clause-out : goal.returns-clause-out
returns-clause-out g c = λ b h records here home path read.
    let pending = out_pending g.row.E g.row.K (g.M.FlatMem.size c.args.mem.now / 512) b records c.args.header.now.levels c.args.header.now.root c.args.header.now.free c.args.header.now.top here c.requires.sized.widths (omega (arith, c.requires.way.some))
    c.args.page.now c.args.path.now.pages c.args.path.now.index c.args.place.page home path read c.args.place.index (omega (arith, c.requires.below, c.requires.two.counts)) c.told-page (omega (arith, c.requires.two.two, c.requires.two.counts)) (inl c.requires.after) in
    let is : c.remove_record.new.page ≡ leaf_without g.row.E c.args.page.now (filled c.args.page.now) c.args.place.index = c.remove_record.ensures ∙ ap (λ (n : ℕ). leaf_without g.row.E c.args.page.now n c.args.place.index) c.requires.two.counts in
    let moved = subst (λ (x : List ℕ). IsPending g.row.E g.row.K (g.M.FlatMem.size c.args.mem.now / 512) b (remove records (before (here.nodes 1) (home 1) + c.args.place.index)) c.args.header.now.levels 1 c.args.path.now.pages c.args.path.now.index c.args.place.page x c.args.header.now.root c.args.header.now.free c.args.header.now.top) (sym is) pending in
    c.in-Ok.ensures.rebalanced b h (remove records (before (here.nodes 1) (home 1) + c.args.place.index)) moved

pub returns-in-Err-clause-broken : goal.returns-in-Err-clause-broken
returns-in-Err-clause-broken g c = λ root b h levels_is met at_met.
    let size : 512 * (g.M.FlatMem.size c.args.mem.now / 512) ≤ length b = omega (arith, g.met.M.FlatMem.revealed_length c.args.mem.now b h) in
    c.in-Err.ensures.broken root b b h (rebalancing_begun g.row.K b (g.M.FlatMem.size c.args.mem.now / 512) c.args.header.now.levels root c.args.path.now.pages c.args.path.now.index c.requires.sized.widths.some_key c.requires.sized.widths.key_most levels_is met c.requires.way.path size) at_met
