use Rattle.std.proofs.Common.{rules, ◌≡◌, ◌≢◌, ℕ, ◌+◌, ◌-◌, ◌/◌, ◌<◌, ◌≤◌, get_or, refl, arith, sym, ◌∙◌, ap, subst}
use Rattle.page_tree.specs.Page.{page_at, filled, key_at, link_at}
use Rattle.page_tree.specs.Underfull.{IsPair}
use Rattle.page_tree.proofs.Neighbours.{lean_first, lean_second}
use Rattle.page_tree.proofs.Paired.{up_in, up_not_at, up_not_beside, at_link, beside_in, beside_bytes, pair_left, pair_right}
use Rattle.page_tree.proofs.NeedsUpdate.{needs_key_update}
use Rattle.page_tree.specs.Broken.{Breaks}
use Rattle.page_tree.specs.Rebalancing.{AreNotAbove}
use Rattle.page_tree.proofs.WayLaws.{from_memory}
use Rattle.page_tree.proofs.RebalancingLaws.{up_met, up_form, child_of_like, not_above_turned}
use Rattle.page_tree.proofs.Calls.{works_on, works_as, looks_works}
use Rattle.page_tree.proofs.beside.rebalance_beside.Goals as goal

pub redistribute_page-requires : goal.redistribute_page-requires
redistribute_page-requires g c =
    let size = g.met.M.FlatMem.same_size _ _ c.load_beside.ensures.looks.kept in
    let at_in : c.args.child.at < g.M.FlatMem.size c.load_beside.new.mem / 512 = rw (← size) c.requires.inside in
    let right_in : c.in-Ok.right < g.M.FlatMem.size c.load_beside.new.mem / 512 = rw (← size) c.in-Ok.ensures.child.inside in
    ((search rules), (c.requires.sized.widths, (lean_first g.row.E g.row.K c.args.child.level (filled c.args.page.now) (filled c.load_beside.new.page) c.requires.underfull c.in-Ok.ensures.child.leaf c.in-Ok.ensures.child.inner, (at_in, right_in))))

pub redistribute_page-requires-2 : goal.redistribute_page-requires-2
redistribute_page-requires-2 g c =
    let size = g.met.M.FlatMem.same_size _ _ c.load_beside-2.ensures.looks.kept in
    let at_in : c.args.child.at < g.M.FlatMem.size c.load_beside-2.new.mem / 512 = rw (← size) c.requires.inside in
    let left_in : c.in-Ok-load_beside.left < g.M.FlatMem.size c.load_beside-2.new.mem / 512 = rw (← size) c.in-Ok-load_beside.ensures.child.inside in
    ((search rules), (c.requires.sized.widths, (lean_second g.row.E g.row.K c.args.child.level (filled c.load_beside-2.new.page) (filled c.args.page.now) c.requires.underfull c.in-Ok-load_beside.ensures.child.leaf c.in-Ok-load_beside.ensures.child.inner, (left_in, at_in))))

pub returns-in-Err-clause-redistributed : goal.returns-in-Err-clause-redistributed
returns-in-Err-clause-redistributed g c = λ b h records paths indexes pending under index_is above_is.
    let other : 1 ≢ get_or indexes (c.args.child.level + 1) 0 = omega (arith, index_is, c.if-child-eq0.true) in
    let there = beside_in g.row.E g.row.K (g.M.FlatMem.size c.args.mem.now / 512) b records c.args.header.now.levels c.args.child.level paths indexes c.args.child.at c.args.page.now c.args.header.now.root c.args.header.now.free c.args.header.now.top pending c.requires.some under c.args.above.now above_is 1 c.requires.child.children other in
    c.in-Err.ensures.well b h _ there.0 there.1 (beside_bytes g.row.E g.row.K (g.M.FlatMem.size c.args.mem.now / 512) b records c.args.header.now.levels c.args.child.level paths indexes c.args.child.at c.args.page.now c.args.header.now.root c.args.header.now.free c.args.header.now.top pending c.requires.some under c.args.above.now above_is 1 c.requires.child.children other (page_at b (link_at g.row.K c.args.above.now 1)) refl)

pub returns-in-Err-load_beside-clause-redistributed : goal.returns-in-Err-load_beside-clause-redistributed
returns-in-Err-load_beside-clause-redistributed g c = λ b h records paths indexes pending under index_is above_is.
    let inside : c.args.child.index - 1 ≤ filled c.args.above.now = omega (arith, c.requires.child.child) in
    let other : c.args.child.index - 1 ≢ get_or indexes (c.args.child.level + 1) 0 = omega (arith, index_is, c.if-child-eq0.false) in
    let there = beside_in g.row.E g.row.K (g.M.FlatMem.size c.args.mem.now / 512) b records c.args.header.now.levels c.args.child.level paths indexes c.args.child.at c.args.page.now c.args.header.now.root c.args.header.now.free c.args.header.now.top pending c.requires.some under c.args.above.now above_is (c.args.child.index - 1) inside other in
    c.in-Err-load_beside.ensures.well b h _ there.0 there.1 (beside_bytes g.row.E g.row.K (g.M.FlatMem.size c.args.mem.now / 512) b records c.args.header.now.levels c.args.child.level paths indexes c.args.child.at c.args.page.now c.args.header.now.root c.args.header.now.free c.args.header.now.top pending c.requires.some under c.args.above.now above_is (c.args.child.index - 1) inside other (page_at b (link_at g.row.K c.args.above.now (c.args.child.index - 1))) refl)

pub returns-in-Ok-redistribute_page-clause-redistributed : goal.returns-in-Ok-redistribute_page-clause-redistributed
returns-in-Ok-redistribute_page-clause-redistributed g c = λ b h records paths indexes pending under index_is above_is.
    let size = g.met.M.FlatMem.same_size _ _ c.load_beside.ensures.looks.kept in
    let other : 1 ≢ get_or indexes (c.args.child.level + 1) 0 = omega (arith, index_is, c.if-child-eq0.true) in
    let slot_one : c.args.child.slot ≡ 1 = c.requires.second.at_first c.if-child-eq0.true in
    let slot_none : c.args.child.slot - 1 ≡ 0 = omega (arith, slot_one) in
    let key_is : c.key_of.new.into ≡ key_at g.row.K c.args.above.now 0 = c.key_of.ensures ∙ ap (key_at g.row.K c.args.above.now) slot_none in
    let none : get_or indexes (c.args.child.level + 1) 0 ≡ 0 = sym index_is ∙ c.if-child-eq0.true in
    let pair = pair_right g.row.E g.row.K (g.M.FlatMem.size c.args.mem.now / 512) b records c.args.header.now.levels c.args.child.level paths indexes c.args.child.at c.args.page.now c.args.header.now.root c.args.header.now.free c.args.header.now.top pending c.requires.some under c.args.above.now above_is c.in-Ok.right none c.in-Ok.ensures.child.linked c.load_beside.new.page c.key_of.new.into (c.in-Ok.ensures.read b h) key_is
    (λ high. c.requires.underfull.inner (omega (arith, high))) in
    let moved = subst (λ (s : ℕ). IsPair g.row.E g.row.K (s / 512) b records c.args.header.now.levels c.args.child.level paths indexes c.args.child.at c.in-Ok.right 1 c.args.page.now c.load_beside.new.page c.key_of.new.into c.args.header.now.root c.args.header.now.free c.args.header.now.top) size pair in
    let redistribute = c.in-Ok-redistribute_page.ensures.redistribute b (c.load_beside.ensures.looks.unchanged b h) records c.args.header.now.levels paths indexes 1 moved c.requires.some in
    let not_beside : get_or paths (c.args.child.level + 1) 0 ≢ c.in-Ok.right = λ e. up_not_beside g.row.E g.row.K (g.M.FlatMem.size c.args.mem.now / 512) b records c.args.header.now.levels c.args.child.level paths indexes c.args.child.at c.args.page.now c.args.header.now.root c.args.header.now.free c.args.header.now.top pending c.requires.some under c.args.above.now above_is 1 c.requires.child.children other (e ∙ c.in-Ok.ensures.child.linked) in
    needs_key_update g.row.E g.row.K _ _ _ b records c.args.header.now.levels c.args.child.level paths indexes c.args.above.now c.args.child.at c.in-Ok.right 1 c.args.child.slot c.redistribute_page.new.key c.args.header.now.root c.redistribute_page.new.header.free c.args.header.now.top c.in-Ok-redistribute_page.joined
    size (sym slot_one) (up_in g.row.E g.row.K (g.M.FlatMem.size c.args.mem.now / 512) b records c.args.header.now.levels c.args.child.level paths indexes c.args.child.at c.args.page.now c.args.header.now.root c.args.header.now.free c.args.header.now.top pending c.requires.some under).0 (up_not_at g.row.E g.row.K (g.M.FlatMem.size c.args.mem.now / 512) b records c.args.header.now.levels c.args.child.level paths indexes c.args.child.at c.args.page.now c.args.header.now.root c.args.header.now.free c.args.header.now.top pending c.requires.some under) not_beside (c.in-Ok.ensures.child.linked ∙ ap (link_at g.row.K c.args.above.now) (sym slot_one)) redistribute

pub returns-in-Err-redistribute_page-clause-redistributed : goal.returns-in-Err-redistribute_page-clause-redistributed
returns-in-Err-redistribute_page-clause-redistributed g c = λ b h records paths indexes pending under index_is above_is.
    let size = g.met.M.FlatMem.same_size _ _ c.load_beside.ensures.looks.kept in
    let slot_one : c.args.child.slot ≡ 1 = c.requires.second.at_first c.if-child-eq0.true in
    let slot_none : c.args.child.slot - 1 ≡ 0 = omega (arith, slot_one) in
    let key_is : c.key_of.new.into ≡ key_at g.row.K c.args.above.now 0 = c.key_of.ensures ∙ ap (key_at g.row.K c.args.above.now) slot_none in
    let none : get_or indexes (c.args.child.level + 1) 0 ≡ 0 = sym index_is ∙ c.if-child-eq0.true in
    let pair = pair_right g.row.E g.row.K (g.M.FlatMem.size c.args.mem.now / 512) b records c.args.header.now.levels c.args.child.level paths indexes c.args.child.at c.args.page.now c.args.header.now.root c.args.header.now.free c.args.header.now.top pending c.requires.some under c.args.above.now above_is c.in-Ok.right none c.in-Ok.ensures.child.linked c.load_beside.new.page c.key_of.new.into (c.in-Ok.ensures.read b h) key_is
    (λ high. c.requires.underfull.inner (omega (arith, high))) in
    let moved = subst (λ (s : ℕ). IsPair g.row.E g.row.K (s / 512) b records c.args.header.now.levels c.args.child.level paths indexes c.args.child.at c.in-Ok.right 1 c.args.page.now c.load_beside.new.page c.key_of.new.into c.args.header.now.root c.args.header.now.free c.args.header.now.top) size pair in
    c.in-Err-redistribute_page.ensures.redistribute b (c.load_beside.ensures.looks.unchanged b h) records c.args.header.now.levels paths indexes 1 moved c.requires.some

pub returns-in-Err-redistribute_page-clause-works : goal.returns-in-Err-redistribute_page-clause-works
returns-in-Err-redistribute_page-clause-works g c =
    works_on g.M.FlatMem g.met.M.FlatMem.beside_through g.met.M.FlatMem.beside_itself g.met.M.FlatMem.accounted_wider c.load_beside.ensures.looks.kept c.redistribute_page.ensures.works c.in-Err-redistribute_page.ensures.works.cause (omega (arith, c.load_beside.ensures.looks.cost, c.redistribute_page.ensures.works.cost))

pub returns-in-Ok-redistribute_page-2-clause-redistributed : goal.returns-in-Ok-redistribute_page-2-clause-redistributed
returns-in-Ok-redistribute_page-2-clause-redistributed g c = λ b h records paths indexes pending under index_is above_is.
    let size = g.met.M.FlatMem.same_size _ _ c.load_beside-2.ensures.looks.kept in
    let some_index : 0 < c.args.child.index = omega (arith, c.if-child-eq0.false) in
    let inside : c.args.child.index - 1 ≤ filled c.args.above.now = omega (arith, c.requires.child.child) in
    let other : c.args.child.index - 1 ≢ get_or indexes (c.args.child.level + 1) 0 = omega (arith, index_is, c.if-child-eq0.false) in
    let slot_is : c.args.child.slot ≡ c.args.child.index = c.requires.second.after some_index in
    let slot_back : c.args.child.slot - 1 ≡ c.args.child.index - 1 = ap (λ (i : ℕ). i - 1) slot_is in
    let key_is : c.key_of.new.into ≡ key_at g.row.K c.args.above.now (c.args.child.index - 1) = c.key_of.ensures ∙ ap (key_at g.row.K c.args.above.now) slot_back in
    let pair = pair_left g.row.E g.row.K (g.M.FlatMem.size c.args.mem.now / 512) b records c.args.header.now.levels c.args.child.level paths indexes c.args.child.at c.args.page.now c.args.header.now.root c.args.header.now.free c.args.header.now.top pending c.requires.some under c.args.above.now above_is c.args.child.index c.in-Ok-load_beside.left index_is some_index c.in-Ok-load_beside.ensures.child.linked c.load_beside-2.new.page c.key_of.new.into (c.in-Ok-load_beside.ensures.read b h) key_is
    (λ high. c.requires.underfull.inner (omega (arith, high))) in
    let moved = subst (λ (s : ℕ). IsPair g.row.E g.row.K (s / 512) b records c.args.header.now.levels c.args.child.level paths indexes c.in-Ok-load_beside.left c.args.child.at c.args.child.index c.load_beside-2.new.page c.args.page.now c.key_of.new.into c.args.header.now.root c.args.header.now.free c.args.header.now.top) size pair in
    let redistribute = c.in-Ok-redistribute_page-2.ensures.redistribute b (c.load_beside-2.ensures.looks.unchanged b h) records c.args.header.now.levels paths indexes c.args.child.index moved c.requires.some in
    let not_beside : get_or paths (c.args.child.level + 1) 0 ≢ c.in-Ok-load_beside.left = λ e. up_not_beside g.row.E g.row.K (g.M.FlatMem.size c.args.mem.now / 512) b records c.args.header.now.levels c.args.child.level paths indexes c.args.child.at c.args.page.now c.args.header.now.root c.args.header.now.free c.args.header.now.top pending c.requires.some under c.args.above.now above_is (c.args.child.index - 1) inside other (e ∙ c.in-Ok-load_beside.ensures.child.linked) in
    let linked : c.args.child.at ≡ link_at g.row.K c.args.above.now c.args.child.slot = at_link g.row.E g.row.K (g.M.FlatMem.size c.args.mem.now / 512) b records c.args.header.now.levels c.args.child.level paths indexes c.args.child.at c.args.page.now c.args.header.now.root c.args.header.now.free c.args.header.now.top pending c.requires.some under c.args.above.now above_is ∙ ap (link_at g.row.K c.args.above.now) (sym (slot_is ∙ index_is)) in
    needs_key_update g.row.E g.row.K _ _ _ b records c.args.header.now.levels c.args.child.level paths indexes c.args.above.now c.in-Ok-load_beside.left c.args.child.at c.args.child.index c.args.child.slot c.redistribute_page-2.new.key c.args.header.now.root c.redistribute_page-2.new.header.free c.args.header.now.top c.in-Ok-redistribute_page-2.joined
    size (sym slot_is) (up_in g.row.E g.row.K (g.M.FlatMem.size c.args.mem.now / 512) b records c.args.header.now.levels c.args.child.level paths indexes c.args.child.at c.args.page.now c.args.header.now.root c.args.header.now.free c.args.header.now.top pending c.requires.some under).0 not_beside (up_not_at g.row.E g.row.K (g.M.FlatMem.size c.args.mem.now / 512) b records c.args.header.now.levels c.args.child.level paths indexes c.args.child.at c.args.page.now c.args.header.now.root c.args.header.now.free c.args.header.now.top pending c.requires.some under) linked redistribute

pub returns-in-Err-redistribute_page-2-clause-redistributed : goal.returns-in-Err-redistribute_page-2-clause-redistributed
returns-in-Err-redistribute_page-2-clause-redistributed g c = λ b h records paths indexes pending under index_is above_is.
    let size = g.met.M.FlatMem.same_size _ _ c.load_beside-2.ensures.looks.kept in
    let some_index : 0 < c.args.child.index = omega (arith, c.if-child-eq0.false) in
    let slot_is : c.args.child.slot ≡ c.args.child.index = c.requires.second.after some_index in
    let slot_back : c.args.child.slot - 1 ≡ c.args.child.index - 1 = ap (λ (i : ℕ). i - 1) slot_is in
    let key_is : c.key_of.new.into ≡ key_at g.row.K c.args.above.now (c.args.child.index - 1) = c.key_of.ensures ∙ ap (key_at g.row.K c.args.above.now) slot_back in
    let pair = pair_left g.row.E g.row.K (g.M.FlatMem.size c.args.mem.now / 512) b records c.args.header.now.levels c.args.child.level paths indexes c.args.child.at c.args.page.now c.args.header.now.root c.args.header.now.free c.args.header.now.top pending c.requires.some under c.args.above.now above_is c.args.child.index c.in-Ok-load_beside.left index_is some_index c.in-Ok-load_beside.ensures.child.linked c.load_beside-2.new.page c.key_of.new.into (c.in-Ok-load_beside.ensures.read b h) key_is
    (λ high. c.requires.underfull.inner (omega (arith, high))) in
    let moved = subst (λ (s : ℕ). IsPair g.row.E g.row.K (s / 512) b records c.args.header.now.levels c.args.child.level paths indexes c.in-Ok-load_beside.left c.args.child.at c.args.child.index c.load_beside-2.new.page c.args.page.now c.key_of.new.into c.args.header.now.root c.args.header.now.free c.args.header.now.top) size pair in
    c.in-Err-redistribute_page-2.ensures.redistribute b (c.load_beside-2.ensures.looks.unchanged b h) records c.args.header.now.levels paths indexes c.args.child.index moved c.requires.some

pub returns-in-Err-redistribute_page-2-clause-works : goal.returns-in-Err-redistribute_page-2-clause-works
returns-in-Err-redistribute_page-2-clause-works g c =
    works_on g.M.FlatMem g.met.M.FlatMem.beside_through g.met.M.FlatMem.beside_itself g.met.M.FlatMem.accounted_wider c.load_beside-2.ensures.looks.kept c.redistribute_page-2.ensures.works c.in-Err-redistribute_page-2.ensures.works.cause (omega (arith, c.load_beside-2.ensures.looks.cost, c.redistribute_page-2.ensures.works.cost))

pub returns-in-Err-clause-on : goal.returns-in-Err-clause-on
returns-in-Err-clause-on g c = λ root beside paths indexes b d h rebalancing under up_is like at_met beside_is apart.
    let met = up_met g.row.K b d c.args.header.now.levels c.args.child.level root paths indexes rebalancing c.requires.some under c.args.child.up up_is in
    let form = up_form g.row.K b d c.args.header.now.levels c.args.child.level root paths indexes rebalancing c.requires.some under c.args.child.up up_is in
    c.in-Err.ensures.broken root c.args.header.now.levels paths indexes b d h rebalancing met form like c.requires.child.children

pub returns-in-Err-load_beside-clause-on : goal.returns-in-Err-load_beside-clause-on
returns-in-Err-load_beside-clause-on g c = λ root beside paths indexes b d h rebalancing under up_is like at_met beside_is apart.
    let met = up_met g.row.K b d c.args.header.now.levels c.args.child.level root paths indexes rebalancing c.requires.some under c.args.child.up up_is in
    let form = up_form g.row.K b d c.args.header.now.levels c.args.child.level root paths indexes rebalancing c.requires.some under c.args.child.up up_is in
    c.in-Err-load_beside.ensures.broken root c.args.header.now.levels paths indexes b d h rebalancing met form like (omega (arith, c.requires.child.child))

pub returns-in-Ok-redistribute_page-clause-on : goal.returns-in-Ok-redistribute_page-clause-on
returns-in-Ok-redistribute_page-clause-on g c = λ root beside paths indexes b d h rebalancing under up_is like at_met beside_is apart.
    let met = up_met g.row.K b d c.args.header.now.levels c.args.child.level root paths indexes rebalancing c.requires.some under c.args.child.up up_is in
    let form = up_form g.row.K b d c.args.header.now.levels c.args.child.level root paths indexes rebalancing c.requires.some under c.args.child.up up_is in
    let right_met = child_of_like g.row.K b c.args.child.level c.args.child.up c.args.above.now 1 c.in-Ok.right c.requires.some met form like c.requires.child.children c.in-Ok.ensures.child.linked c.in-Ok.ensures.child.after (omega (arith, g.met.M.FlatMem.revealed_length c.args.mem.now d h, rebalancing.long, c.in-Ok.ensures.child.inside)) in
    let right_is : link_at g.row.K c.args.above.now beside ≡ c.in-Ok.right = ap (link_at g.row.K c.args.above.now) (beside_is.at_first c.if-child-eq0.true) ∙ sym c.in-Ok.ensures.child.linked in
    let apart_now = subst (AreNotAbove paths c.args.child.level c.args.header.now.levels c.args.child.at) right_is apart in
    c.in-Ok-redistribute_page.ensures.on root c.args.header.now.levels paths indexes b d (c.load_beside.ensures.looks.unchanged d h) rebalancing c.requires.some at_met right_met apart_now

pub returns-in-Err-redistribute_page-clause-on : goal.returns-in-Err-redistribute_page-clause-on
returns-in-Err-redistribute_page-clause-on g c = λ root beside paths indexes b d h rebalancing under up_is like at_met beside_is apart.
    let met = up_met g.row.K b d c.args.header.now.levels c.args.child.level root paths indexes rebalancing c.requires.some under c.args.child.up up_is in
    let form = up_form g.row.K b d c.args.header.now.levels c.args.child.level root paths indexes rebalancing c.requires.some under c.args.child.up up_is in
    let right_met = child_of_like g.row.K b c.args.child.level c.args.child.up c.args.above.now 1 c.in-Ok.right c.requires.some met form like c.requires.child.children c.in-Ok.ensures.child.linked c.in-Ok.ensures.child.after (omega (arith, g.met.M.FlatMem.revealed_length c.args.mem.now d h, rebalancing.long, c.in-Ok.ensures.child.inside)) in
    let right_is : link_at g.row.K c.args.above.now beside ≡ c.in-Ok.right = ap (link_at g.row.K c.args.above.now) (beside_is.at_first c.if-child-eq0.true) ∙ sym c.in-Ok.ensures.child.linked in
    let apart_now = subst (AreNotAbove paths c.args.child.level c.args.header.now.levels c.args.child.at) right_is apart in
    from_memory (Breaks g.row.E g.row.K (g.M.FlatMem.size c.args.mem.now / 512) b) c.in-Err-redistribute_page.error (c.in-Err-redistribute_page.ensures.on root c.args.header.now.levels paths indexes b d (c.load_beside.ensures.looks.unchanged d h) rebalancing c.requires.some at_met right_met apart_now)

pub returns-in-Ok-redistribute_page-2-clause-on : goal.returns-in-Ok-redistribute_page-2-clause-on
returns-in-Ok-redistribute_page-2-clause-on g c = λ root beside paths indexes b d h rebalancing under up_is like at_met beside_is apart.
    let met = up_met g.row.K b d c.args.header.now.levels c.args.child.level root paths indexes rebalancing c.requires.some under c.args.child.up up_is in
    let form = up_form g.row.K b d c.args.header.now.levels c.args.child.level root paths indexes rebalancing c.requires.some under c.args.child.up up_is in
    let left_met = child_of_like g.row.K b c.args.child.level c.args.child.up c.args.above.now (c.args.child.index - 1) c.in-Ok-load_beside.left c.requires.some met form like (omega (arith, c.requires.child.child)) c.in-Ok-load_beside.ensures.child.linked c.in-Ok-load_beside.ensures.child.after (omega (arith, g.met.M.FlatMem.revealed_length c.args.mem.now d h, rebalancing.long, c.in-Ok-load_beside.ensures.child.inside)) in
    let left_is : link_at g.row.K c.args.above.now beside ≡ c.in-Ok-load_beside.left = ap (link_at g.row.K c.args.above.now) (beside_is.after (omega (arith, c.if-child-eq0.false))) ∙ sym c.in-Ok-load_beside.ensures.child.linked in
    let apart_now = not_above_turned paths c.args.child.level c.args.header.now.levels c.args.child.at c.in-Ok-load_beside.left (subst (AreNotAbove paths c.args.child.level c.args.header.now.levels c.args.child.at) left_is apart) in
    c.in-Ok-redistribute_page-2.ensures.on root c.args.header.now.levels paths indexes b d (c.load_beside-2.ensures.looks.unchanged d h) rebalancing c.requires.some left_met at_met apart_now

pub returns-in-Err-redistribute_page-2-clause-on : goal.returns-in-Err-redistribute_page-2-clause-on
returns-in-Err-redistribute_page-2-clause-on g c = λ root beside paths indexes b d h rebalancing under up_is like at_met beside_is apart.
    let met = up_met g.row.K b d c.args.header.now.levels c.args.child.level root paths indexes rebalancing c.requires.some under c.args.child.up up_is in
    let form = up_form g.row.K b d c.args.header.now.levels c.args.child.level root paths indexes rebalancing c.requires.some under c.args.child.up up_is in
    let left_met = child_of_like g.row.K b c.args.child.level c.args.child.up c.args.above.now (c.args.child.index - 1) c.in-Ok-load_beside.left c.requires.some met form like (omega (arith, c.requires.child.child)) c.in-Ok-load_beside.ensures.child.linked c.in-Ok-load_beside.ensures.child.after (omega (arith, g.met.M.FlatMem.revealed_length c.args.mem.now d h, rebalancing.long, c.in-Ok-load_beside.ensures.child.inside)) in
    let left_is : link_at g.row.K c.args.above.now beside ≡ c.in-Ok-load_beside.left = ap (link_at g.row.K c.args.above.now) (beside_is.after (omega (arith, c.if-child-eq0.false))) ∙ sym c.in-Ok-load_beside.ensures.child.linked in
    let apart_now = not_above_turned paths c.args.child.level c.args.header.now.levels c.args.child.at c.in-Ok-load_beside.left (subst (AreNotAbove paths c.args.child.level c.args.header.now.levels c.args.child.at) left_is apart) in
    from_memory (Breaks g.row.E g.row.K (g.M.FlatMem.size c.args.mem.now / 512) b) c.in-Err-redistribute_page-2.error (c.in-Err-redistribute_page-2.ensures.on root c.args.header.now.levels paths indexes b d (c.load_beside-2.ensures.looks.unchanged d h) rebalancing c.requires.some left_met at_met apart_now)

pub returns-in-Err-clause-works : goal.returns-in-Err-clause-works
returns-in-Err-clause-works g c = works_as g.M.FlatMem (looks_works g.M.FlatMem c.load_beside.ensures.looks) c.in-Err.ensures.looks.cause (omega (arith, c.load_beside.ensures.looks.cost))

pub returns-in-Err-load_beside-clause-works : goal.returns-in-Err-load_beside-clause-works
returns-in-Err-load_beside-clause-works g c = works_as g.M.FlatMem (looks_works g.M.FlatMem c.load_beside-2.ensures.looks) c.in-Err-load_beside.ensures.looks.cause (omega (arith, c.load_beside-2.ensures.looks.cost))

pub returns-in-Ok-redistribute_page-clause-works : goal.returns-in-Ok-redistribute_page-clause-works
returns-in-Ok-redistribute_page-clause-works g c = works_on g.M.FlatMem g.met.M.FlatMem.beside_through g.met.M.FlatMem.beside_itself g.met.M.FlatMem.accounted_wider c.load_beside.ensures.looks.kept c.redistribute_page.ensures.works tt (omega (arith, c.load_beside.ensures.looks.cost, c.redistribute_page.ensures.works.cost))

pub returns-in-Ok-redistribute_page-2-clause-works : goal.returns-in-Ok-redistribute_page-2-clause-works
returns-in-Ok-redistribute_page-2-clause-works g c = works_on g.M.FlatMem g.met.M.FlatMem.beside_through g.met.M.FlatMem.beside_itself g.met.M.FlatMem.accounted_wider c.load_beside-2.ensures.looks.kept c.redistribute_page-2.ensures.works tt (omega (arith, c.load_beside-2.ensures.looks.cost, c.redistribute_page-2.ensures.works.cost))
