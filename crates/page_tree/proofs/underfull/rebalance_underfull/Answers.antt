use Rattle.std.proofs.Common.{rules, ◌≡◌, ℕ, ◌+◌, ◌*◌, ◌/◌, ◌^◌, ◌<◌, ◌≤◌, [], ◌∷◌, length, get_or, refl, arith, sym, ◌∙◌, ap, subst}
use Rattle.flat_mem.specs.Memory.{overwritten}
use Rattle.page_tree.specs.Page.{page_at, filled, link_at}
use Rattle.page_tree.specs.Climb.{child_item}
use Rattle.page_tree.specs.Rebalance.{IsRebalance}
use Rattle.page_tree.specs.Underfull.{IsPending}
use Rattle.page_tree.proofs.KeyUpdated.{key_update_out, key_update_named, root_gone}
use Rattle.page_tree.proofs.NeedsUpdate.{key_updated_joined, key_updated_shifted, pending_at, closed_at, root_level, second_in}
use Rattle.page_tree.specs.Broken.{Breaks}
use Rattle.page_tree.specs.Rebalancing.{AreNotAbove}
use Rattle.page_tree.proofs.Paired.{not_above}
use Rattle.page_tree.proofs.WayLaws.{from_memory}
use Rattle.page_tree.proofs.RebalancingLaws.{up_met, up_form, child_of_like, again_broken, none_again, beside_inside}
use Rattle.page_tree.proofs.Calls.{works_on, works_as, looks_works}
use Rattle.page_tree.proofs.underfull.rebalance_underfull.Goals as goal

pub returns-in-Err-clause-rebalanced : goal.returns-in-Err-clause-rebalanced
returns-in-Err-clause-rebalanced g c = λ b h records pending. c.in-Err.ensures.well g.row.E b h records c.args.at.now c.args.page.now c.args.header.now.root c.args.header.now.free c.args.header.now.top pending

pub returns-in-Err-rebalance_beside-clause-rebalanced : goal.returns-in-Err-rebalance_beside-clause-rebalanced
returns-in-Err-rebalance_beside-clause-rebalanced g c = λ b h records pending.
    let size = g.met.M.FlatMem.same_size _ _ c.load_above.ensures.looks.kept in
    let now = subst (λ (s : ℕ). IsPending g.row.E g.row.K (s / 512) b records c.args.header.now.levels c.args.level c.args.path.now.pages c.args.path.now.index c.args.at.now c.args.page.now c.args.header.now.root c.args.header.now.free c.args.header.now.top) size pending in
    let above_is : c.load_above.new.above ≡ page_at b (get_or c.args.path.now.pages (c.args.level + 1) 0) = c.in-Ok.ensures.read b h ∙ ap (page_at b) c.in-Ok.ensures.above.up_is in
    c.in-Err-rebalance_beside.ensures.redistributed b (c.load_above.ensures.looks.unchanged b h) records c.args.path.now.pages c.args.path.now.index now c.requires.below.lower refl above_is

pub returns-then-not-joined-clause-rebalanced : goal.returns-then-not-joined-clause-rebalanced
returns-then-not-joined-clause-rebalanced g c = λ b h records pending.
    let size = g.met.M.FlatMem.same_size _ _ c.load_above.ensures.looks.kept in
    let now = subst (λ (s : ℕ). IsPending g.row.E g.row.K (s / 512) b records c.args.header.now.levels c.args.level c.args.path.now.pages c.args.path.now.index c.args.at.now c.args.page.now c.args.header.now.root c.args.header.now.free c.args.header.now.top) size pending in
    let above_is : c.load_above.new.above ≡ page_at b (get_or c.args.path.now.pages (c.args.level + 1) 0) = c.in-Ok.ensures.read b h ∙ ap (page_at b) c.in-Ok.ensures.above.up_is in
    let key_update = c.in-Ok-rebalance_beside.ensures.redistributed b (c.load_above.ensures.looks.unchanged b h) records c.args.path.now.pages c.args.path.now.index now c.requires.below.lower refl above_is in
    let beside = key_updated_shifted g.row.E g.row.K _ _ b records _ _ _ _ _ _ _ _ _ _ c.in-Ok-rebalance_beside.joined c.if-not-joined.true key_update in
    let second = second_in _ (filled c.load_above.new.above) _ c.second_of-slot.ensures c.in-Ok.ensures.above.child.children c.in-Ok.ensures.above.child.child in
    let rebalance = subst (λ (s : ℕ). IsRebalance g.row.E g.row.K (s / 512) beside.now records c.args.header.now.levels (c.args.level + 1) c.args.path.now.pages c.args.path.now.index (get_or c.args.path.now.pages (c.args.level + 1) 0) c.second_of-slot.result 1 (child_item c.rebalance_beside.new.key (link_at g.row.K c.load_above.new.above c.second_of-slot.result) ∷ []) c.args.header.now.root c.rebalance_beside.new.header.free c.args.header.now.top) (sym size) beside.rebalance in
    let done = key_update_named g.row.E g.row.K (g.M.FlatMem.size c.args.mem.now / 512) beside.now records c.args.header.now.levels (c.args.level + 1) c.args.path.now.pages c.args.path.now.index c.second_of-slot.result _ c.args.header.now.root c.rebalance_beside.new.header.free c.args.header.now.top rebalance
    (omega (arith, c.requires.below.some)) (omega (arith, c.requires.below.lower)) c.load_above.new.above (above_is ∙ sym beside.above) c.load_above.array_long c.requires.sized.widths.some_key c.requires.sized.widths.key_most (filled c.load_above.new.above) refl second.0 second.1
    c.rebalance_beside.new.key (link_at g.row.K c.load_above.new.above c.second_of-slot.result) refl c.set_key.ensures.width refl in (
      beside.now,
      beside.revealed,
      pending_at g.row.E g.row.K (g.M.FlatMem.size c.args.mem.now / 512) beside.now records c.args.header.now.levels (c.args.level + 1) c.args.path.now.pages c.args.path.now.index _ _ _ _ c.args.header.now.root c.rebalance_beside.new.header.free _ _ (sym c.in-Ok.ensures.above.up_is) (sym c.set_key.ensures.written) (sym c.rebalance_beside.ensures.top) done,
    )

pub returns-in-Ok-drop_root-clause-rebalanced : goal.returns-in-Ok-drop_root-clause-rebalanced
returns-in-Ok-drop_root-clause-rebalanced g c = λ b h records pending.
    let size = g.met.M.FlatMem.same_size _ _ c.load_above.ensures.looks.kept in
    let now = subst (λ (s : ℕ). IsPending g.row.E g.row.K (s / 512) b records c.args.header.now.levels c.args.level c.args.path.now.pages c.args.path.now.index c.args.at.now c.args.page.now c.args.header.now.root c.args.header.now.free c.args.header.now.top) size pending in
    let above_is : c.load_above.new.above ≡ page_at b (get_or c.args.path.now.pages (c.args.level + 1) 0) = c.in-Ok.ensures.read b h ∙ ap (page_at b) c.in-Ok.ensures.above.up_is in
    let key_update = c.in-Ok-rebalance_beside.ensures.redistributed b (c.load_above.ensures.looks.unchanged b h) records c.args.path.now.pages c.args.path.now.index now c.requires.below.lower refl above_is in
    let beside = key_updated_joined g.row.E g.row.K _ _ b records _ _ _ _ _ _ _ _ _ _ c.in-Ok-rebalance_beside.joined c.if-not-joined.false key_update in
    let second = second_in _ (filled c.load_above.new.above) _ c.second_of-slot.ensures c.in-Ok.ensures.above.child.children c.in-Ok.ensures.above.child.child in
    let one : filled c.load_above.new.above ≡ 1 = sym c.filled_of-count.ensures ∙ c.if-count-eq1.true in
    let last : c.args.header.now.levels ≡ c.args.level + 1 = root_level c.args.level c.args.header.now.levels (filled c.load_above.new.above) c.requires.below.lower one c.in-Ok.ensures.above.more in
    let rebalance = subst (λ (s : ℕ). IsRebalance g.row.E g.row.K (s / 512) beside.now records c.args.header.now.levels (c.args.level + 1) c.args.path.now.pages c.args.path.now.index (get_or c.args.path.now.pages (c.args.level + 1) 0) c.second_of-slot.result 1 [] c.args.header.now.root c.rebalance_beside.new.header.free c.args.header.now.top) (sym size) beside.rebalance in
    let given = c.in-Ok-drop_root.ensures.given beside.now beside.revealed in
    let long : 512 * (g.M.FlatMem.size c.args.mem.now / 512) ≤ length beside.now = omega (arith, g.met.M.FlatMem.revealed_length c.rebalance_beside.new.mem beside.now beside.revealed, size, g.met.M.FlatMem.same_size _ _ c.rebalance_beside.ensures.works.kept) in
    let closed = root_gone g.row.E g.row.K (g.M.FlatMem.size c.args.mem.now / 512) beside.now records c.args.header.now.levels c.args.level c.args.path.now.pages c.args.path.now.index c.second_of-slot.result c.args.header.now.root c.rebalance_beside.new.header.free c.args.header.now.top rebalance c.requires.below.some last long
    c.load_above.new.above (above_is ∙ sym beside.above) one second.0 (omega (arith, second.1, one)) given.0 given.1 given.2 given.3 in
    let up_is = c.in-Ok.ensures.above.up_is in
    let level_is : c.args.level ≡ c.drop_root.new.header.levels = omega (arith, last, c.drop_root.ensures.levels, c.rebalance_beside.ensures.keeps.levels) in (
      overwritten beside.now (512 * c.in-Ok.up) given.0,
      given.4,
      closed_at g.row.E g.row.K (g.M.FlatMem.size c.args.mem.now / 512) beside.now given.0 records _ _ _ _ _ _ _ _ (sym up_is) level_is (sym c.drop_root.ensures.root) (sym (c.in-Ok-drop_root.ensures.free ∙ up_is)) (sym (c.drop_root.ensures.top ∙ c.rebalance_beside.ensures.top)) closed,
    )

pub returns-in-Ok-drop_root-clause-works : goal.returns-in-Ok-drop_root-clause-works
returns-in-Ok-drop_root-clause-works g c =
    works_on g.M.FlatMem g.met.M.FlatMem.beside_through g.met.M.FlatMem.beside_itself g.met.M.FlatMem.accounted_wider (g.met.M.FlatMem.beside_through _ _ _ c.load_above.ensures.looks.kept c.rebalance_beside.ensures.works.kept) c.drop_root.ensures.works tt (omega (arith, c.load_above.ensures.looks.cost, c.rebalance_beside.ensures.works.cost, c.drop_root.ensures.works.cost))

pub returns-in-Err-drop_root-clause-rebalanced : goal.returns-in-Err-drop_root-clause-rebalanced
returns-in-Err-drop_root-clause-rebalanced g c = λ b h records pending.
    let size = g.met.M.FlatMem.same_size _ _ c.load_above.ensures.looks.kept in
    let now = subst (λ (s : ℕ). IsPending g.row.E g.row.K (s / 512) b records c.args.header.now.levels c.args.level c.args.path.now.pages c.args.path.now.index c.args.at.now c.args.page.now c.args.header.now.root c.args.header.now.free c.args.header.now.top) size pending in
    let above_is : c.load_above.new.above ≡ page_at b (get_or c.args.path.now.pages (c.args.level + 1) 0) = c.in-Ok.ensures.read b h ∙ ap (page_at b) c.in-Ok.ensures.above.up_is in
    let key_update = c.in-Ok-rebalance_beside.ensures.redistributed b (c.load_above.ensures.looks.unchanged b h) records c.args.path.now.pages c.args.path.now.index now c.requires.below.lower refl above_is in
    let beside = key_updated_joined g.row.E g.row.K _ _ b records _ _ _ _ _ _ _ _ _ _ c.in-Ok-rebalance_beside.joined c.if-not-joined.false key_update in
    c.in-Err-drop_root.ensures.given beside.now beside.revealed

pub returns-in-Err-drop_root-clause-works : goal.returns-in-Err-drop_root-clause-works
returns-in-Err-drop_root-clause-works g c =
    works_on g.M.FlatMem g.met.M.FlatMem.beside_through g.met.M.FlatMem.beside_itself g.met.M.FlatMem.accounted_wider (g.met.M.FlatMem.beside_through _ _ _ c.load_above.ensures.looks.kept c.rebalance_beside.ensures.works.kept) c.drop_root.ensures.works c.in-Err-drop_root.ensures.works.cause (omega (arith, c.load_above.ensures.looks.cost, c.rebalance_beside.ensures.works.cost, c.drop_root.ensures.works.cost))

pub returns-clause-rebalanced : goal.returns-clause-rebalanced
returns-clause-rebalanced g c = λ b h records pending.
    let size = g.met.M.FlatMem.same_size _ _ c.load_above.ensures.looks.kept in
    let now = subst (λ (s : ℕ). IsPending g.row.E g.row.K (s / 512) b records c.args.header.now.levels c.args.level c.args.path.now.pages c.args.path.now.index c.args.at.now c.args.page.now c.args.header.now.root c.args.header.now.free c.args.header.now.top) size pending in
    let above_is : c.load_above.new.above ≡ page_at b (get_or c.args.path.now.pages (c.args.level + 1) 0) = c.in-Ok.ensures.read b h ∙ ap (page_at b) c.in-Ok.ensures.above.up_is in
    let key_update = c.in-Ok-rebalance_beside.ensures.redistributed b (c.load_above.ensures.looks.unchanged b h) records c.args.path.now.pages c.args.path.now.index now c.requires.below.lower refl above_is in
    let beside = key_updated_joined g.row.E g.row.K _ _ b records _ _ _ _ _ _ _ _ _ _ c.in-Ok-rebalance_beside.joined c.if-not-joined.false key_update in
    let second = second_in _ (filled c.load_above.new.above) _ c.second_of-slot.ensures c.in-Ok.ensures.above.child.children c.in-Ok.ensures.above.child.child in
    let count : c.filled_of-count.result ≡ filled c.load_above.new.above = c.filled_of-count.ensures in
    let rebalance = subst (λ (s : ℕ). IsRebalance g.row.E g.row.K (s / 512) beside.now records c.args.header.now.levels (c.args.level + 1) c.args.path.now.pages c.args.path.now.index (get_or c.args.path.now.pages (c.args.level + 1) 0) c.second_of-slot.result 1 [] c.args.header.now.root c.rebalance_beside.new.header.free c.args.header.now.top) (sym size) beside.rebalance in
    let done = key_update_out g.row.E g.row.K (g.M.FlatMem.size c.args.mem.now / 512) beside.now records c.args.header.now.levels (c.args.level + 1) c.args.path.now.pages c.args.path.now.index c.second_of-slot.result [] c.args.header.now.root c.rebalance_beside.new.header.free c.args.header.now.top rebalance
    (omega (arith, c.requires.below.some)) (omega (arith, c.requires.below.lower)) c.load_above.new.above (above_is ∙ sym beside.above) c.load_above.array_long c.requires.sized.widths.some_key c.requires.sized.widths.key_most c.filled_of-count.result count second.0 (omega (arith, second.1, count))
    refl (omega (arith, c.if-count-eq1.false, count, c.in-Ok.ensures.above.child.children)) in (
      beside.now,
      beside.revealed,
      pending_at g.row.E g.row.K (g.M.FlatMem.size c.args.mem.now / 512) beside.now records c.args.header.now.levels (c.args.level + 1) c.args.path.now.pages c.args.path.now.index _ _ _ _ c.args.header.now.root c.rebalance_beside.new.header.free _ _ (sym c.in-Ok.ensures.above.up_is) (sym c.remove_child.ensures) (sym c.rebalance_beside.ensures.top) done,
    )

pub returns-clause-works : goal.returns-clause-works
returns-clause-works g c =
    works_on g.M.FlatMem g.met.M.FlatMem.beside_through g.met.M.FlatMem.beside_itself g.met.M.FlatMem.accounted_wider c.load_above.ensures.looks.kept c.rebalance_beside.ensures.works tt (omega (arith, c.load_above.ensures.looks.cost, c.rebalance_beside.ensures.works.cost))

pub rebalance_beside-requires : goal.rebalance_beside-requires
rebalance_beside-requires g c =
    let size = g.met.M.FlatMem.same_size _ _ c.load_above.ensures.looks.kept in
    let small : g.M.FlatMem.size c.load_above.new.mem ≤ 2 ^ 27 = rw (← size) c.requires.sized.small in
    let inside : c.args.at.now < g.M.FlatMem.size c.load_above.new.mem / 512 = rw (← size) c.requires.inside in
    ((search rules), (record { widths = c.requires.sized.widths; small = small }, (c.requires.below.some, (c.requires.underfull, (c.second_of-slot.ensures, (c.in-Ok.ensures.above.child, inside))))))

pub returns-in-Err-clause-on : goal.returns-in-Err-clause-on
returns-in-Err-clause-on g c = λ root b d h rebalancing at_met. c.in-Err.ensures.broken g.row.E root b d h rebalancing

pub returns-in-Some-clause-rebalanced : goal.returns-in-Some-clause-rebalanced
returns-in-Some-clause-rebalanced g c = λ b h records pending.
    let above_is : c.load_above.new.above ≡ page_at b (get_or c.args.path.now.pages (c.args.level + 1) 0) = c.in-Ok.ensures.read b h ∙ ap (page_at b) c.in-Ok.ensures.above.up_is in
    let beside = beside_inside (get_or c.args.path.now.index (c.args.level + 1) 0) c.beside_of.result (filled c.load_above.new.above) c.beside_of.ensures c.in-Ok.ensures.above.child.children c.in-Ok.ensures.above.child.child in
    let apart = not_above g.row.E g.row.K (g.M.FlatMem.size c.args.mem.now / 512) b records c.args.header.now.levels c.args.level c.args.path.now.pages c.args.path.now.index c.args.at.now c.args.page.now c.args.header.now.root c.args.header.now.free c.args.header.now.top pending c.requires.below.some c.requires.below.lower
    c.load_above.new.above above_is c.beside_of.result beside.0 beside.1 in
    none_again c.args.path.now.pages c.args.level c.args.header.now.levels c.args.at.now c.link_of-beside.result c.in-Some.page (subst (AreNotAbove c.args.path.now.pages c.args.level c.args.header.now.levels c.args.at.now) (sym c.link_of-beside.ensures) apart) c.in-Some.ensures

pub returns-in-Some-clause-on : goal.returns-in-Some-clause-on
returns-in-Some-clause-on g c = λ root b d h rebalancing at_met.
    let like = c.in-Ok.ensures.like root b d h rebalancing in
    let met = up_met g.row.K b d c.args.header.now.levels c.args.level root c.args.path.now.pages c.args.path.now.index rebalancing c.requires.below.some c.requires.below.lower c.in-Ok.up c.in-Ok.ensures.above.up_is in
    let form = up_form g.row.K b d c.args.header.now.levels c.args.level root c.args.path.now.pages c.args.path.now.index rebalancing c.requires.below.some c.requires.below.lower c.in-Ok.up c.in-Ok.ensures.above.up_is in
    let beside = beside_inside (get_or c.args.path.now.index (c.args.level + 1) 0) c.beside_of.result (filled c.load_above.new.above) c.beside_of.ensures c.in-Ok.ensures.above.child.children c.in-Ok.ensures.above.child.child in
    let beside_met = λ (after : 1 ≤ c.link_of-beside.result) (fits : 512 * c.link_of-beside.result + 512 ≤ length b). child_of_like g.row.K b c.args.level c.in-Ok.up c.load_above.new.above c.beside_of.result c.link_of-beside.result c.requires.below.some met form like beside.0 c.link_of-beside.ensures after fits in
    again_broken g.row.E g.row.K (g.M.FlatMem.size c.args.mem.now / 512) b d c.args.header.now.levels c.args.level root c.args.path.now.pages c.args.path.now.index rebalancing c.requires.below.some c.args.at.now c.link_of-beside.result c.in-Some.page at_met beside_met c.in-Some.ensures

pub returns-in-Err-rebalance_beside-clause-on : goal.returns-in-Err-rebalance_beside-clause-on
returns-in-Err-rebalance_beside-clause-on g c = λ root b d h rebalancing at_met.
    let like = c.in-Ok.ensures.like root b d h rebalancing in
    let linked : link_at g.row.K c.load_above.new.above c.beside_of.result ≡ c.link_of-beside.result = sym c.link_of-beside.ensures in
    let apart = subst (AreNotAbove c.args.path.now.pages c.args.level c.args.header.now.levels c.args.at.now) (sym linked) c.in-None.ensures in
    let size = g.met.M.FlatMem.same_size _ _ c.load_above.ensures.looks.kept in
    rw size (c.in-Err-rebalance_beside.ensures.on root c.beside_of.result c.args.path.now.pages c.args.path.now.index b d (c.load_above.ensures.looks.unchanged d h) rebalancing c.requires.below.lower c.in-Ok.ensures.above.up_is like at_met c.beside_of.ensures apart)

pub returns-then-not-joined-clause-on : goal.returns-then-not-joined-clause-on
returns-then-not-joined-clause-on g c = λ root b d h rebalancing at_met.
    let like = c.in-Ok.ensures.like root b d h rebalancing in
    let linked : link_at g.row.K c.load_above.new.above c.beside_of.result ≡ c.link_of-beside.result = sym c.link_of-beside.ensures in
    let apart = subst (AreNotAbove c.args.path.now.pages c.args.level c.args.header.now.levels c.args.at.now) (sym linked) c.in-None.ensures in
    c.in-Ok-rebalance_beside.ensures.on root c.beside_of.result c.args.path.now.pages c.args.path.now.index b d (c.load_above.ensures.looks.unchanged d h) rebalancing c.requires.below.lower c.in-Ok.ensures.above.up_is like at_met c.beside_of.ensures apart

pub returns-in-Err-drop_root-clause-on : goal.returns-in-Err-drop_root-clause-on
returns-in-Err-drop_root-clause-on g c = λ root b d h rebalancing at_met.
    let like = c.in-Ok.ensures.like root b d h rebalancing in
    let linked : link_at g.row.K c.load_above.new.above c.beside_of.result ≡ c.link_of-beside.result = sym c.link_of-beside.ensures in
    let apart = subst (AreNotAbove c.args.path.now.pages c.args.level c.args.header.now.levels c.args.at.now) (sym linked) c.in-None.ensures in
    let rebalanced = c.in-Ok-rebalance_beside.ensures.on root c.beside_of.result c.args.path.now.pages c.args.path.now.index b d (c.load_above.ensures.looks.unchanged d h) rebalancing c.requires.below.lower c.in-Ok.ensures.above.up_is like at_met c.beside_of.ensures apart in
    from_memory (Breaks g.row.E g.row.K (g.M.FlatMem.size c.args.mem.now / 512) b) c.in-Err-drop_root.error (c.in-Err-drop_root.ensures.given rebalanced.0 rebalanced.1)

pub returns-clause-on : goal.returns-clause-on
returns-clause-on g c = λ root b d h rebalancing at_met.
    let like = c.in-Ok.ensures.like root b d h rebalancing in
    let linked : link_at g.row.K c.load_above.new.above c.beside_of.result ≡ c.link_of-beside.result = sym c.link_of-beside.ensures in
    let apart = subst (AreNotAbove c.args.path.now.pages c.args.level c.args.header.now.levels c.args.at.now) (sym linked) c.in-None.ensures in
    c.in-Ok-rebalance_beside.ensures.on root c.beside_of.result c.args.path.now.pages c.args.path.now.index b d (c.load_above.ensures.looks.unchanged d h) rebalancing c.requires.below.lower c.in-Ok.ensures.above.up_is like at_met c.beside_of.ensures apart

pub returns-in-Err-clause-works : goal.returns-in-Err-clause-works
returns-in-Err-clause-works g c = works_as g.M.FlatMem (looks_works g.M.FlatMem c.load_above.ensures.looks) c.in-Err.ensures.looks.cause (omega (arith, c.load_above.ensures.looks.cost))

pub returns-in-Some-clause-works : goal.returns-in-Some-clause-works
returns-in-Some-clause-works g c = works_as g.M.FlatMem (looks_works g.M.FlatMem c.load_above.ensures.looks) tt (omega (arith, c.load_above.ensures.looks.cost))

pub returns-in-Err-rebalance_beside-clause-works : goal.returns-in-Err-rebalance_beside-clause-works
returns-in-Err-rebalance_beside-clause-works g c = works_on g.M.FlatMem g.met.M.FlatMem.beside_through g.met.M.FlatMem.beside_itself g.met.M.FlatMem.accounted_wider c.load_above.ensures.looks.kept c.rebalance_beside.ensures.works c.in-Err-rebalance_beside.ensures.works.cause (omega (arith, c.load_above.ensures.looks.cost, c.rebalance_beside.ensures.works.cost))

pub returns-then-not-joined-clause-works : goal.returns-then-not-joined-clause-works
returns-then-not-joined-clause-works g c = works_on g.M.FlatMem g.met.M.FlatMem.beside_through g.met.M.FlatMem.beside_itself g.met.M.FlatMem.accounted_wider c.load_above.ensures.looks.kept c.rebalance_beside.ensures.works tt (omega (arith, c.load_above.ensures.looks.cost, c.rebalance_beside.ensures.works.cost))

pub returns-in-Err-clause-goes : goal.returns-in-Err-clause-goes
returns-in-Err-clause-goes g c = record { up = tt; same_levels = tt; same_root = tt; levels = omega arith; some_levels = omega (arith, c.requires.below); count = refl; inside = tt }

pub returns-in-Some-clause-goes : goal.returns-in-Some-clause-goes
returns-in-Some-clause-goes g c = record { up = tt; same_levels = tt; same_root = tt; levels = omega arith; some_levels = omega (arith, c.requires.below); count = refl; inside = tt }

pub returns-in-Err-rebalance_beside-clause-goes : goal.returns-in-Err-rebalance_beside-clause-goes
returns-in-Err-rebalance_beside-clause-goes g c = record { up = tt; same_levels = tt; same_root = tt; levels = omega (arith, c.rebalance_beside.ensures.keeps.levels); some_levels = omega (arith, c.requires.below, c.rebalance_beside.ensures.keeps.levels); count = c.rebalance_beside.ensures.keeps.count; inside = tt }

pub returns-then-not-joined-clause-goes : goal.returns-then-not-joined-clause-goes
returns-then-not-joined-clause-goes g c = record { up = λ no. c.in-Ok.ensures.above.up_is; same_levels = λ no. c.rebalance_beside.ensures.keeps.levels; same_root = λ no. c.rebalance_beside.ensures.keeps.root; levels = omega (arith, c.rebalance_beside.ensures.keeps.levels); some_levels = omega (arith, c.requires.below, c.rebalance_beside.ensures.keeps.levels); count = c.rebalance_beside.ensures.keeps.count; inside = c.in-Ok.ensures.above.inside }

pub returns-clause-goes : goal.returns-clause-goes
returns-clause-goes g c = record { up = λ no. c.in-Ok.ensures.above.up_is; same_levels = λ no. c.rebalance_beside.ensures.keeps.levels; same_root = λ no. c.rebalance_beside.ensures.keeps.root; levels = omega (arith, c.rebalance_beside.ensures.keeps.levels); some_levels = omega (arith, c.requires.below, c.rebalance_beside.ensures.keeps.levels); count = c.rebalance_beside.ensures.keeps.count; inside = c.in-Ok.ensures.above.inside }
