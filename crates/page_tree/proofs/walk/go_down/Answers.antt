use Rattle.std.proofs.Common.{rules, inl, inr, ◌≡◌, ℕ, ◌+◌, ◌-◌, ◌/◌, ◌<◌, ◌≤◌, List, length, arith, refl, sym, ◌∙◌, ap, subst}
use Rattle.page_tree.specs.Page.{page_at, filled, link_at}
use Rattle.page_tree.specs.Tree.{node_at, before}
use Rattle.page_tree.specs.Path.{with_place, leaf_under}
use Rattle.page_tree.specs.Broken.{IsInnerForm}
use Rattle.page_tree.proofs.Descent.{affords, path_down, place_at_down, none_empty}
use Rattle.page_tree.proofs.MetLaws.{met_child, met_down, met_end, path_inside, link_broken}
use Rattle.page_tree.proofs.WalkLaws.{inner_is_form, inner_at, child_below, child_link, leaf_step, led_to, leaf_of_path}
use Rattle.page_tree.specs.Walked.{IsThread}
use Rattle.page_tree.proofs.Threads.{thread_down, coming_from, come_down, come_to}
use Rattle.page_tree.proofs.Calls.{looks_on, within}
use Rattle.page_tree.proofs.walk.go_down.Goals as goal

pub down-init : goal.down-init
down-init g c = record {
  order = (c.requires.place.some, omega arith);
  inside = c.requires.place.inside;
  some = λ some. some;
  unchanged = λ b h. h;
  led = λ b h records levels root nodes home rooted most path fits. (home, path, fits, refl);
  met = λ b h levels root most met path fits top. (met, path, fits, top);
  thread = λ b h levels root most thread. thread;
  coming = coming_from c.args.level c.args.at c.args.place c.args.path.now.pages c.args.path.now.index;
  path = λ levels inside. inside;
  kept = g.met.M.FlatMem.beside_itself _;
  looked = g.met.M.FlatMem.only_reads_itself _;
  cost = omega arith;
}

pub down-preserved : goal.down-preserved
down-preserved g c = record {
  order = (omega (arith, c.down-test.true), omega (arith, c.down.invariant.order.1));
  inside = omega (arith, c.if-child-pages.false, c.len.ensures);
  some = λ some. omega (arith, c.if-child-eq0.false);
  unchanged = λ b h. c.read_inner.ensures.looks.unchanged b (c.down.invariant.unchanged b h);
  led = λ b h records levels root nodes home rooted most path fits.
      let was = c.down.invariant.led b h records levels root nodes home rooted most path fits in
      let read = c.in-Ok.ensures.read b (c.down.invariant.unchanged b h) in
      let l = c.down.level in
      let next : c.down.level ≡ (c.down.level - 1) + 1 = omega (arith, c.down-test.true) in
      let some : 1 ≤ c.down.level - 1 = omega (arith, c.down-test.true) in
      let here : c.down.level ≤ levels = omega (arith, c.down.invariant.order.1, most) in
      let p_below = was.1.inside c.down.level (omega arith) here in
      let c_below = was.2 c.down-test.true in
      let q = before (nodes c.down.level) (was.0 c.down.level) + c.down.place in
      let there : before (nodes c.down.level) (was.0 c.down.level) + c.down.place < length (nodes (c.down.level - 1)) = child_below g.row.E g.row.K b records levels nodes rooted.tower c.down.level (was.0 c.down.level) c.down.place c.down-test.true here p_below c_below in
      let child : c.link_of-child.result ≡ (node_at (nodes (c.down.level - 1)) (before (nodes c.down.level) (was.0 c.down.level) + c.down.place)).page =
      c.link_of-child.ensures ∙ child_link g.row.E g.row.K b records levels nodes rooted.tower c.down.level (was.0 c.down.level) c.down.place c.down-test.true here p_below c_below c.read_inner.new.page (read ∙ ap (page_at b) was.1.here) in
      let home_is : with_place was.0 (c.down.level - 1) q (c.down.level - 1) ≡ q = place_at_down was.0 (c.down.level - 1) q in (
        with_place was.0 (c.down.level - 1) q,
        path_down nodes levels c.down.level (c.down.level - 1) _ _ c.down.at c.link_of-child.result c.down.place q was.0 was.1 next here c_below (search rules) (search rules) refl there child,
        λ above. subst (λ (i : ℕ). 0 < length (node_at (nodes (c.down.level - 1)) i).items) (sym home_is) (none_empty g.row.E g.row.K b records levels nodes rooted.tower (c.down.level - 1) some (omega (arith, here)) q there),
        ap (λ (i : ℕ). leaf_under nodes (c.down.level - 1) i 0) home_is ∙ leaf_step nodes c.down.level (c.down.level - 1) (was.0 c.down.level) c.down.place q next some refl ∙ was.3,
      );
  met = λ b h levels root most met path fits top.
      let was = c.down.invariant.met b h levels root most met path fits top in
      let read = c.in-Ok.ensures.read b (c.down.invariant.unchanged b h) in
      let form : IsInnerForm g.row.K (page_at b c.down.at) = subst (IsInnerForm g.row.K) read c.in-Ok.ensures.form.1 in
      let next : c.down.level ≡ (c.down.level - 1) + 1 = omega (arith, c.down-test.true) in
      let some : 1 ≤ c.down.level - 1 = omega (arith, c.down-test.true) in
      let here : c.down.level ≤ levels = omega (arith, c.down.invariant.order.1, most) in
      let within_page = was.2 c.down-test.true in (
        met_child g.row.K b levels c.down.level (c.down.level - 1) root c.down.path.pages c.down.path.index c.down.at c.down.place was.1 was.0 form within_page next some here (search rules) (search rules) was.3 c.link_of-child.result (c.link_of-child.ensures ∙ ap (λ (x : List ℕ). link_at g.row.K x c.down.place) read) (omega (arith, c.if-child-eq0.false)) (omega (arith, g.met.M.FlatMem.revealed_length c.args.mem.now b h, c.if-child-pages.false, c.len.ensures)),
        met_down g.row.K b levels c.down.level (c.down.level - 1) root c.down.path.pages c.down.path.index c.down.at c.down.place was.1 was.0 form within_page next some here (search rules) (search rules) was.3,
        λ above. omega arith,
        λ same. absurd (omega (arith, same, c.down-test.true, here)),
      );
  thread = λ b h levels root most thread.
      let was = c.down.invariant.thread b h levels root most thread in
      let read = c.in-Ok.ensures.read b (c.down.invariant.unchanged b h) in
      thread_down g.row.K b levels c.down.level (c.down.level - 1) root c.down.path.pages c.down.path.index c.down.at c.down.place c.link_of-child.result was (omega (arith, c.down-test.true)) (omega (arith, c.down.invariant.order.1, most)) (search rules) (search rules)
      (c.link_of-child.ensures ∙ ap (λ (x : List ℕ). link_at g.row.K x c.down.place) read);
  coming = come_down c.args.level c.args.at c.args.place c.args.path.now.pages c.args.path.now.index c.down.level (c.down.level - 1) c.down.at c.down.place c.link_of-child.result c.down.path.pages c.down.path.index (omega (arith, c.down-test.true)) c.down.invariant.order.1 (search rules) (search rules)
      c.down.invariant.coming;
  path = λ levels inside. path_inside c.down.level (c.down.level - 1) levels _ c.down.at c.down.path.pages (omega (arith, c.down-test.true)) c.down.invariant.inside (search rules) (c.down.invariant.path levels inside);
  kept = g.met.M.FlatMem.beside_through _ _ _ c.down.invariant.kept c.read_inner.ensures.looks.kept;
  looked = g.met.M.FlatMem.only_reads_through _ _ _ c.down.invariant.looked c.read_inner.ensures.looks.looked;
  cost = affords _ _ _ _ c.down.level (c.down.level - 1) (omega (arith, c.down-test.true)) c.read_inner.ensures.looks.cost c.down.invariant.cost;
}

pub returns-in-Err-clause-leaf : goal.returns-in-Err-clause-leaf
returns-in-Err-clause-leaf g c = λ b h records levels root nodes home rooted most path fits.
    let was = c.down.invariant.led b h records levels root nodes home rooted most path fits in
    let here : c.down.level ≤ levels = omega (arith, c.down.invariant.order.1, most) in
    let inner = inner_at g.row.E g.row.K b records levels nodes rooted.tower c.down.level (was.0 c.down.level) c.down.place c.down-test.true here (was.1.inside c.down.level (omega arith) here) (was.2 c.down-test.true) in
    c.in-Err.ensures.well b (c.down.invariant.unchanged b h) (subst (λ (i : ℕ). IsInnerForm g.row.K (page_at b i)) (sym was.1.here) (inner_is_form g.row.K _ _ inner))

pub returns-in-Err-clause-met : goal.returns-in-Err-clause-met
returns-in-Err-clause-met g c = λ b h levels root most met path fits top.
    let was = c.down.invariant.met b h levels root most met path fits top in
    c.in-Err.ensures.broken g.row.E c.down.level (g.M.FlatMem.size c.args.mem.now / 512) b (c.down.invariant.unchanged b h) c.down-test.true was.0

pub returns-then-place-count-clause-leaf : goal.returns-then-place-count-clause-leaf
returns-then-place-count-clause-leaf g c = λ b h records levels root nodes home rooted most path fits.
    let was = c.down.invariant.led b h records levels root nodes home rooted most path fits in
    let read = c.in-Ok.ensures.read b (c.down.invariant.unchanged b h) in
    let here : c.down.level ≤ levels = omega (arith, c.down.invariant.order.1, most) in
    let inner = inner_at g.row.E g.row.K b records levels nodes rooted.tower c.down.level (was.0 c.down.level) c.down.place c.down-test.true here (was.1.inside c.down.level (omega arith) here) (was.2 c.down-test.true) in
    absurd (omega (arith, c.if-place-count.true, c.in-Ok.ensures.form.0, ap filled (read ∙ ap (page_at b) was.1.here), inner.count, was.2 c.down-test.true))

pub returns-then-place-count-clause-met : goal.returns-then-place-count-clause-met
returns-then-place-count-clause-met g c = λ b h levels root most met path fits top.
    let was = c.down.invariant.met b h levels root most met path fits top in
    let read = c.in-Ok.ensures.read b (c.down.invariant.unchanged b h) in
    absurd (omega (arith, c.if-place-count.true, c.in-Ok.ensures.form.0, ap filled read, was.2 c.down-test.true))

pub returns-then-child-eq0-clause-leaf : goal.returns-then-child-eq0-clause-leaf
returns-then-child-eq0-clause-leaf g c = λ b h records levels root nodes home rooted most path fits.
    let was = c.down.invariant.led b h records levels root nodes home rooted most path fits in
    let read = c.in-Ok.ensures.read b (c.down.invariant.unchanged b h) in
    let here : c.down.level ≤ levels = omega (arith, c.down.invariant.order.1, most) in
    let p_below = was.1.inside c.down.level (omega arith) here in
    let c_below = was.2 c.down-test.true in
    let there = child_below g.row.E g.row.K b records levels nodes rooted.tower c.down.level (was.0 c.down.level) c.down.place c.down-test.true here p_below c_below in
    let child = c.link_of-child.ensures ∙ child_link g.row.E g.row.K b records levels nodes rooted.tower c.down.level (was.0 c.down.level) c.down.place c.down-test.true here p_below c_below c.read_inner.new.page (read ∙ ap (page_at b) was.1.here) in
    let inside = rooted.within (c.down.level - 1) (before (nodes c.down.level) (was.0 c.down.level) + c.down.place) (omega (arith, c.down-test.true)) (omega (arith, here)) there in
    elim c.then-child-eq0.either [
      | inl none ↦ absurd (omega (arith, none, child, inside.0))
      | inr past ↦ absurd (omega (arith, past.1, child, inside.1, c.len.ensures))
    ]

pub returns-then-child-eq0-clause-met : goal.returns-then-child-eq0-clause-met
returns-then-child-eq0-clause-met g c = λ b h levels root most met path fits top.
    let was = c.down.invariant.met b h levels root most met path fits top in
    let read = c.in-Ok.ensures.read b (c.down.invariant.unchanged b h) in
    let form : IsInnerForm g.row.K (page_at b c.down.at) = subst (IsInnerForm g.row.K) read c.in-Ok.ensures.form.1 in
    link_broken g.row.E g.row.K (g.M.FlatMem.size c.args.mem.now / 512) b c.down.level c.down.at c.down.place c.link_of-child.result was.0 c.down-test.true form (was.2 c.down-test.true) (c.link_of-child.ensures ∙ ap (λ (x : List ℕ). link_at g.row.K x c.down.place) read)
    (elim c.then-child-eq0.either [
      | inl none ↦ inl none
      | inr past ↦ inr (omega (arith, past.1, c.len.ensures))
    ])

pub returns-in-Err-read_leaf-clause-leaf : goal.returns-in-Err-read_leaf-clause-leaf
returns-in-Err-read_leaf-clause-leaf g c = λ b h records levels root nodes home rooted most path fits.
    let was = c.down.invariant.led b h records levels root nodes home rooted most path fits in
    let one : c.down.level ≡ 1 = omega (arith, c.down-test.false, c.down.invariant.order.0) in
    c.in-Err-read_leaf.ensures.well b (c.down.invariant.unchanged b h) (leaf_of_path g.row.E g.row.K _ b records levels root nodes rooted c.down.level c.down.at _ _ was.0 one (omega (arith, c.down.invariant.order.1, most)) was.1)

pub returns-clause-leaf : goal.returns-clause-leaf
returns-clause-leaf g c = λ b h records levels root nodes home rooted most path fits.
    let was = c.down.invariant.led b h records levels root nodes home rooted most path fits in
    let one : c.down.level ≡ 1 = omega (arith, c.down-test.false, c.down.invariant.order.0) in
    led_to b levels nodes c.read_leaf.new.page c.down.path.pages c.down.path.index c.down.level c.down.at _ c.down.place was.0 one was.1 was.3 (c.in-Ok-read_leaf.ensures.read b (c.down.invariant.unchanged b h))

pub returns-in-Err-read_leaf-clause-met : goal.returns-in-Err-read_leaf-clause-met
returns-in-Err-read_leaf-clause-met g c = λ b h levels root most met path fits top.
    let was = c.down.invariant.met b h levels root most met path fits top in
    let one : c.down.level ≡ 1 = omega (arith, c.down-test.false, c.down.invariant.order.0) in
    c.in-Err-read_leaf.ensures.broken (g.M.FlatMem.size c.args.mem.now / 512) b (c.down.invariant.unchanged b h) (met_end g.row.K b levels c.down.level root _ _ c.down.at one was.0 was.1).0

pub returns-clause-met : goal.returns-clause-met
returns-clause-met g c = λ b h levels root most met path fits top.
    let was = c.down.invariant.met b h levels root most met path fits top in
    let one : c.down.level ≡ 1 = omega (arith, c.down-test.false, c.down.invariant.order.0) in
    met_end g.row.K b levels c.down.level root _ _ c.down.at one was.0 was.1

pub returns-clause-thread : goal.returns-clause-thread
returns-clause-thread g c = λ b h levels root most thread.
    let one : c.down.level ≡ 1 = omega (arith, c.down-test.false, c.down.invariant.order.0) in
    subst (λ (m : ℕ). IsThread g.row.K b levels m root c.down.path.pages c.down.path.index c.down.at) one (c.down.invariant.thread b h levels root most thread)

pub returns-clause-down : goal.returns-clause-down
returns-clause-down g c =
    let one : c.down.level ≡ 1 = omega (arith, c.down-test.false, c.down.invariant.order.0) in
    come_to c.args.level c.args.at c.args.place c.args.path.now.pages c.args.path.now.index c.down.level c.down.at c.down.place c.down.path.pages c.down.path.index one c.down.invariant.coming

pub returns-in-Err-clause-looks : goal.returns-in-Err-clause-looks
returns-in-Err-clause-looks g c = looks_on g.M.FlatMem g.met.M.FlatMem.beside_through g.met.M.FlatMem.beside_itself g.met.M.FlatMem.accounted_wider g.met.M.FlatMem.only_reads_through c.down.invariant.unchanged c.down.invariant.kept c.down.invariant.looked c.read_inner.ensures.looks c.in-Err.ensures.looks.cause (within _ _ _ (affords _ _ _ _ c.down.level (c.down.level - 1) (omega (arith, c.down-test.true)) c.read_inner.ensures.looks.cost c.down.invariant.cost))

pub returns-then-place-count-clause-looks : goal.returns-then-place-count-clause-looks
returns-then-place-count-clause-looks g c = looks_on g.M.FlatMem g.met.M.FlatMem.beside_through g.met.M.FlatMem.beside_itself g.met.M.FlatMem.accounted_wider g.met.M.FlatMem.only_reads_through c.down.invariant.unchanged c.down.invariant.kept c.down.invariant.looked c.read_inner.ensures.looks tt (within _ _ _ (affords _ _ _ _ c.down.level (c.down.level - 1) (omega (arith, c.down-test.true)) c.read_inner.ensures.looks.cost c.down.invariant.cost))

pub returns-then-child-eq0-clause-looks : goal.returns-then-child-eq0-clause-looks
returns-then-child-eq0-clause-looks g c = looks_on g.M.FlatMem g.met.M.FlatMem.beside_through g.met.M.FlatMem.beside_itself g.met.M.FlatMem.accounted_wider g.met.M.FlatMem.only_reads_through c.down.invariant.unchanged c.down.invariant.kept c.down.invariant.looked c.read_inner.ensures.looks tt (within _ _ _ (affords _ _ _ _ c.down.level (c.down.level - 1) (omega (arith, c.down-test.true)) c.read_inner.ensures.looks.cost c.down.invariant.cost))

pub returns-in-Err-read_leaf-clause-looks : goal.returns-in-Err-read_leaf-clause-looks
returns-in-Err-read_leaf-clause-looks g c = looks_on g.M.FlatMem g.met.M.FlatMem.beside_through g.met.M.FlatMem.beside_itself g.met.M.FlatMem.accounted_wider g.met.M.FlatMem.only_reads_through c.down.invariant.unchanged c.down.invariant.kept c.down.invariant.looked c.read_leaf.ensures.looks c.in-Err-read_leaf.ensures.looks.cause (within _ _ _ (affords _ _ _ _ c.down.level (c.down.level - 1) (omega (arith, c.down.invariant.order)) c.read_leaf.ensures.looks.cost c.down.invariant.cost))

pub returns-clause-looks : goal.returns-clause-looks
returns-clause-looks g c = looks_on g.M.FlatMem g.met.M.FlatMem.beside_through g.met.M.FlatMem.beside_itself g.met.M.FlatMem.accounted_wider g.met.M.FlatMem.only_reads_through c.down.invariant.unchanged c.down.invariant.kept c.down.invariant.looked c.read_leaf.ensures.looks tt (within _ _ _ (affords _ _ _ _ c.down.level (c.down.level - 1) (omega (arith, c.down.invariant.order)) c.read_leaf.ensures.looks.cost c.down.invariant.cost))
