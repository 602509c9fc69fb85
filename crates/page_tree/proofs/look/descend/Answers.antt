use Rattle.std.proofs.Common.{rules, inl, inr, ◌≡◌, ℕ, ◌+◌, ◌-◌, ◌<◌, ◌≤◌, List, length, arith, refl, sym, ◌∙◌, ap, subst, ◌/◌}
use Rattle.page_tree.specs.Page.{page_at, filled, link_at}
use Rattle.page_tree.specs.Tree.{node_at, before}
use Rattle.page_tree.specs.Path.{with_place}
use Rattle.page_tree.proofs.Levels.{length-heads}
use Rattle.page_tree.proofs.Descent.{go_down, inner_page, reached_at, affords, child_inside, leaf, path_down, place_down, path_root, place_root}
use Rattle.page_tree.specs.Broken.{IsInnerForm, IsLeafForm}
use Rattle.page_tree.proofs.MetLaws.{met_root, met_child, met_down, met_end, inner_form, path_inside, inner_broken, link_broken, leaf_broken}
use Rattle.page_tree.proofs.Calls.{looks_on, within}
use Rattle.page_tree.proofs.look.descend.Goals as goal
use Rattle.page_tree.proofs.look.descend.Goals.{then-page-ne2-via-then-page-ne2, then-page-ne2-via-else-page-ne2+then-count-eq0, then-page-ne2-via-else-page-ne2+else-count-eq0+then-count}
use Rattle.page_tree.proofs.look.descend.Goals.{then-page-ne1-via-then-page-ne1, then-page-ne1-via-else-page-ne1+then-count-eq0-2, then-page-ne1-via-else-page-ne1+else-count-eq0-2+then-count-2}

pub returns-then-page-ne2-clause-leaf : goal.returns-then-page-ne2-clause-leaf
returns-then-page-ne2-clause-leaf g c = λ b h records nodes rooted.
    let was = c.descent.invariant.place b h records nodes rooted in
    let read = c.in_ok-load.ensures.read b (c.descent.invariant.unchanged b h) in
    let inner = inner_page g.row.E g.row.K b records c.args.levels nodes rooted.tower c.descent.level (was.0 c.descent.level) c.args.key.now c.load.new.page c.descent.at c.descent-test.true c.descent.invariant.order.1 was.1 was.2.here read in
    elim c.then-page-ne2.branch [
      | then-page-ne2-via-then-page-ne2 w ↦ absurd (w.if-page-ne2.true inner.kind)
      | then-page-ne2-via-else-page-ne2+then-count-eq0 w ↦ absurd (omega (arith, inner.count, inner.some, w.if-count-eq0.true, c.filled_of-count.ensures))
      | then-page-ne2-via-else-page-ne2+else-count-eq0+then-count w ↦ absurd (omega (arith, inner.count, inner.most, w.if-count.true, c.filled_of-count.ensures))
    ]

pub returns-then-child-eq0-clause-leaf : goal.returns-then-child-eq0-clause-leaf
returns-then-child-eq0-clause-leaf g c = λ b h records nodes rooted.
    let was = c.descent.invariant.place b h records nodes rooted in
    let read = c.in_ok-load.ensures.read b (c.descent.invariant.unchanged b h) in
    let within_page : c.count_at_most-place.result ≤ filled c.load.new.page = omega (arith, c.count_at_most-place.ensures.below, c.filled_of-count.ensures) in
    let down = go_down g.row.E g.row.K b records c.args.levels nodes rooted.tower c.descent.level (was.0 c.descent.level) c.args.key.now c.load.new.page c.descent-test.true c.descent.invariant.order.1 was.1 (read ∙ ap (page_at b) was.2.here)
    c.count_at_most-place.result within_page c.count_at_most-place.ensures.holds (λ (more : c.count_at_most-place.result < filled c.load.new.page). c.count_at_most-place.ensures.above (omega (arith, more, c.filled_of-count.ensures))) in
    let inside = child_inside _ nodes c.args.levels rooted.within (c.descent.level - 1) (before (nodes c.descent.level) (was.0 c.descent.level) + c.count_at_most-place.result) c.link_of-child.result c.args.key.now (omega (arith, c.descent-test.true)) (omega (arith, c.descent.invariant.order.1)) down.1 (c.link_of-child.ensures ∙ down.2) in
    elim c.then-child-eq0.either [
      | inl none ↦ absurd (omega (arith, none, inside.0))
      | inr past ↦ absurd (omega (arith, past.1, inside.1, c.len.ensures))
    ]

pub descent-preserved : goal.descent-preserved
descent-preserved g c = record {
  order = (omega (arith, c.descent-test.true), omega (arith, c.descent.invariant.order.1));
  inside = omega (arith, c.if-child-pages.false, c.len.ensures);
  unchanged = λ b h. c.load.ensures.looks.unchanged b (c.descent.invariant.unchanged b h);
  place = λ b h records nodes rooted.
      let was = c.descent.invariant.place b h records nodes rooted in
      let read = c.in_ok-load.ensures.read b (c.descent.invariant.unchanged b h) in
      let within_page : c.count_at_most-place.result ≤ filled c.load.new.page = omega (arith, c.count_at_most-place.ensures.below, c.filled_of-count.ensures) in
      let down = go_down g.row.E g.row.K b records c.args.levels nodes rooted.tower c.descent.level (was.0 c.descent.level) c.args.key.now c.load.new.page c.descent-test.true c.descent.invariant.order.1 was.1 (read ∙ ap (page_at b) was.2.here)
      c.count_at_most-place.result within_page c.count_at_most-place.ensures.holds (λ (more : c.count_at_most-place.result < filled c.load.new.page). c.count_at_most-place.ensures.above (omega (arith, more, c.filled_of-count.ensures))) in
      let child : c.link_of-child.result ≡ (node_at (nodes (c.descent.level - 1)) (before (nodes c.descent.level) (was.0 c.descent.level) + c.count_at_most-place.result)).page = c.link_of-child.ensures ∙ down.2 in
      let next : c.descent.level ≡ (c.descent.level - 1) + 1 = omega (arith, c.descent-test.true) in
      let inside : before (nodes c.descent.level) (was.0 c.descent.level) + c.count_at_most-place.result < length (nodes (c.descent.level - 1)) = omega (arith, down.1.below, length-heads (nodes (c.descent.level - 1))) in
      let q = before (nodes c.descent.level) (was.0 c.descent.level) + c.count_at_most-place.result in (
        with_place was.0 (c.descent.level - 1) q,
        place_down nodes c.args.levels c.descent.level (c.descent.level - 1) _ _ c.descent.at c.link_of-child.result c.count_at_most-place.result q was.0 was.2 next c.descent.invariant.order.1 down.0 (search rules) (search rules) refl inside child c.args.key.now down.1,
        path_down nodes c.args.levels c.descent.level (c.descent.level - 1) _ _ c.descent.at c.link_of-child.result c.count_at_most-place.result q was.0 was.2 next c.descent.invariant.order.1 down.0 (search rules) (search rules) refl inside child,
      );
  met = λ b h top.
      let was = c.descent.invariant.met b h top in
      let read = c.in_ok-load.ensures.read b (c.descent.invariant.unchanged b h) in
      let form = inner_form g.row.K b c.load.new.page c.descent.at read c.if-page-ne2.false (omega arith) (omega arith) in
      let within_page : c.count_at_most-place.result ≤ filled (page_at b c.descent.at) = omega (arith, c.count_at_most-place.ensures.below, c.filled_of-count.ensures, ap filled read) in
      let next : c.descent.level ≡ (c.descent.level - 1) + 1 = omega (arith, c.descent-test.true) in (
        met_child g.row.K b c.args.levels c.descent.level (c.descent.level - 1) c.args.root c.descent.path.pages c.descent.path.index c.descent.at c.count_at_most-place.result was.1 was.0 form within_page next (omega (arith, c.descent-test.true)) c.descent.invariant.order.1 (search rules) (search rules) was.2 c.link_of-child.result (c.link_of-child.ensures ∙ ap (λ (x : List ℕ). link_at g.row.K x c.count_at_most-place.result) read) (omega (arith, c.if-child-eq0.false)) (omega (arith, g.met.M.FlatMem.revealed_length c.args.mem.now b h, c.if-child-pages.false, c.len.ensures)),
        met_down g.row.K b c.args.levels c.descent.level (c.descent.level - 1) c.args.root c.descent.path.pages c.descent.path.index c.descent.at c.count_at_most-place.result was.1 was.0 form within_page next (omega (arith, c.descent-test.true)) c.descent.invariant.order.1 (search rules) (search rules) was.2,
        λ same. absurd (omega (arith, same, c.descent-test.true, c.descent.invariant.order.1)),
      );
  path = path_inside c.descent.level (c.descent.level - 1) c.args.levels _ c.descent.at c.descent.path.pages (omega (arith, c.descent-test.true)) c.descent.invariant.inside (search rules) c.descent.invariant.path;
  kept = g.met.M.FlatMem.beside_through _ _ _ c.descent.invariant.kept c.load.ensures.looks.kept;
  looked = g.met.M.FlatMem.only_reads_through _ _ _ c.descent.invariant.looked c.load.ensures.looks.looked;
  cost = affords _ _ _ _ c.descent.level (c.descent.level - 1) (omega (arith, c.descent-test.true)) c.load.ensures.looks.cost c.descent.invariant.cost;
}

pub returns-then-page-ne1-clause-leaf : goal.returns-then-page-ne1-clause-leaf
returns-then-page-ne1-clause-leaf g c = λ b h records nodes rooted.
    let was = c.descent.invariant.place b h records nodes rooted in
    let read = c.in_ok-load-2.ensures.read b (c.descent.invariant.unchanged b h) in
    let reached = reached_at b c.args.levels nodes c.descent.level was.0 c.args.key.now c.load-2.new.page c.descent.path.pages c.descent.path.index c.descent.at (omega (arith, c.descent-test.false, c.descent.invariant.order.0)) was.1 was.2 read in
    let here = leaf g.row.E g.row.K b records c.args.levels nodes rooted.tower c.requires.place.some c.args.key.now c.load-2.new.page c.descent.path.pages c.descent.path.index c.descent.at reached in
    elim c.then-page-ne1.branch [
      | then-page-ne1-via-then-page-ne1 w ↦ absurd (w.if-page-ne1.true here.kind)
      | then-page-ne1-via-else-page-ne1+then-count-eq0-2 w ↦ absurd (omega (arith, here.count, here.some, w.if-count-eq0-2.true, c.filled_of-count-2.ensures))
      | then-page-ne1-via-else-page-ne1+else-count-eq0-2+then-count-2 w ↦ absurd (omega (arith, here.count, here.most, w.if-count-2.true, c.filled_of-count-2.ensures))
    ]

pub returns-clause-leaf : goal.returns-clause-leaf
returns-clause-leaf g c = λ b h records nodes rooted.
    let was = c.descent.invariant.place b h records nodes rooted in
    let read = c.in_ok-load-2.ensures.read b (c.descent.invariant.unchanged b h) in
    reached_at b c.args.levels nodes c.descent.level was.0 c.args.key.now c.load-2.new.page c.descent.path.pages c.descent.path.index c.descent.at (omega (arith, c.descent-test.false, c.descent.invariant.order.0)) was.1 was.2 read

pub returns-then-page-ne2-clause-broken : goal.returns-then-page-ne2-clause-broken
returns-then-page-ne2-clause-broken g c = λ b h top.
    let was = c.descent.invariant.met b h top in
    let read = c.in_ok-load.ensures.read b (c.descent.invariant.unchanged b h) in
    inner_broken g.row.E g.row.K (g.M.FlatMem.size c.args.mem.now / 512) b c.descent.level c.descent.at was.0 c.descent-test.true (λ form.
    let inner = subst (IsInnerForm g.row.K) (sym read) form in
    elim c.then-page-ne2.branch [
      | then-page-ne2-via-then-page-ne2 w ↦ absurd (w.if-page-ne2.true inner.kind)
      | then-page-ne2-via-else-page-ne2+then-count-eq0 w ↦ absurd (omega (arith, inner.some, w.if-count-eq0.true, c.filled_of-count.ensures))
      | then-page-ne2-via-else-page-ne2+else-count-eq0+then-count w ↦ absurd (omega (arith, inner.most, w.if-count.true, c.filled_of-count.ensures))
    ])

pub returns-then-child-eq0-clause-broken : goal.returns-then-child-eq0-clause-broken
returns-then-child-eq0-clause-broken g c = λ b h top.
    let was = c.descent.invariant.met b h top in
    let read = c.in_ok-load.ensures.read b (c.descent.invariant.unchanged b h) in
    let form = inner_form g.row.K b c.load.new.page c.descent.at read c.if-page-ne2.false (omega arith) (omega arith) in
    let within_page : c.count_at_most-place.result ≤ filled (page_at b c.descent.at) = omega (arith, c.count_at_most-place.ensures.below, c.filled_of-count.ensures, ap filled read) in
    let named : c.link_of-child.result ≡ link_at g.row.K (page_at b c.descent.at) c.count_at_most-place.result = c.link_of-child.ensures ∙ ap (λ (x : List ℕ). link_at g.row.K x c.count_at_most-place.result) read in
    link_broken g.row.E g.row.K (g.M.FlatMem.size c.args.mem.now / 512) b c.descent.level c.descent.at c.count_at_most-place.result c.link_of-child.result was.0 c.descent-test.true form within_page named
    (elim c.then-child-eq0.either [
      | inl none ↦ inl none
      | inr past ↦ inr (omega (arith, past.1, c.len.ensures))
    ])

pub returns-then-page-ne1-clause-broken : goal.returns-then-page-ne1-clause-broken
returns-then-page-ne1-clause-broken g c = λ b h top.
    let was = c.descent.invariant.met b h top in
    let read = c.in_ok-load-2.ensures.read b (c.descent.invariant.unchanged b h) in
    leaf_broken g.row.E g.row.K (g.M.FlatMem.size c.args.mem.now / 512) b c.descent.level c.descent.at (omega (arith, c.descent-test.false, c.descent.invariant.order.0)) was.0 (λ form.
    let here = subst (IsLeafForm g.row.E) (sym read) form in
    elim c.then-page-ne1.branch [
      | then-page-ne1-via-then-page-ne1 w ↦ absurd (w.if-page-ne1.true here.kind)
      | then-page-ne1-via-else-page-ne1+then-count-eq0-2 w ↦ absurd (omega (arith, here.some, w.if-count-eq0-2.true, c.filled_of-count-2.ensures))
      | then-page-ne1-via-else-page-ne1+else-count-eq0-2+then-count-2 w ↦ absurd (omega (arith, here.most, w.if-count-2.true, c.filled_of-count-2.ensures))
    ])

pub returns-clause-met : goal.returns-clause-met
returns-clause-met g c = λ b h top.
    let was = c.descent.invariant.met b h top in
    met_end g.row.K b c.args.levels c.descent.level c.args.root _ _ c.descent.at (omega (arith, c.descent-test.false, c.descent.invariant.order.0)) was.0 was.1

pub descent-init : goal.descent-init
descent-init g c = record {
  order = (c.requires.place.some, omega arith);
  inside = c.requires.place.inside;
  unchanged = λ b h. h;
  place = λ b h records nodes rooted. ((λ m. 0), place_root nodes c.args.levels c.args.key.now rooted.one, path_root nodes c.args.levels _ _ c.args.root rooted.one rooted.root_is);
  met = λ b h top. (top, met_root g.row.K b c.args.levels c.args.root _ _, λ same. refl);
  path = λ n from most. absurd (omega (arith, from, most));
  kept = g.met.M.FlatMem.beside_itself _;
  looked = g.met.M.FlatMem.only_reads_itself _;
  cost = omega arith;
}

pub returns-then-child-eq0-clause-looks : goal.returns-then-child-eq0-clause-looks
returns-then-child-eq0-clause-looks g c =
    looks_on g.M.FlatMem g.met.M.FlatMem.beside_through g.met.M.FlatMem.beside_itself g.met.M.FlatMem.accounted_wider g.met.M.FlatMem.only_reads_through c.descent.invariant.unchanged c.descent.invariant.kept c.descent.invariant.looked c.load.ensures.looks tt
    (within _ _ _ (affords _ _ _ _ c.descent.level (c.descent.level - 1) (omega (arith, c.descent-test.true)) c.load.ensures.looks.cost c.descent.invariant.cost))

pub returns-in_err-load-clause-looks : goal.returns-in_err-load-clause-looks
returns-in_err-load-clause-looks g c = looks_on g.M.FlatMem g.met.M.FlatMem.beside_through g.met.M.FlatMem.beside_itself g.met.M.FlatMem.accounted_wider g.met.M.FlatMem.only_reads_through c.descent.invariant.unchanged c.descent.invariant.kept c.descent.invariant.looked c.load.ensures.looks (search rules) (within _ _ _ (affords _ _ _ _ c.descent.level (c.descent.level - 1) (omega (arith, c.descent-test.true)) c.load.ensures.looks.cost c.descent.invariant.cost))

pub returns-then-page-ne2-clause-looks : goal.returns-then-page-ne2-clause-looks
returns-then-page-ne2-clause-looks g c = looks_on g.M.FlatMem g.met.M.FlatMem.beside_through g.met.M.FlatMem.beside_itself g.met.M.FlatMem.accounted_wider g.met.M.FlatMem.only_reads_through c.descent.invariant.unchanged c.descent.invariant.kept c.descent.invariant.looked c.load.ensures.looks tt (within _ _ _ (affords _ _ _ _ c.descent.level (c.descent.level - 1) (omega (arith, c.descent-test.true)) c.load.ensures.looks.cost c.descent.invariant.cost))

pub returns-in_err-load-2-clause-looks : goal.returns-in_err-load-2-clause-looks
returns-in_err-load-2-clause-looks g c = looks_on g.M.FlatMem g.met.M.FlatMem.beside_through g.met.M.FlatMem.beside_itself g.met.M.FlatMem.accounted_wider g.met.M.FlatMem.only_reads_through c.descent.invariant.unchanged c.descent.invariant.kept c.descent.invariant.looked c.load-2.ensures.looks (search rules) (within _ _ _ (affords _ _ _ _ c.descent.level (c.descent.level - 1) (omega (arith, c.descent.invariant.order)) c.load-2.ensures.looks.cost c.descent.invariant.cost))

pub returns-then-page-ne1-clause-looks : goal.returns-then-page-ne1-clause-looks
returns-then-page-ne1-clause-looks g c = looks_on g.M.FlatMem g.met.M.FlatMem.beside_through g.met.M.FlatMem.beside_itself g.met.M.FlatMem.accounted_wider g.met.M.FlatMem.only_reads_through c.descent.invariant.unchanged c.descent.invariant.kept c.descent.invariant.looked c.load-2.ensures.looks tt (within _ _ _ (affords _ _ _ _ c.descent.level (c.descent.level - 1) (omega (arith, c.descent.invariant.order)) c.load-2.ensures.looks.cost c.descent.invariant.cost))

pub returns-clause-looks : goal.returns-clause-looks
returns-clause-looks g c = looks_on g.M.FlatMem g.met.M.FlatMem.beside_through g.met.M.FlatMem.beside_itself g.met.M.FlatMem.accounted_wider g.met.M.FlatMem.only_reads_through c.descent.invariant.unchanged c.descent.invariant.kept c.descent.invariant.looked c.load-2.ensures.looks tt (within _ _ _ (affords _ _ _ _ c.descent.level (c.descent.level - 1) (omega (arith, c.descent.invariant.order)) c.load-2.ensures.looks.cost c.descent.invariant.cost))
