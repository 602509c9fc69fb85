use Rattle.std.proofs.Common.{◌≡◌, ◌∙◌, ℕ, List, length, refl, sym, ap, subst, arith}
use Rattle.std.specs.List.{flat_map}
use Rattle.std.proofs.lemmas.List.{length-map, take_all}
use Rattle.flat_mem.specs.Vec.{vec_mem_bytes}
use Rattle.volume_view.specs.Level.{item_of, items_of}
use Rattle.volume_view.specs.Walk.{children_in, IsInnerPage}
use Rattle.volume_view.proofs.LevelLemmas.{child_of, item_here, each_more, children_of_more, few_of_level, inner_all}
use Rattle.volume_view.proofs.levels.children_of.Goals as goal

pub returns-in_default-clause-none : goal.returns-in_default-clause-none
returns-in_default-clause-none g c = λ _ are.
    let parents = c.args.parents.now in
    c.in_default.ensures.none refl
    (subst (λ (b : List ℕ). IsInnerPage b c.args.pages c.args.least (item_of (child_of parents c.loop-j.j))) (sym c.loop-j.invariant.same) (are.each c.loop-j.j (item_of (child_of parents c.loop-j.j)) (item_here parents c.loop-j.j c.loop-j-test.true)))

pub returns-then-len-top-clause-none : goal.returns-then-len-top-clause-none
returns-then-len-top-clause-none g c = λ _ are.
    let so_far = c.loop-j.invariant in
    let more =
    children_of_more (vec_mem_bytes c.args.map.now) (vec_mem_bytes c.loop-j.map) c.in-Some.page c.args.parents.now c.loop-j.j c.loop-j.children.items c.add_children.new.children.items c.loop-j-test.true so_far.same c.in-Some.ensures.page
    c.in_ok-add_children.ensures so_far.children in
    let short = few_of_level (vec_mem_bytes c.args.map.now) c.args.parents.now c.loop-j.j c.add_children.new.children.items c.loop-j-test.true more in
    omega (arith, short, are.few, c.if-len-top.true, c.len.ensures)

pub loop-j-preserved : goal.loop-j-preserved
loop-j-preserved g c =
    let so_far = c.loop-j.invariant in
    let b = vec_mem_bytes c.args.map.now in
    let parents = c.args.parents.now in
    record {
      same = c.inner_page.ensures.same ∙ so_far.same;
      each =
          each_more (IsInnerPage b c.args.pages c.args.least) parents c.loop-j.j c.loop-j-test.true so_far.each
          (subst (λ (x : List ℕ). IsInnerPage x c.args.pages c.args.least (item_of (child_of parents c.loop-j.j))) so_far.same c.in-Some.ensures.inner);
      children =
          children_of_more b (vec_mem_bytes c.loop-j.map) c.in-Some.page parents c.loop-j.j c.loop-j.children.items c.add_children.new.children.items c.loop-j-test.true so_far.same c.in-Some.ensures.page
          c.in_ok-add_children.ensures so_far.children;
      few = omega (arith, c.if-len-top.false, c.len.ensures);
    }

pub returns-clause-inner : goal.returns-clause-inner
returns-clause-inner g c =
    let so_far = c.loop-j.invariant in
    inner_all (vec_mem_bytes c.args.map.now) c.args.pages c.args.top c.args.least c.args.parents.now c.loop-j.j c.loop-j.children.items (omega (arith, c.loop-j-test.false, c.loop-j.auto.j-end)) so_far.each so_far.children so_far.few

pub returns-clause-children : goal.returns-clause-children
returns-clause-children g c =
    let long : length (items_of c.args.parents.now) ≡ length c.args.parents.now = length-map c.args.parents.now item_of in
    c.loop-j.invariant.children
    ∙ ap (flat_map (children_in (vec_mem_bytes c.args.map.now))) (take_all c.loop-j.j (items_of c.args.parents.now) (omega (arith, long, c.loop-j-test.false, c.loop-j.auto.j-end)))
