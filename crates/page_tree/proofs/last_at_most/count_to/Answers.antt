use Rattle.std.proofs.Common.{◌≡◌, ℕ, ◌+◌, ◌/◌, ◌<◌, ◌≤◌, [], ◌∷◌, ◌++◌, arith, refl, sym, ◌∙◌, ap, subst}
use Rattle.page_tree.specs.Page.{filled}
use Rattle.page_tree.specs.Tree.{IsRooted}
use Rattle.page_tree.proofs.FormLaws.{root_met}
use Rattle.page_tree.proofs.PlacedLaws.{few_leaves, walks}
use Rattle.page_tree.proofs.WalkedLaws.{fewer_passed}
use Rattle.page_tree.proofs.CountLaws.{leaves_more, crowd_broken}
use Rattle.page_tree.proofs.CountedLaws.{leaf_room_most, led_counted, led_all, led_low, led_total}
use Rattle.page_tree.proofs.Calls.{looks_on, walk_done, walk_most, looks_as}
use Rattle.page_tree.proofs.last_at_most.count_to.Goals as goal

pub leaves-init : goal.leaves-init
leaves-init g c = record {
  led = λ b h records nodes rooted first start. (first, start, refl, λ j less. absurd (omega (arith, less)));
  walked = λ b h root first start. (first, [], start, refl);
  path = rw (g.met.M.FlatMem.same_size _ _ c.first_leaf.ensures.looks.kept) at c.in-Ok.ensures.path;
  few = omega arith;
  small = omega arith;
  form = c.in-Ok.ensures.form;
  unchanged = λ b h. h;
  kept = g.met.M.FlatMem.beside_itself _;
  looked = g.met.M.FlatMem.only_reads_itself _;
  cost = omega arith;
}

pub overflow_cast-total : goal.overflow_cast-total
overflow_cast-total g c = omega (arith, c.count_at_most-place.ensures.below, c.filled_of-count.ensures, c.leaves.invariant.form.most, leaf_room_most g.row.E c.requires.sized.widths.entry_least)

pub overflow_add-total : goal.overflow_add-total
overflow_add-total g c =
    omega (arith, c.count_at_most-place.ensures.below, c.filled_of-count.ensures, c.leaves.invariant.form.most, leaf_room_most g.row.E c.requires.sized.widths.entry_least, c.leaves.invariant.small, c.leaves-test.true, c.len.ensures, c.requires.sized.small)

pub leaves-preserved : goal.leaves-preserved
leaves-preserved g c = record {
  led = λ b h records nodes rooted first start.
      let was = c.leaves.invariant.led b h records nodes rooted first start in
      let some : 0 < c.args.header.levels = omega (arith, c.requires.rooted.some) in
      let revealed = c.leaves.invariant.unchanged b h in
      let rooted_now = subst (λ (s : ℕ). IsRooted g.row.E g.row.K (s / 512) b records c.args.header.levels c.args.header.root nodes) (g.met.M.FlatMem.same_size _ _ c.leaves.invariant.kept) rooted in
      let on = rw c.in-Some.is at (c.in-Ok-next_leaf.ensures.leaf b revealed records c.args.header.root was.0 nodes was.1.home rooted_now was.1.path) in
      let all : c.count_at_most-place.result ≡ filled c.leaves.page = omega (arith, c.if-place-count.false, c.filled_of-count.ensures, c.count_at_most-place.ensures.below) in
      let within : g.row.K ≤ g.row.E = omega (arith, c.requires.sized.widths.key_most, c.requires.sized.widths.entry_least) in (
        _,
        record { home = on.home; path = on.path; home_is = on.home_is ∙ ap (λ (i : ℕ). i + 1) was.1.home_is; bytes = on.bytes },
        led_total g.row.E g.row.K b records c.args.header.levels nodes rooted.tower some c.leaves.page c.leaves.path.pages c.leaves.path.index was.0 c.leaves.passed was.1 c.args.key.now was.3 c.leaves.total was.2 within c.count_at_most-place.result (omega (arith, all)) c.count_at_most-place.ensures.holds
            (λ less. absurd (omega (arith, less, all))) all,
        led_low g.row.E g.row.K b records c.args.header.levels nodes rooted.tower some c.leaves.page c.leaves.path.pages c.leaves.path.index was.0 c.leaves.passed was.1 c.args.key.now was.3 c.leaves.total was.2 within c.count_at_most-place.result (omega (arith, all)) c.count_at_most-place.ensures.holds
            (λ less. absurd (omega (arith, less, all))) all,
      );
  walked = λ b h root first start.
      let was = c.leaves.invariant.walked b h root first start in
      let on = rw c.in-Some.is at (c.in-Ok-next_leaf.ensures.walked b (c.leaves.invariant.unchanged b h) root was.0 was.1 was.2) in
      (_, was.1 ++ was.0 ∷ [], on, leaves_more was.1 was.0 ∙ ap (λ (n : ℕ). n + 1) was.3);
  path = rw (g.met.M.FlatMem.same_size _ _ c.leaves.invariant.kept) c.in-Ok-next_leaf.ensures.path;
  few = omega (arith, c.leaves-test.true);
  small = omega (arith, c.leaves.invariant.small, c.count_at_most-place.ensures.below, c.filled_of-count.ensures, c.leaves.invariant.form.most, leaf_room_most g.row.E c.requires.sized.widths.entry_least);
  form = rw c.in-Some.is at c.in-Ok-next_leaf.ensures.form;
  unchanged = λ b h. c.next_leaf.ensures.looks.unchanged b (c.leaves.invariant.unchanged b h);
  kept = g.met.M.FlatMem.beside_through _ _ _ c.leaves.invariant.kept c.next_leaf.ensures.looks.kept;
  looked = g.met.M.FlatMem.only_reads_through _ _ _ c.leaves.invariant.looked c.next_leaf.ensures.looks.looked;
  cost = walks _ _ _ g.M.FlatMem.cost c.leaves.passed c.leaves.invariant.cost c.next_leaf.ensures.looks.cost;
}

pub returns-in-Err-clause-counted : goal.returns-in-Err-clause-counted
returns-in-Err-clause-counted g c = λ b h records here. c.in-Err.ensures.leaf b h records here.nodes here.rooted

pub returns-in-Err-clause-broken : goal.returns-in-Err-clause-broken
returns-in-Err-clause-broken g c = λ b h is. c.in-Err.ensures.walked b h (root_met g.row.K b (g.M.FlatMem.size c.args.mem.now) c.args.header.levels c.args.header.root (g.met.M.FlatMem.revealed_length c.args.mem.now b h) c.requires.rooted.begins c.requires.rooted.some (sym is.levels_is) (sym is.root_is))

pub returns-then-place-count-clause-counted : goal.returns-then-place-count-clause-counted
returns-then-place-count-clause-counted g c = λ b h records here.
    let some : 0 < c.args.header.levels = omega (arith, c.requires.rooted.some) in
    let rooted_now = subst (λ (s : ℕ). IsRooted g.row.E g.row.K (s / 512) b records c.args.header.levels c.args.header.root here.nodes) (g.met.M.FlatMem.same_size _ _ c.first_leaf.ensures.looks.kept) here.rooted in
    let was = c.leaves.invariant.led b (c.first_leaf.ensures.looks.unchanged b h) records here.nodes rooted_now _ (c.in-Ok.ensures.leaf b h records here.nodes here.rooted) in
    let within : g.row.K ≤ g.row.E = omega (arith, c.requires.sized.widths.key_most, c.requires.sized.widths.entry_least) in
    led_counted g.row.E g.row.K b records c.args.header.levels here.nodes here.rooted.tower some c.leaves.page c.leaves.path.pages c.leaves.path.index was.0 c.leaves.passed was.1 c.args.key.now was.3 c.leaves.total was.2 within c.count_at_most-place.result
    (omega (arith, c.filled_of-count.ensures, c.count_at_most-place.ensures.below)) c.count_at_most-place.ensures.holds (λ less. c.count_at_most-place.ensures.above c.if-place-count.true) (omega (arith, c.if-place-count.true, c.filled_of-count.ensures))

pub returns-in-Err-next_leaf-clause-counted : goal.returns-in-Err-next_leaf-clause-counted
returns-in-Err-next_leaf-clause-counted g c = λ b h records here.
    let size = g.met.M.FlatMem.same_size _ _ c.first_leaf.ensures.looks.kept in
    let size_now = g.met.M.FlatMem.same_size _ _ c.leaves.invariant.kept in
    let revealed = c.first_leaf.ensures.looks.unchanged b h in
    let rooted_first = subst (λ (s : ℕ). IsRooted g.row.E g.row.K (s / 512) b records c.args.header.levels c.args.header.root here.nodes) size here.rooted in
    let rooted_now = subst (λ (s : ℕ). IsRooted g.row.E g.row.K (s / 512) b records c.args.header.levels c.args.header.root here.nodes) (size ∙ size_now) here.rooted in
    let was = c.leaves.invariant.led b revealed records here.nodes rooted_first _ (c.in-Ok.ensures.leaf b h records here.nodes here.rooted) in
    c.in-Err-next_leaf.ensures.leaf b (c.leaves.invariant.unchanged b revealed) records c.args.header.root was.0 here.nodes was.1.home rooted_now was.1.path

pub returns-in-Err-next_leaf-clause-broken : goal.returns-in-Err-next_leaf-clause-broken
returns-in-Err-next_leaf-clause-broken g c = λ b h is.
    let revealed = c.first_leaf.ensures.looks.unchanged b h in
    let size = g.met.M.FlatMem.same_size _ _ c.first_leaf.ensures.looks.kept in
    let size_now = g.met.M.FlatMem.same_size _ _ c.leaves.invariant.kept in
    let start = c.in-Ok.ensures.walked b h (root_met g.row.K b (g.M.FlatMem.size c.args.mem.now) c.args.header.levels c.args.header.root (g.met.M.FlatMem.revealed_length c.args.mem.now b h) c.requires.rooted.begins c.requires.rooted.some (sym is.levels_is) (sym is.root_is)) in
    let was = c.leaves.invariant.walked b revealed c.args.header.root _ start in
    rw (size ∙ size_now) (c.in-Err-next_leaf.ensures.walked b (c.leaves.invariant.unchanged b revealed) c.args.header.root was.0 was.1 was.2)

pub returns-in-None-clause-counted : goal.returns-in-None-clause-counted
returns-in-None-clause-counted g c = λ b h records here.
    let some : 0 < c.args.header.levels = omega (arith, c.requires.rooted.some) in
    let size = g.met.M.FlatMem.same_size _ _ c.first_leaf.ensures.looks.kept in
    let size_now = g.met.M.FlatMem.same_size _ _ c.leaves.invariant.kept in
    let revealed = c.first_leaf.ensures.looks.unchanged b h in
    let rooted_first = subst (λ (s : ℕ). IsRooted g.row.E g.row.K (s / 512) b records c.args.header.levels c.args.header.root here.nodes) size here.rooted in
    let rooted_now = subst (λ (s : ℕ). IsRooted g.row.E g.row.K (s / 512) b records c.args.header.levels c.args.header.root here.nodes) (size ∙ size_now) here.rooted in
    let was = c.leaves.invariant.led b revealed records here.nodes rooted_first _ (c.in-Ok.ensures.leaf b h records here.nodes here.rooted) in
    let last = rw c.in-None.is at (c.in-Ok-next_leaf.ensures.leaf b (c.leaves.invariant.unchanged b revealed) records c.args.header.root was.0 here.nodes was.1.home rooted_now was.1.path) in
    let all : c.count_at_most-place.result ≡ filled c.leaves.page = omega (arith, c.if-place-count.false, c.filled_of-count.ensures, c.count_at_most-place.ensures.below) in
    let within : g.row.K ≤ g.row.E = omega (arith, c.requires.sized.widths.key_most, c.requires.sized.widths.entry_least) in
    led_all g.row.E g.row.K b records c.args.header.levels here.nodes here.rooted.tower some c.leaves.page c.leaves.path.pages c.leaves.path.index was.0 c.leaves.passed was.1 c.args.key.now was.3 c.leaves.total was.2 within c.count_at_most-place.result
    (omega (arith, all)) c.count_at_most-place.ensures.holds (λ less. absurd (omega (arith, less, all))) all last

pub returns-clause-counted : goal.returns-clause-counted
returns-clause-counted g c = λ b h records here.
    let some : 0 < c.args.header.levels = omega (arith, c.requires.rooted.some) in
    let rooted_now = subst (λ (s : ℕ). IsRooted g.row.E g.row.K (s / 512) b records c.args.header.levels c.args.header.root here.nodes) (g.met.M.FlatMem.same_size _ _ c.first_leaf.ensures.looks.kept) here.rooted in
    let was = c.leaves.invariant.led b (c.first_leaf.ensures.looks.unchanged b h) records here.nodes rooted_now _ (c.in-Ok.ensures.leaf b h records here.nodes here.rooted) in
    absurd (omega (arith, was.1.path.inside 1 (omega arith) (omega (arith, some)), was.1.home_is, few_leaves c.args.header.levels here.nodes here.free c.args.header.top _ here.shared some here.top_below, c.leaves-test.false, c.len.ensures))

pub returns-clause-broken : goal.returns-clause-broken
returns-clause-broken g c = λ b h is.
    let start = c.in-Ok.ensures.walked b h (root_met g.row.K b (g.M.FlatMem.size c.args.mem.now) c.args.header.levels c.args.header.root (g.met.M.FlatMem.revealed_length c.args.mem.now b h) c.requires.rooted.begins c.requires.rooted.some (sym is.levels_is) (sym is.root_is)) in
    let was = c.leaves.invariant.walked b (c.first_leaf.ensures.looks.unchanged b h) c.args.header.root _ start in
    crowd_broken g.row.K b c.args.header.levels c.args.header.root is.levels_is is.root_is g.row.E _ was.1 (fewer_passed g.row.K b c.args.header.levels c.args.header.root _ _ was.0 was.1 c.requires.rooted.some was.2) (omega (arith, was.3, c.leaves-test.false, c.len.ensures))

pub returns-in-Err-next_leaf-clause-looks : goal.returns-in-Err-next_leaf-clause-looks
returns-in-Err-next_leaf-clause-looks g c =
    looks_on g.M.FlatMem g.met.M.FlatMem.beside_through g.met.M.FlatMem.beside_itself g.met.M.FlatMem.accounted_wider g.met.M.FlatMem.only_reads_through (λ b h. c.leaves.invariant.unchanged b (c.first_leaf.ensures.looks.unchanged b h)) (g.met.M.FlatMem.beside_through _ _ _ c.first_leaf.ensures.looks.kept c.leaves.invariant.kept) (g.met.M.FlatMem.only_reads_through _ _ _ c.first_leaf.ensures.looks.looked c.leaves.invariant.looked)
    c.next_leaf.ensures.looks c.in-Err-next_leaf.ensures.looks.cause
    (walk_most _ _ _ c.leaves.passed (g.M.FlatMem.size c.args.mem.now / 512) g.M.FlatMem.cost c.first_leaf.ensures.looks.cost c.leaves.invariant.cost _ c.next_leaf.ensures.looks.cost (omega (arith, c.leaves-test.true, c.len.ensures, c.requires.sized.small)))

pub returns-clause-looks : goal.returns-clause-looks
returns-clause-looks g c = record {
  unchanged = λ b h. c.leaves.invariant.unchanged b (c.first_leaf.ensures.looks.unchanged b h);
  kept = g.met.M.FlatMem.beside_through _ _ _ c.first_leaf.ensures.looks.kept c.leaves.invariant.kept;
  looked = g.met.M.FlatMem.only_reads_through _ _ _ c.first_leaf.ensures.looks.looked c.leaves.invariant.looked;
  cause = tt;
  cost = walk_done _ _ _ c.leaves.passed (g.M.FlatMem.size c.args.mem.now / 512) g.M.FlatMem.cost c.first_leaf.ensures.looks.cost c.leaves.invariant.cost (omega (arith, c.leaves.invariant.few, c.len.ensures, c.requires.sized.small));
}

pub returns-in-Err-clause-looks : goal.returns-in-Err-clause-looks
returns-in-Err-clause-looks g c = looks_as g.M.FlatMem c.first_leaf.ensures.looks c.in-Err.ensures.looks.cause (walk_done _ _ _ 0 (g.M.FlatMem.size c.args.mem.now / 512) g.M.FlatMem.cost c.first_leaf.ensures.looks.cost (omega arith) (omega arith))

pub returns-in-None-clause-looks : goal.returns-in-None-clause-looks
returns-in-None-clause-looks g c = looks_on g.M.FlatMem g.met.M.FlatMem.beside_through g.met.M.FlatMem.beside_itself g.met.M.FlatMem.accounted_wider g.met.M.FlatMem.only_reads_through (λ b h. c.leaves.invariant.unchanged b (c.first_leaf.ensures.looks.unchanged b h)) (g.met.M.FlatMem.beside_through _ _ _ c.first_leaf.ensures.looks.kept c.leaves.invariant.kept) (g.met.M.FlatMem.only_reads_through _ _ _ c.first_leaf.ensures.looks.looked c.leaves.invariant.looked) c.next_leaf.ensures.looks tt (walk_most _ _ _ c.leaves.passed (g.M.FlatMem.size c.args.mem.now / 512) g.M.FlatMem.cost c.first_leaf.ensures.looks.cost c.leaves.invariant.cost _ c.next_leaf.ensures.looks.cost (omega (arith, c.leaves-test.true, c.len.ensures, c.requires.sized.small)))

pub returns-then-place-count-clause-looks : goal.returns-then-place-count-clause-looks
returns-then-place-count-clause-looks g c = record {
  unchanged = λ b h. c.leaves.invariant.unchanged b (c.first_leaf.ensures.looks.unchanged b h);
  kept = g.met.M.FlatMem.beside_through _ _ _ c.first_leaf.ensures.looks.kept c.leaves.invariant.kept;
  looked = g.met.M.FlatMem.only_reads_through _ _ _ c.first_leaf.ensures.looks.looked c.leaves.invariant.looked;
  cause = tt;
  cost = walk_done _ _ _ c.leaves.passed (g.M.FlatMem.size c.args.mem.now / 512) g.M.FlatMem.cost c.first_leaf.ensures.looks.cost c.leaves.invariant.cost (omega (arith, c.leaves.invariant.few, c.len.ensures));
}
