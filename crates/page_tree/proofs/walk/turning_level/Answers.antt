use Rattle.std.proofs.Common.{inl, inr, ◌≡◌, ℕ, ◌+◌, ◌-◌, ◌/◌, length, get_or, arith, sym, ap, subst}
use Rattle.std.proofs.lemmas.Bool.{cases_eq}
use Rattle.page_tree.specs.Page.{page_at, filled}
use Rattle.page_tree.specs.Tree.{node_at}
use Rattle.page_tree.proofs.WayLaws.{spends, spends_most}
use Rattle.page_tree.proofs.WalkLaws.{inner_is_form, path_page}
use Rattle.page_tree.proofs.Calls.{looks_on}
use Rattle.page_tree.proofs.walk.turning_level.Goals as goal

pub read_inner-requires-clause-inside : goal.read_inner-requires-clause-inside
read_inner-requires-clause-inside g c =
    let inside = c.requires.way.path c.up.level (omega (arith, c.up.invariant.order.0)) (omega (arith, c.up-test.true)) in
    omega (arith, inside, g.met.M.FlatMem.same_size _ _ c.up.invariant.kept)

pub returns-in-Err-clause-turn : goal.returns-in-Err-clause-turn
returns-in-Err-clause-turn g c = λ b h e records root at nodes home rooted path.
    let inner = path_page e g.row.K _ b records c.args.levels root nodes rooted c.args.path.now.pages c.args.path.now.index at home path c.up.level c.up.invariant.order.0 (omega (arith, c.up-test.true)) in
    c.in-Err.ensures.well b (c.up.invariant.unchanged b h) (inner_is_form g.row.K _ _ inner)

pub returns-in-Err-clause-met : goal.returns-in-Err-clause-met
returns-in-Err-clause-met g c = λ b h e root path.
    c.in-Err.ensures.broken e c.up.level (g.M.FlatMem.size c.args.mem.now / 512) b (c.up.invariant.unchanged b h) (omega (arith, c.up.invariant.order.0)) (path.met c.up.level (omega (arith, c.up.invariant.order.0)) (omega (arith, c.up-test.true)))

pub returns-then-place-count-clause-turn : goal.returns-then-place-count-clause-turn
returns-then-place-count-clause-turn g c = λ b h e records root at nodes home rooted path.
    let inner = path_page e g.row.K _ b records c.args.levels root nodes rooted c.args.path.now.pages c.args.path.now.index at home path c.up.level c.up.invariant.order.0 (omega (arith, c.up-test.true)) in
    let read = c.in-Ok.ensures.read b (c.up.invariant.unchanged b h) in (
      omega (arith, inner.count, ap filled read, c.in-Ok.ensures.form.0, c.if-place-count.true),
      c.up.invariant.last b h e records root at nodes home rooted path,
    )

pub returns-then-place-count-clause-met : goal.returns-then-place-count-clause-met
returns-then-place-count-clause-met g c = λ b h e root path.
    let read = c.in-Ok.ensures.read b (c.up.invariant.unchanged b h) in
    omega (arith, ap filled read, c.in-Ok.ensures.form.0, c.if-place-count.true)

pub up-preserved : goal.up-preserved
up-preserved g c = record {
  order = (omega (arith, c.up.invariant.order.0), omega (arith, c.up-test.true));
  unchanged = λ b h. c.read_inner.ensures.looks.unchanged b (c.up.invariant.unchanged b h);
  last = λ b h e records root at nodes home rooted path n above less. elim (cases_eq n c.up.level) [
    | inl same ↦
        let inner = path_page e g.row.K _ b records c.args.levels root nodes rooted c.args.path.now.pages c.args.path.now.index at home path c.up.level c.up.invariant.order.0 (omega (arith, c.up-test.true)) in
        let read = c.in-Ok.ensures.read b (c.up.invariant.unchanged b h) in
        let chosen = path.chosen c.up.level (omega (arith, c.up.invariant.order.0)) (omega (arith, c.up-test.true)) in
        let here : get_or c.args.path.now.index c.up.level 0 + 1 ≡ length (node_at (nodes c.up.level) (home c.up.level)).items = omega (arith, inner.count, ap filled read, c.in-Ok.ensures.form.0, c.if-place-count.false, chosen) in
        subst (λ (i : ℕ). get_or c.args.path.now.index i 0 + 1 ≡ length (node_at (nodes i) (home i)).items) (sym same) here
    | inr other ↦ c.up.invariant.last b h e records root at nodes home rooted path n above (omega (arith, less, other))
  ];
  full = λ b h root path n above less. elim (cases_eq n c.up.level) [
    | inl same ↦
        let read = c.in-Ok.ensures.read b (c.up.invariant.unchanged b h) in
        let chosen = path.chosen c.up.level (omega (arith, c.up.invariant.order.0)) (omega (arith, c.up-test.true)) in
        let here : get_or c.args.path.now.index c.up.level 0 ≡ filled (page_at b (get_or c.args.path.now.pages c.up.level 0)) = omega (arith, ap filled read, c.in-Ok.ensures.form.0, c.if-place-count.false, chosen) in
        subst (λ (i : ℕ). get_or c.args.path.now.index i 0 ≡ filled (page_at b (get_or c.args.path.now.pages i 0))) (sym same) here
    | inr other ↦ c.up.invariant.full b h root path n above (omega (arith, less, other))
  ];
  kept = g.met.M.FlatMem.beside_through _ _ _ c.up.invariant.kept c.read_inner.ensures.looks.kept;
  looked = g.met.M.FlatMem.only_reads_through _ _ _ c.up.invariant.looked c.read_inner.ensures.looks.looked;
  cost = spends _ _ _ g.M.FlatMem.cost (c.up.level - 2) (c.up.level + 1 - 2) (omega (arith, c.up.invariant.order.0)) c.up.invariant.cost c.read_inner.ensures.looks.cost;
}

pub returns-clause-turn : goal.returns-clause-turn
returns-clause-turn g c = λ b h e records root at nodes home rooted path n above most. c.up.invariant.last b h e records root at nodes home rooted path n above (omega (arith, most, c.up-test.false))

pub returns-clause-looks : goal.returns-clause-looks
returns-clause-looks g c =
    record {
      unchanged = c.up.invariant.unchanged;
      kept = c.up.invariant.kept;
      looked = c.up.invariant.looked;
      cause = tt;
      cost = spends_most _ _ g.M.FlatMem.cost (c.up.level - 2) (omega (arith, c.up.invariant.order, c.requires.way.few)) c.up.invariant.cost;
    }

pub returns-in-Err-clause-looks : goal.returns-in-Err-clause-looks
returns-in-Err-clause-looks g c =
    looks_on g.M.FlatMem g.met.M.FlatMem.beside_through g.met.M.FlatMem.beside_itself g.met.M.FlatMem.accounted_wider g.met.M.FlatMem.only_reads_through c.up.invariant.unchanged c.up.invariant.kept c.up.invariant.looked c.read_inner.ensures.looks c.in-Err.ensures.looks.cause (spends_most _ _ g.M.FlatMem.cost (c.up.level - 2 + 1) (omega (arith, c.up-test.true, c.up.invariant.order, c.requires.way.few)) (spends _ _ _ g.M.FlatMem.cost (c.up.level - 2) (c.up.level - 2 + 1) (omega arith) c.up.invariant.cost c.read_inner.ensures.looks.cost))

pub returns-then-place-count-clause-looks : goal.returns-then-place-count-clause-looks
returns-then-place-count-clause-looks g c =
    looks_on g.M.FlatMem g.met.M.FlatMem.beside_through g.met.M.FlatMem.beside_itself g.met.M.FlatMem.accounted_wider g.met.M.FlatMem.only_reads_through c.up.invariant.unchanged c.up.invariant.kept c.up.invariant.looked c.read_inner.ensures.looks tt (spends_most _ _ g.M.FlatMem.cost (c.up.level - 2 + 1) (omega (arith, c.up-test.true, c.up.invariant.order, c.requires.way.few)) (spends _ _ _ g.M.FlatMem.cost (c.up.level - 2) (c.up.level - 2 + 1) (omega arith) c.up.invariant.cost c.read_inner.ensures.looks.cost))

pub returns-then-place-count-clause-last : goal.returns-then-place-count-clause-last
returns-then-place-count-clause-last g c = λ b h root path. c.up.invariant.full b h root path

pub returns-clause-last : goal.returns-clause-last
returns-clause-last g c = λ b h root path l above below. c.up.invariant.full b h root path l above (omega (arith, below, c.up-test.false))
