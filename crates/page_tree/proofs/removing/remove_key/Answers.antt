use Rattle.std.proofs.Common.{◌≡◌, inl, inr, ℕ, ◌+◌, ◌-◌, ◌/◌, ◌<◌, ◌≤◌, List, length, remove, refl, arith, sym, ◌∙◌, ap, subst}
use Rattle.std.proofs.lemmas.List.Edits.{length-remove}
use Rattle.page_tree.specs.Page.{IsBlank}
use Rattle.page_tree.specs.Tree.{IsTree}
use Rattle.page_tree.specs.Put.{capacity_of}
use Rattle.page_tree.specs.Climb.{IsClosed}
use Rattle.page_tree.proofs.Single.{out_true, out_false, empty_revealed}
use Rattle.std.proofs.lemmas.Bool.{false≢true}
use Rattle.page_tree.specs.Broken.{Breaks}
use Rattle.page_tree.proofs.FormLaws.{root_met}
use Rattle.page_tree.proofs.WayLaws.{from_memory}
use Rattle.page_tree.proofs.removing.remove_key.Goals as goal

pub returns-then-header-eq0-clause-answer : goal.returns-then-header-eq0-clause-answer
returns-then-header-eq0-clause-answer g c = λ b h records tree.
    let none : tree.levels ≡ 0 = sym tree.header.levels_is ∙ (c.in-Ok.ensures.fields b h).levels_is ∙ c.if-header-eq0.true in
    (λ j below same. absurd (omega (arith, below, ap length (tree.tower.none none))), c.read_header.ensures.looks.unchanged b h)

pub returns-in-Err-remove_in-clause-answer : goal.returns-in-Err-remove_in-clause-answer
returns-in-Err-remove_in-clause-answer g c = λ b h records tree.
    let is = c.in-Ok.ensures.fields b h in
    let size = g.met.M.FlatMem.same_size _ _ c.read_header.ensures.looks.kept in
    let tree_now = subst (λ (s : ℕ). IsTree g.row.E g.row.K (s / 512) b records) size tree in
    c.in-Err-remove_in.ensures.out b (c.read_header.ensures.looks.unchanged b h) records tree_now is

pub returns-then-not-found-clause-answer : goal.returns-then-not-found-clause-answer
returns-then-not-found-clause-answer g c = λ b h records tree.
    let is = c.in-Ok.ensures.fields b h in
    let size = g.met.M.FlatMem.same_size _ _ c.read_header.ensures.looks.kept in
    let tree_now = subst (λ (s : ℕ). IsTree g.row.E g.row.K (s / 512) b records) size tree in
    let out = c.in-Ok-remove_in.ensures.out b (c.read_header.ensures.looks.unchanged b h) records tree_now is in
    out_false g.row.E g.row.K (g.M.FlatMem.size c.read_header.new.mem / 512) (g.M.FlatMem.reveals c.remove_in.new.mem) b records c.args.key.now c.remove_in.new.header.levels c.remove_in.new.header.root c.remove_in.new.header.free c.remove_in.new.header.top c.in-Ok-remove_in.found c.if-not-found.true out

pub returns-then-header-eq0-2-clause-answer : goal.returns-then-header-eq0-2-clause-answer
returns-then-header-eq0-2-clause-answer g c = λ b h records tree.
    let is = c.in-Ok.ensures.fields b h in
    let size = g.met.M.FlatMem.same_size _ _ c.read_header.ensures.looks.kept in
    let tree_now = subst (λ (s : ℕ). IsTree g.row.E g.row.K (s / 512) b records) size tree in
    let out = c.in-Ok-remove_in.ensures.out b (c.read_header.ensures.looks.unchanged b h) records tree_now is in
    let gone = out_true g.row.E g.row.K (g.M.FlatMem.size c.read_header.new.mem / 512) (g.M.FlatMem.reveals c.remove_in.new.mem) b records c.args.key.now c.remove_in.new.header.levels c.remove_in.new.header.root c.remove_in.new.header.free c.remove_in.new.header.top c.in-Ok-remove_in.found c.if-not-found.false out in
    let count : c.remove_in.new.header.count ≡ length records = c.remove_in.ensures.count ∙ sym is.count_is ∙ tree.header.count_is in
    absurd (omega (arith, gone.1.below, count, c.if-header-eq0-2.true))

pub returns-in-Err-finish-clause-answer : goal.returns-in-Err-finish-clause-answer
returns-in-Err-finish-clause-answer g c = λ b h records tree.
    let is = c.in-Ok.ensures.fields b h in
    let size = g.met.M.FlatMem.same_size _ _ c.read_header.ensures.looks.kept in
    let tree_now = subst (λ (s : ℕ). IsTree g.row.E g.row.K (s / 512) b records) size tree in
    let out = c.in-Ok-remove_in.ensures.out b (c.read_header.ensures.looks.unchanged b h) records tree_now is in
    let gone = out_true g.row.E g.row.K (g.M.FlatMem.size c.read_header.new.mem / 512) (g.M.FlatMem.reveals c.remove_in.new.mem) b records c.args.key.now c.remove_in.new.header.levels c.remove_in.new.header.root c.remove_in.new.header.free c.remove_in.new.header.top c.in-Ok-remove_in.found c.if-not-found.false out in
    let count : c.remove_in.new.header.count ≡ length records = c.remove_in.ensures.count ∙ sym is.count_is ∙ tree.header.count_is in
    let less : length (remove records gone.0) + 1 ≡ length records = length-remove records gone.0 gone.1.below in
    let size_in = g.met.M.FlatMem.same_size _ _ c.remove_in.ensures.works.kept in
    let room = subst (λ (s : ℕ). length records ≤ capacity_of g.row.E (s / 512)) (size ∙ size_in) tree.capacity in
    let count_now : c.remove_in.new.header.count - 1 ≡ length (remove records gone.0) = omega (arith, less, count) in
    elim gone.4 [
      | inl some ↦ c.in-Err-finish.ensures.tree g.row.E g.row.K gone.2 gone.3 (remove records gone.0) (subst (λ (s : ℕ). IsClosed g.row.E g.row.K (s / 512) gone.2 (remove records gone.0) c.remove_in.new.header.levels c.remove_in.new.header.root c.remove_in.new.header.free c.remove_in.new.header.top) size_in some.1) some.0 (subst IsBlank (sym (c.in-Ok.ensures.read b h)) tree.header.rest) count_now (omega (arith, room, less))
      | inr bare ↦ c.in-Err-finish.ensures.empty g.row.E g.row.K gone.2 gone.3 bare.nodes bare.free bare.opened bare.none (subst IsBlank (sym (c.in-Ok.ensures.read b h)) tree.header.rest) bare.no_root (count_now ∙ ap length bare.empty) (subst (λ (s : ℕ). c.remove_in.new.header.top < s / 512) size_in bare.top_below)
    ]

pub returns-clause-answer : goal.returns-clause-answer
returns-clause-answer g c = λ b h records tree.
    let is = c.in-Ok.ensures.fields b h in
    let size = g.met.M.FlatMem.same_size _ _ c.read_header.ensures.looks.kept in
    let tree_now = subst (λ (s : ℕ). IsTree g.row.E g.row.K (s / 512) b records) size tree in
    let out = c.in-Ok-remove_in.ensures.out b (c.read_header.ensures.looks.unchanged b h) records tree_now is in
    let gone = out_true g.row.E g.row.K (g.M.FlatMem.size c.read_header.new.mem / 512) (g.M.FlatMem.reveals c.remove_in.new.mem) b records c.args.key.now c.remove_in.new.header.levels c.remove_in.new.header.root c.remove_in.new.header.free c.remove_in.new.header.top c.in-Ok-remove_in.found c.if-not-found.false out in
    let count : c.remove_in.new.header.count ≡ length records = c.remove_in.ensures.count ∙ sym is.count_is ∙ tree.header.count_is in
    let less : length (remove records gone.0) + 1 ≡ length records = length-remove records gone.0 gone.1.below in
    let size_in = g.met.M.FlatMem.same_size _ _ c.remove_in.ensures.works.kept in
    let room = subst (λ (s : ℕ). length records ≤ capacity_of g.row.E (s / 512)) (size ∙ size_in) tree.capacity in
    let count_now : c.remove_in.new.header.count - 1 ≡ length (remove records gone.0) = omega (arith, less, count) in
    let whole : (x : List ℕ) × g.M.FlatMem.reveals c.finish.new.mem x × IsTree g.row.E g.row.K (g.M.FlatMem.size c.remove_in.new.mem / 512) x (remove records gone.0) = elim gone.4 [
      | inl some ↦ c.in-Ok-finish.ensures.tree g.row.E g.row.K gone.2 gone.3 (remove records gone.0) (subst (λ (s : ℕ). IsClosed g.row.E g.row.K (s / 512) gone.2 (remove records gone.0) c.remove_in.new.header.levels c.remove_in.new.header.root c.remove_in.new.header.free c.remove_in.new.header.top) size_in some.1) some.0 (subst IsBlank (sym (c.in-Ok.ensures.read b h)) tree.header.rest) count_now (omega (arith, room, less))
      | inr bare ↦ empty_revealed g.row.E g.row.K (g.M.FlatMem.size c.remove_in.new.mem / 512) (g.M.FlatMem.reveals c.finish.new.mem) (remove records gone.0) (sym bare.empty) (c.in-Ok-finish.ensures.empty g.row.E g.row.K gone.2 gone.3 bare.nodes bare.free bare.opened bare.none (subst IsBlank (sym (c.in-Ok.ensures.read b h)) tree.header.rest) bare.no_root (count_now ∙ ap length bare.empty) (subst (λ (s : ℕ). c.remove_in.new.header.top < s / 512) size_in bare.top_below))
    ] in (
      gone.0,
      gone.1,
      whole.0,
      whole.1,
      subst (λ (s : ℕ). IsTree g.row.E g.row.K (s / 512) whole.0 (remove records gone.0)) (sym (size ∙ size_in)) whole.2,
    )

pub returns-then-header-eq0-clause-absent : goal.returns-then-header-eq0-clause-absent
returns-then-header-eq0-clause-absent g c = λ b h same. c.read_header.ensures.looks.unchanged b h

pub returns-then-not-found-clause-absent : goal.returns-then-not-found-clause-absent
returns-then-not-found-clause-absent g c = λ b h same. c.in-Ok-remove_in.ensures.absent b (c.read_header.ensures.looks.unchanged b h) c.if-not-found.true

pub returns-clause-absent : goal.returns-clause-absent
returns-clause-absent g c = λ b h same. absurd (false≢true (sym same))

pub returns-in-Err-remove_in-clause-broken : goal.returns-in-Err-remove_in-clause-broken
returns-in-Err-remove_in-clause-broken g c = λ b h.
    let is = c.in-Ok.ensures.header b h in
    let size = g.met.M.FlatMem.same_size _ _ c.read_header.ensures.looks.kept in
    rw size (c.in-Err-remove_in.ensures.broken b (c.read_header.ensures.looks.unchanged b h) is.0 (root_met g.row.K b (g.M.FlatMem.size c.args.mem.now) c.in-Ok.header.levels c.in-Ok.header.root (g.met.M.FlatMem.revealed_length c.args.mem.now b h) c.in-Ok.ensures.form (omega (arith, c.if-header-eq0.false)) is.0 is.1))

pub returns-then-header-eq0-2-clause-broken : goal.returns-then-header-eq0-2-clause-broken
returns-then-header-eq0-2-clause-broken g c = λ b h.
    let is = c.in-Ok.ensures.fields b h in
    Breaks.uncounted refl (omega (arith, is.levels_is, c.if-header-eq0.false)) (is.count_is ∙ sym c.remove_in.ensures.count ∙ c.if-header-eq0-2.true)

pub returns-in-Err-finish-clause-broken : goal.returns-in-Err-finish-clause-broken
returns-in-Err-finish-clause-broken g c = λ b h. from_memory (Breaks g.row.E g.row.K (g.M.FlatMem.size c.args.mem.now / 512) b) c.in-Err-finish.error c.in-Err-finish.ensures.memory
