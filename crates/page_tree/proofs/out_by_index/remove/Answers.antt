use Rattle.std.proofs.Common.{◌≡◌, refl, inl, inr, ℕ, ◌+◌, ◌-◌, ◌/◌, ◌<◌, ◌≤◌, List, length, remove, arith, sym, ◌∙◌, ap, subst, ◌*◌}
use Rattle.std.proofs.lemmas.List.Edits.{length-remove}
use Rattle.page_tree.specs.Page.{IsBlank}
use Rattle.page_tree.specs.Tree.{IsTree}
use Rattle.page_tree.specs.Put.{capacity_of}
use Rattle.page_tree.specs.Climb.{IsClosed}
use Rattle.page_tree.proofs.Single.{empty_revealed}
use Rattle.page_tree.proofs.CountLaws.{past_memory, none_at, walk_spends, broken_or, bare_broken, spends_less}
use Rattle.page_tree.proofs.WayLaws.{from_memory}
use Rattle.page_tree.specs.Broken.{Breaks}
use Rattle.page_tree.proofs.Calls.{works_on, works_as, looks_works}
use Rattle.page_tree.proofs.out_by_index.remove.Goals as goal

pub returns-in-Err-clause-answer : goal.returns-in-Err-clause-answer
returns-in-Err-clause-answer g c = λ b h records tree below. c.in-Err.ensures.well b h records tree

pub returns-in-Err-clause-past : goal.returns-in-Err-clause-past
returns-in-Err-clause-past g c = λ b h records tree past. past_memory c.in-Err.error (c.in-Err.ensures.well b h records tree)

pub returns-then-index-header-clause-answer : goal.returns-then-index-header-clause-answer
returns-then-index-header-clause-answer g c = λ b h records tree below. absurd (omega (arith, below, (c.in-Ok.ensures.fields b h).count_is, tree.header.count_is, c.if-index-header.true))

pub returns-then-header-eq0-clause-answer : goal.returns-then-header-eq0-clause-answer
returns-then-header-eq0-clause-answer g c = λ b h records tree below. absurd (none_at g.row.E g.row.K _ b records c.in-Ok.header.levels c.args.index tree (c.in-Ok.ensures.fields b h).levels_is c.if-header-eq0.true below)

pub returns-in-Err-remove_in-clause-answer : goal.returns-in-Err-remove_in-clause-answer
returns-in-Err-remove_in-clause-answer g c = λ b h records tree below.
    let tree_now = subst (λ (s : ℕ). IsTree g.row.E g.row.K (s / 512) b records) (g.met.M.FlatMem.same_size _ _ c.read_header.ensures.looks.kept) tree in
    c.in-Err-remove_in.ensures.out b (c.read_header.ensures.looks.unchanged b h) records tree_now (c.in-Ok.ensures.fields b h) below

pub returns-in-Err-remove_in-clause-past : goal.returns-in-Err-remove_in-clause-past
returns-in-Err-remove_in-clause-past g c = λ b h records tree past. absurd (omega (arith, past, (c.in-Ok.ensures.fields b h).count_is, tree.header.count_is, c.if-index-header.false))

pub returns-in-Err-remove_in-clause-works : goal.returns-in-Err-remove_in-clause-works
returns-in-Err-remove_in-clause-works g c =
    works_on g.M.FlatMem g.met.M.FlatMem.beside_through g.met.M.FlatMem.beside_itself g.met.M.FlatMem.accounted_wider c.read_header.ensures.looks.kept c.remove_in.ensures.works c.in-Err-remove_in.ensures.works.cause (walk_spends _ _ _ _ _ 34 15 g.M.FlatMem.cost c.read_header.ensures.looks.cost c.remove_in.ensures.works.cost (g.met.M.FlatMem.same_size _ _ c.read_header.ensures.looks.kept) (omega (arith, c.requires.sized.some_pages)))

pub returns-in-Err-finish-clause-answer : goal.returns-in-Err-finish-clause-answer
returns-in-Err-finish-clause-answer g c = λ b h records tree below.
    let is = c.in-Ok.ensures.fields b h in
    let size = g.met.M.FlatMem.same_size _ _ c.read_header.ensures.looks.kept in
    let tree_now = subst (λ (s : ℕ). IsTree g.row.E g.row.K (s / 512) b records) size tree in
    let out = c.in-Ok-remove_in.ensures.out b (c.read_header.ensures.looks.unchanged b h) records tree_now is below in
    let count : c.remove_in.new.header.count ≡ length records = c.remove_in.ensures.count ∙ sym is.count_is ∙ tree.header.count_is in
    let less : length (remove records c.args.index) + 1 ≡ length records = length-remove records c.args.index below in
    let size_in = g.met.M.FlatMem.same_size _ _ c.remove_in.ensures.works.kept in
    let room = subst (λ (s : ℕ). length records ≤ capacity_of g.row.E (s / 512)) (size ∙ size_in) tree.capacity in
    let count_now : c.remove_in.new.header.count - 1 ≡ length (remove records c.args.index) = omega (arith, less, count) in
    elim out.2 [
      | inl some ↦ c.in-Err-finish.ensures.tree g.row.E g.row.K out.0 out.1 (remove records c.args.index) (subst (λ (s : ℕ). IsClosed g.row.E g.row.K (s / 512) out.0 (remove records c.args.index) c.remove_in.new.header.levels c.remove_in.new.header.root c.remove_in.new.header.free c.remove_in.new.header.top) size_in some.1) some.0 (subst IsBlank (sym (c.in-Ok.ensures.read b h)) tree.header.rest) count_now (omega (arith, room, less))
      | inr bare ↦ c.in-Err-finish.ensures.empty g.row.E g.row.K out.0 out.1 bare.nodes bare.free bare.opened bare.none (subst IsBlank (sym (c.in-Ok.ensures.read b h)) tree.header.rest) bare.no_root (count_now ∙ ap length bare.empty) (subst (λ (s : ℕ). c.remove_in.new.header.top < s / 512) size_in bare.top_below)
    ]

pub returns-in-Err-finish-clause-past : goal.returns-in-Err-finish-clause-past
returns-in-Err-finish-clause-past g c = λ b h records tree past. absurd (omega (arith, past, (c.in-Ok.ensures.fields b h).count_is, tree.header.count_is, c.if-index-header.false))

pub returns-in-Err-finish-clause-works : goal.returns-in-Err-finish-clause-works
returns-in-Err-finish-clause-works g c =
    works_on g.M.FlatMem g.met.M.FlatMem.beside_through g.met.M.FlatMem.beside_itself g.met.M.FlatMem.accounted_wider (g.met.M.FlatMem.beside_through _ _ _ c.read_header.ensures.looks.kept c.remove_in.ensures.works.kept) c.finish.ensures.works c.in-Err-finish.ensures.works.cause (walk_spends _ _ _ _ _ 35 15 g.M.FlatMem.cost c.read_header.ensures.looks.cost (omega (arith, c.remove_in.ensures.works.cost, c.finish.ensures.works.cost)) (g.met.M.FlatMem.same_size _ _ c.read_header.ensures.looks.kept) (omega (arith, c.requires.sized.some_pages)))

pub returns-clause-answer : goal.returns-clause-answer
returns-clause-answer g c = λ b h records tree below.
    let is = c.in-Ok.ensures.fields b h in
    let size = g.met.M.FlatMem.same_size _ _ c.read_header.ensures.looks.kept in
    let tree_now = subst (λ (s : ℕ). IsTree g.row.E g.row.K (s / 512) b records) size tree in
    let out = c.in-Ok-remove_in.ensures.out b (c.read_header.ensures.looks.unchanged b h) records tree_now is below in
    let count : c.remove_in.new.header.count ≡ length records = c.remove_in.ensures.count ∙ sym is.count_is ∙ tree.header.count_is in
    let less : length (remove records c.args.index) + 1 ≡ length records = length-remove records c.args.index below in
    let size_in = g.met.M.FlatMem.same_size _ _ c.remove_in.ensures.works.kept in
    let room = subst (λ (s : ℕ). length records ≤ capacity_of g.row.E (s / 512)) (size ∙ size_in) tree.capacity in
    let count_now : c.remove_in.new.header.count - 1 ≡ length (remove records c.args.index) = omega (arith, less, count) in
    let whole : (x : List ℕ) × g.M.FlatMem.reveals c.finish.new.mem x × IsTree g.row.E g.row.K (g.M.FlatMem.size c.remove_in.new.mem / 512) x (remove records c.args.index) = elim out.2 [
      | inl some ↦ c.in-Ok-finish.ensures.tree g.row.E g.row.K out.0 out.1 (remove records c.args.index) (subst (λ (s : ℕ). IsClosed g.row.E g.row.K (s / 512) out.0 (remove records c.args.index) c.remove_in.new.header.levels c.remove_in.new.header.root c.remove_in.new.header.free c.remove_in.new.header.top) size_in some.1) some.0 (subst IsBlank (sym (c.in-Ok.ensures.read b h)) tree.header.rest) count_now (omega (arith, room, less))
      | inr bare ↦ empty_revealed g.row.E g.row.K (g.M.FlatMem.size c.remove_in.new.mem / 512) (g.M.FlatMem.reveals c.finish.new.mem) (remove records c.args.index) (sym bare.empty) (c.in-Ok-finish.ensures.empty g.row.E g.row.K out.0 out.1 bare.nodes bare.free bare.opened bare.none (subst IsBlank (sym (c.in-Ok.ensures.read b h)) tree.header.rest) bare.no_root (count_now ∙ ap length bare.empty) (subst (λ (s : ℕ). c.remove_in.new.header.top < s / 512) size_in bare.top_below))
    ] in (
      whole.0,
      whole.1,
      subst (λ (s : ℕ). IsTree g.row.E g.row.K (s / 512) whole.0 (remove records c.args.index)) (sym (size ∙ size_in)) whole.2,
    )

pub returns-clause-past : goal.returns-clause-past
returns-clause-past g c = λ b h records tree past. absurd (omega (arith, past, (c.in-Ok.ensures.fields b h).count_is, tree.header.count_is, c.if-index-header.false))

pub returns-clause-works : goal.returns-clause-works
returns-clause-works g c =
    works_on g.M.FlatMem g.met.M.FlatMem.beside_through g.met.M.FlatMem.beside_itself g.met.M.FlatMem.accounted_wider (g.met.M.FlatMem.beside_through _ _ _ c.read_header.ensures.looks.kept c.remove_in.ensures.works.kept) c.finish.ensures.works tt (walk_spends _ _ _ _ _ 35 15 g.M.FlatMem.cost c.read_header.ensures.looks.cost (omega (arith, c.remove_in.ensures.works.cost, c.finish.ensures.works.cost)) (g.met.M.FlatMem.same_size _ _ c.read_header.ensures.looks.kept) (omega (arith, c.requires.sized.some_pages)))

pub returns-in-Err-clause-broken : goal.returns-in-Err-clause-broken
returns-in-Err-clause-broken g c = λ b h. broken_or _ _ c.in-Err.error (c.in-Err.ensures.broken b h)

pub returns-then-index-header-clause-broken : goal.returns-then-index-header-clause-broken
returns-then-index-header-clause-broken g c = λ b h. inr (refl, omega (arith, (c.in-Ok.ensures.fields b h).count_is, c.if-index-header.true))

pub returns-then-header-eq0-clause-broken : goal.returns-then-header-eq0-clause-broken
returns-then-header-eq0-clause-broken g c = λ b h.
    let is = c.in-Ok.ensures.fields b h in
    inl (bare_broken g.row.E g.row.K _ b c.in-Ok.header.count c.args.index (is.levels_is ∙ c.if-header-eq0.true) is.count_is (omega (arith, c.if-index-header.false)))

pub returns-in-Err-remove_in-clause-broken : goal.returns-in-Err-remove_in-clause-broken
returns-in-Err-remove_in-clause-broken g c = λ b h.
    broken_or _ _ c.in-Err-remove_in.error
    (rw (g.met.M.FlatMem.same_size _ _ c.read_header.ensures.looks.kept) (c.in-Err-remove_in.ensures.broken b (c.read_header.ensures.looks.unchanged b h) (c.in-Ok.ensures.fields b h) (omega (arith, c.if-index-header.false))))

pub returns-in-Err-finish-clause-broken : goal.returns-in-Err-finish-clause-broken
returns-in-Err-finish-clause-broken g c = λ b h.
    broken_or _ _ c.in-Err-finish.error (from_memory (Breaks g.row.E g.row.K (g.M.FlatMem.size c.args.mem.now / 512) b) c.in-Err-finish.error c.in-Err-finish.ensures.memory)

pub returns-in-Err-clause-past_any : goal.returns-in-Err-clause-past_any
returns-in-Err-clause-past_any g c = λ b h past. c.in-Err.ensures.named

pub returns-in-Err-remove_in-clause-past_any : goal.returns-in-Err-remove_in-clause-past_any
returns-in-Err-remove_in-clause-past_any g c = λ b h past. absurd (omega (arith, past, (c.in-Ok.ensures.fields b h).count_is, c.if-index-header.false))

pub returns-in-Err-finish-clause-past_any : goal.returns-in-Err-finish-clause-past_any
returns-in-Err-finish-clause-past_any g c = λ b h past. absurd (omega (arith, past, (c.in-Ok.ensures.fields b h).count_is, c.if-index-header.false))

pub returns-clause-past_any : goal.returns-clause-past_any
returns-clause-past_any g c = λ b h past. absurd (omega (arith, past, (c.in-Ok.ensures.fields b h).count_is, c.if-index-header.false))

pub returns-clause-stood : goal.returns-clause-stood
returns-clause-stood g c = λ b h. c.in-Ok-remove_in.ensures.stood b (c.read_header.ensures.looks.unchanged b h) (c.in-Ok.ensures.fields b h)

pub returns-in-Err-remove_in-clause-missing : goal.returns-in-Err-remove_in-clause-missing
returns-in-Err-remove_in-clause-missing g c = λ b h.
    rw (g.met.M.FlatMem.same_size _ _ c.read_header.ensures.looks.kept) (c.in-Err-remove_in.ensures.missing b (c.read_header.ensures.looks.unchanged b h) (c.in-Ok.ensures.fields b h))

pub returns-in-Err-clause-works : goal.returns-in-Err-clause-works
returns-in-Err-clause-works g c = works_as g.M.FlatMem (looks_works g.M.FlatMem c.read_header.ensures.looks) c.in-Err.ensures.looks.cause (spends_less _ _ 1 (15 * (g.M.FlatMem.size c.args.mem.now / 512)) g.M.FlatMem.cost (omega (arith, c.read_header.ensures.looks.cost)) (omega (arith, c.requires.sized.some_pages)))

pub returns-then-index-header-clause-works : goal.returns-then-index-header-clause-works
returns-then-index-header-clause-works g c = works_as g.M.FlatMem (looks_works g.M.FlatMem c.read_header.ensures.looks) tt (spends_less _ _ 1 (15 * (g.M.FlatMem.size c.args.mem.now / 512)) g.M.FlatMem.cost (omega (arith, c.read_header.ensures.looks.cost)) (omega (arith, c.requires.sized.some_pages)))

pub returns-then-header-eq0-clause-works : goal.returns-then-header-eq0-clause-works
returns-then-header-eq0-clause-works g c = works_as g.M.FlatMem (looks_works g.M.FlatMem c.read_header.ensures.looks) tt (spends_less _ _ 1 (15 * (g.M.FlatMem.size c.args.mem.now / 512)) g.M.FlatMem.cost (omega (arith, c.read_header.ensures.looks.cost)) (omega (arith, c.requires.sized.some_pages)))

pub returns-in-Err-clause-past_same : goal.returns-in-Err-clause-past_same
returns-in-Err-clause-past_same g c = λ b h past. c.read_header.ensures.looks.unchanged b h

pub returns-then-index-header-clause-past_same : goal.returns-then-index-header-clause-past_same
returns-then-index-header-clause-past_same g c = λ b h past. c.read_header.ensures.looks.unchanged b h

pub returns-then-header-eq0-clause-past_same : goal.returns-then-header-eq0-clause-past_same
returns-then-header-eq0-clause-past_same g c = λ b h past. c.read_header.ensures.looks.unchanged b h

pub returns-in-Err-remove_in-clause-past_same : goal.returns-in-Err-remove_in-clause-past_same
returns-in-Err-remove_in-clause-past_same g c = λ b h past. absurd (omega (arith, past, (c.in-Ok.ensures.fields b h).count_is, c.if-index-header.false))

pub returns-in-Err-finish-clause-past_same : goal.returns-in-Err-finish-clause-past_same
returns-in-Err-finish-clause-past_same g c = λ b h past. absurd (omega (arith, past, (c.in-Ok.ensures.fields b h).count_is, c.if-index-header.false))

pub returns-clause-past_same : goal.returns-clause-past_same
returns-clause-past_same g c = λ b h past. absurd (omega (arith, past, (c.in-Ok.ensures.fields b h).count_is, c.if-index-header.false))
