use Rattle.std.proofs.Common.{inl, inr, ℕ, ◌/◌, arith, refl, sym, ◌∙◌, subst, ◌*◌}
use Rattle.page_tree.specs.Tree.{IsTree}
use Rattle.page_tree.specs.Placed.{IsSetAt}
use Rattle.page_tree.proofs.CountLaws.{past_memory, broken_or, none_at, bare_broken, walk_spends, spends_less}
use Rattle.page_tree.proofs.IndexedLaws.{bare_misses}
use Rattle.page_tree.proofs.Calls.{works_on, works_as, looks_works}
use Rattle.page_tree.proofs.edit_by_index.replace.Goals as goal

pub returns-in-Err-clause-answer : goal.returns-in-Err-clause-answer
returns-in-Err-clause-answer g c = λ b h records tree below same. c.in-Err.ensures.well b h records tree

pub returns-in-Err-clause-past : goal.returns-in-Err-clause-past
returns-in-Err-clause-past g c = λ b h records tree past. past_memory c.in-Err.error (c.in-Err.ensures.well b h records tree)

pub returns-in-Err-clause-broken : goal.returns-in-Err-clause-broken
returns-in-Err-clause-broken g c = λ b h. broken_or _ _ c.in-Err.error (c.in-Err.ensures.broken b h)

pub returns-then-index-header-clause-answer : goal.returns-then-index-header-clause-answer
returns-then-index-header-clause-answer g c = λ b h records tree below same. absurd (omega (arith, below, (c.in-Ok.ensures.fields b h).count_is, tree.header.count_is, c.if-index-header.true))

pub returns-then-index-header-clause-broken : goal.returns-then-index-header-clause-broken
returns-then-index-header-clause-broken g c = λ b h. inr (refl, omega (arith, (c.in-Ok.ensures.fields b h).count_is, c.if-index-header.true))

pub returns-then-header-eq0-clause-answer : goal.returns-then-header-eq0-clause-answer
returns-then-header-eq0-clause-answer g c = λ b h records tree below same. absurd (none_at g.row.E g.row.K _ b records c.in-Ok.header.levels c.args.index tree (c.in-Ok.ensures.fields b h).levels_is c.if-header-eq0.true below)

pub returns-then-header-eq0-clause-broken : goal.returns-then-header-eq0-clause-broken
returns-then-header-eq0-clause-broken g c = λ b h.
    let is = c.in-Ok.ensures.fields b h in
    inl (bare_broken g.row.E g.row.K _ b c.in-Ok.header.count c.args.index (is.levels_is ∙ c.if-header-eq0.true) is.count_is (omega (arith, c.if-index-header.false)))

pub returns-in-Ok-set_in-clause-answer : goal.returns-in-Ok-set_in-clause-answer
returns-in-Ok-set_in-clause-answer g c = λ b h records tree below same.
    let size = g.met.M.FlatMem.same_size _ _ c.read_header.ensures.looks.kept in
    let tree_now = subst (λ (s : ℕ). IsTree g.row.E g.row.K (s / 512) b records) size tree in
    let done = c.in-Ok-set_in.ensures.set b (c.read_header.ensures.looks.unchanged b h) records tree_now (c.in-Ok.ensures.fields b h) below same in
    subst (λ (s : ℕ). IsSetAt g.row.E g.row.K (s / 512) (g.M.FlatMem.reveals c.set_in.new.mem) records c.args.index c.args.entry.now) (sym size) done

pub returns-in-Err-set_in-clause-answer : goal.returns-in-Err-set_in-clause-answer
returns-in-Err-set_in-clause-answer g c = λ b h records tree below same.
    let tree_now = subst (λ (s : ℕ). IsTree g.row.E g.row.K (s / 512) b records) (g.met.M.FlatMem.same_size _ _ c.read_header.ensures.looks.kept) tree in
    c.in-Err-set_in.ensures.set b (c.read_header.ensures.looks.unchanged b h) records tree_now (c.in-Ok.ensures.fields b h) below same

pub returns-in-Ok-set_in-clause-past : goal.returns-in-Ok-set_in-clause-past
returns-in-Ok-set_in-clause-past g c = λ b h records tree past. absurd (omega (arith, past, (c.in-Ok.ensures.fields b h).count_is, tree.header.count_is, c.if-index-header.false))

pub returns-in-Err-set_in-clause-past : goal.returns-in-Err-set_in-clause-past
returns-in-Err-set_in-clause-past g c = λ b h records tree past. absurd (omega (arith, past, (c.in-Ok.ensures.fields b h).count_is, tree.header.count_is, c.if-index-header.false))

pub returns-in-Err-set_in-clause-broken : goal.returns-in-Err-set_in-clause-broken
returns-in-Err-set_in-clause-broken g c = λ b h.
    broken_or _ _ c.in-Err-set_in.error
    (rw (g.met.M.FlatMem.same_size _ _ c.read_header.ensures.looks.kept) (c.in-Err-set_in.ensures.broken b (c.read_header.ensures.looks.unchanged b h) (c.in-Ok.ensures.fields b h) (omega (arith, c.if-index-header.false))))

pub returns-in-Ok-set_in-clause-works : goal.returns-in-Ok-set_in-clause-works
returns-in-Ok-set_in-clause-works g c =
    works_on g.M.FlatMem g.met.M.FlatMem.beside_through g.met.M.FlatMem.beside_itself g.met.M.FlatMem.accounted_wider c.read_header.ensures.looks.kept c.set_in.ensures.works tt (walk_spends _ _ _ _ _ 7 12 g.M.FlatMem.cost c.read_header.ensures.looks.cost c.set_in.ensures.works.cost (g.met.M.FlatMem.same_size _ _ c.read_header.ensures.looks.kept) (omega (arith, c.requires.sized.some_pages)))

pub returns-in-Err-set_in-clause-works : goal.returns-in-Err-set_in-clause-works
returns-in-Err-set_in-clause-works g c =
    works_on g.M.FlatMem g.met.M.FlatMem.beside_through g.met.M.FlatMem.beside_itself g.met.M.FlatMem.accounted_wider c.read_header.ensures.looks.kept c.set_in.ensures.works c.in-Err-set_in.ensures.works.cause (walk_spends _ _ _ _ _ 7 12 g.M.FlatMem.cost c.read_header.ensures.looks.cost c.set_in.ensures.works.cost (g.met.M.FlatMem.same_size _ _ c.read_header.ensures.looks.kept) (omega (arith, c.requires.sized.some_pages)))

pub returns-in-Err-clause-past_any : goal.returns-in-Err-clause-past_any
returns-in-Err-clause-past_any g c = λ b h past. c.in-Err.ensures.named

pub returns-in-Ok-set_in-clause-past_any : goal.returns-in-Ok-set_in-clause-past_any
returns-in-Ok-set_in-clause-past_any g c = λ b h past. absurd (omega (arith, past, (c.in-Ok.ensures.fields b h).count_is, c.if-index-header.false))

pub returns-in-Err-set_in-clause-past_any : goal.returns-in-Err-set_in-clause-past_any
returns-in-Err-set_in-clause-past_any g c = λ b h past. absurd (omega (arith, past, (c.in-Ok.ensures.fields b h).count_is, c.if-index-header.false))

pub returns-in-Ok-set_in-clause-written : goal.returns-in-Ok-set_in-clause-written
returns-in-Ok-set_in-clause-written g c = λ b h. c.in-Ok-set_in.ensures.written b (c.read_header.ensures.looks.unchanged b h) (c.in-Ok.ensures.fields b h)

pub returns-then-header-eq0-clause-missing : goal.returns-then-header-eq0-clause-missing
returns-then-header-eq0-clause-missing g c = λ b h same. bare_misses g.row.E g.row.K _ b c.args.index ((c.in-Ok.ensures.fields b h).levels_is ∙ c.if-header-eq0.true)

pub returns-in-Err-set_in-clause-missing : goal.returns-in-Err-set_in-clause-missing
returns-in-Err-set_in-clause-missing g c = λ b h.
    rw (g.met.M.FlatMem.same_size _ _ c.read_header.ensures.looks.kept) (c.in-Err-set_in.ensures.missing b (c.read_header.ensures.looks.unchanged b h) (c.in-Ok.ensures.fields b h))

pub returns-in-Err-clause-works : goal.returns-in-Err-clause-works
returns-in-Err-clause-works g c = works_as g.M.FlatMem (looks_works g.M.FlatMem c.read_header.ensures.looks) c.in-Err.ensures.looks.cause (spends_less _ _ 1 (12 * (g.M.FlatMem.size c.args.mem.now / 512)) g.M.FlatMem.cost (omega (arith, c.read_header.ensures.looks.cost)) (omega (arith, c.requires.sized.some_pages)))

pub returns-then-index-header-clause-works : goal.returns-then-index-header-clause-works
returns-then-index-header-clause-works g c = works_as g.M.FlatMem (looks_works g.M.FlatMem c.read_header.ensures.looks) tt (spends_less _ _ 1 (12 * (g.M.FlatMem.size c.args.mem.now / 512)) g.M.FlatMem.cost (omega (arith, c.read_header.ensures.looks.cost)) (omega (arith, c.requires.sized.some_pages)))

pub returns-then-header-eq0-clause-works : goal.returns-then-header-eq0-clause-works
returns-then-header-eq0-clause-works g c = works_as g.M.FlatMem (looks_works g.M.FlatMem c.read_header.ensures.looks) tt (spends_less _ _ 1 (12 * (g.M.FlatMem.size c.args.mem.now / 512)) g.M.FlatMem.cost (omega (arith, c.read_header.ensures.looks.cost)) (omega (arith, c.requires.sized.some_pages)))

pub returns-in-Err-clause-past_same : goal.returns-in-Err-clause-past_same
returns-in-Err-clause-past_same g c = λ b h past. c.read_header.ensures.looks.unchanged b h

pub returns-then-index-header-clause-past_same : goal.returns-then-index-header-clause-past_same
returns-then-index-header-clause-past_same g c = λ b h past. c.read_header.ensures.looks.unchanged b h

pub returns-then-header-eq0-clause-past_same : goal.returns-then-header-eq0-clause-past_same
returns-then-header-eq0-clause-past_same g c = λ b h past. c.read_header.ensures.looks.unchanged b h

pub returns-in-Ok-set_in-clause-past_same : goal.returns-in-Ok-set_in-clause-past_same
returns-in-Ok-set_in-clause-past_same g c = λ b h past. absurd (omega (arith, past, (c.in-Ok.ensures.fields b h).count_is, c.if-index-header.false))

pub returns-in-Err-set_in-clause-past_same : goal.returns-in-Err-set_in-clause-past_same
returns-in-Err-set_in-clause-past_same g c = λ b h past. absurd (omega (arith, past, (c.in-Ok.ensures.fields b h).count_is, c.if-index-header.false))
