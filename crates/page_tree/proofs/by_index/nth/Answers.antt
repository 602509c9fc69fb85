use Rattle.std.proofs.Common.{inl, inr, ℕ, ◌/◌, ◌<◌, List, arith, refl, sym, ◌∙◌, ap, subst, ◌*◌}
use Rattle.flat_mem.specs.Order.{entry_at}
use Rattle.page_tree.specs.Page.{record_at}
use Rattle.page_tree.specs.Tree.{IsTree}
use Rattle.page_tree.proofs.Replaced.{sector_state}
use Rattle.page_tree.proofs.PlacedLaws.{placed_entry}
use Rattle.page_tree.proofs.CountLaws.{past_memory, broken_or, none_at, bare_broken, walk_spends, spends_less}
use Rattle.page_tree.proofs.IndexedLaws.{bare_misses}
use Rattle.page_tree.proofs.Calls.{looks_on, looks_as}
use Rattle.page_tree.proofs.by_index.nth.Goals as goal

pub returns-in-Err-clause-answer : goal.returns-in-Err-clause-answer
returns-in-Err-clause-answer g c = λ b h records tree below. c.in-Err.ensures.well b h records tree

pub returns-in-Err-clause-past : goal.returns-in-Err-clause-past
returns-in-Err-clause-past g c = λ b h records tree past. past_memory c.in-Err.error (c.in-Err.ensures.well b h records tree)

pub returns-in-Err-clause-broken : goal.returns-in-Err-clause-broken
returns-in-Err-clause-broken g c = λ b h. broken_or _ _ c.in-Err.error (c.in-Err.ensures.broken b h)

pub returns-then-index-header-clause-answer : goal.returns-then-index-header-clause-answer
returns-then-index-header-clause-answer g c = λ b h records tree below. absurd (omega (arith, below, (c.in-Ok.ensures.fields b h).count_is, tree.header.count_is, c.if-index-header.true))

pub returns-then-index-header-clause-broken : goal.returns-then-index-header-clause-broken
returns-then-index-header-clause-broken g c = λ b h. inr (refl, omega (arith, (c.in-Ok.ensures.fields b h).count_is, c.if-index-header.true))

pub returns-then-header-eq0-clause-answer : goal.returns-then-header-eq0-clause-answer
returns-then-header-eq0-clause-answer g c = λ b h records tree below. absurd (none_at g.row.E g.row.K _ b records c.in-Ok.header.levels c.args.index tree (c.in-Ok.ensures.fields b h).levels_is c.if-header-eq0.true below)

pub returns-then-header-eq0-clause-broken : goal.returns-then-header-eq0-clause-broken
returns-then-header-eq0-clause-broken g c = λ b h.
    let is = c.in-Ok.ensures.fields b h in
    inl (bare_broken g.row.E g.row.K _ b c.in-Ok.header.count c.args.index (is.levels_is ∙ c.if-header-eq0.true) is.count_is (omega (arith, c.if-index-header.false)))

pub returns-in-Err-find_place-clause-answer : goal.returns-in-Err-find_place-clause-answer
returns-in-Err-find_place-clause-answer g c = λ b h records tree below.
    let tree_now = subst (λ (s : ℕ). IsTree g.row.E g.row.K (s / 512) b records) (g.met.M.FlatMem.same_size _ _ c.read_header.ensures.looks.kept) tree in
    let is = c.in-Ok.ensures.fields b h in
    let here = sector_state g.row.E g.row.K (g.M.FlatMem.size c.read_header.new.mem / 512) b records c.in-Ok.header.count c.in-Ok.header.root c.in-Ok.header.top c.in-Ok.header.free c.in-Ok.header.levels tree_now is (omega (arith, c.if-header-eq0.false)) in
    c.in-Err-find_place.ensures.placed b (c.read_header.ensures.looks.unchanged b h) records here below

pub returns-in-Err-find_place-clause-past : goal.returns-in-Err-find_place-clause-past
returns-in-Err-find_place-clause-past g c = λ b h records tree past. absurd (omega (arith, past, (c.in-Ok.ensures.fields b h).count_is, tree.header.count_is, c.if-index-header.false))

pub returns-in-Err-find_place-clause-broken : goal.returns-in-Err-find_place-clause-broken
returns-in-Err-find_place-clause-broken g c = λ b h.
    broken_or _ _ c.in-Err-find_place.error
    (rw (g.met.M.FlatMem.same_size _ _ c.read_header.ensures.looks.kept) (c.in-Err-find_place.ensures.broken b (c.read_header.ensures.looks.unchanged b h) (c.in-Ok.ensures.fields b h) (omega (arith, c.if-index-header.false))))

pub returns-in-Err-find_place-clause-looks : goal.returns-in-Err-find_place-clause-looks
returns-in-Err-find_place-clause-looks g c =
    looks_on g.M.FlatMem g.met.M.FlatMem.beside_through g.met.M.FlatMem.beside_itself g.met.M.FlatMem.accounted_wider g.met.M.FlatMem.only_reads_through c.read_header.ensures.looks.unchanged c.read_header.ensures.looks.kept c.read_header.ensures.looks.looked c.find_place.ensures.looks c.in-Err-find_place.ensures.looks.cause (walk_spends _ _ _ _ _ 6 12 g.M.FlatMem.cost c.read_header.ensures.looks.cost c.find_place.ensures.looks.cost (g.met.M.FlatMem.same_size _ _ c.read_header.ensures.looks.kept) (omega (arith, c.requires.sized.some_pages)))

pub returns-clause-answer : goal.returns-clause-answer
returns-clause-answer g c = λ b h records tree below.
    let tree_now = subst (λ (s : ℕ). IsTree g.row.E g.row.K (s / 512) b records) (g.met.M.FlatMem.same_size _ _ c.read_header.ensures.looks.kept) tree in
    let is = c.in-Ok.ensures.fields b h in
    let some : 0 < c.in-Ok.header.levels = omega (arith, c.if-header-eq0.false) in
    let here = sector_state g.row.E g.row.K (g.M.FlatMem.size c.read_header.new.mem / 512) b records c.in-Ok.header.count c.in-Ok.header.root c.in-Ok.header.top c.in-Ok.header.free c.in-Ok.header.levels tree_now is some in
    let placed = c.in-Ok-find_place.ensures.placed b (c.read_header.ensures.looks.unchanged b h) records here below in
    c.record_of.ensures
    ∙ placed_entry g.row.E g.row.K b records c.in-Ok.header.levels here.nodes here.rooted.tower some c.find_place.new.page c.find_place.new.path.pages c.find_place.new.path.index c.in-Ok-find_place.place.page placed.home placed.path placed.bytes c.in-Ok-find_place.place.index placed.below
    ∙ ap (entry_at records) (sym placed.is)

pub returns-clause-past : goal.returns-clause-past
returns-clause-past g c = λ b h records tree past. absurd (omega (arith, past, (c.in-Ok.ensures.fields b h).count_is, tree.header.count_is, c.if-index-header.false))

pub returns-clause-looks : goal.returns-clause-looks
returns-clause-looks g c =
    looks_on g.M.FlatMem g.met.M.FlatMem.beside_through g.met.M.FlatMem.beside_itself g.met.M.FlatMem.accounted_wider g.met.M.FlatMem.only_reads_through c.read_header.ensures.looks.unchanged c.read_header.ensures.looks.kept c.read_header.ensures.looks.looked c.find_place.ensures.looks tt (walk_spends _ _ _ _ _ 6 12 g.M.FlatMem.cost c.read_header.ensures.looks.cost c.find_place.ensures.looks.cost (g.met.M.FlatMem.same_size _ _ c.read_header.ensures.looks.kept) (omega (arith, c.requires.sized.some_pages)))

pub returns-in-Err-clause-past_any : goal.returns-in-Err-clause-past_any
returns-in-Err-clause-past_any g c = λ b h past. c.in-Err.ensures.named

pub returns-in-Err-find_place-clause-past_any : goal.returns-in-Err-find_place-clause-past_any
returns-in-Err-find_place-clause-past_any g c = λ b h past. absurd (omega (arith, past, (c.in-Ok.ensures.fields b h).count_is, c.if-index-header.false))

pub returns-clause-past_any : goal.returns-clause-past_any
returns-clause-past_any g c = λ b h past. absurd (omega (arith, past, (c.in-Ok.ensures.fields b h).count_is, c.if-index-header.false))

pub returns-clause-stands : goal.returns-clause-stands
returns-clause-stands g c = λ b h.
    let revealed = c.read_header.ensures.looks.unchanged b h in
    let read = c.in-Ok-find_place.ensures.read b revealed in record {
      page = c.in-Ok-find_place.place.page;
      slot = c.in-Ok-find_place.place.index;
      place = c.in-Ok-find_place.ensures.indexed b revealed (c.in-Ok.ensures.fields b h);
      is = c.record_of.ensures ∙ ap (λ (p : List ℕ). record_at g.row.E p c.in-Ok-find_place.place.index) read;
    }

pub returns-then-header-eq0-clause-missing : goal.returns-then-header-eq0-clause-missing
returns-then-header-eq0-clause-missing g c = λ b h same. bare_misses g.row.E g.row.K _ b c.args.index ((c.in-Ok.ensures.fields b h).levels_is ∙ c.if-header-eq0.true)

pub returns-in-Err-find_place-clause-missing : goal.returns-in-Err-find_place-clause-missing
returns-in-Err-find_place-clause-missing g c = λ b h.
    rw (g.met.M.FlatMem.same_size _ _ c.read_header.ensures.looks.kept) (c.in-Err-find_place.ensures.missing b (c.read_header.ensures.looks.unchanged b h) (c.in-Ok.ensures.fields b h))

pub returns-in-Err-clause-looks : goal.returns-in-Err-clause-looks
returns-in-Err-clause-looks g c = looks_as g.M.FlatMem c.read_header.ensures.looks c.in-Err.ensures.looks.cause (spends_less _ _ 1 (12 * (g.M.FlatMem.size c.args.mem.now / 512)) g.M.FlatMem.cost (omega (arith, c.read_header.ensures.looks.cost)) (omega (arith, c.requires.sized.some_pages)))

pub returns-then-index-header-clause-looks : goal.returns-then-index-header-clause-looks
returns-then-index-header-clause-looks g c = looks_as g.M.FlatMem c.read_header.ensures.looks tt (spends_less _ _ 1 (12 * (g.M.FlatMem.size c.args.mem.now / 512)) g.M.FlatMem.cost (omega (arith, c.read_header.ensures.looks.cost)) (omega (arith, c.requires.sized.some_pages)))

pub returns-then-header-eq0-clause-looks : goal.returns-then-header-eq0-clause-looks
returns-then-header-eq0-clause-looks g c = looks_as g.M.FlatMem c.read_header.ensures.looks tt (spends_less _ _ 1 (12 * (g.M.FlatMem.size c.args.mem.now / 512)) g.M.FlatMem.cost (omega (arith, c.read_header.ensures.looks.cost)) (omega (arith, c.requires.sized.some_pages)))
