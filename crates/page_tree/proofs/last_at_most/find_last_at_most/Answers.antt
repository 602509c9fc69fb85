use Rattle.std.proofs.Common.{ℕ, ◌/◌, arith, sym, subst, ◌*◌}
use Rattle.page_tree.specs.Tree.{IsTree}
use Rattle.page_tree.proofs.Descent.{no_records}
use Rattle.page_tree.proofs.Replaced.{sector_state}
use Rattle.page_tree.proofs.CountLaws.{walk_spends, spends_less}
use Rattle.page_tree.proofs.CountedLaws.{counted_none, counted_last}
use Rattle.page_tree.proofs.Calls.{looks_on, looks_as}
use Rattle.page_tree.proofs.last_at_most.find_last_at_most.Goals as goal

pub returns-then-header-eq0-clause-answer : goal.returns-then-header-eq0-clause-answer
returns-then-header-eq0-clause-answer g c = λ b h records tree. no_records g.row.E g.row.K _ b records c.args.key.now tree c.in-Ok.header.levels (sym (c.in-Ok.ensures.fields b h).levels_is) c.if-header-eq0.true

pub returns-in-Err-count_to-clause-answer : goal.returns-in-Err-count_to-clause-answer
returns-in-Err-count_to-clause-answer g c = λ b h records tree.
    let tree_now = subst (λ (s : ℕ). IsTree g.row.E g.row.K (s / 512) b records) (g.met.M.FlatMem.same_size _ _ c.read_header.ensures.looks.kept) tree in
    let here = sector_state g.row.E g.row.K (g.M.FlatMem.size c.read_header.new.mem / 512) b records c.in-Ok.header.count c.in-Ok.header.root c.in-Ok.header.top c.in-Ok.header.free c.in-Ok.header.levels tree_now (c.in-Ok.ensures.fields b h) (omega (arith, c.if-header-eq0.false)) in
    c.in-Err-count_to.ensures.counted b (c.read_header.ensures.looks.unchanged b h) records here

pub returns-in-Err-count_to-clause-broken : goal.returns-in-Err-count_to-clause-broken
returns-in-Err-count_to-clause-broken g c = λ b h. rw (g.met.M.FlatMem.same_size _ _ c.read_header.ensures.looks.kept) (c.in-Err-count_to.ensures.broken b (c.read_header.ensures.looks.unchanged b h) (c.in-Ok.ensures.fields b h))

pub returns-in-Err-count_to-clause-looks : goal.returns-in-Err-count_to-clause-looks
returns-in-Err-count_to-clause-looks g c =
    looks_on g.M.FlatMem g.met.M.FlatMem.beside_through g.met.M.FlatMem.beside_itself g.met.M.FlatMem.accounted_wider g.met.M.FlatMem.only_reads_through c.read_header.ensures.looks.unchanged c.read_header.ensures.looks.kept c.read_header.ensures.looks.looked c.count_to.ensures.looks c.in-Err-count_to.ensures.looks.cause (walk_spends _ _ _ _ _ 6 12 g.M.FlatMem.cost c.read_header.ensures.looks.cost c.count_to.ensures.looks.cost (g.met.M.FlatMem.same_size _ _ c.read_header.ensures.looks.kept) (omega (arith, c.requires.sized.some_pages)))

pub returns-then-count-eq0-clause-answer : goal.returns-then-count-eq0-clause-answer
returns-then-count-eq0-clause-answer g c = λ b h records tree.
    let tree_now = subst (λ (s : ℕ). IsTree g.row.E g.row.K (s / 512) b records) (g.met.M.FlatMem.same_size _ _ c.read_header.ensures.looks.kept) tree in
    let here = sector_state g.row.E g.row.K (g.M.FlatMem.size c.read_header.new.mem / 512) b records c.in-Ok.header.count c.in-Ok.header.root c.in-Ok.header.top c.in-Ok.header.free c.in-Ok.header.levels tree_now (c.in-Ok.ensures.fields b h) (omega (arith, c.if-header-eq0.false)) in
    counted_none g.row.K records c.args.key.now c.in-Ok-count_to.count c.if-count-eq0.true (c.in-Ok-count_to.ensures.counted b (c.read_header.ensures.looks.unchanged b h) records here)

pub returns-then-count-eq0-clause-looks : goal.returns-then-count-eq0-clause-looks
returns-then-count-eq0-clause-looks g c =
    looks_on g.M.FlatMem g.met.M.FlatMem.beside_through g.met.M.FlatMem.beside_itself g.met.M.FlatMem.accounted_wider g.met.M.FlatMem.only_reads_through c.read_header.ensures.looks.unchanged c.read_header.ensures.looks.kept c.read_header.ensures.looks.looked c.count_to.ensures.looks tt (walk_spends _ _ _ _ _ 6 12 g.M.FlatMem.cost c.read_header.ensures.looks.cost c.count_to.ensures.looks.cost (g.met.M.FlatMem.same_size _ _ c.read_header.ensures.looks.kept) (omega (arith, c.requires.sized.some_pages)))

pub returns-clause-answer : goal.returns-clause-answer
returns-clause-answer g c = λ b h records tree.
    let tree_now = subst (λ (s : ℕ). IsTree g.row.E g.row.K (s / 512) b records) (g.met.M.FlatMem.same_size _ _ c.read_header.ensures.looks.kept) tree in
    let here = sector_state g.row.E g.row.K (g.M.FlatMem.size c.read_header.new.mem / 512) b records c.in-Ok.header.count c.in-Ok.header.root c.in-Ok.header.top c.in-Ok.header.free c.in-Ok.header.levels tree_now (c.in-Ok.ensures.fields b h) (omega (arith, c.if-header-eq0.false)) in
    counted_last g.row.K records c.args.key.now c.in-Ok-count_to.count (omega (arith, c.if-count-eq0.false)) (c.in-Ok-count_to.ensures.counted b (c.read_header.ensures.looks.unchanged b h) records here)

pub returns-clause-looks : goal.returns-clause-looks
returns-clause-looks g c =
    looks_on g.M.FlatMem g.met.M.FlatMem.beside_through g.met.M.FlatMem.beside_itself g.met.M.FlatMem.accounted_wider g.met.M.FlatMem.only_reads_through c.read_header.ensures.looks.unchanged c.read_header.ensures.looks.kept c.read_header.ensures.looks.looked c.count_to.ensures.looks tt (walk_spends _ _ _ _ _ 6 12 g.M.FlatMem.cost c.read_header.ensures.looks.cost c.count_to.ensures.looks.cost (g.met.M.FlatMem.same_size _ _ c.read_header.ensures.looks.kept) (omega (arith, c.requires.sized.some_pages)))

pub returns-in-Err-clause-looks : goal.returns-in-Err-clause-looks
returns-in-Err-clause-looks g c = looks_as g.M.FlatMem c.read_header.ensures.looks c.in-Err.ensures.looks.cause (spends_less _ _ 1 (12 * (g.M.FlatMem.size c.args.mem.now / 512)) g.M.FlatMem.cost (omega (arith, c.read_header.ensures.looks.cost)) (omega (arith, c.requires.sized.some_pages)))

pub returns-then-header-eq0-clause-looks : goal.returns-then-header-eq0-clause-looks
returns-then-header-eq0-clause-looks g c = looks_as g.M.FlatMem c.read_header.ensures.looks tt (spends_less _ _ 1 (12 * (g.M.FlatMem.size c.args.mem.now / 512)) g.M.FlatMem.cost (omega (arith, c.read_header.ensures.looks.cost)) (omega (arith, c.requires.sized.some_pages)))
