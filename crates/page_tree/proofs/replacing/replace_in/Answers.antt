use Rattle.std.proofs.Common.{ℕ, ◌+◌, ◌*◌, ◌/◌, ◌<◌, ◌≤◌, List, length, slice_set, arith, sym, ◌∙◌, subst}
use Rattle.std.proofs.lemmas.Nat.{mul-le}
use Rattle.flat_mem.specs.Memory.{overwritten}
use Rattle.page_tree.specs.Page.{page_at}
use Rattle.page_tree.specs.Tree.{before, IsTree}
use Rattle.page_tree.specs.Climb.{IsHead}
use Rattle.page_tree.specs.Removed.{IsLastOf, NoneOf}
use Rattle.page_tree.proofs.Found.{found_none, found_last}
use Rattle.page_tree.proofs.Replaced.{sector_state, set_tree}
use Rattle.std.proofs.lemmas.Bool.{false≢true}
use Rattle.page_tree.proofs.WayLaws.{from_memory}
use Rattle.page_tree.proofs.Calls.{looks_works, works_as, works_on}
use Rattle.page_tree.proofs.replacing.replace_in.Goals as goal

pub returns-in-Err-clause-replaced : goal.returns-in-Err-clause-replaced
returns-in-Err-clause-replaced g c = λ b h records tree is.
    let here = sector_state g.row.E g.row.K (g.M.FlatMem.size c.args.mem.now / 512) b records c.args.header.count c.args.header.root c.args.header.top c.args.header.free c.args.header.levels tree is (omega (arith, c.requires.rooted.some)) in
    c.in-Err.ensures.leaf b h records here.nodes here.rooted

pub returns-in-None-clause-replaced : goal.returns-in-None-clause-replaced
returns-in-None-clause-replaced g c = λ b h records tree is.
    let some : 0 < c.args.header.levels = omega (arith, c.requires.rooted.some) in
    let here = sector_state g.row.E g.row.K (g.M.FlatMem.size c.args.mem.now / 512) b records c.args.header.count c.args.header.root c.args.header.top c.args.header.free c.args.header.levels tree is some in
    let reached = c.in-Ok.ensures.leaf b h records here.nodes here.rooted in
    (subst (NoneOf g.row.K records) c.requires.same (found_none g.row.E g.row.K b records c.args.header.levels here.nodes here.rooted.tower some c.args.key.now c.descend.new.page c.descend.new.path.pages c.descend.new.path.index c.in-Ok.at reached c.in-None.ensures), c.descend.ensures.looks.unchanged b h)

pub returns-in-None-clause-works : goal.returns-in-None-clause-works
returns-in-None-clause-works g c =
    works_as g.M.FlatMem (looks_works g.M.FlatMem c.descend.ensures.looks) tt (omega (arith, c.descend.ensures.looks.cost, mul-le c.args.header.levels g.M.FlatMem.cost 6 g.M.FlatMem.cost c.requires.rooted.begins.levels_most (omega arith)))

pub returns-in-Ok-store-clause-replaced : goal.returns-in-Ok-store-clause-replaced
returns-in-Ok-store-clause-replaced g c = λ b h records tree is.
    let some : 0 < c.args.header.levels = omega (arith, c.requires.rooted.some) in
    let here = sector_state g.row.E g.row.K (g.M.FlatMem.size c.args.mem.now / 512) b records c.args.header.count c.args.header.root c.args.header.top c.args.header.free c.args.header.levels tree is some in
    let reached = c.in-Ok.ensures.leaf b h records here.nodes here.rooted in
    let size : 512 * (g.M.FlatMem.size c.args.mem.now / 512) ≤ length b = omega (arith, g.met.M.FlatMem.revealed_length c.args.mem.now b h) in
    let head : IsHead (page_at b 0) (length records) c.args.header.root c.args.header.top c.args.header.free c.args.header.levels =
    subst (λ (n : ℕ). IsHead (page_at b 0) n c.args.header.root c.args.header.top c.args.header.free c.args.header.levels) (sym is.count_is ∙ tree.header.count_is) is in
    let last = found_last g.row.E g.row.K b records c.args.header.levels here.nodes here.rooted.tower some c.args.key.now c.descend.new.page c.descend.new.path.pages c.descend.new.path.index c.in-Ok.at reached c.in-Some.place c.in-Some.ensures in
    let done = set_tree g.row.E g.row.K (g.M.FlatMem.size c.args.mem.now / 512) b records c.args.header.levels c.args.header.root c.args.header.free c.args.header.top here c.requires.sized.widths some
    c.descend.new.page c.descend.new.path.pages c.descend.new.path.index c.in-Ok.at reached.place reached.path reached.bytes c.in-Some.place c.in-Some.ensures.below c.descend.array_long
    c.args.entry.now c.told-entry (sym c.requires.same ∙ sym c.in-Some.ensures.holds) c.requires.rooted.begins.levels_most size head tree.header.rest tree.capacity in (
      before (here.nodes 1) (reached.place 1) + c.in-Some.place,
      subst (λ (x : List ℕ). IsLastOf g.row.K records x (before (here.nodes 1) (reached.place 1) + c.in-Some.place)) c.requires.same last,
      overwritten b (512 * c.in-Ok.at) c.set_record.new.page,
      c.in-Ok-store.ensures.written b (c.descend.ensures.looks.unchanged b h),
      subst (λ (x : List ℕ). IsTree g.row.E g.row.K (g.M.FlatMem.size c.args.mem.now / 512) (overwritten b (512 * c.in-Ok.at) x) (slice_set records (before (here.nodes 1) (reached.place 1) + c.in-Some.place) c.args.entry.now)) (sym c.set_record.ensures) done,
    )

pub returns-in-None-clause-absent : goal.returns-in-None-clause-absent
returns-in-None-clause-absent g c = λ b h same. c.descend.ensures.looks.unchanged b h

pub returns-in-Ok-store-clause-absent : goal.returns-in-Ok-store-clause-absent
returns-in-Ok-store-clause-absent g c = λ b h same. absurd (false≢true (sym same))

pub returns-in-Err-clause-broken : goal.returns-in-Err-clause-broken
returns-in-Err-clause-broken g c = λ b h top. c.in-Err.ensures.broken b h top

pub returns-in-Err-store-clause-broken : goal.returns-in-Err-store-clause-broken
returns-in-Err-store-clause-broken g c = λ b h top. from_memory _ c.in-Err-store.error c.in-Err-store.ensures.memory

pub returns-in-Err-store-clause-works : goal.returns-in-Err-store-clause-works
returns-in-Err-store-clause-works g c =
    works_on g.M.FlatMem g.met.M.FlatMem.beside_through g.met.M.FlatMem.beside_itself g.met.M.FlatMem.accounted_wider c.descend.ensures.looks.kept c.store.ensures.works c.in-Err-store.ensures.works.cause
    (omega (arith, c.descend.ensures.looks.cost, c.store.ensures.works.cost, mul-le c.args.header.levels g.M.FlatMem.cost 6 g.M.FlatMem.cost c.requires.rooted.begins.levels_most (omega arith)))
