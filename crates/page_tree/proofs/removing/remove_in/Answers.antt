use Rattle.std.proofs.Common.{◌≡◌, inl, inr, ℕ, ◌+◌, ◌*◌, ◌/◌, ◌<◌, ◌≤◌, length, remove, arith, sym, ◌∙◌, ap, subst}
use Rattle.std.proofs.lemmas.Nat.{mul-le}
use Rattle.flat_mem.specs.Memory.{overwritten}
use Rattle.page_tree.specs.Tree.{before, IsTree, IsRooted}
use Rattle.page_tree.specs.Climb.{IsClosed}
use Rattle.page_tree.specs.Removed.{IsLastOf}
use Rattle.page_tree.proofs.Found.{found_none, found_last}
use Rattle.page_tree.proofs.Replaced.{sector_state}
use Rattle.page_tree.proofs.Single.{single_level, single_bare, bare_at}
use Rattle.std.proofs.lemmas.Bool.{false≢true}
use Rattle.page_tree.specs.Page.{filled}
use Rattle.page_tree.specs.Broken.{Breaks}
use Rattle.page_tree.proofs.Neighbours.{leaf_room_least}
use Rattle.page_tree.proofs.WayLaws.{from_memory}
use Rattle.page_tree.proofs.RebalancingLaws.{single_underfull}
use Rattle.page_tree.proofs.Calls.{looks_works, works_as}
use Rattle.page_tree.proofs.removing.remove_in.Goals as goal

pub returns-in-Err-clause-out : goal.returns-in-Err-clause-out
returns-in-Err-clause-out g c = λ b h records tree is.
    let some : 0 < c.args.header.now.levels = omega (arith, c.requires.rooted.some) in
    let here = sector_state g.row.E g.row.K (g.M.FlatMem.size c.args.mem.now / 512) b records c.args.header.now.count c.args.header.now.root c.args.header.now.top c.args.header.now.free c.args.header.now.levels tree is some in
    c.in-Err.ensures.leaf b h records here.nodes here.rooted

pub returns-in-None-clause-out : goal.returns-in-None-clause-out
returns-in-None-clause-out g c = λ b h records tree is.
    let some : 0 < c.args.header.now.levels = omega (arith, c.requires.rooted.some) in
    let here = sector_state g.row.E g.row.K (g.M.FlatMem.size c.args.mem.now / 512) b records c.args.header.now.count c.args.header.now.root c.args.header.now.top c.args.header.now.free c.args.header.now.levels tree is some in
    let reached = c.in-Ok.ensures.leaf b h records here.nodes here.rooted in
    let revealed = c.descend.ensures.looks.unchanged b h in
    let size = g.met.M.FlatMem.same_size _ _ c.descend.ensures.looks.kept in
    (found_none g.row.E g.row.K b records c.args.header.now.levels here.nodes here.rooted.tower some c.args.key.now c.descend.new.page c.descend.new.path.pages c.descend.new.path.index c.in-Ok.at reached c.in-None.ensures, revealed)

pub returns-in-None-clause-works : goal.returns-in-None-clause-works
returns-in-None-clause-works g c =
    works_as g.M.FlatMem (looks_works g.M.FlatMem c.descend.ensures.looks) tt (omega (arith, c.descend.ensures.looks.cost, mul-le c.args.header.now.levels g.M.FlatMem.cost 6 g.M.FlatMem.cost c.requires.rooted.begins.levels_most (omega arith)))

pub returns-then-header-gt1-clause-out : goal.returns-then-header-gt1-clause-out
returns-then-header-gt1-clause-out g c = λ b h records tree is.
    let some : 0 < c.args.header.now.levels = omega (arith, c.requires.rooted.some) in
    let here = sector_state g.row.E g.row.K (g.M.FlatMem.size c.args.mem.now / 512) b records c.args.header.now.count c.args.header.now.root c.args.header.now.top c.args.header.now.free c.args.header.now.levels tree is some in
    let reached = c.in-Ok.ensures.leaf b h records here.nodes here.rooted in
    let revealed = c.descend.ensures.looks.unchanged b h in
    let size = g.met.M.FlatMem.same_size _ _ c.descend.ensures.looks.kept in
    let low = single_level g.row.E g.row.K (g.M.FlatMem.size c.args.mem.now / 512) b records c.args.header.now.levels c.args.header.now.root c.args.header.now.free c.args.header.now.top here c.requires.sized.widths some c.descend.new.page c.descend.new.path.pages c.descend.new.path.index c.in-Ok.at reached.place reached.path reached.bytes (sym c.filled_of-count.ensures ∙ c.if-count-eq1.true) in
    absurd (omega (arith, low, c.if-header-gt1.true))

pub returns-in-Ok-give_page-clause-out : goal.returns-in-Ok-give_page-clause-out
returns-in-Ok-give_page-clause-out g c = λ b h records tree is.
    let some : 0 < c.args.header.now.levels = omega (arith, c.requires.rooted.some) in
    let here = sector_state g.row.E g.row.K (g.M.FlatMem.size c.args.mem.now / 512) b records c.args.header.now.count c.args.header.now.root c.args.header.now.top c.args.header.now.free c.args.header.now.levels tree is some in
    let reached = c.in-Ok.ensures.leaf b h records here.nodes here.rooted in
    let revealed = c.descend.ensures.looks.unchanged b h in
    let size = g.met.M.FlatMem.same_size _ _ c.descend.ensures.looks.kept in
    let last = found_last g.row.E g.row.K b records c.args.header.now.levels here.nodes here.rooted.tower some c.args.key.now c.descend.new.page c.descend.new.path.pages c.descend.new.path.index c.in-Ok.at reached c.in-Some.place c.in-Some.ensures in
    let given = c.in-Ok-give_page.ensures.given b revealed in
    let long : 512 * (g.M.FlatMem.size c.args.mem.now / 512) ≤ length b = omega (arith, g.met.M.FlatMem.revealed_length c.args.mem.now b h) in
    let bare = single_bare g.row.E g.row.K (g.M.FlatMem.size c.args.mem.now / 512) b records c.args.header.now.levels c.args.header.now.root c.args.header.now.free c.args.header.now.top here c.requires.sized.widths some c.descend.new.page c.descend.new.path.pages c.descend.new.path.index c.in-Ok.at reached.place reached.path reached.bytes (sym c.filled_of-count.ensures ∙ c.if-count-eq1.true)
    (before (here.nodes 1) (reached.place 1) + c.in-Some.place) last.below given.0 given.1 given.2 given.3 long in (
      before (here.nodes 1) (reached.place 1) + c.in-Some.place,
      last,
      overwritten b (512 * c.in-Ok.at) given.0,
      given.4,
      inr (bare_at g.row.E g.row.K (g.M.FlatMem.size c.args.mem.now / 512) _ _ _ _ _ _ _ _ _ _ (sym c.give_page.ensures.keeps.levels) (sym c.give_page.ensures.keeps.root) (sym c.in-Ok-give_page.ensures.free) (sym c.give_page.ensures.top) bare),
    )

pub returns-in-Err-give_page-clause-out : goal.returns-in-Err-give_page-clause-out
returns-in-Err-give_page-clause-out g c = λ b h records tree is. c.in-Err-give_page.ensures.given b (c.descend.ensures.looks.unchanged b h)

pub returns-in-Ok-take_first-clause-out : goal.returns-in-Ok-take_first-clause-out
returns-in-Ok-take_first-clause-out g c = λ b h records tree is.
    let some : 0 < c.args.header.now.levels = omega (arith, c.requires.rooted.some) in
    let here = sector_state g.row.E g.row.K (g.M.FlatMem.size c.descend.new.mem / 512) b records c.args.header.now.count c.args.header.now.root c.args.header.now.top c.args.header.now.free c.args.header.now.levels (subst (λ (s : ℕ). IsTree g.row.E g.row.K (s / 512) b records) (g.met.M.FlatMem.same_size _ _ c.descend.ensures.looks.kept) tree) is some in
    let reached = c.in-Ok.ensures.leaf b h records here.nodes (subst (λ (s : ℕ). IsRooted g.row.E g.row.K (s / 512) b records c.args.header.now.levels c.args.header.now.root here.nodes) (sym (g.met.M.FlatMem.same_size _ _ c.descend.ensures.looks.kept)) here.rooted) in
    let revealed = c.descend.ensures.looks.unchanged b h in
    let size = g.met.M.FlatMem.same_size _ _ c.descend.ensures.looks.kept in
    let last = found_last g.row.E g.row.K b records c.args.header.now.levels here.nodes here.rooted.tower some c.args.key.now c.descend.new.page c.descend.new.path.pages c.descend.new.path.index c.in-Ok.at reached c.in-Some.place c.in-Some.ensures in
    let done = c.in-Ok-take_first.ensures.out b revealed records here reached.place reached.path reached.bytes in
    let place_zero : before (here.nodes 1) (reached.place 1) + c.in-Some.place ≡ before (here.nodes 1) (reached.place 1) + 0 = ap (λ (i : ℕ). before (here.nodes 1) (reached.place 1) + i) c.if-place-eq0.true in (
      before (here.nodes 1) (reached.place 1) + 0,
      subst (IsLastOf g.row.K records c.args.key.now) place_zero last,
      done.0,
      done.1,
      inl (done.3, subst (λ (s : ℕ). IsClosed g.row.E g.row.K (s / 512) done.0 (remove records (before (here.nodes 1) (reached.place 1) + 0)) c.take_first.new.header.levels c.take_first.new.header.root c.take_first.new.header.free c.take_first.new.header.top) (sym size) done.2),
    )

pub returns-in-Err-take_first-clause-out : goal.returns-in-Err-take_first-clause-out
returns-in-Err-take_first-clause-out g c = λ b h records tree is.
    let some : 0 < c.args.header.now.levels = omega (arith, c.requires.rooted.some) in
    let here = sector_state g.row.E g.row.K (g.M.FlatMem.size c.descend.new.mem / 512) b records c.args.header.now.count c.args.header.now.root c.args.header.now.top c.args.header.now.free c.args.header.now.levels (subst (λ (s : ℕ). IsTree g.row.E g.row.K (s / 512) b records) (g.met.M.FlatMem.same_size _ _ c.descend.ensures.looks.kept) tree) is some in
    let reached = c.in-Ok.ensures.leaf b h records here.nodes (subst (λ (s : ℕ). IsRooted g.row.E g.row.K (s / 512) b records c.args.header.now.levels c.args.header.now.root here.nodes) (sym (g.met.M.FlatMem.same_size _ _ c.descend.ensures.looks.kept)) here.rooted) in
    let revealed = c.descend.ensures.looks.unchanged b h in
    let size = g.met.M.FlatMem.same_size _ _ c.descend.ensures.looks.kept in
    c.in-Err-take_first.ensures.out b revealed records here reached.place reached.path reached.bytes

pub returns-in-Err-take_later-clause-out : goal.returns-in-Err-take_later-clause-out
returns-in-Err-take_later-clause-out g c = λ b h records tree is.
    let some : 0 < c.args.header.now.levels = omega (arith, c.requires.rooted.some) in
    let here = sector_state g.row.E g.row.K (g.M.FlatMem.size c.descend.new.mem / 512) b records c.args.header.now.count c.args.header.now.root c.args.header.now.top c.args.header.now.free c.args.header.now.levels (subst (λ (s : ℕ). IsTree g.row.E g.row.K (s / 512) b records) (g.met.M.FlatMem.same_size _ _ c.descend.ensures.looks.kept) tree) is some in
    let reached = c.in-Ok.ensures.leaf b h records here.nodes (subst (λ (s : ℕ). IsRooted g.row.E g.row.K (s / 512) b records c.args.header.now.levels c.args.header.now.root here.nodes) (sym (g.met.M.FlatMem.same_size _ _ c.descend.ensures.looks.kept)) here.rooted) in
    let revealed = c.descend.ensures.looks.unchanged b h in
    let size = g.met.M.FlatMem.same_size _ _ c.descend.ensures.looks.kept in
    c.in-Err-take_later.ensures.out b revealed records here reached.place reached.path reached.bytes

pub returns-clause-out : goal.returns-clause-out
returns-clause-out g c = λ b h records tree is.
    let some : 0 < c.args.header.now.levels = omega (arith, c.requires.rooted.some) in
    let here = sector_state g.row.E g.row.K (g.M.FlatMem.size c.descend.new.mem / 512) b records c.args.header.now.count c.args.header.now.root c.args.header.now.top c.args.header.now.free c.args.header.now.levels (subst (λ (s : ℕ). IsTree g.row.E g.row.K (s / 512) b records) (g.met.M.FlatMem.same_size _ _ c.descend.ensures.looks.kept) tree) is some in
    let reached = c.in-Ok.ensures.leaf b h records here.nodes (subst (λ (s : ℕ). IsRooted g.row.E g.row.K (s / 512) b records c.args.header.now.levels c.args.header.now.root here.nodes) (sym (g.met.M.FlatMem.same_size _ _ c.descend.ensures.looks.kept)) here.rooted) in
    let revealed = c.descend.ensures.looks.unchanged b h in
    let size = g.met.M.FlatMem.same_size _ _ c.descend.ensures.looks.kept in
    let last = found_last g.row.E g.row.K b records c.args.header.now.levels here.nodes here.rooted.tower some c.args.key.now c.descend.new.page c.descend.new.path.pages c.descend.new.path.index c.in-Ok.at reached c.in-Some.place c.in-Some.ensures in
    let done = c.in-Ok-take_later.ensures.out b revealed records here reached.place reached.path reached.bytes in (
      before (here.nodes 1) (reached.place 1) + c.in-Some.place,
      last,
      done.0,
      done.1,
      inl (done.3, subst (λ (s : ℕ). IsClosed g.row.E g.row.K (s / 512) done.0 (remove records (before (here.nodes 1) (reached.place 1) + c.in-Some.place)) c.take_later.new.header.levels c.take_later.new.header.root c.take_later.new.header.free c.take_later.new.header.top) (sym size) done.2),
    )

pub returns-in-None-clause-absent : goal.returns-in-None-clause-absent
returns-in-None-clause-absent g c = λ b h same. c.descend.ensures.looks.unchanged b h

pub returns-in-Ok-give_page-clause-absent : goal.returns-in-Ok-give_page-clause-absent
returns-in-Ok-give_page-clause-absent g c = λ b h same. absurd (false≢true (sym same))

pub returns-in-Ok-take_first-clause-absent : goal.returns-in-Ok-take_first-clause-absent
returns-in-Ok-take_first-clause-absent g c = λ b h same. absurd (false≢true (sym same))

pub returns-clause-absent : goal.returns-clause-absent
returns-clause-absent g c = λ b h same. absurd (false≢true (sym same))

pub returns-then-header-gt1-clause-broken : goal.returns-then-header-gt1-clause-broken
returns-then-header-gt1-clause-broken g c = λ b h levels_is top.
    let met = c.in-Ok.ensures.met b h top in
    let read = c.in-Ok.ensures.read b h in
    single_underfull g.row.E g.row.K (g.M.FlatMem.size c.args.mem.now / 512) b c.args.header.now.levels c.in-Ok.at met.0 levels_is c.if-header-gt1.true (omega (arith, ap filled (sym read.0), c.if-count-eq1.true, c.filled_of-count.ensures)) (leaf_room_least g.row.E c.requires.sized.widths.entry_least c.requires.sized.widths.entry_most).0

pub returns-in-Err-take_first-clause-broken : goal.returns-in-Err-take_first-clause-broken
returns-in-Err-take_first-clause-broken g c = λ b h levels_is top.
    let met = c.in-Ok.ensures.met b h top in
    let size = g.met.M.FlatMem.same_size _ _ c.descend.ensures.looks.kept in
    rw size (c.in-Err-take_first.ensures.broken c.args.header.now.root b (c.descend.ensures.looks.unchanged b h) levels_is met.1 met.0)

pub returns-in-Err-take_later-clause-broken : goal.returns-in-Err-take_later-clause-broken
returns-in-Err-take_later-clause-broken g c = λ b h levels_is top.
    let met = c.in-Ok.ensures.met b h top in
    let size = g.met.M.FlatMem.same_size _ _ c.descend.ensures.looks.kept in
    rw size (c.in-Err-take_later.ensures.broken c.args.header.now.root b (c.descend.ensures.looks.unchanged b h) levels_is met.1 met.0)

pub returns-in-Err-give_page-clause-broken : goal.returns-in-Err-give_page-clause-broken
returns-in-Err-give_page-clause-broken g c = λ b h levels_is top. from_memory (Breaks g.row.E g.row.K (g.M.FlatMem.size c.args.mem.now / 512) b) c.in-Err-give_page.error (c.in-Err-give_page.ensures.given b (c.descend.ensures.looks.unchanged b h))
