use Rattle.std.proofs.Common.{◌≡◌, ℕ, ◌+◌, ◌/◌, ◌<◌, ◌≤◌, List, length, insert, arith, refl, sym, ◌∙◌, subst}
use Rattle.std.proofs.lemmas.List.Edits.{length-insert}
use Rattle.page_tree.specs.Tree.{IsTree, IsRooted}
use Rattle.page_tree.specs.Answer.{GoesTo, FromMemory}
use Rattle.page_tree.specs.Put.{capacity_of}
use Rattle.page_tree.specs.Climb.{RevealsClosed}
use Rattle.page_tree.proofs.Low.{ready}
use Rattle.page_tree.proofs.Moved.{climb_moved, closed_moved, step_done, step_more, match_weaker}
use Rattle.page_tree.specs.Broken.{Meets, StopsInsertion}
use Rattle.page_tree.specs.Met.{IsMetPath}
use Rattle.page_tree.proofs.FormLaws.{root_met}
use Rattle.page_tree.proofs.WayLaws.{way_begun, goes_on, malformed_wider}
use Rattle.page_tree.proofs.Calls.{works_as, looks_works, works_on}
use Rattle.std.proofs.lemmas.Nat.{mul-le}
use Rattle.page_tree.proofs.adding.put_in.Goals as goal

pub returns-then-header-eq0-clause-put : goal.returns-then-header-eq0-clause-put
returns-then-header-eq0-clause-put g c = λ b h records tree is room. c.put_first.ensures.put b h records tree is

pub returns-in-Err-clause-put : goal.returns-in-Err-clause-put
returns-in-Err-clause-put g c = λ b h records tree is room.
    let some : 0 < c.args.header.now.levels = omega (arith, c.if-header-eq0.false) in
    let now = ready g.row.E g.row.K (g.M.FlatMem.size c.args.mem.now / 512) b records c.args.header.now.count c.args.header.now.root c.args.header.now.top c.args.header.now.free c.args.header.now.levels tree is some room in
    c.in-Err.ensures.leaf b h records now.nodes now.rooted

pub returns-in-Err-put_low-clause-put : goal.returns-in-Err-put_low-clause-put
returns-in-Err-put_low-clause-put g c = λ b h records tree is room.
    let some : 0 < c.args.header.now.levels = omega (arith, c.if-header-eq0.false) in
    let size = g.met.M.FlatMem.same_size _ _ c.descend.ensures.looks.kept in
    let tree_now = subst (λ (s : ℕ). IsTree g.row.E g.row.K (s / 512) b records) size tree in
    let room_now = subst (λ (s : ℕ). length records < capacity_of g.row.E (s / 512)) size room in
    let now = ready g.row.E g.row.K (g.M.FlatMem.size c.descend.new.mem / 512) b records c.args.header.now.count c.args.header.now.root c.args.header.now.top c.args.header.now.free c.args.header.now.levels tree_now is some room_now in
    let rooted = subst (λ (s : ℕ). IsRooted g.row.E g.row.K (s / 512) b records c.args.header.now.levels c.args.header.now.root now.nodes) (sym size) now.rooted in
    let reached = c.in-Ok.ensures.leaf b h records now.nodes rooted in
    c.in-Err-put_low.ensures.low b (c.descend.ensures.looks.unchanged b h) records now c.descend.new.path.pages c.descend.new.path.index reached

pub returns-then-done-clause-put : goal.returns-then-done-clause-put
returns-then-done-clause-put g c = λ b h records tree is room.
    let some : 0 < c.args.header.now.levels = omega (arith, c.if-header-eq0.false) in
    let size = g.met.M.FlatMem.same_size _ _ c.descend.ensures.looks.kept in
    let tree_now = subst (λ (s : ℕ). IsTree g.row.E g.row.K (s / 512) b records) size tree in
    let room_now = subst (λ (s : ℕ). length records < capacity_of g.row.E (s / 512)) size room in
    let now = ready g.row.E g.row.K (g.M.FlatMem.size c.descend.new.mem / 512) b records c.args.header.now.count c.args.header.now.root c.args.header.now.top c.args.header.now.free c.args.header.now.levels tree_now is some room_now in
    let rooted = subst (λ (s : ℕ). IsRooted g.row.E g.row.K (s / 512) b records c.args.header.now.levels c.args.header.now.root now.nodes) (sym size) now.rooted in
    let reached = c.in-Ok.ensures.leaf b h records now.nodes rooted in
    let low = c.in-Ok-put_low.ensures.low b (c.descend.ensures.looks.unchanged b h) records now c.descend.new.path.pages c.descend.new.path.index reached in
    let closed = step_done g.row.E g.row.K _ _ (insert records low.0 c.args.entry.now) _ _ _ _ _ _ _ _ _ c.in-Ok-put_low.done c.if-done.true low.2 in
    record {
      now = closed.0;
      revealed = closed.1;
      at = low.0;
      after = subst (λ (x : List ℕ). GoesTo g.row.K records x low.0) c.copy_from_slice.ensures.after low.1;
      some = omega (arith, some, c.put_low.ensures.keeps.levels);
      few = omega (arith, c.requires.begins.levels_most, c.put_low.ensures.keeps.levels);
      closed = closed_moved g.row.E g.row.K _ _ closed.0 (insert records low.0 c.args.entry.now) _ _ _ _ c.put_low.new.header.free c.put_low.new.header.top (sym size) (sym c.put_low.ensures.keeps.levels) (sym c.put_low.ensures.keeps.root) closed.2;
    }

pub returns-clause-put : goal.returns-clause-put
returns-clause-put g c = λ b h records tree is room.
    let some : 0 < c.args.header.now.levels = omega (arith, c.if-header-eq0.false) in
    let size = g.met.M.FlatMem.same_size _ _ c.descend.ensures.looks.kept in
    let size_low = g.met.M.FlatMem.same_size _ _ c.put_low.ensures.works.kept in
    let tree_now = subst (λ (s : ℕ). IsTree g.row.E g.row.K (s / 512) b records) size tree in
    let room_now = subst (λ (s : ℕ). length records < capacity_of g.row.E (s / 512)) size room in
    let now = ready g.row.E g.row.K (g.M.FlatMem.size c.descend.new.mem / 512) b records c.args.header.now.count c.args.header.now.root c.args.header.now.top c.args.header.now.free c.args.header.now.levels tree_now is some room_now in
    let rooted = subst (λ (s : ℕ). IsRooted g.row.E g.row.K (s / 512) b records c.args.header.now.levels c.args.header.now.root now.nodes) (sym size) now.rooted in
    let reached = c.in-Ok.ensures.leaf b h records now.nodes rooted in
    let low = c.in-Ok-put_low.ensures.low b (c.descend.ensures.looks.unchanged b h) records now c.descend.new.path.pages c.descend.new.path.index reached in
    let more = step_more g.row.E g.row.K _ _ (insert records low.0 c.args.entry.now) _ _ _ _ _ _ _ _ _ c.in-Ok-put_low.done c.if-done.false low.2 in
    let moved = climb_moved g.row.E g.row.K _ _ more.0 (insert records low.0 c.args.entry.now) _ _ 1 c.descend.new.path.pages c.descend.new.path.index c.put_low.new.half.key c.put_low.new.half.page _ _ c.put_low.new.header.free c.put_low.new.header.top size_low (sym c.put_low.ensures.keeps.levels) (sym c.put_low.ensures.keeps.root) more.2 in
    let long : length (insert records low.0 c.args.entry.now) ≡ length records + 1 = length-insert records low.0 c.args.entry.now low.1.within in
    let below : length records < capacity_of g.row.E (g.M.FlatMem.size c.put_low.new.mem / 512) = subst (λ (s : ℕ). length records < capacity_of g.row.E (s / 512)) size_low room_now in
    let fits : length (insert records low.0 c.args.entry.now) ≤ capacity_of g.row.E (g.M.FlatMem.size c.put_low.new.mem / 512) = omega (arith, long, below) in
    let done = c.climb.ensures.done g.row.E more.0 more.1 (insert records low.0 c.args.entry.now) c.requires.sized.widths fits moved in
    match_weaker c.climb.result (λ x. RevealsClosed g.row.E g.row.K (g.M.FlatMem.size c.put_low.new.mem / 512) (g.M.FlatMem.reveals c.climb.new.mem) (insert records low.0 c.args.entry.now) c.climb.new.header.levels c.climb.new.header.root c.climb.new.header.free c.climb.new.header.top)
    _ FromMemory _
    (λ x revealed. record {
      now = revealed.0;
      revealed = revealed.1;
      at = low.0;
      after = subst (λ (x : List ℕ). GoesTo g.row.K records x low.0) c.copy_from_slice.ensures.after low.1;
      some = revealed.3;
      few = revealed.4;
      closed = closed_moved g.row.E g.row.K _ _ revealed.0 (insert records low.0 c.args.entry.now) _ _ _ _ c.climb.new.header.free c.climb.new.header.top (sym (size ∙ size_low)) refl refl revealed.2;
    })
    (λ error from. from)
    done

pub returns-then-header-eq0-clause-on : goal.returns-then-header-eq0-clause-on
returns-then-header-eq0-clause-on g c = λ b h is. c.put_first.ensures.on b h (way_begun g.row.K b _ _ (sym is.free_is) (omega (arith, g.met.M.FlatMem.revealed_length c.args.mem.now b h, c.requires.free)) (sym is.top_is))

pub returns-in-Err-clause-on : goal.returns-in-Err-clause-on
returns-in-Err-clause-on g c = λ b h is. malformed_wider _ _ c.in-Err.error (λ page broken. StopsInsertion.broken broken) (c.in-Err.ensures.broken b h (root_met g.row.K b (g.M.FlatMem.size c.args.mem.now) c.args.header.now.levels c.args.header.now.root (g.met.M.FlatMem.revealed_length c.args.mem.now b h) c.requires.begins (omega (arith, c.if-header-eq0.false)) (sym is.levels_is) (sym is.root_is)))

pub returns-in-Err-put_low-clause-on : goal.returns-in-Err-put_low-clause-on
returns-in-Err-put_low-clause-on g c = λ b h is.
    let met = c.in-Ok.ensures.met b h (root_met g.row.K b (g.M.FlatMem.size c.args.mem.now) c.args.header.now.levels c.args.header.now.root (g.met.M.FlatMem.revealed_length c.args.mem.now b h) c.requires.begins (omega (arith, c.if-header-eq0.false)) (sym is.levels_is) (sym is.root_is)) in
    let size = g.met.M.FlatMem.same_size _ _ c.descend.ensures.looks.kept in
    rw size (c.in-Err-put_low.ensures.on b (c.descend.ensures.looks.unchanged b h) (way_begun g.row.K b _ _ (sym is.free_is) (omega (arith, g.met.M.FlatMem.revealed_length c.args.mem.now b h, c.requires.free)) (sym is.top_is)) met.0 (c.in-Ok.ensures.read b h).1)

pub returns-clause-on : goal.returns-clause-on
returns-clause-on g c = λ b h is.
    let top = root_met g.row.K b (g.M.FlatMem.size c.args.mem.now) c.args.header.now.levels c.args.header.now.root (g.met.M.FlatMem.revealed_length c.args.mem.now b h) c.requires.begins (omega (arith, c.if-header-eq0.false)) (sym is.levels_is) (sym is.root_is) in
    let met = c.in-Ok.ensures.met b h top in
    let size = g.met.M.FlatMem.same_size _ _ c.descend.ensures.looks.kept in
    let size_low = g.met.M.FlatMem.same_size _ _ c.put_low.ensures.works.kept in
    let on = goes_on g.row.K (g.M.FlatMem.reveals c.put_low.new.mem) b 1 _ _ c.in-Ok-put_low.done c.if-done.false (c.in-Ok-put_low.ensures.on b (c.descend.ensures.looks.unchanged b h) (way_begun g.row.K b _ _ (sym is.free_is) (omega (arith, g.met.M.FlatMem.revealed_length c.args.mem.now b h, c.requires.free)) (sym is.top_is)) met.0 (c.in-Ok.ensures.read b h).1) in
    let top_now : Meets g.row.K b c.put_low.new.header.levels c.put_low.new.header.root = rw (c.put_low.ensures.keeps.levels, c.put_low.ensures.keeps.root) top in
    let path_now : IsMetPath g.row.K b c.put_low.new.header.levels 1 c.put_low.new.header.root c.descend.new.path.pages c.descend.new.path.index = rw (c.put_low.ensures.keeps.levels, c.put_low.ensures.keeps.root) met.1 in
    rw (size ∙ size_low) (c.climb.ensures.on g.row.E b on.0 on.1 on.2 top_now path_now)

pub returns-then-header-eq0-clause-works : goal.returns-then-header-eq0-clause-works
returns-then-header-eq0-clause-works g c = works_as g.M.FlatMem c.put_first.ensures.works c.put_first.ensures.works.cause (omega (arith, c.put_first.ensures.works.cost))

pub returns-in-Err-clause-works : goal.returns-in-Err-clause-works
returns-in-Err-clause-works g c = works_as g.M.FlatMem (looks_works g.M.FlatMem c.descend.ensures.looks) c.in-Err.ensures.looks.cause (omega (arith, c.descend.ensures.looks.cost, mul-le c.args.header.now.levels g.M.FlatMem.cost 6 g.M.FlatMem.cost c.requires.begins.levels_most (omega arith)))

pub returns-in-Err-put_low-clause-works : goal.returns-in-Err-put_low-clause-works
returns-in-Err-put_low-clause-works g c = works_on g.M.FlatMem g.met.M.FlatMem.beside_through g.met.M.FlatMem.beside_itself g.met.M.FlatMem.accounted_wider c.descend.ensures.looks.kept c.put_low.ensures.works c.in-Err-put_low.ensures.works.cause (omega (arith, c.descend.ensures.looks.cost, c.put_low.ensures.works.cost, mul-le c.args.header.now.levels g.M.FlatMem.cost 6 g.M.FlatMem.cost c.requires.begins.levels_most (omega arith)))

pub returns-then-done-clause-works : goal.returns-then-done-clause-works
returns-then-done-clause-works g c = works_on g.M.FlatMem g.met.M.FlatMem.beside_through g.met.M.FlatMem.beside_itself g.met.M.FlatMem.accounted_wider c.descend.ensures.looks.kept c.put_low.ensures.works tt (omega (arith, c.descend.ensures.looks.cost, c.put_low.ensures.works.cost, mul-le c.args.header.now.levels g.M.FlatMem.cost 6 g.M.FlatMem.cost c.requires.begins.levels_most (omega arith)))

pub returns-clause-works : goal.returns-clause-works
returns-clause-works g c = works_on g.M.FlatMem g.met.M.FlatMem.beside_through g.met.M.FlatMem.beside_itself g.met.M.FlatMem.accounted_wider (g.met.M.FlatMem.beside_through _ _ _ c.descend.ensures.looks.kept c.put_low.ensures.works.kept) c.climb.ensures.works c.climb.ensures.works.cause (omega (arith, c.descend.ensures.looks.cost, c.put_low.ensures.works.cost, c.climb.ensures.works.cost, mul-le c.args.header.now.levels g.M.FlatMem.cost 6 g.M.FlatMem.cost c.requires.begins.levels_most (omega arith)))
