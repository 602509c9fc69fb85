use Rattle.std.proofs.Common.{◌≡◌, ℕ, ◌+◌, ◌/◌, ◌<◌, ◌≤◌, length, insert, arith, refl, sym, ◌∙◌, subst}
use Rattle.std.proofs.lemmas.List.Edits.{length-insert}
use Rattle.page_tree.specs.Page.{IsBlank}
use Rattle.page_tree.specs.Tree.{IsTree}
use Rattle.page_tree.specs.Put.{capacity_of}
use Rattle.page_tree.specs.Broken.{StopsInsertion}
use Rattle.page_tree.proofs.Low.{full_or}
use Rattle.page_tree.proofs.Moved.{closed_moved}
use Rattle.page_tree.proofs.WayLaws.{from_memory, malformed_wider}
use Rattle.page_tree.proofs.WalkLaws.{memory_wider, never_full}
use Rattle.page_tree.proofs.adding.insert.Goals as goal

pub returns-in-Err-clause-answer : goal.returns-in-Err-clause-answer
returns-in-Err-clause-answer g c = λ b h records tree.
    full_or g.row.E (g.M.FlatMem.size c.args.mem.now / 512) (g.M.FlatMem.reveals c.read_header.new.mem) b records c.in-Err.error (c.in-Err.ensures.well b h records tree)

pub returns-in-Err-put_in-clause-answer : goal.returns-in-Err-put_in-clause-answer
returns-in-Err-put_in-clause-answer g c = λ b h records tree.
    let is = c.in-Ok.ensures.fields b h in
    let size = g.met.M.FlatMem.same_size _ _ c.read_header.ensures.looks.kept in
    let below : c.in-Ok.header.count < capacity_of g.row.E (g.M.FlatMem.size c.args.mem.now / 512) = rw (← c.len.ensures) (rw c.capacity_of_pages-capacity.ensures at c.if-header-capacity.false) in
    let room : length records < capacity_of g.row.E (g.M.FlatMem.size c.args.mem.now / 512) = omega (arith, below, is.count_is, tree.header.count_is) in
    let tree_now = subst (λ (s : ℕ). IsTree g.row.E g.row.K (s / 512) b records) size tree in
    let room_now = subst (λ (s : ℕ). length records < capacity_of g.row.E (s / 512)) size room in
    full_or g.row.E (g.M.FlatMem.size c.args.mem.now / 512) (g.M.FlatMem.reveals c.put_in.new.mem) b records c.in-Err-put_in.error (c.in-Err-put_in.ensures.put b (c.read_header.ensures.looks.unchanged b h) records tree_now is room_now)

pub returns-in-Err-finish-clause-answer : goal.returns-in-Err-finish-clause-answer
returns-in-Err-finish-clause-answer g c = λ b h records tree.
    let is = c.in-Ok.ensures.fields b h in
    let size = g.met.M.FlatMem.same_size _ _ c.read_header.ensures.looks.kept in
    let size_put = g.met.M.FlatMem.same_size _ _ c.put_in.ensures.works.kept in
    let below : c.in-Ok.header.count < capacity_of g.row.E (g.M.FlatMem.size c.args.mem.now / 512) = rw (← c.len.ensures) (rw c.capacity_of_pages-capacity.ensures at c.if-header-capacity.false) in
    let room : length records < capacity_of g.row.E (g.M.FlatMem.size c.args.mem.now / 512) = omega (arith, below, is.count_is, tree.header.count_is) in
    let tree_now = subst (λ (s : ℕ). IsTree g.row.E g.row.K (s / 512) b records) size tree in
    let room_now = subst (λ (s : ℕ). length records < capacity_of g.row.E (s / 512)) size room in
    let put_now = c.in-Ok-put_in.ensures.put b (c.read_header.ensures.looks.unchanged b h) records tree_now is room_now in
    let long : length (insert records put_now.at c.args.entry.now) ≡ length records + 1 = length-insert records put_now.at c.args.entry.now put_now.after.within in
    let closed = closed_moved g.row.E g.row.K _ _ put_now.now (insert records put_now.at c.args.entry.now) _ _ _ _ c.put_in.new.header.free c.put_in.new.header.top size_put refl refl put_now.closed in
    let room_put = subst (λ (s : ℕ). length records < capacity_of g.row.E (s / 512)) size_put room_now in
    full_or g.row.E (g.M.FlatMem.size c.args.mem.now / 512) (g.M.FlatMem.reveals c.finish.new.mem) b records c.in-Err-finish.error
    (c.in-Err-finish.ensures.tree g.row.E g.row.K put_now.now put_now.revealed (insert records put_now.at c.args.entry.now) closed put_now.some (subst IsBlank (sym (c.in-Ok.ensures.read b h)) tree.header.rest) (omega (arith, long, c.put_in.ensures.count, is.count_is, tree.header.count_is)) (omega (arith, long, room_put)))

pub returns-clause-answer : goal.returns-clause-answer
returns-clause-answer g c = λ b h records tree.
    let is = c.in-Ok.ensures.fields b h in
    let size = g.met.M.FlatMem.same_size _ _ c.read_header.ensures.looks.kept in
    let size_put = g.met.M.FlatMem.same_size _ _ c.put_in.ensures.works.kept in
    let below : c.in-Ok.header.count < capacity_of g.row.E (g.M.FlatMem.size c.args.mem.now / 512) = rw (← c.len.ensures) (rw c.capacity_of_pages-capacity.ensures at c.if-header-capacity.false) in
    let room : length records < capacity_of g.row.E (g.M.FlatMem.size c.args.mem.now / 512) = omega (arith, below, is.count_is, tree.header.count_is) in
    let tree_now = subst (λ (s : ℕ). IsTree g.row.E g.row.K (s / 512) b records) size tree in
    let room_now = subst (λ (s : ℕ). length records < capacity_of g.row.E (s / 512)) size room in
    let put_now = c.in-Ok-put_in.ensures.put b (c.read_header.ensures.looks.unchanged b h) records tree_now is room_now in
    let long : length (insert records put_now.at c.args.entry.now) ≡ length records + 1 = length-insert records put_now.at c.args.entry.now put_now.after.within in
    let closed = closed_moved g.row.E g.row.K _ _ put_now.now (insert records put_now.at c.args.entry.now) _ _ _ _ c.put_in.new.header.free c.put_in.new.header.top size_put refl refl put_now.closed in
    let room_put = subst (λ (s : ℕ). length records < capacity_of g.row.E (s / 512)) size_put room_now in
    let whole = c.in-Ok-finish.ensures.tree g.row.E g.row.K put_now.now put_now.revealed (insert records put_now.at c.args.entry.now) closed put_now.some (subst IsBlank (sym (c.in-Ok.ensures.read b h)) tree.header.rest) (omega (arith, long, c.put_in.ensures.count, is.count_is, tree.header.count_is)) (omega (arith, long, room_put)) in
    record {
      now = whole.0;
      revealed = whole.1;
      at = put_now.at;
      after = put_now.after;
      tree = subst (λ (s : ℕ). IsTree g.row.E g.row.K (s / 512) whole.0 (insert records put_now.at c.args.entry.now)) (sym (size ∙ size_put)) whole.2;
    }

pub returns-in-Err-put_in-clause-broken : goal.returns-in-Err-put_in-clause-broken
returns-in-Err-put_in-clause-broken g c = λ b h.
    let size = g.met.M.FlatMem.same_size _ _ c.read_header.ensures.looks.kept in
    rw size (c.in-Err-put_in.ensures.on b (c.read_header.ensures.looks.unchanged b h) (c.in-Ok.ensures.fields b h))

pub returns-in-Err-finish-clause-broken : goal.returns-in-Err-finish-clause-broken
returns-in-Err-finish-clause-broken g c = λ b h. from_memory _ c.in-Err-finish.error c.in-Err-finish.ensures.memory

pub returns-in-Err-clause-full : goal.returns-in-Err-clause-full
returns-in-Err-clause-full g c = λ b h. never_full _ _ c.in-Err.error c.in-Err.ensures.looks.cause

pub returns-then-header-capacity-clause-full : goal.returns-then-header-capacity-clause-full
returns-then-header-capacity-clause-full g c = λ b h.
    let is = c.in-Ok.ensures.fields b h in
    let above : capacity_of g.row.E (g.M.FlatMem.size c.args.mem.now / 512) ≤ c.in-Ok.header.count = rw (← c.len.ensures) (rw c.capacity_of_pages-capacity.ensures at c.if-header-capacity.true) in
    omega (arith, above, is.count_is)

pub returns-in-Err-put_in-clause-full : goal.returns-in-Err-put_in-clause-full
returns-in-Err-put_in-clause-full g c = λ b h. never_full _ _ c.in-Err-put_in.error c.in-Err-put_in.ensures.works.cause

pub returns-in-Err-finish-clause-full : goal.returns-in-Err-finish-clause-full
returns-in-Err-finish-clause-full g c = λ b h. never_full _ _ c.in-Err-finish.error c.in-Err-finish.ensures.works.cause

pub returns-in-Err-clause-cause : goal.returns-in-Err-clause-cause
returns-in-Err-clause-cause g c = memory_wider _ _ c.in-Err.error (λ x from. from) c.in-Err.ensures.looks.cause

pub returns-in-Err-put_in-clause-cause : goal.returns-in-Err-put_in-clause-cause
returns-in-Err-put_in-clause-cause g c =
    memory_wider _ _ c.in-Err-put_in.error (λ x from. g.met.M.FlatMem.accounted_wider _ _ _ _ x c.read_header.ensures.looks.kept c.put_in.ensures.works.kept (g.met.M.FlatMem.beside_itself _) from) c.in-Err-put_in.ensures.works.cause

pub returns-in-Err-finish-clause-cause : goal.returns-in-Err-finish-clause-cause
returns-in-Err-finish-clause-cause g c =
    memory_wider _ _ c.in-Err-finish.error
    (λ x from. g.met.M.FlatMem.accounted_wider _ _ _ _ x (g.met.M.FlatMem.beside_through _ _ _ c.read_header.ensures.looks.kept c.put_in.ensures.works.kept) c.finish.ensures.works.kept (g.met.M.FlatMem.beside_itself _) from) c.in-Err-finish.ensures.works.cause

pub returns-in-Err-clause-full_same : goal.returns-in-Err-clause-full_same
returns-in-Err-clause-full_same g c = λ b h. never_full _ _ c.in-Err.error c.in-Err.ensures.looks.cause

pub returns-then-header-capacity-clause-full_same : goal.returns-then-header-capacity-clause-full_same
returns-then-header-capacity-clause-full_same g c = λ b h. c.read_header.ensures.looks.unchanged b h

pub returns-in-Err-put_in-clause-full_same : goal.returns-in-Err-put_in-clause-full_same
returns-in-Err-put_in-clause-full_same g c = λ b h. never_full _ _ c.in-Err-put_in.error c.in-Err-put_in.ensures.works.cause

pub returns-in-Err-finish-clause-full_same : goal.returns-in-Err-finish-clause-full_same
returns-in-Err-finish-clause-full_same g c = λ b h. never_full _ _ c.in-Err-finish.error c.in-Err-finish.ensures.works.cause

pub returns-in-Err-clause-broken : goal.returns-in-Err-clause-broken
returns-in-Err-clause-broken g c = λ b h. malformed_wider _ _ c.in-Err.error (λ page broken. StopsInsertion.broken broken) (c.in-Err.ensures.broken b h)

pub returns-in-Err-clause-kept : goal.returns-in-Err-clause-kept
returns-in-Err-clause-kept g c = c.read_header.ensures.looks.kept

pub returns-in-Err-clause-cost : goal.returns-in-Err-clause-cost
returns-in-Err-clause-cost g c = omega (arith, c.read_header.ensures.looks.cost)

pub returns-then-header-capacity-clause-kept : goal.returns-then-header-capacity-clause-kept
returns-then-header-capacity-clause-kept g c = c.read_header.ensures.looks.kept

pub returns-then-header-capacity-clause-cost : goal.returns-then-header-capacity-clause-cost
returns-then-header-capacity-clause-cost g c = omega (arith, c.read_header.ensures.looks.cost)

pub returns-in-Err-put_in-clause-kept : goal.returns-in-Err-put_in-clause-kept
returns-in-Err-put_in-clause-kept g c = g.met.M.FlatMem.beside_through _ _ _ c.read_header.ensures.looks.kept c.put_in.ensures.works.kept

pub returns-in-Err-put_in-clause-cost : goal.returns-in-Err-put_in-clause-cost
returns-in-Err-put_in-clause-cost g c = omega (arith, c.read_header.ensures.looks.cost, c.put_in.ensures.works.cost)

pub returns-in-Err-finish-clause-kept : goal.returns-in-Err-finish-clause-kept
returns-in-Err-finish-clause-kept g c = g.met.M.FlatMem.beside_through _ _ _ (g.met.M.FlatMem.beside_through _ _ _ c.read_header.ensures.looks.kept c.put_in.ensures.works.kept) c.finish.ensures.works.kept

pub returns-in-Err-finish-clause-cost : goal.returns-in-Err-finish-clause-cost
returns-in-Err-finish-clause-cost g c = omega (arith, c.read_header.ensures.looks.cost, c.put_in.ensures.works.cost, c.finish.ensures.works.cost)

pub returns-clause-kept : goal.returns-clause-kept
returns-clause-kept g c = g.met.M.FlatMem.beside_through _ _ _ (g.met.M.FlatMem.beside_through _ _ _ c.read_header.ensures.looks.kept c.put_in.ensures.works.kept) c.finish.ensures.works.kept

pub returns-clause-cost : goal.returns-clause-cost
returns-clause-cost g c = omega (arith, c.read_header.ensures.looks.cost, c.put_in.ensures.works.cost, c.finish.ensures.works.cost)
