use Rattle.std.proofs.Common.{◌≡◌, ◌≢◌, ◌⊎◌, List, [], ◌∷◌, Some, None, inl, inr, refl, sym, ◌∙◌, ap, subst, arith}
use Rattle.std.proofs.lemmas.Option.{slice_get_within}
use Rattle.projection_laws.specs.Spaces.{AreSpaces, MayBeAdded}
use Rattle.flat_machine.specs.declared.space.Space.{Space}
use Rattle.flat_machine.specs.Space.{space_at}
use Rattle.flat_machine.specs.Refusal.{first_of, no_size}
use Rattle.flat_machine.specs.Next.{put_space}
use Rattle.projection_laws.specs.Tests.{no_space, no_spaces, no_place, add_row, made}
use Rattle.projection_laws.specs.Edits.{replaced, pieces}
use Rattle.projection_laws.proofs.Passes.{add_passes}
use Rattle.space_tables.specs.Form.{BreaksHierarchy, BreaksAt, IsOverfull, MakesTooMany, BreaksSlot}
use Rattle.space_tables.specs.Stored.{RevealSpaces}
use Rattle.space_tables.proofs.Right.{right_reads}
use Rattle.space_tables.proofs.Passes.{still_hold}
use Rattle.space_tables.proofs.Asks.{still_reveal, refuses_with, refuses_by, from_memory, passed, stopped}
use Rattle.space_tables.proofs.Pieces.{some_size, zero_size, all_taken, one_more, few_now, lowest_is, is_made, added, malformed_as}
use Rattle.space_tables.proofs.Outs.{handed, cause_on, no_page}
use Rattle.space_tables.proofs.add.add.Goals as goal

pub returns-in_err-existing-clause-answer : goal.returns-in_err-existing-clause-answer
returns-in_err-existing-clause-answer g c = λ ss t.
    let now = still_reveal g.M.FlatMem.reveals c.args.mem.now c.existing.new.mem c.existing.ensures.unchanged c.args.count ss t in
    let m = c.in_err-existing.ensures.answer c.args.count ss t in
    let k = refuses_with (RevealSpaces (g.M.FlatMem.reveals c.existing.new.mem) c.args.count ss) now (no_space ss c.args.parent)
    (no_size c.args.pages ∷ no_spaces ss ∷ no_place ss c.args.parent c.args.pages c.args.first ∷ []) _ m in handed _ _ _ _ c.from_residual.ensures.1 k

pub returns-then-pages-eq0-clause-answer : goal.returns-then-pages-eq0-clause-answer
returns-then-pages-eq0-clause-answer g c = λ ss t.
    let now = still_reveal g.M.FlatMem.reveals c.args.mem.now c.existing.new.mem c.existing.ensures.unchanged c.args.count ss t in
    let m = c.in_ok-existing.ensures.answer c.args.count ss t in
    (passed _ _ m.0 ∙ stopped _ _ _ (zero_size c.args.pages c.if-pages-eq0.true), now)

pub returns-in_err-handle-clause-answer : goal.returns-in_err-handle-clause-answer
returns-in_err-handle-clause-answer g c = λ ss t.
    let hold = still_hold g.M.FlatMem.reveals c.args.mem.now c.existing.new.mem c.existing.ensures.unchanged t.slots t.xs t.hold in
    let m = c.in_err-handle.ensures.free t.slots t.xs hold (right_reads t.slots t.xs t.right) in
    let k = from_memory (RevealSpaces (g.M.FlatMem.reveals c.free_handle.new.mem) c.args.count ss) (first_of (add_row ss c.args.parent c.args.pages c.args.first)) _ m in handed _ _ _ _ c.from_residual-in_err-handle.ensures.1 k

pub returns-in_default-clause-answer : goal.returns-in_default-clause-answer
returns-in_default-clause-answer g c = λ ss t.
    let now = still_reveal g.M.FlatMem.reveals c.args.mem.now c.existing.new.mem c.existing.ensures.unchanged c.args.count ss t in
    let later = still_reveal g.M.FlatMem.reveals c.existing.new.mem c.free_handle.new.mem c.free_handle.ensures.unchanged c.args.count ss now in
    let hold = still_hold g.M.FlatMem.reveals c.args.mem.now c.existing.new.mem c.existing.ensures.unchanged t.slots t.xs t.hold in
    let f = rw c.in_default.is at (c.in_ok-handle.ensures.free t.slots t.xs hold (right_reads t.slots t.xs t.right)) in
    let m = c.in_ok-existing.ensures.answer c.args.count ss t in
    let some : c.args.pages ≢ 0 = c.if-pages-eq0.false in
    (passed _ _ m.0 ∙ passed _ _ (some_size c.args.pages some) ∙ stopped _ _ _ (all_taken (g.M.FlatMem.reveals c.args.mem.now) c.args.count ss t f), later)

pub returns-in_err-room-clause-answer : goal.returns-in_err-room-clause-answer
returns-in_err-room-clause-answer g c = λ ss t.
    let now = still_reveal g.M.FlatMem.reveals c.args.mem.now c.existing.new.mem c.existing.ensures.unchanged c.args.count ss t in
    let later = still_reveal g.M.FlatMem.reveals c.existing.new.mem c.free_handle.new.mem c.free_handle.ensures.unchanged c.args.count ss now in
    let last = still_reveal g.M.FlatMem.reveals c.free_handle.new.mem c.find_room.new.mem c.find_room.ensures.looks.unchanged c.args.count ss later in
    let hold1 = still_hold g.M.FlatMem.reveals c.args.mem.now c.existing.new.mem c.existing.ensures.unchanged t.slots t.xs t.hold in
    let hold2 = still_hold g.M.FlatMem.reveals c.existing.new.mem c.free_handle.new.mem c.free_handle.ensures.unchanged t.slots t.xs hold1 in
    let f = rw c.in-Some.is at (c.in_ok-handle.ensures.free t.slots t.xs hold1 (right_reads t.slots t.xs t.right)) in
    let m = c.in_ok-existing.ensures.answer c.args.count ss t in
    let some : c.args.pages ≢ 0 = c.if-pages-eq0.false in
    let at = ap (λ (rs : List Space). space_at rs c.args.parent) t.spaces ∙ m.1 in
    let e = rw t.spaces at (c.in_err-room.ensures.answer t.slots t.xs c.in_ok-existing.field-0 hold2 t.right t.counted at) in
    let stays = RevealSpaces (g.M.FlatMem.reveals c.find_room.new.mem) c.args.count ss in
    let row : first_of (add_row ss c.args.parent c.args.pages c.args.first) ≡ first_of (no_place ss c.args.parent c.args.pages c.args.first ∷ []) =
    passed _ _ m.0 ∙ passed _ _ (some_size c.args.pages some) ∙ passed _ _ (one_more (g.M.FlatMem.reveals c.args.mem.now) c.args.count ss t c.in-Some.handle f) in
    let k = refuses_by stays _ _ _ row (refuses_with stays last (no_place ss c.args.parent c.args.pages c.args.first) [] _ e) in handed _ _ _ _ c.from_residual-in_err-room.ensures.1 k

pub returns-in_err-count-clause-answer : goal.returns-in_err-count-clause-answer
returns-in_err-count-clause-answer g c = λ ss t.
    let hold = still_hold g.M.FlatMem.reveals c.args.mem.now c.existing.new.mem c.existing.ensures.unchanged t.slots t.xs t.hold in
    let f = rw c.in-Some.is at (c.in_ok-handle.ensures.free t.slots t.xs hold (right_reads t.slots t.xs t.right)) in
    let m = c.in_err-count.ensures.memory (few_now (g.M.FlatMem.reveals c.args.mem.now) c.args.count ss t c.in-Some.handle f) in
    let k = from_memory (RevealSpaces (g.M.FlatMem.reveals c.split.new.mem) c.args.count ss) (first_of (add_row ss c.args.parent c.args.pages c.args.first)) _ m in handed _ _ _ _ c.from_residual-in_err-count.ensures.1 k

pub returns-clause-answer : goal.returns-clause-answer
returns-clause-answer g c = λ ss t.
    let reveals = g.M.FlatMem.reveals c.args.mem.now in
    let now = still_reveal g.M.FlatMem.reveals c.args.mem.now c.existing.new.mem c.existing.ensures.unchanged c.args.count ss t in
    let later = still_reveal g.M.FlatMem.reveals c.existing.new.mem c.free_handle.new.mem c.free_handle.ensures.unchanged c.args.count ss now in
    let last = still_reveal g.M.FlatMem.reveals c.free_handle.new.mem c.find_room.new.mem c.find_room.ensures.looks.unchanged c.args.count ss later in
    let hold1 = still_hold g.M.FlatMem.reveals c.args.mem.now c.existing.new.mem c.existing.ensures.unchanged t.slots t.xs t.hold in
    let hold2 = still_hold g.M.FlatMem.reveals c.existing.new.mem c.free_handle.new.mem c.free_handle.ensures.unchanged t.slots t.xs hold1 in
    let h = c.in-Some.handle in
    let r = c.in_ok-room.room in
    let f = rw c.in-Some.is at (c.in_ok-handle.ensures.free t.slots t.xs hold1 (right_reads t.slots t.xs t.right)) in
    let m = c.in_ok-existing.ensures.answer c.args.count ss t in
    let some : c.args.pages ≢ 0 = c.if-pages-eq0.false in
    let at = ap (λ (rs : List Space). space_at rs c.args.parent) t.spaces ∙ m.1 in
    let place = rw t.spaces at (c.in_ok-room.ensures.answer t.slots t.xs c.in_ok-existing.field-0 hold2 t.right t.counted at) in
    let row : first_of (add_row ss c.args.parent c.args.pages c.args.first) ≡ None =
    passed _ _ m.0 ∙ passed _ _ (some_size c.args.pages some) ∙ passed _ _ (one_more reveals c.args.count ss t h f) ∙ passed _ [] place.0 in
    let x : Space = record { handle = h; parent = c.args.parent; first = r.first; pages = c.args.pages; unit = c.first_unit.result; window = None } in
    let lowest = lowest_is reveals c.args.count ss t h f (omega (arith, slice_get_within t.slots h None f.1, t.hold.are.handles)) in
    let is : x ≡ made ss c.args.parent c.args.pages c.args.first = is_made ss h c.args.parent c.args.pages r.first c.first_unit.result c.args.first lowest place.1.1 c.first_unit.ensures in
    let pass = add_passes ss c.args.parent c.args.pages c.args.first (subst AreSpaces t.spaces t.right.spaces) row in
    let may : MayBeAdded ss x pass.0 = subst (λ (y : Space). MayBeAdded ss y pass.0) (sym is) pass.2 in
    let hold3 = still_hold g.M.FlatMem.reveals c.free_handle.new.mem c.find_room.new.mem c.find_room.ensures.looks.unchanged t.slots t.xs hold2 in
    let cut = c.in_ok-count.ensures.split t.slots t.xs hold3 t.counted place.1.0 in
    let hold = c.in_ok-put_slot.ensures.written t.slots (replaced t.xs r.index (pieces x r.interval)) (Some x) cut.0 c.space_bytes.ensures in
    let new = added reveals (g.M.FlatMem.reveals c.put_slot.new.mem) c.args.count c.in_ok-count.count ss t x pass.0 r.index r.interval may f.1 place.1.0 c.in_ok-room.ensures.form.2
    (omega (arith, c.in_ok-room.ensures.form.3, some)) hold cut.1 in
    (row, (subst (λ (y : Space). RevealSpaces (g.M.FlatMem.reveals c.put_slot.new.mem) c.in_ok-count.count (put_space y ss)) is new, lowest, place.1.1))

pub returns-in_err-count-clause-malformed : goal.returns-in_err-count-clause-malformed
returns-in_err-count-clause-malformed g c = λ b revealed.
    let still = c.free_handle.ensures.unchanged b (c.existing.ensures.unchanged b revealed) in
    let n = c.args.count in
    let r = c.in_ok-room.room in
    let x : Space = record { handle = c.in-Some.handle; parent = c.args.parent; first = r.first; pages = c.args.pages; unit = c.first_unit.result; window = None } in
    let m = malformed_as (IsOverfull n x r.interval) (λ page. BreaksHierarchy b page ⊎ (BreaksAt c.args.first n b page ⊎ MakesTooMany n b c.args.parent c.args.pages c.args.first page))
    (λ page h. inr (inr (record {
      space = x;
      interval = r.interval;
      recorded = (r.index, c.in_ok-room.ensures.form.0, c.in_ok-room.ensures.read b still);
      own = c.in_ok-room.ensures.own;
      long = refl;
      placed = c.in_ok-room.ensures.placed;
      inside = (c.in_ok-room.ensures.form.2, c.in_ok-room.ensures.form.3);
      overfull = h;
    }))) _ c.in_err-count.ensures.malformed in handed _ _ _ _ c.from_residual-in_err-count.ensures.1 m

pub returns-in_err-existing-clause-kept : goal.returns-in_err-existing-clause-kept
returns-in_err-existing-clause-kept g c = c.existing.ensures.kept

pub returns-in_err-existing-clause-cause : goal.returns-in_err-existing-clause-cause
returns-in_err-existing-clause-cause g c = handed _ _ _ _ c.from_residual.ensures.1 c.in_err-existing.ensures.cause

pub returns-in_err-existing-clause-cost : goal.returns-in_err-existing-clause-cost
returns-in_err-existing-clause-cost g c = omega (arith, c.existing.ensures.cost)

pub returns-in_err-existing-clause-form : goal.returns-in_err-existing-clause-form
returns-in_err-existing-clause-form g c = handed _ _ _ _ c.from_residual.ensures.1 tt

pub returns-in_err-existing-clause-malformed : goal.returns-in_err-existing-clause-malformed
returns-in_err-existing-clause-malformed g c = λ b h. handed _ _ _ _ c.from_residual.ensures.1 (malformed_as (λ page. BreaksSlot b page c.args.parent) (λ page. BreaksHierarchy b page ⊎ (BreaksAt c.args.first c.args.count b page ⊎ MakesTooMany c.args.count b c.args.parent c.args.pages c.args.first page)) (λ page k. inl (c.args.parent, k)) _ (c.in_err-existing.ensures.malformed b h))

pub returns-then-pages-eq0-clause-kept : goal.returns-then-pages-eq0-clause-kept
returns-then-pages-eq0-clause-kept g c = c.existing.ensures.kept

pub returns-then-pages-eq0-clause-cause : goal.returns-then-pages-eq0-clause-cause
returns-then-pages-eq0-clause-cause g c = tt

pub returns-then-pages-eq0-clause-cost : goal.returns-then-pages-eq0-clause-cost
returns-then-pages-eq0-clause-cost g c = omega (arith, c.existing.ensures.cost)

pub returns-then-pages-eq0-clause-form : goal.returns-then-pages-eq0-clause-form
returns-then-pages-eq0-clause-form g c = tt

pub returns-then-pages-eq0-clause-malformed : goal.returns-then-pages-eq0-clause-malformed
returns-then-pages-eq0-clause-malformed g c = λ b h. tt

pub returns-in_err-handle-clause-kept : goal.returns-in_err-handle-clause-kept
returns-in_err-handle-clause-kept g c = g.met.M.FlatMem.beside_through _ _ _ c.existing.ensures.kept c.free_handle.ensures.kept

pub returns-in_err-handle-clause-cause : goal.returns-in_err-handle-clause-cause
returns-in_err-handle-clause-cause g c = handed _ _ _ _ c.from_residual-in_err-handle.ensures.1 (cause_on g.M.FlatMem g.met.M.FlatMem.beside_itself g.met.M.FlatMem.accounted_wider _ _ _ c.existing.ensures.kept c.free_handle.ensures.kept _ c.in_err-handle.ensures.cause)

pub returns-in_err-handle-clause-cost : goal.returns-in_err-handle-clause-cost
returns-in_err-handle-clause-cost g c = omega (arith, c.existing.ensures.cost, c.free_handle.ensures.cost)

pub returns-in_err-handle-clause-form : goal.returns-in_err-handle-clause-form
returns-in_err-handle-clause-form g c = handed _ _ _ _ c.from_residual-in_err-handle.ensures.1 tt

pub returns-in_err-handle-clause-malformed : goal.returns-in_err-handle-clause-malformed
returns-in_err-handle-clause-malformed g c = λ b h. handed _ _ _ _ c.from_residual-in_err-handle.ensures.1 (no_page (λ page. BreaksHierarchy b page ⊎ (BreaksAt c.args.first c.args.count b page ⊎ MakesTooMany c.args.count b c.args.parent c.args.pages c.args.first page)) _ c.in_err-handle.ensures.memory)

pub returns-in_default-clause-kept : goal.returns-in_default-clause-kept
returns-in_default-clause-kept g c = g.met.M.FlatMem.beside_through _ _ _ c.existing.ensures.kept c.free_handle.ensures.kept

pub returns-in_default-clause-cause : goal.returns-in_default-clause-cause
returns-in_default-clause-cause g c = tt

pub returns-in_default-clause-cost : goal.returns-in_default-clause-cost
returns-in_default-clause-cost g c = omega (arith, c.existing.ensures.cost, c.free_handle.ensures.cost)

pub returns-in_default-clause-form : goal.returns-in_default-clause-form
returns-in_default-clause-form g c = tt

pub returns-in_default-clause-malformed : goal.returns-in_default-clause-malformed
returns-in_default-clause-malformed g c = λ b h. tt

pub returns-in_err-room-clause-kept : goal.returns-in_err-room-clause-kept
returns-in_err-room-clause-kept g c = g.met.M.FlatMem.beside_through _ _ _ (g.met.M.FlatMem.beside_through _ _ _ c.existing.ensures.kept c.free_handle.ensures.kept) c.find_room.ensures.looks.kept

pub returns-in_err-room-clause-cause : goal.returns-in_err-room-clause-cause
returns-in_err-room-clause-cause g c = handed _ _ _ _ c.from_residual-in_err-room.ensures.1 (cause_on g.M.FlatMem g.met.M.FlatMem.beside_itself g.met.M.FlatMem.accounted_wider _ _ _ (g.met.M.FlatMem.beside_through _ _ _ c.existing.ensures.kept c.free_handle.ensures.kept) c.find_room.ensures.looks.kept _ c.in_err-room.ensures.looks.cause)

pub returns-in_err-room-clause-cost : goal.returns-in_err-room-clause-cost
returns-in_err-room-clause-cost g c = omega (arith, c.existing.ensures.cost, c.free_handle.ensures.cost, c.find_room.ensures.looks.cost)

pub returns-in_err-room-clause-form : goal.returns-in_err-room-clause-form
returns-in_err-room-clause-form g c = handed _ _ _ _ c.from_residual-in_err-room.ensures.1 tt

pub returns-in_err-room-clause-malformed : goal.returns-in_err-room-clause-malformed
returns-in_err-room-clause-malformed g c = λ b h. handed _ _ _ _ c.from_residual-in_err-room.ensures.1 (malformed_as (BreaksAt c.args.first c.args.count b) (λ page. BreaksHierarchy b page ⊎ (BreaksAt c.args.first c.args.count b page ⊎ MakesTooMany c.args.count b c.args.parent c.args.pages c.args.first page)) (λ page k. inr (inl k)) _ (c.in_err-room.ensures.malformed b (c.free_handle.ensures.unchanged b (c.existing.ensures.unchanged b h))))

pub returns-in_err-count-clause-kept : goal.returns-in_err-count-clause-kept
returns-in_err-count-clause-kept g c = g.met.M.FlatMem.beside_through _ _ _ (g.met.M.FlatMem.beside_through _ _ _ (g.met.M.FlatMem.beside_through _ _ _ c.existing.ensures.kept c.free_handle.ensures.kept) c.find_room.ensures.looks.kept) c.split.ensures.kept

pub returns-in_err-count-clause-cause : goal.returns-in_err-count-clause-cause
returns-in_err-count-clause-cause g c = handed _ _ _ _ c.from_residual-in_err-count.ensures.1 (cause_on g.M.FlatMem g.met.M.FlatMem.beside_itself g.met.M.FlatMem.accounted_wider _ _ _ (g.met.M.FlatMem.beside_through _ _ _ (g.met.M.FlatMem.beside_through _ _ _ c.existing.ensures.kept c.free_handle.ensures.kept) c.find_room.ensures.looks.kept) c.split.ensures.kept _ c.in_err-count.ensures.cause)

pub returns-in_err-count-clause-cost : goal.returns-in_err-count-clause-cost
returns-in_err-count-clause-cost g c = omega (arith, c.existing.ensures.cost, c.free_handle.ensures.cost, c.find_room.ensures.looks.cost, c.split.ensures.cost)

pub returns-in_err-count-clause-form : goal.returns-in_err-count-clause-form
returns-in_err-count-clause-form g c = handed _ _ _ _ c.from_residual-in_err-count.ensures.1 tt

pub returns-in_err-put_slot-clause-kept : goal.returns-in_err-put_slot-clause-kept
returns-in_err-put_slot-clause-kept g c = g.met.M.FlatMem.beside_through _ _ _ (g.met.M.FlatMem.beside_through _ _ _ (g.met.M.FlatMem.beside_through _ _ _ (g.met.M.FlatMem.beside_through _ _ _ c.existing.ensures.kept c.free_handle.ensures.kept) c.find_room.ensures.looks.kept) c.split.ensures.kept) c.put_slot.ensures.kept

pub returns-in_err-put_slot-clause-cause : goal.returns-in_err-put_slot-clause-cause
returns-in_err-put_slot-clause-cause g c = handed _ _ _ _ c.from_residual-in_err-put_slot.ensures.1 (cause_on g.M.FlatMem g.met.M.FlatMem.beside_itself g.met.M.FlatMem.accounted_wider _ _ _ (g.met.M.FlatMem.beside_through _ _ _ (g.met.M.FlatMem.beside_through _ _ _ (g.met.M.FlatMem.beside_through _ _ _ c.existing.ensures.kept c.free_handle.ensures.kept) c.find_room.ensures.looks.kept) c.split.ensures.kept) c.put_slot.ensures.kept _ c.in_err-put_slot.ensures.cause)

pub returns-in_err-put_slot-clause-cost : goal.returns-in_err-put_slot-clause-cost
returns-in_err-put_slot-clause-cost g c = omega (arith, c.existing.ensures.cost, c.free_handle.ensures.cost, c.find_room.ensures.looks.cost, c.split.ensures.cost, c.put_slot.ensures.cost)

pub returns-in_err-put_slot-clause-form : goal.returns-in_err-put_slot-clause-form
returns-in_err-put_slot-clause-form g c = handed _ _ _ _ c.from_residual-in_err-put_slot.ensures.1 tt

pub returns-in_err-put_slot-clause-malformed : goal.returns-in_err-put_slot-clause-malformed
returns-in_err-put_slot-clause-malformed g c = λ b h. handed _ _ _ _ c.from_residual-in_err-put_slot.ensures.1 (no_page (λ page. BreaksHierarchy b page ⊎ (BreaksAt c.args.first c.args.count b page ⊎ MakesTooMany c.args.count b c.args.parent c.args.pages c.args.first page)) _ c.in_err-put_slot.ensures.memory)

pub returns-in_err-put_slot-clause-answer : goal.returns-in_err-put_slot-clause-answer
returns-in_err-put_slot-clause-answer g c = λ ss t. handed _ _ _ _ c.from_residual-in_err-put_slot.ensures.1 (from_memory (RevealSpaces (g.M.FlatMem.reveals c.put_slot.new.mem) c.args.count ss) (first_of (add_row ss c.args.parent c.args.pages c.args.first)) _ c.in_err-put_slot.ensures.memory)

pub returns-clause-kept : goal.returns-clause-kept
returns-clause-kept g c = g.met.M.FlatMem.beside_through _ _ _ (g.met.M.FlatMem.beside_through _ _ _ (g.met.M.FlatMem.beside_through _ _ _ (g.met.M.FlatMem.beside_through _ _ _ c.existing.ensures.kept c.free_handle.ensures.kept) c.find_room.ensures.looks.kept) c.split.ensures.kept) c.put_slot.ensures.kept

pub returns-clause-cause : goal.returns-clause-cause
returns-clause-cause g c = tt

pub returns-clause-cost : goal.returns-clause-cost
returns-clause-cost g c = omega (arith, c.existing.ensures.cost, c.free_handle.ensures.cost, c.find_room.ensures.looks.cost, c.split.ensures.cost, c.put_slot.ensures.cost)

pub returns-clause-malformed : goal.returns-clause-malformed
returns-clause-malformed g c = λ b h. tt
