use Rattle.std.proofs.Common.{◌≡◌, ◌≢◌, ◌≤◌, [], ◌∷◌, map, Some, inl, inr, ◌∙◌, arith}
use Rattle.std.specs.Prelude.{slice_set}
use Rattle.flat_machine.specs.declared.space.Space.{Space}
use Rattle.flat_machine.specs.Refusal.{first_of, is_root, no_unit}
use Rattle.flat_machine.specs.Next.{change_space}
use Rattle.projection_laws.specs.Edits.{refitted}
use Rattle.projection_laws.specs.Slots.{listed}
use Rattle.projection_laws.specs.Tests.{no_space, unit_row}
use Rattle.space_tables.specs.Stored.{HoldTables, RevealSpaces}
use Rattle.space_tables.proofs.Right.{right_reads}
use Rattle.space_tables.proofs.Passes.{still_hold}
use Rattle.space_tables.proofs.Asks.{broken_before, still_reveal, refuses_with, answers_from, passed, stopped, not_root, bad_unit, good_unit, root_is, from_memory}
use Rattle.space_tables.proofs.NamedLemmas.{unit_inside}
use Rattle.space_tables.proofs.Sets.{unit_set}
use Rattle.space_tables.proofs.Outs.{handed, cause_on, no_page, causes_on}
use Rattle.space_tables.proofs.Pieces.{malformed_as}
use Rattle.space_tables.specs.Form.{BreaksSlot, Breaks}
use Rattle.space_tables.proofs.set.set_unit.Goals as goal
use Rattle.space_tables.proofs.set.set_unit.Goals.{then-unit-eq0-via-then-unit-eq0, then-unit-eq0-via-else-unit-eq0+then-unit-gt16}

pub returns-in_err-found-clause-answer : goal.returns-in_err-found-clause-answer
returns-in_err-found-clause-answer g c = λ ss t.
    let now = still_reveal g.M.FlatMem.reveals c.args.mem.now c.existing.new.mem c.existing.ensures.unchanged c.args.count ss t in
    let m = c.in_err-found.ensures.answer c.args.count ss t in
    let k = refuses_with (RevealSpaces (g.M.FlatMem.reveals c.existing.new.mem) c.args.count ss) now (no_space ss c.args.handle) (is_root c.args.handle ∷ no_unit c.args.unit ∷ []) _ m in handed _ _ _ _ c.from_residual.ensures.1 k

pub returns-then-unit-eq0-clause-answer : goal.returns-then-unit-eq0-clause-answer
returns-then-unit-eq0-clause-answer g c = λ ss t.
    let now = still_reveal g.M.FlatMem.reveals c.args.mem.now c.existing.new.mem c.existing.ensures.unchanged c.args.count ss t in
    let m = c.in_ok-found.ensures.answer c.args.count ss t in
    let apart : c.args.handle ≢ 0 = c.if-handle-eq0.false in
    let bad : no_unit c.args.unit ≡ Some _ = bad_unit c.args.unit (elim c.then-unit-eq0.branch [
      | then-unit-eq0-via-then-unit-eq0 w ↦ inl w.if-unit-eq0.true
      | then-unit-eq0-via-else-unit-eq0+then-unit-gt16 w ↦ inr w.if-unit-gt16.true
    ]) in
    (passed _ _ m.0 ∙ passed _ _ (not_root c.args.handle apart) ∙ stopped _ [] _ bad, now)

pub returns-clause-answer : goal.returns-clause-answer
returns-clause-answer g c = λ ss t.
    let m = c.in_ok-found.ensures.answer c.args.count ss t in
    let apart : c.args.handle ≢ 0 = c.if-handle-eq0.false in
    let some : c.args.unit ≢ 0 = c.if-unit-eq0.false in
    let few : c.args.unit ≤ 16 = omega (arith, c.if-unit-gt16.false) in
    let s = c.in_ok-found.found in
    let hold = c.in_ok-put_slot.ensures.written t.slots t.xs (Some (record s { unit = c.args.unit })) (still_hold g.M.FlatMem.reveals c.args.mem.now c.existing.new.mem c.existing.ensures.unchanged t.slots t.xs t.hold) c.space_bytes.ensures in
    let done = c.rewrite.ensures.changed (slice_set t.slots c.args.handle (Some (record s { unit = c.args.unit }))) t.xs (listed t.slots) hold t.right.intervals t.counted (right_reads t.slots t.xs t.right).intervals tt tt (unit_inside (listed t.slots) t.xs c.args.handle c.args.unit s t.right.spaces t.right.intervals (rw (← t.spaces) at m.1)) in
    answers_from c.rewrite.result (HoldTables (g.M.FlatMem.reveals c.rewrite.new.mem) (slice_set t.slots c.args.handle (Some (record s { unit = c.args.unit }))) (map (refitted c.args.handle c.args.unit) t.xs))
    (RevealSpaces (g.M.FlatMem.reveals c.rewrite.new.mem) c.args.count (change_space c.args.handle (λ (s : Space). record s { unit = c.args.unit }) ss)) _
    (first_of (unit_row ss c.args.handle c.args.unit)) (passed _ _ m.0 ∙ passed _ _ (not_root c.args.handle apart) ∙ passed _ [] (good_unit c.args.unit some few))
    (unit_set (g.M.FlatMem.reveals c.args.mem.now) (g.M.FlatMem.reveals c.rewrite.new.mem) c.args.count ss t c.args.handle c.args.unit s m.1 apart (omega (arith, some)) few) done

pub returns-clause-malformed : goal.returns-clause-malformed
returns-clause-malformed g c = λ b h.
    let at = c.in_ok-put_slot.ensures.rest b (c.existing.ensures.unchanged b h) in
    broken_before c.args.count b at.bytes at.rest c.rewrite.result (c.rewrite.ensures.malformed at.bytes at.revealed)

pub returns-in_err-found-clause-kept : goal.returns-in_err-found-clause-kept
returns-in_err-found-clause-kept g c = c.existing.ensures.kept

pub returns-in_err-found-clause-cause : goal.returns-in_err-found-clause-cause
returns-in_err-found-clause-cause g c = handed _ _ _ _ c.from_residual.ensures.1 c.in_err-found.ensures.cause

pub returns-in_err-found-clause-cost : goal.returns-in_err-found-clause-cost
returns-in_err-found-clause-cost g c = omega (arith, c.existing.ensures.cost)

pub returns-in_err-found-clause-malformed : goal.returns-in_err-found-clause-malformed
returns-in_err-found-clause-malformed g c = λ b h. handed _ _ _ _ c.from_residual.ensures.1 (malformed_as (λ page. BreaksSlot b page c.args.handle) (Breaks c.args.count b) (λ page k. inl (c.args.handle, k)) _ (c.in_err-found.ensures.malformed b h))

pub returns-then-handle-eq0-clause-kept : goal.returns-then-handle-eq0-clause-kept
returns-then-handle-eq0-clause-kept g c = c.existing.ensures.kept

pub returns-then-handle-eq0-clause-cause : goal.returns-then-handle-eq0-clause-cause
returns-then-handle-eq0-clause-cause g c = tt

pub returns-then-handle-eq0-clause-cost : goal.returns-then-handle-eq0-clause-cost
returns-then-handle-eq0-clause-cost g c = omega (arith, c.existing.ensures.cost)

pub returns-then-handle-eq0-clause-malformed : goal.returns-then-handle-eq0-clause-malformed
returns-then-handle-eq0-clause-malformed g c = λ b h. tt

pub returns-then-handle-eq0-clause-answer : goal.returns-then-handle-eq0-clause-answer
returns-then-handle-eq0-clause-answer g c = λ ss t.
    let now = still_reveal g.M.FlatMem.reveals c.args.mem.now c.existing.new.mem c.existing.ensures.unchanged c.args.count ss t in
    let m = c.in_ok-found.ensures.answer c.args.count ss t in
    (passed _ _ m.0 ∙ stopped _ _ _ (root_is c.args.handle c.if-handle-eq0.true), now)

pub returns-then-unit-eq0-clause-kept : goal.returns-then-unit-eq0-clause-kept
returns-then-unit-eq0-clause-kept g c = c.existing.ensures.kept

pub returns-then-unit-eq0-clause-cause : goal.returns-then-unit-eq0-clause-cause
returns-then-unit-eq0-clause-cause g c = tt

pub returns-then-unit-eq0-clause-cost : goal.returns-then-unit-eq0-clause-cost
returns-then-unit-eq0-clause-cost g c = omega (arith, c.existing.ensures.cost)

pub returns-then-unit-eq0-clause-malformed : goal.returns-then-unit-eq0-clause-malformed
returns-then-unit-eq0-clause-malformed g c = λ b h. tt

pub returns-in_err-put_slot-clause-kept : goal.returns-in_err-put_slot-clause-kept
returns-in_err-put_slot-clause-kept g c = g.met.M.FlatMem.beside_through _ _ _ c.existing.ensures.kept c.put_slot.ensures.kept

pub returns-in_err-put_slot-clause-cause : goal.returns-in_err-put_slot-clause-cause
returns-in_err-put_slot-clause-cause g c = handed _ _ _ _ c.from_residual-in_err-put_slot.ensures.1 (cause_on g.M.FlatMem g.met.M.FlatMem.beside_itself g.met.M.FlatMem.accounted_wider _ _ _ c.existing.ensures.kept c.put_slot.ensures.kept _ c.in_err-put_slot.ensures.cause)

pub returns-in_err-put_slot-clause-cost : goal.returns-in_err-put_slot-clause-cost
returns-in_err-put_slot-clause-cost g c = omega (arith, c.existing.ensures.cost, c.put_slot.ensures.cost)

pub returns-in_err-put_slot-clause-malformed : goal.returns-in_err-put_slot-clause-malformed
returns-in_err-put_slot-clause-malformed g c = λ b h. handed _ _ _ _ c.from_residual-in_err-put_slot.ensures.1 (no_page (Breaks c.args.count b) _ c.in_err-put_slot.ensures.memory)

pub returns-in_err-put_slot-clause-answer : goal.returns-in_err-put_slot-clause-answer
returns-in_err-put_slot-clause-answer g c = λ ss t. handed _ _ _ _ c.from_residual-in_err-put_slot.ensures.1 (from_memory (RevealSpaces (g.M.FlatMem.reveals c.put_slot.new.mem) c.args.count ss) (first_of (unit_row ss c.args.handle c.args.unit)) _ c.in_err-put_slot.ensures.memory)

pub returns-clause-kept : goal.returns-clause-kept
returns-clause-kept g c = g.met.M.FlatMem.beside_through _ _ _ (g.met.M.FlatMem.beside_through _ _ _ c.existing.ensures.kept c.put_slot.ensures.kept) c.rewrite.ensures.kept

pub returns-clause-cost : goal.returns-clause-cost
returns-clause-cost g c = omega (arith, c.existing.ensures.cost, c.put_slot.ensures.cost, c.rewrite.ensures.cost)

pub returns-clause-cause : goal.returns-clause-cause
returns-clause-cause g c = causes_on g.M.FlatMem g.met.M.FlatMem.beside_itself g.met.M.FlatMem.accounted_wider _ _ _ (g.met.M.FlatMem.beside_through _ _ _ c.existing.ensures.kept c.put_slot.ensures.kept) c.rewrite.ensures.kept _ c.rewrite.ensures.cause
