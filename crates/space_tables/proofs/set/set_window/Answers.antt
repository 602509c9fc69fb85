use Rattle.std.proofs.Common.{◌≡◌, ◌≤◌, map, Some, subst, arith, inl}
use Rattle.std.specs.Prelude.{slice_set}
use Rattle.flat_machine.specs.declared.space.Space.{Space}
use Rattle.flat_machine.specs.Next.{set_window}
use Rattle.projection_laws.specs.Edits.{reshown_in, through}
use Rattle.projection_laws.specs.Slots.{listed}
use Rattle.projection_laws.specs.Tests.{no_space}
use Rattle.space_tables.specs.Stored.{HoldTables, RevealSpaces}
use Rattle.space_tables.proofs.Right.{right_reads}
use Rattle.space_tables.proofs.Passes.{still_hold}
use Rattle.space_tables.proofs.Asks.{broken_before, memory_alone, matches_from, space_is}
use Rattle.space_tables.proofs.NamedLemmas.{window_inside}
use Rattle.space_tables.proofs.Sets.{window_set_at, counts, same_space}
use Rattle.space_tables.proofs.Outs.{handed, cause_on, no_page, causes_on}
use Rattle.space_tables.proofs.Pieces.{malformed_as}
use Rattle.space_tables.specs.Form.{BreaksSlot, Breaks}
use Rattle.space_tables.proofs.set.set_window.Goals as goal

pub returns-in_err-found-clause-done : goal.returns-in_err-found-clause-done
returns-in_err-found-clause-done g c = λ ss x t may own fits.
    let m = c.in_err-found.ensures.answer c.args.count ss t in
    let k = memory_alone (no_space ss c.args.handle) _ (rw own at (space_is ss x.handle x may.there)) m in handed _ _ _ _ c.from_residual.ensures.1 k

pub returns-clause-done : goal.returns-clause-done
returns-clause-done g c = λ ss x t may own fits.
    let m = c.in_ok-found.ensures.answer c.args.count ss t in
    let s = c.in_ok-found.found in
    let w = c.args.window in
    let same : s ≡ x = same_space ss c.args.handle s x m.1 may.there own in
    let few : s.handle ≤ 511 = omega (arith, c.in_ok-found.ensures.form.1, c.in_ok-found.ensures.form.2) in
    let hold = c.in_ok-put_slot.ensures.written t.slots t.xs (Some (record s { window = w })) (still_hold g.M.FlatMem.reveals c.args.mem.now c.existing.new.mem c.existing.ensures.unchanged t.slots t.xs t.hold) c.space_bytes.ensures in
    let done = c.rewrite.ensures.changed (slice_set t.slots c.args.handle (Some (record s { window = w }))) t.xs (listed t.slots) hold t.right.intervals t.counted (right_reads t.slots t.xs t.right).intervals (counts s w (rw same fits)) few (window_inside t.xs s w) in
    matches_from c.rewrite.result (HoldTables (g.M.FlatMem.reveals c.rewrite.new.mem) (slice_set t.slots c.args.handle (Some (record s { window = w }))) (map (reshown_in s (through s w)) t.xs))
    (RevealSpaces (g.M.FlatMem.reveals c.rewrite.new.mem) c.args.count (set_window c.args.handle w ss))
    (λ h. window_set_at (g.M.FlatMem.reveals c.args.mem.now) (g.M.FlatMem.reveals c.rewrite.new.mem) c.args.count ss t x w c.args.handle own may fits
    (subst (λ (q : Space). HoldTables (g.M.FlatMem.reveals c.rewrite.new.mem) (slice_set t.slots c.args.handle (Some (record q { window = w }))) (map (reshown_in q (through q w)) t.xs)) same h)) done

pub returns-clause-malformed : goal.returns-clause-malformed
returns-clause-malformed g c = λ b h.
    let at = c.in_ok-put_slot.ensures.rest b (c.existing.ensures.unchanged b h) in
    broken_before c.args.count b at.bytes at.rest c.rewrite.result (c.rewrite.ensures.malformed at.bytes at.revealed)

pub returns-in_err-found-clause-kept : goal.returns-in_err-found-clause-kept
returns-in_err-found-clause-kept g c = c.existing.ensures.kept

pub returns-in_err-found-clause-cause : goal.returns-in_err-found-clause-cause
returns-in_err-found-clause-cause g c = handed _ _ _ _ c.from_residual.ensures.1 c.in_err-found.ensures.cause

pub returns-in_err-found-clause-cost : goal.returns-in_err-found-clause-cost
returns-in_err-found-clause-cost g c = omega (arith, c.existing.ensures.cost)

pub returns-in_err-found-clause-malformed : goal.returns-in_err-found-clause-malformed
returns-in_err-found-clause-malformed g c = λ b h. handed _ _ _ _ c.from_residual.ensures.1 (malformed_as (λ page. BreaksSlot b page c.args.handle) (Breaks c.args.count b) (λ page k. inl (c.args.handle, k)) _ (c.in_err-found.ensures.malformed b h))

pub returns-in_err-put_slot-clause-kept : goal.returns-in_err-put_slot-clause-kept
returns-in_err-put_slot-clause-kept g c = g.met.M.FlatMem.beside_through _ _ _ c.existing.ensures.kept c.put_slot.ensures.kept

pub returns-in_err-put_slot-clause-cause : goal.returns-in_err-put_slot-clause-cause
returns-in_err-put_slot-clause-cause g c = handed _ _ _ _ c.from_residual-in_err-put_slot.ensures.1 (cause_on g.M.FlatMem g.met.M.FlatMem.beside_itself g.met.M.FlatMem.accounted_wider _ _ _ c.existing.ensures.kept c.put_slot.ensures.kept _ c.in_err-put_slot.ensures.cause)

pub returns-in_err-put_slot-clause-cost : goal.returns-in_err-put_slot-clause-cost
returns-in_err-put_slot-clause-cost g c = omega (arith, c.existing.ensures.cost, c.put_slot.ensures.cost)

pub returns-in_err-put_slot-clause-malformed : goal.returns-in_err-put_slot-clause-malformed
returns-in_err-put_slot-clause-malformed g c = λ b h. handed _ _ _ _ c.from_residual-in_err-put_slot.ensures.1 (no_page (Breaks c.args.count b) _ c.in_err-put_slot.ensures.memory)

pub returns-in_err-put_slot-clause-done : goal.returns-in_err-put_slot-clause-done
returns-in_err-put_slot-clause-done g c = λ ss x t may own fits. handed _ _ _ _ c.from_residual-in_err-put_slot.ensures.1 c.in_err-put_slot.ensures.memory

pub returns-clause-kept : goal.returns-clause-kept
returns-clause-kept g c = g.met.M.FlatMem.beside_through _ _ _ (g.met.M.FlatMem.beside_through _ _ _ c.existing.ensures.kept c.put_slot.ensures.kept) c.rewrite.ensures.kept

pub returns-clause-cost : goal.returns-clause-cost
returns-clause-cost g c = omega (arith, c.existing.ensures.cost, c.put_slot.ensures.cost, c.rewrite.ensures.cost)

pub returns-clause-cause : goal.returns-clause-cause
returns-clause-cause g c = causes_on g.M.FlatMem g.met.M.FlatMem.beside_itself g.met.M.FlatMem.accounted_wider _ _ _ (g.met.M.FlatMem.beside_through _ _ _ c.existing.ensures.kept c.put_slot.ensures.kept) c.rewrite.ensures.kept _ c.rewrite.ensures.cause
