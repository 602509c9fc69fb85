use Rattle.std.proofs.Common.{◌≡◌, ◌≢◌, Bool, [], ◌∷◌, Some, None, sym, ◌∙◌, ap, arith, inl, subst, ℕ}
use Rattle.std.specs.Bool.{then_some}
use Rattle.flat_machine.specs.declared.call.Refusal.TheVariants as why
use Rattle.flat_machine.specs.Space.{space_at}
use Rattle.flat_machine.specs.Refusal.{first_of, is_root}
use Rattle.projection_laws.specs.Tests.{no_space, has_children, self_mapped, remove_row}
use Rattle.space_tables.proofs.Asks.{still_reveal, refuses_first, from_memory, passed, stopped, not_root, root_is}
use Rattle.space_tables.proofs.Removes.{own_test, first_inside, first_read}
use Rattle.space_tables.proofs.Outs.{handed, cause_on}
use Rattle.space_tables.proofs.Pieces.{malformed_as}
use Rattle.space_tables.specs.Answer.{IfMalformed}
use Rattle.space_tables.specs.Form.{BreaksSlot, BreaksFor, first_in_slot}
use Rattle.space_tables.proofs.remove.removable.Goals as goal

pub returns-in_err-space-clause-answer : goal.returns-in_err-space-clause-answer
returns-in_err-space-clause-answer g c = λ ss t.
    let m = c.in_err-space.ensures.answer c.args.count ss t in
    let k = refuses_first (Unit {0}) (no_space ss c.args.handle) (is_root c.args.handle ∷ has_children ss c.args.handle ∷ self_mapped ss c.args.handle ∷ []) _ m in handed _ _ _ _ c.from_residual.ensures.1 k

pub returns-in_err-is_parent-clause-answer : goal.returns-in_err-is_parent-clause-answer
returns-in_err-is_parent-clause-answer g c = λ ss t.
    let now = still_reveal g.M.FlatMem.reveals c.args.mem.now c.existing.new.mem c.existing.ensures.unchanged c.args.count ss t in
    let s = c.in_ok-space.space in
    let own : s.handle ≡ c.args.handle = c.in_ok-space.ensures.form.1 in
    let there : space_at ss s.handle ≡ Some s = ap (space_at ss) own ∙ (c.in_ok-space.ensures.answer c.args.count ss t).1 in
    let m = c.in_err-is_parent.ensures.answer ss now there (first_inside s c.in_ok-space.ensures.form.0) in
    let k = from_memory (Unit {0}) (first_of (remove_row ss c.args.handle)) _ m in handed _ _ _ _ c.from_residual-in_err-is_parent.ensures.1 k

pub returns-then-is_parent-clause-answer : goal.returns-then-is_parent-clause-answer
returns-then-is_parent-clause-answer g c = λ ss t.
    let now = still_reveal g.M.FlatMem.reveals c.args.mem.now c.existing.new.mem c.existing.ensures.unchanged c.args.count ss t in
    let s = c.in_ok-space.space in
    let m = c.in_ok-space.ensures.answer c.args.count ss t in
    let own : s.handle ≡ c.args.handle = c.in_ok-space.ensures.form.1 in
    let there : space_at ss s.handle ≡ Some s = ap (space_at ss) own ∙ m.1 in
    let apart : c.args.handle ≢ 0 = c.if-handle-eq0.false in
    let test = c.in_ok-is_parent.ensures.answer ss now there (first_inside s c.in_ok-space.ensures.form.0) in
    let children : has_children ss c.args.handle ≡ Some why.Children = ap (has_children ss) (sym own) ∙ test ∙ ap (λ (b : Bool). then_some b why.Children) c.if-is_parent.true in
    (passed _ _ m.0 ∙ passed _ _ (not_root c.args.handle apart) ∙ stopped _ _ _ children, tt)

pub returns-in-Some-clause-answer : goal.returns-in-Some-clause-answer
returns-in-Some-clause-answer g c = λ ss t.
    let now = still_reveal g.M.FlatMem.reveals c.args.mem.now c.existing.new.mem c.existing.ensures.unchanged c.args.count ss t in
    let s = c.in_ok-space.space in
    let m = c.in_ok-space.ensures.answer c.args.count ss t in
    let own : s.handle ≡ c.args.handle = c.in_ok-space.ensures.form.1 in
    let there : space_at ss s.handle ≡ Some s = ap (space_at ss) own ∙ m.1 in
    let apart : c.args.handle ≢ 0 = c.if-handle-eq0.false in
    let test = c.in_ok-is_parent.ensures.answer ss now there (first_inside s c.in_ok-space.ensures.form.0) in
    let none : has_children ss c.args.handle ≡ None = ap (has_children ss) (sym own) ∙ test ∙ ap (λ (b : Bool). then_some b why.Children) c.if-is_parent.false in
    let mapped = own_test ss c.args.handle s (Some c.in-Some.field-0) m.1 c.in-Some.is in
    (passed _ _ m.0 ∙ passed _ _ (not_root c.args.handle apart) ∙ passed _ _ none ∙ stopped _ [] _ mapped, tt)

pub returns-in-None-clause-answer : goal.returns-in-None-clause-answer
returns-in-None-clause-answer g c = λ ss t.
    let now = still_reveal g.M.FlatMem.reveals c.args.mem.now c.existing.new.mem c.existing.ensures.unchanged c.args.count ss t in
    let s = c.in_ok-space.space in
    let m = c.in_ok-space.ensures.answer c.args.count ss t in
    let own : s.handle ≡ c.args.handle = c.in_ok-space.ensures.form.1 in
    let there : space_at ss s.handle ≡ Some s = ap (space_at ss) own ∙ m.1 in
    let apart : c.args.handle ≢ 0 = c.if-handle-eq0.false in
    let test = c.in_ok-is_parent.ensures.answer ss now there (first_inside s c.in_ok-space.ensures.form.0) in
    let none : has_children ss c.args.handle ≡ None = ap (has_children ss) (sym own) ∙ test ∙ ap (λ (b : Bool). then_some b why.Children) c.if-is_parent.false in
    let bare = own_test ss c.args.handle s None m.1 c.in-None.is in
    (passed _ _ m.0 ∙ passed _ _ (not_root c.args.handle apart) ∙ passed _ _ none ∙ passed _ [] bare, m.1)

pub returns-in-None-clause-read : goal.returns-in-None-clause-read
returns-in-None-clause-read g c = λ b revealed. first_read b c.args.handle c.in_ok-space.space (c.in_ok-space.ensures.read b revealed)

pub returns-in_err-space-clause-unchanged : goal.returns-in_err-space-clause-unchanged
returns-in_err-space-clause-unchanged g c = λ b h. c.existing.ensures.unchanged b h

pub returns-in_err-space-clause-kept : goal.returns-in_err-space-clause-kept
returns-in_err-space-clause-kept g c = c.existing.ensures.kept

pub returns-in_err-space-clause-looked : goal.returns-in_err-space-clause-looked
returns-in_err-space-clause-looked g c = c.existing.ensures.looked

pub returns-in_err-space-clause-cause : goal.returns-in_err-space-clause-cause
returns-in_err-space-clause-cause g c = handed _ _ _ _ c.from_residual.ensures.1 c.in_err-space.ensures.cause

pub returns-in_err-space-clause-cost : goal.returns-in_err-space-clause-cost
returns-in_err-space-clause-cost g c = omega (arith, c.existing.ensures.cost)

pub returns-in_err-space-clause-form : goal.returns-in_err-space-clause-form
returns-in_err-space-clause-form g c = handed _ _ _ _ c.from_residual.ensures.1 tt

pub returns-in_err-space-clause-read : goal.returns-in_err-space-clause-read
returns-in_err-space-clause-read g c = λ b h. handed _ _ _ _ c.from_residual.ensures.1 tt

pub returns-in_err-space-clause-malformed : goal.returns-in_err-space-clause-malformed
returns-in_err-space-clause-malformed g c = λ b h. handed _ _ _ _ c.from_residual.ensures.1 (malformed_as (λ page. BreaksSlot b page c.args.handle) (BreaksFor (first_in_slot b c.args.handle) c.args.count b) (λ page k. inl (c.args.handle, k)) _ (c.in_err-space.ensures.malformed b h))

pub returns-then-handle-eq0-clause-unchanged : goal.returns-then-handle-eq0-clause-unchanged
returns-then-handle-eq0-clause-unchanged g c = λ b h. c.existing.ensures.unchanged b h

pub returns-then-handle-eq0-clause-kept : goal.returns-then-handle-eq0-clause-kept
returns-then-handle-eq0-clause-kept g c = c.existing.ensures.kept

pub returns-then-handle-eq0-clause-looked : goal.returns-then-handle-eq0-clause-looked
returns-then-handle-eq0-clause-looked g c = c.existing.ensures.looked

pub returns-then-handle-eq0-clause-cause : goal.returns-then-handle-eq0-clause-cause
returns-then-handle-eq0-clause-cause g c = tt

pub returns-then-handle-eq0-clause-cost : goal.returns-then-handle-eq0-clause-cost
returns-then-handle-eq0-clause-cost g c = omega (arith, c.existing.ensures.cost)

pub returns-then-handle-eq0-clause-read : goal.returns-then-handle-eq0-clause-read
returns-then-handle-eq0-clause-read g c = λ b h. tt

pub returns-then-handle-eq0-clause-form : goal.returns-then-handle-eq0-clause-form
returns-then-handle-eq0-clause-form g c = tt

pub returns-then-handle-eq0-clause-malformed : goal.returns-then-handle-eq0-clause-malformed
returns-then-handle-eq0-clause-malformed g c = λ b h. tt

pub returns-then-handle-eq0-clause-answer : goal.returns-then-handle-eq0-clause-answer
returns-then-handle-eq0-clause-answer g c = λ ss t.
    let m = c.in_ok-space.ensures.answer c.args.count ss t in
    (passed _ _ m.0 ∙ stopped _ _ _ (root_is c.args.handle c.if-handle-eq0.true), tt)

pub returns-in_err-is_parent-clause-unchanged : goal.returns-in_err-is_parent-clause-unchanged
returns-in_err-is_parent-clause-unchanged g c = λ b h. c.has_child.ensures.unchanged b (c.existing.ensures.unchanged b h)

pub returns-in_err-is_parent-clause-kept : goal.returns-in_err-is_parent-clause-kept
returns-in_err-is_parent-clause-kept g c = g.met.M.FlatMem.beside_through _ _ _ c.existing.ensures.kept c.has_child.ensures.kept

pub returns-in_err-is_parent-clause-looked : goal.returns-in_err-is_parent-clause-looked
returns-in_err-is_parent-clause-looked g c = g.met.M.FlatMem.only_reads_through _ _ _ c.existing.ensures.looked c.has_child.ensures.looked

pub returns-in_err-is_parent-clause-cause : goal.returns-in_err-is_parent-clause-cause
returns-in_err-is_parent-clause-cause g c = handed _ _ _ _ c.from_residual-in_err-is_parent.ensures.1 (cause_on g.M.FlatMem g.met.M.FlatMem.beside_itself g.met.M.FlatMem.accounted_wider _ _ _ c.existing.ensures.kept c.has_child.ensures.kept _ c.in_err-is_parent.ensures.cause)

pub returns-in_err-is_parent-clause-cost : goal.returns-in_err-is_parent-clause-cost
returns-in_err-is_parent-clause-cost g c = omega (arith, c.existing.ensures.cost, c.has_child.ensures.cost)

pub returns-in_err-is_parent-clause-form : goal.returns-in_err-is_parent-clause-form
returns-in_err-is_parent-clause-form g c = handed _ _ _ _ c.from_residual-in_err-is_parent.ensures.1 tt

pub returns-in_err-is_parent-clause-read : goal.returns-in_err-is_parent-clause-read
returns-in_err-is_parent-clause-read g c = λ b h. handed _ _ _ _ c.from_residual-in_err-is_parent.ensures.1 tt

pub returns-in_err-is_parent-clause-malformed : goal.returns-in_err-is_parent-clause-malformed
returns-in_err-is_parent-clause-malformed g c = λ b h.
    let first = first_read b c.args.handle c.in_ok-space.space (c.in_ok-space.ensures.read b h) in
    handed _ _ _ _ c.from_residual-in_err-is_parent.ensures.1 (subst (λ (n : ℕ). IfMalformed (BreaksFor n c.args.count b) c.in_err-is_parent.field-0.0) first (c.in_err-is_parent.ensures.malformed b (c.existing.ensures.unchanged b h)))

pub returns-then-is_parent-clause-unchanged : goal.returns-then-is_parent-clause-unchanged
returns-then-is_parent-clause-unchanged g c = λ b h. c.has_child.ensures.unchanged b (c.existing.ensures.unchanged b h)

pub returns-then-is_parent-clause-kept : goal.returns-then-is_parent-clause-kept
returns-then-is_parent-clause-kept g c = g.met.M.FlatMem.beside_through _ _ _ c.existing.ensures.kept c.has_child.ensures.kept

pub returns-then-is_parent-clause-looked : goal.returns-then-is_parent-clause-looked
returns-then-is_parent-clause-looked g c = g.met.M.FlatMem.only_reads_through _ _ _ c.existing.ensures.looked c.has_child.ensures.looked

pub returns-then-is_parent-clause-cause : goal.returns-then-is_parent-clause-cause
returns-then-is_parent-clause-cause g c = tt

pub returns-then-is_parent-clause-cost : goal.returns-then-is_parent-clause-cost
returns-then-is_parent-clause-cost g c = omega (arith, c.existing.ensures.cost, c.has_child.ensures.cost)

pub returns-then-is_parent-clause-read : goal.returns-then-is_parent-clause-read
returns-then-is_parent-clause-read g c = λ b h. tt

pub returns-then-is_parent-clause-form : goal.returns-then-is_parent-clause-form
returns-then-is_parent-clause-form g c = tt

pub returns-then-is_parent-clause-malformed : goal.returns-then-is_parent-clause-malformed
returns-then-is_parent-clause-malformed g c = λ b h. tt

pub returns-in-Some-clause-unchanged : goal.returns-in-Some-clause-unchanged
returns-in-Some-clause-unchanged g c = λ b h. c.has_child.ensures.unchanged b (c.existing.ensures.unchanged b h)

pub returns-in-Some-clause-kept : goal.returns-in-Some-clause-kept
returns-in-Some-clause-kept g c = g.met.M.FlatMem.beside_through _ _ _ c.existing.ensures.kept c.has_child.ensures.kept

pub returns-in-Some-clause-looked : goal.returns-in-Some-clause-looked
returns-in-Some-clause-looked g c = g.met.M.FlatMem.only_reads_through _ _ _ c.existing.ensures.looked c.has_child.ensures.looked

pub returns-in-Some-clause-cause : goal.returns-in-Some-clause-cause
returns-in-Some-clause-cause g c = tt

pub returns-in-Some-clause-cost : goal.returns-in-Some-clause-cost
returns-in-Some-clause-cost g c = omega (arith, c.existing.ensures.cost, c.has_child.ensures.cost)

pub returns-in-Some-clause-read : goal.returns-in-Some-clause-read
returns-in-Some-clause-read g c = λ b h. tt

pub returns-in-Some-clause-form : goal.returns-in-Some-clause-form
returns-in-Some-clause-form g c = tt

pub returns-in-Some-clause-malformed : goal.returns-in-Some-clause-malformed
returns-in-Some-clause-malformed g c = λ b h. tt

pub returns-in-None-clause-unchanged : goal.returns-in-None-clause-unchanged
returns-in-None-clause-unchanged g c = λ b h. c.has_child.ensures.unchanged b (c.existing.ensures.unchanged b h)

pub returns-in-None-clause-kept : goal.returns-in-None-clause-kept
returns-in-None-clause-kept g c = g.met.M.FlatMem.beside_through _ _ _ c.existing.ensures.kept c.has_child.ensures.kept

pub returns-in-None-clause-looked : goal.returns-in-None-clause-looked
returns-in-None-clause-looked g c = g.met.M.FlatMem.only_reads_through _ _ _ c.existing.ensures.looked c.has_child.ensures.looked

pub returns-in-None-clause-cause : goal.returns-in-None-clause-cause
returns-in-None-clause-cause g c = tt

pub returns-in-None-clause-cost : goal.returns-in-None-clause-cost
returns-in-None-clause-cost g c = omega (arith, c.existing.ensures.cost, c.has_child.ensures.cost)

pub returns-in-None-clause-form : goal.returns-in-None-clause-form
returns-in-None-clause-form g c = (c.in_ok-space.ensures.form.0, c.in_ok-space.ensures.form.2)

pub returns-in-None-clause-malformed : goal.returns-in-None-clause-malformed
returns-in-None-clause-malformed g c = λ b h. tt
