use Rattle.std.proofs.Common.{Some, inl, sym, ◌∙◌, arith, inr}
use Rattle.std.proofs.lemmas.Bool.{and_parts, eqb-true}
use Rattle.std.proofs.lemmas.Option.{slice_get_within}
use Rattle.space_tables.specs.Form.{BreaksHierarchy, BreaksFor, BreaksLookUp}
use Rattle.space_tables.proofs.Pieces.{malformed_as}
use Rattle.space_tables.proofs.Right.{right_reads}
use Rattle.space_tables.proofs.Passes.{still_hold}
use Rattle.space_tables.proofs.Removes.{childless, children_there, no_children}
use Rattle.space_tables.proofs.Outs.{handed, cause_on}
use Rattle.space_tables.proofs.remove.has_child.Goals as goal

pub returns-in_err-interval-clause-answer : goal.returns-in_err-interval-clause-answer
returns-in_err-interval-clause-answer g c = λ ss t at inside. let m = c.in_err-interval.ensures.found t.slots t.xs t.hold t.right t.counted inside in handed _ _ _ _ c.from_residual.ensures.1 m

pub returns-then-is_whole-clause-answer : goal.returns-then-is_whole-clause-answer
returns-then-is_whole-clause-answer g c = λ ss t at inside.
    let s = c.args.space.now in
    let x = c.in_ok-interval.interval in
    let there = c.in_ok-interval.ensures.found t.slots t.xs t.hold t.right t.counted inside in
    let whole = sym c.if-is_whole.ensures in
    let parts = and_parts _ _ whole in
    let firsts = and_parts _ _ parts.0 in
    let none = childless ss t.xs _ x s (rw t.spaces at t.right.spaces) (rw t.spaces at t.right.intervals) there at (eqb-true _ _ firsts.0) (eqb-true _ _ firsts.1) (eqb-true _ _ parts.1) in
    no_children ss s.handle (sym none)

pub returns-in_err-find_space-clause-answer : goal.returns-in_err-find_space-clause-answer
returns-in_err-find_space-clause-answer g c = λ ss t at inside.
    let now = still_hold g.M.FlatMem.reveals c.args.mem.now c.find.new.mem c.find.ensures.looks.unchanged t.slots t.xs t.hold in
    let m = c.in_err-find_space.ensures.found t.slots t.xs now (right_reads t.slots t.xs t.right) (λ h s e k. (omega arith, let below = slice_get_within t.slots h (Some s) e in omega (arith, below, t.hold.are.handles))) in
    handed _ _ _ _ c.from_residual-in_err-find_space.ensures.1 m

pub returns-in_err-find_space-clause-malformed : goal.returns-in_err-find_space-clause-malformed
returns-in_err-find_space-clause-malformed g c = λ b revealed.
    let m = malformed_as (BreaksHierarchy b) (BreaksFor c.args.space.now.first c.args.count b) (λ page k. inl k) _ (c.in_err-find_space.ensures.malformed b (c.find.ensures.looks.unchanged b revealed)) in
    handed _ _ _ _ c.from_residual-in_err-find_space.ensures.1 m

pub returns-in-Some-clause-answer : goal.returns-in-Some-clause-answer
returns-in-Some-clause-answer g c = λ ss t at inside.
    let now = still_hold g.M.FlatMem.reveals c.args.mem.now c.find.new.mem c.find.ensures.looks.unchanged t.slots t.xs t.hold in
    let found = rw t.spaces at (c.in_ok-find_space.ensures.found t.slots t.xs now (right_reads t.slots t.xs t.right) (λ h s e k. (omega arith, let below = slice_get_within t.slots h (Some s) e in omega (arith, below, t.hold.are.handles)))) in
    children_there ss c.args.space.now.handle c.in-Some.field-0 (sym c.in-Some.is ∙ found)

pub returns-in-None-clause-answer : goal.returns-in-None-clause-answer
returns-in-None-clause-answer g c = λ ss t at inside.
    let now = still_hold g.M.FlatMem.reveals c.args.mem.now c.find.new.mem c.find.ensures.looks.unchanged t.slots t.xs t.hold in
    let found = rw t.spaces at (c.in_ok-find_space.ensures.found t.slots t.xs now (right_reads t.slots t.xs t.right) (λ h s e k. (omega arith, let below = slice_get_within t.slots h (Some s) e in omega (arith, below, t.hold.are.handles)))) in
    no_children ss c.args.space.now.handle (sym c.in-None.is ∙ found)

pub returns-in_err-interval-clause-unchanged : goal.returns-in_err-interval-clause-unchanged
returns-in_err-interval-clause-unchanged g c = λ b h. c.find.ensures.looks.unchanged b h

pub returns-in_err-interval-clause-kept : goal.returns-in_err-interval-clause-kept
returns-in_err-interval-clause-kept g c = c.find.ensures.looks.kept

pub returns-in_err-interval-clause-looked : goal.returns-in_err-interval-clause-looked
returns-in_err-interval-clause-looked g c = c.find.ensures.looks.looked

pub returns-in_err-interval-clause-cause : goal.returns-in_err-interval-clause-cause
returns-in_err-interval-clause-cause g c = handed _ _ _ _ c.from_residual.ensures.1 c.in_err-interval.ensures.looks.cause

pub returns-in_err-interval-clause-cost : goal.returns-in_err-interval-clause-cost
returns-in_err-interval-clause-cost g c = omega (arith, c.find.ensures.looks.cost)

pub returns-in_err-interval-clause-refused : goal.returns-in_err-interval-clause-refused
returns-in_err-interval-clause-refused g c = handed _ _ _ _ c.from_residual.ensures.1 c.in_err-interval.ensures.refused

pub returns-in_err-interval-clause-malformed : goal.returns-in_err-interval-clause-malformed
returns-in_err-interval-clause-malformed g c = λ b h. handed _ _ _ _ c.from_residual.ensures.1 (malformed_as (BreaksLookUp c.args.space.now.first c.args.count b) (BreaksFor c.args.space.now.first c.args.count b) (λ page k. inr k) _ (c.in_err-interval.ensures.malformed b h))

pub returns-then-is_whole-clause-unchanged : goal.returns-then-is_whole-clause-unchanged
returns-then-is_whole-clause-unchanged g c = λ b h. c.find.ensures.looks.unchanged b h

pub returns-then-is_whole-clause-kept : goal.returns-then-is_whole-clause-kept
returns-then-is_whole-clause-kept g c = c.find.ensures.looks.kept

pub returns-then-is_whole-clause-looked : goal.returns-then-is_whole-clause-looked
returns-then-is_whole-clause-looked g c = c.find.ensures.looks.looked

pub returns-then-is_whole-clause-cause : goal.returns-then-is_whole-clause-cause
returns-then-is_whole-clause-cause g c = tt

pub returns-then-is_whole-clause-cost : goal.returns-then-is_whole-clause-cost
returns-then-is_whole-clause-cost g c = omega (arith, c.find.ensures.looks.cost)

pub returns-then-is_whole-clause-refused : goal.returns-then-is_whole-clause-refused
returns-then-is_whole-clause-refused g c = tt

pub returns-then-is_whole-clause-malformed : goal.returns-then-is_whole-clause-malformed
returns-then-is_whole-clause-malformed g c = λ b h. tt

pub returns-in_err-find_space-clause-unchanged : goal.returns-in_err-find_space-clause-unchanged
returns-in_err-find_space-clause-unchanged g c = λ b h. c.find_space.ensures.unchanged b (c.find.ensures.looks.unchanged b h)

pub returns-in_err-find_space-clause-kept : goal.returns-in_err-find_space-clause-kept
returns-in_err-find_space-clause-kept g c = g.met.M.FlatMem.beside_through _ _ _ c.find.ensures.looks.kept c.find_space.ensures.kept

pub returns-in_err-find_space-clause-looked : goal.returns-in_err-find_space-clause-looked
returns-in_err-find_space-clause-looked g c = g.met.M.FlatMem.only_reads_through _ _ _ c.find.ensures.looks.looked c.find_space.ensures.looked

pub returns-in_err-find_space-clause-cause : goal.returns-in_err-find_space-clause-cause
returns-in_err-find_space-clause-cause g c = handed _ _ _ _ c.from_residual-in_err-find_space.ensures.1 (cause_on g.M.FlatMem g.met.M.FlatMem.beside_itself g.met.M.FlatMem.accounted_wider _ _ _ c.find.ensures.looks.kept c.find_space.ensures.kept _ c.in_err-find_space.ensures.cause)

pub returns-in_err-find_space-clause-cost : goal.returns-in_err-find_space-clause-cost
returns-in_err-find_space-clause-cost g c = omega (arith, c.find.ensures.looks.cost, c.find_space.ensures.cost)

pub returns-in_err-find_space-clause-refused : goal.returns-in_err-find_space-clause-refused
returns-in_err-find_space-clause-refused g c = handed _ _ _ _ c.from_residual-in_err-find_space.ensures.1 c.in_err-find_space.ensures.refused

pub returns-in-Some-clause-unchanged : goal.returns-in-Some-clause-unchanged
returns-in-Some-clause-unchanged g c = λ b h. c.find_space.ensures.unchanged b (c.find.ensures.looks.unchanged b h)

pub returns-in-Some-clause-kept : goal.returns-in-Some-clause-kept
returns-in-Some-clause-kept g c = g.met.M.FlatMem.beside_through _ _ _ c.find.ensures.looks.kept c.find_space.ensures.kept

pub returns-in-Some-clause-looked : goal.returns-in-Some-clause-looked
returns-in-Some-clause-looked g c = g.met.M.FlatMem.only_reads_through _ _ _ c.find.ensures.looks.looked c.find_space.ensures.looked

pub returns-in-Some-clause-cause : goal.returns-in-Some-clause-cause
returns-in-Some-clause-cause g c = tt

pub returns-in-Some-clause-cost : goal.returns-in-Some-clause-cost
returns-in-Some-clause-cost g c = omega (arith, c.find.ensures.looks.cost, c.find_space.ensures.cost)

pub returns-in-Some-clause-refused : goal.returns-in-Some-clause-refused
returns-in-Some-clause-refused g c = tt

pub returns-in-Some-clause-malformed : goal.returns-in-Some-clause-malformed
returns-in-Some-clause-malformed g c = λ b h. tt

pub returns-in-None-clause-unchanged : goal.returns-in-None-clause-unchanged
returns-in-None-clause-unchanged g c = λ b h. c.find_space.ensures.unchanged b (c.find.ensures.looks.unchanged b h)

pub returns-in-None-clause-kept : goal.returns-in-None-clause-kept
returns-in-None-clause-kept g c = g.met.M.FlatMem.beside_through _ _ _ c.find.ensures.looks.kept c.find_space.ensures.kept

pub returns-in-None-clause-looked : goal.returns-in-None-clause-looked
returns-in-None-clause-looked g c = g.met.M.FlatMem.only_reads_through _ _ _ c.find.ensures.looks.looked c.find_space.ensures.looked

pub returns-in-None-clause-cause : goal.returns-in-None-clause-cause
returns-in-None-clause-cause g c = tt

pub returns-in-None-clause-cost : goal.returns-in-None-clause-cost
returns-in-None-clause-cost g c = omega (arith, c.find.ensures.looks.cost, c.find_space.ensures.cost)

pub returns-in-None-clause-refused : goal.returns-in-None-clause-refused
returns-in-None-clause-refused g c = tt

pub returns-in-None-clause-malformed : goal.returns-in-None-clause-malformed
returns-in-None-clause-malformed g c = λ b h. tt
