use Rattle.std.proofs.Common.{◌≢◌, List, [], ◌∷◌, Some, None, sym, ◌∙◌, arith}
use Rattle.flat_machine.specs.declared.space.Space.{Space}
use Rattle.flat_machine.specs.Refusal.{first_of, is_root}
use Rattle.projection_laws.specs.Slots.{listed}
use Rattle.projection_laws.specs.Tests.{no_space, path_mapped, map_row}
use Rattle.space_tables.specs.declared.scan.Test.TheVariants.{OnPath}
use Rattle.space_tables.specs.Scan.{passes, HaveAll}
use Rattle.space_tables.specs.Stored.{HoldTables, RevealSpaces}
use Rattle.space_tables.proofs.Right.{right_reads}
use Rattle.space_tables.proofs.NamedLemmas.{path_named, stands_at}
use Rattle.space_tables.proofs.Pieces.{malformed_as}
use Rattle.space_tables.proofs.Asks.{refuses_first, from_memory, passed, stopped, space_is, not_root, path_is, root_is}
use Rattle.space_tables.proofs.Outs.{handed, cause_on, no_page}
use Rattle.space_tables.specs.Form.{BreaksSlot, BreaksHierarchy}
use Rattle.space_tables.proofs.ask.unmapped.Given as given
use Rattle.space_tables.proofs.ask.unmapped.Goals as goal
use Rattle.space_tables.proofs.ask.unmapped.Goals.{In_ok-handles}

-- the tables stand there still, and the handles of all mapped spaces on the path were found
still_there : (g : given.Over) (c : In_ok-handles g) (ss : List Space) (t : RevealSpaces (g.M.FlatMem.reveals c.args.mem.now) c.args.count ss)
    → HoldTables (g.M.FlatMem.reveals c.named_handles.new.mem) t.slots t.xs × HaveAll (passes (OnPath c.in_ok-space.space)) t.slots c.in_ok-handles.handles
still_there g c ss t =
    let b = t.hold.bytes in
    let first = c.existing.ensures.unchanged b t.hold.revealed in
    let next = c.within.ensures.unchanged b first in
    let at = (c.in_ok-space.ensures.answer c.args.count ss t).1 in
    let there = stands_at t.slots c.args.handle c.in_ok-space.space t.right.numbered (rw (← t.spaces) at at) in
    let within = c.in_ok-from.ensures.found t.slots t.xs (listed t.slots) (record { bytes = b; revealed = first; are = t.hold.are }) t.right.intervals t.counted in
    let names = c.in_ok-handles.ensures.named b next in (
      record { bytes = b; revealed = c.named_handles.ensures.unchanged b next; are = t.hold.are },
      path_named b t.slots t.xs t.hold.are t.right c.in_ok-space.space c.args.handle (c.in_ok-from.from, c.in_ok-from.end) c.in_ok-handles.handles there within names,
    )

pub returns-in_err-space-clause-answer : goal.returns-in_err-space-clause-answer
returns-in_err-space-clause-answer g c = λ ss t.
    let m = c.in_err-space.ensures.answer c.args.count ss t in
    let k = refuses_first (Unit {0}) (no_space ss c.args.handle) (is_root c.args.handle ∷ path_mapped ss c.args.handle ∷ []) _ m in handed _ _ _ _ c.from_residual.ensures.1 k

pub returns-in_err-from-clause-answer : goal.returns-in_err-from-clause-answer
returns-in_err-from-clause-answer g c = λ ss t.
    let k = from_memory (Unit {0}) (first_of (map_row ss c.args.handle)) _ c.in_err-from.ensures.memory in handed _ _ _ _ c.from_residual-in_err-from.ensures.1 k

pub returns-in_err-handles-clause-answer : goal.returns-in_err-handles-clause-answer
returns-in_err-handles-clause-answer g c = λ ss t.
    let k = from_memory (Unit {0}) (first_of (map_row ss c.args.handle)) _ c.in_err-handles.ensures.memory in handed _ _ _ _ c.from_residual-in_err-handles.ensures.1 k

pub returns-in_err-mapped-clause-answer : goal.returns-in_err-mapped-clause-answer
returns-in_err-mapped-clause-answer g c = λ ss t.
    let now = still_there g (goal.at.returns-in_err-mapped-clause-answer g c).In_ok-handles ss t in
    let m = c.in_err-mapped.ensures.found t.slots t.xs now.0 (right_reads t.slots t.xs t.right) now.1 in
    let k = from_memory (Unit {0}) (first_of (map_row ss c.args.handle)) _ m in handed _ _ _ _ c.from_residual-in_err-mapped.ensures.1 k

pub returns-in-Some-clause-answer : goal.returns-in-Some-clause-answer
returns-in-Some-clause-answer g c = λ ss t.
    let now = still_there g (goal.at.returns-in-Some-clause-answer g c).In_ok-handles ss t in
    let at = (c.in_ok-space.ensures.answer c.args.count ss t).1 in
    let found = rw t.spaces at (c.in_ok-mapped.ensures.found t.slots t.xs now.0 (right_reads t.slots t.xs t.right) now.1) in
    let apart : c.args.handle ≢ 0 = c.if-handle-eq0.false in
    let path = path_is ss c.args.handle c.in_ok-space.space (Some c.in-Some.mapped) at (sym c.in-Some.is ∙ found) in
    (passed _ _ (space_is ss c.args.handle c.in_ok-space.space at) ∙ passed _ _ (not_root c.args.handle apart) ∙ stopped _ [] _ path, tt)

pub returns-in-None-clause-answer : goal.returns-in-None-clause-answer
returns-in-None-clause-answer g c = λ ss t.
    let now = still_there g (goal.at.returns-in-None-clause-answer g c).In_ok-handles ss t in
    let at = (c.in_ok-space.ensures.answer c.args.count ss t).1 in
    let found = rw t.spaces at (c.in_ok-mapped.ensures.found t.slots t.xs now.0 (right_reads t.slots t.xs t.right) now.1) in
    let apart : c.args.handle ≢ 0 = c.if-handle-eq0.false in
    let path = path_is ss c.args.handle c.in_ok-space.space None at (sym c.in-None.is ∙ found) in
    (passed _ _ (space_is ss c.args.handle c.in_ok-space.space at) ∙ passed _ _ (not_root c.args.handle apart) ∙ passed _ [] path, at)

pub returns-in_err-space-clause-unchanged : goal.returns-in_err-space-clause-unchanged
returns-in_err-space-clause-unchanged g c = λ b h. c.existing.ensures.unchanged b h

pub returns-in_err-space-clause-kept : goal.returns-in_err-space-clause-kept
returns-in_err-space-clause-kept g c = c.existing.ensures.kept

pub returns-in_err-space-clause-looked : goal.returns-in_err-space-clause-looked
returns-in_err-space-clause-looked g c = c.existing.ensures.looked

pub returns-in_err-space-clause-cause : goal.returns-in_err-space-clause-cause
returns-in_err-space-clause-cause g c = handed _ _ _ _ c.from_residual.ensures.1 c.in_err-space.ensures.cause

pub returns-in_err-space-clause-cost : goal.returns-in_err-space-clause-cost
returns-in_err-space-clause-cost g c = omega (arith, c.existing.ensures.cost)

pub returns-in_err-space-clause-read : goal.returns-in_err-space-clause-read
returns-in_err-space-clause-read g c = λ b h. handed _ _ _ _ c.from_residual.ensures.1 tt

pub returns-in_err-space-clause-form : goal.returns-in_err-space-clause-form
returns-in_err-space-clause-form g c = handed _ _ _ _ c.from_residual.ensures.1 tt

pub returns-in_err-space-clause-malformed : goal.returns-in_err-space-clause-malformed
returns-in_err-space-clause-malformed g c = λ b h. handed _ _ _ _ c.from_residual.ensures.1 (malformed_as (λ page. BreaksSlot b page c.args.handle) (BreaksHierarchy b) (λ page k. (c.args.handle, k)) _ (c.in_err-space.ensures.malformed b h))

pub returns-then-handle-eq0-clause-unchanged : goal.returns-then-handle-eq0-clause-unchanged
returns-then-handle-eq0-clause-unchanged g c = λ b h. c.existing.ensures.unchanged b h

pub returns-then-handle-eq0-clause-kept : goal.returns-then-handle-eq0-clause-kept
returns-then-handle-eq0-clause-kept g c = c.existing.ensures.kept

pub returns-then-handle-eq0-clause-looked : goal.returns-then-handle-eq0-clause-looked
returns-then-handle-eq0-clause-looked g c = c.existing.ensures.looked

pub returns-then-handle-eq0-clause-cause : goal.returns-then-handle-eq0-clause-cause
returns-then-handle-eq0-clause-cause g c = tt

pub returns-then-handle-eq0-clause-cost : goal.returns-then-handle-eq0-clause-cost
returns-then-handle-eq0-clause-cost g c = omega (arith, c.existing.ensures.cost)

pub returns-then-handle-eq0-clause-read : goal.returns-then-handle-eq0-clause-read
returns-then-handle-eq0-clause-read g c = λ b h. tt

pub returns-then-handle-eq0-clause-form : goal.returns-then-handle-eq0-clause-form
returns-then-handle-eq0-clause-form g c = tt

pub returns-then-handle-eq0-clause-malformed : goal.returns-then-handle-eq0-clause-malformed
returns-then-handle-eq0-clause-malformed g c = λ b h. tt

pub returns-then-handle-eq0-clause-answer : goal.returns-then-handle-eq0-clause-answer
returns-then-handle-eq0-clause-answer g c = λ ss t.
    let at = (c.in_ok-space.ensures.answer c.args.count ss t).1 in
    (passed _ _ (space_is ss c.args.handle c.in_ok-space.space at) ∙ stopped _ _ _ (root_is c.args.handle c.if-handle-eq0.true), tt)

pub returns-in_err-from-clause-unchanged : goal.returns-in_err-from-clause-unchanged
returns-in_err-from-clause-unchanged g c = λ b h. c.within.ensures.unchanged b (c.existing.ensures.unchanged b h)

pub returns-in_err-from-clause-kept : goal.returns-in_err-from-clause-kept
returns-in_err-from-clause-kept g c = g.met.M.FlatMem.beside_through _ _ _ c.existing.ensures.kept c.within.ensures.kept

pub returns-in_err-from-clause-looked : goal.returns-in_err-from-clause-looked
returns-in_err-from-clause-looked g c = g.met.M.FlatMem.only_reads_through _ _ _ c.existing.ensures.looked c.within.ensures.looked

pub returns-in_err-from-clause-cause : goal.returns-in_err-from-clause-cause
returns-in_err-from-clause-cause g c = handed _ _ _ _ c.from_residual-in_err-from.ensures.1 (cause_on g.M.FlatMem g.met.M.FlatMem.beside_itself g.met.M.FlatMem.accounted_wider _ _ _ c.existing.ensures.kept c.within.ensures.kept _ c.in_err-from.ensures.cause)

pub returns-in_err-from-clause-cost : goal.returns-in_err-from-clause-cost
returns-in_err-from-clause-cost g c = omega (arith, c.existing.ensures.cost, c.within.ensures.cost)

pub returns-in_err-from-clause-read : goal.returns-in_err-from-clause-read
returns-in_err-from-clause-read g c = λ b h. handed _ _ _ _ c.from_residual-in_err-from.ensures.1 tt

pub returns-in_err-from-clause-form : goal.returns-in_err-from-clause-form
returns-in_err-from-clause-form g c = handed _ _ _ _ c.from_residual-in_err-from.ensures.1 tt

pub returns-in_err-from-clause-malformed : goal.returns-in_err-from-clause-malformed
returns-in_err-from-clause-malformed g c = λ b h. handed _ _ _ _ c.from_residual-in_err-from.ensures.1 (no_page (BreaksHierarchy b) _ c.in_err-from.ensures.memory)

pub returns-in_err-handles-clause-unchanged : goal.returns-in_err-handles-clause-unchanged
returns-in_err-handles-clause-unchanged g c = λ b h. c.named_handles.ensures.unchanged b (c.within.ensures.unchanged b (c.existing.ensures.unchanged b h))

pub returns-in_err-handles-clause-kept : goal.returns-in_err-handles-clause-kept
returns-in_err-handles-clause-kept g c = g.met.M.FlatMem.beside_through _ _ _ (g.met.M.FlatMem.beside_through _ _ _ c.existing.ensures.kept c.within.ensures.kept) c.named_handles.ensures.kept

pub returns-in_err-handles-clause-looked : goal.returns-in_err-handles-clause-looked
returns-in_err-handles-clause-looked g c = g.met.M.FlatMem.only_reads_through _ _ _ (g.met.M.FlatMem.only_reads_through _ _ _ c.existing.ensures.looked c.within.ensures.looked) c.named_handles.ensures.looked

pub returns-in_err-handles-clause-cause : goal.returns-in_err-handles-clause-cause
returns-in_err-handles-clause-cause g c = handed _ _ _ _ c.from_residual-in_err-handles.ensures.1 (cause_on g.M.FlatMem g.met.M.FlatMem.beside_itself g.met.M.FlatMem.accounted_wider _ _ _ (g.met.M.FlatMem.beside_through _ _ _ c.existing.ensures.kept c.within.ensures.kept) c.named_handles.ensures.kept _ c.in_err-handles.ensures.cause)

pub returns-in_err-handles-clause-cost : goal.returns-in_err-handles-clause-cost
returns-in_err-handles-clause-cost g c = omega (arith, c.existing.ensures.cost, c.within.ensures.cost, c.named_handles.ensures.cost)

pub returns-in_err-handles-clause-read : goal.returns-in_err-handles-clause-read
returns-in_err-handles-clause-read g c = λ b h. handed _ _ _ _ c.from_residual-in_err-handles.ensures.1 tt

pub returns-in_err-handles-clause-form : goal.returns-in_err-handles-clause-form
returns-in_err-handles-clause-form g c = handed _ _ _ _ c.from_residual-in_err-handles.ensures.1 tt

pub returns-in_err-handles-clause-malformed : goal.returns-in_err-handles-clause-malformed
returns-in_err-handles-clause-malformed g c = λ b h. handed _ _ _ _ c.from_residual-in_err-handles.ensures.1 (no_page (BreaksHierarchy b) _ c.in_err-handles.ensures.memory)

pub returns-in_err-mapped-clause-unchanged : goal.returns-in_err-mapped-clause-unchanged
returns-in_err-mapped-clause-unchanged g c = λ b h. c.find_space.ensures.unchanged b (c.named_handles.ensures.unchanged b (c.within.ensures.unchanged b (c.existing.ensures.unchanged b h)))

pub returns-in_err-mapped-clause-kept : goal.returns-in_err-mapped-clause-kept
returns-in_err-mapped-clause-kept g c = g.met.M.FlatMem.beside_through _ _ _ (g.met.M.FlatMem.beside_through _ _ _ (g.met.M.FlatMem.beside_through _ _ _ c.existing.ensures.kept c.within.ensures.kept) c.named_handles.ensures.kept) c.find_space.ensures.kept

pub returns-in_err-mapped-clause-looked : goal.returns-in_err-mapped-clause-looked
returns-in_err-mapped-clause-looked g c = g.met.M.FlatMem.only_reads_through _ _ _ (g.met.M.FlatMem.only_reads_through _ _ _ (g.met.M.FlatMem.only_reads_through _ _ _ c.existing.ensures.looked c.within.ensures.looked) c.named_handles.ensures.looked) c.find_space.ensures.looked

pub returns-in_err-mapped-clause-cause : goal.returns-in_err-mapped-clause-cause
returns-in_err-mapped-clause-cause g c = handed _ _ _ _ c.from_residual-in_err-mapped.ensures.1 (cause_on g.M.FlatMem g.met.M.FlatMem.beside_itself g.met.M.FlatMem.accounted_wider _ _ _ (g.met.M.FlatMem.beside_through _ _ _ (g.met.M.FlatMem.beside_through _ _ _ c.existing.ensures.kept c.within.ensures.kept) c.named_handles.ensures.kept) c.find_space.ensures.kept _ c.in_err-mapped.ensures.cause)

pub returns-in_err-mapped-clause-cost : goal.returns-in_err-mapped-clause-cost
returns-in_err-mapped-clause-cost g c = omega (arith, c.existing.ensures.cost, c.within.ensures.cost, c.named_handles.ensures.cost, c.find_space.ensures.cost)

pub returns-in_err-mapped-clause-read : goal.returns-in_err-mapped-clause-read
returns-in_err-mapped-clause-read g c = λ b h. handed _ _ _ _ c.from_residual-in_err-mapped.ensures.1 tt

pub returns-in_err-mapped-clause-form : goal.returns-in_err-mapped-clause-form
returns-in_err-mapped-clause-form g c = handed _ _ _ _ c.from_residual-in_err-mapped.ensures.1 tt

pub returns-in_err-mapped-clause-malformed : goal.returns-in_err-mapped-clause-malformed
returns-in_err-mapped-clause-malformed g c = λ b h. handed _ _ _ _ c.from_residual-in_err-mapped.ensures.1 (c.in_err-mapped.ensures.malformed b (c.named_handles.ensures.unchanged b (c.within.ensures.unchanged b (c.existing.ensures.unchanged b h))))

pub returns-in-Some-clause-unchanged : goal.returns-in-Some-clause-unchanged
returns-in-Some-clause-unchanged g c = λ b h. c.find_space.ensures.unchanged b (c.named_handles.ensures.unchanged b (c.within.ensures.unchanged b (c.existing.ensures.unchanged b h)))

pub returns-in-Some-clause-kept : goal.returns-in-Some-clause-kept
returns-in-Some-clause-kept g c = g.met.M.FlatMem.beside_through _ _ _ (g.met.M.FlatMem.beside_through _ _ _ (g.met.M.FlatMem.beside_through _ _ _ c.existing.ensures.kept c.within.ensures.kept) c.named_handles.ensures.kept) c.find_space.ensures.kept

pub returns-in-Some-clause-looked : goal.returns-in-Some-clause-looked
returns-in-Some-clause-looked g c = g.met.M.FlatMem.only_reads_through _ _ _ (g.met.M.FlatMem.only_reads_through _ _ _ (g.met.M.FlatMem.only_reads_through _ _ _ c.existing.ensures.looked c.within.ensures.looked) c.named_handles.ensures.looked) c.find_space.ensures.looked

pub returns-in-Some-clause-cause : goal.returns-in-Some-clause-cause
returns-in-Some-clause-cause g c = tt

pub returns-in-Some-clause-cost : goal.returns-in-Some-clause-cost
returns-in-Some-clause-cost g c = omega (arith, c.existing.ensures.cost, c.within.ensures.cost, c.named_handles.ensures.cost, c.find_space.ensures.cost)

pub returns-in-Some-clause-read : goal.returns-in-Some-clause-read
returns-in-Some-clause-read g c = λ b h. tt

pub returns-in-Some-clause-form : goal.returns-in-Some-clause-form
returns-in-Some-clause-form g c = tt

pub returns-in-Some-clause-malformed : goal.returns-in-Some-clause-malformed
returns-in-Some-clause-malformed g c = λ b h. tt

pub returns-in-None-clause-unchanged : goal.returns-in-None-clause-unchanged
returns-in-None-clause-unchanged g c = λ b h. c.find_space.ensures.unchanged b (c.named_handles.ensures.unchanged b (c.within.ensures.unchanged b (c.existing.ensures.unchanged b h)))

pub returns-in-None-clause-kept : goal.returns-in-None-clause-kept
returns-in-None-clause-kept g c = g.met.M.FlatMem.beside_through _ _ _ (g.met.M.FlatMem.beside_through _ _ _ (g.met.M.FlatMem.beside_through _ _ _ c.existing.ensures.kept c.within.ensures.kept) c.named_handles.ensures.kept) c.find_space.ensures.kept

pub returns-in-None-clause-looked : goal.returns-in-None-clause-looked
returns-in-None-clause-looked g c = g.met.M.FlatMem.only_reads_through _ _ _ (g.met.M.FlatMem.only_reads_through _ _ _ (g.met.M.FlatMem.only_reads_through _ _ _ c.existing.ensures.looked c.within.ensures.looked) c.named_handles.ensures.looked) c.find_space.ensures.looked

pub returns-in-None-clause-cause : goal.returns-in-None-clause-cause
returns-in-None-clause-cause g c = tt

pub returns-in-None-clause-cost : goal.returns-in-None-clause-cost
returns-in-None-clause-cost g c = omega (arith, c.existing.ensures.cost, c.within.ensures.cost, c.named_handles.ensures.cost, c.find_space.ensures.cost)

pub returns-in-None-clause-read : goal.returns-in-None-clause-read
returns-in-None-clause-read g c = λ b h. c.in_ok-space.ensures.read b h

pub returns-in-None-clause-form : goal.returns-in-None-clause-form
returns-in-None-clause-form g c = c.in_ok-space.ensures.form.0

pub returns-in-None-clause-malformed : goal.returns-in-None-clause-malformed
returns-in-None-clause-malformed g c = λ b h. tt
