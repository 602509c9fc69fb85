use Rattle.std.specs.Prelude.{IfSome, Option, ◌≤◌}
use Rattle.std.proofs.Common.{inl, inr, subst}
use Rattle.file_manager.specs.Attributes.{IsAttributesOf}
use Rattle.file_manager.specs.declared.attributes.Attributes.{Attributes}
use Rattle.file_map.specs.FileMap.{IsSize}
use Rattle.session_words.specs.Parts.{shapes_of}
use Rattle.fault_core.specs.Core.{state}
use Rattle.fault_core.proofs.ReachLemmas.{reaches_itself}
use Rattle.space_calls.proofs.HaltLemmas.{later_sight}
use Rattle.space_calls.proofs.LookLemmas.{looks_then}
use Rattle.space_calls.proofs.NameLemmas.{gone_revealed, seen_not, seen_revealed}
use Rattle.space_calls.proofs.OutcomeLemmas.{halts_after, halts_wider}
use Rattle.space_calls.proofs.naming.named_file.Goals as goal
use Rattle.filer_kernel.specs.View.{accepted}

pub returns-in-Ok-None-clause-answer : goal.returns-in-Ok-None-clause-answer
returns-in-Ok-None-clause-answer g c = λ volume m r. gone_revealed m c.args.id c.in-Ok-None.field-0 c.in-Ok-None.field-0-is (c.in-Ok-None.ensures.answer volume m r)

pub returns-in-Ok-true-clause-answer : goal.returns-in-Ok-true-clause-answer
returns-in-Ok-true-clause-answer g c = λ volume m r.
    let there = subst (λ (o : Option Attributes). IsAttributesOf (shapes_of m.files c.args.id) o) c.in-Ok-Some.field-0-is (c.in-Ok-Some.ensures.answer volume m r) in
    seen_revealed m c.args.id c.in-Ok-true.field-0 _ c.in-Ok-true.field-0-test (c.in-Ok-true.ensures.answer volume m (c.found_file.ensures.looks.runs volume m r)) there

pub returns-in-Ok-false-clause-answer : goal.returns-in-Ok-false-clause-answer
returns-in-Ok-false-clause-answer g c = λ volume m r.
    seen_not m c.args.id c.in-Ok-false.field-0 c.in-Ok-false.field-0-test (c.in-Ok-false.ensures.answer volume m (c.found_file.ensures.looks.runs volume m r))

pub returns-in-Ok-true-clause-looks : goal.returns-in-Ok-true-clause-looks
returns-in-Ok-true-clause-looks g c = looks_then c.found_file.ensures.looks c.may_be_named.ensures.looks

pub returns-in-Ok-false-clause-looks : goal.returns-in-Ok-false-clause-looks
returns-in-Ok-false-clause-looks g c = looks_then c.found_file.ensures.looks c.may_be_named.ensures.looks

pub returns-in-Err-may_be_named-clause-looks : goal.returns-in-Err-may_be_named-clause-looks
returns-in-Err-may_be_named-clause-looks g c = looks_then c.found_file.ensures.looks c.may_be_named.ensures.looks

pub returns-in-Err-may_be_named-clause-answer : goal.returns-in-Err-may_be_named-clause-answer
returns-in-Err-may_be_named-clause-answer g c = λ volume m r. c.in-Err-may_be_named.ensures.answer volume m (c.found_file.ensures.looks.runs volume m r)

-- ---- Why it failed.

pub returns-in-Err-clause-fails : goal.returns-in-Err-clause-fails
returns-in-Err-clause-fails g c = halts_wider c.in-Err.ensures.fails (inr (state c.args.core.now, reaches_itself (state c.args.core.now), c.in-Err.ensures.fails.cause))

pub returns-in-Err-may_be_named-clause-fails : goal.returns-in-Err-may_be_named-clause-fails
returns-in-Err-may_be_named-clause-fails g c =
    let old = c.args.core.now in
    let u = c.found_file.new.core in
    halts_after c.found_file.ensures.looks c.in-Err-may_be_named.ensures.fails
    (inl (later_sight (state old) (state u) (accepted old.filer) c.found_file.ensures.looks.reaches old.intervals u.intervals c.found_file.ensures.looks.intervals (state c.may_be_named.new.core) c.in-Err-may_be_named.halt c.in-Err-may_be_named.ensures.fails.cause))

pub returns-in-Ok-true-clause-client : goal.returns-in-Ok-true-clause-client
returns-in-Ok-true-clause-client g c = subst (λ (o : Option Attributes). IfSome o (λ _. 16 ≤ c.args.id)) c.in-Ok-Some.field-0-is c.in-Ok-Some.ensures.client

-- ---- Its size is the file map's.

pub returns-in-Ok-true-clause-size : goal.returns-in-Ok-true-clause-size
returns-in-Ok-true-clause-size g c = λ m named has map are.
    subst (λ (o : Option Attributes). IfSome o (λ a. IsSize named c.args.id a.pages)) c.in-Ok-Some.field-0-is (c.in-Ok-Some.ensures.size m named has map are)
