use Rattle.space_calls.proofs.NameLemmas.{seen_bare, seen_past}
use Rattle.space_calls.proofs.OutcomeLemmas.{halts_wider}
use Rattle.space_calls.proofs.naming.may_be_named.Goals as goal

pub returns-in-Ok-Some-clause-answer : goal.returns-in-Ok-Some-clause-answer
returns-in-Ok-Some-clause-answer g c = λ volume m r.
    seen_past m c.args.id _ c.in-Ok-Some.shown c.in-Ok-Some.field-0 r.session.stands.is.by.machine c.in-Ok-Some.field-0-is (c.in-Ok-Some.ensures.answer volume m r)

pub returns-in-Ok-None-clause-answer : goal.returns-in-Ok-None-clause-answer
returns-in-Ok-None-clause-answer g c = λ volume m r. seen_bare m c.args.id c.in-Ok-None.field-0 c.in-Ok-None.field-0-is (c.in-Ok-None.ensures.answer volume m r)

pub returns-in-Err-clause-fails : goal.returns-in-Err-clause-fails
returns-in-Err-clause-fails g c = halts_wider c.in-Err.ensures.fails c.in-Err.ensures.fails.cause
