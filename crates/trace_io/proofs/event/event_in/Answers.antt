use Rattle.std.proofs.Common.{sym, ap, ◌∙◌}
use Rattle.trace_io.specs.Events.{event_at}
use Rattle.trace_io.proofs.EventLemmas.{asks_a_call, asks_an_end, asks_no_call, event_of-short}
use Rattle.trace_io.proofs.event.event_in.Goals as goal

pub returns-in_default : goal.returns-in_default
returns-in_default c = c.other_event.ensures ∙ ap event_at (sym (event_of-short c.args.line.now c.requires))

pub returns-in_default-call_of : goal.returns-in_default-call_of
returns-in_default-call_of c =
    asks_no_call c.args.line.now c.in-Some.rest.now c.in-Some.client c.requires c.in-Some.ensures.some (sym c.call_of.ensures ∙ c.in_default-call_of.is)

pub returns-then-ends_session : goal.returns-then-ends_session
returns-then-ends_session c =
    asks_an_end c.args.line.now c.in-Some.rest.now c.in-Some.client c.requires c.in-Some.ensures.some c.in-Some-call_of.call (sym c.call_of.ensures ∙ c.in-Some-call_of.is)
    (sym c.ends_session.ensures ∙ c.if-ends_session.true)

pub returns : goal.returns
returns c =
    asks_a_call c.args.line.now c.in-Some.rest.now c.in-Some.client c.requires c.in-Some.ensures.some c.in-Some-call_of.call (sym c.call_of.ensures ∙ c.in-Some-call_of.is)
    (sym c.ends_session.ensures ∙ c.if-ends_session.false)
