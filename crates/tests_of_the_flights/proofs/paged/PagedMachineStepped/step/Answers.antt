use Rattle.std.proofs.Common.{◌∙◌}
use Rattle.tests_of_the_flights.proofs.PagedLemmas.{answers}
use Rattle.tests_of_the_flights.proofs.paged.PagedMachineStepped.step.Goals as goal

pub returns-clause-carried : goal.returns-clause-carried
returns-clause-carried g c = λ m stands.
    answers m c.args.self.now.machine c.bring_next-2.new.self.machine c.args.call.now c.in_ok-reply.reply stands c.in_ok-reply.ensures.ok.0
    (c.bring_next-2.ensures.0 ∙ c.bring_next.ensures.0 ∙ c.in_ok-reply.ensures.ok.1)
