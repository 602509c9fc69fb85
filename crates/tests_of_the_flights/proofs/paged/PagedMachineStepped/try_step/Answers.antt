use Rattle.std.proofs.Common.{sym, ◌∙◌}
use Rattle.tests_of_the_flights.proofs.PagedLemmas.{replies, waits}
use Rattle.tests_of_the_flights.proofs.paged.PagedMachineStepped.try_step.Goals as goal

pub returns-in-Some-clause-tried : goal.returns-in-Some-clause-tried
returns-in-Some-clause-tried g c = λ m stands.
    waits m c.args.self.now.machine c.args.self.now.resident.items c.args.call.now c.in-Some.page stands (sym c.absent.ensures ∙ c.in-Some.is)

pub returns-clause-tried : goal.returns-clause-tried
returns-clause-tried g c = λ m stands.
    replies m c.args.self.now.machine c.carry_out.new.self.machine c.args.self.now.resident.items c.carry_out.new.self.resident.items c.args.call.now c.in_ok-reply.reply
    stands (sym c.absent.ensures ∙ c.in_default.is) c.in_ok-reply.ensures.ok.0 c.in_ok-reply.ensures.ok.1 c.in_ok-reply.ensures.same
