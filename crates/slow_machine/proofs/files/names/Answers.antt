use Rattle.std.proofs.Common.{length, sym}
use Rattle.std.proofs.lemmas.Bool.{ltb-true}
use Rattle.slow_machine.proofs.files.names.Goals as goal

pub returns-in-Some-clause-bound : goal.returns-in-Some-clause-bound
returns-in-Some-clause-bound g c = λ is. ltb-true c.args.place (length c.args.files.now) (sym c.in-Some.ensures.lookup.0)
