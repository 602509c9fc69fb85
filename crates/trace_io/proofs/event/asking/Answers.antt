use Rattle.std.proofs.Common.{refl}
use Rattle.std.specs.Prelude.{codes}
use Rattle.trace_io.specs.Grammar.{words_of}
use Rattle.trace_io.proofs.event.asking.Goals as goal

pub returns-in-Some-plain_client-clause-some : goal.returns-in-Some-plain_client-clause-some
returns-in-Some-plain_client-clause-some c = (codes "on", words_of c.in-Some.text.now, c.in-Some.ensures, refl, c.in-Some-plain_client.ensures)
