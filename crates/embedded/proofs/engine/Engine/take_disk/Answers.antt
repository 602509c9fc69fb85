use Rattle.std.proofs.Common.{◌∙◌, sym, refl}
use Rattle.embedded.proofs.TakeLemmas.{misses_at}
use Rattle.embedded.proofs.engine.Engine.take_disk.Goals as goal

pub returns-in-Nothing-clause-why : goal.returns-in-Nothing-clause-why
returns-in-Nothing-clause-why g c = misses_at _ _ _ (sym c.in-Nothing.is ∙ c.replace.ensures.value) refl

pub returns-in-Session-clause-why : goal.returns-in-Session-clause-why
returns-in-Session-clause-why g c = misses_at _ _ _ (sym c.in-Session.is ∙ c.replace.ensures.value) refl
