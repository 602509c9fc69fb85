use Rattle.std.proofs.Common.{◌∙◌}
use Rattle.volume_pair.proofs.StartLemmas.{bare_slots}
use Rattle.volume_pair.proofs.starting.frames_over.Goals as goal

pub returns-in-Ok-clause-bare : goal.returns-in-Ok-clause-bare
returns-in-Ok-clause-bare g c = bare_slots c.args.frames _ ((λ i. (c.over-in-Ok.ensures.swapper i).pool) ∙ c.in-Ok.ensures.empty)
