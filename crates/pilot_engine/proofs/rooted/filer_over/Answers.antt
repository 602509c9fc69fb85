use Rattle.std.proofs.Common.{◌∙◌, rules}
use Rattle.pilot_engine.proofs.StartFaults.{bare_slots}
use Rattle.pilot_engine.proofs.rooted.filer_over.Goals as goal

pub returns-in-Ok-over-clause-blank : goal.returns-in-Ok-over-clause-blank
returns-in-Ok-over-clause-blank g c = record {
  same_layout = (search rules);
  size = (search rules);
  bare = bare_slots c.args.frames _ ((λ i. (c.over-in-Ok-over.ensures.swapper i).pool) ∙ c.in-Ok-over.ensures.empty);
  no_runs = (search rules);
}
