use Rattle.std.proofs.Common.{◌∙◌, sym, Err}
use Rattle.space_calls.proofs.BareLemmas.{bare_core}
use Rattle.space_calls.proofs.RunLemmas.{knows}
use Rattle.space_calls.proofs.LookLemmas.{looks_itself, looks_reached}
use Rattle.space_calls.proofs.OutcomeLemmas.{halts_core, halts_wider}
use Rattle.space_calls.proofs.bare.shows_nothing.Goals as goal
use Rattle.filer_kernel.specs.View.{accepted}

pub returns-in-Ok-Some-clause-answer : goal.returns-in-Ok-Some-clause-answer
returns-in-Ok-Some-clause-answer g c = λ volume m r.
    rw c.is_mapped.ensures (bare_core c.args.core.now (accepted c.args.core.now.filer) c.requires.size volume m r c.in-Ok-Some.interval c.in-Ok-Some.field-0 c.in-Ok-Some.field-0-is c.in-Ok-Some.ensures.comes.interval
    (sym c.interval_count.ensures ∙ c.if-interval_count-ne1.false))

pub returns-in-Err-clause-answer : goal.returns-in-Err-clause-answer
returns-in-Err-clause-answer g c = λ volume m r. c.in-Err.ensures.fails.sound _ _ m.spaces (knows c.args.core.now (accepted c.args.core.now.filer) c.requires.size volume m r)

pub returns-in-Ok-Some-clause-looks : goal.returns-in-Ok-Some-clause-looks
returns-in-Ok-Some-clause-looks g c = looks_reached c.requires.size c.describe.ensures.brings.reaches c.describe.ensures.brings.came c.describe.ensures.stays.intervals c.describe.ensures.stays.same c.describe.ensures.stays.sees

pub returns-in-Ok-None-clause-looks : goal.returns-in-Ok-None-clause-looks
returns-in-Ok-None-clause-looks g c = looks_reached c.requires.size c.describe.ensures.brings.reaches c.describe.ensures.brings.came c.describe.ensures.stays.intervals c.describe.ensures.stays.same c.describe.ensures.stays.sees

pub returns-in-Err-clause-looks : goal.returns-in-Err-clause-looks
returns-in-Err-clause-looks g c = looks_reached c.requires.size c.describe.ensures.brings.reaches c.describe.ensures.brings.came c.describe.ensures.stays.intervals c.describe.ensures.stays.same c.describe.ensures.stays.sees

pub returns-then-interval_count-ne1-clause-looks : goal.returns-then-interval_count-ne1-clause-looks
returns-then-interval_count-ne1-clause-looks g c = looks_itself c.args.core.now

pub returns-in-Err-clause-fails : goal.returns-in-Err-clause-fails
returns-in-Err-clause-fails g c = halts_wider (halts_core c.requires.size c.describe.ensures.brings.reaches.goes.makes (Err c.in-Err.halt) c.in-Err.ensures.fails) c.in-Err.ensures.fails.cause
