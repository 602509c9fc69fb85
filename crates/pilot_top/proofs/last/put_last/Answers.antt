use Rattle.std.proofs.Common.{◌∙◌, ap, sym}
use Rattle.pilot_top.specs.Last.{last_line}
use Rattle.pilot_top.proofs.PutLemmas.{puts}
use Rattle.pilot_top.proofs.last.put_last.Goals as goal

pub returns-in-Root-clause-put : goal.returns-in-Root-clause-put
returns-in-Root-clause-put g c =
    let put = c.put-in-Root.ensures in
    puts c.put-in-Root.result _ _ _ c.deref-in-Root.result.now (last_line c.args.cause) (c.deref-in-Root.ensures.0 ∙ c.root_line.ensures ∙ ap last_line (sym c.in-Root.is)) put.ok put.err put.cause.cause

pub returns-in-Damaged-clause-put : goal.returns-in-Damaged-clause-put
returns-in-Damaged-clause-put g c =
    let put = c.put-in-Damaged.ensures in
    puts c.put-in-Damaged.result _ _ _ c.deref.result.now (last_line c.args.cause) (c.deref.ensures.0 ∙ c.damage_line.ensures ∙ ap last_line (sym c.in-Damaged.is)) put.ok put.err put.cause.cause

pub returns-in-Unfit-clause-put : goal.returns-in-Unfit-clause-put
returns-in-Unfit-clause-put g c =
    let put = c.put-in-Unfit.ensures in
    puts c.put-in-Unfit.result _ _ _ c.deref-in-Unfit.result.now (last_line c.args.cause) (c.deref-in-Unfit.ensures.0 ∙ c.unfit_line.ensures ∙ ap last_line (sym c.in-Unfit.is)) put.ok put.err put.cause.cause

pub returns-in-Other-clause-put : goal.returns-in-Other-clause-put
returns-in-Other-clause-put g c =
    let put = c.put-in-Other.ensures in
    puts c.put-in-Other.result _ _ _ c.deref-in-Other.result.now (last_line c.args.cause) (c.deref-in-Other.ensures.0 ∙ c.other_line.ensures ∙ ap last_line (sym c.in-Other.is)) put.ok put.err put.cause.cause
