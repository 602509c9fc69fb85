use Rattle.std.proofs.Common.{◌∙◌, ap, Err}
use Rattle.volume_convert.specs.declared.fault.ConvertFault.{ConvertFault}
use Rattle.pilot_top.proofs.ConvertingLemmas.{converted_done, converted_unheard, converted_failed, converted_refused, converted_unfit, converted_without, reason_refused, reason_unfit, reason_without}
use Rattle.pilot_top.proofs.converting.convert_volume.Goals as goal

pub returns-in-Ok-put-clause-converts : goal.returns-in-Ok-put-clause-converts
returns-in-Ok-put-clause-converts g c left faults =
    converted_done c.convert.result (g.D.Disk.state c.args.disk.now) (g.D.Disk.state c.convert.new.disk) c.convert.ensures (g.met.D.Disk.whole c.args.disk.now) left faults _ _ _ _ c.in-Ok.found c.in-Ok.is c.deref.result.now c.conversion_line.result.items c.deref.ensures.0 c.conversion_line.ensures c.in-Ok-put.ensures.ok

pub returns-in-Err-put-clause-converts : goal.returns-in-Err-put-clause-converts
returns-in-Err-put-clause-converts g c left faults =
    let put = c.in-Err-put.ensures.err in
    converted_unheard c.convert.result (g.D.Disk.state c.args.disk.now) (g.D.Disk.state c.convert.new.disk) c.convert.ensures (g.met.D.Disk.whole c.args.disk.now) left faults _ _ _ _ c.in-Ok.found c.in-Ok.is c.deref.result.now c.conversion_line.result.items put.0 c.deref.ensures.0 c.conversion_line.ensures put.1 put.2 c.in-Err-put.ensures.cause.cause

pub returns-in-Root-clause-converts : goal.returns-in-Root-clause-converts
returns-in-Root-clause-converts g c left faults =
    converted_refused c.convert.result (g.D.Disk.state c.args.disk.now) (g.D.Disk.state c.convert.new.disk) c.convert.ensures (g.met.D.Disk.whole c.args.disk.now) left faults _ _ _ _ c.in-Root.why (c.in-Err.is ∙ ap (λ (x : ConvertFault). Err x) c.in-Root.is) c.put_last.ensures.put

pub returns-in-Root-clause-cause : goal.returns-in-Root-clause-cause
returns-in-Root-clause-cause g c words means left faults =
    reason_refused c.convert.result (g.D.Disk.state c.args.disk.now) (g.D.Disk.state c.convert.new.disk) c.convert.ensures (g.met.D.Disk.whole c.args.disk.now) left faults _ _ _ _ c.in-Root.why (c.in-Err.is ∙ ap (λ (x : ConvertFault). Err x) c.in-Root.is) words c.put_last.ensures.put

pub returns-in-Unfit-clause-converts : goal.returns-in-Unfit-clause-converts
returns-in-Unfit-clause-converts g c left faults =
    converted_unfit c.convert.result (g.D.Disk.state c.args.disk.now) (g.D.Disk.state c.convert.new.disk) c.convert.ensures (g.met.D.Disk.whole c.args.disk.now) left faults _ _ _ _ c.in-Unfit.wanted c.in-Unfit.capacity (c.in-Err.is ∙ ap (λ (x : ConvertFault). Err x) c.in-Unfit.is) c.put_last-in-Unfit.ensures.put

pub returns-in-Unfit-clause-cause : goal.returns-in-Unfit-clause-cause
returns-in-Unfit-clause-cause g c words means left faults =
    reason_unfit c.convert.result (g.D.Disk.state c.args.disk.now) (g.D.Disk.state c.convert.new.disk) c.convert.ensures (g.met.D.Disk.whole c.args.disk.now) left faults _ _ _ _ c.in-Unfit.wanted c.in-Unfit.capacity (c.in-Err.is ∙ ap (λ (x : ConvertFault). Err x) c.in-Unfit.is) words means c.put_last-in-Unfit.ensures.put

pub returns-in-Disk-clause-converts : goal.returns-in-Disk-clause-converts
returns-in-Disk-clause-converts g c left faults =
    converted_failed c.convert.result (g.D.Disk.state c.args.disk.now) (g.D.Disk.state c.convert.new.disk) c.convert.ensures (g.met.D.Disk.whole c.args.disk.now) left faults _ _ _ _ (c.in-Err.is ∙ ap (λ (x : ConvertFault). Err x) c.in-Disk.is) c.put_last-in-Disk.ensures.put

pub returns-in-NoMemory-clause-converts : goal.returns-in-NoMemory-clause-converts
returns-in-NoMemory-clause-converts g c left faults =
    converted_without c.convert.result (g.D.Disk.state c.args.disk.now) (g.D.Disk.state c.convert.new.disk) c.convert.ensures (g.met.D.Disk.whole c.args.disk.now) left faults _ _ _ _ (c.in-Err.is ∙ ap (λ (x : ConvertFault). Err x) c.in-NoMemory.is)

pub returns-in-NoMemory-clause-cause : goal.returns-in-NoMemory-clause-cause
returns-in-NoMemory-clause-cause g c words means left faults =
    reason_without c.convert.result (g.D.Disk.state c.args.disk.now) (g.D.Disk.state c.convert.new.disk) c.convert.ensures (g.met.D.Disk.whole c.args.disk.now) left faults _ _ _ _ (c.in-Err.is ∙ ap (λ (x : ConvertFault). Err x) c.in-NoMemory.is) words means
