use Rattle.std.proofs.Common.{Err, refl, sym, ap, ◌∙◌, subst}
use Rattle.labelled_disk.specs.declared.layout.RootFault.{RootFault}
use Rattle.labelled_disk.specs.Calls.{Rose}
use Rattle.pilot_top.specs.Last.{last_line, Puts}
use Rattle.pilot_top.specs.declared.last.Cause.TheVariants as cause
use Rattle.pilot_top.proofs.MakingLemmas.{bad_count, made}
use Rattle.pilot_top.proofs.making.make_volume.Goals as goal

pub returns-in-Ok-put-clause-made : goal.returns-in-Ok-put-clause-made
returns-in-Ok-put-clause-made g c = λ ends.
    made c.args.serial c.args.counter c.requires.serial c.ranges.serial.fits c.requires.counter c.ranges.counter.fits _ _ c.format.result c.in-Ok.layout c.in-Ok.is c.format.ensures.count.refused
    (g.met.D.Disk.whole c.args.disk.now) c.in-Ok.ensures.contents c.in-Ok.ensures.made c.in-Ok.ensures.synced

pub returns-in-Err-put-clause-made : goal.returns-in-Err-put-clause-made
returns-in-Err-put-clause-made g c = λ ends.
    made c.args.serial c.args.counter c.requires.serial c.ranges.serial.fits c.requires.counter c.ranges.counter.fits _ _ c.format.result c.in-Ok.layout c.in-Ok.is c.format.ensures.count.refused
    (g.met.D.Disk.whole c.args.disk.now) c.in-Ok.ensures.contents c.in-Ok.ensures.made c.in-Ok.ensures.synced

-- no volume has so many sectors
pub returns-in_default-clause-refuses : goal.returns-in_default-clause-refuses
returns-in_default-clause-refuses g c =
    let bad = bad_count _ c.format.result c.in-Err.why c.in-Err.is c.in_default.not-Disk c.format.ensures.err c.format.ensures.count.bad_count in
    record {
      not_opened = (λ is. bad.0, λ none. refl);
      line = λ is.
          subst (λ (why : RootFault). Puts (Rose (g.K.Sink.faults c.args.sink.now) (g.K.Sink.faults c.put_last-in_default.new.sink)) (g.K.Sink.took c.args.sink.now) (g.K.Sink.took c.put_last-in_default.new.sink) (last_line (cause.Root why)))
          bad.1 c.put_last-in_default.ensures.put;
      unwritten = λ is. c.format.ensures.count.unwritten bad.0;
    }

-- the disk failed
pub returns-in-Disk-clause-refuses : goal.returns-in-Disk-clause-refuses
returns-in-Disk-clause-refuses g c = record {
  not_opened = (λ is. absurd (cc is), λ none. absurd (let e = sym (c.in-Err.is ∙ ap (λ (why : RootFault). Err why) c.in-Disk.is) ∙ c.format.ensures.count.refused none in cc e));
  line = λ is. absurd (cc is);
  unwritten = λ is. absurd (cc is);
}
