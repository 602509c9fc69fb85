use Rattle.std.proofs.Common.{◌∙◌, ap, refl, subst, sym, Ok, Err, Result}
use Rattle.scavenger.specs.declared.fault.ScavengeFault.{ScavengeFault}
use Rattle.scavenger.specs.declared.report.Report.{Report}
use Rattle.embedded.specs.declared.code.Code.{Code}
use Rattle.embedded.specs.Made.{Restores}
use Rattle.embedded.proofs.MadeLemmas.{not_scavenged, scavenges}
use Rattle.embedded.specs.declared.held.Held.TheVariants as held
use Rattle.embedded.proofs.TakeLemmas.{held_again}
use Rattle.embedded.proofs.engine.Engine.scavenge.Goals as goal

pub returns-in-Err : goal.returns-in-Err
returns-in-Err g c = not_scavenged c.args.self.now c.take_disk.new.self c.in-Err.code c.in-Err.ensures.why c.in-Err.ensures.same

pub returns-in-Ok-restored : goal.returns-in-Ok-restored
returns-in-Ok-restored g c =
    scavenges c.args.self.now _ _ c.in-Ok.disk c.restored-restored.new.disk c.in-Ok.ensures.disk
    (held_again c.take_disk.new.self c.args.self.now (held.Disk c.restored-restored.new.disk) c.in-Ok.ensures.taken)
    (record {
      outcome = Ok c.in-Ok-restored.report;
      answered = refl;
      left = (
        g.D.Disk.state c.restored-restored.new.disk,
        refl,
        subst (λ (r : Result (Report g.row.A.Denot) ScavengeFault). Restores (g.D.Disk.state c.in-Ok.disk) r (g.D.Disk.state c.restored-restored.new.disk)) c.in-Ok-restored.is c.restored-restored.ensures,
      );
    })

pub returns-in-Err-restored : goal.returns-in-Err-restored
returns-in-Err-restored g c =
    scavenges c.args.self.now _ _ c.in-Ok.disk c.restored-restored.new.disk c.in-Ok.ensures.disk
    (held_again c.take_disk.new.self c.args.self.now (held.Disk c.restored-restored.new.disk) c.in-Ok.ensures.taken)
    (record {
      outcome = Err c.in-Err-restored.why;
      answered = ap (λ (x : Code). Err x) c.restoration_code.ensures;
      left = (
        g.D.Disk.state c.restored-restored.new.disk,
        refl,
        subst (λ (r : Result (Report g.row.A.Denot) ScavengeFault). Restores (g.D.Disk.state c.in-Ok.disk) r (g.D.Disk.state c.restored-restored.new.disk)) c.in-Err-restored.is c.restored-restored.ensures,
      );
    })
