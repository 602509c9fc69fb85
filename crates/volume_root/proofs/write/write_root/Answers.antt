use Rattle.std.proofs.Common.{◌⊎◌, List, ℕ, subst}
use Rattle.labelled_disk.specs.declared.disk.DiskWrite.TheVariants.{Whole}
use Rattle.labelled_disk.specs.Calls.{RevealsSame, RevealsWrite}
use Rattle.labelled_disk.specs.Label.{root_label}
use Rattle.volume_root.proofs.write.write_root.Goals as goal

pub returns-in-Ok-clause-ok : goal.returns-in-Ok-clause-ok
returns-in-Ok-clause-ok g c =
    subst (λ (page : List ℕ). RevealsWrite (Whole 0 root_label page) (g.D.Disk.state c.args.disk.now) (g.D.Disk.state c.write.new.self)) c.page_of.ensures c.in-Ok.ensures.written

pub returns-in-Err-clause-err : goal.returns-in-Err-clause-err
returns-in-Err-clause-err g c =
    subst (λ (page : List ℕ). RevealsSame (g.D.Disk.state c.args.disk.now) (g.D.Disk.state c.write.new.self) ⊎ RevealsWrite (Whole 0 root_label page) (g.D.Disk.state c.args.disk.now) (g.D.Disk.state c.write.new.self)) c.page_of.ensures c.in-Err.ensures.whole_or_absent
