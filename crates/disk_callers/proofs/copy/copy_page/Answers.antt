use Rattle.disk_callers.proofs.CopyLemmas.{copied_if_ok, whole_or_absent}
use Rattle.disk_callers.proofs.copy.copy_page.Goals as goal

pub returns-clause-copied : goal.returns-clause-copied
returns-clause-copied g c =
    copied_if_ok (g.D.Disk.state c.args.disk.now) (g.D.Disk.state c.read.new.self) (g.D.Disk.state c.write_data.new.self) c.args.from c.args.to c.args.wanted
    c.in_ok-read.field-0 c.read.new.page c.in_ok-read.ensures.found c.in_ok-read.ensures.same c.write_data.result c.write_data.ensures.written c.write_data.ensures.named

pub returns-clause-whole_or_absent : goal.returns-clause-whole_or_absent
returns-clause-whole_or_absent g c =
    whole_or_absent (g.D.Disk.state c.args.disk.now) (g.D.Disk.state c.read.new.self) (g.D.Disk.state c.write_data.new.self) c.args.from c.args.to c.args.wanted
    c.in_ok-read.field-0 c.read.new.page c.in_ok-read.ensures.found c.in_ok-read.ensures.same c.write_data.result c.write_data.ensures.whole_or_absent
