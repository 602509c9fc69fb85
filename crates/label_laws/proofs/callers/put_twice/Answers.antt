use Rattle.label_laws.proofs.PermittedLemmas as laws
use Rattle.label_laws.proofs.callers.put_twice.Goals as goal

pub returns-in_err-write_data : goal.returns-in_err-write_data
returns-in_err-write_data g c = record {
  permitted = laws.later_writes_data (g.D.Disk.state c.args.disk.now) (g.D.Disk.state c.write_data.new.self) c.args.sector c.args.wanted c.args.page.now c.write_data.result c.requires.above c.write_data.ensures;
}

pub returns : goal.returns
returns g c = record {
  permitted = laws.later_then (g.D.Disk.state c.args.disk.now) (g.D.Disk.state c.write_data.new.self) (g.D.Disk.state c.write_data-2.new.self)
      (laws.later_writes_data (g.D.Disk.state c.args.disk.now) (g.D.Disk.state c.write_data.new.self) c.args.sector c.args.wanted c.args.page.now c.write_data.result c.requires.above c.write_data.ensures)
      (laws.later_writes_data (g.D.Disk.state c.write_data.new.self) (g.D.Disk.state c.write_data-2.new.self) c.args.sector c.args.wanted c.args.page.now c.write_data-2.result c.requires.above c.write_data-2.ensures);
}
