use Rattle.std.proofs.Common.{◌+◌, refl, ◌∙◌, arith}
use Rattle.label_laws.proofs.PermittedLemmas as laws
use Rattle.label_laws.proofs.callers.put_pages.Goals as goal

pub loop-i-init : goal.loop-i-init
loop-i-init g c = record {
  permitted = laws.later_same (g.D.Disk.state c.args.disk.now) (g.D.Disk.state c.args.disk.now) (record { contents = refl; writes = refl });
  sectors = refl;
}

pub write_data-requires : goal.write_data-requires
write_data-requires g c = omega (arith, c.loop-i-test.true, c.requires.exist, c.loop-i.invariant.sectors)

pub returns-in_err-write_data : goal.returns-in_err-write_data
returns-in_err-write_data g c = record {
  permitted = laws.later_then (g.D.Disk.state c.args.disk.now) (g.D.Disk.state c.loop-i.disk) (g.D.Disk.state c.write_data.new.self) c.loop-i.invariant.permitted
      (laws.later_writes_data (g.D.Disk.state c.loop-i.disk) (g.D.Disk.state c.write_data.new.self) (c.args.first + c.loop-i.i) (record { id = c.args.id; page = c.loop-i.i }) _ c.write_data.result
      (omega (arith, c.requires.above)) c.write_data.ensures);
}

pub loop-i-preserved : goal.loop-i-preserved
loop-i-preserved g c = record {
  permitted = laws.later_then (g.D.Disk.state c.args.disk.now) (g.D.Disk.state c.loop-i.disk) (g.D.Disk.state c.write_data.new.self) c.loop-i.invariant.permitted
      (laws.later_writes_data (g.D.Disk.state c.loop-i.disk) (g.D.Disk.state c.write_data.new.self) (c.args.first + c.loop-i.i) (record { id = c.args.id; page = c.loop-i.i }) _ c.write_data.result
      (omega (arith, c.requires.above)) c.write_data.ensures);
  sectors = c.write_data.ensures.moves.sectors ∙ c.loop-i.invariant.sectors;
}

pub returns : goal.returns
returns g c = record { permitted = c.loop-i.invariant.permitted }
