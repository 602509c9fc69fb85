use Rattle.std.proofs.Common.{◌≤◌, arith}
use Rattle.std.proofs.lemmas.Bool.Decides.{nat_tests}
use Rattle.volume_root.proofs.NewSectors.{at_root, in_data}
use Rattle.volume_root.proofs.formatting.is_bare.Goals as goal

pub returns-then-sector-eq0 : goal.returns-then-sector-eq0
returns-then-sector-eq0 c = λ is. at_root c.args.layout.now c.args.sector c.if-sector-eq0.true

pub returns-then-sector-layout : goal.returns-then-sector-layout
returns-then-sector-layout c = λ is.
    let after : c.args.layout.now.first ≤ c.args.sector = grind (arith, nat_tests) in
    in_data c.args.layout.now c.args.sector c.if-sector-layout.true after
