use Rattle.volume_root.proofs.NewSectors.{in_allocation, same_sector}
use Rattle.volume_root.proofs.formatting.new_sector.Goals as goal

pub returns-then-sector-layout : goal.returns-then-sector-layout
returns-then-sector-layout c = same_sector _ _ _ _ _ c.of_page.ensures c.used_page.ensures (in_allocation c.args.layout.now c.args.sector c.if-sector-eq0.false c.if-sector-layout.true)
