use Rattle.std.proofs.Common.{◌∷◌, [], ◌++◌, ◌∙◌, ap}
use Rattle.std.proofs.lemmas.List.{replicate_more}
use Rattle.labelled_disk.specs.Sectors.{zero_sector}
use Rattle.labelled_disk.proofs.memory.zero_sectors.Goals as goal

pub loop-sector-preserved : goal.loop-sector-preserved
loop-sector-preserved g c = c.in_ok-push.ensures.items ∙ ap (λ l. l ++ zero_sector ∷ []) c.loop-sector.invariant ∙ replicate_more c.loop-sector._sector zero_sector
