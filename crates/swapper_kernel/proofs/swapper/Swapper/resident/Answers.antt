use Rattle.swapper_kernel.proofs.PlacedLemmas.{map_found}
use Rattle.swapper_kernel.proofs.swapper.Swapper.resident.Goals as goal

pub returns-clause-there : goal.returns-clause-there
returns-clause-there g c =
    map_found c.args.which c.args.self.now.layout c.args.page c.args.self.now.pool c.find.result c.args.self.now.placed (rw c.id.ensures at c.find.ensures.found)
