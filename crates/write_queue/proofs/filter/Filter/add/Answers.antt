use Rattle.std.proofs.Common.{rules}
use Rattle.write_queue.proofs.FilterLemmas.{adds_one}
use Rattle.write_queue.proofs.filter.Filter.add.Goals as goal

pub returns : goal.returns
returns c = adds_one c.args.sector c.args.self.now.taken (search rules)
