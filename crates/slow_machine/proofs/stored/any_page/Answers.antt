use Rattle.labelled_disk.specs.File.{any_page}
use Rattle.std.proofs.Common.{rules}
use Rattle.slow_machine.proofs.stored.any_page.Goals as goal

pub returns : goal.returns
unfolding any_page
returns c = search rules
