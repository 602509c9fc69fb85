use Rattle.labelled_disk.specs.File.{zero_page}
use Rattle.std.proofs.Common.{rules}
use Rattle.slow_machine.proofs.stored.zero_page.Goals as goal

pub returns : goal.returns
unfolding zero_page
returns c = search rules
