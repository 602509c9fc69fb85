use Rattle.std.proofs.Common.{◌∙◌}
use Rattle.volume_view.proofs.LevelLemmas.{first_key_is}
use Rattle.volume_view.proofs.leaves.first_key.Goals as goal

pub returns : goal.returns
returns c = c.copy_from_slice.ensures.after ∙ first_key_is c.args.page.now
