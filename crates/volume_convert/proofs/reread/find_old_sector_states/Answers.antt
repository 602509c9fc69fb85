use Rattle.std.proofs.Common.{◌∙◌, ap, map}
use Rattle.old_files.specs.Reread.{all_reread, label_before}
use Rattle.volume_convert.proofs.LoopLemmas.{if_ok_then, reread_labels_are}
use Rattle.volume_convert.proofs.reread.find_old_sector_states.Goals as goal

pub returns-clause-sector_states : goal.returns-clause-sector_states
returns-clause-sector_states g c = if_ok_then c.find_sector_states.result c.find_sector_states.ensures.sector_states (λ sector_states are d labels.
    are (all_reread d) (c.deref.ensures.value ∙ c.in_ok-reread.ensures ∙ ap (map label_before) labels ∙ reread_labels_are d))
