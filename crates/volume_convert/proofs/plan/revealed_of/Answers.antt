use Rattle.labelled_disk.specs.Layout.{first_data}
use Rattle.old_files.specs.Reread.{all_reread}
use Rattle.std.proofs.Common.{length}
use Rattle.volume_convert.proofs.PlannedLemmas.{revealed_by}
use Rattle.volume_convert.proofs.plan.revealed_of.Goals as goal

pub returns-clause-revealed : goal.returns-clause-revealed
returns-clause-revealed c = λ d small are.
    let tallies = c.tally_sectors-tally.ensures.tallies (all_reread d) are in
    revealed_by d small c.args.sector_states.now are c.tally_sectors-tally.result.files c.tally_sectors-tally.result.pages c.tally_sectors-tally.result.freed tallies.files tallies.pages (c.tally_sectors-tally.ensures.tally.freed (first_data (length d)))
