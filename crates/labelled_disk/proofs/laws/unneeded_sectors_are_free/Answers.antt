use Rattle.labelled_disk.proofs.LowestLemmas as laws
use Rattle.labelled_disk.proofs.laws.unneeded_sectors_are_free.Goals as goal

pub returns : goal.returns
returns c with_temporary = record {
  freed = laws.unneeded_freed with_temporary;
  whole = laws.needed_are_whole with_temporary;
  empty = laws.empty_has_none with_temporary;
  needed = laws.right_are_needed with_temporary;
}
