use Rattle.labelled_disk.proofs.WriteLemmas as laws
use Rattle.labelled_disk.proofs.laws.files_are_looked_up.Goals as goal

pub returns : goal.returns
returns c with_temporary d = record {
  rise = laws.files_on_rise with_temporary 0 0 d;
  each = laws.look_up with_temporary 0 0 d;
}
