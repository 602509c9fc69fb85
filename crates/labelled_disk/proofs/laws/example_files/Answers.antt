use Rattle.labelled_disk.proofs.ExampleLemmas as laws
use Rattle.labelled_disk.proofs.laws.example_files.Goals as goal

pub returns : goal.returns
returns c = laws.example_files
