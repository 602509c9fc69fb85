use Rattle.convert_laws.proofs.ExampleLemmas as laws
use Rattle.convert_laws.proofs.laws.example_old_files.Goals as goal

pub returns : goal.returns
returns c = laws.example_old_files
