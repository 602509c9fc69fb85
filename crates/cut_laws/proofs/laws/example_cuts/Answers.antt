use Rattle.cut_laws.proofs.ExampleLemmas as example
use Rattle.cut_laws.proofs.laws.example_cuts.Goals as goal

pub returns : goal.returns
returns c = example.example_cuts
