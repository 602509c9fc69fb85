use Rattle.file_map.proofs.Empty.{zero_map}
use Rattle.file_map.proofs.map.FileMap.over.Goals as goal

pub returns-clause-empty : goal.returns-clause-empty
returns-clause-empty g c = λ b revealed zeros. zero_map c.args.sectors _ _ b c.requires.count c.requires.pages revealed zeros
