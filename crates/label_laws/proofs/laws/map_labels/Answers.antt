use Rattle.label_laws.proofs.MapLemmas as laws
use Rattle.label_laws.proofs.laws.map_labels.Goals as goal

pub returns-clause-sectors : goal.returns-clause-sectors
returns-clause-sectors c n d = laws.mapped_are_maps n d

pub returns-clause-written : goal.returns-clause-written
returns-clause-written c with_temporary = laws.map_relabelled with_temporary

pub returns-clause-one_more : goal.returns-clause-one_more
returns-clause-one_more c = laws.mapped_one_more
