use Rattle.cut_laws.proofs.StayLemmas as stay
use Rattle.cut_laws.proofs.laws.others_stay_in_cuts.Goals as goal

pub returns-clause-stays : goal.returns-clause-stays
returns-clause-stays c with_temporary = stay.others_stay_in_cuts with_temporary

pub returns-clause-none : goal.returns-clause-none
returns-clause-none c with_temporary = stay.none_appears with_temporary

pub returns-clause-pages : goal.returns-clause-pages
returns-clause-pages c with_temporary = stay.pages_of_file with_temporary
