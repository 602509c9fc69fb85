use Rattle.cut_laws.proofs.ShapeLemmas as shape
use Rattle.cut_laws.proofs.laws.shapes_stay_in_cuts.Goals as goal

pub returns-clause-no_label : goal.returns-clause-no_label
returns-clause-no_label c with_temporary = shape.no_label_written with_temporary

pub returns-clause-marks : goal.returns-clause-marks
returns-clause-marks c with_temporary = shape.leader_written with_temporary

pub returns-clause-leaves : goal.returns-clause-leaves
returns-clause-leaves c with_temporary = shape.leader_freed with_temporary

pub returns-clause-all : goal.returns-clause-all
returns-clause-all c with_temporary = shape.shapes_of_one_crash_state with_temporary
