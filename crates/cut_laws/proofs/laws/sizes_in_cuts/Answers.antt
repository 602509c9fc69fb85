use Rattle.cut_laws.proofs.WholeLemmas as whole
use Rattle.cut_laws.proofs.ResizeLemmas as resize
use Rattle.cut_laws.proofs.SizeLemmas as sizes
use Rattle.cut_laws.proofs.laws.sizes_in_cuts.Goals as goal

pub returns-clause-size : goal.returns-clause-size
returns-clause-size c with_temporary = sizes.size_of_one_crash_state with_temporary

pub returns-clause-pages : goal.returns-clause-pages
returns-clause-pages c = sizes.pages_are_own

pub returns-clause-resized : goal.returns-clause-resized
returns-clause-resized c with_temporary = resize.resized_has_size_between with_temporary

pub returns-clause-whole : goal.returns-clause-whole
returns-clause-whole c with_temporary = whole.right_is_whole with_temporary
