use Rattle.page_tree.proofs.tree.PageTree.begin.Goals as goal

pub returns-in-Err-clause-cause : goal.returns-in-Err-clause-cause
returns-in-Err-clause-cause g c = (c.begin.new.mem, c.begin.ensures.works.kept, c.in-Err.ensures.memory, c.in-Err.ensures.works.cause)
