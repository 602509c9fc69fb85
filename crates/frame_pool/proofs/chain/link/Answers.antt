use Rattle.frame_pool.proofs.IndexLemmas.{bucket_below}
use Rattle.frame_pool.proofs.LinkLemmas.{linked_above, linked_first}
use Rattle.frame_pool.proofs.chain.link.Goals as goal

pub returns-in-Some-clause-linked : goal.returns-in-Some-clause-linked
returns-in-Some-clause-linked g c at puts =
    let lists = c.args.table.now in
    rw (c.set_next-in-Some.ensures, c.set_next.ensures, c.next-next.ensures)
    (linked_above lists _ at c.args.slot c.args.bucket c.in-Some.above c.requires.sized (bucket_below lists.frames) c.requires.slot c.requires.indexed c.requires.empty c.in-Some.ensures puts)

pub returns-in-None-clause-linked : goal.returns-in-None-clause-linked
returns-in-None-clause-linked g c at puts =
    let lists = c.args.table.now in
    rw (c.set_head.ensures, c.set_next-in-None.ensures, c.head-next.ensures)
    (linked_first lists _ at c.args.slot c.args.bucket c.requires.sized (bucket_below lists.frames) c.requires.below c.requires.slot c.requires.indexed c.requires.empty c.in-None.ensures puts)
