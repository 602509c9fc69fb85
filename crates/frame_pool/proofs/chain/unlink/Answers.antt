use Rattle.frame_pool.proofs.IndexLemmas.{bucket_below}
use Rattle.frame_pool.proofs.LinkLemmas.{unlinked_above, unlinked_first}
use Rattle.frame_pool.proofs.chain.unlink.Goals as goal

pub returns-in-Some-clause-unlinked : goal.returns-in-Some-clause-unlinked
returns-in-Some-clause-unlinked g c at puts =
    let lists = c.args.table.now in
    rw (c.set_next.ensures, c.next-next.ensures)
    (unlinked_above lists _ at c.args.slot c.args.bucket c.in-Some.above c.requires.sized (bucket_below lists.frames) c.requires.indexed c.requires.there c.in-Some.ensures puts)

pub returns-in-None-clause-unlinked : goal.returns-in-None-clause-unlinked
returns-in-None-clause-unlinked g c at puts =
    let lists = c.args.table.now in
    rw (c.set_head.ensures, c.next-next.ensures)
    (unlinked_first lists _ at c.args.slot c.args.bucket c.requires.sized (bucket_below lists.frames) c.requires.below c.requires.slot c.requires.indexed c.requires.there c.in-None.ensures puts)
