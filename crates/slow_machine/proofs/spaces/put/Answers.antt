use Rattle.slow_machine.proofs.SpaceLemmas.{put_space_at}
use Rattle.slow_machine.proofs.spaces.put.Goals as goal

pub returns-clause-ok : goal.returns-clause-ok
returns-clause-ok g c =
    rw (c.in_ok-insert.ensures.items, c.place_of-place.ensures.is)
    (simp c.deref.ensures.value (put_space_at c.args.space c.args.spaces.now.items))
