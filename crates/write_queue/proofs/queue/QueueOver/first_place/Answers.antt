use Rattle.std.proofs.Common.{◌≡◌, ◌∙◌, arith}
use Rattle.write_queue.proofs.FilterLemmas.{misses_free}
use Rattle.write_queue.proofs.PlaceLemmas.{first_where, sectors_long, sectors_of}
use Rattle.write_queue.proofs.queue.QueueOver.first_place.Goals as goal

pub first_near-requires-clause-some : goal.first_near-requires-clause-some
first_near-requires-clause-some g c = omega (arith, sectors_long c.args.self.now.entries.items c.deref.result.now (c.deref.ensures.value ∙ c.args.self.now.listed))

pub first_near-requires-clause-free : goal.first_near-requires-clause-free
first_near-requires-clause-free g c free =
    let self = c.args.self.now in
    misses_free self.entries.items c.deref.result.now self.head (c.deref.ensures.value ∙ self.listed) (self.freed free)

pub returns : goal.returns
returns g c =
    let list : c.deref.result.now ≡ sectors_of c.args.self.now.entries.items = c.deref.ensures.value ∙ c.args.self.now.listed in
    first_where c.args.self.now.head c.args.self.now.entries.items c.deref.result.now c.first_near.result list c.first_near.ensures.below c.first_near.ensures.least
