use Rattle.std.proofs.Common.{◌≡◌, ◌+◌, ◌∙◌, get_or}
use Rattle.write_queue.proofs.PlaceLemmas.{next_first}
use Rattle.write_queue.proofs.places.next_after.Goals as goal

pub returns-then-place-sectors : goal.returns-then-place-sectors
returns-then-place-sectors c =
    let sectors = c.args.sectors.now in
    let next = c.in_ok-next.ensures in
    let there : get_or sectors c.index_of-place.result 0 ≡ c.args.head + 1 = c.index_of-place.ensures.stands c.if-place-sectors.true ∙ next.1 in
    next_first c.args.head c.index_of-place.result sectors next.0 c.if-place-sectors.true there c.requires

pub returns-then-sectors-guess : goal.returns-then-sectors-guess
returns-then-sectors-guess c =
    let sectors = c.args.sectors.now in
    let next = c.in_ok-next.ensures in
    let there : get_or sectors c.args.guess 0 ≡ c.args.head + 1 = c.if-sectors-guess.true ∙ next.1 in
    next_first c.args.head c.args.guess sectors next.0 c.if-guess-sectors.true there c.requires
