use Rattle.std.proofs.Common.{◌∙◌, ◌<◌, length, drop, sym, arith}
use Rattle.std.proofs.lemmas.List.{get_or-drop, length-drop, take_rest}
use Rattle.write_queue.proofs.PlaceLemmas.{misses_both}
use Rattle.write_queue.proofs.places.index_of.Goals as goal

pub returns-clause-misses : goal.returns-clause-misses
returns-clause-misses c =
    let sectors = c.args.sectors.now in
    let blocks = c.length_of_blocks_before-blocks.result in
    misses_both c.args.sector blocks c.length_before.result sectors c.length_of_blocks_before-blocks.ensures.misses (rw (take_rest sectors blocks) at c.length_before.ensures.misses)

pub returns-clause-stands : goal.returns-clause-stands
returns-clause-stands c inside =
    let sectors = c.args.sectors.now in
    let blocks = c.length_of_blocks_before-blocks.result in
    let more : c.length_before.result < length (drop blocks sectors) = omega (arith, inside, length-drop blocks sectors) in
    sym (get_or-drop blocks sectors c.length_before.result 0) ∙ (rw (take_rest sectors blocks) at c.length_before.ensures.stands) more
