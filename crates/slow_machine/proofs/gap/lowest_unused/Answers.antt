use Rattle.std.proofs.Common.{sym, ◌∙◌}
use Rattle.slow_machine.proofs.SpaceLemmas.{walk_ends, walk_stops, lowest_is_walk}
use Rattle.slow_machine.proofs.gap.lowest_unused.Goals as goal

pub returns-then-s-low : goal.returns-then-s-low
returns-then-s-low c =
    sym (walk_stops c.args.spaces.now c.loop-s.s-index c.loop-s.low _ c.loop-s-test.true c.if-s-low.true) ∙ c.loop-s.invariant.so_far
    ∙ lowest_is_walk c.args.spaces.now c.requires.rise c.requires.root_there

pub returns : goal.returns
returns c =
    sym (walk_ends c.args.spaces.now c.loop-s.s-index c.loop-s.low c.loop-s-test.false) ∙ c.loop-s.invariant.so_far
    ∙ lowest_is_walk c.args.spaces.now c.requires.rise c.requires.root_there
