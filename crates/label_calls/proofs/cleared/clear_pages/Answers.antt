use Rattle.std.proofs.Common.{◌<◌, rules}
use Rattle.swapper_kernel.proofs.StepLemmas.{went_by}
use Rattle.swapper_kernel.specs.Homes.{IsLayout}
use Rattle.label_calls.proofs.ClearingLemmas.{after_root, clearing_more, clearing_none, clearing_stopped}
use Rattle.label_calls.proofs.cleared.clear_pages.Goals as goal

pub loop-k-init : goal.loop-k-init
loop-k-init g c = clearing_none _ _ _ _ _ c.requires.data.size

pub loop-k-preserved : goal.loop-k-preserved
loop-k-preserved g c =
    let below : c.loop-k.k < c.args.pages = search rules in
    let layout : IsLayout c.args.memory.now.layout = search rules in
    clearing_more _ _ _ _ _ _ _ _ _ c.loop-k.invariant (after_root c.args.memory.now.layout c.args.sector layout c.requires.data.first) below _ _ _ c.in-Ok.ensures.writes (went_by c.clear_page.ensures.moves)
    c.clear_page.ensures.frames c.clear_page.ensures.layout c.clear_page.ensures.moves.transfers.by_one

pub returns-in-Err-clause-writes : goal.returns-in-Err-clause-writes
returns-in-Err-clause-writes g c =
    let layout : IsLayout c.args.memory.now.layout = search rules in
    clearing_stopped _ _ _ _ _ _ _ _ _ c.loop-k.invariant (after_root c.args.memory.now.layout c.args.sector layout c.requires.data.first) _ c.in-Err.ensures.writes (went_by c.clear_page.ensures.moves)
