use Rattle.std.proofs.Common.{◌+◌, slice_index_or, subst, sym, take, arith}
use Rattle.std.proofs.lemmas.Option.{slice_get-get_or}
use Rattle.label_survey.specs.declared.sector_state.SectorState.TheVariants.{Free}
use Rattle.label_survey.specs.Survey.{IsTally}
use Rattle.label_survey.proofs.TallyLemmas.{all_counted, one_counted, few_counted, tallies, within}
use Rattle.label_survey.proofs.tally.tally_sectors.Goals as goal

pub count-requires-clause-files : goal.count-requires-clause-files
count-requires-clause-files c = let few = few_counted c.args.sector_states.now c.loop-i.i c.loop-i.tally c.loop-i.invariant in omega (arith, few.0, c.requires.few, c.loop-i-test.true)

pub count-requires-clause-pages : goal.count-requires-clause-pages
count-requires-clause-pages c = let few = few_counted c.args.sector_states.now c.loop-i.i c.loop-i.tally c.loop-i.invariant in omega (arith, few.1, c.requires.few, c.loop-i-test.true)

pub count-requires-clause-freed : goal.count-requires-clause-freed
count-requires-clause-freed c = let few = few_counted c.args.sector_states.now c.loop-i.i c.loop-i.tally c.loop-i.invariant in omega (arith, few.2, c.requires.few, c.loop-i-test.true)

pub loop-i-preserved : goal.loop-i-preserved
loop-i-preserved c =
    subst (IsTally (take (c.loop-i.i + 1) c.args.sector_states.now)) (sym c.count.ensures)
    (one_counted c.args.sector_states.now c.loop-i.i (slice_index_or c.args.sector_states.now c.loop-i.i Free) c.loop-i.tally (slice_get-get_or c.args.sector_states.now c.loop-i.i Free c.loop-i-test.true) c.loop-i.invariant)

pub returns-clause-tally : goal.returns-clause-tally
returns-clause-tally c = all_counted c.args.sector_states.now c.loop-i.i c.loop-i.tally (omega (arith, c.loop-i-test.false)) c.loop-i.invariant

pub returns-clause-tallies : goal.returns-clause-tallies
returns-clause-tallies c = λ d are. tallies d c.args.sector_states.now are c.loop-i.tally (all_counted c.args.sector_states.now c.loop-i.i c.loop-i.tally (omega (arith, c.loop-i-test.false)) c.loop-i.invariant)

pub returns-clause-within : goal.returns-clause-within
returns-clause-within c = within c.args.sector_states.now c.loop-i.tally (all_counted c.args.sector_states.now c.loop-i.i c.loop-i.tally (omega (arith, c.loop-i-test.false)) c.loop-i.invariant)
