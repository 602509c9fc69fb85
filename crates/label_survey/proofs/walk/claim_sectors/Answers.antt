use Rattle.std.proofs.Common.{ℕ, List, slice_index_or, arith}
use Rattle.std.proofs.lemmas.Option.{slice_get-get_or}
use Rattle.label_survey.specs.declared.entries.Entry.{Entry}
use Rattle.label_survey.proofs.ClaimLemmas.{none_come, none_claimed, claimed_more, all_claimed}
use Rattle.label_survey.proofs.walk.claim_sectors.Goals as goal

-- the entry that is next
abbrev nth : List Entry → ℕ → Entry
nth entries k = slice_index_or entries k (record { id = 0; place = 0; sector = 0 })

pub loop-k-init : goal.loop-k-init
loop-k-init c = record {
  bounded = omega arith;
  claimed = λ d of plain. none_claimed d c.args.entries.now c.args.sector_states.now plain;
  come = λ d of. none_come c.args.entries.now;
}

pub take-requires : goal.take-requires
take-requires c = record { bounded = c.loop-k.invariant.bounded }

pub bounds-sector_states-entry : goal.bounds-sector_states-entry
bounds-sector_states-entry c =
    let at = slice_get-get_or c.args.entries.now c.loop-k.k (record { id = 0; place = 0; sector = 0 }) c.loop-k-test.true in
    let within = c.requires.within c.loop-k.k (nth c.args.entries.now c.loop-k.k) at in
    omega (arith, within, c.loop-k.auto.sector_states)

pub loop-k-preserved : goal.loop-k-preserved
loop-k-preserved c =
    let at = slice_get-get_or c.args.entries.now c.loop-k.k (record { id = 0; place = 0; sector = 0 }) c.loop-k-test.true in
    let within = c.requires.within c.loop-k.k (nth c.args.entries.now c.loop-k.k) at in
    let so_far = c.loop-k.invariant in
    record {
      bounded = c.take.ensures.bounded;
      claimed = λ d of plain.
          claimed_more d c.args.entries.now c.loop-k.k c.loop-k.sector_states (nth c.args.entries.now c.loop-k.k) c.take.result (so_far.claimed d of plain) at (omega (arith, within, c.loop-k.auto.sector_states))
          (c.take.ensures.next d c.args.entries.now c.loop-k.k of c.requires.order at (so_far.come d of)).said;
      come = λ d of. (c.take.ensures.next d c.args.entries.now c.loop-k.k of c.requires.order at (so_far.come d of)).come;
    }

pub returns-clause-claimed : goal.returns-clause-claimed
returns-clause-claimed c = λ d of plain. all_claimed d c.args.entries.now of c.loop-k.k c.loop-k.sector_states (omega (arith, c.loop-k-test.false)) (c.loop-k.invariant.claimed d of plain)
