use Rattle.std.proofs.Common.{arith}
use Rattle.space_tables.proofs.Passes.{still_hold}
use Rattle.space_tables.proofs.WithinLemmas.{has_pages, within_both}
use Rattle.space_tables.proofs.Outs.{handed, cause_on}
use Rattle.space_tables.proofs.projection.within.Goals as goal
use Rattle.space_tables.proofs.projection.within.Goals.{then-last-from, else-last-from}

pub returns-in_err-from-clause-found : goal.returns-in_err-from-clause-found
returns-in_err-from-clause-found g c = λ slots xs ss h are long.
    let pages = has_pages c.args.space.now c.requires.in_form in
    let m = c.in_err-from.ensures.found slots xs ss h are long (omega (arith, pages.0, pages.1)) in handed _ _ _ _ c.from_residual.ensures.1 m

pub returns-in_err-last-clause-found : goal.returns-in_err-last-clause-found
returns-in_err-last-clause-found g c = λ slots xs ss h are long.
    let pages = has_pages c.args.space.now c.requires.in_form in
    let now = still_hold g.M.FlatMem.reveals c.args.mem.now c.index_of.new.mem c.index_of.ensures.unchanged slots xs h in
    let m = c.in_err-last.ensures.found slots xs ss now are long (omega (arith, pages.0, pages.1)) in handed _ _ _ _ c.from_residual-in_err-last.ensures.1 m

pub returns-clause-found : goal.returns-clause-found
returns-clause-found g c = λ slots xs ss h are long.
    let pages = has_pages c.args.space.now c.requires.in_form in
    let now = still_hold g.M.FlatMem.reveals c.args.mem.now c.index_of.new.mem c.index_of.ensures.unchanged slots xs h in
    let low = c.in_ok-from.ensures.found slots xs ss h are long (omega (arith, pages.0, pages.1)) in
    let high = c.in_ok-last.ensures.found slots xs ss now are long (omega (arith, pages.0, pages.1)) in
    within_both ss xs c.args.space.now c.in_ok-from.from c.in_ok-last.last c.if-last-from.result are pages.0 low high (λ order. elim c.if-last-from.branch [
      | then-last-from w ↦ absurd (omega (arith, order, w.if-last-from.true))
      | else-last-from w ↦ omega (arith, w.result-is)
    ])

pub returns-in_err-from-clause-unchanged : goal.returns-in_err-from-clause-unchanged
returns-in_err-from-clause-unchanged g c = λ b h. c.index_of.ensures.unchanged b h

pub returns-in_err-from-clause-kept : goal.returns-in_err-from-clause-kept
returns-in_err-from-clause-kept g c = c.index_of.ensures.kept

pub returns-in_err-from-clause-looked : goal.returns-in_err-from-clause-looked
returns-in_err-from-clause-looked g c = c.index_of.ensures.looked

pub returns-in_err-from-clause-cause : goal.returns-in_err-from-clause-cause
returns-in_err-from-clause-cause g c = handed _ _ _ _ c.from_residual.ensures.1 c.in_err-from.ensures.cause

pub returns-in_err-from-clause-cost : goal.returns-in_err-from-clause-cost
returns-in_err-from-clause-cost g c = omega (arith, c.index_of.ensures.cost)

pub returns-in_err-from-clause-form : goal.returns-in_err-from-clause-form
returns-in_err-from-clause-form g c = handed _ _ _ _ c.from_residual.ensures.1 tt

pub returns-in_err-from-clause-memory : goal.returns-in_err-from-clause-memory
returns-in_err-from-clause-memory g c = handed _ _ _ _ c.from_residual.ensures.1 c.in_err-from.ensures.memory

pub returns-in_err-last-clause-unchanged : goal.returns-in_err-last-clause-unchanged
returns-in_err-last-clause-unchanged g c = λ b h. c.index_of-2.ensures.unchanged b (c.index_of.ensures.unchanged b h)

pub returns-in_err-last-clause-kept : goal.returns-in_err-last-clause-kept
returns-in_err-last-clause-kept g c = g.met.M.FlatMem.beside_through _ _ _ c.index_of.ensures.kept c.index_of-2.ensures.kept

pub returns-in_err-last-clause-looked : goal.returns-in_err-last-clause-looked
returns-in_err-last-clause-looked g c = g.met.M.FlatMem.only_reads_through _ _ _ c.index_of.ensures.looked c.index_of-2.ensures.looked

pub returns-in_err-last-clause-cause : goal.returns-in_err-last-clause-cause
returns-in_err-last-clause-cause g c = handed _ _ _ _ c.from_residual-in_err-last.ensures.1 (cause_on g.M.FlatMem g.met.M.FlatMem.beside_itself g.met.M.FlatMem.accounted_wider _ _ _ c.index_of.ensures.kept c.index_of-2.ensures.kept _ c.in_err-last.ensures.cause)

pub returns-in_err-last-clause-cost : goal.returns-in_err-last-clause-cost
returns-in_err-last-clause-cost g c = omega (arith, c.index_of.ensures.cost, c.index_of-2.ensures.cost)

pub returns-in_err-last-clause-form : goal.returns-in_err-last-clause-form
returns-in_err-last-clause-form g c = handed _ _ _ _ c.from_residual-in_err-last.ensures.1 tt

pub returns-in_err-last-clause-memory : goal.returns-in_err-last-clause-memory
returns-in_err-last-clause-memory g c = handed _ _ _ _ c.from_residual-in_err-last.ensures.1 c.in_err-last.ensures.memory

pub returns-clause-unchanged : goal.returns-clause-unchanged
returns-clause-unchanged g c = λ b h. c.index_of-2.ensures.unchanged b (c.index_of.ensures.unchanged b h)

pub returns-clause-kept : goal.returns-clause-kept
returns-clause-kept g c = g.met.M.FlatMem.beside_through _ _ _ c.index_of.ensures.kept c.index_of-2.ensures.kept

pub returns-clause-looked : goal.returns-clause-looked
returns-clause-looked g c = g.met.M.FlatMem.only_reads_through _ _ _ c.index_of.ensures.looked c.index_of-2.ensures.looked

pub returns-clause-cause : goal.returns-clause-cause
returns-clause-cause g c = tt

pub returns-clause-cost : goal.returns-clause-cost
returns-clause-cost g c = omega (arith, c.index_of.ensures.cost, c.index_of-2.ensures.cost)

pub returns-clause-memory : goal.returns-clause-memory
returns-clause-memory g c = tt
