use Rattle.std.proofs.lemmas.Bool.{false≢true}
use Rattle.std.proofs.Common.{◌+◌, ◌<◌, ◌∙◌, ◌-◌, refl, ap, sym, subst, map, length, arith}
use Rattle.file_map.specs.Run.{run_bytes, key_bytes}
use Rattle.file_map.specs.Searches.{IsLastRun}
use Rattle.file_map.proofs.Cutting.{uncut, done_none, done_other, done_before, taken_step, short_step}
use Rattle.file_map.proofs.cut.cut_last.Goals as goal
use Rattle.file_map.proofs.cut.cut_last.Goals.{then-run-id-via-then-run-id, then-run-id-via-else-run-id+then-end-from}

pub returns-in-None-clause-step : goal.returns-in-None-clause-step
returns-in-None-clause-step g c = λ named map_is n counted.
    let last = subst (λ found. IsLastRun map_is.runs c.args.id 4294967295 found) c.in-None.is (c.in_ok-run.ensures.answer map_is.runs map_is.listed map_is.form) in
    uncut c.args.sectors _ _ named map_is c.args.id c.args.from (c.last_run.ensures.same _ map_is.listed)
    (done_none c.args.sectors _ named map_is (g.met.T.SearchedEntries.ascending c.args.entries.now) c.args.id c.args.from (omega (arith, c.ranges.id.fits)) last)

pub returns-then-run-id-clause-step : goal.returns-then-run-id-clause-step
returns-then-run-id-clause-step g c = λ named map_is n counted.
    let last = subst (λ found. IsLastRun map_is.runs c.args.id 4294967295 found) c.in-Some.is (c.in_ok-run.ensures.answer map_is.runs map_is.listed map_is.form) in
    uncut c.args.sectors _ _ named map_is c.args.id c.args.from (c.last_run.ensures.same _ map_is.listed)
    (elim c.then-run-id.branch [
      | then-run-id-via-then-run-id w ↦ done_other c.args.sectors _ named map_is (g.met.T.SearchedEntries.ascending c.args.entries.now) c.args.id c.args.from (omega (arith, c.ranges.id.fits)) c.in-Some.run' last w.if-run-id.true
      | then-run-id-via-else-run-id+then-end-from w ↦
          done_before c.args.sectors _ named map_is (g.met.T.SearchedEntries.ascending c.args.entries.now) c.args.id c.args.from (omega (arith, c.ranges.id.fits)) c.in-Some.run' last
          (omega (arith, w.end.ensures, w.from.ensures, w.if-end-from.true))
    ])

pub returns-then-run-from-clause-step : goal.returns-then-run-from-clause-step
returns-then-run-from-clause-step g c = λ named map_is n counted.
    let xs = map run_bytes map_is.runs in
    let last = subst (λ found. IsLastRun map_is.runs c.args.id 4294967295 found) c.in-Some.is (c.in_ok-run.ensures.answer map_is.runs map_is.listed map_is.form) in
    let count_is = g.met.T.SearchedEntries.counted_once c.args.entries.now n (length xs) counted (g.met.T.SearchedEntries.counted c.args.entries.now xs map_is.listed) in
    taken_step c.args.sectors _ named map_is (g.met.T.SearchedEntries.ascending c.args.entries.now) c.args.id c.args.from (omega (arith, c.ranges.id.fits)) c.in-Some.run' last (g.T.SearchedEntries.lists c.remove_key.new.self)
    (g.T.SearchedEntries.counts c.remove_key.new.self) (g.met.T.SearchedEntries.counted c.remove_key.new.self) c.key_of.result (c.key_of.ensures ∙ ap (λ x. key_bytes x c.in-Some.run'.first) (sym c.if-run-id.false)) c.if-run-id.false c.if-run-from.true n count_is c.in_ok-taken.taken c.may_have_more.result c.may_have_more.ensures.yes c.may_have_more.ensures.no
    (c.in_ok-taken.ensures.answer xs (c.last_run.ensures.same xs map_is.listed))

pub returns-clause-step : goal.returns-clause-step
returns-clause-step g c = λ named map_is n counted.
    let xs = map run_bytes map_is.runs in
    let last = subst (λ found. IsLastRun map_is.runs c.args.id 4294967295 found) c.in-Some.is (c.in_ok-run.ensures.answer map_is.runs map_is.listed map_is.form) in
    short_step c.args.sectors _ named map_is (g.met.T.SearchedEntries.ascending c.args.entries.now) c.args.id c.args.from (omega (arith, c.ranges.id.fits)) c.in-Some.run' last (g.T.SearchedEntries.lists c.replace_key.new.self)
    record { id = c.args.id; first = c.in-Some.run'.first; pages = c.args.from - c.in-Some.run'.first; sector = c.in-Some.run'.sector } refl refl refl refl c.if-run-id.false (omega (arith, c.if-run-from.false))
    (omega (arith, c.if-end-from.false, c.end.ensures, c.from.ensures)) c.to_bytes.result c.to_bytes.ensures c.in_ok-replace_key.field-0 (c.in_ok-replace_key.ensures.answer xs (c.last_run.ensures.same xs map_is.listed))

pub returns-in-None-clause-more : goal.returns-in-None-clause-more
returns-in-None-clause-more g c = λ same. absurd (false≢true same)

pub returns-then-run-id-clause-more : goal.returns-then-run-id-clause-more
returns-then-run-id-clause-more g c = λ same. absurd (false≢true same)

pub returns-then-run-from-clause-more : goal.returns-then-run-from-clause-more
returns-then-run-from-clause-more g c = λ more.
    let there = rw c.in-Some.is at c.in_ok-run.ensures.shown in
    record {
      run = c.in-Some.run';
      page = there.0;
      shown = there.1;
      of_file = c.if-run-id.false;
      after = omega (arith, c.if-end-from.false, c.end.ensures, c.from.ensures);
    }

pub returns-clause-more : goal.returns-clause-more
returns-clause-more g c = λ same. absurd (false≢true same)

pub returns-in_err-taken-clause-kept : goal.returns-in_err-taken-clause-kept
returns-in_err-taken-clause-kept g c = g.met.T.SearchedEntries.beside_through _ _ _ c.last_run.ensures.kept c.remove_key.ensures.kept

pub returns-then-run-from-clause-kept : goal.returns-then-run-from-clause-kept
returns-then-run-from-clause-kept g c = g.met.T.SearchedEntries.beside_through _ _ _ c.last_run.ensures.kept c.remove_key.ensures.kept

pub returns-in_err-replace_key-clause-kept : goal.returns-in_err-replace_key-clause-kept
returns-in_err-replace_key-clause-kept g c = g.met.T.SearchedEntries.beside_through _ _ _ c.last_run.ensures.kept c.replace_key.ensures.kept

pub returns-clause-kept : goal.returns-clause-kept
returns-clause-kept g c = g.met.T.SearchedEntries.beside_through _ _ _ c.last_run.ensures.kept c.replace_key.ensures.kept

pub returns-in_err-run-clause-cost : goal.returns-in_err-run-clause-cost
returns-in_err-run-clause-cost g c = omega (arith, c.last_run.ensures.cost)

pub returns-in-None-clause-cost : goal.returns-in-None-clause-cost
returns-in-None-clause-cost g c = omega (arith, c.last_run.ensures.cost)

pub returns-then-run-id-clause-cost : goal.returns-then-run-id-clause-cost
returns-then-run-id-clause-cost g c = omega (arith, c.last_run.ensures.cost)

pub returns-in_err-taken-clause-cost : goal.returns-in_err-taken-clause-cost
returns-in_err-taken-clause-cost g c = omega (arith, c.last_run.ensures.cost, c.remove_key.ensures.cost)

pub returns-then-run-from-clause-cost : goal.returns-then-run-from-clause-cost
returns-then-run-from-clause-cost g c = omega (arith, c.last_run.ensures.cost, c.remove_key.ensures.cost)

pub returns-in_err-replace_key-clause-cost : goal.returns-in_err-replace_key-clause-cost
returns-in_err-replace_key-clause-cost g c = omega (arith, c.last_run.ensures.cost, c.replace_key.ensures.cost)

pub returns-clause-cost : goal.returns-clause-cost
returns-clause-cost g c = omega (arith, c.last_run.ensures.cost, c.replace_key.ensures.cost)
