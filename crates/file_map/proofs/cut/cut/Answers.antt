use Rattle.std.proofs.Common.{inl, inr, map, length, arith, ◌+◌, ◌-◌, ◌≡◌, sym, subst}
use Rattle.file_map.specs.Run.{run_bytes}
use Rattle.file_map.specs.FileMap.{most_records}
use Rattle.file_map.specs.Edits.{IsStep}
use Rattle.file_map.proofs.Edits.{relisted}
use Rattle.file_map.proofs.Outcomes.{passed, passed_cause, cause_wider}
use Rattle.file_map.proofs.Cutting.{renamed}
use Rattle.file_map.proofs.CutLoop.{begin_cutting, cut_more, cut_all, cut_paid, begin_paid, few_steps, step_paid, steps_paid, IsCutting}
use Rattle.file_map.proofs.cut.cut.Goals as goal

pub cutting-init : goal.cutting-init
cutting-init g c = record {
  few = c.in_ok-left.ensures.few;
  fewer = omega arith;
  paid = omega arith;
  begun = inl c.count_of.ensures.same_sights;
  kept = c.count_of.ensures.kept;
  revealed = λ named map_is.
      let xs = map run_bytes map_is.runs in
      let counted = g.met.T.SearchedEntries.counted c.args.entries.now xs map_is.listed in
      let count_is = c.in_ok-left.ensures.count (length xs) counted in
      begin_cutting c.args.sectors _ _ named c.args.id c.args.from c.in_ok-left.left (relisted c.args.sectors _ _ named map_is (c.count_of.ensures.same xs map_is.listed)) (c.count_of.ensures.same_count c.in_ok-left.left (subst (g.T.SearchedEntries.counts c.args.entries.now) (sym count_is) counted));
  cost = begin_paid (g.T.SearchedEntries.look_cost + g.T.SortedEntries.replace_cost + g.T.CutEntries.remove_cost) c.in_ok-left.left (most_records c.args.sectors) (g.T.SearchedEntries.spent c.count_of.new.entries) c.in_ok-left.ensures.few;
}

pub returns-in_err-cut_last-clause-cut : goal.returns-in_err-cut_last-clause-cut
returns-in_err-cut_last-clause-cut g c = λ named map_is.
    let at = c.cutting.invariant.revealed named map_is in
    passed _ _ _ _ c.from_residual-in_err-cut_last.ensures.0 c.from_residual-in_err-cut_last.ensures.1 (c.in_err-cut_last.ensures.step at.now at.map_is c.cutting.left at.counted)

pub returns-in_err-cut_last-clause-cause : goal.returns-in_err-cut_last-clause-cause
returns-in_err-cut_last-clause-cause g c =
    let last = g.met.T.SearchedEntries.beside_itself c.cut_last.new.entries in
    passed_cause _ _ _ c.from_residual-in_err-cut_last.ensures.1 (
      c.cutting.entries,
      c.cutting.invariant.kept,
      c.cut_last.ensures.kept,
      cause_wider c.args.sectors ⊥ ⊥ (g.T.SearchedEntries.shows c.cutting.entries) (g.T.SearchedEntries.shows c.cutting.entries) (g.T.SearchedEntries.accounted c.cutting.entries c.cut_last.new.entries) (g.T.SearchedEntries.accounted c.args.entries.now c.cut_last.new.entries)
          c.in_err-cut_last.field-0.0 (λ h. h) (λ s h. h) (λ e why. g.met.T.SearchedEntries.accounted_wider _ _ _ _ e c.cutting.invariant.kept c.cut_last.ensures.kept last why) c.in_err-cut_last.ensures.cause,
    )

pub returns-then-not-branch-clause-cut : goal.returns-then-not-branch-clause-cut
returns-then-not-branch-clause-cut g c = λ named map_is.
    let at = c.cutting.invariant.revealed named map_is in
    let done = subst (IsStep c.args.sectors (g.T.SearchedEntries.lists c.cut_last.new.entries) (g.T.SearchedEntries.counts c.cut_last.new.entries) at.now c.args.id c.args.from c.cutting.left) c.if-not-branch.true (c.in_ok-cut_last.ensures.step at.now at.map_is c.cutting.left at.counted) in
    renamed c.args.sectors _ _ _ done (λ id page sector. sym (at.same id page sector))

pub cutting-preserved : goal.cutting-preserved
cutting-preserved g c = record {
  few = omega (arith, c.cutting.invariant.few);
  fewer = omega (arith, c.cutting.invariant.fewer);
  paid = step_paid (g.T.SearchedEntries.look_cost + g.T.SortedEntries.replace_cost + g.T.CutEntries.remove_cost) c.in_ok-left.left c.cutting.left (g.T.SearchedEntries.spent c.cutting.entries) (g.T.SearchedEntries.spent c.cut_last.new.entries) (g.T.SearchedEntries.spent c.count_of.new.entries) (omega (arith, c.cutting-test.true)) c.cutting.invariant.fewer (omega (arith, c.cut_last.ensures.cost))
      c.cutting.invariant.paid;
  begun = elim c.cutting.invariant.begun [
    | inl same ↦
        let first = c.in_ok-cut_last.ensures.more c.if-not-branch.false in
        inr (record { run = first.run; page = first.page; shown = same _ first.shown; of_file = first.of_file; after = first.after })
    | inr begun ↦ inr begun
  ];
  kept = g.met.T.SearchedEntries.beside_through _ _ _ c.cutting.invariant.kept c.cut_last.ensures.kept;
  revealed = λ named map_is.
      let at = c.cutting.invariant.revealed named map_is in
      let short = subst (IsStep c.args.sectors (g.T.SearchedEntries.lists c.cut_last.new.entries) (g.T.SearchedEntries.counts c.cut_last.new.entries) at.now c.args.id c.args.from c.cutting.left) c.if-not-branch.false (c.in_ok-cut_last.ensures.step at.now at.map_is c.cutting.left at.counted) in
      cut_more c.args.sectors _ _ named c.args.id c.args.from c.in_ok-left.left c.cutting.left c.cutting.invariant.fewer at short;
  cost = cut_paid (g.T.SearchedEntries.look_cost + g.T.SortedEntries.replace_cost + g.T.CutEntries.remove_cost) c.cutting.left (most_records c.args.sectors) (g.T.SearchedEntries.spent c.cutting.entries) (g.T.SearchedEntries.spent c.cut_last.new.entries) (g.T.SearchedEntries.spent c.count_of.new.entries) (omega (arith, c.cutting-test.true))
      (omega (arith, c.cut_last.ensures.cost)) c.cutting.invariant.cost;
}

pub returns-clause-cut : goal.returns-clause-cut
returns-clause-cut g c = λ named map_is.
    let none : c.cutting.left ≡ 0 = omega (arith, c.cutting-test.false) in
    let at = subst (λ left. IsCutting c.args.sectors (g.T.SearchedEntries.lists c.cutting.entries) (g.T.SearchedEntries.counts c.cutting.entries) named c.args.id c.args.from c.in_ok-left.left left) none (c.cutting.invariant.revealed named map_is) in
    cut_all c.args.sectors _ _ named c.args.id c.args.from (g.met.T.SearchedEntries.counted c.cutting.entries) (g.met.T.SearchedEntries.counted_once c.cutting.entries) c.in_ok-left.left at

pub returns-in_err-left-clause-begun : goal.returns-in_err-left-clause-begun
returns-in_err-left-clause-begun g c = passed_cause _ _ _ c.from_residual.ensures.1 (inl c.in_err-left.ensures.cause)

pub returns-in_err-cut_last-clause-begun : goal.returns-in_err-cut_last-clause-begun
returns-in_err-cut_last-clause-begun g c =
    let last = g.met.T.SearchedEntries.beside_itself c.cut_last.new.entries in
    passed_cause _ _ _ c.from_residual-in_err-cut_last.ensures.1 (elim c.cutting.invariant.begun [
      | inl same ↦ inl (cause_wider c.args.sectors ⊥ ⊥ (g.T.SearchedEntries.shows c.cutting.entries) (g.T.SearchedEntries.shows c.args.entries.now) (g.T.SearchedEntries.accounted c.cutting.entries c.cut_last.new.entries) (g.T.SearchedEntries.accounted c.args.entries.now c.cut_last.new.entries)
          c.in_err-cut_last.field-0.0 (λ h. h) same (λ e why. g.met.T.SearchedEntries.accounted_wider _ _ _ _ e c.cutting.invariant.kept c.cut_last.ensures.kept last why) c.in_err-cut_last.ensures.cause)
      | inr begun ↦ inr begun
    ])

pub returns-in_err-cut_last-clause-cost_sized : goal.returns-in_err-cut_last-clause-cost_sized
returns-in_err-cut_last-clause-cost_sized g c = λ named size map_is is.
    let at = c.cutting.invariant.revealed named map_is in
    let first = c.count_of.ensures.cost in
    let all = steps_paid (g.T.SearchedEntries.look_cost + g.T.SortedEntries.replace_cost + g.T.CutEntries.remove_cost) (c.in_ok-left.left - c.cutting.left) size (g.T.SearchedEntries.spent c.cutting.entries) (g.T.SearchedEntries.spent c.cut_last.new.entries) (g.T.SearchedEntries.spent c.count_of.new.entries)
    (few_steps at.now c.args.id size _ (at.ends size is)) (omega (arith, c.cut_last.ensures.cost)) c.cutting.invariant.paid
    in
    omega (arith, first, all)

pub returns-then-not-branch-clause-cost_sized : goal.returns-then-not-branch-clause-cost_sized
returns-then-not-branch-clause-cost_sized g c = λ named size map_is is.
    let at = c.cutting.invariant.revealed named map_is in
    let first = c.count_of.ensures.cost in
    let all = steps_paid (g.T.SearchedEntries.look_cost + g.T.SortedEntries.replace_cost + g.T.CutEntries.remove_cost) (c.in_ok-left.left - c.cutting.left) size (g.T.SearchedEntries.spent c.cutting.entries) (g.T.SearchedEntries.spent c.cut_last.new.entries) (g.T.SearchedEntries.spent c.count_of.new.entries)
    (few_steps at.now c.args.id size _ (at.ends size is)) (omega (arith, c.cut_last.ensures.cost)) c.cutting.invariant.paid
    in
    omega (arith, first, all)

pub returns-clause-cost_sized : goal.returns-clause-cost_sized
returns-clause-cost_sized g c = λ named size map_is is.
    let at = c.cutting.invariant.revealed named map_is in
    let first = c.count_of.ensures.cost in
    let all = steps_paid (g.T.SearchedEntries.look_cost + g.T.SortedEntries.replace_cost + g.T.CutEntries.remove_cost) (c.in_ok-left.left - c.cutting.left) size (g.T.SearchedEntries.spent c.cutting.entries) (g.T.SearchedEntries.spent c.cutting.entries) (g.T.SearchedEntries.spent c.count_of.new.entries)
    (few_steps at.now c.args.id size _ (at.ends size is)) (omega arith) c.cutting.invariant.paid
    in
    omega (arith, first, all)

pub returns-in_err-left-clause-cost_sized : goal.returns-in_err-left-clause-cost_sized
returns-in_err-left-clause-cost_sized g c = λ named size map_is is. let first = c.count_of.ensures.cost in omega (arith, first)

pub returns-in_err-cut_last-clause-cost : goal.returns-in_err-cut_last-clause-cost
returns-in_err-cut_last-clause-cost g c =
    let first = c.count_of.ensures.cost in
    let all = cut_paid (g.T.SearchedEntries.look_cost + g.T.SortedEntries.replace_cost + g.T.CutEntries.remove_cost) c.cutting.left (most_records c.args.sectors) (g.T.SearchedEntries.spent c.cutting.entries) (g.T.SearchedEntries.spent c.cut_last.new.entries) (g.T.SearchedEntries.spent c.count_of.new.entries) (omega (arith, c.cutting-test.true))
    (omega (arith, c.cut_last.ensures.cost)) c.cutting.invariant.cost
    in
    omega (arith, first, all)

pub returns-then-not-branch-clause-cost : goal.returns-then-not-branch-clause-cost
returns-then-not-branch-clause-cost g c =
    let first = c.count_of.ensures.cost in
    let all = cut_paid (g.T.SearchedEntries.look_cost + g.T.SortedEntries.replace_cost + g.T.CutEntries.remove_cost) c.cutting.left (most_records c.args.sectors) (g.T.SearchedEntries.spent c.cutting.entries) (g.T.SearchedEntries.spent c.cut_last.new.entries) (g.T.SearchedEntries.spent c.count_of.new.entries) (omega (arith, c.cutting-test.true))
    (omega (arith, c.cut_last.ensures.cost)) c.cutting.invariant.cost
    in
    omega (arith, first, all)

pub returns-in_err-cut_last-clause-kept : goal.returns-in_err-cut_last-clause-kept
returns-in_err-cut_last-clause-kept g c = g.met.T.SearchedEntries.beside_through _ _ _ c.cutting.invariant.kept c.cut_last.ensures.kept

pub returns-then-not-branch-clause-kept : goal.returns-then-not-branch-clause-kept
returns-then-not-branch-clause-kept g c = g.met.T.SearchedEntries.beside_through _ _ _ c.cutting.invariant.kept c.cut_last.ensures.kept

pub returns-clause-kept : goal.returns-clause-kept
returns-clause-kept g c = c.cutting.invariant.kept
