use Rattle.std.proofs.Common.{List, length, sym, ap, subst, arith}
use Rattle.std.specs.List.Sorted.{IsPermutation}
use Rattle.std.proofs.lemmas.List.Sorted.{length_permutation}
use Rattle.label_survey.specs.declared.entries.Entry.{Entry}
use Rattle.label_survey.specs.Entries.{AreOf}
use Rattle.label_survey.proofs.EntryLemmas.{of_collected}
use Rattle.label_survey.proofs.SortLemmas.{refilled}
use Rattle.label_survey.proofs.entries.entries_in_order.Goals as goal

pub returns-clause-of : goal.returns-clause-of
returns-clause-of g c =
    let was = c.deref_mut.ensures.value in
    let moved = subst (λ (es : List Entry). IsPermutation es c.sort_entries.new.entries) was c.sort_entries.ensures.same in
    let long = length_permutation c.in_ok-entries.entries.items c.sort_entries.new.entries moved in
    let filled = refilled c.in_ok-entries.entries.len c.in_ok-entries.entries.items c.sort_entries.new.entries (omega (arith, c.deref_mut.ensures.len, ap length was)) long in
    subst (AreOf c.args.labels.now) (sym filled) (of_collected c.args.labels.now c.in_ok-entries.entries.items c.sort_entries.new.entries c.in_ok-entries.ensures moved)
