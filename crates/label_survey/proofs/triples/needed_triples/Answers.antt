use Rattle.std.proofs.Common.{List, length, sym, ap, subst, arith}
use Rattle.std.specs.List.Sorted.{IsPermutation}
use Rattle.std.proofs.lemmas.List.Sorted.{length_permutation}
use Rattle.label_survey.specs.declared.triples.Triple.{Triple}
use Rattle.label_survey.specs.Triples.{AreNeeded}
use Rattle.label_survey.proofs.SortLemmas.{refilled}
use Rattle.label_survey.proofs.TripleLemmas.{are_needed, triples_few}
use Rattle.label_survey.proofs.triples.needed_triples.Goals as goal

pub returns-clause-few : goal.returns-clause-few
returns-clause-few g c =
    let was = c.deref_mut.ensures.value in
    let moved = subst (λ (ts : List Triple). IsPermutation ts c.sort_triples.new.triples) was c.sort_triples.ensures.same in
    let long = length_permutation c.in_ok-triples.triples.items c.sort_triples.new.triples moved in
    let filled = refilled c.in_ok-triples.triples.len c.in_ok-triples.triples.items c.sort_triples.new.triples (omega (arith, c.deref_mut.ensures.len, ap length was)) long in
    let few = triples_few c.args.first c.args.labels.now c.args.sector_states.now in
    omega (arith, ap length filled, long, ap length c.in_ok-triples.ensures, few)

pub returns-clause-needed : goal.returns-clause-needed
returns-clause-needed g c = λ d at labels are.
    let was = c.deref_mut.ensures.value in
    let moved = subst (λ (ts : List Triple). IsPermutation ts c.sort_triples.new.triples) was c.sort_triples.ensures.same in
    let long = length_permutation c.in_ok-triples.triples.items c.sort_triples.new.triples moved in
    let filled = refilled c.in_ok-triples.triples.len c.in_ok-triples.triples.items c.sort_triples.new.triples (omega (arith, c.deref_mut.ensures.len, ap length was)) long in
    subst (AreNeeded d) (sym filled) (are_needed d c.args.labels.now c.args.sector_states.now labels are c.args.first c.in_ok-triples.triples.items c.sort_triples.new.triples at c.in_ok-triples.ensures moved)
