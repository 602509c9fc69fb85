use Rattle.std.proofs.Common.{inl, ℕ, ◌+◌, ◌<◌, ◌∙◌, List, length, sym, ap, subst, arith, slice_index_or}
use Rattle.std.specs.List.Sorted.{IsPermutation}
use Rattle.std.proofs.lemmas.List.Sorted.{length_permutation}
use Rattle.label_survey.specs.declared.triples.Triple.{Triple}
use Rattle.volume_view.specs.Leftovers.{AreLeft}
use Rattle.volume_view.proofs.LeftoverLemmas.{refilled, orphan_moved, orphans_low, are_leftovers}
use Rattle.volume_view.proofs.leftovers.leftovers_of.Goals as goal

pub join_pages-requires : goal.join_pages-requires
join_pages-requires g c =
    let was = c.deref_mut.ensures.value in
    let moved = subst (λ (ts : List Triple). IsPermutation ts c.sort_triples.new.triples) was c.sort_triples.ensures in
    let long = length_permutation c.in_ok-triples.triples.items c.sort_triples.new.triples moved in
    let filled = refilled c.in_ok-triples.triples.len c.in_ok-triples.triples.items c.sort_triples.new.triples (omega (arith, c.deref_mut.ensures.len, ap length was)) long in
    let orphans = orphan_moved c.args.first c.args.labels.now c.args.sector_states.now (length c.args.labels.now) c.in_ok-triples.triples.items c.sort_triples.new.triples moved c.in_ok-triples.ensures in
    let low = orphans_low c.args.first c.args.labels.now c.args.sector_states.now (length c.args.labels.now) c.sort_triples.new.triples orphans in
    record { few = inl (subst (λ (ts : List Triple). (k : ℕ) (t : Triple) → k < length ts → (slice_index_or ts k t).sector + 1 < 4294967296) (sym (c.deref.ensures.value ∙ filled)) (λ k t below. omega (arith, low k t below, c.requires.few))) }

pub returns : goal.returns
returns g c = λ d at labels are.
    let was = c.deref_mut.ensures.value in
    let moved = subst (λ (ts : List Triple). IsPermutation ts c.sort_triples.new.triples) was c.sort_triples.ensures in
    let long = length_permutation c.in_ok-triples.triples.items c.sort_triples.new.triples moved in
    let filled = refilled c.in_ok-triples.triples.len c.in_ok-triples.triples.items c.sort_triples.new.triples (omega (arith, c.deref_mut.ensures.len, ap length was)) long in
    let orphans = orphan_moved c.args.first c.args.labels.now c.args.sector_states.now (length c.args.labels.now) c.in_ok-triples.triples.items c.sort_triples.new.triples moved c.in_ok-triples.ensures in
    record {
      joined = c.in_ok-join_pages.ensures.joined;
      left =
          subst (AreLeft d) (sym (c.in_ok-join_pages.ensures.pages ∙ c.deref.ensures.value ∙ filled)) (are_leftovers d c.args.labels.now c.args.sector_states.now labels are c.args.first (length c.args.labels.now) c.sort_triples.new.triples at (omega arith) orphans);
    }
