use Rattle.std.proofs.Common.{◌≡◌, inl, ℕ, ◌+◌, ◌∙◌, List, refl, sym, ap, subst, arith, slice_index_or}
use Rattle.std.proofs.lemmas.Option.{slice_get-get_or}
use Rattle.labelled_disk.specs.Sectors.{free_label}
use Rattle.flat_mem.specs.Vec.{vec_mem_bytes}
use Rattle.label_survey.specs.declared.runs.Run.{Run}
use Rattle.label_survey.specs.Runs.{all_triples}
use Rattle.volume_view.specs.Names.{NamesIn, IsDifferenceAt}
use Rattle.volume_view.specs.Rows.{AreJoined}
use Rattle.volume_view.proofs.RecordedLemmas.{in_some, recorded_more, recorded_all}
use Rattle.volume_view.proofs.ListLemmas.{pushed_some}
use Rattle.volume_view.proofs.NameLemmas.{IsUnmappedTo, unmapped_none, unmapped_at, unmapped_not, unmapped_all}
use Rattle.volume_view.proofs.unmapped.find_unmapped.Goals as goal
use Rattle.volume_view.proofs.unmapped.find_unmapped.Goals.{in-Some+in-Ok-add_page, in-None}

pub returns-in-Err-clause-unmapped : goal.returns-in-Err-clause-unmapped
returns-in-Err-clause-unmapped g c = λ named is. c.in-Err.ensures.difference named (subst (λ (b : List ℕ). NamesIn c.args.layout.now.sectors b named) (sym c.loop-i.invariant.same) is)

pub add_page-requires : goal.add_page-requires
add_page-requires g c =
    let at = in_some c.in-Ok.found c.in-Some.page (λ t. t.sector ≡ _) c.in-Some.is c.in-Ok.ensures.place in
    record { few = inl (omega (arith, at, c.requires.few, c.loop-i-test.true, c.requires.counted.1)) }

pub loop-i-init : goal.loop-i-init
loop-i-init g c =
    let none = c.new-runs.ensures.items in
    record {
      same = refl;
      joined = subst AreJoined (sym none) record { long = tt; apart = tt };
      recorded = λ empty i l below. absurd (omega (arith, below));
      unmapped = λ named is. subst (λ (rs : List Run). IsUnmappedTo c.args.layout.now.first c.args.labels.now 0 named (all_triples rs)) (sym none) (unmapped_none c.args.layout.now.first c.args.labels.now named);
    }

pub loop-i-preserved : goal.loop-i-preserved
loop-i-preserved g c =
    let so_far = c.loop-i.invariant in
    let first = c.args.layout.now.first in
    let labels = c.args.labels.now in
    let i = c.loop-i.i in
    let here = slice_get-get_or labels i free_label c.loop-i-test.true in
    record {
      same = c.in-Ok.ensures.same ∙ so_far.same;
      joined = elim c.match-found.branch [
        | in-Some+in-Ok-add_page w ↦ subst AreJoined (sym (ap (λ v. v.items) w.runs-is)) (w.in-Ok-add_page.ensures.joined so_far.joined)
        | in-None w ↦ subst AreJoined (sym (ap (λ v. v.items) w.runs-is)) so_far.joined
      ];
      recorded = λ none. elim c.match-found.branch [
        | in-Some+in-Ok-add_page w ↦ absurd (pushed_some (all_triples c.loop-i.runs.items) w.in-Some.page (sym (ap (λ v. all_triples v.items) w.runs-is ∙ w.in-Ok-add_page.ensures.pages) ∙ none))
        | in-None w ↦
            recorded_more c.args.layout.now.sectors (vec_mem_bytes c.args.map.now) first labels i (slice_index_or labels i free_label) (vec_mem_bytes c.loop-i.map) _ here (so_far.recorded (sym (ap (λ v. all_triples v.items) w.runs-is) ∙ none)) so_far.same
            (omega (arith, c.requires.few, c.loop-i-test.true, c.requires.counted.1)) (c.in-Ok.ensures.recorded w.in-None.is)
      ];
      unmapped = λ named is.
          let answer = c.in-Ok.ensures.difference named (subst (λ (b : List ℕ). NamesIn c.args.layout.now.sectors b named) (sym so_far.same) is) in
          elim c.match-found.branch [
            | in-Some+in-Ok-add_page w ↦
                unmapped_at first labels named i (slice_index_or labels i free_label) here (all_triples c.loop-i.runs.items) (so_far.unmapped named is) _ w.in-Some.page (all_triples c.match-found.runs.items) (omega (arith, c.requires.few, c.loop-i-test.true, c.requires.counted.1))
                (subst (IsDifferenceAt named (slice_index_or labels i free_label) _) w.in-Some.is answer) (ap (λ v. all_triples v.items) w.runs-is ∙ w.in-Ok-add_page.ensures.pages)
            | in-None w ↦
                subst (IsUnmappedTo first labels (i + 1) named) (sym (ap (λ v. all_triples v.items) w.runs-is))
                (unmapped_not first labels named i (slice_index_or labels i free_label) here (all_triples c.loop-i.runs.items) (so_far.unmapped named is) _ (omega (arith, c.requires.few, c.loop-i-test.true, c.requires.counted.1))
                (subst (IsDifferenceAt named (slice_index_or labels i free_label) _) w.in-None.is answer))
          ];
    }

pub returns-clause-unmapped : goal.returns-clause-unmapped
returns-clause-unmapped g c = λ named is.
    unmapped_all c.args.layout.now.first c.args.labels.now named c.loop-i.i c.loop-i.runs.items (omega (arith, c.loop-i-test.false)) c.loop-i.invariant.joined (c.loop-i.invariant.unmapped named is)

pub returns-clause-recorded : goal.returns-clause-recorded
returns-clause-recorded g c = λ none.
    recorded_all c.args.layout.now.sectors (vec_mem_bytes c.args.map.now) c.args.layout.now.first c.args.labels.now c.loop-i.i (omega (arith, c.loop-i-test.false)) (c.loop-i.invariant.recorded (ap all_triples none))
