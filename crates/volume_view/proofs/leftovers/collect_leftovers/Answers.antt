use Rattle.std.proofs.Common.{◌≡◌, ◌+◌, ◌∙◌, length, ap, sym, subst, slice_index_or, arith, ℕ}
use Rattle.std.proofs.lemmas.Option.{slice_get-get_or}
use Rattle.labelled_disk.specs.Sectors.{free_label}
use Rattle.label_survey.specs.declared.sector_state.SectorState.TheVariants.{Free}
use Rattle.volume_view.specs.Orphans.{AreOrphans}
use Rattle.volume_view.proofs.LeftoverLemmas.{none_orphan, orphan_pushed, orphan_same}
use Rattle.volume_view.proofs.leftovers.collect_leftovers.Goals as goal
use Rattle.volume_view.proofs.leftovers.collect_leftovers.Goals.{then-is_orphan+in_ok-push, else-is_orphan}

pub loop-i-init : goal.loop-i-init
loop-i-init g c = record { orphans = subst (AreOrphans c.args.first c.args.labels.now c.args.sector_states.now 0) (sym c.new-triples.ensures.items) (none_orphan c.args.first c.args.labels.now c.args.sector_states.now) }

pub loop-i-preserved : goal.loop-i-preserved
loop-i-preserved g c =
    let labels = c.args.labels.now in
    let sector_states = c.args.sector_states.now in
    let i = c.loop-i.i in
    let l = slice_index_or labels i free_label in
    let x = slice_index_or sector_states i Free in
    let at = slice_get-get_or labels i free_label c.loop-i-test.true in
    let stands = slice_get-get_or sector_states i Free (omega (arith, c.loop-i-test.true, c.requires.same_length)) in
    let so_far = c.loop-i.invariant.orphans in
    elim c.if-is_orphan.branch [
      | then-is_orphan+in_ok-push w ↦ record {
        orphans =
            subst (AreOrphans c.args.first labels sector_states (i + 1)) (sym (ap (λ v. v.items) w.triples-is))
            (orphan_pushed c.args.first labels sector_states i l x at stands c.loop-i.triples.items so_far w.push.new.self.items _ (sym c.is_orphan.ensures ∙ w.if-is_orphan.true) (omega (arith, c.requires.few, c.loop-i-test.true)) w.in_ok-push.ensures.items);
      }
      | else-is_orphan w ↦ record {
        orphans =
            subst (AreOrphans c.args.first labels sector_states (i + 1)) (sym (ap (λ v. v.items) w.triples-is))
            (orphan_same c.args.first labels sector_states i l x at stands c.loop-i.triples.items so_far (sym c.is_orphan.ensures ∙ w.if-is_orphan.false));
      }
    ]

pub returns : goal.returns
returns g c =
    let all : c.loop-i.i ≡ length c.args.labels.now = omega (arith, c.loop-i-test.false, c.loop-i.auto.i-end) in
    subst (λ (k : ℕ). AreOrphans c.args.first c.args.labels.now c.args.sector_states.now k c.loop-i.triples.items) all c.loop-i.invariant.orphans
