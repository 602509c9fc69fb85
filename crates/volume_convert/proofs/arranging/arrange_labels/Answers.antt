use Rattle.std.proofs.Common.{◌≡◌, ℕ, ◌∙◌, sym, ap, arith, Option, slice_index_or}
use Rattle.std.specs.Prelude.{slice_get, option_map}
use Rattle.labelled_disk.specs.declared.label.Label.{Label}
use Rattle.labelled_disk.specs.Sectors.{free_label}
use Rattle.label_survey.specs.declared.sector_state.SectorState.TheVariants.{Free}
use Rattle.volume_convert.specs.Heads.{leader_by, leaders_by}
use Rattle.volume_convert.specs.Settled.{gaps_in, settled_label, settled_label_at}
use Rattle.volume_convert.proofs.LoopLemmas.{read_leader, gap_more, gap_same}
use Rattle.volume_convert.proofs.PlaceLemmas.{all_placed, one_placed, read_next}
use Rattle.volume_convert.proofs.arranging.arrange_labels.Goals as goal
use Rattle.volume_convert.proofs.arranging.arrange_labels.Goals.{then-not-is_kept, else-not-is_kept}

pub loop-i-preserved : goal.loop-i-preserved
loop-i-preserved c =
    let within = c.loop-i-test.true in
    let given : option_map (λ h. leader_by h.now) c.get.result ≡ slice_get (leaders_by c.args.heads.now) c.loop-i.gaps =
    read_leader (λ h. h.now) c.args.heads.now c.loop-i.gaps c.get.result c.get.ensures.lookup.0 c.get.ensures.lookup.1 in
    let is : c.settled_label.result ≡ settled_label_at c.args.labels.now c.args.sector_states.now (leaders_by c.args.heads.now) c.loop-i.i =
    c.settled_label.ensures
    ∙ ap (λ (o : Option Label). settled_label o (slice_index_or c.args.sector_states.now c.loop-i.i Free) (slice_index_or c.loop-i.labels c.loop-i.i free_label))
    (given ∙ ap (λ (n : ℕ). slice_get (leaders_by c.args.heads.now) n) c.loop-i.invariant.gaps)
    ∙ ap (λ (l : Label). settled_label (slice_get (leaders_by c.args.heads.now) (gaps_in c.args.sector_states.now c.loop-i.i)) (slice_index_or c.args.sector_states.now c.loop-i.i Free) l)
    (read_next (settled_label_at c.args.labels.now c.args.sector_states.now (leaders_by c.args.heads.now)) c.args.labels.now c.loop-i.labels c.loop-i.i c.loop-i.invariant.so_far free_label (omega (arith, within, c.loop-i.auto.labels))) in
    let so_far = one_placed (settled_label_at c.args.labels.now c.args.sector_states.now (leaders_by c.args.heads.now)) c.args.labels.now c.loop-i.labels c.loop-i.i c.loop-i.invariant.so_far c.settled_label.result (omega (arith, within, c.loop-i.auto.labels)) is in
    elim c.if-not-is_kept.branch [
      | then-not-is_kept w ↦ record {
        so_far = so_far;
        gaps = gap_more c.args.sector_states.now c.loop-i.i c.loop-i.gaps c.if-not-is_kept.gaps c.loop-i.invariant.gaps w.gaps-is (sym c.is_kept.ensures ∙ w.if-not-is_kept.true);
        few = omega (arith, c.loop-i.invariant.few, w.gaps-is);
      }
      | else-not-is_kept w ↦ record {
        so_far = so_far;
        gaps = gap_same c.args.sector_states.now c.loop-i.i c.loop-i.gaps c.if-not-is_kept.gaps c.loop-i.invariant.gaps w.gaps-is (sym c.is_kept.ensures ∙ w.if-not-is_kept.false);
        few = omega (arith, c.loop-i.invariant.few, w.gaps-is);
      }
    ]

pub returns : goal.returns
returns c =
    all_placed (settled_label_at c.args.labels.now c.args.sector_states.now (leaders_by c.args.heads.now)) c.args.labels.now c.loop-i.labels c.loop-i.i c.loop-i.invariant.so_far
    (omega (arith, c.loop-i-test.false, c.loop-i.auto.labels)) (omega (arith, c.loop-i.auto.i-end, c.loop-i.auto.labels))
