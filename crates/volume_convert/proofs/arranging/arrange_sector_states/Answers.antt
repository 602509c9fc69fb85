use Rattle.std.proofs.Common.{◌≡◌, ℕ, ◌∙◌, sym, ap, arith, slice_index_or}
use Rattle.std.specs.Prelude.{nat_lt}
use Rattle.label_survey.specs.declared.sector_state.SectorState.{SectorState}
use Rattle.label_survey.specs.declared.sector_state.SectorState.TheVariants.{Free}
use Rattle.label_survey.specs.Survey.{is_kept}
use Rattle.volume_convert.specs.Settled.{gaps_in, settled_sector_state, settled_sector_state_at}
use Rattle.volume_convert.proofs.LoopLemmas.{gap_more, gap_same}
use Rattle.volume_convert.proofs.PlaceLemmas.{all_placed, one_placed, read_next}
use Rattle.volume_convert.proofs.arranging.arrange_sector_states.Goals as goal
use Rattle.volume_convert.proofs.arranging.arrange_sector_states.Goals.{then-not-is_kept, else-not-is_kept}

pub loop-i-preserved : goal.loop-i-preserved
loop-i-preserved c =
    let within = c.loop-i-test.true in
    let same = read_next (settled_sector_state_at c.args.sector_states.now c.args.count) c.args.sector_states.now c.loop-i.sector_states c.loop-i.i c.loop-i.invariant.so_far Free (omega (arith, within, c.loop-i.auto.sector_states)) in
    let is : c.settled_sector_state.result ≡ settled_sector_state_at c.args.sector_states.now c.args.count c.loop-i.i =
    c.settled_sector_state.ensures
    ∙ ap (λ (n : ℕ). settled_sector_state (nat_lt n c.args.count) (slice_index_or c.loop-i.sector_states c.loop-i.i Free)) c.loop-i.invariant.gaps
    ∙ ap (λ (x : SectorState). settled_sector_state (nat_lt (gaps_in c.args.sector_states.now c.loop-i.i) c.args.count) x) same in
    let so_far = one_placed (settled_sector_state_at c.args.sector_states.now c.args.count) c.args.sector_states.now c.loop-i.sector_states c.loop-i.i c.loop-i.invariant.so_far c.settled_sector_state.result (omega (arith, within, c.loop-i.auto.sector_states)) is in
    elim c.if-not-is_kept.branch [
      | then-not-is_kept w ↦ record {
        so_far = so_far;
        gaps = gap_more c.args.sector_states.now c.loop-i.i c.loop-i.gaps c.if-not-is_kept.gaps c.loop-i.invariant.gaps w.gaps-is (sym (ap is_kept same) ∙ sym c.is_kept.ensures ∙ w.if-not-is_kept.true);
        few = omega (arith, c.loop-i.invariant.few, w.gaps-is);
      }
      | else-not-is_kept w ↦ record {
        so_far = so_far;
        gaps = gap_same c.args.sector_states.now c.loop-i.i c.loop-i.gaps c.if-not-is_kept.gaps c.loop-i.invariant.gaps w.gaps-is (sym (ap is_kept same) ∙ sym c.is_kept.ensures ∙ w.if-not-is_kept.false);
        few = omega (arith, c.loop-i.invariant.few, w.gaps-is);
      }
    ]

pub returns : goal.returns
returns c =
    all_placed (settled_sector_state_at c.args.sector_states.now c.args.count) c.args.sector_states.now c.loop-i.sector_states c.loop-i.i c.loop-i.invariant.so_far
    (omega (arith, c.loop-i-test.false, c.loop-i.auto.sector_states)) (omega (arith, c.loop-i.auto.i-end, c.loop-i.auto.sector_states))
