use Rattle.std.proofs.Common.{◌≡◌, ◌+◌, ◌∙◌, ℕ, List, refl, ap, sym, subst, arith}
use Rattle.flat_mem.specs.Vec.{vec_mem_bytes}
use Rattle.alloc_map.specs.Bits.{is_used}
use Rattle.volume_view.specs.BitRuns.{AreCompared}
use Rattle.volume_view.specs.Bits.{taken}
use Rattle.volume_view.specs.declared.bit_runs.BitRun.{BitRun}
use Rattle.volume_view.proofs.BitRunLemmas.{compared_none, compared_same}
use Rattle.volume_view.proofs.bits.compare_bits.Goals as goal
use Rattle.volume_view.proofs.bits.compare_bits.Goals.{then-differ+in_ok-add_sector, else-differ}

pub loop-sector-preserved : goal.loop-sector-preserved
loop-sector-preserved g c =
    let says = is_used (vec_mem_bytes c.args.map.now) in
    let right = taken c.args.first c.args.labels.now in
    let so_far = c.loop-sector.invariant in
    let used : c.is_used-used.result ≡ says c.loop-sector.sector = c.is_used-used.ensures.used ∙ ap (λ (b : List ℕ). is_used b c.loop-sector.sector) so_far.same in
    record {
      same = c.is_used-used.ensures.same ∙ so_far.same;
      compared = elim c.if-differ.branch [
        | then-differ+in_ok-add_sector w ↦
            subst (λ (l : List BitRun). AreCompared says right (c.loop-sector.sector + 1) l) (sym (ap (λ v. v.items) w.runs-is))
            (w.in_ok-add_sector.ensures says right so_far.compared record { map_says = sym used; other = λ same. c.differ.ensures.yes w.if-differ.true (c.is_taken.ensures ∙ same) })
        | else-differ w ↦
            subst (λ (l : List BitRun). AreCompared says right (c.loop-sector.sector + 1) l) (sym (ap (λ v. v.items) w.runs-is))
            (compared_same says right c.loop-sector.sector c.loop-sector.runs.items so_far.compared (sym used ∙ c.differ.ensures.no w.if-differ.false ∙ c.is_taken.ensures))
      ];
    }

pub loop-sector-init : goal.loop-sector-init
loop-sector-init g c = record { same = refl; compared = subst (λ (l : List BitRun). AreCompared (is_used (vec_mem_bytes c.args.map.now)) (taken c.args.first c.args.labels.now) 0 l) (sym c.new-runs.ensures.items) (compared_none (is_used (vec_mem_bytes c.args.map.now)) (taken c.args.first c.args.labels.now)) }

pub returns : goal.returns
returns g c =
    let all : c.loop-sector.sector ≡ c.args.end = omega (arith, c.loop-sector-test.false, c.loop-sector.auto.sector-end) in
    subst (λ (n : ℕ). AreCompared (is_used (vec_mem_bytes c.args.map.now)) (taken c.args.first c.args.labels.now) n c.loop-sector.runs.items) all c.loop-sector.invariant.compared
