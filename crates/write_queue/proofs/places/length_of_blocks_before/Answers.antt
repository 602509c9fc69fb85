use Rattle.std.proofs.Common.{◌≡◌, ◌+◌, ◌-◌, ◌∙◌, eqb, false, take, drop, sym, ap, arith}
use Rattle.std.specs.List.{list_any}
use Rattle.write_queue.proofs.PlaceLemmas.{misses_none, misses_both}
use Rattle.write_queue.proofs.places.length_of_blocks_before.Goals as goal

pub loop-length-preserved : goal.loop-length-preserved
loop-length-preserved c =
    let sectors = c.args.sectors.now in
    let n = c.loop-length.length in
    let size : (n + 32) - n ≡ 32 = omega arith in
    let none : list_any (λ s. eqb s c.args.sector) (take 32 (drop n sectors)) ≡ false = ap (λ k. list_any (λ s. eqb s c.args.sector) (take k (drop n sectors))) (sym size) ∙ sym c.has.ensures ∙ c.if-not-has.true in
    (omega arith, misses_both c.args.sector n 32 sectors c.loop-length.invariant.1 (misses_none c.args.sector (take 32 (drop n sectors)) none))
