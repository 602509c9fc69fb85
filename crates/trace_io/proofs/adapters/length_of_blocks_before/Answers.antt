use Rattle.std.proofs.Common.{◌≡◌, ◌+◌, ◌-◌, ◌∙◌, eqb, false, take, drop, sym, ap, arith}
use Rattle.std.specs.List.{list_any}
use Rattle.trace_io.proofs.Copies.{misses_none, misses_both}
use Rattle.trace_io.proofs.adapters.length_of_blocks_before.Goals as goal

pub loop-length-preserved : goal.loop-length-preserved
loop-length-preserved c =
    let bytes = c.args.bytes.now in
    let n = c.loop-length.length in
    let size : (n + 16) - n ≡ 16 = omega arith in
    let none : list_any (λ b. eqb b c.args.stop) (take 16 (drop n bytes)) ≡ false = ap (λ k. list_any (λ b. eqb b c.args.stop) (take k (drop n bytes))) (sym size) ∙ sym c.has.ensures ∙ c.if-not-has.true in
    (omega arith, misses_both c.args.stop n 16 bytes c.loop-length.invariant.1 (misses_none c.args.stop (take 16 (drop n bytes)) none))
