use Rattle.std.proofs.Common.{◌-◌, ◌+◌, ◌/◌, ◌%◌, ◌<◌, ◌≤◌, true, arith, sym, ◌∙◌, ap}
use Rattle.alloc_map.specs.Bits.{AreAll}
use Rattle.alloc_map.proofs.BitLemmas.{all_one, byte_of_ones, free_in_le, count_skips, count_one, count_none}
use Rattle.alloc_map.proofs.WordLemmas.{count_frees}
use Rattle.alloc_map.proofs.bits.count_free.Goals as goal
use Rattle.alloc_map.proofs.bits.count_free.Goals.{then-not-is_used, else-not-is_used}

pub counting-init : goal.counting-init
counting-init c = record { order = omega arith; inside = c.requires.order; count = sym (count_none c.args.page.now c.args.from) }

pub counting-preserved-then-page-at : goal.counting-preserved-then-page-at
counting-preserved-then-page-at c =
    let at = c.counting.at in
    let below : at < c.args.end = omega (arith, c.counting-test.true) in
    let more : at ≤ c.min-at-then-page-at.result = omega (arith, c.min-at-then-page-at.ensures, below) in
    let near : c.min-at-then-page-at.result ≤ at - at % 8 + 8 = omega (arith, c.min-at-then-page-at.ensures) in
    let all : AreAll true c.args.page.now at c.min-at-then-page-at.result = λ s above early. byte_of_ones c.args.page.now (at / 8) s c.if-page-at.true (omega (arith, above, early, near)) in
    record {
      order = omega (arith, more, c.counting.invariant.order);
      inside = omega (arith, c.min-at-then-page-at.ensures);
      count = c.counting.invariant.count ∙ sym (count_skips c.args.page.now c.args.from at c.min-at-then-page-at.result c.counting.invariant.order more all);
    }

pub overflow_add-count-then-not-is_used : goal.overflow_add-count-then-not-is_used
overflow_add-count-then-not-is_used c = omega (arith, c.counting.invariant.count, free_in_le c.args.page.now c.args.from (c.counting.at - c.args.from), c.counting-test.true, c.requires.inside)

pub counting-preserved : goal.counting-preserved
counting-preserved c =
    let at = c.counting.at in
    record {
      order = omega (arith, c.counting.invariant.order);
      inside = omega (arith, c.counting-test.true);
      count = elim c.if-not-is_used.branch [
        | then-not-is_used w ↦
            let free = sym c.is_used.ensures ∙ w.if-not-is_used.true in
            w.count-is ∙ ap (λ x. x + 1) c.counting.invariant.count ∙ sym (count_one c.args.page.now c.args.from at c.counting.invariant.order free)
        | else-not-is_used w ↦
            let used = sym c.is_used.ensures ∙ w.if-not-is_used.false in
            w.count-is ∙ c.counting.invariant.count ∙ sym (count_skips c.args.page.now c.args.from at (at + 1) c.counting.invariant.order (omega arith) (all_one true c.args.page.now at used))
      ];
    }

pub counting-preserved-then-word_at-eq0 : goal.counting-preserved-then-word_at-eq0
counting-preserved-then-word_at-eq0 c = record {
  order = omega (arith, c.counting.invariant.order);
  inside = c.if-at-end.true;
  count = ap (λ x. x + 64) c.counting.invariant.count ∙ sym (count_frees c.args.page.now c.args.from c.counting.at c.counting.invariant.order (c.word_at.ensures.free c.if-word_at-eq0.true));
}

pub overflow_add-count : goal.overflow_add-count
overflow_add-count c = omega (arith, c.counting.invariant.count, free_in_le c.args.page.now c.args.from (c.counting.at - c.args.from), c.counting-test.true, c.requires.inside)

pub counting-preserved-then-word_at : goal.counting-preserved-then-word_at
counting-preserved-then-word_at c =
    let at = c.counting.at in
    let below : at < c.args.end = omega (arith, c.counting-test.true) in
    let more : at ≤ c.min-at.result = omega (arith, c.min-at.ensures, below) in
    let near : c.min-at.result ≤ at + 64 = omega (arith, c.min-at.ensures) in
    let all : AreAll true c.args.page.now at c.min-at.result = λ s above early. c.word_at-then-at-eq0-2.ensures.used c.if-word_at.true s above (omega (arith, early, near)) in
    record {
      order = omega (arith, more, c.counting.invariant.order);
      inside = omega (arith, c.min-at.ensures);
      count = c.counting.invariant.count ∙ sym (count_skips c.args.page.now c.args.from at c.min-at.result c.counting.invariant.order more all);
    }
