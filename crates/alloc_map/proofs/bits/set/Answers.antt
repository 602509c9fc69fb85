use Rattle.std.proofs.Common.{◌-◌, ◌/◌, ◌%◌, arith, sym, ◌∙◌, eq-eqb, ne_eqb, get_or, w8}
use Rattle.std.proofs.lemmas.Nat.Bits.{bit_at_set_same, bit_at_set_other, bit_at_clear_same, bit_at_clear_other}
use Rattle.alloc_map.proofs.BitLemmas.{marked_one}
use Rattle.alloc_map.proofs.bits.set.Goals as goal

pub returns-then-used : goal.returns-then-used
returns-then-used c =
    let s = c.args.sector in
    let byte = get_or c.args.page.now (s / 8) 0 in
    marked_one c.args.used c.args.page.now s _ (omega (arith, c.requires, c.told-page))
    (eq-eqb _ 1 (bit_at_set_same w8 byte (7 - s % 8) (omega arith)) ∙ sym c.if-used.true)
    (λ i below other. bit_at_set_other w8 byte (7 - s % 8) (omega arith) i other)

pub returns-else-used : goal.returns-else-used
returns-else-used c =
    let s = c.args.sector in
    let byte = get_or c.args.page.now (s / 8) 0 in
    marked_one c.args.used c.args.page.now s _ (omega (arith, c.requires, c.told-page))
    (ne_eqb _ 1 (λ one. omega (arith, one, bit_at_clear_same w8 byte (7 - s % 8) (omega arith))) ∙ sym c.if-used.false)
    (λ i below other. bit_at_clear_other w8 byte (7 - s % 8) (omega arith) i below other)
