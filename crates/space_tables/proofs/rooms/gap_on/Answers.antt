use Rattle.std.proofs.Common.{◌≡◌, inl, inr, ℕ, ◌+◌, ◌*◌, ◌/◌, ◌<◌, ◌≤◌, false, List, None, Some, sym, ◌∙◌, ap, arith, rules}
use Rattle.std.proofs.lemmas.Bool.{cases_lt}
use Rattle.std.proofs.lemmas.Option.{none-some, same_Some}
use Rattle.projection_laws.specs.Stored.{interval_in}
use Rattle.projection_laws.specs.Laws.{is_gap}
use Rattle.space_tables.specs.Form.{interval_page, interval_record}
use Rattle.space_tables.proofs.Pages.{same_interval_page}
use Rattle.space_tables.proofs.ReadBack.{none_of, some_of}
use Rattle.space_tables.proofs.rooms.gap_on.Goals as goal

-- no record of an interval from an index on, before another, is one of the space that has so many pages
abbrev HasNoGap : ℕ → ℕ → List ℕ → ℕ → ℕ → Type 0
HasNoGap parent pages b from end = (k : ℕ) → from ≤ k → k < end → is_gap parent pages (interval_in (interval_record b k)) ≡ false

-- one record more is none
one_more : (parent pages : ℕ) (b : List ℕ) (from k : ℕ) → HasNoGap parent pages b from k → is_gap parent pages (interval_in (interval_record b k)) ≡ false → HasNoGap parent pages b from (k + 1)
one_more parent pages b from k none here = λ j low below. elim (cases_lt j k) [
  | inl early ↦ none j low early
  | inr late ↦ let same : j ≡ k = omega (arith, below, late) in ap (λ (n : ℕ). is_gap parent pages (interval_in (interval_record b n))) same ∙ here
]

-- the page has the records of all indices that are looked at
of_page : (b : List ℕ) (from end k : ℕ) (page : List ℕ) → page ≡ interval_page b from → from ≤ k → k < end → end ≤ 16 * (from / 16) + 16 → page ≡ interval_page b k
of_page b from end k page is above below whole = same_interval_page b from end k page is above below whole

pub scan-init : goal.scan-init
scan-init c = record { from = omega arith; none = λ b is k low below. absurd (omega (arith, low, below)) }

pub scan-preserved-then-not-gap_at : goal.scan-preserved-then-not-gap_at
scan-preserved-then-not-gap_at c = record {
  from = omega (arith, c.scan.invariant.from);
  none = λ b is.
      let page = of_page b c.args.from c.args.end c.scan.index c.args.page.now is c.scan.invariant.from c.scan-test.true c.requires.page in
      one_more c.args.parent c.args.pages b c.args.from c.scan.index (c.scan.invariant.none b is) (sym (c.gap_at.ensures.gap b page) ∙ c.if-not-gap_at.true);
}

pub returns-in_err-interval-clause-malformed : goal.returns-in_err-interval-clause-malformed
returns-in_err-interval-clause-malformed c = λ b count is few none.
    let page = of_page b c.args.from c.args.end c.scan.index c.args.page.now is c.scan.invariant.from c.scan-test.true c.requires.page in
    let same : c.scan.index / 16 ≡ c.args.from / 16 = omega (arith, c.scan.invariant.from, c.scan-test.true, c.requires.page) in (
      c.scan.index,
      record {
        counted = omega (arith, few, c.scan-test.true);
        on = omega (arith, same);
        breaks = none_of _ _ (sym c.in_err-interval.was ∙ c.interval_on.ensures.interval b page);
      },
    )

pub returns-then-is_gap-clause-room : goal.returns-then-is_gap-clause-room
returns-then-is_gap-clause-room c = λ b is.
    let page = of_page b c.args.from c.args.end c.scan.index c.args.page.now is c.scan.invariant.from c.scan-test.true c.requires.page in
    (c.scan.invariant.from, some_of _ _ _ (sym c.in_ok-interval.was ∙ c.interval_on.ensures.interval b page), c.scan.invariant.none b is)

pub returns-then-is_gap-clause-none : goal.returns-then-is_gap-clause-none
returns-then-is_gap-clause-none c = λ b is e k low below. absurd (none-some _ (same_Some None (Some _) (sym e)))

pub returns-in_err-interval-clause-none : goal.returns-in_err-interval-clause-none
returns-in_err-interval-clause-none c = λ b is e k low below.
    let gone : c.from_residual.result ≡ None = search rules in absurd (none-some None (sym gone ∙ e))

pub scan-preserved : goal.scan-preserved
scan-preserved c = record {
  from = omega (arith, c.scan.invariant.from);
  none = λ b is.
      let page = of_page b c.args.from c.args.end c.scan.index c.args.page.now is c.scan.invariant.from c.scan-test.true c.requires.page in
      let read = some_of _ _ _ (sym c.in_ok-interval.was ∙ c.interval_on.ensures.interval b page) in
      one_more c.args.parent c.args.pages b c.args.from c.scan.index (c.scan.invariant.none b is) (ap (is_gap c.args.parent c.args.pages) (sym read) ∙ sym c.is_gap.ensures ∙ c.if-is_gap.false);
}

pub returns-clause-none : goal.returns-clause-none
returns-clause-none c = λ b is none k low below. c.scan.invariant.none b is k low (omega (arith, below, c.scan-test.false))
