-- The intervals that a core keeps are intervals of one projection: two that share a page are the same.
use Rattle.std.proofs.Common.{◌≡◌, inl, inr, ℕ, ◌<◌, List, Some, sym, ◌∙◌, ap, arith}
use Rattle.std.specs.Prelude.{slice_get}
use Rattle.std.proofs.lemmas.Bool.{cases_eq, cases_lt}
use Rattle.std.proofs.lemmas.Option.{same_Some}
use Rattle.flat_machine.specs.declared.space.Space.{Space}
use Rattle.flat_machine.specs.Machine.{Machine}
use Rattle.swap_units.specs.declared.interval.Interval.{Interval}
use Rattle.swap_units.specs.Unit.{Holds}
use Rattle.projection_laws.proofs.Finds.{firsts_are_ascending}
use Rattle.projection_laws.proofs.OneLemmas.{intervals_are_one}
use Rattle.file_manager.specs.declared.volume.Volume.{Volume}
use Rattle.fault_core.specs.Kept.{AreApart}
use Rattle.fault_core.specs.Revealed.{IsIntervalOf}
use Rattle.filer_kernel.specs.View.{View}
use Rattle.running_words.specs.Running.{IsRunning}

-- intervals of the same spaces that share a page
sharing_one : (spaces : List Space) (x y : Interval) (page : ℕ) → IsIntervalOf spaces x → IsIntervalOf spaces y → Holds x page → Holds y page → x ≡ y
sharing_one spaces x y page of_x of_y in_x in_y =
    let one : of_x.xs ≡ of_y.xs = intervals_are_one spaces of_x.xs of_y.xs of_x.projection of_y.projection in
    let there : slice_get of_y.xs of_x.index ≡ Some x = ap (λ (l : List Interval). slice_get l of_x.index) (sym one) ∙ of_x.there in
    let rise = firsts_are_ascending spaces of_y.xs of_y.projection in
    let from_x = in_x.0 in
    let below_x = in_x.1 in
    let from_y = in_y.0 in
    let below_y = in_y.1 in
    elim (cases_eq of_x.index of_y.index) [
      | inl same ↦ same_Some x y (sym there ∙ ap (slice_get of_y.xs) same ∙ of_y.there)
      | inr other ↦ elim (cases_lt of_x.index of_y.index) [
        | inl before ↦ let ends = rise.rises of_x.index of_y.index x y before there of_y.there in absurd (omega (arith, ends, below_x, from_y))
        | inr not_before ↦
            let after : of_y.index < of_x.index = omega (arith, other, not_before) in
            let ends = rise.rises of_y.index of_x.index y x after of_y.there there in
            absurd (omega (arith, ends, below_y, from_x))
      ]
    ]

pub apart : (v : View) (kept : List Interval) (count : ℕ) (volume : Volume) (m : Machine) → IsRunning v kept count volume m → AreApart kept
apart v kept count volume m r x y page one other in_x in_y = sharing_one m.spaces x y page (r.cached x one) (r.cached y other) in_x in_y
