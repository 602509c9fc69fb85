-- The interval that a new space lies in, and the handle that it gets.
use Rattle.std.proofs.Common.{◌≡◌, ◌≢◌, ◌⊎◌, inl, inr, ℕ, zero, suc, ◌+◌, ◌*◌, ◌<◌, ◌≤◌, Bool, true, false, cond, List, [], ◌∷◌, ◌++◌, take, drop, length, map, Option, Some, None, refl, sym, ◌∙◌, ap, subst, arith, ◌==◌}
use Rattle.std.specs.Prelude.{slice_get, slice_set, find, nat_le, nat_lt, not, ◌&&◌, is_none, option_map, option_and_then, if◌then◌else◌, unwrap_or}
use Rattle.std.specs.List.{list_any, insert}
use Rattle.std.specs.Bool.{then_some}
use Rattle.std.specs.Option.{option_map_or}
use Rattle.std.proofs.lemmas.Option.{same_Some, none-some, slice_get_past}
use Rattle.std.proofs.lemmas.Bool.{cases_eq, true≢false}
use Rattle.std.proofs.lemmas.Bool.Decides.{nat_tests}
use Rattle.flat_machine.specs.declared.call.Refusal.TheVariants as why
use Rattle.flat_machine.specs.declared.space.Space.{Space}
use Rattle.flat_machine.specs.Space.{root, root_pages, space_at, end}
use Rattle.flat_machine.specs.Refusal.{fits, lowest_gap, first_of}
use Rattle.flat_machine.specs.Next.{first_page_for, lowest_unused, is_unused, put_space}
use Rattle.projection_laws.specs.Sight.{Interval, end_of}
use Rattle.projection_laws.specs.Slots.{listed, AreNumbered}
use Rattle.projection_laws.specs.Laws.{is_gap}
use Rattle.projection_laws.specs.Tests.{no_place, no_spaces}
use Rattle.projection_laws.specs.Edits.{replaced, some_pages, pieces}
use Rattle.projection_laws.proofs.SlotLemmas.{slot_found, slot_free}
use Rattle.projection_laws.proofs.Gaps.{fits_in_one, gap_is_first}
use Rattle.projection_laws.proofs.Inside.{in_the_root}
use Rattle.flat_machine.proofs.Lists.{find_in}
use Rattle.swap_units.specs.Unit.{has_page}
use Rattle.space_tables.proofs.ReadBack.{held}
use Rattle.space_tables.specs.Scan.{AreTaken, IsLowestFree, IsFirstGap, ends_in}
use Rattle.space_tables.specs.Stored.{AreRight}
use Rattle.space_tables.specs.Change.{put_in}

-- ---- a pass over the intervals

next_is : (h : ℕ) → suc h ≡ h + 1
next_is h = omega arith

module _ (test : Interval → Bool) where
  pub gap_here : (xs : List Interval) (k : ℕ) (x : Interval) → slice_get xs k ≡ Some x → test x ≡ true → find test (drop k xs) ≡ Some x
  gap_here [] k x e is = absurd (none-some x e)
  gap_here (y ∷ ys) zero x e is =
      let same = same_Some y x e in ap (λ (b : Bool). cond b (Some y) (find test ys)) (ap test same ∙ is) ∙ ap Some same
  gap_here (y ∷ ys) (suc k) x e is = gap_here ys k x e is

  after : (xs : List Interval) (k : ℕ) (x : Interval) → slice_get xs k ≡ Some x → test x ≡ false → find test (drop k xs) ≡ find test (drop (suc k) xs)
  after [] k x e is = absurd (none-some x e)
  after (y ∷ ys) zero x e is = ap (λ (b : Bool). cond b (Some y) (find test ys)) (ap test (same_Some y x e) ∙ is)
  after (y ∷ ys) (suc k) x e is = after ys k x e is

  pub gap_later : (xs : List Interval) (k : ℕ) (x : Interval) → slice_get xs k ≡ Some x → test x ≡ false → find test (drop k xs) ≡ find test (drop (k + 1) xs)
  gap_later xs k x e is = after xs k x e is ∙ ap (λ (n : ℕ). find test (drop n xs)) (next_is k)

  nothing_left : (n : ℕ) (xs : List Interval) → length xs ≤ n → drop n xs ≡ []
  nothing_left zero [] l = refl
  nothing_left zero (x ∷ xs) l = absurd (omega (arith, l))
  nothing_left (suc n) [] l = refl
  nothing_left (suc n) (x ∷ xs) l = nothing_left n xs (omega (arith, l))

  pub no_gap_left : (xs : List Interval) (n : ℕ) → length xs ≤ n → find test (drop n xs) ≡ None
  no_gap_left xs n l = ap (find test) (nothing_left n xs l)

-- ---- the tests on a place

middle : (a b c : Bool) → b ≡ false → (a && b && c) ≡ false
middle true true c e = absurd (true≢false e)
middle false true c e = absurd (true≢false e)
middle true false c e = refl
middle false false c e = refl

above : (a b : ℕ) → b < a → nat_le a b ≡ false
above a b l = grind (arith, nat_tests)

module _ (slots : List (Option Space)) (xs : List Interval) (r : AreRight slots xs) (p : Space) (h : ℕ) (at : space_at (listed slots) h ≡ Some p) (own : p.handle ≡ h) (pages : ℕ) (some : 1 ≤ pages) where
  there : space_at (listed slots) p.handle ≡ Some p
  there = ap (space_at (listed slots)) own ∙ at

  gap_is : lowest_gap (listed slots) p pages ≡ option_map (λ (i : Interval). i.first) (find (is_gap h pages) xs)
  gap_is = gap_is_first (listed slots) xs p pages r.spaces r.intervals there some ∙ ap (λ (n : ℕ). option_map (λ (i : Interval). i.first) (find (is_gap n pages) xs)) own

  pub gap_found : (i : Interval) → find (is_gap h pages) xs ≡ Some i → (no_place (listed slots) h pages None ≡ None) × (i.first ≡ first_page_for (listed slots) h pages None)
  gap_found i e =
      let gap : lowest_gap (listed slots) p pages ≡ Some i.first = gap_is ∙ ap (option_map (λ (i : Interval). i.first)) e in (
        ap (λ (o : Option Space). option_and_then (λ (p : Space). then_some (is_none (lowest_gap (listed slots) p pages)) why.Gap) o) at ∙ ap (λ (o : Option ℕ). then_some (is_none o) why.Gap) gap,
        sym (ap (λ (o : Option Space). option_map_or (λ (p : Space). unwrap_or (lowest_gap (listed slots) p pages) 0) o 0) at ∙ ap (λ (o : Option ℕ). unwrap_or o 0) gap),
      )

  pub no_gap_found : find (is_gap h pages) xs ≡ None → no_place (listed slots) h pages None ≡ Some why.Gap
  no_gap_found e =
      let gap : lowest_gap (listed slots) p pages ≡ None = gap_is ∙ ap (option_map (λ (i : Interval). i.first)) e in
      ap (λ (o : Option Space). option_and_then (λ (p : Space). then_some (is_none (lowest_gap (listed slots) p pages)) why.Gap) o) at ∙ ap (λ (o : Option ℕ). then_some (is_none o) why.Gap) gap

  place_is : (first : ℕ) (b : Bool) → fits (listed slots) p pages first ≡ b → no_place (listed slots) h pages (Some first) ≡ then_some (not b) why.Range
  place_is first b e =
      ap (λ (o : Option Space). option_and_then (λ (p : Space). then_some (not (fits (listed slots) p pages first)) why.Range) o) at ∙ ap (λ (b : Bool). then_some (not b) why.Range) e

  pub place_found : (k first : ℕ) (i : Interval) → slice_get xs k ≡ Some i → has_page first i ≡ true → (b : Bool) → ends_in h pages first i ≡ b
      → no_place (listed slots) h pages (Some first) ≡ then_some (not b) why.Range
  place_found k first i e has b is =
      let low = (held i first has).0 in
      let high = (held i first has).1 in
      place_is first b (fits_in_one (listed slots) xs k i p pages first r.spaces r.intervals there e low high some ∙ ap (λ (n : ℕ). ends_in n pages first i) own ∙ is)

  pub past_root : (first : ℕ) → root_pages ≤ first → no_place (listed slots) h pages (Some first) ≡ Some why.Range
  past_root first l =
      let inside = (in_the_root (listed slots) r.spaces p (find_in (λ t. t.handle == h) (listed slots) p at).0).last in
      place_is first false (middle _ (nat_le (first + pages) (end p)) _ (above (first + pages) (end p) (omega (arith, l, some, inside))))
