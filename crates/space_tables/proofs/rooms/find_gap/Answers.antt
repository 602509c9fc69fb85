use Rattle.std.proofs.Common.{◌≡◌, inl, inr, ℕ, zero, suc, ◌+◌, ◌<◌, ◌≤◌, Bool, true, false, cond, List, [], ◌∷◌, length, Option, Some, None, refl, sym, ◌∙◌, ap, subst, arith, ◌*◌, ◌/◌}
use Rattle.std.specs.Prelude.{IfSome, slice_get, find, if◌then◌else◌}
use Rattle.std.proofs.lemmas.Bool.{cases_lt, true≢false}
use Rattle.std.proofs.lemmas.Option.{same_Some, none-some, slice_get_within}
use Rattle.flat_machine.specs.declared.space.Space.{Space}
use Rattle.projection_laws.specs.Laws.{is_gap}
use Rattle.projection_laws.specs.Sight.{Interval}
use Rattle.projection_laws.specs.Stored.{interval_in}
use Rattle.projection_laws.proofs.Codes.{interval_reads_back}
use Rattle.space_tables.specs.declared.rooms.Room.{Room}
use Rattle.space_tables.specs.Form.{BreaksProjection, interval_record, in_form, interval_page}
use Rattle.space_tables.specs.Scan.{IsFirstGap}
use Rattle.space_tables.specs.Stored.{AreTables, IsReadable}
use Rattle.space_tables.proofs.ReadBack.{get_or_at, one_read}
use Rattle.std.proofs.lemmas.Nat.{mul-le}
use Rattle.flat_mem.specs.Memory.{part}
use Rattle.space_tables.proofs.Passes.{paid_all, paid_more}
use Rattle.space_tables.proofs.PageLemmas.{goes_on}
use Rattle.space_tables.proofs.rooms.find_gap.Given as given
use Rattle.space_tables.proofs.rooms.find_gap.Goals as goal
use Rattle.space_tables.proofs.rooms.find_gap.Goals.{In_ok-load_page, In-Some-found}

-- no record of an interval from an index on, before another, is one of the space that has so many pages
abbrev HasNoGap : ℕ → ℕ → List ℕ → ℕ → ℕ → Type 0
HasNoGap parent pages b from end = (k : ℕ) → from ≤ k → k < end → is_gap parent pages (interval_in (interval_record b k)) ≡ false

-- nor is one of two parts
both_parts : (parent pages : ℕ) (b : List ℕ) (from mid end : ℕ) → HasNoGap parent pages b from mid → HasNoGap parent pages b mid end → HasNoGap parent pages b from end
both_parts parent pages b from mid end first next = λ k low below. elim (cases_lt k mid) [
  | inl early ↦ first k low early
  | inr late ↦ next k late below
]

-- what holds of what is there
of_some : {A : Type 0} (P : A → Type 0) (o : Option (Option A)) (q : Option A) (x : A) → o ≡ Some q → q ≡ Some x → IfSome o (λ p. IfSome p P) → P x
of_some {A = A} P o q x is same h = subst (λ (p : Option A). IfSome p P) same (subst (λ (r : Option (Option A)). IfSome r (λ p. IfSome p P)) is h)

module _ (test : Interval → Bool) where
  -- none passes the test
  none_found : (xs : List Interval) → ((k : ℕ) (x : Interval) → slice_get xs k ≡ Some x → test x ≡ false) → find test xs ≡ None
  none_found [] none = refl
  none_found (x ∷ xs) none = ap (λ (b : Bool). cond b (Some x) (find test xs)) (none 0 x refl) ∙ none_found xs (λ k y there. none (suc k) y there)

  -- the first that does
  first_found : (xs : List Interval) (k : ℕ) (x : Interval) → slice_get xs k ≡ Some x → test x ≡ true → ((j : ℕ) (y : Interval) → j < k → slice_get xs j ≡ Some y → test y ≡ false) → find test xs ≡ Some x
  first_found [] k x there is before = absurd (none-some x there)
  first_found (y ∷ ys) zero x there is before =
      let same = same_Some y x there in ap (λ (b : Bool). cond b (Some y) (find test ys)) (ap test same ∙ is) ∙ ap Some same
  first_found (y ∷ ys) (suc k) x there is before =
      ap (λ (b : Bool). cond b (Some y) (find test ys)) (before 0 y (omega arith) refl)
      ∙ first_found ys k x there is (λ j z below at. before (suc j) z (omega (arith, below)) at)

module _ (b : List ℕ) (slots : List (Option Space)) (xs : List Interval) (are : AreTables b slots xs) (ok : (k : ℕ) (x : Interval) → slice_get xs k ≡ Some x → IsReadable x) where
  -- each record of an interval that stands there reads back
  is_readable : (count : ℕ) → length xs ≡ count → (page : ℕ) → BreaksProjection count b page → ⊥
  is_readable count long page broken =
      let at = get_or_at xs broken.0 (let below = broken.1.counted in omega (arith, below, long)) in
      let read = one_read b slots xs are broken.0 (interval_record b broken.0) at.0 at.1 (ok broken.0 at.0 at.1) refl in
      none_some_if _ _ at.0 broken.1.breaks read
    where
      none_some_if : (t : Bool) (x y : Interval) → t ≡ false → (if t then Some x else None) ≡ Some y → ⊥
      none_some_if true x y is e = absurd (true≢false is)
      none_some_if false x y is e = none-some y e

  module _ (parent pages : ℕ) where
    -- what the record says
    says : (k : ℕ) (x : Interval) → slice_get xs k ≡ Some x → interval_in (interval_record b k) ≡ x
    says k x there = ap interval_in (are.projection k x there) ∙ (interval_reads_back x (ok k x there).1).0

    test_is : (k : ℕ) (x : Interval) → slice_get xs k ≡ Some x → is_gap parent pages (interval_in (interval_record b k)) ≡ is_gap parent pages x
    test_is k x there = ap (is_gap parent pages) (says k x there)

    no_gap_there : (count : ℕ) → length xs ≡ count → HasNoGap parent pages b 0 count → find (is_gap parent pages) xs ≡ None
    no_gap_there count long none = none_found (is_gap parent pages) xs (λ k x there.
        let below = slice_get_within xs k x there in
        sym (test_is k x there) ∙ none k (omega arith) (omega (arith, below, long)))

    gap_there : (r : Room) → r.index < length xs → r.interval ≡ interval_in (interval_record b r.index) → is_gap parent pages r.interval ≡ true → r.first ≡ r.interval.first
        → HasNoGap parent pages b 0 r.index → IsFirstGap parent pages xs (Some r)
    gap_there r below read is first none =
        let at = get_or_at xs r.index below in
        let same : at.0 ≡ r.interval = sym (read ∙ says r.index at.0 at.1) in
        let there : slice_get xs r.index ≡ Some r.interval = at.1 ∙ ap Some same in
        (there, first_found (is_gap parent pages) xs r.index r.interval there is (λ j y early e. sym (test_is j y e) ∙ none j (omega arith) early), first)

pub scan-init : goal.scan-init
scan-init g c = record {
  of_page = λ some. omega arith;
  few = omega arith;
  none = λ b h k low below. absurd (omega (arith, low, below));
  unchanged = λ b h. h;
  kept = g.met.M.FlatMem.beside_itself c.args.mem.now;
  looked = g.met.M.FlatMem.only_reads_itself c.args.mem.now;
  cost = omega arith;
}

-- the page that was read is that of the indices
at_hand : (g : given.Over) (c : In_ok-load_page g) (b : List ℕ) → g.M.FlatMem.reveals c.args.mem.now b → c.load_page.new.page ≡ interval_page b c.scan.index
at_hand g c b revealed = c.in_ok-load_page.ensures.read b (c.scan.invariant.unchanged b revealed) ∙ ap (λ (n : ℕ). part b (512 * (32 + n)) 512) (sym (c.scan.invariant.of_page c.scan-test.true))

few_pages : (from end number : ℕ) → from < end → from / 16 ≡ number → end ≤ 1023 → number + 1 ≤ 1023
few_pages from end number some page inside = omega (arith, some, page, inside)

pub load_page-requires-clause-inside : goal.load_page-requires-clause-inside
load_page-requires-clause-inside g c = omega (arith, c.scan-test.true, c.scan.invariant.of_page c.scan-test.true, c.requires.few)

pub gap_on-requires-clause-inside : goal.gap_on-requires-clause-inside
gap_on-requires-clause-inside g c = omega (arith, c.page_end-end.ensures.within.0, c.requires.few)

pub gap_on-requires-clause-page : goal.gap_on-requires-clause-page
gap_on-requires-clause-page g c = omega (arith, c.page_end-end.ensures.within.1, c.scan.invariant.of_page c.scan-test.true)

pub returns-in_err-load_page-clause-cost : goal.returns-in_err-load_page-clause-cost
returns-in_err-load_page-clause-cost g c = paid_all c.scan.number 1023 g.M.FlatMem.cost _ _ _ c.scan.invariant.cost c.load_page.ensures.cost
    (few_pages c.scan.index c.args.count c.scan.number c.scan-test.true (c.scan.invariant.of_page c.scan-test.true) c.requires.few)

-- ---- A record that breaks its form.

pub returns-in_default-clause-found : goal.returns-in_default-clause-found
returns-in_default-clause-found g c = λ slots xs h long ok.
    let page = at_hand g (goal.at.returns-in_default-clause-found g c).In_ok-load_page h.bytes h.revealed in
    is_readable h.bytes slots xs h.are ok c.args.count long _ (c.gap_on.ensures.malformed h.bytes c.args.count page c.page_end-end.ensures.within.0 c.in_default.is)

pub returns-in_default-clause-malformed : goal.returns-in_default-clause-malformed
returns-in_default-clause-malformed g c = λ b revealed.
    let page = at_hand g (goal.at.returns-in_default-clause-malformed g c).In_ok-load_page b revealed in
    subst (λ (n : ℕ). BreaksProjection c.args.count b (32 + n)) (c.scan.invariant.of_page c.scan-test.true) (c.gap_on.ensures.malformed b c.args.count page c.page_end-end.ensures.within.0 c.in_default.is)

pub returns-in_default-clause-cost : goal.returns-in_default-clause-cost
returns-in_default-clause-cost g c = paid_all c.scan.number 1023 g.M.FlatMem.cost _ _ _ c.scan.invariant.cost c.load_page.ensures.cost
    (few_pages c.scan.index c.args.count c.scan.number c.scan-test.true (c.scan.invariant.of_page c.scan-test.true) c.requires.few)

-- ---- The room.

-- what is known of the room that the page has
in_page : (g : given.Over) (c : In-Some-found g) → (c.in-Some-found.room.index < c.page_end-end.result) × (in_form c.in-Some-found.room.interval ≡ true) × (is_gap c.args.parent c.args.pages c.in-Some-found.room.interval ≡ true)
    × (c.in-Some-found.room.first ≡ c.in-Some-found.room.interval.first)
in_page g c = of_some (λ (r : Room). (r.index < c.page_end-end.result) × (in_form r.interval ≡ true) × (is_gap c.args.parent c.args.pages r.interval ≡ true) × (r.first ≡ r.interval.first))
    c.gap_on.result c.in-Some.found c.in-Some-found.room c.in-Some.is c.in-Some-found.is c.gap_on.ensures.form

-- what its records say of it
abbrev IsRoomFrom : ℕ → ℕ → List ℕ → ℕ → Room → Type 0
IsRoomFrom parent pages b from r = (from ≤ r.index) × (r.interval ≡ interval_in (interval_record b r.index)) × ((k : ℕ) → from ≤ k → k < r.index → is_gap parent pages (interval_in (interval_record b k)) ≡ false)

page_gap : (g : given.Over) (c : In-Some-found g) (b : List ℕ) → c.load_page.new.page ≡ interval_page b c.scan.index → IsRoomFrom c.args.parent c.args.pages b c.scan.index c.in-Some-found.room
page_gap g c b page = of_some (IsRoomFrom c.args.parent c.args.pages b c.scan.index) c.gap_on.result c.in-Some.found c.in-Some-found.room c.in-Some.is c.in-Some-found.is (c.gap_on.ensures.room b page)

pub returns-in-Some-found-clause-found : goal.returns-in-Some-found-clause-found
returns-in-Some-found-clause-found g c = λ slots xs h long ok.
    let found = (goal.at.returns-in-Some-found-clause-found g c).In-Some-found in
    let page = at_hand g (goal.at.returns-in-Some-found-clause-found g c).In_ok-load_page h.bytes h.revealed in
    let gap = page_gap g found h.bytes page in
    let form = in_page g found in
    let none = both_parts c.args.parent c.args.pages h.bytes 0 c.scan.index c.in-Some-found.room.index (c.scan.invariant.none h.bytes h.revealed) gap.2 in
    gap_there h.bytes slots xs h.are ok c.args.parent c.args.pages c.in-Some-found.room (omega (arith, long, form.0, c.page_end-end.ensures.within.0)) gap.1 form.2 form.3 none

pub returns-in-Some-found-clause-form : goal.returns-in-Some-found-clause-form
returns-in-Some-found-clause-form g c =
    let form = in_page g (goal.at.returns-in-Some-found-clause-form g c).In-Some-found in (omega (arith, form.0, c.page_end-end.ensures.within.0), form.1, form.2, form.3)

pub returns-in-Some-found-clause-read : goal.returns-in-Some-found-clause-read
returns-in-Some-found-clause-read g c = λ b revealed.
    let page = at_hand g (goal.at.returns-in-Some-found-clause-read g c).In_ok-load_page b revealed in
    (page_gap g (goal.at.returns-in-Some-found-clause-read g c).In-Some-found b page).1

pub returns-in-Some-found-clause-cost : goal.returns-in-Some-found-clause-cost
returns-in-Some-found-clause-cost g c = paid_all c.scan.number 1023 g.M.FlatMem.cost _ _ _ c.scan.invariant.cost c.load_page.ensures.cost
    (few_pages c.scan.index c.args.count c.scan.number c.scan-test.true (c.scan.invariant.of_page c.scan-test.true) c.requires.few)

pub scan-preserved : goal.scan-preserved
scan-preserved g c = record {
  of_page = λ below. goes_on c.args.count c.scan.number c.page_end-end.result c.page_end-end.ensures.last below;
  few = omega (arith, few_pages c.scan.index c.args.count c.scan.number c.scan-test.true (c.scan.invariant.of_page c.scan-test.true) c.requires.few, c.scan-test.true, c.scan.invariant.of_page c.scan-test.true, c.requires.few);
  none = λ b h.
      let page = at_hand g (goal.at.scan-preserved g c).In_ok-load_page b h in
      let gap = c.gap_on.ensures.none b page (c.in-Some.is ∙ ap Some c.in_default-found.is) in
      both_parts c.args.parent c.args.pages b 0 c.scan.index c.page_end-end.result (c.scan.invariant.none b h) gap;
  unchanged = λ b h. c.load_page.ensures.unchanged b (c.scan.invariant.unchanged b h);
  kept = g.met.M.FlatMem.beside_through _ _ _ c.scan.invariant.kept c.load_page.ensures.kept;
  looked = g.met.M.FlatMem.only_reads_through _ _ _ c.scan.invariant.looked c.load_page.ensures.looked;
  cost = paid_more c.scan.number g.M.FlatMem.cost _ _ _ c.scan.invariant.cost c.load_page.ensures.cost;
}

-- ---- None.

pub returns-clause-found : goal.returns-clause-found
returns-clause-found g c = λ slots xs h long ok.
    no_gap_there h.bytes slots xs h.are ok c.args.parent c.args.pages c.args.count long (λ k low below. c.scan.invariant.none h.bytes h.revealed k low (omega (arith, below, c.scan-test.false)))

pub returns-clause-cost : goal.returns-clause-cost
returns-clause-cost g c = let p = mul-le c.scan.number g.M.FlatMem.cost 1023 g.M.FlatMem.cost (omega (arith, c.scan.invariant.few)) (omega arith) in omega (arith, p, c.scan.invariant.cost)
