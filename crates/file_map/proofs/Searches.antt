-- What the last run whose key is at most that of a page, and the first whose key is above, say of all pages.
use Rattle.std.proofs.Common.{◌≡◌, ◌⊎◌, inl, inr, ℕ, suc, ◌<◌, ◌≤◌, ◌^◌, Bool, true, false, ◌||◌, ◌==◌, List, [], ◌∷◌, length, map, Option, Some, is_some, refl, sym, ◌∙◌, ap, subst, arith}
use Rattle.std.proofs.lemmas.Bool.{cases_lt, cases_eq, false≢true, eqb-true, eq-eqb}
use Rattle.std.proofs.lemmas.List.{get_or-map, length-map}
use Rattle.std.proofs.lemmas.List.Folds.{list_any_at}
use Rattle.flat_mem.specs.Order.{entry_at, key_at, at_most, IsLastAtMost, NoneAtMost}
use Rattle.file_map.specs.declared.run.Run.{Run}
use Rattle.file_map.specs.Run.{IsRun, holds, sector_at, key_bytes, run_bytes, run_in, IsRecord}
use Rattle.file_map.specs.FileMap.{AreRuns, run_names, names_triple, run_at, no_run}
use Rattle.page_tree.specs.Answer.{IsLastEntry}
use Rattle.file_map.specs.Entries.{IsFirst}
use Rattle.file_map.specs.Searches.{IsLastRun, IsFirstRun}
use Rattle.file_map.proofs.Keys.{rank, keys_ordered, AreOrdered}
use Rattle.file_map.proofs.Records.{run_back, record_of_run}
use Rattle.file_map.proofs.Runs.{rank_of, HasPage, has_page, and_parts, and_both, key_of_entry, AreSorted, spread}

-- ---- names of a list

-- a run of the list has the page, in this sector
pub record IsNamedBy (runs : List Run) (id page sector : ℕ) : Type 0 where
  pub index : ℕ
  pub below : index < length runs
  pub has : HasPage (run_at runs index) id page
  pub held : holds (run_at runs index) id page ≡ true
  pub place : sector ≡ sector_at (run_at runs index) page

pub run_named : (r : Run) (id page sector : ℕ) → run_names r id page sector ≡ true → (holds r id page ≡ true) × (sector ≡ sector_at r page)
run_named r id page sector h = let parts = and_parts (holds r id page) (sector == sector_at r page) h in (parts.0, eqb-true sector _ parts.1)

pub named_by : (runs : List Run) (id page sector : ℕ) → names_triple runs id page sector ≡ true → IsNamedBy runs id page sector
named_by [] id page sector h = absurd (false≢true h)
named_by (r ∷ rs) id page sector h = elim (bool_cases (run_names r id page sector)) [
  | inl here ↦
      let parts = run_named r id page sector here in
      record { index = 0; below = omega arith; has = has_page r id page parts.0; held = parts.0; place = parts.1 }
  | inr not ↦
      let rest = named_by rs id page sector (or_second _ _ not h) in
      record { index = suc rest.index; below = omega (arith, rest.below); has = rest.has; held = rest.held; place = rest.place }
]
  where
    or_second : (a b : Bool) → a ≡ false → (a || b) ≡ true → b ≡ true
    or_second true b h k = absurd (false≢true (sym h))
    or_second false b h k = k

    bool_cases : (b : Bool) → (b ≡ true) ⊎ (b ≡ false)
    bool_cases true = inl refl
    bool_cases false = inr refl

pub names_at : (runs : List Run) (j id page : ℕ) → j < length runs → holds (run_at runs j) id page ≡ true → names_triple runs id page (sector_at (run_at runs j) page) ≡ true
names_at runs j id page below held =
    list_any_at (λ r. run_names r id page (sector_at (run_at runs j) page)) runs j no_run below (and_both _ _ held (eq-eqb (sector_at (run_at runs j) page) _ refl))

-- ---- searches

module _ (n : ℕ) (runs : List Run) (sorted : AreSorted n runs) (id q : ℕ) (id_fits : id < 2 ^ 64) (q_fits : q < 2 ^ 32) where
  in_order : (j : ℕ) → j < length runs → AreOrdered (rank_of (run_at runs j)) (rank id q) (at_most (key_at 12 (map run_bytes runs) j) (key_bytes id q))
  in_order j below =
      let form = sorted.form.each j below in
      rw (key_of_entry runs j below) (keys_ordered _ _ _ _ form.id_fits (omega (arith, form.some, form.pages_fit)) id_fits q_fits)

  pub low_rank : (j : ℕ) → j < length runs → at_most (key_at 12 (map run_bytes runs) j) (key_bytes id q) ≡ true → rank_of (run_at runs j) ≤ rank id q
  low_rank j below test = elim (cases_lt (rank id q) (rank_of (run_at runs j))) [
    | inl more ↦ absurd (false≢true (sym ((in_order j below).high more) ∙ test))
    | inr not ↦ not
  ]

  pub high_rank : (j : ℕ) → j < length runs → at_most (key_at 12 (map run_bytes runs) j) (key_bytes id q) ≡ false → rank id q < rank_of (run_at runs j)
  high_rank j below test = elim (cases_lt (rank id q) (rank_of (run_at runs j))) [
    | inl more ↦ more
    | inr not ↦ absurd (false≢true (sym test ∙ (in_order j below).low not))
  ]

  abbrev entries : List (List ℕ)
  entries = map run_bytes runs

  long : length entries ≡ length runs
  long = length-map runs run_bytes

  -- where run j is the last that begins at most there, each page of the file up to q is in it or before it
  pub in_last : (j m page : ℕ) → IsLastAtMost 12 (map run_bytes runs) (key_bytes id q) j → m < length runs → page ≤ q → HasPage (run_at runs m) id page → (m ≡ j) ⊎ (rank id page < rank_of (run_at runs j))
  in_last j m page last below upto has = elim (cases_lt m j) [
    | inl before ↦
        let far = spread n runs sorted m j before (omega (arith, last.below, long)) in
        inr (omega (arith, far, has.same, has.below, has.from))
    | inr not ↦ elim (cases_eq m j) [
      | inl here ↦ inl here
      | inr other ↦
          let more = high_rank m below (last.above m (omega (arith, not, other)) (omega (arith, below, long))) in
          absurd (omega (arith, more, has.same, has.from, upto))
    ]
  ]

  pub last_rank : (j : ℕ) → IsLastAtMost 12 (map run_bytes runs) (key_bytes id q) j → rank_of (run_at runs j) ≤ rank id q
  last_rank j last = low_rank j (omega (arith, last.below, long)) last.holds

  -- where no run begins at most there, the file has no page up to q
  pub in_none : (m page : ℕ) → NoneAtMost 12 (map run_bytes runs) (key_bytes id q) → m < length runs → page ≤ q → HasPage (run_at runs m) id page → ⊥
  in_none m page none below upto has =
      let more = high_rank m below (none m (omega (arith, below, long))) in
      omega (arith, more, has.same, has.from, upto)

-- ---- the record that a search gave

module _ (n : ℕ) (runs : List Run) (form : AreRuns n runs) (few : n < 2 ^ 32) where
  entry_is : (i : ℕ) → i < length (map run_bytes runs) → entry_at (map run_bytes runs) i ≡ run_bytes (run_at runs i)
  entry_is i below = get_or-map run_bytes runs i no_run [] (omega (arith, below, length-map runs run_bytes))

  -- it is that of a run in form
  pub in_form_at : (i : ℕ) (entry : List ℕ) → i < length (map run_bytes runs) → entry ≡ entry_at (map run_bytes runs) i → IsRecord n entry
  in_form_at i entry below is = subst (λ (x : List ℕ). IsRecord n x) (sym (is ∙ entry_is i below)) (record_of_run n (run_at runs i) few (form.each i (omega (arith, below, length-map runs run_bytes))))

  -- and the run that it reveals is that one
  pub run_is : (i : ℕ) (entry : List ℕ) (r : Run) → i < length (map run_bytes runs) → entry ≡ entry_at (map run_bytes runs) i → IsRun n r → entry ≡ run_bytes r → r ≡ run_at runs i
  run_is i entry r below is r_form same =
      sym (run_back n r few r_form) ∙ ap run_in (sym same ∙ is ∙ entry_is i below) ∙ run_back n (run_at runs i) few (form.each i (omega (arith, below, length-map runs run_bytes)))

  pub last_found : (id page at : ℕ) (key entry : List ℕ) (found : Option ℕ) (r : Run) → key ≡ key_bytes id page → found ≡ Some at → IsLastEntry 12 (map run_bytes runs) key entry (is_some found) → IsRun n r → entry ≡ run_bytes r
      → IsLastRun runs id page (Some r)
  last_found id page at key entry found r key_is is answer r_form same =
      let last = subst (λ (o : Option ℕ). IsLastEntry 12 (map run_bytes runs) (key_bytes id page) entry (is_some o)) is (subst (λ (x : List ℕ). IsLastEntry 12 (map run_bytes runs) x entry (is_some found)) key_is answer) in
      (last.0, last.1, run_is last.0 entry r last.1.below last.2 r_form same)

  pub last_broken : (at : ℕ) (key entry : List ℕ) (found : Option ℕ) → found ≡ Some at → IsLastEntry 12 (map run_bytes runs) key entry (is_some found) → (IsRecord n entry → ⊥) → ⊥
  last_broken at key entry found is answer broken =
      let last = subst (λ (o : Option ℕ). IsLastEntry 12 (map run_bytes runs) key entry (is_some o)) is answer in
      broken (in_form_at last.0 entry last.1.below last.2)

  pub first_found : (id page at : ℕ) (key entry : List ℕ) (found : Option ℕ) (r : Run) → key ≡ key_bytes id page → found ≡ Some at → IsFirst 12 (map run_bytes runs) key entry found → IsRun n r → entry ≡ run_bytes r
      → IsFirstRun runs id page (Some r)
  first_found id page at key entry found r key_is is answer r_form same =
      let first = subst (λ (o : Option ℕ). IsFirst 12 (map run_bytes runs) (key_bytes id page) entry o) is (subst (λ (x : List ℕ). IsFirst 12 (map run_bytes runs) x entry found) key_is answer) in
      (first.0, first.1, run_is first.0 entry r first.1.below first.2 r_form same)

  pub first_broken : (at : ℕ) (key entry : List ℕ) (found : Option ℕ) → found ≡ Some at → IsFirst 12 (map run_bytes runs) key entry found → (IsRecord n entry → ⊥) → ⊥
  first_broken at key entry found is answer broken =
      let first = subst (λ (o : Option ℕ). IsFirst 12 (map run_bytes runs) key entry o) is answer in
      broken (in_form_at first.0 entry first.1.below first.2)
