-- A run is added to the map, as a record of its own or as part of the one before it.
use Rattle.std.proofs.Common.{◌≡◌, ◌⊎◌, inl, inr, ℕ, ◌+◌, ◌<◌, ◌≤◌, Bool, true, false, ◌||◌, ◌==◌, List, length, map, take, set, insert, remove, Some, refl, sym, ◌∙◌, ap, subst, arith}
use Rattle.std.proofs.lemmas.Bool.{cases_lt, false≢true, eq-eqb}
use Rattle.std.proofs.lemmas.List.{length-map, map-set, length-set}
use Rattle.std.proofs.lemmas.List.Edits.{length-insert}
use Rattle.flat_mem.specs.Order.{key_at}
use Rattle.file_map.specs.declared.run.Run.{Run}
use Rattle.file_map.specs.Run.{IsRun, holds, sector_at, key_bytes, run_bytes}
use Rattle.file_map.specs.FileMap.{AreNamed, Triples, run_names, names_triple, run_at, with_run, IsNew, most_records}
use Rattle.file_map.specs.Entries.{IsLastOf, NoneOf, IsPut, IsReplaced}
use Rattle.file_map.specs.Searches.{IsLastRun}
use Rattle.file_map.specs.Edits.{Joins}
use Rattle.file_map.proofs.Runs.{HasPage, has_page, page_held, and_both, key_of_entry}
use Rattle.file_map.proofs.Records.{key_of_run}
use Rattle.file_map.proofs.Searches.{names_at, run_named}
use Rattle.file_map.proofs.Edits.{same_truth, insert_names, names_split, names_set, map_insert, form_insert, form_set, same_index}

-- ---- joined runs

module _ (n : ℕ) (a b r : Run) (a_form : IsRun n a) (b_form : IsRun n b) (joins : Joins a b r) where
  id_is : r.id ≡ a.id
  id_is = ap (λ (x : Run). x.id) joins.both

  first_is : r.first ≡ a.first
  first_is = ap (λ (x : Run). x.first) joins.both

  pages_is : r.pages ≡ a.pages + b.pages
  pages_is = ap (λ (x : Run). x.pages) joins.both

  sector_is : r.sector ≡ a.sector
  sector_is = ap (λ (x : Run). x.sector) joins.both

  pub joined_form : IsRun n r
  joined_form = record {
    of_file = subst (λ (x : ℕ). (x ≡ 3) ⊎ (16 ≤ x)) (sym id_is) a_form.of_file;
    id_fits = omega (arith, id_is, a_form.id_fits);
    some = omega (arith, pages_is, a_form.some);
    pages_fit = omega (arith, first_is, pages_is, joins.page, b_form.pages_fit);
    from_data = omega (arith, sector_is, a_form.from_data);
    inside = omega (arith, sector_is, pages_is, joins.sector, b_form.inside);
  }

  -- a page of the whole is one of the first or of the second
  pub page_of_either : (id page : ℕ) → HasPage r id page → HasPage a id page ⊎ HasPage b id page
  page_of_either id page h = elim (cases_lt page (a.first + a.pages)) [
    | inl low ↦ inl (record { same = sym id_is ∙ h.same; from = omega (arith, h.from, first_is); below = low })
    | inr not ↦ inr (record { same = sym joins.file ∙ sym id_is ∙ h.same; from = omega (arith, not, joins.page); below = omega (arith, h.below, first_is, pages_is, joins.page) })
  ]

  page_of_first : (id page : ℕ) → HasPage a id page → HasPage r id page
  page_of_first id page h = record { same = id_is ∙ h.same; from = omega (arith, h.from, first_is); below = omega (arith, h.below, first_is, pages_is) }

  page_of_second : (id page : ℕ) → HasPage b id page → HasPage r id page
  page_of_second id page h = record { same = id_is ∙ joins.file ∙ h.same; from = omega (arith, h.from, first_is, joins.page); below = omega (arith, h.below, first_is, pages_is, joins.page) }

  or_first : (x y : Bool) → x ≡ true → (x || y) ≡ true
  or_first true y h = refl
  or_first false y h = absurd (false≢true h)

  or_second : (x y : Bool) → y ≡ true → (x || y) ≡ true
  or_second true y h = refl
  or_second false y h = h

  either : (x y : Bool) → (x || y) ≡ true → (x ≡ true) ⊎ (y ≡ true)
  either true y h = inl refl
  either false y h = inr h

  names_page : (x : Run) (id page sector : ℕ) → HasPage x id page → sector ≡ sector_at x page → run_names x id page sector ≡ true
  names_page x id page sector has is = and_both (holds x id page) (sector == sector_at x page) (page_held x id page has) (eq-eqb sector (sector_at x page) is)

  -- the whole names what the two name
  pub joined_names : (id page sector : ℕ) → run_names r id page sector ≡ (run_names a id page sector || run_names b id page sector)
  joined_names id page sector = same_truth _ _
      (λ h.
      let parts = run_named r id page sector h in
      let whole = has_page r id page parts.0 in
      elim (page_of_either id page whole) [
        | inl has ↦ or_first _ _ (names_page a id page sector has (omega (arith, parts.1, sector_is, first_is)))
        | inr has ↦ or_second _ _ (names_page b id page sector has (omega (arith, parts.1, sector_is, first_is, has.from, joins.page, joins.sector)))
      ])
      (λ h. elim (either _ _ h) [
        | inl is ↦
            let parts = run_named a id page sector is in
            names_page r id page sector (page_of_first id page (has_page a id page parts.0)) (omega (arith, parts.1, sector_is, first_is))
        | inr is ↦
            let parts = run_named b id page sector is in
            let has = has_page b id page parts.0 in
            names_page r id page sector (page_of_second id page has) (omega (arith, parts.1, sector_is, first_is, has.from, joins.page, joins.sector))
      ])

-- ---- the map with one run more

swap_last : (x y z : Bool) → ((x || y) || z) ≡ ((x || z) || y)
swap_last true y z = refl
swap_last false true true = refl
swap_last false true false = refl
swap_last false false true = refl
swap_last false false false = refl

module _ (n : ℕ) (lists now : List (List ℕ) → Type 0) (named : Triples) (map_is : AreNamed n lists named) (r : Run) (r_form : IsRun n r) (new : IsNew named r) where
  abbrev runs : List Run
  runs = map_is.runs

  -- no run of the map has a page of the new one
  apart : (j id page : ℕ) → j < length runs → holds r id page ≡ true → holds (run_at runs j) id page ≡ true → ⊥
  apart j id page below held old =
      let same : r.id ≡ id = (has_page r id page held).same in
      let free = new page (sector_at (run_at runs j) page) (subst (λ (x : ℕ). holds r x page ≡ true) (sym same) held) in
      let taken = map_is.are id page (sector_at (run_at runs j) page) ∙ names_at runs j id page below old in
      false≢true (sym free ∙ subst (λ (x : ℕ). named x page (sector_at (run_at runs j) page) ≡ true) (sym same) taken)

  pub put_named : length map_is.runs < most_records n → IsPut 12 now (map run_bytes map_is.runs) (run_bytes r) → AreNamed n now (with_run named r)
  put_named room put = record {
    runs = insert runs put.at r;
    listed = subst now (sym (map_insert runs put.at r)) put.listed;
    form = form_insert n runs map_is.form put.at r (omega (arith, put.within, length-map runs run_bytes)) r_form apart;
    few = omega (arith, length-insert runs put.at r (omega (arith, put.within, length-map runs run_bytes)), room);
    are = λ id page sector. ap (λ (x : Bool). x || run_names r id page sector) (map_is.are id page sector) ∙ sym (insert_names runs id page sector put.at r);
  }

  module _ (a whole : Run) (last : IsLastRun map_is.runs r.id r.first (Some a)) (joins : Joins a r whole) where
    below : last.0 < length runs
    below = omega (arith, last.1.below, length-map runs run_bytes)

    a_form : IsRun n a
    a_form = subst (λ (x : Run). IsRun n x) (sym last.2) (map_is.form.each last.0 below)

    key_is : key_at 12 (map run_bytes runs) last.0 ≡ take 12 (run_bytes whole)
    key_is = key_of_entry runs last.0 below ∙ ap (λ (x : Run). key_bytes x.id x.first) (sym last.2) ∙ (λ i. key_bytes (sym (ap (λ (x : Run). x.id) joins.both) i) (sym (ap (λ (x : Run). x.first) joins.both) i)) ∙ sym (key_of_run whole)

    pub none_of_joined : NoneOf 12 (map run_bytes map_is.runs) (take 12 (run_bytes whole)) → ⊥
    none_of_joined none = none last.0 last.1.below key_is

    pub joined_named : (i : ℕ) → IsLastOf 12 (map run_bytes map_is.runs) (take 12 (run_bytes whole)) i → now (set (map run_bytes map_is.runs) i (run_bytes whole)) → AreNamed n now (with_run named r)
    joined_named i meant listed = record {
      runs = set runs last.0 whole;
      listed = subst now (ap (λ (j : ℕ). set (map run_bytes runs) j (run_bytes whole)) here ∙ sym (map-set run_bytes runs last.0 whole)) listed;
      form = form_set n runs map_is.form last.0 whole below (joined_form n a r whole a_form r_form joins) (λ j id page j_below held old.
          elim (page_of_either n a r whole a_form r_form joins id page (has_page whole id page held)) [
            | inl has ↦ map_is.form.once j last.0 id page j_below below old (subst (λ (x : Run). holds x id page ≡ true) last.2 (page_held a id page has))
            | inr has ↦ absurd (apart j id page j_below (page_held r id page has) old)
          ]);
      few = omega (arith, length-set runs last.0 whole, map_is.few);
      are = λ id page sector.
          ap (λ (x : Bool). x || run_names r id page sector) (map_is.are id page sector ∙ names_split runs id page sector last.0 below ∙ ap (λ (x : Run). run_names x id page sector || names_triple (remove runs last.0) id page sector) (sym last.2))
          ∙ swap_last (run_names a id page sector) (names_triple (remove runs last.0) id page sector) (run_names r id page sector) ∙ ap (λ (x : Bool). x || names_triple (remove runs last.0) id page sector) (sym (joined_names n a r whole a_form r_form joins id page sector))
          ∙ sym (names_set runs id page sector last.0 whole below);
    }
      where
        here : i ≡ last.0
        here = same_index 12 (map run_bytes runs) (key_bytes r.id r.first) (take 12 (run_bytes whole)) last.0 i last.1 key_is meant

    pub extended : (entry : List ℕ) (done : Bool) → entry ≡ run_bytes whole → IsReplaced 12 now (map run_bytes map_is.runs) entry done → done ≡ true → AreNamed n now (with_run named r)
    extended entry true is answer h =
        let revealed = subst (λ (x : List ℕ). IsReplaced 12 now (map run_bytes runs) x true) is answer in
        joined_named revealed.0 revealed.1 revealed.2
    extended entry false is answer h = absurd (false≢true h)
