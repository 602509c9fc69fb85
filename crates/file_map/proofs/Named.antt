-- What a search says of the triples that are named.
use Rattle.std.proofs.Common.{◌≡◌, ◌≢◌, inl, inr, ℕ, ◌+◌, ◌<◌, ◌≤◌, ◌^◌, min, max, Bool, true, false, List, length, map, Some, None, refl, sym, ◌∙◌, ap, subst, arith}
use Rattle.std.proofs.lemmas.Bool.{cases_lt, false≢true}
use Rattle.std.proofs.lemmas.List.{length-map}
use Rattle.flat_mem.specs.Order.{IsInKeyOrder}
use Rattle.file_map.specs.declared.run.Run.{Run}
use Rattle.file_map.specs.Run.{IsRun, holds, sector_at, run_bytes}
use Rattle.file_map.specs.FileMap.{AreNamed, Triples, run_at, IsFound, IsNowhere, IsSize, IsNext}
use Rattle.file_map.specs.Searches.{IsLastRun, IsFirstRun}
use Rattle.file_map.proofs.Keys.{rank}
use Rattle.file_map.proofs.Runs.{rank_of, HasPage, page_held, first_held, AreSorted, ordered}
use Rattle.file_map.proofs.Searches.{IsNamedBy, named_by, names_at, in_last, in_none, last_rank, low_rank, high_rank}

pub not_named : (b : Bool) → (b ≡ true → ⊥) → b ≡ false
not_named true h = absurd (h refl)
not_named false h = refl

module _ (n : ℕ) (lists : List (List ℕ) → Type 0) (named : Triples) (map_is : AreNamed n lists named) (ascending : (xs : List (List ℕ)) → lists xs → IsInKeyOrder 12 xs) where
  abbrev runs : List Run
  runs = map_is.runs

  pub sorted : AreSorted n map_is.runs
  sorted = record { form = map_is.form; ascending = ascending (map run_bytes runs) map_is.listed }

  pub by_run : (id page sector : ℕ) → named id page sector ≡ true → IsNamedBy map_is.runs id page sector
  by_run id page sector h = named_by runs id page sector (sym (map_is.are id page sector) ∙ h)

  pub at_run : (j id page : ℕ) → j < length map_is.runs → holds (run_at map_is.runs j) id page ≡ true → named id page (sector_at (run_at map_is.runs j) page) ≡ true
  at_run j id page below held = map_is.are id page _ ∙ names_at runs j id page below held

  long : length (map run_bytes runs) ≡ length runs
  long = length-map runs run_bytes

  -- ---- find

  pub find_yes : (id page : ℕ) (r : Run) → IsLastRun map_is.runs id page (Some r) → holds r id page ≡ true → IsFound named id page (Some r)
  find_yes id page r last held =
      (held, λ p at. subst (λ (x : Run). named id p (sector_at x p) ≡ true) (sym last.2) (at_run last.0 id p (omega (arith, last.1.below, long)) (subst (λ (x : Run). holds x id p ≡ true) last.2 at)))

  pub find_no : (id page : ℕ) (r : Run) → id < 2 ^ 64 → page < 2 ^ 32 → IsLastRun map_is.runs id page (Some r) → holds r id page ≡ false → IsNowhere named id page
  find_no id page r id_fits page_fits last not sector = not_named _ (λ h.
      let by = by_run id page sector h in
      elim (in_last n runs sorted id page id_fits page_fits last.0 by.index page last.1 by.below (omega arith) by.has) [
        | inl here ↦ false≢true (sym not ∙ ap (λ (x : Run). holds x id page) (last.2 ∙ ap (run_at runs) (sym here)) ∙ by.held)
        | inr low ↦ let rank_is = last_rank n runs sorted id page id_fits page_fits last.0 last.1 in omega (arith, low, rank_is)
      ])

  pub find_none : (id page : ℕ) → id < 2 ^ 64 → page < 2 ^ 32 → IsLastRun map_is.runs id page None → IsNowhere named id page
  find_none id page id_fits page_fits none sector = not_named _ (λ h.
      let by = by_run id page sector h in
      in_none n runs sorted id page id_fits page_fits by.index page none by.below (omega arith) by.has)

  -- ---- size

  pub size_none : (id : ℕ) → id < 2 ^ 64 → IsLastRun map_is.runs id 4294967294 None → IsSize named id 0
  size_none id id_fits none = record {
    below = omega arith;
    highest = λ page sector h low.
        let by = by_run id page sector h in
        absurd (in_none n runs sorted id 4294967294 id_fits (omega arith) by.index page none by.below (omega (arith, low)) by.has);
    reached = λ page is. absurd (omega (arith, is));
  }

  pub size_other : (id : ℕ) (r : Run) → id < 2 ^ 64 → IsLastRun map_is.runs id 4294967294 (Some r) → r.id ≢ id → IsSize named id 0
  size_other id r id_fits last other = record {
    below = omega arith;
    highest = λ page sector h low.
        let by = by_run id page sector h in
        let same : rank_of r ≡ rank_of (run_at runs last.0) = ap rank_of last.2 in
        let id_is : r.id ≡ (run_at runs last.0).id = ap (λ (x : Run). x.id) last.2 in
        let first_is : r.first ≡ (run_at runs last.0).first = ap (λ (x : Run). x.first) last.2 in
        let at_most_q = last_rank n runs sorted id 4294967294 id_fits (omega arith) last.0 last.1 in
        let form = map_is.form.each last.0 (omega (arith, last.1.below, long)) in
        elim (in_last n runs sorted id 4294967294 id_fits (omega arith) last.0 by.index page last.1 by.below (omega (arith, low)) by.has) [
          | inl here ↦ absurd (other (id_is ∙ ap (λ (j : ℕ). (run_at runs j).id) (sym here) ∙ by.has.same))
          | inr before ↦ absurd (other (omega (arith, before, at_most_q, id_is, form.some, form.pages_fit, low)))
        ];
    reached = λ page is. absurd (omega (arith, is));
  }

  pub size_is : (id size : ℕ) (r : Run) → id < 2 ^ 64 → IsLastRun map_is.runs id 4294967294 (Some r) → r.id ≡ id → size ≡ min (r.first + r.pages) 4294967295 → IsSize named id size
  size_is id size r id_fits last same size_eq = record {
    below = omega (arith, size_eq);
    highest = λ page sector h low.
        let by = by_run id page sector h in
        elim (in_last n runs sorted id 4294967294 id_fits (omega arith) last.0 by.index page last.1 by.below (omega (arith, low)) by.has) [
          | inl here ↦
              let has : HasPage r id page = subst (λ (x : Run). HasPage x id page) (ap (run_at runs) here ∙ sym last.2) by.has in
              omega (arith, has.below, low, size_eq)
          | inr before ↦ omega (arith, before, first_is, id_is, same, form.some, low, size_eq, pages_is)
        ];
    reached = λ page is.
        let held : holds r id page ≡ true = page_held r id page record { same = same; from = omega (arith, is, size_eq, at_most_q, first_is, id_is, same, form.some, pages_is); below = omega (arith, is, size_eq) } in
        (sector_at r page, (find_yes_at page held));
  }
    where
      id_is : r.id ≡ (run_at runs last.0).id
      id_is = ap (λ (x : Run). x.id) last.2

      first_is : r.first ≡ (run_at runs last.0).first
      first_is = ap (λ (x : Run). x.first) last.2

      pages_is : r.pages ≡ (run_at runs last.0).pages
      pages_is = ap (λ (x : Run). x.pages) last.2

      form : IsRun n (run_at runs last.0)
      form = map_is.form.each last.0 (omega (arith, last.1.below, long))

      at_most_q : rank_of (run_at runs last.0) ≤ rank id 4294967294
      at_most_q = last_rank n runs sorted id 4294967294 id_fits (omega arith) last.0 last.1

      find_yes_at : (page : ℕ) → holds r id page ≡ true → named id page (sector_at r page) ≡ true
      find_yes_at page held = subst (λ (x : Run). named id page (sector_at x page) ≡ true) (sym last.2) (at_run last.0 id page (omega (arith, last.1.below, long)) (subst (λ (x : Run). holds x id page ≡ true) last.2 held))

  -- ---- next_file

  pub next_is : (id start : ℕ) (r : Run) → id < 2 ^ 64 → start ≡ max id 15 → IsFirstRun map_is.runs start 4294967295 (Some r) → IsNext named id (Some r.id)
  next_is id start r id_fits start_is first =
      let below : first.0 < length runs = omega (arith, first.1.below, long) in
      let id_is : r.id ≡ (run_at runs first.0).id = ap (λ (x : Run). x.id) first.2 in
      let form = map_is.form.each first.0 below in
      let above = high_rank n runs sorted start 4294967295 (omega (arith, start_is, id_fits)) (omega arith) first.0 below first.1.above in
      let more : start < r.id = omega (arith, above, id_is, form.some, form.pages_fit) in (
        omega (arith, more, start_is),
        omega (arith, more, start_is),
        (
          (run_at runs first.0).first,
          sector_at (run_at runs first.0) (run_at runs first.0).first,
          subst (λ (x : ℕ). named x (run_at runs first.0).first (sector_at (run_at runs first.0) (run_at runs first.0).first) ≡ true) (sym id_is) (at_run first.0 _ _ below (first_held n _ form)),
        ),
        λ other page sector low sixteen h.
            let by = by_run other page sector h in
            let by_form = map_is.form.each by.index by.below in
            elim (cases_lt by.index first.0) [
              | inl before ↦
                  let small = low_rank n runs sorted start 4294967295 (omega (arith, start_is, id_fits)) (omega arith) by.index by.below (first.1.before by.index before) in
                  absurd (omega (arith, small, by.has.same, start_is, low, sixteen))
              | inr not ↦
                  let order = ordered n runs sorted first.0 by.index not by.below in
                  omega (arith, order, id_is, by.has.same, form.some, form.pages_fit, by_form.some, by_form.pages_fit)
            ],
      )

  pub next_above : (id start : ℕ) (r : Run) → id < 2 ^ 64 → start ≡ max id 15 → IsFirstRun map_is.runs start 4294967295 (Some r) → start < r.id
  next_above id start r id_fits start_is first =
      let below : first.0 < length runs = omega (arith, first.1.below, long) in
      let id_is : r.id ≡ (run_at runs first.0).id = ap (λ (x : Run). x.id) first.2 in
      let form = map_is.form.each first.0 below in
      let above = high_rank n runs sorted start 4294967295 (omega (arith, start_is, id_fits)) (omega arith) first.0 below first.1.above in
      omega (arith, above, id_is, form.some, form.pages_fit)

  pub next_none : (id start : ℕ) → id < 2 ^ 64 → start ≡ max id 15 → IsFirstRun map_is.runs start 4294967295 None → IsNext named id None
  next_none id start id_fits start_is none other page sector low sixteen = not_named _ (λ h.
      let by = by_run other page sector h in
      let small = low_rank n runs sorted start 4294967295 (omega (arith, start_is, id_fits)) (omega arith) by.index by.below (none by.index (omega (arith, by.below, long))) in
      omega (arith, small, by.has.same, start_is, low, sixteen))
