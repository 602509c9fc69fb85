-- What an edit of the list of runs makes of the triples.
use Rattle.std.proofs.Common.{◌≡◌, ◌⊎◌, inl, inr, ℕ, suc, ◌+◌, ◌-◌, ◌<◌, ◌≤◌, Bool, true, false, not, ◌||◌, List, ◌∷◌, ◌++◌, length, map, take, drop, set, insert, remove, refl, sym, ◌∙◌, ap, subst, arith}
use Rattle.std.proofs.lemmas.Bool.{cases_lt, cases_eq, false≢true}
use Rattle.std.proofs.lemmas.List.{map-append, take-map, drop-map, take-append-drop, take-set, drop-set, drop_more, length-set, get_or-set_same, get_or-set_other}
use Rattle.std.proofs.lemmas.List.Edits.{length-insert, get_or-insert_below, get_or-insert_at, get_or-insert_above, length-remove, get_or-remove_below, get_or-remove_above}
use Rattle.std.proofs.lemmas.List.Folds.{list_any-append}
use Rattle.std.specs.List.{list_any}
use Rattle.flat_mem.specs.Order.{key_at, at_most, IsLastAtMost}
use Rattle.file_map.specs.declared.run.Run.{Run}
use Rattle.file_map.specs.Run.{IsRun, holds, run_bytes}
use Rattle.file_map.specs.FileMap.{AreRuns, AreNamed, Triples, run_names, names_triple, run_at, no_run}
use Rattle.file_map.specs.Entries.{IsLastOf}
use Rattle.file_map.proofs.Searches.{named_by}

pub same_truth : (a b : Bool) → (a ≡ true → b ≡ true) → (b ≡ true → a ≡ true) → a ≡ b
same_truth true b h k = sym (h refl)
same_truth false true h k = k refl
same_truth false false h k = refl

-- ---- the names of an edited list

to_prefix : (a x b : Bool) → (a || (x || b)) ≡ (x || (a || b))
to_prefix true true b = refl
to_prefix true false b = refl
to_prefix false x b = refl

to_end : (a x b : Bool) → (a || (x || b)) ≡ ((a || b) || x)
to_end true x b = refl
to_end false true true = refl
to_end false true false = refl
to_end false false true = refl
to_end false false false = refl

module _ (runs : List Run) (id page sector : ℕ) where
  abbrev f : Run → Bool
  f r = run_names r id page sector

  pub insert_names : (at : ℕ) (r : Run) → names_triple (insert runs at r) id page sector ≡ (names_triple runs id page sector || run_names r id page sector)
  insert_names at r =
      list_any-append f (take at runs) (r ∷ drop at runs) ∙ to_end (list_any f (take at runs)) (f r) (list_any f (drop at runs))
      ∙ ap (λ (b : Bool). b || f r) (sym (list_any-append f (take at runs) (drop at runs)) ∙ ap (list_any f) (take-append-drop at runs))

  around : (j : ℕ) (r : Run) → list_any f (take j runs ++ r ∷ drop (suc j) runs) ≡ (run_names r id page sector || names_triple (remove runs j) id page sector)
  around j r =
      list_any-append f (take j runs) (r ∷ drop (suc j) runs) ∙ to_prefix (list_any f (take j runs)) (f r) (list_any f (drop (suc j) runs))
      ∙ ap (λ (b : Bool). f r || b) (sym (list_any-append f (take j runs) (drop (suc j) runs)))

  next : (j : ℕ) → drop (j + 1) runs ≡ drop (suc j) runs
  next j = let same : j + 1 ≡ suc j = omega arith in ap (λ (k : ℕ). drop k runs) same

  pub names_split : (j : ℕ) → j < length runs → names_triple runs id page sector ≡ (run_names (run_at runs j) id page sector || names_triple (remove runs j) id page sector)
  names_split j below =
      ap (list_any f) (sym (take-append-drop j runs) ∙ ap (λ (xs : List Run). take j runs ++ xs) (drop_more runs j no_run below ∙ ap (λ (xs : List Run). run_at runs j ∷ xs) (next j)))
      ∙ around j (run_at runs j)

  pub names_set : (j : ℕ) (r : Run) → j < length runs → names_triple (set runs j r) id page sector ≡ (run_names r id page sector || names_triple (remove runs j) id page sector)
  names_set j r below =
      ap (list_any f) (sym (take-append-drop j (set runs j r)) ∙ (λ i. take-set runs j r i ++ (drop-set runs j r below ∙ ap (λ (xs : List Run). r ∷ xs) (next j)) i))
      ∙ around j r

-- ---- the records of an edited list

module _ (runs : List Run) where
  pub map_insert : (at : ℕ) (r : Run) → map run_bytes (insert runs at r) ≡ insert (map run_bytes runs) at (run_bytes r)
  map_insert at r = map-append run_bytes (take at runs) (r ∷ drop at runs) ∙ (λ i. sym (take-map run_bytes at runs) i ++ run_bytes r ∷ sym (drop-map run_bytes at runs) i)

  pub map_remove : (at : ℕ) → map run_bytes (remove runs at) ≡ remove (map run_bytes runs) at
  map_remove at = map-append run_bytes (take at runs) (drop (suc at) runs) ∙ (λ i. sym (take-map run_bytes at runs) i ++ sym (drop-map run_bytes (suc at) runs) i)

-- ---- the form of an edited list

module _ (n : ℕ) (runs : List Run) (form : AreRuns n runs) where
  pub form_insert : (at : ℕ) (r : Run) → at ≤ length runs → IsRun n r → ((j id page : ℕ) → j < length runs → holds r id page ≡ true → holds (run_at runs j) id page ≡ true → ⊥) → AreRuns n (insert runs at r)
  form_insert at r within r_form new = record { each = each; once = once }
    where
      ys : List Run
      ys = insert runs at r

      -- the run is the new one, or one below the place, or one after it
      which : (j : ℕ) → j < length (insert runs at r) → ((j ≡ at) × (run_at (insert runs at r) j ≡ r)) ⊎ ((m : ℕ) × (m < length runs) × (run_at (insert runs at r) j ≡ run_at runs m) × (((j < at) × (m ≡ j)) ⊎ ((at < j) × (m + 1 ≡ j))))
      which j below = elim (cases_lt j at) [
        | inl early ↦ inr (j, omega (arith, early, within), get_or-insert_below runs at r no_run j early within, inl (early, refl))
        | inr not ↦ elim (cases_eq j at) [
          | inl here ↦ inl (here, ap (run_at (insert runs at r)) here ∙ get_or-insert_at runs at r no_run within)
          | inr other ↦
              let next : j ≡ (j - 1) + 1 = omega (arith, not, other) in
              inr (j - 1, omega (arith, not, other, below, length-insert runs at r within), ap (run_at (insert runs at r)) next ∙ get_or-insert_above runs at r no_run (j - 1) (omega (arith, not, other)) within, inr (omega (arith, not, other), sym next))
        ]
      ]

      each : (j : ℕ) → j < length (insert runs at r) → IsRun n (run_at (insert runs at r) j)
      each j below = elim (which j below) [
        | inl (here, is) ↦ subst (λ (x : Run). IsRun n x) (sym is) r_form
        | inr (m, m_below, is, place) ↦ subst (λ (x : Run). IsRun n x) (sym is) (form.each m m_below)
      ]

      once : (j k id page : ℕ) → j < length (insert runs at r) → k < length (insert runs at r) → holds (run_at (insert runs at r) j) id page ≡ true → holds (run_at (insert runs at r) k) id page ≡ true → j ≡ k
      once j k id page j_below k_below j_held k_held = elim (which j j_below) [
        | inl (j_here, j_is) ↦ elim (which k k_below) [
          | inl (k_here, k_is) ↦ j_here ∙ sym k_here
          | inr (m, m_below, is, place) ↦ absurd (new m id page m_below (subst (λ (x : Run). holds x id page ≡ true) j_is j_held) (subst (λ (x : Run). holds x id page ≡ true) is k_held))
        ]
        | inr (l, l_below, l_is, l_place) ↦ elim (which k k_below) [
          | inl (k_here, k_is) ↦ absurd (new l id page l_below (subst (λ (x : Run). holds x id page ≡ true) k_is k_held) (subst (λ (x : Run). holds x id page ≡ true) l_is j_held))
          | inr (m, m_below, is, place) ↦
              let same = form.once l m id page l_below m_below (subst (λ (x : Run). holds x id page ≡ true) l_is j_held) (subst (λ (x : Run). holds x id page ≡ true) is k_held) in
              elim l_place [
                | inl (j_early, l_eq) ↦ elim place [
                  | inl (k_early, m_eq) ↦ omega (arith, same, l_eq, m_eq)
                  | inr (k_late, m_eq) ↦ absurd (omega (arith, same, l_eq, m_eq, j_early, k_late))
                ]
                | inr (j_late, l_eq) ↦ elim place [
                  | inl (k_early, m_eq) ↦ absurd (omega (arith, same, l_eq, m_eq, j_late, k_early))
                  | inr (k_late, m_eq) ↦ omega (arith, same, l_eq, m_eq)
                ]
              ]
        ]
      ]

  pub form_remove : (at : ℕ) → at < length runs → AreRuns n (remove runs at)
  form_remove at within = record { each = each; once = once }
    where
      which : (j : ℕ) → j < length (remove runs at) → (m : ℕ) × (m < length runs) × (run_at (remove runs at) j ≡ run_at runs m) × (((j < at) × (m ≡ j)) ⊎ ((at ≤ j) × (m ≡ j + 1)))
      which j below = elim (cases_lt j at) [
        | inl early ↦ (j, omega (arith, early, within), get_or-remove_below runs at no_run j early within, inl (early, refl))
        | inr late ↦ (j + 1, omega (arith, below, length-remove runs at within), get_or-remove_above runs at no_run j late within, inr (late, refl))
      ]

      each : (j : ℕ) → j < length (remove runs at) → IsRun n (run_at (remove runs at) j)
      each j below = let w = which j below in subst (λ (x : Run). IsRun n x) (sym w.2) (form.each w.0 w.1)

      once : (j k id page : ℕ) → j < length (remove runs at) → k < length (remove runs at) → holds (run_at (remove runs at) j) id page ≡ true → holds (run_at (remove runs at) k) id page ≡ true → j ≡ k
      once j k id page j_below k_below j_held k_held =
          let v = which j j_below in
          let w = which k k_below in
          let same = form.once v.0 w.0 id page v.1 w.1 (subst (λ (x : Run). holds x id page ≡ true) v.2 j_held) (subst (λ (x : Run). holds x id page ≡ true) w.2 k_held) in
          elim v.3 [
            | inl (j_early, v_is) ↦ elim w.3 [
              | inl (k_early, w_is) ↦ omega (arith, same, v_is, w_is)
              | inr (k_late, w_is) ↦ absurd (omega (arith, same, v_is, w_is, j_early, k_late))
            ]
            | inr (j_late, v_is) ↦ elim w.3 [
              | inl (k_early, w_is) ↦ absurd (omega (arith, same, v_is, w_is, j_late, k_early))
              | inr (k_late, w_is) ↦ omega (arith, same, v_is, w_is)
            ]
          ]

  -- a page of the run that is taken out is named by no other
  pub rest_apart : (at id page sector : ℕ) → at < length runs → names_triple (remove runs at) id page sector ≡ true → holds (run_at runs at) id page ≡ true → ⊥
  rest_apart at id page sector within h held =
      let by = named_by (remove runs at) id page sector h in
      elim (cases_lt by.index at) [
        | inl early ↦
            let old = subst (λ (x : Run). holds x id page ≡ true) (get_or-remove_below runs at no_run by.index early within) by.held in
            let same = form.once by.index at id page (omega (arith, early, within)) within old held in
            omega (arith, same, early)
        | inr late ↦
            let old = subst (λ (x : Run). holds x id page ≡ true) (get_or-remove_above runs at no_run by.index late within) by.held in
            let same = form.once (by.index + 1) at id page (omega (arith, by.below, length-remove runs at within)) within old held in
            omega (arith, same, late)
      ]

  pub form_set : (at : ℕ) (r : Run) → at < length runs → IsRun n r → ((j id page : ℕ) → j < length runs → holds r id page ≡ true → holds (run_at runs j) id page ≡ true → j ≡ at) → AreRuns n (set runs at r)
  form_set at r within r_form apart = record { each = each; once = once }
    where
      long : length (set runs at r) ≡ length runs
      long = length-set runs at r

      which : (j : ℕ) → j < length (set runs at r) → ((j ≡ at) × (run_at (set runs at r) j ≡ r)) ⊎ ((j < length runs) × (run_at (set runs at r) j ≡ run_at runs j))
      which j below = elim (cases_eq j at) [
        | inl here ↦ inl (here, ap (run_at (set runs at r)) here ∙ get_or-set_same runs at r no_run within)
        | inr other ↦ inr (omega (arith, below, long), get_or-set_other runs at j r no_run other)
      ]

      each : (j : ℕ) → j < length (set runs at r) → IsRun n (run_at (set runs at r) j)
      each j below = elim (which j below) [
        | inl (here, is) ↦ subst (λ (x : Run). IsRun n x) (sym is) r_form
        | inr (old, is) ↦ subst (λ (x : Run). IsRun n x) (sym is) (form.each j old)
      ]

      once : (j k id page : ℕ) → j < length (set runs at r) → k < length (set runs at r) → holds (run_at (set runs at r) j) id page ≡ true → holds (run_at (set runs at r) k) id page ≡ true → j ≡ k
      once j k id page j_below k_below j_held k_held = elim (which j j_below) [
        | inl (j_here, j_is) ↦ elim (which k k_below) [
          | inl (k_here, k_is) ↦ j_here ∙ sym k_here
          | inr (old, is) ↦ j_here ∙ sym (apart k id page old (subst (λ (x : Run). holds x id page ≡ true) j_is j_held) (subst (λ (x : Run). holds x id page ≡ true) is k_held))
        ]
        | inr (j_old, j_is) ↦ elim (which k k_below) [
          | inl (k_here, k_is) ↦ apart j id page j_old (subst (λ (x : Run). holds x id page ≡ true) k_is k_held) (subst (λ (x : Run). holds x id page ≡ true) j_is j_held) ∙ sym k_here
          | inr (k_old, k_is) ↦ form.once j k id page j_old k_old (subst (λ (x : Run). holds x id page ≡ true) j_is j_held) (subst (λ (x : Run). holds x id page ≡ true) k_is k_held)
        ]
      ]

-- ---- which entry is meant

-- the last entry at most a key is the last with its own
pub same_index : (k : ℕ) (xs : List (List ℕ)) (limit key : List ℕ) (j i : ℕ) → IsLastAtMost k xs limit j → key_at k xs j ≡ key → IsLastOf k xs key i → i ≡ j
same_index k xs limit key j i last same meant = elim (cases_lt i j) [
  | inl before ↦ absurd (meant.others j before last.below same)
  | inr not ↦ elim (cases_eq i j) [
    | inl here ↦ here
    | inr other ↦
        let above = last.above i (omega (arith, not, other)) meant.below in
        absurd (false≢true (sym above ∙ ap (λ (x : List ℕ). at_most x limit) (meant.same ∙ sym same) ∙ last.holds))
  ]
]

-- ---- the same triples

pub relisted : (n : ℕ) (lists now : List (List ℕ) → Type 0) (named : Triples) (map_is : AreNamed n lists named) → now (map run_bytes map_is.runs) → AreNamed n now named
relisted n lists now named map_is listed = record { runs = map_is.runs; listed = listed; form = map_is.form; few = map_is.few; are = map_is.are }
