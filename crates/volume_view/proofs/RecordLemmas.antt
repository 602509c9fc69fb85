-- A walk over the records of a file map, each after the one before.
use Rattle.std.proofs.Common.{◌≡◌, inl, inr, ℕ, zero, suc, ◌+◌, ◌*◌, ◌<◌, ◌≤◌, ◌^◌, true, false, List, [], ◌∷◌, ◌++◌, length, map, take, Option, Some, None, sym, ◌∙◌, ap, subst, arith}
use Rattle.std.specs.Prelude.{is_some, ◌/◌}
use Rattle.std.proofs.lemmas.Bool.{cases_lt}
use Rattle.std.proofs.lemmas.List.{length-map}
use Rattle.std.proofs.lemmas.Option.{slice_get-get_or}
use Rattle.flat_mem.specs.Order.{at_most, entry_at, IsAfter}
use Rattle.page_tree.specs.Answer.{IsNextEntry, FromMemory}
use Rattle.page_tree.specs.Reveals.{RevealsTree}
use Rattle.page_tree.specs.declared.error.TreeError.{TreeError}
use Rattle.page_tree.specs.declared.error.TreeError.TheVariants.{Malformed}
use Rattle.labelled_disk.specs.Layout.{vfm}
use Rattle.file_map.specs.declared.run.Run.{Run}
use Rattle.file_map.specs.Run.{IsRun, IsRecord, key_bytes, run_bytes, run_in}
use Rattle.file_map.specs.FileMap.{run_at, no_run}
use Rattle.file_map.proofs.Runs.{rank_of, AreSorted, ordered, spread}
use Rattle.file_map.proofs.Searches.{low_rank, high_rank, in_form_at, run_is}
use Rattle.volume_view.specs.Records.{AreRunsOfMap, Follows, IsStep, last_of}
use Rattle.volume_view.proofs.ListLemmas.{one_more}

module _ (n : ℕ) (bytes : List ℕ) (runs : List Run) (few : n < 2 ^ 32) (is : AreRunsOfMap n bytes runs) where
  pub sorted : AreSorted n runs
  sorted = record { form = is.form; ascending = is.listed.ascending }

  long : length (map run_bytes runs) ≡ length runs
  long = length-map runs run_bytes

  id_fits : (k : ℕ) → k ≤ length runs → (last_of runs k).id < 2 ^ 64
  id_fits zero within = omega arith
  id_fits (suc j) within = (is.form.each j (omega (arith, within))).id_fits

  first_fits : (k : ℕ) → k ≤ length runs → (last_of runs k).first < 2 ^ 32
  first_fits zero within = omega arith
  first_fits (suc j) within = let form = is.form.each j (omega (arith, within)) in omega (arith, form.some, form.pages_fit)

  -- the runs from k on begin after the last of those before, and the others do not
  above_last : (k i : ℕ) → k ≤ i → i < length runs → rank_of (last_of runs k) < rank_of (run_at runs i)
  above_last zero i from below = elim (is.form.each i below).of_file [
    | inl three ↦ omega (arith, three)
    | inr client ↦ omega (arith, client)
  ]
  above_last (suc j) i from below =
      let far = spread n runs sorted j i (omega (arith, from)) below in
      let form = is.form.each j (omega (arith, from, below)) in
      omega (arith, far, form.some)

  upto_last : (k i : ℕ) → i < k → k ≤ length runs → rank_of (run_at runs i) ≤ rank_of (last_of runs k)
  upto_last zero i below within = absurd (omega (arith, below))
  upto_last (suc j) i below within = ordered n runs sorted i j (omega (arith, below)) (omega (arith, within))

  -- the search for the record after the last gives the next
  pub step_found : (k i : ℕ) → k ≤ length runs → i < length (map run_bytes runs) → IsAfter 12 (map run_bytes runs) (key_bytes (last_of runs k).id (last_of runs k).first) i → i ≡ k
  step_found k i within below after = elim (cases_lt i k) [
    | inl low ↦
        let up = upto_last k i low within in
        let more = high_rank n runs sorted (last_of runs k).id (last_of runs k).first (id_fits k within) (first_fits k within) i (omega (arith, below, long)) (after.above i (omega arith) below) in
        absurd (omega (arith, up, more))
    | inr not_low ↦ elim (cases_lt k i) [
      | inl high ↦
          let up = above_last k k (omega arith) (omega (arith, high, below, long)) in
          let less = low_rank n runs sorted (last_of runs k).id (last_of runs k).first (id_fits k within) (first_fits k within) k (omega (arith, high, below, long)) (after.below k high) in
          absurd (omega (arith, up, less))
      | inr not_high ↦ omega (arith, not_low, not_high)
    ]
  ]

  pub step_none : (k : ℕ) → k ≤ length runs → ((j : ℕ) → j < length (map run_bytes runs) → at_most (take 12 (entry_at (map run_bytes runs) j)) (key_bytes (last_of runs k).id (last_of runs k).first) ≡ true) → k ≡ length runs
  step_none k within none = elim (cases_lt k (length runs)) [
    | inl below ↦
        let up = above_last k k (omega arith) below in
        let less = low_rank n runs sorted (last_of runs k).id (last_of runs k).first (id_fits k within) (first_fits k within) k below (none k (omega (arith, below, long))) in
        absurd (omega (arith, up, less))
    | inr not_below ↦ omega (arith, within, not_below)
  ]

  pub step_follows : (k : ℕ) → k < length runs → Follows (last_of runs k) (run_at runs k)
  step_follows zero below = elim (is.form.each 0 below).of_file [
    | inl three ↦ inl (omega (arith, three))
    | inr client ↦ inl (omega (arith, client))
  ]
  step_follows (suc j) below =
      let far = spread n runs sorted j (suc j) (omega arith) below in
      let form = is.form.each j (omega (arith, below)) in
      let next = is.form.each (suc j) below in
      elim (cases_lt (run_at runs j).id (run_at runs (suc j)).id) [
        | inl less ↦ inl less
        | inr not_less ↦
            let same : (run_at runs j).id ≡ (run_at runs (suc j)).id = omega (arith, not_less, far, form.some, form.pages_fit, next.some, next.pages_fit) in
            inr (same, omega (arith, far, same))
      ]

  -- an answer of the search, as a step
  pub found_step : (k : ℕ) (key entry : List ℕ) (last r : Run) → k ≤ length runs → last ≡ last_of runs k → key ≡ key_bytes last.id last.first → IsNextEntry 12 (map run_bytes runs) key entry true → IsRun n r → entry ≡ run_bytes r
      → IsStep runs k (Some r)
  found_step k key entry last r within last_is key_is answer form same =
      let at = step_found k answer.0 within answer.1 (subst (λ (x : List ℕ). IsAfter 12 (map run_bytes runs) x answer.0) (key_is ∙ ap (λ (q : Run). key_bytes q.id q.first) last_is) answer.2) in
      (omega (arith, at, answer.1, long), run_is n runs is.form few answer.0 entry r answer.1 answer.3 form same ∙ ap (run_at runs) at)

  pub found_record : (k : ℕ) (key entry : List ℕ) (last : Run) → k ≤ length runs → last ≡ last_of runs k → key ≡ key_bytes last.id last.first → IsNextEntry 12 (map run_bytes runs) key entry true → IsRecord n entry × Follows last (run_in entry)
  found_record k key entry last within last_is key_is answer =
      let at = step_found k answer.0 within answer.1 (subst (λ (x : List ℕ). IsAfter 12 (map run_bytes runs) x answer.0) (key_is ∙ ap (λ (q : Run). key_bytes q.id q.first) last_is) answer.2) in
      let record_is = in_form_at n runs is.form few answer.0 entry answer.1 answer.3 in
      let run_there = run_is n runs is.form few answer.0 entry (run_in entry) answer.1 answer.3 record_is.form record_is.same in
      let below : k < length runs = omega (arith, at, answer.1, long) in
      (record_is, subst (λ (q : Run). Follows q (run_in entry)) (sym last_is) (subst (λ (q : Run). Follows (last_of runs k) q) (sym (run_there ∙ ap (run_at runs) at)) (step_follows k below)))

  pub none_step : (k : ℕ) (key entry : List ℕ) (last : Run) → k ≤ length runs → last ≡ last_of runs k → key ≡ key_bytes last.id last.first → IsNextEntry 12 (map run_bytes runs) key entry false → IsStep runs k None
  none_step k key entry last within last_is key_is answer =
      step_none k within (λ j below. ap (at_most (take 12 (entry_at (map run_bytes runs) j))) (sym (key_is ∙ ap (λ (q : Run). key_bytes q.id q.first) last_is)) ∙ answer j below)

-- one run more
pub taken_more : (runs found new : List Run) (k : ℕ) (r : Run) → k < length runs → r ≡ run_at runs k → found ≡ take k runs → new ≡ found ++ r ∷ [] → new ≡ take (k + 1) runs
taken_more runs found new k r below is so_far pushed =
    let s : k + 1 ≡ suc k = omega arith in
    pushed ∙ ap (λ (l : List Run). l ++ r ∷ []) so_far ∙ ap (λ (q : Run). take k runs ++ q ∷ []) is ∙ sym (ap (λ (m : ℕ). take m runs) s ∙ one_more runs k (run_at runs k) (slice_get-get_or runs k no_run below))

-- the map as a tree over this memory reveals it
pub to_tree : (n : ℕ) (bytes c : List ℕ) (xs : List (List ℕ)) → c ≡ bytes → length c ≡ 512 * vfm n → RevealsTree 24 12 (vfm n) (λ b. b ≡ bytes) xs → RevealsTree 24 12 (length c / 512) (λ b. b ≡ c) xs
to_tree n bytes c xs same size is =
    let pages : vfm n ≡ length c / 512 = omega (arith, size) in
    subst (λ (m : ℕ). RevealsTree 24 12 m (λ b. b ≡ c) xs) pages (subst (λ (x : List ℕ). RevealsTree 24 12 (vfm n) (λ b. b ≡ x) xs) (sym same) is)

-- an error of the tree that is malformed is not the memory's
pub never_malformed : {X : Type 0} (e : TreeError X) (page : ℕ) → e ≡ Malformed page → FromMemory e → ⊥
never_malformed {X} e page is says = subst (λ (x : TreeError X). FromMemory x) is says

-- an answer of the search that is found
pub next_some : (key entry : List ℕ) (xs : List (List ℕ)) (o : Option ℕ) (page : ℕ) → o ≡ Some page → IsNextEntry 12 xs key entry (is_some o) → IsNextEntry 12 xs key entry true
next_some key entry xs o page is says = subst (λ (p : Option ℕ). IsNextEntry 12 xs key entry (is_some p)) is says

pub next_none : (key entry : List ℕ) (xs : List (List ℕ)) (o : Option ℕ) → o ≡ None → IsNextEntry 12 xs key entry (is_some o) → IsNextEntry 12 xs key entry false
next_none key entry xs o is says = subst (λ (p : Option ℕ). IsNextEntry 12 xs key entry (is_some p)) is says
