-- The sectors of pages from the last one down.
use Rattle.std.proofs.Common.{◌≡◌, ℕ, zero, suc, ◌+◌, ◌-◌, ◌<◌, ◌≤◌, true, false, List, [], ◌∷◌, ◌++◌, length, map, take, Some, None, Option, refl, sym, ◌∙◌, ap, subst, arith}
use Rattle.std.specs.Prelude.{slice_get, option_map}
use Rattle.std.specs.List.{range_with_len}
use Rattle.std.proofs.lemmas.List.{length-map}
use Rattle.std.proofs.lemmas.List.FromFn.{length-range_with_len}
use Rattle.std.proofs.lemmas.Option.{same_Some, none-some, slice_get-map}
use Rattle.file_map.specs.FileMap.{Triples}
use Rattle.file_map.specs.declared.run.Run.{Run}
use Rattle.filer_kernel.specs.Marks.{Marks, marked}
use Rattle.file_manager.specs.Freeing.{IsNone, ClearsBits, run_sectors}
use Rattle.file_manager.specs.Shrinking.{AreNamedDown, run_down}
use Rattle.file_manager.proofs.FreedSectors.{row_has, row_at, row_clears}

-- some one stands after an option
mapped_from : (f : ℕ → ℕ) (o : Option ℕ) (k : ℕ) → option_map f o ≡ Some k → (i : ℕ) × (o ≡ Some i) × (f i ≡ k)
mapped_from f None k is = absurd (none-some k is)
mapped_from f (Some i) k is = (i, refl, same_Some (f i) k is)

-- a sector of a run, from the last one down, is one of the run
pub down_has : (run : Run) (j k : ℕ) → slice_get (run_down run) j ≡ Some k → (i : ℕ) × (i < run.pages) × (k ≡ run.sector + i)
down_has run j k at =
    let f = mapped_from (λ k. run.sector + (run.pages - (k + 1))) (slice_get (range_with_len 0 run.pages) j) k (sym (slice_get-map (λ k. run.sector + (run.pages - (k + 1))) (range_with_len 0 run.pages) j) ∙ at) in
    let r = row_has 0 run.pages j f.0 f.1 in
    let below = r.0 in
    let same = r.1 in
    let is = f.2 in
    (run.pages - (f.0 + 1), omega (arith, below, same), sym is)

-- and each one of it is there
pub down_all : (run : Run) (i : ℕ) → i < run.pages → (j : ℕ) × (slice_get (run_down run) j ≡ Some (run.sector + i))
down_all run i below =
    let j : ℕ = run.pages - (i + 1) in
    let z : run.sector + (run.pages - (0 + j + 1)) ≡ run.sector + i = omega (arith, below) in (
      j,
      slice_get-map (λ k. run.sector + (run.pages - (k + 1))) (range_with_len 0 run.pages) j
          ∙ ap (option_map (λ k. run.sector + (run.pages - (k + 1)))) (row_at 0 run.pages j (omega (arith, below))) ∙ ap (λ (k : ℕ). Some k) z,
    )

pub down_long : (run : Run) → length (run_down run) ≡ run.pages
down_long run = length-map (range_with_len 0 run.pages) (λ k. run.sector + (run.pages - (k + 1))) ∙ length-range_with_len 0 run.pages

none_up : (run : Run) (k : ℕ) → IsNone (run_down run) k → IsNone (run_sectors run) k
none_up run k none j at =
    let r = row_has run.sector run.pages j k at in
    let d = down_all run j r.0 in
    none d.0 (d.1 ∙ ap (λ (n : ℕ). Some n) (sym r.1))

pub down_clears : (run : Run) (marks : Marks) → ClearsBits (run_down run) marks (marked false run.sector run.pages marks)
down_clears run marks =
    let up = row_clears run.sector run.pages marks in
    record {
      cleared = λ j k at.
          let d = down_has run j k at in
          up.cleared d.0 k (row_at run.sector run.pages d.0 d.1 ∙ ap (λ (n : ℕ). Some n) (sym d.2));
      others = λ k none. up.others k (none_up run k none);
    }

-- ---- Named for the pages of a file.

module _ (named : Triples) (id : ℕ) where
  rows_named : (a b n : ℕ) → ((k : ℕ) → k < n → named id (a + k) (b + k) ≡ true) → (m i e : ℕ) → i + m ≡ n → e ≡ a + m → AreNamedDown named id e (map (λ k. b + (n - (k + 1))) (range_with_len i m))
  rows_named a b n each zero i e whole is = tt
  rows_named a b n each (suc m) i e whole is =
      let page : e ≡ suc (a + m) = omega (arith, is) in
      let place : b + m ≡ b + (n - (i + 1)) = omega (arith, whole) in
      subst (λ (q : ℕ). AreNamedDown named id q (map (λ k. b + (n - (k + 1))) (range_with_len i (suc m)))) (sym page)
      (subst (λ (s : ℕ). named id (a + m) s ≡ true) place (each m (omega (arith, whole))), rows_named a b n each m (i + 1) (a + m) (omega (arith, whole)) refl)

  pub run_named : (run : Run) (end : ℕ) → run.first + run.pages ≡ end → ((k : ℕ) → k < run.pages → named id (run.first + k) (run.sector + k) ≡ true) → AreNamedDown named id end (run_down run)
  run_named run end reaches each = rows_named run.first run.sector run.pages each run.pages 0 end (omega arith) (sym reaches)

  pub down_append : (end : ℕ) (is js : List ℕ) → AreNamedDown named id end is → AreNamedDown named id (end - length is) js → AreNamedDown named id end (is ++ js)
  down_append end [] js first next = subst (λ (n : ℕ). AreNamedDown named id n js) (let z : end - 0 ≡ end = omega arith in z) next
  down_append zero (i ∷ is) js first next = absurd first
  down_append (suc end) (i ∷ is) js first next =
      (first.0, down_append end is js first.1 (subst (λ (n : ℕ). AreNamedDown named id n js) (let z : suc end - suc (length is) ≡ end - length is = omega arith in z) next))

  pub down_take : (n end : ℕ) (is : List ℕ) → AreNamedDown named id end is → AreNamedDown named id end (take n is)
  down_take zero end is down = tt
  down_take (suc n) end [] down = tt
  down_take (suc n) zero (i ∷ is) down = absurd down
  down_take (suc n) (suc end) (i ∷ is) down = (down.0, down_take n end is down.1)

  -- the sector of a turn is named for its page
  pub down_at : (end : ℕ) (is : List ℕ) → AreNamedDown named id end is → (j s : ℕ) → slice_get is j ≡ Some s → (j < length is) × (j < end) × (named id (end - (j + 1)) s ≡ true)
  down_at end [] down j s at = absurd (none-some s at)
  down_at zero (i ∷ is) down j s at = absurd down
  down_at (suc end) (i ∷ is) down zero s at =
      (omega arith, omega arith, subst (λ (p : ℕ). named id p s ≡ true) (let z : end ≡ suc end - (0 + 1) = omega arith in z) (subst (λ (k : ℕ). named id end k ≡ true) (same_Some i s at) down.0))
  down_at (suc end) (i ∷ is) down (suc j) s at =
      let rest = down_at end is down.1 j s at in
      let below = rest.0 in
      let inside = rest.1 in
      (omega (arith, below), omega (arith, inside), subst (λ (p : ℕ). named id p s ≡ true) (let z : end - (j + 1) ≡ suc end - (suc j + 1) = omega arith in z) rest.2)

  -- each page that has a turn has a sector
  pub down_turn : (end : ℕ) (is : List ℕ) → AreNamedDown named id end is → (j : ℕ) → j < length is → (s : ℕ) × (slice_get is j ≡ Some s) × (named id (end - (j + 1)) s ≡ true)
  down_turn end is down j below =
      let s = there is j below in
      (s.0, s.1, (down_at end is down j s.0 s.1).2)
    where
      there : (is : List ℕ) (j : ℕ) → j < length is → (s : ℕ) × (slice_get is j ≡ Some s)
      there [] j below = absurd (omega (arith, below))
      there (i ∷ is) zero below = (i, refl)
      there (i ∷ is) (suc j) below = there is j (omega (arith, below))

pub take_few : (n : ℕ) (is : List ℕ) → length (take n is) ≤ length is
take_few zero is = omega arith
take_few (suc n) [] = omega arith
take_few (suc n) (i ∷ is) = let rest = take_few n is in omega (arith, rest)
