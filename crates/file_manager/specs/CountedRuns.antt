-- As many pages are named by a map in form as it has records: the first pages of its runs.
use Rattle.std.proofs.Common.{◌≡◌, ◌≢◌, ℕ, zero, suc, ◌+◌, ◌<◌, ◌≤◌, true, List, [], ◌∷◌, length, map, Some, refl, sym, ◌∙◌, ap, subst, arith}
use Rattle.std.specs.Prelude.{slice_get, ◌&&◌}
use Rattle.std.proofs.lemmas.Bool.{eq-eqb, le-leb, lt-ltb}
use Rattle.std.proofs.lemmas.List.{length-map}
use Rattle.std.proofs.lemmas.Option.{same_Some, none-some}
use Rattle.page_tree.specs.Page.{page_at, count_in}
use Rattle.page_tree.specs.Reveals.{RevealsTree}
use Rattle.page_tree.specs.Tree.{IsTree}
use Rattle.file_map.specs.declared.run.Run.{Run}
use Rattle.file_map.specs.FileMap.{Triples, AreNamed, run_at}
use Rattle.file_map.specs.Run.{holds, sector_at, run_bytes}
use Rattle.file_map.proofs.Searches.{names_at}

module _ (n pages : ℕ) (b : List ℕ) (named : Triples) (is : AreNamed n (RevealsTree 24 12 pages (λ c. c ≡ b)) named) where
  tree : IsTree 24 12 pages b (map run_bytes is.runs)
  tree = subst (λ (c : List ℕ). IsTree 24 12 pages c (map run_bytes is.runs)) is.listed.revealed is.listed.tree

  -- the header counts its runs
  pub counted_runs : count_in (page_at b 0) ≡ length is.runs
  counted_runs = tree.header.count_is ∙ length-map is.runs run_bytes

  -- a run that stands in the list
  at_turn : (runs : List Run) (k : ℕ) (r : Run) → slice_get runs k ≡ Some r → (k < length runs) × (run_at runs k ≡ r)
  at_turn [] k r at = absurd (none-some r at)
  at_turn (q ∷ runs) zero r at = (omega arith, same_Some q r at)
  at_turn (q ∷ runs) (suc k) r at = let rest = at_turn runs k r at in (let below = rest.0 in omega (arith, below), rest.1)

  -- a run has its first page
  has_first : (r : Run) → 1 ≤ r.pages → holds r r.id r.first ≡ true
  has_first r some =
      (λ i. eq-eqb r.id r.id refl i && (le-leb r.first r.first (omega arith) i && lt-ltb r.first (r.first + r.pages) (omega (arith, some)) i))

  first_held : (k : ℕ) → k < length is.runs → holds (run_at is.runs k) (run_at is.runs k).id (run_at is.runs k).first ≡ true
  first_held k below = has_first (run_at is.runs k) (is.form.each k below).some

  -- the first page of each run is named
  pub first_named : (k : ℕ) (r : Run) → slice_get is.runs k ≡ Some r → named r.id r.first r.sector ≡ true
  first_named k r at =
      let here = at_turn is.runs k r at in
      let q = run_at is.runs k in
      let place : sector_at q q.first ≡ q.sector = omega arith in
      let is_named : named q.id q.first q.sector ≡ true = ap (named q.id q.first) (sym place) ∙ is.are q.id q.first (sector_at q q.first) ∙ names_at is.runs k q.id q.first here.0 (first_held k here.0) in
      subst (λ (x : Run). named x.id x.first x.sector ≡ true) here.1 is_named

  -- and no two runs have the same
  pub firsts_apart : (j k : ℕ) (r q : Run) → slice_get is.runs j ≡ Some r → slice_get is.runs k ≡ Some q → j < k → r.id ≡ q.id → r.first ≢ q.first
  firsts_apart j k r q first second before same_id same_first =
      let one = at_turn is.runs j r first in
      let two = at_turn is.runs k q second in
      let held : holds (run_at is.runs j) q.id q.first ≡ true =
      subst (λ (i : ℕ). holds (run_at is.runs j) i q.first ≡ true) same_id (subst (λ (p : ℕ). holds (run_at is.runs j) r.id p ≡ true) same_first
      (subst (λ (x : Run). holds (run_at is.runs j) x.id x.first ≡ true) one.1 (first_held j one.0))) in
      let other : holds (run_at is.runs k) q.id q.first ≡ true = subst (λ (x : Run). holds (run_at is.runs k) x.id x.first ≡ true) two.1 (first_held k two.0) in
      omega (arith, before, is.form.once j k q.id q.first one.0 two.0 held other)
