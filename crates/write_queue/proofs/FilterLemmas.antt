-- Sectors for which no page waits, as pages come and go.
use Rattle.std.proofs.Common.{◌≡◌, ◌≢◌, ◌⊎◌, inl, inr, ℕ, ◌+◌, ◌<◌, ◌≤◌, ◌%◌, Bool, true, false, List, ◌++◌, ◌∷◌, [], length, get_or, set, Some, None, refl, sym, ◌∙◌, ap, arith, eq-eqb, ne_eqb}
use Rattle.std.specs.Prelude.{slice_get, slice_set, ◌==◌, if◌then◌else◌}
use Rattle.std.proofs.lemmas.Bool.{cases_eq, true≢false}
use Rattle.std.proofs.lemmas.List.{get_or-set_same, get_or-set_other}
use Rattle.std.proofs.lemmas.Option.{slice_get-get_or}
use Rattle.write_queue.specs.declared.entry.Entry.{Entry}
use Rattle.write_queue.specs.declared.filter.Filter.{Filter}
use Rattle.write_queue.specs.Entries.{waiting_at, IsOnce}
use Rattle.write_queue.specs.Filtering.{admits, Adds, Renews, AdmitsWaiting}
use Rattle.write_queue.specs.Finding.{Misses}
use Rattle.write_queue.specs.Sweeps.{IsLess}
use Rattle.write_queue.proofs.ListLemmas.{none_has, waiting-set, waiting-added}
use Rattle.write_queue.proofs.PlaceLemmas.{sectors_of, waits_where, found_nowhere}

-- where no page waits, none does when one is gone
pub free_fewer : (es fewer : List Entry) (e : Entry) → IsLess es e fewer → (k : ℕ) → waiting_at es k ≡ None → waiting_at fewer k ≡ None
free_fewer es fewer e less k none = less.rest k ∙ by (e.sector == k)
  where
    by : (b : Bool) → (if b then None else waiting_at es k) ≡ None
    by true = refl
    by false = none

-- none waits for the sector of the one that is gone
pub free_out : (es fewer : List Entry) (e : Entry) → IsLess es e fewer → waiting_at fewer e.sector ≡ None
free_out es fewer e less = less.rest e.sector ∙ ap (λ (b : Bool). if b then None else waiting_at es e.sector) (eq-eqb e.sector e.sector refl)

-- nor does one when another came
pub free_more : (es more : List Entry) (e : Entry) → ((k : ℕ) → waiting_at more k ≡ (if e.sector == k then Some e else waiting_at es k))
    → (k : ℕ) → k ≢ e.sector → waiting_at es k ≡ None → waiting_at more k ≡ None
free_more es more e put k other none =
    put k ∙ ap (λ (b : Bool). if b then Some e else waiting_at es k) (ne_eqb e.sector k (λ same. other (sym same))) ∙ none

-- nor when one is written again
pub free_again : (es : List Entry) (j : ℕ) (e f : Entry) → IsOnce es → slice_get es j ≡ Some e → f.sector ≡ e.sector
    → (k : ℕ) → waiting_at es k ≡ None → waiting_at (slice_set es j f) k ≡ None
free_again es j e f once is same k none =
    free_more es (slice_set es j f) f (waiting-set es j e f is same once) k (λ at. none_has es k none j e is (sym same ∙ sym at)) none

-- where none waits the sector stands nowhere
pub misses_free : (es : List Entry) (ss : List ℕ) (s : ℕ) → ss ≡ sectors_of es → waiting_at es s ≡ None → Misses s ss
misses_free es ss s list none k below here =
    let w = waits_where es k s (ap (λ (x : List ℕ). slice_get x k) (sym list) ∙ slice_get-get_or ss k 0 below ∙ ap (λ (n : ℕ). Some n) here) in
    none_has es s none k w.0 w.1 w.2

-- the filter that was renewed admits the pages that wait, and one more that was added
pub admits_more : (es : List Entry) (ss : List ℕ) (e : Entry) (old between new : Filter) → ss ≡ sectors_of es → IsOnce es → waiting_at es e.sector ≡ None
    → AdmitsWaiting old es → Renews ss old between → Adds e.sector between new → AdmitsWaiting new (es ++ e ∷ [])
admits_more es ss e old between new list once free before renewed added k out =
    let a = added k out in
    free_more es (es ++ e ∷ []) e (waiting-added es e free once) k a.0 (earlier (renewed k a.1))
  where
    earlier : (admits old k ≡ false) ⊎ Misses k ss → waiting_at es k ≡ None
    earlier (inl still) = before k still
    earlier (inr misses) = found_nowhere es ss k list misses

-- the place of each sector so far is taken
abbrev pub TakesPrefix : List ℕ → ℕ → List Bool → Type 0
TakesPrefix ss n taken = (length taken ≡ 512) × ((k : ℕ) → k < n → get_or taken (get_or ss k 0 % 512) false ≡ true)

pub takes_next : (ss : List ℕ) (n : ℕ) (taken : List Bool) → TakesPrefix ss n taken → (length (set taken (get_or ss n 0 % 512) true) ≡ length taken)
    → TakesPrefix ss (n + 1) (set taken (get_or ss n 0 % 512) true)
takes_next ss n taken so long = (long ∙ so.0, each)
  where
    place : ℕ
    place = get_or ss n 0 % 512

    each : (k : ℕ) → k < n + 1 → get_or (set taken (get_or ss n 0 % 512) true) (get_or ss k 0 % 512) false ≡ true
    each k below = either (cases_eq (get_or ss k 0 % 512) (get_or ss n 0 % 512))
      where
        either : (get_or ss k 0 % 512 ≡ get_or ss n 0 % 512) ⊎ (get_or ss k 0 % 512 ≢ get_or ss n 0 % 512)
            → get_or (set taken (get_or ss n 0 % 512) true) (get_or ss k 0 % 512) false ≡ true
        either (inl same) = rw same (get_or-set_same taken (get_or ss n 0 % 512) true false (omega (arith, so.0)))
        either (inr other) =
            get_or-set_other taken (get_or ss n 0 % 512) (get_or ss k 0 % 512) true false other
            ∙ so.1 k (before (cases_eq k n))
          where
            before : (k ≡ n) ⊎ (k ≢ n) → k < n
            before (inl last) = absurd (other (ap (λ (i : ℕ). get_or ss i 0 % 512) last))
            before (inr earlier) = omega (arith, below, earlier)

-- what is not admitted is none of those whose places are taken
pub misses_taken : (ss : List ℕ) (n : ℕ) (taken : List Bool) → TakesPrefix ss n taken → length ss ≤ n → (s : ℕ) → get_or taken (s % 512) false ≡ false → Misses s ss
misses_taken ss n taken so all s out k below here =
    true≢false (sym (so.1 k (omega (arith, below, all))) ∙ ap (λ (i : ℕ). get_or taken (i % 512) false) here ∙ out)

-- what is not admitted afterwards is not the one that was added, and was not admitted before
pub adds_one : (s : ℕ) (taken : List Bool) → length taken ≡ 512 → (k : ℕ) → get_or (set taken (s % 512) true) (k % 512) false ≡ false
    → (k ≢ s) × (get_or taken (k % 512) false ≡ false)
adds_one s taken long k out = either (cases_eq (k % 512) (s % 512))
  where
    either : (k % 512 ≡ s % 512) ⊎ (k % 512 ≢ s % 512) → (k ≢ s) × (get_or taken (k % 512) false ≡ false)
    either (inl same) =
        let yes : get_or (set taken (s % 512) true) (k % 512) false ≡ true = ap (λ (i : ℕ). get_or (set taken (s % 512) true) i false) same ∙ get_or-set_same taken (s % 512) true false (omega (arith, long)) in
        absurd (true≢false (sym yes ∙ out))
    either (inr other) = ((λ is. other (ap (λ (i : ℕ). i % 512) is)), sym (get_or-set_other taken (s % 512) (k % 512) true false other) ∙ out)
