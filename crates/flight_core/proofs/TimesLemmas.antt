-- How often a client waits, and what a look-up finds.
use Rattle.std.proofs.Common.{◌≡◌, ◌≢◌, ◌⊎◌, inl, inr, ℕ, zero, suc, ◌+◌, ◌<◌, ◌≤◌, Bool, true, false, not, cond, List, [], ◌∷◌, ◌++◌, length, get_or, Option, Some, None, refl, sym, ◌∙◌, ap, subst, arith, eq-eqb, eqb-true}
use Rattle.std.specs.Prelude.{◌==◌, find, filter, option_map, option_copied, is_some}
use Rattle.std.specs.Borrow.{Bor}
use Rattle.std.specs.List.{All}
use Rattle.std.proofs.lemmas.Option.{same_Some, none-some}
use Rattle.std.proofs.lemmas.Bool.{cases_eq, true≢false, false≢true}
use Rattle.std.proofs.lemmas.List.Sums.{sum_by-cons, sum_by_push, length-filter}
use Rattle.std.proofs.lemmas.List.Filters.{sum_by-filter_both, length-filter_both}
use Rattle.std.proofs.lemmas.List.Elements.{All-nil, All-cons, All-head, All-tail, All-filter, filter_passes}
use Rattle.flight_core.specs.declared.pending.Pending.{Pending}
use Rattle.flight_core.specs.Pending.{times}
use Rattle.flight_core.specs.Crowd.{entry_of, of_client}
use Rattle.flight_core.specs.Flights.{flight_of}

pub times-cons : (p : Pending) (ps : List Pending) (k : ℕ) → times (p ∷ ps) k ≡ cond (p.client == k) 1 0 + times ps k
times-cons p ps k = sum_by-cons (λ (q : Pending). cond (q.client == k) 1 0) p ps

pub times-push : (ps : List Pending) (p : Pending) (k : ℕ) → times (ps ++ p ∷ []) k ≡ times ps k + cond (p.client == k) 1 0
times-push ps p k = sum_by_push (λ (q : Pending). cond (q.client == k) 1 0) ps p

-- of those who pass a test and the others
pub times-parts : (test : Pending → Bool) (ps : List Pending) (k : ℕ) → times (filter test ps) k + times (filter (λ p. not (test p)) ps) k ≡ times ps k
times-parts test ps k = sum_by-filter_both test (λ p. not (test p)) (λ _. refl) (λ (q : Pending). cond (q.client == k) 1 0) ps

-- what is found passes, and what holds of all holds of it
pub found : (test : Pending → Bool) (P : Pending → Type 0) (ps : List Pending) (p : Pending) → All P ps → find test ps ≡ Some p → P p × (test p ≡ true)
found test P [] p all is = absurd (none-some p is)
found test P (q ∷ ps) p all is = either (test q) refl is (found test P ps p (All-tail P q ps all))
  where
    either : (b : Bool) → test q ≡ b → cond b (Some q) (find test ps) ≡ Some p → (find test ps ≡ Some p → P p × (test p ≡ true)) → P p × (test p ≡ true)
    either true t e more =
        let same : q ≡ p = same_Some q p e in
        (subst P same (All-head P q ps all), ap test (sym same) ∙ t)
    either false t e more = more e

-- where none is found, none passes
pub not_found : (test : Pending → Bool) (ps : List Pending) → find test ps ≡ None → All (λ p. test p ≡ false) ps
not_found test [] none = All-nil (λ (p : Pending). test p ≡ false)
not_found test (p ∷ ps) none = either (test p) refl none (not_found test ps)
  where
    either : (b : Bool) → test p ≡ b → cond b (Some p) (find test ps) ≡ None → (find test ps ≡ None → All (λ q. test q ≡ false) ps) → All (λ q. test q ≡ false) (p ∷ ps)
    either true t e more = absurd (none-some p (sym e))
    either false t e more = All-cons (λ (q : Pending). test q ≡ false) p ps t (more e)

pub entry_none : (ps : List Pending) (k : ℕ) → entry_of ps k ≡ None → times ps k ≡ 0
entry_none [] k none = refl
entry_none (p ∷ ps) k none = times-cons p ps k ∙ either (p.client == k) none (entry_none ps k)
  where
    either : (b : Bool) → cond b (Some p) (entry_of ps k) ≡ None → (entry_of ps k ≡ None → times ps k ≡ 0) → cond b 1 0 + times ps k ≡ 0
    either true e more = absurd (none-some p (sym e))
    either false e more = omega (arith, more e)

pub entry_counts : (ps : List Pending) (k : ℕ) (p : Pending) → entry_of ps k ≡ Some p → 1 ≤ times ps k
entry_counts [] k p is = absurd (none-some p is)
entry_counts (q ∷ ps) k p is = subst (λ (n : ℕ). 1 ≤ n) (sym (times-cons q ps k)) (either (q.client == k) is (entry_counts ps k p))
  where
    either : (b : Bool) → cond b (Some q) (entry_of ps k) ≡ Some p → (entry_of ps k ≡ Some p → 1 ≤ times ps k) → 1 ≤ cond b 1 0 + times ps k
    either true e more = omega arith
    either false e more = omega (arith, more e)

-- who waits with it is the client
pub entry_client : (ps : List Pending) (k : ℕ) (p : Pending) → entry_of ps k ≡ Some p → p.client ≡ k
entry_client ps k p is = eqb-true p.client k (found (λ (q : Pending). q.client == k) (λ (q : Pending). Unit {0}) ps p (λ j d below. tt) is).1

no_length : (ps : List Pending) → length ps ≡ 0 → ps ≡ []
no_length [] e = refl
no_length (p ∷ ps) e = absurd (omega (arith, e))

-- one who does not wait is none of them
pub of_nobody : (ps : List Pending) (k : ℕ) → times ps k ≡ 0 → of_client ps k ≡ []
of_nobody ps k none = no_length (of_client ps k) (length-filter (λ (p : Pending). p.client == k) ps ∙ none)

-- one who waits once is the one that is found
pub of_one : (ps : List Pending) (k : ℕ) (p : Pending) → entry_of ps k ≡ Some p → times ps k ≤ 1 → of_client ps k ≡ p ∷ []
of_one [] k p is once = absurd (none-some p is)
of_one (q ∷ ps) k p is once = either (q.client == k) is (subst (λ (n : ℕ). n ≤ 1) (times-cons q ps k) once) (of_one ps k p)
  where
    either : (b : Bool) → cond b (Some q) (entry_of ps k) ≡ Some p → cond b 1 0 + times ps k ≤ 1
        → (entry_of ps k ≡ Some p → times ps k ≤ 1 → of_client ps k ≡ p ∷ []) → cond b (q ∷ of_client ps k) (of_client ps k) ≡ p ∷ []
    either true e once more =
        let none : times ps k ≡ 0 = omega (arith, once) in
        ap (λ (x : Pending). x ∷ of_client ps k) (same_Some q p e) ∙ ap (λ (xs : List Pending). p ∷ xs) (of_nobody ps k none)
    either false e once more = more e (omega (arith, once))

-- one who did not wait and comes last is found
pub entry_push : (ps : List Pending) (x : Pending) (k : ℕ) → x.client ≡ k → times ps k ≡ 0 → entry_of (ps ++ x ∷ []) k ≡ Some x
entry_push [] x k is none = ap (λ (b : Bool). cond b (Some x) None) (eq-eqb x.client k is)
entry_push (p ∷ ps) x k is none = either (p.client == k) (sym (times-cons p ps k) ∙ none) (entry_push ps x k is)
  where
    either : (b : Bool) → cond b 1 0 + times ps k ≡ 0 → (times ps k ≡ 0 → entry_of (ps ++ x ∷ []) k ≡ Some x) → cond b (Some p) (entry_of (ps ++ x ∷ []) k) ≡ Some x
    either true none more = absurd (omega (arith, none))
    either false none more = more (omega (arith, none))

-- what a look-up by reference finds
pub copied_none : (o : Option (Bor Pending)) (e : Option Pending) → option_copied o ≡ e → ((x : Bor Pending) → o ≡ Some x → ⊥) → e ≡ None
copied_none None e is none = sym is
copied_none (Some x) e is none = absurd (none x refl)

no_entry : (e : Option Pending) → is_some (option_map (λ p. p.flight) e) ≡ false → e ≡ None
no_entry None h = refl
no_entry (Some p) h = absurd (true≢false h)

-- one who waits for no flight
pub not_waiting : (ps : List Pending) (k : ℕ) → is_some (flight_of ps k) ≡ false → times ps k ≡ 0
not_waiting ps k fails = entry_none ps k (no_entry (entry_of ps k) fails)

pub no_entry_of : (ps : List Pending) (k : ℕ) → is_some (flight_of ps k) ≡ false → entry_of ps k ≡ None
no_entry_of ps k fails = no_entry (entry_of ps k) fails

-- Clients from 1 to n, each once at most, are at most n.

abbrev IsWithin : ℕ → Pending → Type 0
IsWithin n p = (1 ≤ p.client) × (p.client ≤ n)

abbrev but : ℕ → List Pending → List Pending
but n ps = filter (λ p. not (p.client == n)) ps

narrower : (n c : ℕ) → (1 ≤ c) × (c ≤ suc n) → not (c == suc n) ≡ true → (1 ≤ c) × (c ≤ n)
narrower n c w passes = either (cases_eq c (suc n))
  where
    either : (c ≡ suc n) ⊎ (c ≢ suc n) → (1 ≤ c) × (c ≤ n)
    either (inl same) = absurd (false≢true (sym (ap not (eq-eqb c (suc n) same)) ∙ passes))
    either (inr other) = (w.0, omega (arith, w.1, other))

within : (n : ℕ) (ps : List Pending) → All (IsWithin (suc n)) ps → All (IsWithin n) (but (suc n) ps)
within n ps all = λ k d below.
    narrower n (get_or (but (suc n) ps) k d).client
    (All-filter (λ (p : Pending). not (p.client == suc n)) (IsWithin (suc n)) ps all k d below)
    (filter_passes (λ (p : Pending). not (p.client == suc n)) ps k d below)

parts : (n : ℕ) (ps : List Pending) → times ps n + length (but n ps) ≡ length ps
parts n ps =
    let counted = length-filter (λ (p : Pending). p.client == n) ps in
    let both = length-filter_both (λ (p : Pending). p.client == n) (λ p. not (p.client == n)) (λ _. refl) ps in
    omega (arith, counted, both)

once_left : (n : ℕ) (ps : List Pending) → ((k : ℕ) → times ps k ≤ 1) → (k : ℕ) → times (but n ps) k ≤ 1
once_left n ps once k = omega (arith, times-parts (λ (p : Pending). p.client == n) ps k, once k)

few : (n : ℕ) (ps : List Pending) → All (IsWithin n) ps → ((k : ℕ) → times ps k ≤ 1) → length ps ≤ n
few zero [] all once = omega arith
few zero (p ∷ ps) all once = let w = All-head (IsWithin zero) p ps all in absurd (omega (arith, w.0, w.1))
few (suc n) ps all once =
    omega (arith, parts (suc n) ps, once (suc n), few n (but (suc n) ps) (within n ps all) (once_left (suc n) ps once))

-- and fewer, where one of these does not wait
pub fewer : (n : ℕ) (ps : List Pending) (k : ℕ) → All (IsWithin n) ps → ((j : ℕ) → times ps j ≤ 1) → (1 ≤ k) × (k ≤ n) → times ps k ≡ 0 → length ps < n
fewer zero ps k all once w none = absurd (omega (arith, w.0, w.1))
fewer (suc n) ps k all once w none =
    either (cases_eq k (suc n)) (fewer n (but (suc n) ps) k (within n ps all) (once_left (suc n) ps once))
  where
    either : (k ≡ suc n) ⊎ (k ≢ suc n) → ((1 ≤ k) × (k ≤ n) → times (but (suc n) ps) k ≡ 0 → length (but (suc n) ps) < n) → length ps < suc n
    either (inl same) more =
        let here : times ps (suc n) ≡ 0 = subst (λ (j : ℕ). times ps j ≡ 0) same none in
        omega (arith, parts (suc n) ps, here, few n (but (suc n) ps) (within n ps all) (once_left (suc n) ps once))
    either (inr other) more =
        let left : times (but (suc n) ps) k ≡ 0 = omega (arith, times-parts (λ (p : Pending). p.client == suc n) ps k, none) in
        omega (arith, parts (suc n) ps, once (suc n), more (w.0, omega (arith, w.1, other)) left)

-- The owner of a flight is none of the others.

pub none_entry : (ps : List Pending) (k : ℕ) → times ps k ≡ 0 → entry_of ps k ≡ None
none_entry ps k none = either (entry_of ps k) refl
  where
    either : (o : Option Pending) → entry_of ps k ≡ o → entry_of ps k ≡ None
    either None e = e
    either (Some p) e = absurd (omega (arith, none, entry_counts ps k p e))

times-first : (p : Pending) (ps : List Pending) → times (p ∷ ps) p.client ≡ 1 + times ps p.client
times-first p ps = times-cons p ps p.client ∙ ap (λ (b : Bool). cond b 1 0 + times ps p.client) (eq-eqb p.client p.client refl)

times-rest : (p : Pending) (ps : List Pending) (k : ℕ) → times ps k ≤ times (p ∷ ps) k
times-rest p ps k = omega (arith, times-cons p ps k)

module _ (ps : List Pending) (test : Pending → Bool) (once : (k : ℕ) → times ps k ≤ 1) (owner : Pending) (others : List Pending) (all : filter test ps ≡ owner ∷ others) where
  once_of : (k : ℕ) → times (owner ∷ others) k + times (filter (λ p. not (test p)) ps) k ≤ 1
  once_of k = subst (λ (qs : List Pending). times qs k + times (filter (λ p. not (test p)) ps) k ≤ 1) all (omega (arith, times-parts test ps k, once k))

  pub owner_alone : entry_of others owner.client ≡ None
  owner_alone = none_entry others owner.client (omega (arith, once_of owner.client, times-first owner others))

  pub each_free : (left : List Pending) → left ≡ filter (λ p. not (test p)) ps → (k : ℕ) → times left k + times others k ≤ 1
  each_free left is k = subst (λ (qs : List Pending). times qs k + times others k ≤ 1) (sym is) (omega (arith, once_of k, times-rest owner others k))
