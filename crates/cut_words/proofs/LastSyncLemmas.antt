-- The last sync by some write.
use Rattle.std.proofs.Common.{◌≡◌, ◌⊎◌, inl, inr, ℕ, zero, suc, ◌<◌, ◌≤◌, Bool, true, false, List, [], ◌∷◌, ◌++◌, length, Option, Some, None, refl, sym, ◌∙◌, ap, subst, arith, max}
use Rattle.std.specs.Prelude.{Contains, nat_le, if◌then◌else◌, slice_index_or}
use Rattle.std.specs.Option.{option_map_or}
use Rattle.std.proofs.lemmas.List.Elements.{Contains-push, Contains-push_cases}
use Rattle.std.proofs.lemmas.Bool.{cases_lt, leb-true, leb-false, lt-leb}
use Rattle.cut_words.specs.Syncs.{last_sync, IsLastSync, SyncLaws}

contains_cases : (x : ℕ) (xs : List ℕ) (s : ℕ) → Contains (x ∷ xs) s → (x ≡ s) ⊎ Contains xs s
contains_cases x xs s has = either has.0 has.1 has.2
  where
    either : (k : ℕ) → k < length (x ∷ xs) → slice_index_or (x ∷ xs) k s ≡ s → (x ≡ s) ⊎ Contains xs s
    either zero low e = inl e
    either (suc k) low e = inr (k, omega (arith, low), e)

contains_first : (x : ℕ) (xs : List ℕ) → Contains (x ∷ xs) x
contains_first x xs = (0, omega arith, refl)

contains_rest : (x : ℕ) (xs : List ℕ) (s : ℕ) → Contains xs s → Contains (x ∷ xs) s
contains_rest x xs s has = (suc has.0, omega (arith, has.1), has.2)

-- what is revealed is the last, and where nothing is revealed there is none
abbrev Revealed : List ℕ → ℕ → Option ℕ → Type 0
Revealed syncs k None = (s : ℕ) → Contains syncs s → s ≤ k → ⊥
Revealed syncs k (Some s) = IsLastSync syncs k s

same_revealed : (syncs : List ℕ) (k : ℕ) (o p : Option ℕ) → o ≡ p → Revealed syncs k o → Revealed syncs k p
same_revealed syncs k o p e revealed = subst (λ (q : Option ℕ). Revealed syncs k q) e revealed

max_cases : (a b : ℕ) → (max a b ≡ a) ⊎ (max a b ≡ b)
max_cases a b = elim (cases_lt a b) [ inl l ↦ inr (omega (arith, l)) | inr l ↦ inl (omega (arith, l)) ]

revealed : (syncs : List ℕ) (k : ℕ) → Revealed syncs k (last_sync syncs k)
revealed [] k = λ s has low. omega (arith, has.1)
revealed (x ∷ xs) k = either (nat_le x k) refl (last_sync xs k) (revealed xs k)
  where
    later_none : x ≤ k → ((s : ℕ) → Contains xs s → s ≤ k → ⊥) → (later : ℕ) → Contains (x ∷ xs) later → later ≤ k → later ≤ x
    later_none low none later has by = elim (contains_cases x xs later has) [ inl e ↦ omega (arith, e) | inr rest ↦ absurd (none later rest by) ]

    made : (s : ℕ) → Contains xs s → (max x s ≡ x) ⊎ (max x s ≡ s) → Contains (x ∷ xs) (max x s)
    made s has (inl e) = subst (λ (n : ℕ). Contains (x ∷ xs) n) (sym e) (contains_first x xs)
    made s has (inr e) = subst (λ (n : ℕ). Contains (x ∷ xs) n) (sym e) (contains_rest x xs s has)

    either : (b : Bool) → nat_le x k ≡ b → (o : Option ℕ) → Revealed xs k o → Revealed (x ∷ xs) k (if b then Some (option_map_or (max x) o x) else o)
    either false e None none = λ s has low. elim (contains_cases x xs s has) [ inl is ↦ omega (arith, leb-false x k e, is, low) | inr rest ↦ none s rest low ]
    either false e (Some t) last = record {
      made = contains_rest x xs t last.made;
      by_then = last.by_then;
      none_between = λ later has by. elim (contains_cases x xs later has) [ inl is ↦ absurd (omega (arith, leb-false x k e, is, by)) | inr rest ↦ last.none_between later rest by ];
    }
    either true e None none = record { made = contains_first x xs; by_then = leb-true x k e; none_between = later_none (leb-true x k e) none }
    either true e (Some t) last = record {
      made = made t last.made (max_cases x t);
      by_then = omega (arith, leb-true x k e, last.by_then, max_cases x t);
      none_between = λ later has by. elim (contains_cases x xs later has) [ inl is ↦ omega (arith, is) | inr rest ↦ omega (arith, last.none_between later rest by) ];
    }

-- a sync after k
later : (syncs : List ℕ) (k n : ℕ) → k < n → last_sync (syncs ++ n ∷ []) k ≡ last_sync syncs k
later [] k n late = ap (λ (b : Bool). if b then Some n else None) (lt-leb n k late)
later (x ∷ xs) k n late = ap (λ (o : Option ℕ). if nat_le x k then Some (option_map_or (max x) o x) else o) (later xs k n late)

-- the last sync is revealed
one_last : (syncs : List ℕ) (k s : ℕ) → IsLastSync syncs k s → last_sync syncs k ≡ Some s
one_last syncs k s last = either (last_sync syncs k) refl
  where
    either : (o : Option ℕ) → last_sync syncs k ≡ o → last_sync syncs k ≡ Some s
    either None e = absurd (same_revealed syncs k (last_sync syncs k) None e (revealed syncs k) s last.made last.by_then)
    either (Some t) e =
        let is = same_revealed syncs k (last_sync syncs k) (Some t) e (revealed syncs k) in
        e ∙ ap (λ (n : ℕ). Some n) (let z : t ≡ s = omega (arith, last.none_between t is.made is.by_then, is.none_between s last.made last.by_then) in z)

pub sync_laws : (syncs : List ℕ) (k : ℕ) → SyncLaws syncs k
sync_laws syncs k = record {
  revealed = λ s. (λ e. same_revealed syncs k (last_sync syncs k) (Some s) e (revealed syncs k), λ last. one_last syncs k s last);
  none = λ e. same_revealed syncs k (last_sync syncs k) None e (revealed syncs k);
  later = λ n late. later syncs k n late;
  last = λ n low below. one_last (syncs ++ n ∷ []) k n (record {
    made = Contains-push syncs n;
    by_then = low;
    none_between = λ s has by. elim (Contains-push_cases syncs n s has) [ inl before ↦ below s before | inr is ↦ omega (arith, is) ];
  });
}
