-- Runs that were kept, and one that was found.
use Rattle.std.proofs.Common.{◌≡◌, ◌⊎◌, inl, inr, ℕ, zero, suc, ◌+◌, ◌-◌, ◌≤◌, Bool, true, false, ◌==◌, ◌&&◌, List, [], ◌∷◌, ◌++◌, length, drop, Some, refl, sym, subst, arith}
use Rattle.std.specs.Prelude.{cond, find, slice_get, nat_le, nat_lt}
use Rattle.std.proofs.lemmas.Bool.{eqb-true, and_parts}
use Rattle.std.proofs.lemmas.List.{length_push}
use Rattle.std.proofs.lemmas.Option.{same_Some, none-some}
use Rattle.file_map.specs.declared.run.Run.{Run}
use Rattle.file_map.specs.Run.{holds, sector_at}
use Rattle.file_map.specs.FileMap.{Triples}
use Rattle.filer_kernel.specs.Runs.{newest}
use Rattle.filer_kernel.specs.Triples.{AreOf, IsOneOf}

-- what is found is in the list, and passes the test
found_by : (test : Run → Bool) (s : Run) (xs : List Run) (r : Run) (b : Bool) → test s ≡ b → (find test xs ≡ Some r → IsOneOf r xs × (test r ≡ true)) → cond b (Some s) (find test xs) ≡ Some r → IsOneOf r (s ∷ xs) × (test r ≡ true)
found_by test s xs r true is rest found = ((zero, found), subst (λ (x : Run). test x ≡ true) (same_Some s r found) is)
found_by test s xs r false is rest found = let later = rest found in ((suc later.0.0, later.0.1), later.1)

pub found_in : (test : Run → Bool) (xs : List Run) (r : Run) → find test xs ≡ Some r → IsOneOf r xs × (test r ≡ true)
found_in test [] r found = absurd (none-some r found)
found_in test (s ∷ xs) r found = found_by test s xs r (test s) refl (found_in test xs r) found

last_left : (k : ℕ) (xs : List Run) (r : Run) → k ≤ length xs → IsOneOf r (drop k (xs ++ r ∷ []))
last_left zero [] r few = (zero, refl)
last_left zero (x ∷ xs) r few = let last = last_left zero xs r (omega arith) in (suc last.0, last.1)
last_left (suc k) [] r few = absurd (omega (arith, few))
last_left (suc k) (x ∷ xs) r few = last_left k xs r (omega (arith, few))

-- the newest is kept
pub newest_kept : (n : ℕ) (xs : List Run) (r : Run) → 1 ≤ n → IsOneOf r (newest n (xs ++ r ∷ []))
newest_kept n xs r some = let more = length_push xs r in last_left (length (xs ++ r ∷ []) - n) xs r (omega (arith, more, some))

left_of : (k : ℕ) (xs : List Run) (r : Run) → IsOneOf r (drop k xs) → IsOneOf r xs
left_of zero xs r one = one
left_of (suc k) [] r one = one
left_of (suc k) (x ∷ xs) r one = let later = left_of k xs r one in (suc later.0, later.1)

one_of_pushed : (xs : List Run) (r s : Run) (k : ℕ) → slice_get (xs ++ r ∷ []) k ≡ Some s → IsOneOf s xs ⊎ (r ≡ s)
one_of_pushed [] r s zero at = inr (same_Some r s at)
one_of_pushed [] r s (suc k) at = absurd (none-some s at)
one_of_pushed (x ∷ xs) r s zero at = inl (zero, at)
one_of_pushed (x ∷ xs) r s (suc k) at = elim (one_of_pushed xs r s k at) [ inl one ↦ inl (suc one.0, one.1) | inr same ↦ inr same ]

-- one that is kept was kept before, or is the newest
pub kept_or_newest : (n : ℕ) (xs : List Run) (r s : Run) → IsOneOf s (newest n (xs ++ r ∷ [])) → IsOneOf s xs ⊎ (r ≡ s)
kept_or_newest n xs r s one = let among = left_of (length (xs ++ r ∷ []) - n) (xs ++ r ∷ []) s one in one_of_pushed xs r s among.0 among.1

pub same_file : (r : Run) (id page : ℕ) → holds r id page ≡ true → r.id ≡ id
same_file r id page has = eqb-true r.id id (and_parts (r.id == id) (nat_le r.first page && nat_lt page (r.first + r.pages)) has).0

-- what a run says is named, that of a file says of its file
pub of_file : (named : Triples) (r : Run) (id page : ℕ) → holds r id page ≡ true → ((p : ℕ) → holds r id p ≡ true → named id p (sector_at r p) ≡ true) → (p : ℕ) → holds r r.id p ≡ true → named r.id p (sector_at r p) ≡ true
of_file named r id page has are = subst (λ (i : ℕ). (p : ℕ) → holds r i p ≡ true → named i p (sector_at r p) ≡ true) (sym (same_file r id page has)) are

pub of_one : (named : Triples) (xs : List Run) (r : Run) (id page : ℕ) → AreOf named xs → IsOneOf r xs → holds r id page ≡ true → (p : ℕ) → holds r id p ≡ true → named id p (sector_at r p) ≡ true
of_one named xs r id page are one has = subst (λ (i : ℕ). (p : ℕ) → holds r i p ≡ true → named i p (sector_at r p) ≡ true) (same_file r id page has) (are one.0 r one.1)

-- runs of the map, and one that was found in it
pub are_of_kept : (named : Triples) (n : ℕ) (xs : List Run) (r : Run) → AreOf named xs → ((p : ℕ) → holds r r.id p ≡ true → named r.id p (sector_at r p) ≡ true) → AreOf named (newest n (xs ++ r ∷ []))
are_of_kept named n xs r are of k s at = elim (kept_or_newest n xs r s (k, at)) [
  | inl one ↦ are one.0 s one.1
  | inr same ↦ subst (λ (t : Run). (p : ℕ) → holds t t.id p ≡ true → named t.id p (sector_at t p) ≡ true) same of
]
