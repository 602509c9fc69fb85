-- The syncs of a disk, one after the other.
use Rattle.std.proofs.Common.{◌≡◌, ◌≢◌, ◌⊎◌, inl, inr, ℕ, ◌<◌, ◌≤◌, ◌+◌, ◌-◌, Bool, true, false, List, [], ◌∷◌, ◌++◌, length, Option, Some, None, Result, Ok, Err, refl, sym, ◌∙◌, ap, subst, arith, get_or, length-append, true≢false}
use Rattle.std.specs.Prelude.{nat_eq, OnErr, is_ok, All, Contains, ◌↔◌, nat_lt, slice_get, if◌then◌else◌}
use Rattle.std.specs.Option.{option_map_or}
use Rattle.std.specs.List.Sorted.{IsStrictlyIncreasing}
use Rattle.std.proofs.Math.ListN.{get_or-append}
use Rattle.std.proofs.lemmas.Bool.{eqb-true, eq-eqb, ltb-true, ltb-false}
use Rattle.std.proofs.lemmas.List.{get_or_push}
use Rattle.std.proofs.lemmas.List.Elements.{All-push, All-weaker, All-get_or, Contains-push, Contains-push_cases}
use Rattle.std.proofs.lemmas.Map.Keys.{sorted_from_strictly_increasing}
use Rattle.std.proofs.lemmas.Map.Views.{length-le_from_below}
use Rattle.std.proofs.lemmas.Option.{slice_get_read, slice_get-get_or, slice_get_within, get_or_from_slice_get}
use Rattle.labelled_disk.specs.Syncing.{last_of, is_last, synced_at, AreSyncs, SyncingLaws}

-- the last one, and whether a number is
pub last_by : (n : ℕ) (syncs : List ℕ) → is_last n syncs ≡ true → last_of syncs ≡ Some n
last_by n syncs is = either (last_of syncs) refl is
  where
    either : (o : Option ℕ) → last_of syncs ≡ o → option_map_or (nat_eq n) o false ≡ true → last_of syncs ≡ Some n
    either None e says = absurd (true≢false (sym says))
    either (Some m) e says = e ∙ ap (λ (k : ℕ). Some k) (sym (eqb-true n m says))

pub not_last : (n : ℕ) (syncs : List ℕ) → is_last n syncs ≡ false → last_of syncs ≢ Some n
not_last n syncs isnt is = true≢false (sym (sym isnt ∙ ap (λ (o : Option ℕ). option_map_or (nat_eq n) o false) is ∙ eq-eqb n n refl))

pub last_pushed : (syncs : List ℕ) (n : ℕ) → last_of (syncs ++ n ∷ []) ≡ Some n
last_pushed syncs n =
    let all = length (syncs ++ n ∷ []) in
    let long : length (syncs ++ n ∷ []) ≡ length syncs + 1 = length-append syncs (n ∷ []) in
    slice_get_read (syncs ++ n ∷ []) all (all - 1) n refl (omega (arith, long)) (sym (get_or_push syncs n n (all - 1) (omega (arith, long))))

-- a sync adds one number or none
pub added : (n : ℕ) (syncs : List ℕ) → ((synced_at n syncs ≡ syncs) × (last_of syncs ≡ Some n)) ⊎ ((synced_at n syncs ≡ syncs ++ n ∷ []) × (last_of syncs ≢ Some n))
added n syncs = either (is_last n syncs) refl
  where
    either : (b : Bool) → is_last n syncs ≡ b → ((synced_at n syncs ≡ syncs) × (last_of syncs ≡ Some n)) ⊎ ((synced_at n syncs ≡ syncs ++ n ∷ []) × (last_of syncs ≢ Some n))
    either true e = inl (ap (λ (b : Bool). if b then syncs else syncs ++ n ∷ []) e, last_by n syncs e)
    either false e = inr (ap (λ (b : Bool). if b then syncs else syncs ++ n ∷ []) e, not_last n syncs e)

-- a greater number at the end
ascending_more : (xs : List ℕ) (n : ℕ) → IsStrictlyIncreasing xs → ((k : ℕ) → k < length xs → get_or xs k 0 < n) → IsStrictlyIncreasing (xs ++ n ∷ [])
ascending_more xs n ascending below k low = either (nat_lt (k + 1) (length xs)) refl
  where
    long : length (xs ++ n ∷ []) ≡ length xs + 1
    long = length-append xs (n ∷ [])

    either : (b : Bool) → nat_lt (k + 1) (length xs) ≡ b → get_or (xs ++ n ∷ []) k 0 < get_or (xs ++ n ∷ []) (k + 1) 0
    either true e =
        let within = ltb-true (k + 1) (length xs) e in
        let first = get_or-append xs (n ∷ []) 0 k (omega (arith, within)) in
        let next = get_or-append xs (n ∷ []) 0 (k + 1) within in
        let less : get_or xs k 0 < get_or xs (k + 1) 0 = ascending k within in
        omega (arith, first, next, less)
    either false e =
        let beyond = ltb-false (k + 1) (length xs) e in
        let first = get_or-append xs (n ∷ []) 0 k (omega (arith, beyond, low, long)) in
        let last = get_or_push xs n 0 (k + 1) (omega (arith, beyond, low, long)) in
        omega (arith, below k (omega (arith, beyond, low, long)), first, last)

-- what rises and has another last one than n, and none above it, lies below it
below_all : (xs : List ℕ) (n : ℕ) → IsStrictlyIncreasing xs → All (λ s. s ≤ n) xs → last_of xs ≢ Some n → (k : ℕ) → k < length xs → get_or xs k 0 < n
below_all xs n ascending most other k low = either (nat_lt (k + 1) (length xs)) refl
  where
    at_most : (i : ℕ) → i < length xs → get_or xs i 0 ≤ n
    at_most i within = All-get_or (λ s. s ≤ n) xs i 0 within most

    either : (b : Bool) → nat_lt (k + 1) (length xs) ≡ b → get_or xs k 0 < n
    either true e =
        let within = ltb-true (k + 1) (length xs) e in
        let less : get_or xs k 0 < get_or xs (k + 1) 0 = ascending k within in
        omega (arith, less, at_most (k + 1) within)
    either false e =
        let is : length xs - 1 ≡ k = omega (arith, ltb-false (k + 1) (length xs) e, low) in
        let stands : last_of xs ≡ Some (get_or xs k 0) = ap (λ (i : ℕ). slice_get xs i) is ∙ slice_get-get_or xs k 0 low in
        let differ : get_or xs k 0 ≢ n = λ same. other (stands ∙ ap (λ (m : ℕ). Some m) same) in
        omega (arith, differ, at_most k low)

-- one sync more
pub settled_more : (n : ℕ) (synced : Bool) (syncs : List ℕ) → AreSyncs n synced syncs → AreSyncs n true (synced_at n syncs)
settled_more n synced syncs are = either (added n syncs)
  where
    either : ((synced_at n syncs ≡ syncs) × (last_of syncs ≡ Some n)) ⊎ ((synced_at n syncs ≡ syncs ++ n ∷ []) × (last_of syncs ≢ Some n)) → AreSyncs n true (synced_at n syncs)
    either (inl same) = subst (λ (xs : List ℕ). AreSyncs n true xs) (sym same.0) (record { ascending = are.ascending; made = are.made; last = λ e. same.1 })
    either (inr more) = subst (λ (xs : List ℕ). AreSyncs n true xs) (sym more.0) (record {
      ascending = ascending_more syncs n are.ascending (below_all syncs n are.ascending are.made more.1);
      made = All-push (λ s. s ≤ n) syncs n are.made (omega arith);
      last = λ e. last_pushed syncs n;
    })

-- more writes, which are not settled
pub written_more : (n more : ℕ) (synced : Bool) (syncs : List ℕ) → n ≤ more → AreSyncs n synced syncs → AreSyncs more false syncs
written_more n more synced syncs low are = record { ascending = are.ascending; made = All-weaker (λ s. s ≤ n) (λ s. s ≤ more) (λ s most. omega (arith, most, low)) syncs are.made; last = λ e. absurd (true≢false (sym e)) }

-- there are no more than the numbers up to n
pub few_syncs : (n : ℕ) (synced : Bool) (syncs : List ℕ) → AreSyncs n synced syncs → length syncs ≤ n + 1
few_syncs n synced syncs are = length-le_from_below (n + 1) syncs (sorted_from_strictly_increasing syncs are.ascending)
    (All-weaker (λ s. s ≤ n) (λ s. s < n + 1) (λ s most. omega (arith, most)) syncs are.made)

-- so a sync that adds one has room for it
pub room_for_one : (n : ℕ) (synced : Bool) (syncs : List ℕ) → AreSyncs n synced syncs → is_last n syncs ≡ false → length syncs ≤ n
room_for_one n synced syncs are isnt =
    let e : synced_at n syncs ≡ syncs ++ n ∷ [] = ap (λ (b : Bool). if b then syncs else syncs ++ n ∷ []) isnt in
    let few = few_syncs n true (synced_at n syncs) (settled_more n synced syncs are) in
    omega (arith, few, ap length e, length-append syncs (n ∷ []))

-- a list that has room for one more takes it
pub takes_one : {T E : Type 0} (result : Result T E) (capacity held : ℕ) → OnErr result (capacity ≤ held) → held < capacity → is_ok result ≡ true
takes_one (Ok x) capacity held full room = refl
takes_one (Err e) capacity held full room = absurd (omega (arith, full, room))

-- what a sync adds, where the last one was another
pub one_added : (n : ℕ) (syncs new : List ℕ) → is_last n syncs ≡ false → new ≡ syncs ++ n ∷ [] → new ≡ synced_at n syncs
one_added n syncs new isnt is = is ∙ sym (ap (λ (b : Bool). if b then syncs else syncs ++ n ∷ []) isnt)

pub none_added : (n : ℕ) (syncs : List ℕ) → is_last n syncs ≡ true → syncs ≡ synced_at n syncs
none_added n syncs is = sym (ap (λ (b : Bool). if b then syncs else syncs ++ n ∷ []) is)

contains_longer : (xs ys : List ℕ) (s : ℕ) → Contains xs s → Contains (xs ++ ys) s
contains_longer xs ys s has =
    let is : get_or xs has.0 s ≡ s = has.2 in
    (has.0, omega (arith, has.1, length-append xs ys), get_or-append xs ys s has.0 has.1 ∙ is)

-- the last one is one of them
last_is_one : (xs : List ℕ) (n : ℕ) → last_of xs ≡ Some n → Contains xs n
last_is_one xs n is = (length xs - 1, slice_get_within xs (length xs - 1) n is, get_or_from_slice_get xs (length xs - 1) n n is)

pub syncing_laws : (n : ℕ) (synced : Bool) (syncs : List ℕ) → AreSyncs n synced syncs → SyncingLaws n syncs
syncing_laws n synced syncs are = record {
  sync_counts = settled_more n synced syncs are;
  written = λ more low. written_more n more synced syncs low are;
  added = either (added n syncs);
  few = few_syncs n synced syncs are;
}
  where
    either : ((synced_at n syncs ≡ syncs) × (last_of syncs ≡ Some n)) ⊎ ((synced_at n syncs ≡ syncs ++ n ∷ []) × (last_of syncs ≢ Some n))
        → (s : ℕ) → Contains (synced_at n syncs) s ↔ (Contains syncs s ⊎ (n ≡ s))
    either (inl same) = subst (λ (xs : List ℕ). (s : ℕ) → Contains xs s ↔ (Contains syncs s ⊎ (n ≡ s))) (sym same.0) (λ s.
        (λ has. inl has, λ one. elim one [ inl has ↦ has | inr e ↦ subst (λ (m : ℕ). Contains syncs m) e (last_is_one syncs n same.1) ]))
    either (inr more) = subst (λ (xs : List ℕ). (s : ℕ) → Contains xs s ↔ (Contains syncs s ⊎ (n ≡ s))) (sym more.0) (λ s. (
      λ has. Contains-push_cases syncs n s has,
      λ one. elim one [ inl has ↦ contains_longer syncs (n ∷ []) s has | inr e ↦ subst (λ (m : ℕ). Contains (syncs ++ n ∷ []) m) e (Contains-push syncs n) ],
    ))
