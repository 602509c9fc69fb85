-- The hierarchy as a list of spaces.
use Rattle.std.proofs.Common.{◌≡◌, ◌≢◌, ◌⊎◌, inl, inr, ℕ, zero, suc, ◌+◌, ◌<◌, ◌≤◌, Bool, true, false, not, cond, List, [], ◌∷◌, Option, Some, None, refl, sym, ◌∙◌, ap, arith, eqb}
use Rattle.std.specs.Prelude.{slice_get, slice_set, option_and_then, IfSome, nat_lt, find, ◌==◌, if◌then◌else◌}
use Rattle.std.proofs.lemmas.Option.{same_Some, none-some}
use Rattle.std.proofs.lemmas.Bool.{ne_eqb, eq-eqb, eqb-true, true≢false, cases_lt}
use Rattle.std.proofs.lemmas.Bool.Decides.{nat_tests}
use Rattle.flat_machine.specs.declared.space.Space.{Space}
use Rattle.flat_machine.specs.Space.{space_at}
use Rattle.flat_machine.specs.Next.{put_space, without_space, change_space, lowest_unused, is_unused}
use Rattle.flat_machine.proofs.Lists.{In, any_not, find_in, not_found}
use Rattle.flat_machine.proofs.LowestLemmas.{lowest_unused_is_least}
use Rattle.projection_laws.specs.Slots.{listed, AreNumbered, SlotWritten, SlotCleared, SlotChanged, SlotFound, SlotFree}

-- the handles of what is listed from a number on are at least it
from : (n : ℕ) (slots : List (Option Space)) → AreNumbered n slots → (s : Space) → In s (listed slots) → n ≤ s.handle
from n [] h s i = absurd i
from n (None ∷ os) h s i = let r = from (suc n) os h.1 s i in omega arith
from n (Some t ∷ os) h s (inl e) = let q = ap (λ (r : Space). r.handle) e in let m = h.0 in omega arith
from n (Some t ∷ os) h s (inr i) = let r = from (suc n) os h.1 s i in omega arith

lower : (a b : ℕ) → a < b → nat_lt a b ≡ true
lower a b l = grind (arith, nat_tests)

not_lower : (a b : ℕ) → b ≤ a → nat_lt a b ≡ false
not_lower a b l = grind (arith, nat_tests)

put_first : (x : Space) (ss : List Space) → ((s : Space) → In s ss → x.handle < s.handle) → put_space x ss ≡ x ∷ ss
put_first x [] f = refl
put_first x (s ∷ ss) f = ap (λ (b : Bool). cond b (x ∷ s ∷ ss) (s ∷ put_space x ss)) (lower x.handle s.handle (f s (inl refl)))

put_later : (x s : Space) (ss : List Space) → s.handle ≤ x.handle → put_space x (s ∷ ss) ≡ s ∷ put_space x ss
put_later x s ss l = ap (λ (b : Bool). cond b (x ∷ s ∷ ss) (s ∷ put_space x ss)) (not_lower x.handle s.handle l)

none_goes : (k : ℕ) (ss : List Space) → ((s : Space) → In s ss → s.handle ≢ k) → without_space k ss ≡ ss
none_goes k [] f = refl
none_goes k (s ∷ ss) f =
    ap (λ (b : Bool). cond (not b) (s ∷ without_space k ss) (without_space k ss)) (ne_eqb s.handle k (f s (inl refl))) ∙ ap (λ (ts : List Space). s ∷ ts) (none_goes k ss (λ t i. f t (inr i)))

first_goes : (k : ℕ) (s : Space) (ss : List Space) → s.handle ≡ k → without_space k (s ∷ ss) ≡ without_space k ss
first_goes k s ss e = ap (λ (b : Bool). cond (not b) (s ∷ without_space k ss) (without_space k ss)) (eq-eqb s.handle k e)

first_stays : (k : ℕ) (s : Space) (ss : List Space) → s.handle ≢ k → without_space k (s ∷ ss) ≡ s ∷ without_space k ss
first_stays k s ss n = ap (λ (b : Bool). cond (not b) (s ∷ without_space k ss) (without_space k ss)) (ne_eqb s.handle k n)

module _ (change : Space → Space) where
  none_changes : (k : ℕ) (ss : List Space) → ((s : Space) → In s ss → s.handle ≢ k) → change_space k change ss ≡ ss
  none_changes k [] f = refl
  none_changes k (s ∷ ss) f =
      let q : eqb s.handle k ≡ false = ne_eqb s.handle k (f s (inl refl)) in let r = none_changes k ss (λ t i. f t (inr i)) in
      λ t. (if q t then change s else s) ∷ r t

  first_changes : (k : ℕ) (s : Space) (ss : List Space) → s.handle ≡ k → change_space k change (s ∷ ss) ≡ change s ∷ change_space k change ss
  first_changes k s ss e = let q : eqb s.handle k ≡ true = eq-eqb s.handle k e in λ t. (if q t then change s else s) ∷ change_space k change ss

  others_stay : (k : ℕ) (s : Space) (ss : List Space) → s.handle ≢ k → change_space k change (s ∷ ss) ≡ s ∷ change_space k change ss
  others_stay k s ss n = let q : eqb s.handle k ≡ false = ne_eqb s.handle k n in λ t. (if q t then change s else s) ∷ change_space k change ss

numbered_set : (n : ℕ) (slots : List (Option Space)) (k : ℕ) (o : Option Space) → AreNumbered n slots → ((s : Space) → o ≡ Some s → s.handle ≡ n + k) → AreNumbered n (slice_set slots k o)
numbered_set n [] k o h f = tt
numbered_set n (p ∷ os) zero o h f = (here o f, h.1)
  where
    here : (o : Option Space) → ((s : Space) → o ≡ Some s → s.handle ≡ n + 0) → IfSome o (λ s. s.handle ≡ n)
    here None f = tt
    here (Some s) f = let e = f s refl in omega arith
numbered_set n (p ∷ os) (suc k) o h f = (h.0, numbered_set (suc n) os k o h.1 (λ s e. let q = f s e in omega arith))

written : (n : ℕ) (slots : List (Option Space)) (k : ℕ) (x : Space) → AreNumbered n slots → slice_get slots k ≡ Some None → x.handle ≡ n + k → listed (slice_set slots k (Some x)) ≡ put_space x (listed slots)
written n [] k x h e f = absurd (none-some None e)
written n (None ∷ os) zero x h e f = sym (put_first x (listed os) (λ s i. let r = from (suc n) os h.1 s i in omega arith))
written n (Some s ∷ os) zero x h e f = absurd (none-some s (sym (same_Some (Some s) None e)))
written n (None ∷ os) (suc k) x h e f = written (suc n) os k x h.1 e (omega arith)
written n (Some s ∷ os) (suc k) x h e f =
    let m = h.0 in ap (λ (ts : List Space). s ∷ ts) (written (suc n) os k x h.1 e (omega arith)) ∙ sym (put_later x s (listed os) (omega arith))

cleared : (n : ℕ) (slots : List (Option Space)) (k : ℕ) (o : Option Space) → AreNumbered n slots → slice_get slots k ≡ Some o → listed (slice_set slots k None) ≡ without_space (n + k) (listed slots)
cleared n [] k o h e = absurd (none-some o e)
cleared n (None ∷ os) zero o h e = sym (none_goes (n + 0) (listed os) (λ s i q. let r = from (suc n) os h.1 s i in omega arith))
cleared n (Some s ∷ os) zero o h e =
    let m = h.0 in sym (none_goes (n + 0) (listed os) (λ t i q. let r = from (suc n) os h.1 t i in omega arith)) ∙ sym (first_goes (n + 0) s (listed os) (omega arith))
cleared n (None ∷ os) (suc k) o h e = let q : suc n + k ≡ n + suc k = omega arith in cleared (suc n) os k o h.1 e ∙ ap (λ (j : ℕ). without_space j (listed os)) q
cleared n (Some s ∷ os) (suc k) o h e =
    let m = h.0 in let q : suc n + k ≡ n + suc k = omega arith in
    ap (λ (ts : List Space). s ∷ ts) (cleared (suc n) os k o h.1 e ∙ ap (λ (j : ℕ). without_space j (listed os)) q) ∙ sym (first_stays (n + suc k) s (listed os) (λ d. omega arith))

changed : (change : Space → Space) (n : ℕ) (slots : List (Option Space)) (k : ℕ) (s : Space) → AreNumbered n slots → slice_get slots k ≡ Some (Some s)
    → listed (slice_set slots k (Some (change s))) ≡ change_space (n + k) change (listed slots)
changed change n [] k s h e = absurd (none-some (Some s) e)
changed change n (None ∷ os) zero s h e = absurd (none-some s (same_Some None (Some s) e))
changed change n (Some t ∷ os) zero s h e =
    let m = h.0 in let is : t ≡ s = same_Some t s (same_Some (Some t) (Some s) e) in
    ap (λ (r : Space). change r ∷ listed os) (sym is) ∙ ap (λ (ts : List Space). change t ∷ ts) (sym (none_changes change (n + 0) (listed os) (λ r i q. let l = from (suc n) os h.1 r i in omega arith)))
    ∙ sym (first_changes change (n + 0) t (listed os) (omega arith))
changed change n (None ∷ os) (suc k) s h e = let q : suc n + k ≡ n + suc k = omega arith in changed change (suc n) os k s h.1 e ∙ ap (λ (j : ℕ). change_space j change (listed os)) q
changed change n (Some t ∷ os) (suc k) s h e =
    let m = h.0 in let q : suc n + k ≡ n + suc k = omega arith in
    ap (λ (ts : List Space). t ∷ ts) (changed change (suc n) os k s h.1 e ∙ ap (λ (j : ℕ). change_space j change (listed os)) q) ∙ sym (others_stay change (n + suc k) t (listed os) (λ d. omega arith))

pub slot_handle : (n : ℕ) (slots : List (Option Space)) (k : ℕ) (s : Space) → AreNumbered n slots → slice_get slots k ≡ Some (Some s) → s.handle ≡ n + k
slot_handle n [] k s h e = absurd (none-some (Some s) e)
slot_handle n (None ∷ os) zero s h e = absurd (none-some s (same_Some None (Some s) e))
slot_handle n (Some t ∷ os) zero s h e = let q = ap (λ (r : Space). r.handle) (same_Some t s (same_Some (Some t) (Some s) e)) in let m = h.0 in omega arith
slot_handle n (o ∷ os) (suc k) s h e = let r = slot_handle (suc n) os k s h.1 e in omega arith

found : (n : ℕ) (slots : List (Option Space)) (k : ℕ) → AreNumbered n slots → space_at (listed slots) (n + k) ≡ option_and_then (λ o. o) (slice_get slots k)
found n [] k h = refl
found n (None ∷ os) zero h = late (find (λ s. s.handle == n + 0) (listed os)) refl
  where
    late : (o : Option Space) → space_at (listed os) (n + 0) ≡ o → space_at (listed os) (n + 0) ≡ None
    late None e = e
    late (Some s) e =
        let r = find_in (λ t. t.handle == n + 0) (listed os) s e in let l = from (suc n) os h.1 s r.0 in let q = eqb-true s.handle (n + 0) r.1 in absurd (omega arith)
found n (Some s ∷ os) zero h =
    let m = h.0 in let q : eqb s.handle (n + 0) ≡ true = eq-eqb s.handle (n + 0) (omega arith) in ap (λ (b : Bool). cond b (Some s) (space_at (listed os) (n + 0))) q
found n (None ∷ os) (suc k) h = let q : n + suc k ≡ suc n + k = omega arith in ap (λ (j : ℕ). space_at (listed os) j) q ∙ found (suc n) os k h.1
found n (Some s ∷ os) (suc k) h =
    let m = h.0 in let p : n + suc k ≡ suc n + k = omega arith in
    let q : eqb s.handle (n + suc k) ≡ false = ne_eqb s.handle (n + suc k) (λ d. omega arith) in
    ap (λ (b : Bool). cond b (Some s) (space_at (listed os) (n + suc k))) q ∙ ap (λ (j : ℕ). space_at (listed os) j) p ∙ found (suc n) os k h.1

from_zero : (k : ℕ) → 0 + k ≡ k
from_zero k = omega arith

pub slot_written : SlotWritten
slot_written slots x h e = record { spaces = written 0 slots x.handle x h e (omega arith); numbered = numbered_set 0 slots x.handle (Some x) h (λ s f. let q = ap (λ (r : Space). r.handle) (same_Some x s f) in omega arith) }

pub slot_cleared : SlotCleared
slot_cleared slots k o h e = record {
  spaces = cleared 0 slots k o h e ∙ ap (λ (j : ℕ). without_space j (listed slots)) (from_zero k);
  numbered = numbered_set 0 slots k None h (λ s f. absurd (none-some s f));
}

pub slot_changed : SlotChanged
slot_changed slots s change h e f = record {
  spaces = changed change 0 slots s.handle s h e ∙ ap (λ (j : ℕ). change_space j change (listed slots)) (from_zero s.handle);
  numbered = numbered_set 0 slots s.handle (Some (change s)) h (λ t g. let q = ap (λ (r : Space). r.handle) (same_Some (change s) t g) in omega arith);
}

pub slot_found : SlotFound
slot_found slots k h = ap (λ (j : ℕ). space_at (listed slots) j) (sym (from_zero k)) ∙ found 0 slots k h

pub slot_free : SlotFree
slot_free slots k h some e used =
    let empty : space_at (listed slots) k ≡ None = slot_found slots k h ∙ ap (λ (o : Option (Option Space)). option_and_then (λ q. q) o) e in
    let unused : is_unused (listed slots) k ≡ true = ap not (any_not (λ s. s.handle == k) (listed slots) (not_found (λ s. s.handle == k) (listed slots) empty)) in
    let low = lowest_unused_is_least (listed slots) k (used 0 some) unused in
    at_most low.0 low.1 (cases_lt (lowest_unused (listed slots)) k)
  where
    at_most : lowest_unused (listed slots) ≤ k → is_unused (listed slots) (lowest_unused (listed slots)) ≡ true → (lowest_unused (listed slots) < k) ⊎ (k ≤ lowest_unused (listed slots)) → lowest_unused (listed slots) ≡ k
    at_most l u (inl m) = absurd (true≢false (sym u ∙ used (lowest_unused (listed slots)) m))
    at_most l u (inr m) = omega arith
