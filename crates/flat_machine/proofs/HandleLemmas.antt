-- Handles of spaces: the lowest unused one, and a space put in its place.
use Rattle.std.proofs.Common.{◌≡◌, ℕ, suc, ◌+◌, ◌<◌, ◌≤◌, Bool, true, false, not, ◌||◌, cond, List, [], ◌∷◌, map, length, refl, arith}
use Rattle.std.proofs.lemmas.Bool.Decides.{nat_tests}
use Rattle.std.specs.Prelude.{nat_lt, ◌==◌, if◌then◌else◌}
use Rattle.std.specs.List.{list_any, AllByRecursion}
use Rattle.flat_machine.specs.Space.{Space}
use Rattle.flat_machine.specs.Machine.{IsAscending}
use Rattle.flat_machine.specs.Next.{is_unused, lowest_unused, put_space}
use Rattle.flat_machine.proofs.LowestLemmas.{lowest_unused_is_least}

-- the handles of spaces
abbrev pub handles : List Space → List ℕ
handles ss = map (λ s. s.handle) ss

-- the first number from low on that the ascending handles skip
abbrev pub walk : ℕ → List Space → ℕ
walk low [] = low
walk low (s ∷ ss) = if s.handle == low then walk (low + 1) ss else low

walk_low : (ss : List Space) (low : ℕ) → low ≤ walk low ss
walk_low [] low = omega arith
walk_low (s ∷ ss) low = either (s.handle == low) (walk_low ss (low + 1))
  where
    either : (b : Bool) → low + 1 ≤ walk (low + 1) ss → low ≤ cond b (walk (low + 1) ss) low
    either true h = omega arith
    either false h = omega arith

pub walk_few : (ss : List Space) (low : ℕ) → walk low ss ≤ low + length ss
walk_few [] low = omega arith
walk_few (s ∷ ss) low = either (s.handle == low) (walk_few ss (low + 1))
  where
    either : (b : Bool) → walk (low + 1) ss ≤ low + 1 + length ss → cond b (walk (low + 1) ss) low ≤ low + suc (length ss)
    either true h = omega arith
    either false h = omega arith

other_below : (a b : ℕ) → a < b → b == a ≡ false
other_below a b h = grind (arith, nat_tests)

other_above : (a b : ℕ) → b < a → b == a ≡ false
other_above a b h = grind (arith, nat_tests)

same_as : (a b : ℕ) → a == b ≡ true → a ≡ b
same_as a b h = grind (arith, nat_tests)

not_same : (a b : ℕ) → b ≤ a → a == b ≡ false → b < a
not_same a b l h = grind (arith, nat_tests)

neither : (a b : Bool) → a ≡ false → b ≡ false → a || b ≡ false
neither false b e f = f
neither true b e f = absurd (cc)

weaker : (P Q : ℕ → Type 0) → ((k : ℕ) → P k → Q k) → (ns : List ℕ) → AllByRecursion P ns → AllByRecursion Q ns
weaker P Q f [] h = tt
weaker P Q f (n ∷ ns) h = (f n h.0, weaker P Q f ns h.1)

above_unused : (ss : List Space) (k : ℕ) → AllByRecursion (λ y. k < y) (handles ss) → list_any (λ s. s.handle == k) ss ≡ false
above_unused [] k h = refl
above_unused (s ∷ ss) k h = neither _ _ (other_below k s.handle h.0) (above_unused ss k h.1)

walk_unused : (ss : List Space) (low : ℕ) → IsAscending (handles ss) → AllByRecursion (λ y. low ≤ y) (handles ss) → list_any (λ s. s.handle == walk low ss) ss ≡ false
walk_unused [] low r h = refl
walk_unused (s ∷ ss) low r h = either (s.handle == low) refl (walk_unused ss (low + 1) r.1)
  where
    either : (b : Bool) → s.handle == low ≡ b
        → (AllByRecursion (λ y. low + 1 ≤ y) (handles ss) → list_any (λ t. t.handle == walk (low + 1) ss) ss ≡ false)
        → list_any (λ t. t.handle == cond b (walk (low + 1) ss) low) (s ∷ ss) ≡ false
    either true e f =
        let q : s.handle ≡ low = same_as s.handle low e in
        let l : s.handle < walk (low + 1) ss = omega (arith, walk_low ss (low + 1)) in
        neither _ _ (other_above (walk (low + 1) ss) s.handle l) (f (weaker (λ y. s.handle < y) (λ y. low + 1 ≤ y) (λ k p. omega arith) (handles ss) r.0))
    either false e f =
        let l : low < s.handle = not_same s.handle low h.0 e in
        neither _ _ e (above_unused ss low (weaker (λ y. s.handle < y) (λ y. low < y) (λ k p. omega arith) (handles ss) r.0))

walk_used : (ss : List Space) (low k : ℕ) → low ≤ k → k < walk low ss → list_any (λ s. s.handle == k) ss ≡ true
walk_used [] low k l h = absurd (omega arith)
walk_used (s ∷ ss) low k l h = either (s.handle == low) refl h (walk_used ss (low + 1) k)
  where
    here : (b : Bool) → s.handle == k ≡ b → (b ≡ false → list_any (λ t. t.handle == k) ss ≡ true) → b || list_any (λ t. t.handle == k) ss ≡ true
    here true e f = refl
    here false e f = f refl

    either : (b : Bool) → s.handle == low ≡ b → k < cond b (walk (low + 1) ss) low
        → (low + 1 ≤ k → k < walk (low + 1) ss → list_any (λ t. t.handle == k) ss ≡ true) → (s.handle == k) || list_any (λ t. t.handle == k) ss ≡ true
    either true e m f = here (s.handle == k) refl (λ n. f (let q : s.handle ≡ low = same_as s.handle low e in grind (arith, nat_tests)) m)
    either false e m f = absurd (omega arith)

turned : (b : Bool) → b ≡ false → not b ≡ true
turned true e = absurd (cc)
turned false e = refl

pub from_zero : (ns : List ℕ) → AllByRecursion (λ y. 0 ≤ y) ns
from_zero [] = tt
from_zero (n ∷ ns) = (omega arith, from_zero ns)

-- no more handles are below the lowest unused one than there are spaces
pub lowest_few : (ss : List Space) → IsAscending (handles ss) → is_unused ss 0 ≡ false → lowest_unused ss ≤ length ss
lowest_few ss r z =
    let u : is_unused ss (walk 0 ss) ≡ true = turned _ (walk_unused ss 0 r (from_zero (handles ss))) in
    omega (arith, (lowest_unused_is_least ss (walk 0 ss) z u).0, walk_few ss 0)

-- it is unused, and not the root's
pub lowest_free : (ss : List Space) → IsAscending (handles ss) → is_unused ss 0 ≡ false → (is_unused ss (lowest_unused ss) ≡ true) × (1 ≤ lowest_unused ss)
lowest_free ss r z =
    let u : is_unused ss (walk 0 ss) ≡ true = turned _ (walk_unused ss 0 r (from_zero (handles ss))) in
    let least = lowest_unused_is_least ss (walk 0 ss) z u in
    (least.1, least.2)

-- a space put in its place

pub every_put : (P : Space → Type 0) (x : Space) (ss : List Space) → P x → AllByRecursion P ss → AllByRecursion P (put_space x ss)
every_put P x [] p h = (p, tt)
every_put P x (s ∷ ss) p h = either (nat_lt x.handle s.handle) (every_put P x ss p h.1)
  where
    either : (b : Bool) → AllByRecursion P (put_space x ss) → AllByRecursion P (cond b (x ∷ s ∷ ss) (s ∷ put_space x ss))
    either true k = (p, h)
    either false k = (h.0, k)

above_map : (k : ℕ) (ss : List Space) → AllByRecursion (λ y. k < y) (handles ss) → AllByRecursion (λ s. k < s.handle) ss
above_map k [] h = tt
above_map k (s ∷ ss) h = (h.0, above_map k ss h.1)

above_back : (k : ℕ) (ss : List Space) → AllByRecursion (λ s. k < s.handle) ss → AllByRecursion (λ y. k < y) (handles ss)
above_back k [] h = tt
above_back k (s ∷ ss) h = (h.0, above_back k ss h.1)

lt_from : (a b : ℕ) → nat_lt a b ≡ true → a < b
lt_from a b h = grind (arith, nat_tests)

le_from : (a b : ℕ) → nat_lt a b ≡ false → b == a ≡ false → b < a
le_from a b h k = grind (arith, nat_tests)

not_or : (a b : Bool) → not (a || b) ≡ true → (a ≡ false) × (not b ≡ true)
not_or true b h = absurd (cc)
not_or false b h = (refl, h)

pub put_rises : (x : Space) (ss : List Space) → IsAscending (handles ss) → is_unused ss x.handle ≡ true → IsAscending (handles (put_space x ss))
put_rises x [] r u = (tt, tt)
put_rises x (s ∷ ss) r u = either (nat_lt x.handle s.handle) refl (put_rises x ss r.1)
  where
    either : (b : Bool) → nat_lt x.handle s.handle ≡ b → (is_unused ss x.handle ≡ true → IsAscending (handles (put_space x ss)))
        → IsAscending (handles (cond b (x ∷ s ∷ ss) (s ∷ put_space x ss)))
    either true e f =
        let l : x.handle < s.handle = lt_from _ _ e in
        ((l, weaker (λ y. s.handle < y) (λ y. x.handle < y) (λ k p. omega arith) (handles ss) r.0), r)
    either false e f =
        let parts = not_or (s.handle == x.handle) (list_any (λ t. t.handle == x.handle) ss) u in
        let l : s.handle < x.handle = le_from _ _ e parts.0 in
        (above_back s.handle (put_space x ss) (every_put (λ t. s.handle < t.handle) x ss l (above_map s.handle ss r.0)), f parts.1)
