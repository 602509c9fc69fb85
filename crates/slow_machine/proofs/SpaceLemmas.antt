-- Spaces in ascending handles: the lowest unused handle, and what changes of the list keep.
use Rattle.std.proofs.Common.{◌≡◌, ◌≢◌, ℕ, zero, suc, ◌+◌, ◌<◌, ◌≤◌, Bool, true, false, not, ◌||◌, cond, List, [], ◌∷◌, map, filter, drop, get_or, length, refl, ◌∙◌, ap, arith}
use Rattle.std.proofs.lemmas.Bool.Decides.{nat_tests}
use Rattle.std.specs.Prelude.{insert, nat_lt, Option, option_map, ◌==◌, if◌then◌else◌}
use Rattle.std.specs.List.{position_or_len, list_any, AllByRecursion}
use Rattle.flat_machine.specs.declared.space.Space.{Space}
use Rattle.flat_machine.specs.declared.space.Window.{Window}
use Rattle.flat_machine.specs.Space.{root, end, root_pages}
use Rattle.flat_machine.specs.Machine.{IsAscending}
use Rattle.flat_machine.specs.Next.{is_unused, lowest_unused, put_space, change_space, set_window, set_mode, with_mode, without_space}
use Rattle.slow_machine.specs.Lists.{AreSpaces}
use Rattle.slow_machine.proofs.LeastLemmas.{lowest_unused_is_least}

abbrev pub handles : List Space → List ℕ
handles ss = map (λ s. s.handle) ss

-- the first number from low on that the ascending handles skip
abbrev pub walk : ℕ → List Space → ℕ
walk low [] = low
walk low (s ∷ ss) = if s.handle == low then walk (low + 1) ss else low

walk_low : (ss : List Space) (low : ℕ) → low ≤ walk low ss
walk_low [] low = omega arith
walk_low (s ∷ ss) low = either (s.handle == low) (walk_low ss (low + 1))
  where
    either : (b : Bool) → low + 1 ≤ walk (low + 1) ss → low ≤ cond b (walk (low + 1) ss) low
    either true h = omega arith
    either false h = omega arith

pub walk_few : (ss : List Space) (low : ℕ) → walk low ss ≤ low + length ss
walk_few [] low = omega arith
walk_few (s ∷ ss) low = either (s.handle == low) (walk_few ss (low + 1))
  where
    either : (b : Bool) → walk (low + 1) ss ≤ low + 1 + length ss → cond b (walk (low + 1) ss) low ≤ low + suc (length ss)
    either true h = omega arith
    either false h = omega arith

other_below : (a b : ℕ) → a < b → b == a ≡ false
other_below a b h = grind (arith, nat_tests)

other_above : (a b : ℕ) → b < a → b == a ≡ false
other_above a b h = grind (arith, nat_tests)

same_as : (a b : ℕ) → a == b ≡ true → a ≡ b
same_as a b h = grind (arith, nat_tests)

not_same : (a b : ℕ) → b ≤ a → a == b ≡ false → b < a
not_same a b l h = grind (arith, nat_tests)

neither : (a b : Bool) → a ≡ false → b ≡ false → a || b ≡ false
neither false b e f = f
neither true b e f = absurd (cc)

weaker : (P Q : ℕ → Type 0) → ((k : ℕ) → P k → Q k) → (ns : List ℕ) → AllByRecursion P ns → AllByRecursion Q ns
weaker P Q f [] h = tt
weaker P Q f (n ∷ ns) h = (f n h.0, weaker P Q f ns h.1)

above_unused : (ss : List Space) (k : ℕ) → AllByRecursion (λ y. k < y) (handles ss) → list_any (λ s. s.handle == k) ss ≡ false
above_unused [] k h = refl
above_unused (s ∷ ss) k h = neither _ _ (other_below k s.handle h.0) (above_unused ss k h.1)

walk_unused : (ss : List Space) (low : ℕ) → IsAscending (handles ss) → AllByRecursion (λ y. low ≤ y) (handles ss) → list_any (λ s. s.handle == walk low ss) ss ≡ false
walk_unused [] low r h = refl
walk_unused (s ∷ ss) low r h = either (s.handle == low) refl (walk_unused ss (low + 1) r.1)
  where
    either : (b : Bool) → s.handle == low ≡ b
        → (AllByRecursion (λ y. low + 1 ≤ y) (handles ss) → list_any (λ t. t.handle == walk (low + 1) ss) ss ≡ false)
        → list_any (λ t. t.handle == cond b (walk (low + 1) ss) low) (s ∷ ss) ≡ false
    either true e f =
        let q : s.handle ≡ low = same_as s.handle low e in
        let l : s.handle < walk (low + 1) ss = omega (arith, walk_low ss (low + 1)) in
        neither _ _ (other_above (walk (low + 1) ss) s.handle l) (f (weaker (λ y. s.handle < y) (λ y. low + 1 ≤ y) (λ k p. omega arith) (handles ss) r.0))
    either false e f =
        let l : low < s.handle = not_same s.handle low h.0 e in
        neither _ _ e (above_unused ss low (weaker (λ y. s.handle < y) (λ y. low < y) (λ k p. omega arith) (handles ss) r.0))

walk_used : (ss : List Space) (low k : ℕ) → low ≤ k → k < walk low ss → list_any (λ s. s.handle == k) ss ≡ true
walk_used [] low k l h = absurd (omega arith)
walk_used (s ∷ ss) low k l h = either (s.handle == low) refl h (walk_used ss (low + 1) k)
  where
    here : (b : Bool) → s.handle == k ≡ b → (b ≡ false → list_any (λ t. t.handle == k) ss ≡ true) → b || list_any (λ t. t.handle == k) ss ≡ true
    here true e f = refl
    here false e f = f refl

    either : (b : Bool) → s.handle == low ≡ b → k < cond b (walk (low + 1) ss) low
        → (low + 1 ≤ k → k < walk (low + 1) ss → list_any (λ t. t.handle == k) ss ≡ true) → (s.handle == k) || list_any (λ t. t.handle == k) ss ≡ true
    either true e m f = here (s.handle == k) refl (λ n. f (let q : s.handle ≡ low = same_as s.handle low e in grind (arith, nat_tests)) m)
    either false e m f = absurd (omega arith)

unused_not : (b : Bool) → b ≡ true → not b ≡ true → ⊥
unused_not true e f = cc
unused_not false e f = cc

turned : (b : Bool) → b ≡ false → not b ≡ true
turned true e = absurd (cc)
turned false e = refl

from_zero : (ns : List ℕ) → AllByRecursion (λ y. 0 ≤ y) ns
from_zero [] = tt
from_zero (n ∷ ns) = (omega arith, from_zero ns)

pub lowest_is_walk : (ss : List Space) → IsAscending (handles ss) → is_unused ss 0 ≡ false → walk 0 ss ≡ lowest_unused ss
lowest_is_walk ss r z =
    let u : is_unused ss (walk 0 ss) ≡ true = turned _ (walk_unused ss 0 r (from_zero (handles ss))) in
    let least = lowest_unused_is_least ss (walk 0 ss) z u in
    let none : lowest_unused ss < walk 0 ss → ⊥ = λ l. unused_not _ (walk_used ss 0 (lowest_unused ss) (omega arith) l) least.1 in
    omega (arith, least.0, none)

-- A space put in its place.

put_cons : (x s : Space) (ss : List Space) (b : Bool) (n : ℕ) → insert ss n x ≡ put_space x ss
    → insert (s ∷ ss) (cond (not b) (1 + n) 0) x ≡ cond b (x ∷ s ∷ ss) (s ∷ put_space x ss)
put_cons x s ss true n e = refl
put_cons x s ss false n e = let q : 1 + n ≡ suc n = omega arith in rw q (ap (λ l. s ∷ l) e)

pub put_space_at : (x : Space) (ss : List Space) → insert ss (position_or_len (λ s. nat_lt x.handle s.handle) ss) x ≡ put_space x ss
put_space_at x [] = refl
put_space_at x (s ∷ ss) = put_cons x s ss (nat_lt x.handle s.handle) (position_or_len (λ t. nat_lt x.handle t.handle) ss) (put_space_at x ss)

every_put : (P : Space → Type 0) (x : Space) (ss : List Space) → P x → AllByRecursion P ss → AllByRecursion P (put_space x ss)
every_put P x [] p h = (p, tt)
every_put P x (s ∷ ss) p h = either (nat_lt x.handle s.handle) (every_put P x ss p h.1)
  where
    either : (b : Bool) → AllByRecursion P (put_space x ss) → AllByRecursion P (cond b (x ∷ s ∷ ss) (s ∷ put_space x ss))
    either true k = (p, h)
    either false k = (h.0, k)

above_map : (k : ℕ) (ss : List Space) → AllByRecursion (λ y. k < y) (handles ss) → AllByRecursion (λ s. k < s.handle) ss
above_map k [] h = tt
above_map k (s ∷ ss) h = (h.0, above_map k ss h.1)

above_back : (k : ℕ) (ss : List Space) → AllByRecursion (λ s. k < s.handle) ss → AllByRecursion (λ y. k < y) (handles ss)
above_back k [] h = tt
above_back k (s ∷ ss) h = (h.0, above_back k ss h.1)

lt_from : (a b : ℕ) → nat_lt a b ≡ true → a < b
lt_from a b h = grind (arith, nat_tests)

le_from : (a b : ℕ) → nat_lt a b ≡ false → b == a ≡ false → b < a
le_from a b h k = grind (arith, nat_tests)

not_or : (a b : Bool) → not (a || b) ≡ true → (a ≡ false) × (not b ≡ true)
not_or true b h = absurd (cc)
not_or false b h = (refl, h)

put_rises : (x : Space) (ss : List Space) → IsAscending (handles ss) → is_unused ss x.handle ≡ true → IsAscending (handles (put_space x ss))
put_rises x [] r u = (tt, tt)
put_rises x (s ∷ ss) r u = either (nat_lt x.handle s.handle) refl (put_rises x ss r.1)
  where
    either : (b : Bool) → nat_lt x.handle s.handle ≡ b → (is_unused ss x.handle ≡ true → IsAscending (handles (put_space x ss)))
        → IsAscending (handles (cond b (x ∷ s ∷ ss) (s ∷ put_space x ss)))
    either true e f =
        let l : x.handle < s.handle = lt_from _ _ e in
        ((l, weaker (λ y. s.handle < y) (λ y. x.handle < y) (λ k p. omega arith) (handles ss) r.0), r)
    either false e f =
        let parts = not_or (s.handle == x.handle) (list_any (λ t. t.handle == x.handle) ss) u in
        let l : s.handle < x.handle = le_from _ _ e parts.0 in
        (above_back s.handle (put_space x ss) (every_put (λ t. s.handle < t.handle) x ss l (above_map s.handle ss r.0)), f parts.1)

put_length : (x : Space) (ss : List Space) → length (put_space x ss) ≡ suc (length ss)
put_length x [] = refl
put_length x (s ∷ ss) = either (nat_lt x.handle s.handle) (put_length x ss)
  where
    either : (b : Bool) → length (put_space x ss) ≡ suc (length ss) → length (cond b (x ∷ s ∷ ss) (s ∷ put_space x ss)) ≡ suc (suc (length ss))
    either true e = refl
    either false e = ap suc e

or_right : (a b : Bool) → b ≡ true → a || b ≡ true
or_right true b e = refl
or_right false b e = e

put_any : (p : Space → Bool) (x : Space) (ss : List Space) → list_any p ss ≡ true → list_any p (put_space x ss) ≡ true
put_any p x [] h = absurd (cc)
put_any p x (s ∷ ss) h = either (nat_lt x.handle s.handle) (p s) refl h (put_any p x ss)
  where
    either : (b c : Bool) → p s ≡ c → c || list_any p ss ≡ true → (list_any p ss ≡ true → list_any p (put_space x ss) ≡ true)
        → list_any p (cond b (x ∷ s ∷ ss) (s ∷ put_space x ss)) ≡ true
    either true c e k f = or_right (p x) (p s || list_any p ss) (rw e k)
    either false true e k f = rw e refl
    either false false e k f = or_right (p s) (list_any p (put_space x ss)) (f k)

used_true : (b : Bool) → not b ≡ false → b ≡ true
used_true true h = refl
used_true false h = absurd (cc)

not_false : (b : Bool) → b ≡ true → not b ≡ false
not_false true h = refl
not_false false h = absurd (cc)

pub put_spaces : (x : Space) (ss : List Space) → AreSpaces ss → is_unused ss x.handle ≡ true → length ss ≤ 511 → end x ≤ root_pages → AreSpaces (put_space x ss)
put_spaces x ss h u l e = record {
  rise = put_rises x ss h.rise u;
  root_there = not_false _ (put_any (λ s. s.handle == 0) x ss (used_true _ h.root_there));
  few = omega (arith, put_length x ss);
  ends = every_put (λ s. end s ≤ root_pages) x ss e h.ends;
}

pub walk_ends : (ss : List Space) (i low : ℕ) → length ss ≤ i → walk low (drop i ss) ≡ low
walk_ends [] zero low h = refl
walk_ends [] (suc i) low h = refl
walk_ends (s ∷ ss) zero low h = absurd (omega arith)
walk_ends (s ∷ ss) (suc i) low h = walk_ends ss i low (omega arith)

pub walk_stops : (ss : List Space) (i low : ℕ) (d : Space) → i < length ss → (get_or ss i d).handle ≢ low → walk low (drop i ss) ≡ low
walk_stops [] i low d l h = absurd (omega arith)
walk_stops (s ∷ ss) zero low d l h = let e : s.handle == low ≡ false = grind (arith, nat_tests) in rw e refl
walk_stops (s ∷ ss) (suc i) low d l h = walk_stops ss i low d (omega arith) h

-- A change at one handle that leaves handle and range.

changed : {Y : Type 0} (f : Space → Y) (g : Space → Space) → ((s : Space) → f (g s) ≡ f s) → (s : Space) (b : Bool) → f (cond b (g s) s) ≡ f s
changed f g k s true = k s
changed f g k s false = refl

same_handles : (h : ℕ) (g : Space → Space) → ((s : Space) → (g s).handle ≡ s.handle) → (ss : List Space) → handles (change_space h g ss) ≡ handles ss
same_handles h g k [] = refl
same_handles h g k (s ∷ ss) = λ t. changed (λ s. s.handle) g k s (s.handle == h) t ∷ same_handles h g k ss t

same_used : (h : ℕ) (g : Space → Space) → ((s : Space) → (g s).handle ≡ s.handle) → (ss : List Space) (k : ℕ)
    → list_any (λ s. s.handle == k) (change_space h g ss) ≡ list_any (λ s. s.handle == k) ss
same_used h g e [] k = refl
same_used h g e (s ∷ ss) k = λ t. (changed (λ s. s.handle) g e s (s.handle == h) t == k) || same_used h g e ss k t

same_count : (h : ℕ) (g : Space → Space) (ss : List Space) → length (change_space h g ss) ≡ length ss
same_count h g [] = refl
same_count h g (s ∷ ss) = ap suc (same_count h g ss)

same_ends : (h : ℕ) (g : Space → Space) → ((s : Space) → end (g s) ≡ end s) → (ss : List Space)
    → AllByRecursion (λ s. end s ≤ root_pages) ss → AllByRecursion (λ s. end s ≤ root_pages) (change_space h g ss)
same_ends h g k [] a = tt
same_ends h g k (s ∷ ss) a = (omega (arith, changed end g k s (s.handle == h), a.0), same_ends h g k ss a.1)

change_spaces : (h : ℕ) (g : Space → Space) → ((s : Space) → (g s).handle ≡ s.handle) → ((s : Space) → end (g s) ≡ end s) → (ss : List Space)
    → AreSpaces ss → AreSpaces (change_space h g ss)
change_spaces h g k e ss a = record {
  rise = rw (same_handles h g k ss) a.rise;
  root_there = ap not (same_used h g k ss 0) ∙ a.root_there;
  few = omega (arith, same_count h g ss, a.few);
  ends = same_ends h g e ss a.ends;
}

pub window_spaces : (h : ℕ) (w : Option Window) (ss : List Space) → AreSpaces ss → AreSpaces (set_window h w ss)
window_spaces h w ss a = change_spaces h (λ s. record s { window = w }) (λ s. refl) (λ s. refl) ss a

pub unit_spaces : (h u : ℕ) (ss : List Space) → AreSpaces ss → AreSpaces (change_space h (λ s. record s { unit = u }) ss)
unit_spaces h u ss a = change_spaces h (λ s. record s { unit = u }) (λ s. refl) (λ s. refl) ss a

pub mode_spaces : (h : ℕ) (writable : Bool) (ss : List Space) → AreSpaces ss → AreSpaces (set_mode h writable ss)
mode_spaces h writable ss a = change_spaces h (λ s. record s { window = option_map (with_mode writable) s.window }) (λ s. refl) (λ s. refl) ss a

-- One space goes.

every_filter : (P : Space → Type 0) (p : Space → Bool) (xs : List Space) → AllByRecursion P xs → AllByRecursion P (filter p xs)
every_filter P p [] h = tt
every_filter P p (x ∷ xs) h = kept (p x) (every_filter P p xs h.1)
  where
    kept : (b : Bool) → AllByRecursion P (filter p xs) → AllByRecursion P (cond b (x ∷ filter p xs) (filter p xs))
    kept true t = (h.0, t)
    kept false t = t

above_filter : (p : Space → Bool) (low : ℕ) (xs : List Space) → AllByRecursion (λ y. low < y) (handles xs) → AllByRecursion (λ y. low < y) (handles (filter p xs))
above_filter p low [] h = tt
above_filter p low (x ∷ xs) h = kept (p x) (above_filter p low xs h.1)
  where
    kept : (b : Bool) → AllByRecursion (λ y. low < y) (handles (filter p xs)) → AllByRecursion (λ y. low < y) (handles (cond b (x ∷ filter p xs) (filter p xs)))
    kept true t = (h.0, t)
    kept false t = t

rises_filter : (p : Space → Bool) (xs : List Space) → IsAscending (handles xs) → IsAscending (handles (filter p xs))
rises_filter p [] h = tt
rises_filter p (x ∷ xs) h = kept (p x) (rises_filter p xs h.1)
  where
    kept : (b : Bool) → IsAscending (handles (filter p xs)) → IsAscending (handles (cond b (x ∷ filter p xs) (filter p xs)))
    kept true t = (above_filter p x.handle xs h.0, t)
    kept false t = t

fewer : (p : Space → Bool) (xs : List Space) → length (filter p xs) ≤ length xs
fewer p [] = omega arith
fewer p (x ∷ xs) = kept (p x) (fewer p xs)
  where
    kept : (b : Bool) → length (filter p xs) ≤ length xs → length (cond b (x ∷ filter p xs) (filter p xs)) ≤ suc (length xs)
    kept true t = omega arith
    kept false t = omega arith

root_stays : (h : ℕ) → h ≢ 0 → (ss : List Space) → list_any (λ s. s.handle == 0) ss ≡ true → list_any (λ s. s.handle == 0) (without_space h ss) ≡ true
root_stays h n [] e = e
root_stays h n (s ∷ ss) e = either (s.handle == h) (s.handle == 0) refl refl e (root_stays h n ss)
  where
    either : (b c : Bool) → s.handle == h ≡ b → s.handle == 0 ≡ c → c || list_any (λ s. s.handle == 0) ss ≡ true
        → (list_any (λ s. s.handle == 0) ss ≡ true → list_any (λ s. s.handle == 0) (without_space h ss) ≡ true)
        → list_any (λ s. s.handle == 0) (cond (not b) (s ∷ without_space h ss) (without_space h ss)) ≡ true
    either true true p q e f = absurd (n (grind (arith, nat_tests)))
    either true false p q e f = f e
    either false true p q e f = rw q refl
    either false false p q e f = or_right (s.handle == 0) (list_any (λ s. s.handle == 0) (without_space h ss)) (f e)

pub fewer_spaces : (h : ℕ) → h ≢ 0 → (ss : List Space) → AreSpaces ss → AreSpaces (without_space h ss)
fewer_spaces h n ss a = record {
  rise = rises_filter _ ss a.rise;
  root_there = not_false _ (root_stays h n ss (used_true _ a.root_there));
  few = omega (arith, fewer (λ s. not (s.handle == h)) ss, a.few);
  ends = every_filter _ _ ss a.ends;
}

pub root_alone : AreSpaces (root ∷ [])
root_alone = record { rise = (tt, tt); root_there = refl; few = omega arith; ends = (omega arith, tt) }

pub lowest_is_unused : (ss : List Space) → AreSpaces ss → is_unused ss (lowest_unused ss) ≡ true
lowest_is_unused ss a = rw (← (lowest_is_walk ss a.rise a.root_there)) (turned _ (walk_unused ss 0 a.rise (from_zero (handles ss))))
