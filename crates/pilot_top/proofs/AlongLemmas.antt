-- Writes along the places of a trace.
use Rattle.std.proofs.Common.{◌≡◌, ◌⊎◌, inl, inr, ℕ, zero, suc, ◌+◌, ◌-◌, ◌<◌, ◌≤◌, List, [], ◌++◌, length, Option, Some, None, refl, sym, ◌∙◌, ap, subst, arith}
use Rattle.std.specs.Prelude.{option_map}
use Rattle.std.proofs.lemmas.Bool.{cases_lt}
use Rattle.std.proofs.lemmas.List.{take_all}
use Rattle.std.proofs.lemmas.Option.{same_Some, none-some}
use Rattle.labelled_disk.specs.Calls.{RevealsSame}
use Rattle.labelled_disk.specs.declared.disk.DiskWrite.{DiskWrite}
use Rattle.labelled_disk.specs.CrashState.{crash_state}
use Rattle.labelled_disk.specs.Sectors.{Sector}
use Rattle.labelled_disk.specs.State.{DiskState}
use Rattle.labelled_disk.specs.WriteRuns.{after_writes}
use Rattle.labelled_disk.proofs.WriteRunLemmas.{appended_no_more, appended_then, appended_none, crash_state-earlier, crash_state-end, crash_state-later}
use Rattle.pilot_engine.specs.Closing.{Throughout}
use Rattle.pilot_top.specs.CrashStates.{Along, IsBy}

-- Places.

pub by_itself : (j i : ℕ) → IsBy j i j i
by_itself j i = inr (refl, omega arith)

pub by_then : (j i k h l g : ℕ) → IsBy j i k h → IsBy k h l g → IsBy j i l g
by_then j i k h l g (inl a) (inl b) = inl (omega (arith, a, b))
by_then j i k h l g (inl a) (inr b) = inl (let e = b.0 in omega (arith, a, e))
by_then j i k h l g (inr a) (inl b) = inl (let e = a.0 in omega (arith, b, e))
by_then j i k h l g (inr a) (inr b) = inr (a.0 ∙ b.0, let c = a.1 in let d = b.1 in omega (arith, c, d))

-- so many lines on
pub by_shifted : (n j i k h : ℕ) → IsBy j i k h → IsBy (n + j) i (n + k) h
by_shifted n j i k h (inl a) = inl (omega (arith, a))
by_shifted n j i k h (inr a) = inr (ap (λ (x : ℕ). n + x) a.0, a.1)

-- the lines are as many
pub by_equal : (j k i : ℕ) → j ≡ k → IsBy j i k i
by_equal j k i same = inr (same, omega arith)

pub by_most : (k l : ℕ) → k ≤ l → IsBy k 0 l 0
by_most k l le = elim (cases_lt k l) [
  | inl less ↦ inl less
  | inr more ↦ inr (omega (arith, le, more), omega arith)
]

-- a place by that of a line that is no later than line x is at line x or an earlier one
pub line_by : (l g k h x : ℕ) → IsBy l g k h → k ≤ x → l ≤ x
line_by l g k h x (inl less) most = omega (arith, less, most)
line_by l g k h x (inr same) most = let here = same.0 in omega (arith, here, most)

-- Some writes and then others.

-- Where the first ones end the place is that of the others.
module _ (P : ℕ → ℕ → List Sector → Type 0) (j i k h l g : ℕ) {a b c : DiskState} (one : Along P j i k h a b) (two : Along P k h l g b c) where
  -- the place of each of them
  abbrev line_at : (n : ℕ) → (n < length one.writes) ⊎ (length one.writes ≤ n) → ℕ
  line_at n (inl few) = one.line n
  line_at n (inr past) = two.line (n - length one.writes)

  abbrev step_at : (n : ℕ) → (n < length one.writes) ⊎ (length one.writes ≤ n) → ℕ
  step_at n (inl few) = one.step n
  step_at n (inr past) = two.step (n - length one.writes)

  pub rises : (n m : ℕ) → n ≤ m → (s : (n < length one.writes) ⊎ (length one.writes ≤ n)) (t : (m < length one.writes) ⊎ (length one.writes ≤ m)) → IsBy (line_at n s) (step_at n s) (line_at m t) (step_at m t)
  rises n m le (inr past) (inr more) = two.rise (n - length one.writes) (m - length one.writes) (omega (arith, le))
  rises n m le (inr past) (inl few) = absurd (omega (arith, le, past, few))
  rises n m le (inl few) (inr past) =
      by_then (one.line n) (one.step n) k h (two.line (m - length one.writes)) (two.step (m - length one.writes)) (one.last n) (two.first (m - length one.writes))
  rises n m le (inl few) (inl less) = one.rise n m le

  pub starts : (n : ℕ) (s : (n < length one.writes) ⊎ (length one.writes ≤ n)) → IsBy j i (line_at n s) (step_at n s)
  starts n (inr past) =
      by_then j i k h (two.line (n - length one.writes)) (two.step (n - length one.writes))
      (by_then j i (one.line 0) (one.step 0) k h (one.first 0) (one.last 0)) (two.first (n - length one.writes))
  starts n (inl few) = one.first n

  pub ends : (n : ℕ) (s : (n < length one.writes) ⊎ (length one.writes ≤ n)) → IsBy (line_at n s) (step_at n s) l g
  ends n (inr past) = two.last (n - length one.writes)
  ends n (inl few) =
      by_then (one.line n) (one.step n) k h l g (one.last n) (by_then k h (two.line 0) (two.step 0) l g (two.first 0) (two.last 0))

  pub holds : (d : List Sector) (n : ℕ) → a.contents ≡ Some d → (s : (n < length one.writes) ⊎ (length one.writes ≤ n)) → P (line_at n s) (step_at n s) (crash_state d (one.writes ++ two.writes) n)
  holds d n revealed (inr past) =
      let at : n ≡ length one.writes + (n - length one.writes) = omega (arith, past) in
      subst (P (two.line (n - length one.writes)) (two.step (n - length one.writes))) (sym (ap (crash_state d (one.writes ++ two.writes)) at ∙ crash_state-later d one.writes two.writes (n - length one.writes)))
      (two.each (after_writes one.writes d) (n - length one.writes) (one.appended.contents ∙ ap (option_map (after_writes one.writes)) revealed))
  holds d n revealed (inl few) = subst (P (one.line n) (one.step n)) (sym (crash_state-earlier d one.writes two.writes n (omega (arith, few)))) (one.each d n revealed)

  abbrev pub along_then : Along P j i l g a c
  along_then = record {
    writes = one.writes ++ two.writes;
    appended = appended_then one.writes two.writes one.appended two.appended;
    line = λ n. line_at n (cases_lt n (length one.writes));
    step = λ n. step_at n (cases_lt n (length one.writes));
    rise = λ n m le. rises n m le (cases_lt n (length one.writes)) (cases_lt m (length one.writes));
    first = λ n. starts n (cases_lt n (length one.writes));
    last = λ n. ends n (cases_lt n (length one.writes));
    each = λ d n revealed. holds d n revealed (cases_lt n (length one.writes));
  }

  -- a place of the first ones that is after a line still is, and those of the others are where they were
  pub stays_after : (n x : ℕ) → x < one.line n → x < k → x < along_then.line n
  stays_after n x after below = by (cases_lt n (length one.writes))
    where
      by : (s : (n < length one.writes) ⊎ (length one.writes ≤ n)) → x < line_at n s
      by (inl few) = after
      by (inr past) = elim (two.first (n - length one.writes)) [
        | inl less ↦ omega (arith, below, less)
        | inr same ↦ let here = same.0 in omega (arith, below, here)
      ]

  -- the places of the first ones are as they were
  pub was_at : (n : ℕ) → n < length one.writes → along_then.line n ≡ one.line n
  was_at n few = by (cases_lt n (length one.writes))
    where
      by : (s : (n < length one.writes) ⊎ (length one.writes ≤ n)) → line_at n s ≡ one.line n
      by (inl less) = refl
      by (inr past) = absurd (omega (arith, few, past))

  -- where n of the others are at lines up to x, so are these and the first ones
  pub stays_by : (n x : ℕ) → k ≤ x → ((i : ℕ) → i < n → two.line i ≤ x) → (i : ℕ) → i < length one.writes + n → along_then.line i ≤ x
  stays_by n x most others i below = by (cases_lt i (length one.writes))
    where
      by : (s : (i < length one.writes) ⊎ (length one.writes ≤ i)) → line_at i s ≤ x
      by (inl few) = line_by (one.line i) (one.step i) k h x (one.last i) most
      by (inr past) = others (i - length one.writes) (omega (arith, below, past))

  pub goes_on_at : (n : ℕ) → along_then.line (length one.writes + n) ≡ two.line n
  goes_on_at n = by (cases_lt (length one.writes + n) (length one.writes))
    where
      by : (s : (length one.writes + n < length one.writes) ⊎ (length one.writes ≤ length one.writes + n)) → line_at (length one.writes + n) s ≡ two.line n
      by (inl few) = absurd (omega (arith, few))
      by (inr past) = ap two.line (let z : length one.writes + n - length one.writes ≡ n = omega arith in z)

-- Less is said, or the same otherwise.

-- another property of the same crash states
abbrev pub along_less : (P Q : ℕ → ℕ → List Sector → Type 0) (j i k h : ℕ) {a b : DiskState} → ((l g : ℕ) (d : List Sector) → IsBy j i l g → IsBy l g k h → P l g d → Q l g d) → Along P j i k h a b → Along Q j i k h a b
along_less P Q j i k h less on = record {
  writes = on.writes;
  appended = on.appended;
  line = on.line;
  step = on.step;
  rise = on.rise;
  first = on.first;
  last = on.last;
  each = λ d n revealed. less (on.line n) (on.step n) (crash_state d on.writes n) (on.first n) (on.last n) (on.each d n revealed);
}

-- wider bounds
abbrev pub along_wider : (P : ℕ → ℕ → List Sector → Type 0) (j i j' i' k h k' h' : ℕ) {a b : DiskState} → IsBy j' i' j i → IsBy k h k' h' → Along P j i k h a b → Along P j' i' k' h' a b
along_wider P j i j' i' k h k' h' below above on = record {
  writes = on.writes;
  appended = on.appended;
  line = on.line;
  step = on.step;
  rise = on.rise;
  first = λ n. by_then j' i' j i (on.line n) (on.step n) below (on.first n);
  last = λ n. by_then (on.line n) (on.step n) k h k' h' (on.last n) above;
  each = on.each;
}

-- places that many lines on
abbrev pub along_shifted : (P Q : ℕ → ℕ → List Sector → Type 0) (s j i k h : ℕ) {a b : DiskState} → ((l g : ℕ) (d : List Sector) → IsBy j i l g → IsBy l g k h → P l g d → Q (s + l) g d) → Along P j i k h a b
    → Along Q (s + j) i (s + k) h a b
along_shifted P Q s j i k h less on = record {
  writes = on.writes;
  appended = on.appended;
  line = λ n. s + on.line n;
  step = on.step;
  rise = λ n m le. by_shifted s (on.line n) (on.step n) (on.line m) (on.step m) (on.rise n m le);
  first = λ n. by_shifted s j i (on.line n) (on.step n) (on.first n);
  last = λ n. by_shifted s (on.line n) (on.step n) k h (on.last n);
  each = λ d n revealed. less (on.line n) (on.step n) (crash_state d on.writes n) (on.first n) (on.last n) (on.each d n revealed);
}

-- All at one place.

pub along_throughout : (P : ℕ → ℕ → List Sector → Type 0) (j i : ℕ) {a b : DiskState} → Throughout (P j i) a b → Along P j i j i a b
along_throughout P j i all = record {
  writes = all.writes;
  appended = all.appended;
  line = λ n. j;
  step = λ n. i;
  rise = λ n m le. by_itself j i;
  first = λ n. by_itself j i;
  last = λ n. by_itself j i;
  each = all.each;
}

-- no write
pub still_state : (d : List Sector) (k : ℕ) → crash_state d [] k ≡ d
still_state d zero = refl
still_state d (suc k) = refl

abbrev pub along_none : (P : ℕ → ℕ → List Sector → Type 0) (j i : ℕ) {a b : DiskState} → RevealsSame a b → ((d : List Sector) → a.contents ≡ Some d → P j i d) → Along P j i j i a b
along_none P j i same here = record {
  writes = [];
  appended = appended_none same;
  line = λ n. j;
  step = λ n. i;
  rise = λ n m le. by_itself j i;
  first = λ n. by_itself j i;
  last = λ n. by_itself j i;
  each = λ d n revealed. subst (P j i) (sym (still_state d n)) (here d revealed);
}

-- the last crash state
pub along_last : (P : ℕ → ℕ → List Sector → Type 0) (j i k h : ℕ) {a b : DiskState} (on : Along P j i k h a b) → (e : List Sector) → b.contents ≡ Some e → P (on.line (length on.writes)) (on.step (length on.writes)) e
along_last P j i k h {a} on e revealed = from a.contents refl
  where
    from : (o : Option (List Sector)) → a.contents ≡ o → P (on.line (length on.writes)) (on.step (length on.writes)) e
    from None is = absurd (none-some e (sym (on.appended.contents ∙ ap (option_map (after_writes on.writes)) is) ∙ revealed))
    from (Some d) is =
        let last : after_writes on.writes d ≡ e = same_Some (after_writes on.writes d) e (sym (on.appended.contents ∙ ap (option_map (after_writes on.writes)) is) ∙ revealed) in
        subst (P (on.line (length on.writes)) (on.step (length on.writes))) (crash_state-end d on.writes ∙ last) (on.each d (length on.writes) is)

-- The places of crash states past the last write are that of the last one.
module _ (P : ℕ → ℕ → List Sector → Type 0) (j i k h : ℕ) {a b : DiskState} (on : Along P j i k h a b) where
  abbrev last_write : ℕ
  last_write = length on.writes

  abbrev up_to : (n : ℕ) → (last_write < n) ⊎ (n ≤ last_write) → ℕ
  up_to n (inl past) = last_write
  up_to n (inr few) = n

  up_to_rises : (n m : ℕ) → n ≤ m → (s : (last_write < n) ⊎ (n ≤ last_write)) (t : (last_write < m) ⊎ (m ≤ last_write)) → up_to n s ≤ up_to m t
  up_to_rises n m le (inl past) (inl more) = omega arith
  up_to_rises n m le (inl past) (inr few) = absurd (omega (arith, le, past, few))
  up_to_rises n m le (inr few) (inl past) = few
  up_to_rises n m le (inr few) (inr less) = le

  up_to_last : (n : ℕ) (s : (last_write < n) ⊎ (n ≤ last_write)) → up_to n s ≤ last_write
  up_to_last n (inl past) = omega arith
  up_to_last n (inr few) = few

  up_to_state : (d : List Sector) (n : ℕ) (s : (last_write < n) ⊎ (n ≤ last_write)) → crash_state d on.writes (up_to n s) ≡ crash_state d on.writes n
  up_to_state d n (inl past) =
      ap (λ (l : List DiskWrite). after_writes l d) (take_all last_write on.writes (omega arith) ∙ sym (take_all n on.writes (omega (arith, past))))
  up_to_state d n (inr few) = refl

  pub along_to_last : Along P j i (on.line last_write) (on.step last_write) a b
  along_to_last = record {
    writes = on.writes;
    appended = on.appended;
    line = λ n. on.line (up_to n (cases_lt last_write n));
    step = λ n. on.step (up_to n (cases_lt last_write n));
    rise = λ n m le. on.rise (up_to n (cases_lt last_write n)) (up_to m (cases_lt last_write m)) (up_to_rises n m le (cases_lt last_write n) (cases_lt last_write m));
    first = λ n. on.first (up_to n (cases_lt last_write n));
    last = λ n. on.rise (up_to n (cases_lt last_write n)) last_write (up_to_last n (cases_lt last_write n));
    each = λ d n revealed.
        subst (P (on.line (up_to n (cases_lt last_write n))) (on.step (up_to n (cases_lt last_write n)))) (up_to_state d n (cases_lt last_write n))
        (on.each d (up_to n (cases_lt last_write n)) revealed);
  }

-- on a disk that reveals the same
abbrev pub along_same : (P : ℕ → ℕ → List Sector → Type 0) (j i k h : ℕ) {a b c : DiskState} → RevealsSame b c → Along P j i k h a b → Along P j i k h a c
along_same P j i k h same on = record {
  writes = on.writes;
  appended = appended_no_more on.writes on.appended same;
  line = on.line;
  step = on.step;
  rise = on.rise;
  first = on.first;
  last = on.last;
  each = on.each;
}
