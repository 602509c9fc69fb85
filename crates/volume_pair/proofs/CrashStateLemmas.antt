-- Crash states of calls in a row.
use Rattle.std.proofs.Common.{◌≡◌, inl, inr, ℕ, zero, suc, ◌+◌, ◌-◌, ◌<◌, ◌≤◌, true, false, cond, Bool, List, [], ◌∷◌, ◌++◌, length, Some, sym, ◌∙◌, ap, subst, arith}
use Rattle.std.specs.Prelude.{nat_lt, option_map}
use Rattle.std.proofs.lemmas.Bool.{cases_lt}
use Rattle.std.proofs.lemmas.Bool.Decides.{nat_tests}
use Rattle.std.proofs.lemmas.Option.{same_Some}
use Rattle.labelled_disk.specs.declared.disk.DiskWrite.{DiskWrite}
use Rattle.labelled_disk.specs.Calls.{RevealsSame}
use Rattle.labelled_disk.specs.CrashState.{crash_state, written}
use Rattle.labelled_disk.specs.Sectors.{Sector}
use Rattle.labelled_disk.specs.State.{DiskState}
use Rattle.labelled_disk.specs.WriteRuns.{Appended, after_writes}
use Rattle.labelled_disk.proofs.WriteRunLemmas.{appended_none, appended_then, crash_state-earlier, crash_state-end, crash_state-later}
use Rattle.volume_pair.specs.CrashStates.{CrashStatesOf}

-- ---- One call.

-- what is so of the one disk that is revealed
pub states_on : {P : ℕ → List Sector → Type 0} {most : ℕ} {a b : DiskState} (d : List Sector) → a.contents ≡ Some d → (ws : List DiskWrite) → Appended ws a b → (steps : ℕ → ℕ) → ((j k : ℕ) → j ≤ k → steps j ≤ steps k)
    → ((k : ℕ) → steps k ≤ most) → ((k : ℕ) → P (steps k) (crash_state d ws k)) → CrashStatesOf P most a b
states_on {P = P} d revealed ws appended steps rise within each = record {
  writes = ws;
  appended = appended;
  steps = steps;
  rise = rise;
  within = within;
  each = λ e k here. subst (λ (x : List Sector). P (steps k) (crash_state x ws k)) (same_Some d e (sym revealed ∙ here)) (each k);
}

-- without a step
pub quiet_on : {P : ℕ → List Sector → Type 0} {most : ℕ} {a b : DiskState} (d : List Sector) → a.contents ≡ Some d → (ws : List DiskWrite) → Appended ws a b → ((k : ℕ) → P 0 (crash_state d ws k)) → CrashStatesOf P most a b
quiet_on d revealed ws appended each = states_on d revealed ws appended (λ k. 0) (λ j k le. omega arith) (λ k. omega arith) each

-- nothing was written
pub none_states : {P : ℕ → List Sector → Type 0} {most : ℕ} {a b : DiskState} → RevealsSame a b → ((d : List Sector) → a.contents ≡ Some d → P 0 d) → CrashStatesOf P most a b
none_states {P = P} same each = record {
  writes = [];
  appended = appended_none same;
  steps = λ k. 0;
  rise = λ j k le. omega arith;
  within = λ k. omega arith;
  each = λ d k revealed. at d k (each d revealed);
}
  where
    at : (d : List Sector) (k : ℕ) → P 0 d → P 0 (crash_state d [] k)
    at d zero is = is
    at d (suc k) is = is

-- one write was made
pub one_write : {P : ℕ → List Sector → Type 0} {most : ℕ} {a b : DiskState} (d : List Sector) → a.contents ≡ Some d → (w : DiskWrite) → Appended (w ∷ []) a b → P 0 d → P 0 (written w d) → CrashStatesOf P most a b
one_write {P = P} d revealed w appended before after = quiet_on d revealed (w ∷ []) appended at
  where
    at : (k : ℕ) → P 0 (crash_state d (w ∷ []) k)
    at zero = before
    at (suc zero) = after
    at (suc (suc k)) = after

pub states_wider : {P Q : ℕ → List Sector → Type 0} {most : ℕ} {a b : DiskState} → ((i : ℕ) (e : List Sector) → P i e → Q i e) → CrashStatesOf P most a b → CrashStatesOf Q most a b
states_wider more h = record {
  writes = h.writes;
  appended = h.appended;
  steps = h.steps;
  rise = h.rise;
  within = h.within;
  each = λ d k revealed. more (h.steps k) (crash_state d h.writes k) (h.each d k revealed);
}

-- a call without a step, where there may be some
pub quiet_wider : {P Q : ℕ → List Sector → Type 0} {most : ℕ} {a b : DiskState} → CrashStatesOf P 0 a b → ((i : ℕ) (e : List Sector) → P i e → Q 0 e) → CrashStatesOf Q most a b
quiet_wider h more = record {
  writes = h.writes;
  appended = h.appended;
  steps = λ k. 0;
  rise = λ j k le. omega arith;
  within = λ k. omega arith;
  each = λ d k revealed. more (h.steps k) (crash_state d h.writes k) (h.each d k revealed);
}

-- what the disk reveals in the end
pub last_state : {P : ℕ → List Sector → Type 0} {most : ℕ} {a b : DiskState} (h : CrashStatesOf P most a b) (d : List Sector) → a.contents ≡ Some d → (e : List Sector) × (b.contents ≡ Some e) × P (h.steps (length h.writes)) e
last_state {P = P} h d revealed = (
  after_writes h.writes d,
  h.appended.contents ∙ ap (option_map (after_writes h.writes)) revealed,
  subst (P (h.steps (length h.writes))) (crash_state-end d h.writes) (h.each d (length h.writes) revealed),
)

-- ---- One call and then another.

-- the steps of the writes before one, and then those of later writes
abbrev steps_then : ℕ → (ℕ → ℕ) → (ℕ → ℕ) → ℕ → ℕ
steps_then n first later k = cond (nat_lt k n) (first k) (later (k - n))

then_low : (n : ℕ) (first later : ℕ → ℕ) (k : ℕ) → k < n → steps_then n first later k ≡ first k
then_low n first later k low = let a : nat_lt k n ≡ true = grind (arith, nat_tests) in ap (λ (b : Bool). cond b (first k) (later (k - n))) a

then_high : (n : ℕ) (first later : ℕ → ℕ) (k : ℕ) → n ≤ k → steps_then n first later k ≡ later (k - n)
then_high n first later k high = let a : nat_lt k n ≡ false = grind (arith, nat_tests) in ap (λ (b : Bool). cond b (first k) (later (k - n))) a

module _ {P Q : ℕ → List Sector → Type 0} (R : ℕ → List Sector → Type 0) {m n : ℕ} {a b c : DiskState} (first : CrashStatesOf P m a b) (later : CrashStatesOf Q n b c) (most : ℕ) (one two : ℕ → ℕ) (rise_one : (j k : ℕ) → j ≤ k → one j ≤ one k) (rise_two : (j k : ℕ) → j ≤ k → two j ≤ two k)
    (apart : (j k : ℕ) → j ≤ m → one j ≤ two k) (few_one : (k : ℕ) → k ≤ m → one k ≤ most) (few_two : (k : ℕ) → k ≤ n → two k ≤ most) (alike_one : (k : ℕ) (e : List Sector) → P k e → R (one k) e) (alike_two : (k : ℕ) (e : List Sector) → Q k e → R (two k) e) where
  abbrev count : ℕ
  count = length first.writes

  abbrev early : ℕ → ℕ
  early k = one (first.steps k)

  abbrev late : ℕ → ℕ
  late k = two (later.steps k)

  abbrev step : ℕ → ℕ
  step = steps_then count early late

  pub rises : (j k : ℕ) → j ≤ k → step j ≤ step k
  rises j k le = elim (cases_lt k count) [
    | inr past_k ↦
        let to = then_high count early late k past_k in
        elim (cases_lt j count) [
          | inr past ↦ let more = rise_two (later.steps (j - count)) (later.steps (k - count)) (later.rise (j - count) (k - count) (omega (arith, le))) in let at = then_high count early late j past in omega (arith, more, at, to)
          | inl few ↦ let more = apart (first.steps j) (later.steps (k - count)) (first.within j) in let at = then_low count early late j few in omega (arith, more, at, to)
        ]
    | inl few_k ↦
        let to = then_low count early late k few_k in
        let at = then_low count early late j (omega (arith, le, few_k)) in
        let more = rise_one (first.steps j) (first.steps k) (first.rise j k le) in
        omega (arith, more, at, to)
  ]

  pub few_steps : (k : ℕ) → step k ≤ most
  few_steps k = elim (cases_lt k count) [
    | inr past ↦ let few = few_two (later.steps (k - count)) (later.within (k - count)) in let at = then_high count early late k past in omega (arith, few, at)
    | inl low ↦ let few = few_one (first.steps k) (first.within k) in let at = then_low count early late k low in omega (arith, few, at)
  ]

  module _ (d : List Sector) (k : ℕ) (revealed : a.contents ≡ Some d) where
    revealed_mid : b.contents ≡ Some (after_writes first.writes d)
    revealed_mid = first.appended.contents ∙ ap (option_map (after_writes first.writes)) revealed

    at_later : count ≤ k → crash_state d (first.writes ++ later.writes) k ≡ crash_state (after_writes first.writes d) later.writes (k - count)
    at_later past = let at : k ≡ count + (k - count) = omega (arith, past) in ap (crash_state d (first.writes ++ later.writes)) at ∙ crash_state-later d first.writes later.writes (k - count)

    pub at_crash_state : R (step k) (crash_state d (first.writes ++ later.writes) k)
    at_crash_state = elim (cases_lt k count) [
      | inr past ↦
          subst (R (step k)) (sym (at_later past))
          (subst (λ (j : ℕ). R j (crash_state (after_writes first.writes d) later.writes (k - count))) (sym (then_high count early late k past))
          (alike_two (later.steps (k - count)) (crash_state (after_writes first.writes d) later.writes (k - count)) (later.each (after_writes first.writes d) (k - count) revealed_mid)))
      | inl few ↦
          subst (R (step k)) (sym (crash_state-earlier d first.writes later.writes k (omega (arith, few))))
          (subst (λ (j : ℕ). R j (crash_state d first.writes k)) (sym (then_low count early late k few)) (alike_one (first.steps k) (crash_state d first.writes k) (first.each d k revealed)))
    ]

  abbrev pub joined : CrashStatesOf R most a c
  joined = record {
    writes = first.writes ++ later.writes;
    appended = appended_then first.writes later.writes first.appended later.appended;
    steps = step;
    rise = rises;
    within = few_steps;
    each = at_crash_state;
  }

  -- a write of the first call leaves as many steps at least
  pub joined_early : (k : ℕ) → k ≤ count → one (first.steps k) ≤ step k
  joined_early k few = elim (cases_lt k count) [
    | inr past ↦ let more = apart (first.steps k) (later.steps (k - count)) (first.within k) in let at = then_high count early late k past in omega (arith, more, at)
    | inl low ↦ let at = then_low count early late k low in omega (arith, at)
  ]

  -- and one of the second call
  pub joined_late : (k : ℕ) → two (later.steps k) ≤ step (count + k)
  joined_late k =
      let at = then_high count early late (count + k) (omega arith) in
      let back : count + k - count ≡ k = omega arith in
      let same : late (count + k - count) ≡ late k = ap late back in
      omega (arith, at, same)

-- the first takes no step
pub quiet_then : {P Q R : ℕ → List Sector → Type 0} {most : ℕ} {a b c : DiskState} → CrashStatesOf P 0 a b → CrashStatesOf Q most b c → ((i : ℕ) (e : List Sector) → P i e → R 0 e) → ((i : ℕ) (e : List Sector) → Q i e → R i e) → CrashStatesOf R most a c
quiet_then {R = R} {most = most} first later early late = joined R first later most (λ k. 0) (λ k. k) (λ j k le. omega arith) (λ j k le. le) (λ j k few. omega arith) (λ k few. omega arith) (λ k few. few) early late

-- the second takes none, after all steps of the first
pub then_quiet : {P Q R : ℕ → List Sector → Type 0} {most : ℕ} {a b c : DiskState} → CrashStatesOf P most a b → CrashStatesOf Q 0 b c → ((i : ℕ) (e : List Sector) → P i e → R i e) → ((i : ℕ) (e : List Sector) → Q i e → R most e) → CrashStatesOf R most a c
then_quiet {R = R} {most = most} first later early late = joined R first later most (λ k. k) (λ k. most) (λ j k le. le) (λ j k le. omega arith) (λ j k few. few) (λ k few. few) (λ k few. omega arith) early late

-- the steps of the second come after all those of the first
pub steps_after : {P Q R : ℕ → List Sector → Type 0} {m n : ℕ} {a b c : DiskState} → CrashStatesOf P m a b → CrashStatesOf Q n b c → ((i : ℕ) (e : List Sector) → P i e → R i e) → ((i : ℕ) (e : List Sector) → Q i e → R (m + i) e) → CrashStatesOf R (m + n) a c
steps_after {R = R} {m = m} {n = n} first later early late = joined R first later (m + n) (λ k. k) (λ k. m + k) (λ j k le. le) (λ j k le. omega (arith, le)) (λ j k few. omega (arith, few)) (λ k few. omega (arith, few)) (λ k few. omega (arith, few)) early late

-- the disk is read after that, and reveals the same
pub same_then : {P : ℕ → List Sector → Type 0} {most : ℕ} {a b c : DiskState} → CrashStatesOf P most a b → RevealsSame b c → CrashStatesOf P most a c
same_then h same = record {
  writes = h.writes;
  appended = record { contents = same.contents ∙ h.appended.contents; revealed = same.writes ∙ h.appended.revealed };
  steps = h.steps;
  rise = h.rise;
  within = h.within;
  each = h.each;
}

-- or was read before
pub same_first : {P : ℕ → List Sector → Type 0} {most : ℕ} {a b c : DiskState} → RevealsSame a b → CrashStatesOf P most b c → CrashStatesOf P most a c
same_first same h = record {
  writes = h.writes;
  appended = record { contents = h.appended.contents ∙ ap (option_map (after_writes h.writes)) same.contents; revealed = h.appended.revealed ∙ ap (option_map (λ (earlier : List DiskWrite). earlier ++ h.writes)) same.writes };
  steps = h.steps;
  rise = h.rise;
  within = h.within;
  each = λ d k revealed. h.each d k (same.contents ∙ revealed);
}
