-- What a stop leaves of a call that is carried out in two parts.
use Rattle.std.proofs.Common.{◌≡◌, ◌⊎◌, inl, inr, ℕ, zero, suc, ◌+◌, ◌-◌, ◌<◌, ◌≤◌, Bool, true, false, cond, List, ◌++◌, length, Some, refl, sym, ◌∙◌, ap, subst, arith}
use Rattle.std.specs.Prelude.{nat_le, option_map}
use Rattle.std.proofs.lemmas.Bool.{cases_lt}
use Rattle.std.proofs.lemmas.Bool.Decides.{nat_tests}
use Rattle.labelled_disk.specs.CrashState.{crash_state}
use Rattle.labelled_disk.specs.Root.{counter_of, root_page, short_at}
use Rattle.labelled_disk.specs.Sectors.{Sector}
use Rattle.labelled_disk.specs.State.{DiskState}
use Rattle.labelled_disk.specs.WriteRuns.{after_writes}
use Rattle.labelled_disk.proofs.WriteRunLemmas.{appended_then, crash_state-earlier, crash_state-later}
use Rattle.flat_machine.specs.declared.call.Call.{Call}
use Rattle.flat_machine.specs.declared.call.Call.TheVariants as call
use Rattle.flat_machine.specs.Machine.{Machine}
use Rattle.flat_machine.specs.Next.{next}
use Rattle.session_words.specs.StandsFor.{RevealsSettled}
use Rattle.running_words.specs.Stages.{HasNumbers, Passes, stage, last_step}

-- the steps of the writes up to one, and then those of later writes
abbrev steps_then : ℕ → (ℕ → ℕ) → (ℕ → ℕ) → ℕ → ℕ
steps_then n first later k = cond (nat_le k n) (first k) (later (k - n))

then_low : (n : ℕ) (first later : ℕ → ℕ) (k : ℕ) → k ≤ n → steps_then n first later k ≡ first k
then_low n first later k low = let a : nat_le k n ≡ true = grind (arith, nat_tests) in ap (λ (b : Bool). cond b (first k) (later (k - n))) a

then_high : (n : ℕ) (first later : ℕ → ℕ) (k : ℕ) → n < k → steps_then n first later k ≡ later (k - n)
then_high n first later k high = let a : nat_le k n ≡ false = grind (arith, nat_tests) in ap (λ (b : Bool). cond b (first k) (later (k - n))) a

-- Two calls, each step of which is one of a third call.
pub record AreParts (m n : Machine) (first later whole : Call) (one two : ℕ → ℕ) : Type 0 where
  pub rise_one : (j k : ℕ) → j ≤ k → one j ≤ one k
  pub rise_two : (j k : ℕ) → j ≤ k → two j ≤ two k
  pub apart : (j k : ℕ) → j ≤ last_step m first → one j ≤ two k
  pub few_one : (k : ℕ) → k ≤ last_step m first → one k ≤ last_step m whole
  pub few_two : (k : ℕ) → k ≤ last_step n later → two k ≤ last_step m whole
  pub alike_one : (d : List Sector) (k : ℕ) → RevealsSettled d (stage m first k) → RevealsSettled d (stage m whole (one k))
  pub alike_two : (d : List Sector) (k : ℕ) → RevealsSettled d (stage n later k) → RevealsSettled d (stage m whole (two k))
  pub numbers_one : (d : List Sector) → HasNumbers m first d → HasNumbers m whole d
  pub numbers_two : (d : List Sector) → HasNumbers n later d → HasNumbers m whole d

module _ {old mid new : DiskState} (m n : Machine) (a b c : Call) (one two : ℕ → ℕ) (parts : AreParts m n a b c one two) (first : Passes m a old mid) (later : Passes n b mid new) where
  abbrev count : ℕ
  count = length first.writes

  abbrev early : ℕ → ℕ
  early k = one (first.steps k)

  abbrev late : ℕ → ℕ
  late k = two (later.steps k)

  abbrev step : ℕ → ℕ
  step = steps_then count early late

  rises : (j k : ℕ) → j ≤ k → step j ≤ step k
  rises j k le = elim (cases_lt count k) [
    | inl past_k ↦
        let to = then_high count early late k past_k in
        elim (cases_lt count j) [
          | inl past ↦ let more = parts.rise_two (later.steps (j - count)) (later.steps (k - count)) (later.rise (j - count) (k - count) (omega (arith, le))) in let at = then_high count early late j past in omega (arith, more, at, to)
          | inr few ↦ let more = parts.apart (first.steps j) (later.steps (k - count)) (first.within j) in let at = then_low count early late j few in omega (arith, more, at, to)
        ]
    | inr few_k ↦
        let to = then_low count early late k few_k in
        let at = then_low count early late j (omega (arith, le, few_k)) in
        let more = parts.rise_one (first.steps j) (first.steps k) (first.rise j k le) in
        omega (arith, more, at, to)
  ]

  few_steps : (k : ℕ) → step k ≤ last_step m c
  few_steps k = elim (cases_lt count k) [
    | inl past ↦ let most = parts.few_two (later.steps (k - count)) (later.within (k - count)) in let at = then_high count early late k past in omega (arith, most, at)
    | inr few ↦ let most = parts.few_one (first.steps k) (first.within k) in let at = then_low count early late k few in omega (arith, most, at)
  ]

  module _ (d : List Sector) (k : ℕ) (revealed : old.contents ≡ Some d) where
    revealed_mid : mid.contents ≡ Some (after_writes first.writes d)
    revealed_mid = first.appended.contents ∙ ap (option_map (after_writes first.writes)) revealed

    at_later : count < k → crash_state d (first.writes ++ later.writes) k ≡ crash_state (after_writes first.writes d) later.writes (k - count)
    at_later past = let at : k ≡ count + (k - count) = omega (arith, past) in ap (crash_state d (first.writes ++ later.writes)) at ∙ crash_state-later d first.writes later.writes (k - count)

    at_crash_state : RevealsSettled (crash_state d (first.writes ++ later.writes) k) (stage m c (step k))
    at_crash_state = elim (cases_lt count k) [
      | inl past ↦
          subst (λ (e : List Sector). RevealsSettled e (stage m c (step k))) (sym (at_later past))
          (subst (λ (j : ℕ). RevealsSettled (crash_state (after_writes first.writes d) later.writes (k - count)) (stage m c j)) (sym (then_high count early late k past))
          (parts.alike_two (crash_state (after_writes first.writes d) later.writes (k - count)) (later.steps (k - count)) (later.reveals (after_writes first.writes d) (k - count) revealed_mid)))
      | inr few ↦
          subst (λ (e : List Sector). RevealsSettled e (stage m c (step k))) (sym (crash_state-earlier d first.writes later.writes k few))
          (subst (λ (j : ℕ). RevealsSettled (crash_state d first.writes k) (stage m c j)) (sym (then_low count early late k few)) (parts.alike_one (crash_state d first.writes k) (first.steps k) (first.reveals d k revealed)))
    ]

    flag_crash_state : short_at (root_page (crash_state d (first.writes ++ later.writes) k)) 10 ≡ 0
    flag_crash_state = elim (cases_lt count k) [
      | inl past ↦ subst (λ (e : List Sector). short_at (root_page e) 10 ≡ 0) (sym (at_later past)) (later.open_flag (after_writes first.writes d) (k - count) revealed_mid)
      | inr few ↦ subst (λ (e : List Sector). short_at (root_page e) 10 ≡ 0) (sym (crash_state-earlier d first.writes later.writes k few)) (first.open_flag d k revealed)
    ]

    numbers_crash_state : HasNumbers m c (crash_state d (first.writes ++ later.writes) k)
    numbers_crash_state = elim (cases_lt count k) [
      | inl past ↦ subst (HasNumbers m c) (sym (at_later past)) (parts.numbers_two (crash_state (after_writes first.writes d) later.writes (k - count)) (later.numbers (after_writes first.writes d) (k - count) revealed_mid))
      | inr few ↦ subst (HasNumbers m c) (sym (crash_state-earlier d first.writes later.writes k few)) (parts.numbers_one (crash_state d first.writes k) (first.numbers d k revealed))
    ]

  pub joined : Passes m c old new
  joined = record {
    writes = first.writes ++ later.writes;
    appended = appended_then first.writes later.writes first.appended later.appended;
    steps = step;
    rise = rises;
    within = few_steps;
    reveals = at_crash_state;
    open_flag = flag_crash_state;
    numbers = numbers_crash_state;
  }

-- A call for the volume's room changes nothing; it stands for any that only asks.
pub stays : (m : Machine) (k : ℕ) → stage m call.Volume k ≡ m
stays m zero = refl
stays m (suc k) = refl

-- and the numbers are those of the machine
pub quiet_numbers : (m n : Machine) (c : Call) → n.serial ≡ m.serial → (n.counter ≡ m.counter) ⊎ (n.counter ≡ (next m c).counter) → (d : List Sector) → HasNumbers n call.Volume d → HasNumbers m c d
quiet_numbers m n c serial counter d is = record { same_serial = is.same_serial ∙ serial; counter = by (at is.counter) counter }
  where
    at : (counter_of d ≡ n.counter) ⊎ (counter_of d ≡ (next n call.Volume).counter) → counter_of d ≡ n.counter
    at (inl same) = same
    at (inr same) = same

    by : counter_of d ≡ n.counter → (n.counter ≡ m.counter) ⊎ (n.counter ≡ (next m c).counter) → (counter_of d ≡ m.counter) ⊎ (counter_of d ≡ (next m c).counter)
    by same (inl before) = inl (same ∙ before)
    by same (inr after) = inr (same ∙ after)

-- at first nothing changes
pub quiet_then : {old mid new : DiskState} (m n : Machine) (c b : Call) → Passes m call.Volume old mid → Passes n b mid new → last_step n b ≤ last_step m c
    → ((d : List Sector) (k : ℕ) → RevealsSettled d (stage n b k) → RevealsSettled d (stage m c k)) → ((d : List Sector) → HasNumbers n b d → HasNumbers m c d) → Passes m c old new
quiet_then m n c b first later last alike same =
    joined m n call.Volume b c (λ k. 0) (λ k. k)
    (record {
      rise_one = λ j k le. omega arith;
      rise_two = λ j k le. le;
      apart = λ j k few. omega arith;
      few_one = λ k few. omega arith;
      few_two = λ k few. omega (arith, few, last);
      alike_one = λ d k revealed. subst (RevealsSettled d) (stays m k) revealed;
      alike_two = alike;
      numbers_one = quiet_numbers m m c refl (inl refl);
      numbers_two = same;
    }) first later

-- after a question
pub asked_then : {old mid new : DiskState} (m : Machine) (c : Call) → Passes m call.Volume old mid → Passes m c mid new → Passes m c old new
asked_then m c first later = quiet_then m m c c first later (omega arith) (λ d k revealed. revealed) (λ d is. is)

-- a call that is whole or absent, and then nothing more changes
pub then_quiet : {old mid new : DiskState} (m n : Machine) (a c : Call) → Passes m a old mid → Passes n call.Volume mid new → last_step m a ≡ 1 → last_step m c ≡ 1
    → ((d : List Sector) (k : ℕ) → RevealsSettled d (stage m a k) → RevealsSettled d (stage m c k)) → ((d : List Sector) → RevealsSettled d n → RevealsSettled d (stage m c 1))
    → ((d : List Sector) → HasNumbers m a d → HasNumbers m c d) → ((d : List Sector) → HasNumbers n call.Volume d → HasNumbers m c d) → Passes m c old new
then_quiet m n a c first later one last alike done same still =
    joined m n a call.Volume c (λ k. k) (λ k. 1)
    (record {
      rise_one = λ j k le. le;
      rise_two = λ j k le. omega arith;
      apart = λ j k few. omega (arith, few, one);
      few_one = λ k few. omega (arith, few, one, last);
      few_two = λ k few. omega (arith, last);
      alike_one = alike;
      alike_two = λ d k revealed. done d (subst (RevealsSettled d) (stays n k) revealed);
      numbers_one = same;
      numbers_two = still;
    }) first later
