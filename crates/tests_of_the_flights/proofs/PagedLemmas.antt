-- A paged machine is stepped as clients need it.
use Rattle.std.proofs.Common.{◌≡◌, ◌∙◌, sym, ap, subst, refl, rules, arith, ℕ, zero, suc, ◌<◌, Bool, true, false, not, cond, List, [], ◌∷◌, Option, Some, None}
use Rattle.std.specs.Prelude.{find, slice_get, is_some}
use Rattle.std.proofs.lemmas.Option.{same_Some, none-some}
use Rattle.std.proofs.lemmas.Bool.{true≢false}
use Rattle.labelled_disk.proofs.Finds.{none_passes}
use Rattle.flat_machine.specs.declared.call.Call.{Call}
use Rattle.flat_machine.specs.declared.call.Call.TheVariants as call
use Rattle.flat_machine.specs.declared.call.Refusal.{Refusal}
use Rattle.flat_machine.specs.declared.call.Reply.{Reply}
use Rattle.flat_machine.specs.Machine.{Machine}
use Rattle.flat_machine.specs.Allows.{Allows, reply_of}
use Rattle.flat_machine.specs.Next.{next}
use Rattle.flat_machine.specs.Refusal.{refusal}
use Rattle.flat_machine.specs.References.{is_reference, touched}
use Rattle.flat_machine.proofs.ReplyLemmas.{some_reply_is_allowed}
use Rattle.flight_core.specs.declared.stepped.Tried.TheVariants as tried
use Rattle.flight_core.specs.Tried.{ArePresent, IsAnswered, IsFirstAway, IsTried}
use Rattle.tests_of_the_flights.specs.Paged.{is_among, first_away, absent}

-- where it stands, and that those before it fail
record IsFound {X : Type 0} (test : X → Bool) (xs : List X) (x : X) : Type 0 where
  k : ℕ
  there : slice_get xs k ≡ Some x
  passes : test x ≡ true
  before : (j : ℕ) (y : X) → j < k → slice_get xs j ≡ Some y → test y ≡ false

module _ {X : Type 0} (test : X → Bool) where
  found_first : (xs : List X) (x : X) → find test xs ≡ Some x → IsFound test xs x
  found_first [] x is = absurd (none-some x is)
  found_first (y ∷ ys) x is = either (test y) refl is (found_first ys x)
    where
      later : (y : X) (ys : List X) (x : X) (f : IsFound test ys x) → test y ≡ false → (j : ℕ) (z : X) → j < suc f.k → slice_get (y ∷ ys) j ≡ Some z → test z ≡ false
      later y ys x f fails zero z low here = ap test (sym (same_Some y z here)) ∙ fails
      later y ys x f fails (suc j) z low here = f.before j z (omega (arith, low)) here

      either : (b : Bool) → test y ≡ b → cond b (Some y) (find test ys) ≡ Some x → (find test ys ≡ Some x → IsFound test ys x) → IsFound test (y ∷ ys) x
      either true t e more = record { k = 0; there = e; passes = ap test (sym (same_Some y x e)) ∙ t; before = λ j z low. absurd (omega (arith, low)) }
      either false t e more =
          let f = more e in
          record { k = suc f.k; there = f.there; passes = f.passes; before = later y ys x f t }

not_false : (b : Bool) → not b ≡ false → b ≡ true
not_false true e = refl
not_false false e = absurd (true≢false e)

not_true : (b : Bool) → not b ≡ true → b ≡ false
not_true true e = absurd (true≢false (sym e))
not_true false e = refl

-- the pages of the virtual memory that are resident
abbrev pub among : List ℕ → ℕ → Type 0
among pages page = is_among pages page ≡ true

reference_of : (c : Call) (k page : ℕ) → slice_get (touched c) k ≡ Some page → is_reference c ≡ true
reference_of (call.Load address count) k page is = refl
reference_of (call.Store address bytes) k page is = refl
reference_of _ k page is = absurd (none-some page is)

pub record IsAbsent (m : Machine) (pages : List ℕ) (c : Call) (page : ℕ) : Type 0 where
  pub reference : is_reference c ≡ true
  pub unrefused : refusal m c ≡ None
  pub away : IsFirstAway (among pages) c page

module _ (m : Machine) (pages : List ℕ) (c : Call) where
  pub is_absent : (page : ℕ) → absent m pages c ≡ Some page → IsAbsent m pages c page
  is_absent page is = either (refusal m c) refl is
    where
      either : (o : Option Refusal) → refusal m c ≡ o → cond (is_some o) None (first_away pages (touched c)) ≡ Some page → IsAbsent m pages c page
      either (Some word) r e = absurd (none-some page e)
      either None r e =
          let f = found_first (λ p. not (is_among pages p)) (touched c) page e in
          record {
            reference = reference_of c f.k page f.there;
            unrefused = r;
            away = record {
              k = f.k;
              touches = f.there;
              away = λ there. true≢false (sym there ∙ not_true (is_among pages page) f.passes);
              before = λ j earlier low here. not_false (is_among pages earlier) (f.before j earlier low here);
            };
          }

  pub none_absent : absent m pages c ≡ None → refusal m c ≡ None → ArePresent (among pages) c
  none_absent is unrefused k page here =
      let none : first_away pages (touched c) ≡ None = either (refusal m c) unrefused is in
      not_false (is_among pages page) (none_passes (λ p. not (is_among pages p)) (touched c) none k page here)
    where
      either : (o : Option Refusal) → o ≡ None → cond (is_some o) None (first_away pages (touched c)) ≡ None → first_away pages (touched c) ≡ None
      either None r e = e
      either (Some word) r e = absurd (none-some word (sym r))

-- what stands for m, where these are its machines before and after the call
pub answers : (m old new : Machine) (c : Call) (r : Reply) → old ≡ m → r ≡ reply_of old c → new ≡ next old c → IsAnswered m c r (λ n. new ≡ n)
answers m old new c r same is after = record {
  allowed = subst (λ (x : Reply). Allows m c x) (sym (is ∙ ap (λ (n : Machine). reply_of n c) same)) (some_reply_is_allowed m c);
  next = after ∙ ap (λ (n : Machine). next n c) same;
}

pub replies : (m old new : Machine) (pages now : List ℕ) (c : Call) (r : Reply) → old ≡ m → absent old pages c ≡ None → r ≡ reply_of old c → new ≡ next old c
    → (is_reference c ≡ true → now ≡ pages) → IsTried m c (tried.Reply r) (λ n. new ≡ n) (λ n page. among now page)
replies m old new pages now c r same none is after stay = (
  answers m old new c r same is after,
  λ reference unrefused.
      subst (λ (ps : List ℕ). ArePresent (among ps) c) (sym (stay reference)) (none_absent old pages c none (ap (λ (n : Machine). refusal n c) same ∙ unrefused)),
)

pub waits : (m old : Machine) (pages : List ℕ) (c : Call) (page : ℕ) → old ≡ m → absent old pages c ≡ Some page
    → IsTried m c (tried.Absent page) (λ n. old ≡ n) (λ n p. among pages p)
waits m old pages c page same is =
    let a = is_absent old pages c page is in
    (a.reference, subst (λ (n : Machine). refusal n c ≡ None) same a.unrefused, same, a.away)
