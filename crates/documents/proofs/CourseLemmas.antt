-- Calls in a row, put together.
use Rattle.std.proofs.Common.{◌≡◌, ◌⊎◌, inl, inr, ◌+◌, ◌++◌, refl, sym, subst, Bool, true, false, ℕ, List, [], ◌∷◌, length, Result, Ok, Err, IsOk, IfOk, OnOk}
use Rattle.std.specs.List.{AllByRecursion}
use Rattle.labelled_disk.specs.declared.disk.Disk.{Ghosts}
use Rattle.labelled_disk.specs.declared.evidence.Halt.{Halt}
use Rattle.labelled_disk.specs.declared.evidence.Halt.TheVariants as halt
use Rattle.flat_machine.specs.declared.call.Call.{Call}
use Rattle.flat_machine.specs.declared.call.Call.TheVariants as call
use Rattle.flat_machine.specs.declared.call.Reply.{Reply}
use Rattle.flat_machine.specs.declared.call.Reply.TheVariants as reply
use Rattle.flat_machine.specs.Machine.{Machine}
use Rattle.flat_machine.specs.Next.{next}
use Rattle.embedded.specs.declared.code.Code.{Code}
use Rattle.embedded.specs.declared.code.Code.TheVariants as code
use Rattle.embedded.specs.declared.engine.Engine.{Engine}
use Rattle.embedded.specs.Engine.{StandsFor}
use Rattle.embedded.specs.Called.{Called, HasStopped}
use Rattle.embedded.specs.References.{Lead, Stored}
use Rattle.documents.specs.Course.{Came, Led, after, is_look, is_quiet}
use Rattle.documents.specs.Ends.{Marked}

abbrev Pass : (Call → Bool) → List Call → Type 0
Pass test = AllByRecursion (λ (c : Call). test c ≡ true)

both : (test : Call → Bool) (xs ys : List Call) → Pass test xs → Pass test ys → Pass test (xs ++ ys)
both test [] ys p q = q
both test (x ∷ xs) ys p q = (p.0, both test xs ys p.1 q)

after_both : (m : Machine) (xs ys : List Call) → after m (xs ++ ys) ≡ after (after m xs) ys
after_both m [] ys = refl
after_both m (x ∷ xs) ys = after_both (next m x) xs ys

-- what looks is quiet
quiet_look : (c : Call) → is_look c ≡ true → is_quiet c ≡ true
quiet_look (call.Create pages kind) is = refl
quiet_look (call.SetSize id pages) is = refl
quiet_look (call.Map space id page writable) is = refl
quiet_look (call.Store address bytes) is = refl
quiet_look other is = is

quiet_looks : (xs : List Call) → Pass is_look xs → Pass is_quiet xs
quiet_looks [] p = p
quiet_looks (x ∷ xs) p = (quiet_look x p.0, quiet_looks xs p.1)

-- stores in a row, in ascending addresses
abbrev stores : ℕ → List (List ℕ) → List Call
stores address [] = []
stores address (bytes ∷ rest) = call.Store address bytes ∷ stores (address + length bytes) rest

stores_pass : (address : ℕ) (pieces : List (List ℕ)) → Pass is_quiet (stores address pieces)
stores_pass address [] = tt
stores_pass address (bytes ∷ rest) = (refl, stores_pass (address + length bytes) rest)

stores_lead : (m n : Machine) (address : ℕ) (pieces : List (List ℕ)) → Lead m address pieces n
    → n ≡ after m (stores address pieces)
stores_lead m n address [] is = is
stores_lead m n address (bytes ∷ rest) lead =
    stores_lead (next m (call.Store address bytes)) n (address + length bytes) rest lead.1

module _ {D A : Type 0} {G : Ghosts D} where
  pub came_then : (test : Call → Bool) (m : Machine) (a b : Engine D A G) (first : Came test m a)
      → Led test a b → Came test m b
  came_then test m a b first then_led =
      let second = then_led (after m first.calls) first.stands in
      record {
        calls = first.calls ++ second.calls;
        passed = both test first.calls second.calls first.passed second.passed;
        stands = subst (λ (n : Machine). StandsFor b n) (sym (after_both m first.calls second.calls)) second.stands;
      }

  pub led_then : (test : Call → Bool) (a b c : Engine D A G) → Led test a b → Led test b c → Led test a c
  led_then test a b c first second = λ m stands. came_then test m b c (first m stands) second

  pub led_itself : (test : Call → Bool) (a : Engine D A G) → Led test a a
  led_itself test a = λ m stands. record { calls = []; passed = tt; stands = stands }

  pub quiet_led : (a b : Engine D A G) → Led is_look a b → Led is_quiet a b
  quiet_led a b led = λ m stands.
      let came = led m stands in
      record { calls = came.calls; passed = quiet_looks came.calls came.passed; stands = came.stands }

  -- a call that was carried out
  pub led_called : (test : Call → Bool) (call : Call) (a b : Engine D A G) (answer : Result Reply Code) (got : Reply)
      → test call ≡ true → Called call a answer b → answer ≡ Ok got → Led test a b
  led_called test call a b answer got passes called is = λ m stands.
      elim (called.answers m stands) [
        | inl follows ↦ record { calls = call ∷ []; passed = (passes, tt); stands = follows.stands }
        | inr bad ↦ absurd (cc (is, bad))
      ]

  pub led_made : (a b : Engine D A G) (answer : Result Reply Code) (made : Result ℕ Code)
      → Called (call.Create 1 17475) a answer b → IfOk made (λ id. answer ≡ Ok (reply.File id)) → OnOk made (Led is_quiet a b)
  led_made a b answer (Ok id) called is =
      led_called is_quiet (call.Create 1 17475) a b answer (reply.File id) refl called is
  led_made a b answer (Err code) called is = tt

  -- a load, or what else leaves the machine as it was
  pub led_still : (test : Call → Bool) (a b : Engine D A G) (moved : Result Unit Code) → IsOk moved
      → ((m : Machine) → StandsFor a m → StandsFor b m ⊎ (moved ≡ Err (code.Halted halt.Disk))) → Led test a b
  led_still test a b moved ok still = λ m stands.
      elim (still m stands) [
        | inl stays ↦ record { calls = []; passed = tt; stands = stays }
        | inr bad ↦ let wrong : false ≡ true = subst IsOk bad ok in absurd (cc wrong)
      ]

  pub led_stored : (a b : Engine D A G) (moved : Result Unit Code) (address done : ℕ) (bytes : List ℕ) → IsOk moved
      → ((m : Machine) → StandsFor a m → Stored m address done bytes b ⊎ (moved ≡ Err (code.Halted halt.Disk)))
      → Led is_quiet a b
  led_stored a b moved address done bytes ok stored = λ m stands.
      elim (stored m stands) [
        | inl s ↦ record {
          calls = stores address s.pieces;
          passed = stores_pass address s.pieces;
          stands = subst (λ (n : Machine). StandsFor b n) (stores_lead m s.after address s.pieces s.lead) s.stands;
        }
        | inr bad ↦ let wrong : false ≡ true = subst IsOk bad ok in absurd (cc wrong)
      ]

  -- after a halt no call changes anything
  pub stays_stopped : (why : Halt) (call : Call) (a b : Engine D A G) (answer : Result Reply Code)
      → HasStopped why a → Called call a answer b → HasStopped why b
  stays_stopped why call a b answer stopped called =
      subst (λ (e : Engine D A G). HasStopped why e) (sym (called.closed stopped.closed).1) stopped

  -- quiet calls before a mark
  pub marked_after : (id : ℕ) (a b c : Engine D A G) → Led is_quiet a b → Marked id b c → Marked id a c
  marked_after id a b c led marked = record {
    before = marked.before;
    reply = marked.reply;
    quiet = led_then is_quiet a b marked.before led marked.quiet;
    mark = marked.mark;
  }
