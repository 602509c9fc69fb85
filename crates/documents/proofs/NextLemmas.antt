-- What an engine learns of the next file.
use Rattle.std.proofs.Common.{◌≡◌, ◌∙◌, ◌⊎◌, inl, inr, ℕ, refl, sym, ap, subst, List, Option, Some, None, MatchOption, Result, Ok, Err}
use Rattle.std.specs.Prelude.{is_none, if◌then◌else◌}
use Rattle.std.specs.Option.{option_map_or}
use Rattle.labelled_disk.specs.declared.disk.Disk.{Ghosts}
use Rattle.document_head.specs.declared.head.Head.{Head}
use Rattle.flat_machine.specs.declared.call.Call.TheVariants as call
use Rattle.flat_machine.specs.declared.call.Refusal.{Refusal}
use Rattle.flat_machine.specs.declared.call.Reply.{Reply}
use Rattle.flat_machine.specs.declared.call.Reply.TheVariants as reply
use Rattle.flat_machine.specs.Allows.{Answers, next_file}
use Rattle.flat_machine.specs.Machine.{Machine}
use Rattle.flat_machine.specs.Refusal.{refusal}
use Rattle.embedded.specs.declared.code.Code.{Code}
use Rattle.embedded.specs.declared.code.Code.TheVariants as code
use Rattle.embedded.specs.declared.engine.Engine.{Engine}
use Rattle.embedded.specs.Answers.{answer_to}
use Rattle.embedded.specs.Called.{Called}
use Rattle.embedded.specs.Engine.{StandsFor}
use Rattle.documents.specs.Stands.{IsListed, StillFor, is_failure}
use Rattle.documents.proofs.CallLemmas.{carried, surely}

-- a question leaves the machine as it is
unchanged : (o : Option Refusal) (m : Machine) → (if is_none o then m else m) ≡ m
unchanged None m = refl
unchanged (Some word) m = refl

-- a reply that is a file says which one is the next
next_is : (o : Option ℕ) (id : ℕ) → reply.File id ≡ option_map_or reply.File o reply.Nothing → o ≡ Some id
next_is None id is = absurd (cc is)
next_is (Some n) id is =
    let same : n ≡ id = cc is in
    ap (λ (k : ℕ). Some k) same

-- and that there is none
no_next : (o : Option ℕ) → answer_to (option_map_or reply.File o reply.Nothing) ≡ Err code.NoFile → o ≡ None
no_next None is = refl
no_next (Some n) is = absurd (cc is)

-- that there is no file is no refusal
not_refused : (o : Option Refusal) (P : Type 0) (r : Reply) → MatchOption o P (λ word. r ≡ reply.Refused word) → answer_to r ≡ Err code.NoFile → P
not_refused None P r p is = p
not_refused (Some word) P r p is = absurd (cc (sym (ap answer_to p) ∙ is))

module _ {D A : Type 0} {G : Ghosts D} where
  -- there is a next file
  pub next_there : (m : Machine) (cursor id : ℕ) (a b : Engine D A G) (answer : Result Reply Code) (got : Reply) → Called (call.Next cursor) a answer b → answer ≡ Ok got → got ≡ reply.File id → StandsFor a m
      → (next_file m cursor ≡ Some id) × StandsFor b m
  next_there m cursor id a b answer got called given form stands =
      let is : answer ≡ Ok (reply.File id) = given ∙ ap (λ (r : Reply). Ok r) form in
      let one = carried (call.Next cursor) a b answer (reply.File id) m called stands is in
      (next_is (next_file m cursor) id one.1, subst (λ (n : Machine). StandsFor b n) (unchanged (refusal m (call.Next cursor)) m) one.2)

  -- there is none
  pub next_none : (m : Machine) (cursor : ℕ) (a b : Engine D A G) (answer : Result Reply Code) → Called (call.Next cursor) a answer b → answer ≡ Err code.NoFile → StandsFor a m
      → (next_file m cursor ≡ None) × StillFor m b
  next_none m cursor a b answer called is stands = elim (called.answers m stands) [
    | inl f ↦
        let same : answer_to f.reply ≡ Err code.NoFile = sym f.answered ∙ is in
        let plain = not_refused (refusal m (call.Next cursor)) (Answers m (call.Next cursor) f.reply) f.reply f.allowed same in (
          no_next (next_file m cursor) (ap answer_to (sym plain) ∙ same),
          (m.unforced, (λ test none. none), subst (λ (n : Machine). StandsFor b n) (unchanged (refusal m (call.Next cursor)) m) f.stands),
        )
    | inr bad ↦ absurd (cc (is, bad))
  ]

  -- nothing is known of it
  pub next_unknown : (m : Machine) (cursor : ℕ) (a b : Engine D A G) (answer : Result Reply Code) (e : Code) → Called (call.Next cursor) a answer b → answer ≡ Err e → StandsFor a m
      → (e ≡ is_failure) ⊎ StillFor m b
  next_unknown m cursor a b answer e called is stands = elim (surely (call.Next cursor) a b answer m called stands) [
    | inl st ↦ inr (m.unforced, (λ test none. none), subst (λ (n : Machine). StandsFor b n) (unchanged (refusal m (call.Next cursor)) m) st)
    | inr bad ↦ inl (cc (is, bad))
  ]

  -- another reply than those
  pub next_odd : (m : Machine) (cursor : ℕ) (a b : Engine D A G) (answer : Result Reply Code) (got : Reply) → Called (call.Next cursor) a answer b → answer ≡ Ok got → StandsFor a m → StillFor m b
  next_odd m cursor a b answer got called is stands = elim (surely (call.Next cursor) a b answer m called stands) [
    | inl st ↦ (m.unforced, (λ test none. none), subst (λ (n : Machine). StandsFor b n) (unchanged (refusal m (call.Next cursor)) m) st)
    | inr bad ↦ absurd (cc (is, bad))
  ]

  -- and then what the file is
  pub listed_next : (m : Machine) (cursor id its pages kind : ℕ) (found : Option Head) (e : Engine D A G) → next_file m cursor ≡ Some id → its ≡ id → IsListed m id pages kind found e
      → (next_file m cursor ≡ Some its) × IsListed m its pages kind found e
  listed_next m cursor id its pages kind found e at same listed =
      subst (λ (n : ℕ). (next_file m cursor ≡ Some n) × IsListed m n pages kind found e) (sym same) (at, listed)
