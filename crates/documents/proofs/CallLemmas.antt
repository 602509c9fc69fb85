-- What one call of an engine that stands for a machine comes to.
use Rattle.std.proofs.Common.{◌≡◌, ◌∙◌, ◌⊎◌, inl, inr, refl, sym, ap, subst, if◌then◌else◌, Option, Some, None, MatchOption, Result, Ok, Err}
use Rattle.std.specs.Prelude.{is_none}
use Rattle.labelled_disk.specs.declared.disk.Disk.{Ghosts}
use Rattle.flat_machine.specs.declared.call.Call.{Call}
use Rattle.flat_machine.specs.declared.call.Refusal.{Refusal}
use Rattle.flat_machine.specs.declared.call.Reply.{Reply}
use Rattle.flat_machine.specs.declared.call.Reply.TheVariants as reply
use Rattle.flat_machine.specs.Allows.{Answers}
use Rattle.flat_machine.specs.Machine.{Machine}
use Rattle.flat_machine.specs.Next.{next, change}
use Rattle.flat_machine.specs.Refusal.{refusal}
use Rattle.embedded.specs.declared.code.Code.{Code}
use Rattle.embedded.specs.declared.code.Code.TheVariants as code
use Rattle.embedded.specs.declared.engine.Engine.{Engine}
use Rattle.embedded.specs.Answers.{answer_to}
use Rattle.embedded.specs.Called.{Called, Follows}
use Rattle.embedded.specs.Engine.{StandsFor}
use Rattle.documents.specs.Stands.{is_failure}

-- an answer that is a reply is that reply
same_reply : {x : Reply} (r : Reply) → Ok x ≡ answer_to r → x ≡ r
same_reply (reply.Refused word) is = absurd (cc is)
same_reply reply.Nothing is = absurd (cc is)
same_reply other is = cc is

-- what is answered by a reply was not refused
unrefused : {x : Reply} (o : Option Refusal) (P : Type 0) (r : Reply) → MatchOption o P (λ word. r ≡ reply.Refused word) → Ok x ≡ answer_to r → (o ≡ None) × P
unrefused None P r p is = (refl, p)
unrefused (Some word) P r p is = absurd (cc (is ∙ ap answer_to p))

-- the reply of a call is a reply to the client too
abbrev pub IsPlain : Machine → Call → Type 0
IsPlain m call = (r : Reply) → Answers m call r → (x : Reply) × (answer_to r ≡ Ok x)

-- what is answered by a code was refused
refused_why : {e : Code} (o : Option Refusal) (P : Type 0) (r : Reply) → MatchOption o P (λ word. r ≡ reply.Refused word) → (P → (x : Reply) × (answer_to r ≡ Ok x)) → Err e ≡ answer_to r
    → (word : Refusal) × (o ≡ Some word)
refused_why None P r p plain is = absurd (cc (is ∙ (plain p).1))
refused_why (Some word) P r p plain is = (word, refl)

module _ {D A : Type 0} {G : Ghosts D} where
  carried_by : (call : Call) (b : Engine D A G) (answer : Result Reply Code) (got : Reply) (m : Machine)
      → Follows m call answer b → answer ≡ Ok got → (refusal m call ≡ None) × Answers m call got × StandsFor b (next m call)
  carried_by call b answer got m f is =
      let same : Ok got ≡ answer_to f.reply = sym is ∙ f.answered in
      let free = unrefused (refusal m call) (Answers m call f.reply) f.reply f.allowed same in
      let it : f.reply ≡ got = sym (same_reply f.reply same) in
      (free.0, subst (λ (r : Reply). Answers m call r) it free.1, f.stands)

  -- a call that was carried out
  pub carried : (call : Call) (a b : Engine D A G) (answer : Result Reply Code) (got : Reply) (m : Machine)
      → Called call a answer b → StandsFor a m → answer ≡ Ok got → (refusal m call ≡ None) × Answers m call got × StandsFor b (next m call)
  carried call a b answer got m called stands is = elim (called.answers m stands) [
    | inl f ↦ carried_by call b answer got m f is
    | inr bad ↦ absurd (cc (is, bad))
  ]

  refused_by : (call : Call) (b : Engine D A G) (answer : Result Reply Code) (e : Code) (m : Machine) → IsPlain m call
      → Follows m call answer b → answer ≡ Err e → StandsFor b m × ((word : Refusal) × (refusal m call ≡ Some word))
  refused_by call b answer e m plain f is =
      let same : Err e ≡ answer_to f.reply = sym is ∙ f.answered in
      let why = refused_why (refusal m call) (Answers m call f.reply) f.reply f.allowed (plain f.reply) same in
      (subst (λ (n : Machine). StandsFor b n) (ap (λ (o : Option Refusal). if is_none o then change m call else m) why.1) f.stands, why)

  -- one that was not: it was refused and changed nothing, or the disk failed
  pub refused : (call : Call) (a b : Engine D A G) (answer : Result Reply Code) (e : Code) (m : Machine) → IsPlain m call
      → Called call a answer b → StandsFor a m → answer ≡ Err e
      → (e ≡ is_failure) ⊎ (StandsFor b m × ((word : Refusal) × (refusal m call ≡ Some word)))
  refused call a b answer e m plain called stands is = elim (called.answers m stands) [
    | inl f ↦ inr (refused_by call b answer e m plain f is)
    | inr bad ↦ inl (cc (is, bad))
  ]

  -- one that is not refused: it is carried out, or the disk fails
  pub surely : (call : Call) (a b : Engine D A G) (answer : Result Reply Code) (m : Machine)
      → Called call a answer b → StandsFor a m → StandsFor b (next m call) ⊎ (answer ≡ Err is_failure)
  surely call a b answer m called stands = elim (called.answers m stands) [
    | inl f ↦ inl f.stands
    | inr bad ↦ inr bad
  ]

  -- and where it is not refused, a code is that of the disk
  pub never : (call : Call) (a b : Engine D A G) (answer : Result Reply Code) (e : Code) (m : Machine) → IsPlain m call
      → Called call a answer b → StandsFor a m → refusal m call ≡ None → answer ≡ Err e → e ≡ is_failure
  never call a b answer e m plain called stands free is = elim (refused call a b answer e m plain called stands is) [
    | inl bad ↦ bad
    | inr r ↦ absurd (cc (free, r.1.1))
  ]
