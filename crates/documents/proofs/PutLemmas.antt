-- An engine while a document is put.
use Rattle.std.proofs.Common.{◌≡◌, ◌∙◌, ◌⊎◌, inl, inr, ℕ, ◌+◌, ◌*◌, ◌<◌, ◌^◌, true, arith, refl, sym, ap, subst, List, length, Option, Result, Ok, Err, IfSome}
use Rattle.std.specs.Prelude.{take, MatchResult}
use Rattle.std.specs.Int.{div_ceil}
use Rattle.std.specs.Io.KnownBytes.{Consumes, IsAtEnd}
use Rattle.std.proofs.KnownBytes.{Consumes-whole}
use Rattle.labelled_disk.specs.declared.disk.Disk.{Ghosts}
use Rattle.labelled_disk.specs.declared.evidence.Halt.{Halt}
use Rattle.labelled_disk.specs.declared.evidence.Halt.TheVariants as halt
use Rattle.document_head.specs.Head.{head_page}
use Rattle.flat_machine.specs.declared.call.Call.TheVariants as call
use Rattle.flat_machine.specs.declared.call.Reply.{Reply}
use Rattle.flat_machine.specs.declared.call.Reply.TheVariants as reply
use Rattle.flat_machine.specs.File.{File, size}
use Rattle.flat_machine.specs.Machine.{Machine}
use Rattle.flat_machine.specs.Next.{new_id, next}
use Rattle.flat_machine.proofs.StoreLemmas.{unrefused}
use Rattle.embedded.specs.declared.code.Code.{Code}
use Rattle.embedded.specs.declared.code.Code.TheVariants as code
use Rattle.embedded.specs.declared.engine.Engine.{Engine}
use Rattle.embedded.specs.Answers.{answer_to}
use Rattle.embedded.specs.Called.{Called, HasStopped}
use Rattle.embedded.specs.Engine.{StandsFor}
use Rattle.documents.specs.declared.fault.Fault.{Fault}
use Rattle.documents.specs.declared.fault.Fault.TheVariants as fault
use Rattle.documents.specs.Contents.{IsDocument}
use Rattle.documents.specs.Pieces.{adding, after_store, appended, grown, marked, written}
use Rattle.documents.specs.Stands.{HasFilled, HasOther, IsAsBefore, IsFresh, IsPut, StoredPart, blank, is_failure}
use Rattle.documents.proofs.AddingLemmas.{deleted_adding, marked_adding, sized_adding, stored_adding}
use Rattle.documents.proofs.CallLemmas.{carried, refused, surely}
use Rattle.documents.proofs.FillLemmas.{sealed_is}

module _ {D A : Type 0} {G : Ghosts D} where
  -- The file is made.

  pub made_by : (m : Machine) (a b : Engine D A G) (made : Result Reply Code) (result : Result ℕ Code) → Called (call.Create 1 17475) a made b
      → ((id : ℕ) → made ≡ Ok (reply.File id) → result ≡ Ok id) → ((e : Code) → made ≡ Err e → result ≡ Err e) → StandsFor a m
      → MatchResult result (λ id. (id ≡ new_id m) × StandsFor b (adding (blank m) m)) (λ e. (e ≡ is_failure) ⊎ StandsFor b m)
  made_by m a b (Ok got) result called file code stands =
      let one = carried (call.Create 1 17475) a b (Ok got) got m called stands refl in
      let is : result ≡ Ok (new_id m) = file (new_id m) (ap (λ (r : Reply). Ok r) one.1) in
      subst (λ (r : Result ℕ Code). MatchResult r (λ id. (id ≡ new_id m) × StandsFor b (adding (blank m) m)) (λ e. (e ≡ is_failure) ⊎ StandsFor b m)) (sym is)
      (refl, subst (λ (n : Machine). StandsFor b n) (unrefused m (call.Create 1 17475) one.0) one.2)
  made_by m a b (Err e) result called file code stands =
      subst (λ (r : Result ℕ Code). MatchResult r (λ id. (id ≡ new_id m) × StandsFor b (adding (blank m) m)) (λ x. (x ≡ is_failure) ⊎ StandsFor b m)) (sym (code e refl))
      (elim (refused (call.Create 1 17475) a b (Err e) e m (λ r answers. (_, ap answer_to answers)) called stands refl) [
        | inl bad ↦ inl bad
        | inr r ↦ inr r.0
      ])

  module _ (m : Machine) (f : File) (id : ℕ) (is_fresh : IsFresh m id) (named : f.id ≡ id) where
    -- It is made longer.

    pub set_ok : (all : ℕ) (a b : Engine D A G) (sized : Result Reply Code) (got : Reply) → Called (call.SetSize id all) a sized b → sized ≡ Ok got → StandsFor a (adding f m)
        → StandsFor b (adding (record f { pages = grown all f.pages }) m)
    set_ok all a b sized got called is stands =
        let one = carried (call.SetSize id all) a b sized got (adding f m) called stands is in
        subst (λ (n : Machine). StandsFor b n) (sized_adding m f id is_fresh named all one.0) one.2

    pub set_err : (all : ℕ) (a b : Engine D A G) (sized : Result Reply Code) (e : Code) → Called (call.SetSize id all) a sized b → sized ≡ Err e → StandsFor a (adding f m)
        → (e ≡ is_failure) ⊎ HasOther m id b
    set_err all a b sized e called is stands = elim (refused (call.SetSize id all) a b sized e (adding f m) (λ r answers. (_, ap answer_to answers)) called stands is) [
      | inl bad ↦ inl bad
      | inr r ↦ inr (f, named, r.0)
    ]

    -- Bytes are stored into it.

    pub stored_ok : (page pages : ℕ) (bytes : List ℕ) (c : Engine D A G) → StandsFor c (after_store id page pages bytes (adding f m)) → StandsFor c (adding (written (512 * page) bytes f) m)
    stored_ok page pages bytes c stands = subst (λ (n : Machine). StandsFor c n) (stored_adding m f id is_fresh named page pages bytes) stands

    pub stored_err : (page : ℕ) (bytes : List ℕ) (e : Code) (c : Engine D A G) → StoredPart (adding f m) id page bytes e c → (e ≡ is_failure) ⊎ HasOther m id c
    stored_err page bytes e c (inl bad) = inl bad
    stored_err page bytes e c (inr (inl st)) = inr (f, named, st)
    stored_err page bytes e c (inr (inr part)) =
        inr (written (512 * page) (take part.0 bytes) f, named, stored_ok page (div_ceil (length bytes) 512) (take part.0 bytes) c part.1)

    -- It is marked.

    pub mark_ok : (a b : Engine D A G) (answer : Result Reply Code) (got : Reply) → Called (call.MakePermanent id) a answer b → answer ≡ Ok got → StandsFor a (adding f m)
        → StandsFor b (adding (marked f) m)
    mark_ok a b answer got called is stands =
        let one = carried (call.MakePermanent id) a b answer got (adding f m) called stands is in
        subst (λ (n : Machine). StandsFor b n) (marked_adding m f id is_fresh named one.0) one.2

    pub mark_err : (a b : Engine D A G) (answer : Result Reply Code) (e : Code) → Called (call.MakePermanent id) a answer b → answer ≡ Err e → StandsFor a (adding f m)
        → (e ≡ is_failure) ⊎ HasOther m id b
    mark_err a b answer e called is stands = elim (refused (call.MakePermanent id) a b answer e (adding f m) (λ r answers. (_, ap answer_to answers)) called stands is) [
      | inl bad ↦ inl bad
      | inr r ↦ inr (f, named, r.0)
    ]

  -- It is a document.
  pub put_is : (m : Machine) (id count : ℕ) (name : List ℕ) (left0 left1 : Option (List ℕ)) (d e : Engine D A G) → id ≡ new_id m → count < 2 ^ 64 → (h : HasFilled m count left0 left1 d)
      → IsAtEnd left1 → length (head_page count name) ≡ 512 → StandsFor e (adding (marked (written 0 (head_page count name) h.file)) m) → IsPut m id name left0 e
  put_is m id count name left0 left1 d e new fits h ended wide stands =
      let long : count ≡ length h.bytes = sym h.long in
      record {
        bytes = h.bytes;
        all = Consumes-whole left0 left1 h.bytes (λ xs. h.bytes ≡ xs) h.taken ended refl;
        fits = subst (λ (n : ℕ). n < 2 ^ 64) long fits;
        new = new;
        file = marked (written 0 (head_page count name) h.file);
        named = ap (λ (x : File). x.id) h.filled.same ∙ sym new;
        document = subst (λ (n : ℕ). IsDocument name h.bytes (marked (written 0 (head_page n name) h.file))) h.long
            (sealed_is m h.file name h.bytes h.filled h.tight (ap (λ (n : ℕ). length (head_page n name)) h.long ∙ wide));
        stands = stands;
      }

  -- The file of a document that was not put is deleted.
  pub undone_by : (m : Machine) (id : ℕ) (error handed : Fault) (deleted : Result Reply Code) (a b : Engine D A G) → IsFresh m id → Called (call.Delete id) a deleted b
      → (error ≡ fault.Call is_failure → HasStopped halt.Disk a)
      → (handed ≡ error) ⊎ ((why : Halt) × (deleted ≡ Err (code.Halted why)) × (handed ≡ fault.Call (code.Halted why)))
      → (deleted ≡ Err is_failure → handed ≡ fault.Call is_failure)
      → (error ≡ fault.Call is_failure) ⊎ HasOther m id a → (handed ≡ fault.Call is_failure) ⊎ IsAsBefore m b
  undone_by m id error handed deleted a b is_fresh called stopped which halted (inl bad) =
      let shut = (called.closed (stopped bad).closed).0 in
      inl (elim which [
        | inl same ↦ same ∙ bad
        | inr other ↦ absurd (cc (shut, other.1))
      ])
  undone_by m id error handed deleted a b is_fresh called stopped which halted (inr h) = elim (surely (call.Delete id) a b deleted (adding h.0 m) called h.2) [
    | inl stands ↦ inr (m.counter + 1, omega arith, subst (λ (n : Machine). StandsFor b n) (deleted_adding m h.0 id is_fresh h.1) stands)
    | inr bad ↦ inl (halted bad)
  ]
