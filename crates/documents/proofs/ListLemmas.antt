-- What an engine learns of a file.
use Rattle.std.proofs.Common.{◌≡◌, ◌∙◌, ◌⊎◌, inl, inr, ℕ, Bool, true, refl, sym, ap, subst, List, Option, Some, None, Result, Ok, Err, IfSome}
use Rattle.std.specs.Prelude.{is_none, is_some, if◌then◌else◌}
use Rattle.std.specs.Option.{option_map_or}
use Rattle.labelled_disk.specs.declared.disk.Disk.{Ghosts}
use Rattle.std.proofs.lemmas.Bool.{false≢true}
use Rattle.document_head.specs.Head.{head_page, pages_of}
use Rattle.document_head.specs.declared.head.Head.{Head}
use Rattle.flat_machine.specs.declared.call.Call.TheVariants as call
use Rattle.flat_machine.specs.declared.call.Refusal.{Refusal}
use Rattle.flat_machine.specs.declared.call.Reply.{Reply}
use Rattle.flat_machine.specs.declared.call.Reply.TheVariants as reply
use Rattle.flat_machine.specs.Allows.{attributes_of}
use Rattle.flat_machine.specs.File.{File, file_at, size}
use Rattle.flat_machine.specs.Machine.{Machine, is_anonymous, nameable}
use Rattle.flat_machine.specs.Next.{next}
use Rattle.flat_machine.specs.Refusal.{no_file, refusal}
use Rattle.flat_machine.proofs.TestLemmas.{file_there, one_none}
use Rattle.embedded.specs.declared.code.Code.{Code}
use Rattle.embedded.specs.declared.engine.Engine.{Engine}
use Rattle.embedded.specs.Answers.{answer_to}
use Rattle.embedded.specs.Called.{Called}
use Rattle.embedded.specs.Engine.{StandsFor}
use Rattle.documents.specs.Contents.{Reads}
use Rattle.documents.specs.declared.fault.Fault.{Fault}
use Rattle.documents.specs.declared.fault.Fault.TheVariants as fault
use Rattle.flat_machine.specs.declared.space.FilePage.{FilePage}
use Rattle.documents.specs.Stands.{AreAmong, HasDocument, HasRead, IsListed, StillFor, is_failure}
use Rattle.documents.proofs.CallLemmas.{carried, surely}

-- a question leaves the machine as it is
unchanged : (o : Option Refusal) (m : Machine) → (if is_none o then m else m) ≡ m
unchanged None m = refl
unchanged (Some word) m = refl

-- the file is there, and these are its attributes
pub there : (m : Machine) (id : ℕ) (got : Reply) → refusal m (call.Attributes id) ≡ None → got ≡ option_map_or attributes_of (nameable m id) reply.Nothing
    → (f : File) × (file_at m.files id ≡ Some f) × (got ≡ attributes_of f)
there m id got free is =
    let at = file_there m id (one_none (no_file m id) free) in
    let is_it : got ≡ attributes_of at.0 =
    is ∙ ap (λ (b : Bool). option_map_or attributes_of (if b then None else file_at m.files id) reply.Nothing) at.2
    ∙ ap (λ (o : Option File). option_map_or attributes_of o reply.Nothing) at.1 in
    (at.0, at.1, is_it)

module _ {D A : Type 0} {G : Ghosts D} where
  -- what stands for a machine but for pages that were forced does so of one before
  pub still_then : (m : Machine) (us : List FilePage) (e : Fault) (b : Engine D A G) → AreAmong us m.unforced
      → (e ≡ fault.Call is_failure) ⊎ StillFor (record m { unforced = us }) b → (e ≡ fault.Call is_failure) ⊎ StillFor m b
  still_then m us e b among (inl bad) = inl bad
  still_then m us e b among (inr st) = inr (st.0, (λ test none. st.1 test (among test none)), st.2)

  pub asked : (m : Machine) (id : ℕ) (a b : Engine D A G) (answer : Result Reply Code) (got : Reply) → Called (call.Attributes id) a answer b → answer ≡ Ok got → StandsFor a m → StandsFor b m
  asked m id a b answer got called is stands =
      subst (λ (n : Machine). StandsFor b n) (unchanged (refusal m (call.Attributes id)) m) (carried (call.Attributes id) a b answer got m called stands is).2

  pub still_after : (m : Machine) (id : ℕ) (a b : Engine D A G) (answer : Result Reply Code) (e : Code) → Called (call.Attributes id) a answer b → answer ≡ Err e → StandsFor a m
      → (e ≡ is_failure) ⊎ StillFor m b
  still_after m id a b answer e called is stands = elim (surely (call.Attributes id) a b answer m called stands) [
    | inl st ↦ inr (m.unforced, (λ test none. none), subst (λ (n : Machine). StandsFor b n) (unchanged (refusal m (call.Attributes id)) m) st)
    | inr bad ↦ inl (cc (is, bad))
  ]

  -- a file that is no document
  pub listed_plain : (m : Machine) (id : ℕ) (a b : Engine D A G) (answer : Result Reply Code) (pages kind : ℕ) (permanent immutable : Bool) (got : Reply)
      → Called (call.Attributes id) a answer b → answer ≡ Ok got → got ≡ reply.Attributes pages kind permanent immutable → StandsFor a m → IsListed m id pages kind None b
  listed_plain m id a b answer pages kind permanent immutable got called given form stands =
      let is : answer ≡ Ok (reply.Attributes pages kind permanent immutable) = given ∙ ap (λ (r : Reply). Ok r) form in
      let one = carried (call.Attributes id) a b answer (reply.Attributes pages kind permanent immutable) m called stands is in
      let f = there m id (reply.Attributes pages kind permanent immutable) one.0 one.1 in
      record {
        file = f.0;
        there = f.1;
        same_size = cc f.2;
        same_kind = cc f.2;
        head_read = tt;
        still = (m.unforced, (λ test none. none), asked m id a b answer (reply.Attributes pages kind permanent immutable) called is stands);
      }

  -- the first page of a file is a head
  pub head_read : (m : Machine) (id : ℕ) (page : List ℕ) (e : Engine D A G) (found : Option Head) → HasRead m id 0 page e
      → IfSome found (λ h. page ≡ head_page h.bytes h.name.bytes) → IfSome found (λ h. HasRead m id 0 (head_page h.bytes h.name.bytes) e)
  head_read m id page e None read said = tt
  head_read m id page e (Some h) read said = subst (λ (p : List ℕ). HasRead m id 0 p e) said read

  -- a file that may be one
  pub listed_head : (m : Machine) (id : ℕ) (a b c : Engine D A G) (answer : Result Reply Code) (pages kind : ℕ) (permanent immutable : Bool) (got : Reply) (found : Option Head)
      → Called (call.Attributes id) a answer b → answer ≡ Ok got → got ≡ reply.Attributes pages kind permanent immutable → StandsFor a m → kind ≡ 17475
      → (StandsFor b m → IfSome found (λ h. HasRead m id 0 (head_page h.bytes h.name.bytes) c) × StillFor m c) → IsListed m id pages kind found c
  listed_head m id a b c answer pages kind permanent immutable got found called given form stands document read =
      let is : answer ≡ Ok (reply.Attributes pages kind permanent immutable) = given ∙ ap (λ (r : Reply). Ok r) form in
      let one = carried (call.Attributes id) a b answer (reply.Attributes pages kind permanent immutable) m called stands is in
      let f = there m id (reply.Attributes pages kind permanent immutable) one.0 one.1 in
      let its_kind : kind ≡ f.0.kind = cc f.2 in
      let its = read (asked m id a b answer (reply.Attributes pages kind permanent immutable) called is stands) in
      record {
        file = f.0;
        there = f.1;
        same_size = cc f.2;
        same_kind = its_kind;
        head_read = both found f.0 f.1 (sym its_kind ∙ document) its.0;
        still = its.1;
      }
    where
      both : (found : Option Head) (f : File) → file_at m.files id ≡ Some f → f.kind ≡ 17475 → IfSome found (λ h. HasRead m id 0 (head_page h.bytes h.name.bytes) c)
          → IfSome found (λ h. (f.kind ≡ 17475) × Reads f 0 (head_page h.bytes h.name.bytes))
      both None f at k r = tt
      both (Some h) f at k r =
          let same : r.file ≡ f = cc (sym r.there ∙ at) in
          (k, subst (λ (x : File). Reads x 0 (head_page h.bytes h.name.bytes)) same r.reads)

  -- a file whose head was found is a document
  pub is_one : (m : Machine) (id pages kind : ℕ) (found : Option Head) (e : Engine D A G) → IsListed m id pages kind found e → is_some found ≡ true
      → IfSome found (λ h. pages ≡ pages_of h.bytes) → HasDocument m id × StillFor m e
  is_one m id pages kind None e listed some long = absurd (false≢true some)
  is_one m id pages kind (Some h) e listed some long =
      let its = listed.head_read in
      (record { file = listed.file; there = listed.there; kind = its.0; head = h; long = sym listed.same_size ∙ long; head_read = its.1 }, listed.still)
