-- An engine while a document is removed, or replaced.
use Rattle.std.proofs.Common.{◌≡◌, ◌∙◌, ◌⊎◌, inl, inr, ℕ, ◌+◌, refl, sym, ap, subst, List, Option, Result, Ok, Err}
use Rattle.labelled_disk.specs.declared.disk.Disk.{Ghosts}
use Rattle.labelled_disk.specs.declared.evidence.Halt.{Halt}
use Rattle.labelled_disk.specs.declared.evidence.Halt.TheVariants as halt
use Rattle.flat_machine.specs.declared.call.Call.TheVariants as call
use Rattle.flat_machine.specs.declared.call.Reply.{Reply}
use Rattle.flat_machine.specs.declared.space.FilePage.{FilePage}
use Rattle.flat_machine.specs.File.{File}
use Rattle.flat_machine.specs.Machine.{Machine}
use Rattle.flat_machine.proofs.StoreLemmas.{unrefused}
use Rattle.embedded.specs.declared.code.Code.{Code}
use Rattle.embedded.specs.declared.code.Code.TheVariants as code
use Rattle.embedded.specs.declared.engine.Engine.{Engine}
use Rattle.embedded.specs.Answers.{answer_to}
use Rattle.embedded.specs.Called.{Called, HasStopped}
use Rattle.embedded.specs.Engine.{StandsFor}
use Rattle.documents.specs.declared.fault.Fault.{Fault}
use Rattle.documents.specs.declared.fault.Fault.TheVariants as fault
use Rattle.documents.specs.Pieces.{adding}
use Rattle.documents.specs.Stands.{AreAmong, HasDocument, HasOther, HasRemoved, IsAsBefore, IsFresh, IsMostlyAsBefore, IsPut, IsReplaced, StillFor, is_failure}
use Rattle.documents.proofs.AddingLemmas.{fresh}
use Rattle.documents.proofs.CallLemmas.{carried, refused}
use Rattle.documents.proofs.MachineLemmas.{machine_of}
use Rattle.documents.proofs.PutLemmas.{undone_by}

module _ {D A : Type 0} {G : Ghosts D} where
  pub removed_ok : (m : Machine) (id : ℕ) (a b : Engine D A G) (answer : Result Reply Code) (got : Reply) → Called (call.Delete id) a answer b → answer ≡ Ok got → HasDocument m id × StillFor m a → HasRemoved m id b
  removed_ok m id a b answer got called is (was, st) =
      let n : Machine = record m { unforced = st.0 } in
      let one = carried (call.Delete id) a b answer got n called st.2 is in
      (was, (st.0, st.1, subst (λ (x : Machine). StandsFor b x) (unrefused n (call.Delete id) one.0) one.2))

  pub removed_err : (m : Machine) (id : ℕ) (a b : Engine D A G) (answer : Result Reply Code) (e : Code) → Called (call.Delete id) a answer b → answer ≡ Err e → StillFor m a
      → (fault.Call e ≡ fault.Call is_failure) ⊎ StillFor m b
  removed_err m id a b answer e called is st =
      elim (refused (call.Delete id) a b answer e (record m { unforced = st.0 }) (λ r answers. (_, ap answer_to answers)) called st.2 is) [
        | inl bad ↦ inl (ap (λ (x : Code). fault.Call x) bad)
        | inr r ↦ inr (st.0, st.1, r.0)
      ]

  -- the old one goes after the new one was put
  pub replaced_ok : (m : Machine) (gone id : ℕ) (name : List ℕ) (left : Option (List ℕ)) (us : List FilePage) (a b : Engine D A G) (answer : Result Reply Code) (got : Reply)
      → Called (call.Delete gone) a answer b → answer ≡ Ok got → HasDocument m gone → AreAmong us m.unforced → IsPut (record m { unforced = us }) id name left a → IsReplaced m gone id name left b
  replaced_ok m gone id name left us a b answer got called is was among p =
      let n : Machine = adding p.file (record m { unforced = us }) in
      let one = carried (call.Delete gone) a b answer got n called p.stands is in
      record {
        was = was;
        bytes = p.bytes;
        all = p.all;
        fits = p.fits;
        new = p.new;
        file = p.file;
        named = p.named;
        document = p.document;
        unforced = us;
        forced = among;
        stands = subst (λ (x : Machine). StandsFor b x) (unrefused n (call.Delete gone) one.0) one.2;
      }

  -- or the new one goes again
  pub replaced_err : (m : Machine) (gone id : ℕ) (name : List ℕ) (left : Option (List ℕ)) (us : List FilePage) (o a b c : Engine D A G) (answer deleted : Result Reply Code) (e : Code) (handed : Fault)
      → AreAmong us m.unforced → StandsFor o (record m { unforced = us }) → Called (call.Delete gone) a answer b → answer ≡ Err e → Called (call.Delete id) b deleted c
      → (e ≡ is_failure → HasStopped halt.Disk b)
      → (handed ≡ fault.Call e) ⊎ ((why : Halt) × (deleted ≡ Err (code.Halted why)) × (handed ≡ fault.Call (code.Halted why)))
      → (deleted ≡ Err is_failure → handed ≡ fault.Call is_failure)
      → IsPut (record m { unforced = us }) id name left a → (handed ≡ fault.Call is_failure) ⊎ IsMostlyAsBefore m c
  replaced_err m gone id name left us o a b c answer deleted e handed among was called is undo stopped which halted p =
      let n : Machine = record m { unforced = us } in
      let is_fresh = subst (λ (x : ℕ). IsFresh n x) (sym p.new) (fresh n (machine_of o n was)) in
      let why : (fault.Call e ≡ fault.Call is_failure) ⊎ HasOther n id b =
      elim (refused (call.Delete gone) a b answer e (adding p.file n) (λ r answers. (_, ap answer_to answers)) called p.stands is) [
        | inl bad ↦ inl (ap (λ (x : Code). fault.Call x) bad)
        | inr r ↦ inr (p.file, p.named, r.0)
      ] in
      elim (undone_by n id (fault.Call e) handed deleted b c is_fresh undo (λ bad. stopped (cc bad)) which halted why) [
        | inl bad ↦ inl bad
        | inr st ↦ inr (us, among, st)
      ]
