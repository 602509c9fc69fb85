-- A document that is removed, or replaced, at a stop.
use Rattle.std.proofs.Common.{◌≡◌, ◌∙◌, ◌⊎◌, inl, inr, ℕ, zero, suc, ◌+◌, Bool, true, false, refl, sym, ap, subst, List, Option, Some, None, Result, Err}
use Rattle.std.specs.List.{list_any}
use Rattle.std.proofs.lemmas.Bool.{true≢false}
use Rattle.labelled_disk.specs.declared.disk.Disk.{Ghosts}
use Rattle.labelled_disk.specs.declared.evidence.Halt.TheVariants as halt
use Rattle.labelled_disk.specs.Sectors.{Sector}
use Rattle.flat_machine.specs.declared.call.Call.TheVariants as call
use Rattle.flat_machine.specs.declared.call.Refusal.{Refusal}
use Rattle.flat_machine.specs.declared.call.Reply.{Reply}
use Rattle.flat_machine.specs.declared.space.FilePage.{FilePage}
use Rattle.flat_machine.specs.File.{File, put_file}
use Rattle.flat_machine.specs.Machine.{Machine}
use Rattle.flat_machine.specs.IsMachine.{IsMachine}
use Rattle.flat_machine.specs.Next.{is_same_page, next, without_file}
use Rattle.flat_machine.specs.Refusal.{refusal}
use Rattle.flat_machine.specs.Settled.{is_unforced}
use Rattle.flat_machine.proofs.Keep.{with_unforced}
use Rattle.flat_machine.proofs.NextLemmas.{next_keeps_machine}
use Rattle.flat_machine.proofs.StoreLemmas.{unrefused}
use Rattle.session_words.specs.StandsFor.{RevealsSettled}
use Rattle.running_words.specs.Stages.{stage}
use Rattle.pilot_engine.proofs.SettledWider.{reveals_wider}
use Rattle.embedded.specs.declared.code.Code.{Code}
use Rattle.embedded.specs.declared.engine.Engine.{Engine}
use Rattle.embedded.specs.Answers.{answer_to}
use Rattle.embedded.specs.Called.{Called}
use Rattle.embedded.specs.Engine.{StandsFor}
use Rattle.embedded.specs.Stops.{Leaves}
use Rattle.documents.specs.Pieces.{adding}
use Rattle.documents.specs.Stands.{AreAmong, HasDocument, IsFresh, IsPut, StillFor}
use Rattle.documents.specs.Stops.{IsNew, OldOrNew, ThereOrGone, WholeOrAbsent, without}
use Rattle.documents.proofs.AddingLemmas.{deleted_adding, fresh}
use Rattle.documents.proofs.CallLemmas.{refused}
use Rattle.documents.proofs.MachineLemmas.{machine_of}
use Rattle.documents.proofs.UnseenLemmas.{leaves_call, leaves_less, leaves_then}
use Rattle.documents.proofs.WholeLemmas.{refused_next}

-- Pages that were forced meanwhile.

module _ (m : Machine) (us : List FilePage) (h : IsMachine m) (among : AreAmong us m.unforced) where
  -- the machine with these unforced pages alone
  abbrev less_unforced : Machine
  less_unforced = record m { unforced = us }

  fewer_unforced : (g page : ℕ) → is_unforced us g page ≡ true → is_unforced m.unforced g page ≡ true
  fewer_unforced g page is = either (is_unforced m.unforced g page) refl
    where
      either : (b : Bool) → is_unforced m.unforced g page ≡ b → is_unforced m.unforced g page ≡ true
      either true e = e
      either false e = absurd (true≢false (sym is ∙ among (is_same_page (record { file = g; page = page })) e))

  pub still_reveals : (d : List Sector) → RevealsSettled d (record m { unforced = us }) → RevealsSettled d m
  still_reveals d r = reveals_wider m (record m { unforced = us }) h refl fewer_unforced d r

  -- the document is there, or gone
  gone_such : (id : ℕ) → HasDocument m id → (d : List Sector) (k : ℕ) → RevealsSettled d (stage (record m { unforced = us }) (call.Delete id) k) → ThereOrGone m id d
  gone_such id was d zero r = inl (still_reveals d r)
  gone_such id was d (suc k) r = either (refusal m (call.Delete id)) refl
    where
      either : (o : Option Refusal) → refusal m (call.Delete id) ≡ o → ThereOrGone m id d
      either None e =
          let less : IsMachine (without id m) = subst (λ (x : Machine). IsMachine x) (unrefused m (call.Delete id) e) (next_keeps_machine m (call.Delete id) tt h) in
          let is : next (record m { unforced = us }) (call.Delete id) ≡ without id (record m { unforced = us }) = unrefused (record m { unforced = us }) (call.Delete id) e in
          inr (was, reveals_wider (without id m) (without id (record m { unforced = us })) less refl fewer_unforced d (subst (λ (x : Machine). RevealsSettled d x) is r))
      either (Some word) e =
          inl (still_reveals d (subst (λ (x : Machine). RevealsSettled d x) (refused_next (record m { unforced = us }) (call.Delete id) word e) r))

  -- A new one beside it.

  new_wider : (name : List ℕ) (left : Option (List ℕ)) (f : File) → IsNew (record m { unforced = us }) name left f → IsNew m name left f
  new_wider name left f new = record {
    bytes = new.bytes;
    all = new.all;
    fits = new.fits;
    named = new.named;
    document = new.document;
    machine = with_unforced (adding f (record m { unforced = us })) m.unforced h.unforced_shown h.unforced_once new.machine;
  }

  pub whole_wider : (name : List ℕ) (left : Option (List ℕ)) (d : List Sector) → WholeOrAbsent (record m { unforced = us }) name left d → WholeOrAbsent m name left d
  whole_wider name left d (inl r) = inl (still_reveals d r)
  whole_wider name left d (inr (f, new, r)) =
      let more = new_wider name left f new in
      inr (f, more, reveals_wider (adding f m) (adding f (record m { unforced = us })) more.machine refl fewer_unforced d r)

  module _ (name : List ℕ) (left : Option (List ℕ)) (f : File) (new : IsNew (record m { unforced = us }) name left f) where
    -- the old one goes
    instead_such : (gone : ℕ) → HasDocument m gone → (d : List Sector) (k : ℕ) → RevealsSettled d (stage (adding f (record m { unforced = us })) (call.Delete gone) k) → OldOrNew m gone name left d
    instead_such gone was d zero r = inl (whole_wider name left d (inr (f, new, r)))
    instead_such gone was d (suc k) r = either (refusal (adding f m) (call.Delete gone)) refl
      where
        either : (o : Option Refusal) → refusal (adding f m) (call.Delete gone) ≡ o → OldOrNew m gone name left d
        either None e =
            let more = new_wider name left f new in
            let less : IsMachine (without gone (adding f m)) = subst (λ (x : Machine). IsMachine x) (unrefused (adding f m) (call.Delete gone) e) (next_keeps_machine (adding f m) (call.Delete gone) tt more.machine) in
            let is : next (adding f (record m { unforced = us })) (call.Delete gone) ≡ without gone (adding f (record m { unforced = us })) = unrefused (adding f (record m { unforced = us })) (call.Delete gone) e in
            inr (was, (f, more, reveals_wider (without gone (adding f m)) (without gone (adding f (record m { unforced = us }))) less refl fewer_unforced d (subst (λ (x : Machine). RevealsSettled d x) is r)))
        either (Some word) e =
            inl (whole_wider name left d (inr (f, new, subst (λ (x : Machine). RevealsSettled d x) (refused_next (adding f (record m { unforced = us })) (call.Delete gone) word e) r)))

    -- or the new one goes again
    back_such : (gone id : ℕ) → IsFresh (record m { unforced = us }) id → f.id ≡ id → (d : List Sector) (k : ℕ) → RevealsSettled d (stage (adding f (record m { unforced = us })) (call.Delete id) k)
        → OldOrNew m gone name left d
    back_such gone id is_fresh named d zero r = inl (whole_wider name left d (inr (f, new, r)))
    back_such gone id is_fresh named d (suc k) r =
        let back : RevealsSettled d (record m { unforced = us; counter = m.counter + 1 }) =
        subst (λ (x : Machine). RevealsSettled d x) (deleted_adding (record m { unforced = us }) f id is_fresh named) r in
        inl (inl (still_reveals d (record { agrees = back.agrees; right = back.right })))

module _ {D A : Type 0} {G : Ghosts D} where
  -- It is removed.

  pub removed_leaves : (m : Machine) (id : ℕ) (a b c : Engine D A G) (answer : Result Reply Code) → StandsFor a m → HasDocument m id × StillFor m b → Leaves (λ d. RevealsSettled d m) a b
      → Called (call.Delete id) b answer c → Leaves (ThereOrGone m id) a c
  removed_leaves m id a b c answer stands (was, st) looked called =
      leaves_then (ThereOrGone m id) a b c
      (leaves_less (λ d. RevealsSettled d m) (ThereOrGone m id) (λ d r. inl r) a b looked)
      (leaves_call (ThereOrGone m id) (record m { unforced = st.0 }) (call.Delete id) b c answer (gone_such m st.0 (machine_of a m stands) st.1 id was) called st.2)

  -- It is replaced.

  -- until the new one was put, or was not
  pub put_leaves : (m : Machine) (gone : ℕ) (name : List ℕ) (left : Option (List ℕ)) (us : List FilePage) (a b c : Engine D A G) → StandsFor a m → AreAmong us m.unforced
      → Leaves (λ d. RevealsSettled d m) a b → Leaves (WholeOrAbsent (record m { unforced = us }) name left) b c → Leaves (OldOrNew m gone name left) a c
  put_leaves m gone name left us a b c stands among looked put =
      leaves_then (OldOrNew m gone name left) a b c
      (leaves_less (λ d. RevealsSettled d m) (OldOrNew m gone name left) (λ d r. inl (inl r)) a b looked)
      (leaves_less (WholeOrAbsent (record m { unforced = us }) name left) (OldOrNew m gone name left) (λ d r. inl (whole_wider m us (machine_of a m stands) among name left d r)) b c put)

  -- the new one is the document
  new_put : (n : Machine) (id : ℕ) (name : List ℕ) (left : Option (List ℕ)) (e : Engine D A G) → (p : IsPut n id name left e) → IsNew n name left p.file
  new_put n id name left e p = record {
    bytes = p.bytes;
    all = p.all;
    fits = p.fits;
    named = p.named ∙ p.new;
    document = p.document;
    machine = machine_of e (adding p.file n) p.stands;
  }

  -- the old one goes
  pub instead_leaves : (m : Machine) (gone id : ℕ) (name : List ℕ) (left : Option (List ℕ)) (us : List FilePage) (a c e : Engine D A G) (answer : Result Reply Code) → StandsFor a m → AreAmong us m.unforced
      → HasDocument m gone → IsPut (record m { unforced = us }) id name left c → Leaves (OldOrNew m gone name left) a c → Called (call.Delete gone) c answer e → Leaves (OldOrNew m gone name left) a e
  instead_leaves m gone id name left us a c e answer stands among was p before called =
      leaves_then (OldOrNew m gone name left) a c e before
      (leaves_call (OldOrNew m gone name left) (adding p.file (record m { unforced = us })) (call.Delete gone) c e answer
      (instead_such m us (machine_of a m stands) among name left p.file (new_put (record m { unforced = us }) id name left c p) gone was) called p.stands)

  -- or the new one goes again
  pub back_leaves : (m : Machine) (gone id : ℕ) (name : List ℕ) (left : Option (List ℕ)) (us : List FilePage) (a o c e f : Engine D A G) (answer deleted : Result Reply Code) (error : Code) → StandsFor a m
      → AreAmong us m.unforced → StandsFor o (record m { unforced = us }) → IsPut (record m { unforced = us }) id name left c → Called (call.Delete gone) c answer e → answer ≡ Err error
      → Leaves (OldOrNew m gone name left) a e → Called (call.Delete id) e deleted f → Leaves (OldOrNew m gone name left) a f
  back_leaves m gone id name left us a o c e f answer deleted error stands among was p called is before undo =
      let n : Machine = record m { unforced = us } in
      let is_fresh = subst (λ (x : ℕ). IsFresh n x) (sym p.new) (fresh n (machine_of o n was)) in
      leaves_then (OldOrNew m gone name left) a e f before
      (elim (refused (call.Delete gone) c e answer error (adding p.file n) (λ r answers. (_, ap answer_to answers)) called p.stands is) [
        | inl bad ↦ inl (undo.closed (called.stopped halt.Disk (is ∙ ap (λ (x : Code). Err x) bad)).closed).1
        | inr r ↦
            leaves_call (OldOrNew m gone name left) (adding p.file n) (call.Delete id) e f deleted
            (back_such m us (machine_of a m stands) among name left p.file (new_put n id name left c p) gone id is_fresh p.named) undo r.0
      ])
