-- A halt that a call answered is handed on, and what it says of the disk with it.
use Rattle.std.proofs.Common.{◌≡◌, ◌∙◌, ◌⊎◌, ap, inl, inr, sym, Result, Err}
use Rattle.labelled_disk.specs.declared.disk.Disk.{Ghosts}
use Rattle.labelled_disk.specs.declared.evidence.Halt.{Halt}
use Rattle.embedded.specs.declared.code.Code.{Code}
use Rattle.embedded.specs.declared.code.Code.TheVariants as code
use Rattle.embedded.specs.declared.engine.Engine.{Engine}
use Rattle.embedded.specs.Called.{HasStopped}
use Rattle.documents.specs.declared.fault.Fault.{Fault}
use Rattle.documents.specs.declared.fault.Fault.TheVariants as fault

module _ {D A : Type 0} {G : Ghosts D} where
  -- a halt in this answer has ended the session
  abbrev pub Stops : {T : Type 0} → Result T Code → Engine D A G → Type 0
  Stops given e = (why : Halt) → given ≡ Err (code.Halted why) → HasStopped why e

  -- the code of a call is handed on
  pub stopped_code : {T : Type 0} (why : Halt) (given : Result T Code) (error : Code) (e : Engine D A G)
      → Stops given e → given ≡ Err error → error ≡ code.Halted why → HasStopped why e
  stopped_code why given error e stops is same = stops why (is ∙ ap (λ (x : Code). Err x) same)

  -- the fault of a call is handed on
  pub stopped_fault : {T : Type 0} (why : Halt) (given : Result T Fault) (error : Fault) (e : Engine D A G)
      → ((w : Halt) → given ≡ Err (fault.Call (code.Halted w)) → HasStopped w e) → given ≡ Err error
      → error ≡ fault.Call (code.Halted why) → HasStopped why e
  stopped_fault why given error e stops is same = stops why (is ∙ ap (λ (x : Fault). Err x) same)

  -- what was begun was taken back: the halt is that of the one, after which nothing changed, or of the other
  pub stopped_back : {T : Type 0} (why : Halt) (error handed : Code) (undone : Result T Code) (a b : Engine D A G)
      → (error ≡ code.Halted why → HasStopped why a) → (HasStopped why a → HasStopped why b) → Stops undone b
      → (handed ≡ error) ⊎ ((w : Halt) × (undone ≡ Err (code.Halted w)) × (handed ≡ code.Halted w))
      → handed ≡ code.Halted why → HasStopped why b
  stopped_back why error handed undone a b first keeps second which is = elim which [
    | inl same ↦ keeps (first (sym same ∙ is))
    | inr halted ↦ stopped_code why undone (code.Halted halted.0) b second halted.1 (sym halted.2 ∙ is)
  ]

  -- the same of faults
  pub stopped_undone : {T : Type 0} (why : Halt) (error handed : Fault) (undone : Result T Code) (a b : Engine D A G)
      → (error ≡ fault.Call (code.Halted why) → HasStopped why a) → (HasStopped why a → HasStopped why b)
      → Stops undone b
      → (handed ≡ error) ⊎ ((w : Halt) × (undone ≡ Err (code.Halted w)) × (handed ≡ fault.Call (code.Halted w)))
      → handed ≡ fault.Call (code.Halted why) → HasStopped why b
  stopped_undone why error handed undone a b first keeps second which is = elim which [
    | inl same ↦ keeps (first (sym same ∙ is))
    | inr halted ↦
        let same : code.Halted halted.0 ≡ code.Halted why = cc (halted.2, is) in
        stopped_code why undone (code.Halted halted.0) b second halted.1 same
  ]
