-- A fault of the disk is blamed where one was counted.
use Rattle.std.proofs.Common.{◌≡◌, ◌∙◌, ◌⊎◌, ap, inl, inr, sym, Result, Err}
use Rattle.labelled_disk.specs.declared.disk.Disk.{Ghosts}
use Rattle.labelled_disk.specs.declared.evidence.Halt.{Halt}
use Rattle.labelled_disk.specs.declared.evidence.Halt.TheVariants as halt
use Rattle.embedded.specs.declared.code.Code.{Code}
use Rattle.embedded.specs.declared.code.Code.TheVariants as code
use Rattle.embedded.specs.declared.engine.Engine.{Engine}
use Rattle.embedded.specs.Engine.{disk_of}
use Rattle.embedded.specs.Spending.{HasFailed, IsLater}
use Rattle.embedded.proofs.SpendLemmas.{failed_before, failed_between, failed_since}
use Rattle.documents.specs.declared.fault.Fault.{Fault}
use Rattle.documents.specs.declared.fault.Fault.TheVariants as fault
use Rattle.documents.specs.Stands.{is_failure}

module _ {D A : Type 0} {G : Ghosts D} where
  -- where this answer blames the disk, it counted a fault
  abbrev pub Blames : {T : Type 0} → Result T Code → Engine D A G → Engine D A G → Type 0
  Blames given a b = given ≡ Err is_failure → HasFailed a b

  abbrev pub Blame : {T : Type 0} → Result T Fault → Engine D A G → Engine D A G → Type 0
  Blame given a b = given ≡ Err (fault.Call is_failure) → HasFailed a b

  abbrev pub Later : Engine D A G → Engine D A G → Type 0
  Later a b = IsLater (disk_of a) (disk_of b)

  -- the code of a call is handed on
  pub blamed_code : {T : Type 0} (given : Result T Code) (error : Code) (a b : Engine D A G) → Blames given a b → given ≡ Err error
      → error ≡ is_failure → HasFailed a b
  blamed_code given error a b blames is same = blames (is ∙ ap (λ (x : Code). Err x) same)

  pub blamed_since : {T : Type 0} (given : Result T Code) (error : Code) (a b c : Engine D A G) → Later a b → Blames given b c → given ≡ Err error
      → error ≡ is_failure → HasFailed a c
  blamed_since given error a b c later blames is same = failed_since a b c later (blamed_code given error b c blames is same)

  -- so is a fault
  pub blamed_fault : {T : Type 0} (given : Result T Fault) (error : Fault) (a b : Engine D A G) → Blame given a b → given ≡ Err error
      → error ≡ fault.Call is_failure → HasFailed a b
  blamed_fault given error a b blames is same = blames (is ∙ ap (λ (x : Fault). Err x) same)

  pub fault_since : {T : Type 0} (given : Result T Fault) (error : Fault) (a b c : Engine D A G) → Later a b → Blame given b c → given ≡ Err error
      → error ≡ fault.Call is_failure → HasFailed a c
  fault_since given error a b c later blames is same = failed_since a b c later (blamed_fault given error b c blames is same)

  -- what was begun was taken back: the disk is blamed by the one, or by the other
  pub blamed_back : {T : Type 0} (error handed : Code) (undone : Result T Code) (a c d : Engine D A G)
      → (error ≡ is_failure → HasFailed a c) → Later a c → Later c d → Blames undone c d
      → (handed ≡ error) ⊎ ((w : Halt) × (undone ≡ Err (code.Halted w)) × (handed ≡ code.Halted w))
      → handed ≡ is_failure → HasFailed a d
  blamed_back error handed undone a c d first before after second which is = elim which [
    | inl same ↦ failed_before a c d (first (sym same ∙ is)) after
    | inr halted ↦ failed_since a c d before (blamed_code undone (code.Halted halted.0) c d second halted.1 (sym halted.2 ∙ is))
  ]

  pub blamed_undone : {T : Type 0} (error handed : Fault) (undone : Result T Code) (a c d : Engine D A G)
      → (error ≡ fault.Call is_failure → HasFailed a c) → Later a c → Later c d → Blames undone c d
      → (handed ≡ error) ⊎ ((w : Halt) × (undone ≡ Err (code.Halted w)) × (handed ≡ fault.Call (code.Halted w)))
      → handed ≡ fault.Call is_failure → HasFailed a d
  blamed_undone error handed undone a c d first before after second which is = elim which [
    | inl same ↦ failed_before a c d (first (sym same ∙ is)) after
    | inr halted ↦ failed_since a c d before (blamed_code undone (code.Halted halted.0) c d second halted.1 (cc (sym halted.2 ∙ is)))
  ]

  -- bytes were moved through a window, which was taken away then
  pub blamed_end : {T U : Type 0} (moved : Result T Code) (handed : Result U Code) (a b c d : Engine D A G) → Later a b → Later b c → Later c d
      → Blames moved b c → (handed ≡ Err is_failure → (moved ≡ Err is_failure) ⊎ HasFailed c d) → Later a c → Blames handed a d
  blamed_end moved handed a b c d first second third blames which both is = elim (which is) [
    | inl bad ↦ failed_between a b c d first (blames bad) third
    | inr rose ↦ failed_since a c d both rose
  ]

  -- the answer of the end is the code that it was given, or the disk failed at it
  pub ended_by : {T : Type 0} (moved : Result T Code) (error handed : Code) (undone : Result T Code) (c d : Engine D A G) → Blames undone c d
      → moved ≡ Err error → (handed ≡ error) ⊎ ((w : Halt) × (undone ≡ Err (code.Halted w)) × (handed ≡ code.Halted w))
      → handed ≡ is_failure → (moved ≡ Err is_failure) ⊎ HasFailed c d
  ended_by moved error handed undone c d second was which is = elim which [
    | inl same ↦ inl (was ∙ ap (λ (x : Code). Err x) (sym same ∙ is))
    | inr halted ↦ inr (blamed_code undone (code.Halted halted.0) c d second halted.1 (sym halted.2 ∙ is))
  ]
