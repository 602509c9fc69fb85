-- How a call fails whose result is handed on as it is.
use Rattle.std.specs.Prelude.{◌≡◌, IfErr, Ok, Err}
use Rattle.std.proofs.Common.{Result, refl, ap}
use Rattle.std.proofs.lemmas.Result.{IfErr-at_err, IfErr-weaker}
use Rattle.labelled_disk.specs.declared.evidence.Halt.{Halt}
use Rattle.labelled_disk.specs.declared.evidence.Halt.TheVariants as halt
use Rattle.labelled_disk.specs.Calls.{Rose}
use Rattle.filer_kernel.specs.Evidence.{ShowsEvidence}
use Rattle.filer_kernel.specs.Fails.{Fails}
use Rattle.filer_kernel.specs.View.{View}

module _ {T : Type 0} (why : Halt → Type 0) (v w : View) where
  pub if_fails : (r : Result T Halt) → IfErr r why → (r ≡ Err halt.Disk → Rose v.disk.faults w.disk.faults) → IfErr r (ShowsEvidence w.disk) → IfErr r (Fails why v w)
  if_fails (Ok x) cause counted evidence = tt
  if_fails (Err e) cause counted evidence = record { cause = cause; counted = λ is. counted (ap Err is); evidence_seen = evidence }

  pub cause_in : (r : Result T Halt) → IfErr r (Fails why v w) → IfErr r why
  cause_in r h = IfErr-weaker r (Fails why v w) why (λ e f. f.cause) h

  pub counted_in : (r : Result T Halt) → IfErr r (Fails why v w) → r ≡ Err halt.Disk → Rose v.disk.faults w.disk.faults
  counted_in r h is = (IfErr-at_err (Fails why v w) is h).counted refl

  pub evidence_seen_in : (r : Result T Halt) → IfErr r (Fails why v w) → IfErr r (ShowsEvidence w.disk)
  evidence_seen_in r h = IfErr-weaker r (Fails why v w) (ShowsEvidence w.disk) (λ e f. f.evidence_seen) h
