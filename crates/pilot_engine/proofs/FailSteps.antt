-- How a call fails by a call that it makes.
use Rattle.std.proofs.Common.{◌≡◌, ◌≤◌, Result, Ok, Err, sym, subst}
use Rattle.std.specs.Prelude.{IfErr}
use Rattle.labelled_disk.specs.declared.evidence.Halt.{Halt}
use Rattle.labelled_disk.specs.declared.evidence.Halt.TheVariants as halt
use Rattle.labelled_disk.specs.Calls.{Rose}
use Rattle.filer_kernel.specs.Evidence.{ShowsEvidence}
use Rattle.filer_kernel.specs.Fails.{Fails}
use Rattle.filer_kernel.specs.View.{View}
use Rattle.pilot_engine.proofs.WroteLemmas.{rose_after}

-- the cause is one of these as well
pub fails_wider : {P Q : Halt → Type 0} {v w : View} {e : Halt} → (P e → Q e) → Fails P v w e → Fails Q v w e
fails_wider wider f = record { cause = wider f.cause; counted = f.counted; evidence_seen = f.evidence_seen }

-- and other calls came before, which lost no fault
pub fails_after : {P Q : Halt → Type 0} {v u w : View} {e : Halt} → v.disk.faults ≤ u.disk.faults → (P e → Q e) → Fails P u w e → Fails Q v w e
fails_after less wider f = record { cause = wider f.cause; counted = λ is. rose_after _ _ _ less (f.counted is); evidence_seen = f.evidence_seen }

-- so it is of a result that is handed on
pub if_fails_after : {T : Type 0} (r : Result T Halt) (P Q : Halt → Type 0) (v u w : View) → v.disk.faults ≤ u.disk.faults → ((e : Halt) → P e → Q e) → IfErr r (Fails P u w) → IfErr r (Fails Q v w)
if_fails_after (Ok x) P Q v u w less wider fails = tt
if_fails_after (Err e) P Q v u w less wider fails = fails_after less (wider e) fails

-- the disk failed
pub fails_fault : {P : Halt → Type 0} {v w : View} {e : Halt} → e ≡ halt.Disk → Rose v.disk.faults w.disk.faults → P e → Fails P v w e
fails_fault {w = w} is rose cause = record { cause = cause; counted = λ same. rose; evidence_seen = subst (ShowsEvidence w.disk) (sym is) tt }
