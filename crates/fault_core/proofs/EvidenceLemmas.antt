-- What the evidence of a halt says is so on the disk as the call left it: where no label was written, the labels are those of before.
use Rattle.std.proofs.Common.{inl, inr, ℕ, Result, Ok, Err}
use Rattle.std.specs.Prelude.{[], IfErr}
use Rattle.labelled_disk.specs.declared.evidence.Evidence.{Evidence}
use Rattle.labelled_disk.specs.declared.evidence.Evidence.TheVariants.{Mismatch, Malformed, Missing}
use Rattle.labelled_disk.specs.declared.evidence.Halt.{Halt}
use Rattle.swapper_kernel.specs.Goes.{Makes, Pages}
use Rattle.filer_kernel.specs.Evidence.{IsEvident, MayBeMissing, ShowsEvidence}
use Rattle.filer_kernel.specs.EvidenceLaws.{Fits, held_or_file, other_so, so_of_cause}
use Rattle.fault_core.specs.Reach.{IsReachedHome, FindEvidence, ReachHalts, TouchHalts}
use Rattle.fault_core.specs.ReachLaws.{touch_of_reach}
use Rattle.filer_kernel.specs.View.{View}

-- the homes that are reached lie where the layout lets them be
reached_so : (breaks : ℕ → Type 0) (v : View) → Fits v.layout v.disk v.slots → (e : Evidence) → FindEvidence breaks MayBeMissing v e → IsEvident v.disk e
reached_so breaks v is_fit (Mismatch sector wanted found) is = other_so is_fit _ (held_or_file is_fit (IsReachedHome v) (λ home one. one.on_data)) sector wanted found is
reached_so breaks v is_fit (Malformed structure page) is = elim is [ inl map ↦ inl map.0 | inr tables ↦ inr tables.0 ]
reached_so breaks v is_fit (Missing id page) is = is.0

-- what the evidence of a halt says is so where the call left the labels
pub touch_so : {pages : Pages} (breaks : ℕ → Type 0) (v w : View) → Fits v.layout v.disk v.slots → Makes pages [] v.disk v.slots w.disk w.slots → (e : Halt) → TouchHalts breaks v w e → ShowsEvidence w.disk e
touch_so breaks v w is_fit makes e halts = so_of_cause (FindEvidence breaks MayBeMissing v) makes (reached_so breaks v is_fit) e halts

-- and where pages of the space tables alone are looked for
pub shows_evidence : {pages : Pages} (breaks : ℕ → Type 0) (v w : View) → Fits v.layout v.disk v.slots → Makes pages [] v.disk v.slots w.disk w.slots → (e : Halt) → ReachHalts breaks v w e → ShowsEvidence w.disk e
shows_evidence breaks v w is_fit makes e halts = touch_so breaks v w is_fit makes e (touch_of_reach breaks v w e halts)

pub if_so : {X : Type 0} {pages : Pages} (r : Result X Halt) (breaks : ℕ → Type 0) (v w : View) → Fits v.layout v.disk v.slots → Makes pages [] v.disk v.slots w.disk w.slots → IfErr r (ReachHalts breaks v w) → IfErr r (ShowsEvidence w.disk)
if_so (Ok answer) breaks v w is_fit makes halts = tt
if_so (Err e) breaks v w is_fit makes halts = shows_evidence breaks v w is_fit makes e halts
