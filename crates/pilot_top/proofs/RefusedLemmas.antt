-- What else is so of a session that did not start.
use Rattle.std.proofs.Common.{◌≡◌, ◌≢◌, ◌⊎◌, inl, inr, ℕ, List, [], Option, sym, ◌∙◌, subst}
use Rattle.labelled_disk.specs.declared.layout.RootFault.TheVariants as fault
use Rattle.labelled_disk.specs.State.{DiskState}
use Rattle.pilot_engine.specs.declared.fault.StartFault.{StartFault}
use Rattle.pilot_engine.specs.declared.fault.StartFault.TheVariants as start_fault
use Rattle.pilot_engine.specs.Opening.{IsDiskFault, LeavesOpenAtStart}
use Rattle.pilot_top.specs.Headline.{EndsEarly, IsLeftOpen}
use Rattle.pilot_top.specs.Last.{last_line, Puts}
use Rattle.pilot_top.specs.Stopping.{StopsAs}
use Rattle.pilot_top.specs.declared.last.Cause.TheVariants as cause
use Rattle.pilot_top.specs.declared.status.Status.{Status}
use Rattle.pilot_top.specs.declared.status.Status.TheVariants as status
use Rattle.pilot_top.proofs.RunLemmas.{how, left_early}

module _ {K : Type 0} (f : StartFault) (s : Status) (old new : K) (took : K → Option (List ℕ)) (failed : Type 0) (stops : StopsAs f s old new (Puts failed (took old) (took new))) where
  -- a count of sectors that no volume has
  pub refused_count : (n : ℕ) → f ≡ start_fault.Root (fault.BadCount n) → (s ≡ status.NotOpened) × Puts failed (took old) (took new) (last_line (cause.Root (fault.BadCount n)))
  refused_count n is = subst (λ (x : StartFault). StopsAs x s old new (Puts failed (took old) (took new))) is stops

  -- a disk that failed
  pub refused_disk : s ≡ status.DiskFault → IsDiskFault f
  refused_disk is = elim (how f s old new (Puts failed (took old) (took new)) stops) [
    | inl refusal ↦ absurd (let e = sym refusal.3 ∙ is in cc e)
    | inr (inl disk) ↦ disk.0
    | inr (inr (inl memory)) ↦ absurd (let e = sym memory.1 ∙ is in cc e)
    | inr (inr (inr damage)) ↦ absurd (let e = sym damage.2 ∙ is in cc e)
  ]

  pub refused_disk_line : s ≡ status.DiskFault → Puts failed (took old) (took new) (last_line cause.DiskFault)
  refused_disk_line is = elim (how f s old new (Puts failed (took old) (took new)) stops) [
    | inl refusal ↦ absurd (let e = sym refusal.3 ∙ is in cc e)
    | inr (inl disk) ↦ disk.2
    | inr (inr (inl memory)) ↦ absurd (let e = sym memory.1 ∙ is in cc e)
    | inr (inr (inr damage)) ↦ absurd (let e = sym damage.2 ∙ is in cc e)
  ]

  -- it ends neither as a text that is too long, nor as words that mean no command, nor as an old volume that is too full
  pub never_so : s ≢ status.Long × s ≢ status.Usage × s ≢ status.Unfit
  never_so = elim (how f s old new (Puts failed (took old) (took new)) stops) [
    | inl refusal ↦ let e = refusal.3 in (λ is. cc (e, is), λ is. cc (e, is), λ is. cc (e, is))
    | inr (inl disk) ↦ let e = disk.1 in (λ is. cc (e, is), λ is. cc (e, is), λ is. cc (e, is))
    | inr (inr (inl memory)) ↦ let e = memory.1 in (λ is. cc (e, is), λ is. cc (e, is), λ is. cc (e, is))
    | inr (inr (inr damage)) ↦ let e = damage.2 in (λ is. cc (e, is), λ is. cc (e, is), λ is. cc (e, is))
  ]

  -- where the session ended early, the volume is left open
  pub left_at_start : (disk : DiskState) → LeavesOpenAtStart disk f → (s ≡ status.Long) ⊎ (s ≡ status.Damaged) → IsLeftOpen disk
  left_at_start disk left is = left_early f s old new took failed stops disk left [] (elim is [
    | inl long ↦ subst (λ (x : Status). EndsEarly x []) (sym long) tt
    | inr damaged ↦ subst (λ (x : Status). EndsEarly x []) (sym damaged) tt
  ])
