-- A run whose session started, or did not.
use Rattle.std.proofs.Common.{◌≡◌, ◌≢◌, ◌⊎◌, inl, inr, ℕ, ◌<◌, true, List, [], ◌∷◌, length, Option, Some, refl, sym, ap, ◌∙◌, subst, arith, append-nil}
use Rattle.std.specs.List.{list_any}
use Rattle.labelled_disk.specs.declared.evidence.Evidence.{Evidence}
use Rattle.labelled_disk.specs.declared.evidence.Halt.TheVariants as halt
use Rattle.labelled_disk.specs.declared.layout.RootFault.{RootFault}
use Rattle.labelled_disk.specs.declared.layout.RootFault.TheVariants as fault
use Rattle.labelled_disk.specs.Permitted.{Permitted}
use Rattle.labelled_disk.specs.Sectors.{Sector}
use Rattle.labelled_disk.specs.State.{DiskState}
use Rattle.flat_machine.specs.After.{TraceLine}
use Rattle.flat_machine.specs.Machine.{Machine}
use Rattle.flat_machine.specs.Start.{start}
use Rattle.trace_io.specs.Reading.{is_last, reading}
use Rattle.volume_root.specs.Flag.{IsRefused}
use Rattle.pilot_engine.specs.declared.fault.StartFault.{StartFault}
use Rattle.pilot_engine.specs.declared.fault.StartFault.TheVariants as start_fault
use Rattle.pilot_engine.specs.Opening.{IsDiskFault, IsEarly, IsOutside, IsRightRefusal, IsSoAtStart, LeavesOpenAtStart}
use Rattle.pilot_engine.specs.Writing.{Written}
use Rattle.pilot_top.specs.Headline.{Answering, EndsEarly, HasWritten, IsLeftOpen, LeadsTo, Run, RevealsDamage}
use Rattle.pilot_top.specs.Last.{last_line, Puts}
use Rattle.pilot_top.specs.CrashStates.{CrashStates}
use Rattle.pilot_top.specs.LineWrites.{StartMay}
use Rattle.pilot_top.specs.Replied.{Replied}
use Rattle.pilot_top.specs.Stopping.{StopsAs}
use Rattle.pilot_top.specs.declared.last.Cause.TheVariants as cause
use Rattle.pilot_top.specs.declared.status.Status.{Status}
use Rattle.pilot_top.specs.declared.status.Status.TheVariants as status
use Rattle.pilot_top.proofs.AlongLemmas.{by_itself}
use Rattle.pilot_top.proofs.PlaceLemmas.{leads_before, leads_started, none_leads}
use Rattle.pilot_top.proofs.PutLemmas.{damage_alone, put_alone}
use Rattle.pilot_top.proofs.SuitLemmas.{none_first}

-- what a run answers that was opened
run_of : (s : Status) (d : List Sector) (b t : List ℕ) (left took : Option (List ℕ)) (failed : Type 0) (before disk : DiskState) → s ≢ status.NotOpened → s ≢ status.NoMemory
    → Answering s (start d) b left t took failed (LeadsTo (start d) (reading b) before disk) → Run s d b left t took failed before disk
run_of status.NotOpened d b t left took failed before disk opened memory is = is
run_of status.NoMemory d b t left took failed before disk opened memory is = absurd (memory refl)
run_of status.Done d b t left took failed before disk opened memory is = is
run_of status.DiskFault d b t left took failed before disk opened memory is = is
run_of status.Long d b t left took failed before disk opened memory is = is
run_of status.StreamFault d b t left took failed before disk opened memory is = is
run_of status.Usage d b t left took failed before disk opened memory is = is
run_of status.Damaged d b t left took failed before disk opened memory is = is
run_of status.Unfit d b t left took failed before disk opened memory is = is

-- another word for the place
pub answering_less : (s : Status) (m : Machine) (b : List ℕ) (left : Option (List ℕ)) (t : List ℕ) (took : Option (List ℕ)) (failed : Type 0) (has then : ℕ → ℕ → Type 0) → ((k i : ℕ) → has k i → then k i)
    → Answering s m b left t took failed has → Answering s m b left t took failed then
answering_less status.Done m b left t took failed has then less is = (is.0, is.1, is.2, is.3, less _ _ is.4)
answering_less status.DiskFault m b left t took failed has then less is = (is.0, is.1, is.2, is.3, is.4, is.5, less _ _ is.6)
answering_less status.Long m b left t took failed has then less is = (is.0, is.1, is.2, is.3, is.4, less _ _ is.5)
answering_less status.StreamFault m b left t took failed has then less (inl is) = inl (is.0, is.1, is.2, is.3, less _ _ is.4)
answering_less status.StreamFault m b left t took failed has then less (inr (inl is)) = inr (inl (is.0, is.1, is.2, less _ _ is.3))
answering_less status.StreamFault m b left t took failed has then less (inr (inr is)) = inr (inr (is.0, is.1, is.2, less _ _ is.3))
answering_less status.NotOpened m b left t took failed has then less is = absurd is
answering_less status.NoMemory m b left t took failed has then less is = absurd is
answering_less status.Usage m b left t took failed has then less is = absurd is
answering_less status.Damaged m b left t took failed has then less is = absurd is
answering_less status.Unfit m b left t took failed has then less is = absurd is

-- a start, and then a session
pub run_started : (s : Status) (d : List Sector) (b t : List ℕ) (left took : Option (List ℕ)) (failed : Type 0) (before mid disk : DiskState) → s ≢ status.NotOpened → s ≢ status.NoMemory
    → CrashStates (start d) [] before mid → Written (λ e w. Permitted e w × StartMay w) before mid → Answering s (start d) b left t took failed (LeadsTo (start d) (reading b) mid disk) → Run s d b left t took failed before disk
run_started s d b t left took failed before mid disk opened memory from wrote is =
    run_of s d b t left took failed before disk opened memory
    (answering_less s (start d) b left t took failed (LeadsTo (start d) (reading b) mid disk) (LeadsTo (start d) (reading b) before disk) (λ k i leads. leads_started (start d) (reading b) k i from wrote leads) is)

-- Why no session started, and the status.

abbrev pub IsRefusal : StartFault → Status → (List ℕ → Type 0) → Type 0
IsRefusal f s puts = (why : RootFault) × (f ≡ start_fault.Root why) × (why ≢ fault.Disk) × (s ≡ status.NotOpened) × puts (last_line (cause.Root why))

abbrev pub IsDiskStop : StartFault → Status → (List ℕ → Type 0) → Type 0
IsDiskStop f s puts = IsDiskFault f × (s ≡ status.DiskFault) × puts (last_line cause.DiskFault)

abbrev pub IsNoMemory : {K : Type 0} → StartFault → Status → K → K → Type 0
IsNoMemory f s old new = (f ≡ start_fault.NoMemory) × (s ≡ status.NoMemory) × (new ≡ old)

abbrev pub IsDamage : StartFault → Status → (List ℕ → Type 0) → Type 0
IsDamage f s puts = (e : Evidence) × (f ≡ start_fault.Halt (halt.Damaged e)) × (s ≡ status.Damaged) × puts (last_line (cause.Damaged e))

-- one of the four
pub how : {K : Type 0} (f : StartFault) (s : Status) (old new : K) (puts : List ℕ → Type 0) → StopsAs f s old new puts → IsRefusal f s puts ⊎ IsDiskStop f s puts ⊎ IsNoMemory f s old new ⊎ IsDamage f s puts
how (start_fault.Root fault.Disk) s old new puts is = inr (inl (refl, is.0, is.1))
how (start_fault.Root (fault.NotVolume what)) s old new puts is = inl (fault.NotVolume what, refl, λ e. absurd (cc e), is.0, is.1)
how (start_fault.Root fault.Unclean) s old new puts is = inl (fault.Unclean, refl, λ e. absurd (cc e), is.0, is.1)
how (start_fault.Root (fault.Version v)) s old new puts is = inl (fault.Version v, refl, λ e. absurd (cc e), is.0, is.1)
how (start_fault.Root (fault.BadCount n)) s old new puts is = inl (fault.BadCount n, refl, λ e. absurd (cc e), is.0, is.1)
how start_fault.NoMemory s old new puts is = inr (inr (inl (refl, is.0, is.1)))
how (start_fault.Halt halt.Disk) s old new puts is = inr (inl (refl, is.0, is.1))
how (start_fault.Halt (halt.Damaged e)) s old new puts is = inr (inr (inr (e, refl, is.0, is.1)))

some_line : (lines : List TraceLine) → list_any is_last lines ≡ true → 0 < length lines
some_line [] some = absurd (cc some)
some_line (line ∷ lines) some = omega arith

-- nothing was answered, and the disk failed
no_reply : (d : List Sector) (b t : List ℕ) (took : Option (List ℕ)) (failed : Type 0) (before disk : DiskState) → LeadsTo (start d) [] before disk 0 0 → HasWritten failed t took (last_line cause.DiskFault)
    → Answering status.DiskFault (start d) b (Some b) t took failed (LeadsTo (start d) (reading b) before disk)
no_reply d b t took failed before disk leads wrote = (
  0,
  [],
  record { replies = []; one_a_line = refl; allowed = tt; text_is = refl },
  some_line (reading b),
  subst (λ (u : List ℕ). HasWritten failed u took (last_line cause.DiskFault)) (sym (append-nil t)) wrote,
  0,
  leads_before (start d) [] (reading b) 0 0 (by_itself 0 0) leads,
)

-- the root is read before the first write
pub is_early : (f : StartFault) (why : RootFault) → (f ≡ start_fault.Root why) ⊎ (f ≡ start_fault.Root fault.Disk) → IsEarly f
is_early f why (inl is) = rw is tt
is_early f why (inr is) = rw is tt

-- A session that did not start.
module _ {K : Type 0} (f : StartFault) (s : Status) (old new : K) (took : K → Option (List ℕ)) (failed : Type 0) (stops : StopsAs f s old new (Puts failed (took old) (took new))) where
  -- nothing was written where the volume was refused, or memory was not found
  pub refused_early : s ≡ status.NotOpened → IsEarly f
  refused_early is = elim (how f s old new (Puts failed (took old) (took new)) stops) [
    | inl refusal ↦ subst IsEarly (sym refusal.1) tt
    | inr (inl disk) ↦ absurd (let e = sym disk.1 ∙ is in cc e)
    | inr (inr (inl memory)) ↦ absurd (let e = sym memory.1 ∙ is in cc e)
    | inr (inr (inr damage)) ↦ absurd (let e = sym damage.2 ∙ is in cc e)
  ]

  pub memory_early : s ≡ status.NoMemory → IsEarly f × (new ≡ old)
  memory_early is = elim (how f s old new (Puts failed (took old) (took new)) stops) [
    | inl refusal ↦ absurd (let e = sym refusal.3 ∙ is in cc e)
    | inr (inl disk) ↦ absurd (let e = sym disk.1 ∙ is in cc e)
    | inr (inr (inl memory)) ↦ (subst IsEarly (sym memory.0) tt, memory.2)
    | inr (inr (inr damage)) ↦ absurd (let e = sym damage.2 ∙ is in cc e)
  ]

  -- a sound volume can't be refused, and is not damaged
  pub not_sound : IsOutside f → s ≢ status.NotOpened × s ≢ status.Damaged
  not_sound outside = elim (how f s old new (Puts failed (took old) (took new)) stops) [
    | inl refusal ↦ absurd (refusal.2 (subst IsOutside refusal.1 outside))
    | inr (inl disk) ↦ (λ is. let e = sym disk.1 ∙ is in absurd (cc e), λ is. let e = sym disk.1 ∙ is in absurd (cc e))
    | inr (inr (inl memory)) ↦ (λ is. let e = sym memory.1 ∙ is in absurd (cc e), λ is. let e = sym memory.1 ∙ is in absurd (cc e))
    | inr (inr (inr damage)) ↦ absurd (let e : halt.Damaged damage.0 ≡ halt.Disk = subst IsOutside damage.1 outside in cc e)
  ]

  -- neither is a trace answered
  pub not_done : s ≢ status.Done × s ≢ status.StreamFault
  not_done = elim (how f s old new (Puts failed (took old) (took new)) stops) [
    | inl refusal ↦ (λ is. let e = sym refusal.3 ∙ is in absurd (cc e), λ is. let e = sym refusal.3 ∙ is in absurd (cc e))
    | inr (inl disk) ↦ (λ is. let e = sym disk.1 ∙ is in absurd (cc e), λ is. let e = sym disk.1 ∙ is in absurd (cc e))
    | inr (inr (inl memory)) ↦ (λ is. let e = sym memory.1 ∙ is in absurd (cc e), λ is. let e = sym memory.1 ∙ is in absurd (cc e))
    | inr (inr (inr damage)) ↦ (λ is. let e = sym damage.2 ∙ is in absurd (cc e), λ is. let e = sym damage.2 ∙ is in absurd (cc e))
  ]

  pub left_early : (disk : DiskState) → LeavesOpenAtStart disk f → (lines : List TraceLine) → EndsEarly s lines → IsLeftOpen disk
  left_early disk left lines early = elim (how f s old new (Puts failed (took old) (took new)) stops) [
    | inl refusal ↦ absurd (subst (λ (x : Status). EndsEarly x lines) refusal.3 early)
    | inr (inl fault) ↦ absurd (subst (λ (x : Status). EndsEarly x lines) fault.1 early)
    | inr (inr (inl memory)) ↦ absurd (subst (λ (x : Status). EndsEarly x lines) memory.1 early)
    | inr (inr (inr damage)) ↦ subst (LeavesOpenAtStart disk) damage.1 left
  ]

  pub run_refused : (d : List Sector) (b t : List ℕ) (left : Option (List ℕ)) (before after : DiskState) → CrashStates (start d) [] before after → IsOutside f → left ≡ Some b → took old ≡ Some t
      → Run s d b left t (took new) failed before after
  run_refused d b t left before after crash_states outside source sink = elim (how f s old new (Puts failed (took old) (took new)) stops) [
    | inl refusal ↦ absurd (refusal.2 (subst IsOutside refusal.1 outside))
    | inr (inl disk) ↦
        subst (λ (x : Status). Run x d b left t (took new) failed before after) (sym disk.1)
        (subst (λ (l : Option (List ℕ)). Run status.DiskFault d b l t (took new) failed before after) (sym source)
        (no_reply d b t (took new) failed before after (none_leads (start d) crash_states) (put_alone failed t (took old) (took new) (last_line cause.DiskFault) sink disk.2)))
    | inr (inr (inl memory)) ↦
        subst (λ (x : Status). Run x d b left t (took new) failed before after) (sym memory.1) (source, ap took memory.2 ∙ sink)
    | inr (inr (inr damage)) ↦ absurd (let e : halt.Damaged damage.0 ≡ halt.Disk = subst IsOutside damage.1 outside in cc e)
  ]

  -- what is reported of damage before any line, and its reason
  pub damage_first : (disk : DiskState) (reasoned : Evidence → Type 0) → IsSoAtStart disk f → ((e : Evidence) → f ≡ start_fault.Halt (halt.Damaged e) → reasoned e) → LeavesOpenAtStart disk f → (t : List ℕ) → took old ≡ Some t → s ≡ status.Damaged
      → (revealed : RevealsDamage t (took new) failed disk) × reasoned revealed.evidence
  damage_first disk reasoned evidence_seen reason left t sink is = elim (how f s old new (Puts failed (took old) (took new)) stops) [
    | inl refusal ↦ absurd (let e = sym refusal.3 ∙ is in cc e)
    | inr (inl fault) ↦ absurd (let e = sym fault.1 ∙ is in cc e)
    | inr (inr (inl memory)) ↦ absurd (let e = sym memory.1 ∙ is in cc e)
    | inr (inr (inr damage)) ↦ (
      damage_alone failed t (took old) (took new) damage.0 disk (subst (IsSoAtStart disk) damage.1 evidence_seen) (subst (LeavesOpenAtStart disk) damage.1 left) sink damage.3,
      reason damage.0 damage.1,
    )
  ]

  -- nothing was taken, and no line has a reply
  pub replied_refused : (b t : List ℕ) (left : Option (List ℕ)) (disk : DiskState) (reasoned : Evidence → Type 0) → IsSoAtStart disk f → ((e : Evidence) → f ≡ start_fault.Halt (halt.Damaged e) → reasoned e) → LeavesOpenAtStart disk f
      → left ≡ Some b → took old ≡ Some t → Replied s b left t (took new) failed disk reasoned
  replied_refused b t left disk reasoned evidence_seen reason open_still source sink = elim (how f s old new (Puts failed (took old) (took new)) stops) [
    | inl refusal ↦
        subst (λ (x : Status). Replied x b left t (took new) failed disk reasoned) (sym refusal.3)
        (source, refusal.0, put_alone failed t (took old) (took new) (last_line (cause.Root refusal.0)) sink refusal.4)
    | inr (inl fault) ↦
        subst (λ (x : Status). Replied x b left t (took new) failed disk reasoned) (sym fault.1) (
          [],
          none_first (reading b),
          subst (λ (u : List ℕ). HasWritten failed u (took new) (last_line cause.DiskFault)) (sym (append-nil t)) (put_alone failed t (took old) (took new) (last_line cause.DiskFault) sink fault.2),
        )
    | inr (inr (inl memory)) ↦ subst (λ (x : Status). Replied x b left t (took new) failed disk reasoned) (sym memory.1) (source, ap took memory.2 ∙ sink)
    | inr (inr (inr damage)) ↦
        subst (λ (x : Status). Replied x b left t (took new) failed disk reasoned) (sym damage.2) (
          damage_alone failed t (took old) (took new) damage.0 disk (subst (IsSoAtStart disk) damage.1 evidence_seen) (subst (LeavesOpenAtStart disk) damage.1 open_still) sink damage.3,
          none_first (reading b),
          reason damage.0 damage.1,
        )
  ]

  -- a volume that was refused, and why
  pub refused_why : (d : List Sector) → IsRightRefusal d f → s ≡ status.NotOpened → (why : RootFault) × IsRefused d why × Puts failed (took old) (took new) (last_line (cause.Root why))
  refused_why d judged is = elim (how f s old new (Puts failed (took old) (took new)) stops) [
    | inl refusal ↦ elim (subst (IsRightRefusal d) refusal.1 judged) [
      | inl disk ↦ absurd (refusal.2 disk)
      | inr refused ↦ (refusal.0, refused, refusal.4)
    ]
    | inr (inl disk) ↦ absurd (let e = sym disk.1 ∙ is in cc e)
    | inr (inr (inl memory)) ↦ absurd (let e = sym memory.1 ∙ is in cc e)
    | inr (inr (inr damage)) ↦ absurd (let e = sym damage.2 ∙ is in cc e)
  ]

  pub refused_line : s ≡ status.NotOpened → (why : RootFault) × Puts failed (took old) (took new) (last_line (cause.Root why))
  refused_line is = elim (how f s old new (Puts failed (took old) (took new)) stops) [
    | inl refusal ↦ (refusal.0, refusal.4)
    | inr (inl disk) ↦ absurd (let e = sym disk.1 ∙ is in cc e)
    | inr (inr (inl memory)) ↦ absurd (let e = sym memory.1 ∙ is in cc e)
    | inr (inr (inr damage)) ↦ absurd (let e = sym damage.2 ∙ is in cc e)
  ]

  pub refused_ends : (why : RootFault) → (f ≡ start_fault.Root why) ⊎ (f ≡ start_fault.Root fault.Disk) → (s ≡ status.NotOpened) ⊎ (s ≡ status.DiskFault)
  refused_ends why is = elim (how f s old new (Puts failed (took old) (took new)) stops) [
    | inl refusal ↦ inl refusal.3
    | inr (inl disk) ↦ inr disk.1
    | inr (inr (inl memory)) ↦ elim is [
      | inl root ↦ absurd (let e = sym memory.0 ∙ root in cc e)
      | inr root ↦ absurd (let e = sym memory.0 ∙ root in cc e)
    ]
    | inr (inr (inr damage)) ↦ elim is [
      | inl root ↦ absurd (let e = sym damage.1 ∙ root in cc e)
      | inr root ↦ absurd (let e = sym damage.1 ∙ root in cc e)
    ]
  ]
