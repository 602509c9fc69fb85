-- How the lines of a `replicate` end, and its status and last line.
use Rattle.std.proofs.Common.{◌≡◌, ◌≢◌, ◌⊎◌, ◌≤◌, inl, inr, ℕ, List, [], Option, Some, None, refl, sym, ap, ◌∙◌, subst, slice_get, arith}
use Rattle.std.proofs.lemmas.Option.{none-some}
use Rattle.labelled_disk.proofs.CallLemmas.{only_reads_itself, only_reads_then, rose_earlier}
use Rattle.labelled_disk.proofs.WriteRunLemmas.{appended_none}
use Rattle.labelled_disk.specs.declared.disk.DiskWrite.{DiskWrite}
use Rattle.labelled_disk.specs.declared.evidence.Halt.{Halt}
use Rattle.labelled_disk.specs.declared.evidence.Halt.TheVariants as halt
use Rattle.labelled_disk.specs.declared.layout.RootFault.{RootFault}
use Rattle.labelled_disk.specs.declared.layout.RootFault.TheVariants as fault
use Rattle.labelled_disk.specs.Calls.{OnlyReads, Rose}
use Rattle.labelled_disk.specs.Sectors.{Sector}
use Rattle.labelled_disk.specs.State.{DiskState}
use Rattle.swapper_kernel.specs.Goes.{Went}
use Rattle.trace_io.specs.PairReading.{pair_reading}
use Rattle.swapper_kernel.specs.GoesLaws.{same_syncs, went_then}
use Rattle.volume_root.specs.Sound.{Sound}
use Rattle.volume_pair.specs.Ends.{IsEarly, IsOutside}
use Rattle.volume_pair.specs.Kept.{IsOnlyRead}
use Rattle.volume_pair.specs.Pairs.{IsFaultOfDisk}
use Rattle.volume_pair.specs.declared.fault.PairHalt.TheVariants as on
use Rattle.volume_pair.specs.declared.fault.PairStart.{PairStart}
use Rattle.volume_pair.specs.declared.fault.PairStart.TheVariants as unstarted
use Rattle.pair_session.specs.Causes.{IfHalted, IfNotStarted, IsPermitted, IsShortText, IsShown, WroteSecond}
use Rattle.pair_session.specs.declared.outcome.Outcome.{Outcome}
use Rattle.pair_session.specs.declared.outcome.Outcome.TheVariants as outcome
use Rattle.pilot_top.specs.Last.{last_line, Puts}
use Rattle.pilot_top.specs.Replicating.{HasReasonOfTwo, IsRefusal, PutsCause, RanLines, Replicated, cause_after, status_after}
use Rattle.pilot_top.specs.World.{World, Gives, DiskFailed, SinkFailed, SourceFailed, WritesLast}
use Rattle.pilot_top.specs.declared.last.Cause.{Cause}
use Rattle.pilot_top.specs.declared.last.Cause.TheVariants as cause
use Rattle.pilot_top.specs.declared.last.OtherCause.TheVariants as other
use Rattle.pilot_top.specs.declared.status.Status.TheVariants as status
use Rattle.pilot_top.proofs.ReplicatedStates.{keeps_before, keeps_read, none_replied, none_taken}

-- ---- Reads before the lines.

went_read : {a b : DiskState} → OnlyReads a b → Went a b
went_read {a = a} {b = b} h = record { sectors = h.sectors; lent = h.lent; syncs = same_syncs a b h.syncs; faults = h.faults; transfers = h.transfers }

pub only_read : {a b : DiskState} → OnlyReads a b → IsOnlyRead a b
only_read h = record { went = went_read h; same = record { contents = h.contents; writes = h.writes } }

pub read_before : {a b c : DiskState} → OnlyReads a b → IsOnlyRead b c → IsOnlyRead a c
read_before h k = record { went = went_then (went_read h) k.went; same = record { contents = k.same.contents ∙ h.contents; writes = k.same.writes ∙ h.writes } }

never : {A : Type 0} (k : ℕ) (w : DiskWrite) → slice_get [] k ≡ Some w → A
never k w has = absurd (none-some w has)

pub none_permitted : {a b : DiskState} → OnlyReads a b → IsPermitted a b
none_permitted h = record {
  went = went_read h;
  writes = [];
  appended = appended_none (record { contents = h.contents; writes = h.writes });
  form = λ k w has. never k w has;
  permitted = λ d k w revealed has. never k w has;
}

permitted_before : {a b c : DiskState} → OnlyReads a b → IsPermitted b c → IsPermitted a c
permitted_before h k = record {
  went = went_then (went_read h) k.went;
  writes = k.writes;
  appended = record { contents = rw (sym h.contents) k.appended.contents; revealed = rw (sym h.writes) k.appended.revealed };
  form = k.form;
  permitted = λ d i w revealed has. k.permitted d i w (h.contents ∙ revealed) has;
}

early_before : (how : Outcome) (a b c : DiskState) → OnlyReads a b → IfNotStarted how (λ why. IsEarly why → OnlyReads b c) → IfNotStarted how (λ why. IsEarly why → OnlyReads a c)
early_before (outcome.NotStarted why) a b c h k = λ early. only_reads_then h (k early)
early_before outcome.Done a b c h k = tt
early_before (outcome.Halted why) a b c h k = tt
early_before outcome.Long a b c h k = tt
early_before outcome.ReadFault a b c h k = tt
early_before outcome.SinkFault a b c h k = tt

-- what holds where no pair started gives something else
pub map_unstarted : {P Q : Type 0} (how : Outcome) → (P → Q) → IfNotStarted how (λ why. P) → IfNotStarted how (λ why. Q)
map_unstarted (outcome.NotStarted why) f holds = f holds
map_unstarted outcome.Done f holds = tt
map_unstarted (outcome.Halted why) f holds = tt
map_unstarted outcome.Long f holds = tt
map_unstarted outcome.ReadFault f holds = tt
map_unstarted outcome.SinkFault f holds = tt

pub wrote_before : (how : Outcome) (a b c : DiskState) → OnlyReads a b → WroteSecond how b c → WroteSecond how a c
wrote_before how a b c h k = record { permitted = permitted_before h k.permitted; keeps = map_unstarted how (keeps_before h) k.keeps; early = early_before how a b c h k.early }

-- faults that rose later rose
pub shown_before : (how : Outcome) (from to mid mid_to new new_to : DiskState) → from.faults ≤ mid.faults → to.faults ≤ mid_to.faults → IsShown how mid mid_to new new_to → IsShown how from to new new_to
shown_before (outcome.NotStarted (unstarted.From w)) from to mid mid_to new new_to le ge shown = record { started = λ is. rose_earlier from.faults mid.faults new.faults le (shown.started is); halted = tt }
shown_before (outcome.NotStarted (unstarted.To w)) from to mid mid_to new new_to le ge shown = record { started = λ is. rose_earlier to.faults mid_to.faults new_to.faults ge (shown.started is); halted = tt }
shown_before (outcome.NotStarted unstarted.NoMemory) from to mid mid_to new new_to le ge shown = record { started = tt; halted = tt }
shown_before (outcome.NotStarted (unstarted.Halt h)) from to mid mid_to new new_to le ge shown =
    record { started = (λ is. rose_earlier to.faults mid_to.faults new_to.faults ge (shown.started.0 is), shown.started.1); halted = tt }
shown_before (outcome.Halted (on.From h)) from to mid mid_to new new_to le ge shown =
    record { started = tt; halted = (λ is. rose_earlier from.faults mid.faults new.faults le (shown.halted.0 is), shown.halted.1) }
shown_before (outcome.Halted (on.To h)) from to mid mid_to new new_to le ge shown =
    record { started = tt; halted = (λ is. rose_earlier to.faults mid_to.faults new_to.faults ge (shown.halted.0 is), shown.halted.1) }
shown_before outcome.Done from to mid mid_to new new_to le ge shown = record { started = tt; halted = tt }
shown_before outcome.Long from to mid mid_to new new_to le ge shown = record { started = tt; halted = tt }
shown_before outcome.ReadFault from to mid mid_to new new_to le ge shown = record { started = tt; halted = tt }
shown_before outcome.SinkFault from to mid mid_to new new_to le ge shown = record { started = tt; halted = tt }

-- a count that rose before a later one
pub rose_on : (a b c : ℕ) → Rose a b → b ≤ c → Rose a c
rose_on a b c rose le = omega (arith, rose, le)

-- ---- No memory for the words.

module _ (w : World) (second : DiskState) where
  nothing_ran : RanLines (outcome.NotStarted unstarted.NoMemory) w w second second
  nothing_ran = record {
    replies = λ d e b t revealed there sound sound_too source sink. (source, sink, none_replied d e (pair_reading b) unstarted.NoMemory second second (only_reads_itself second) there sound_too tt);
    texts = λ b t source sink. (source, sink, none_taken unstarted.NoMemory (pair_reading b) second second (only_reads_itself second));
    from = only_read (only_reads_itself w.disk);
    to = record { permitted = none_permitted (only_reads_itself second); keeps = keeps_read (only_reads_itself second); early = λ early. only_reads_itself second };
    judged = λ d e revealed there. record { none_starts = λ why refused. tt; refused = tt; starts = λ sound sound_too. tt; goes_on = λ sound sound_too. tt };
    shown = record { started = tt; halted = tt };
    refuses = record {
      first = λ d why revealed refused. inl (inr refl);
      second = λ e why revealed refused. inl (inr refl);
      first_count = λ none. inr refl;
      second_count = λ none. inl (inr refl);
    };
    reason = record {
      short = λ b source is. absurd (cc is);
      long = λ b source is. absurd (cc is);
      source = λ is. absurd (cc is);
      sink = λ is. absurd (cc is);
      source_later = omega arith;
      sink_later = omega arith;
    };
  }

  pub replicated_nothing : Replicated status.NoMemory w w second second
  replicated_nothing = record {
    how = outcome.NotStarted unstarted.NoMemory;
    heard = w.took;
    faults_then = w.sink_faults;
    later = omega arith;
    lines = nothing_ran;
    status_is = refl;
    last = refl;
    complete = λ d e b revealed there sound sound_too source short held held_too source_held sink_held. inr refl;
    cause = record {
      disk = λ is. absurd (cc is);
      stream = λ is. absurd (cc is);
      not_opened = λ is. absurd (cc is);
      count = λ none. inl refl;
      long = λ b source is. absurd (cc is);
      memory = λ is. only_reads_itself second;
      no_other = (λ is. cc is, λ is. cc is);
    };
  }

-- ---- The causes of each status.

module _ (from to new_from new_to : DiskState) where
  -- one of both disks failed
  pub disk_failed : (how : Outcome) → IsShown how from to new_from new_to → status_after how ≡ status.DiskFault → Rose from.faults new_from.faults ⊎ Rose to.faults new_to.faults
  disk_failed (outcome.NotStarted (unstarted.From fault.Disk)) shown is = inl (shown.started refl)
  disk_failed (outcome.NotStarted (unstarted.From (fault.NotVolume what))) shown is = absurd (cc is)
  disk_failed (outcome.NotStarted (unstarted.From fault.Unclean)) shown is = absurd (cc is)
  disk_failed (outcome.NotStarted (unstarted.From (fault.Version v))) shown is = absurd (cc is)
  disk_failed (outcome.NotStarted (unstarted.From (fault.BadCount n))) shown is = absurd (cc is)
  disk_failed (outcome.NotStarted (unstarted.To fault.Disk)) shown is = inr (shown.started refl)
  disk_failed (outcome.NotStarted (unstarted.To (fault.NotVolume what))) shown is = absurd (cc is)
  disk_failed (outcome.NotStarted (unstarted.To fault.Unclean)) shown is = absurd (cc is)
  disk_failed (outcome.NotStarted (unstarted.To (fault.Version v))) shown is = absurd (cc is)
  disk_failed (outcome.NotStarted (unstarted.To (fault.BadCount n))) shown is = absurd (cc is)
  disk_failed (outcome.NotStarted unstarted.NoMemory) shown is = absurd (cc is)
  disk_failed (outcome.NotStarted (unstarted.Halt halt.Disk)) shown is = inr (shown.started.0 refl)
  disk_failed (outcome.NotStarted (unstarted.Halt (halt.Damaged evidence))) shown is = absurd (cc is)
  disk_failed (outcome.Halted (on.From halt.Disk)) shown is = inl (shown.halted.0 refl)
  disk_failed (outcome.Halted (on.From (halt.Damaged evidence))) shown is = absurd (cc is)
  disk_failed (outcome.Halted (on.To halt.Disk)) shown is = inr (shown.halted.0 refl)
  disk_failed (outcome.Halted (on.To (halt.Damaged evidence))) shown is = absurd (cc is)
  disk_failed outcome.Done shown is = absurd (cc is)
  disk_failed outcome.Long shown is = absurd (cc is)
  disk_failed outcome.ReadFault shown is = absurd (cc is)
  disk_failed outcome.SinkFault shown is = absurd (cc is)

-- no pair started, since one of both volumes was refused, and the last line says why
abbrev Unopened : Type 0 → Option (List ℕ) → Option (List ℕ) → Outcome → Type 0
Unopened failed old new how =
    (why : PairStart) × (how ≡ outcome.NotStarted why) × IsEarly why × (root : RootFault) × (Puts failed old new (last_line (cause.Root root)) ⊎ Puts failed old new (last_line (cause.Other (other.Root root))))

module _ (failed : Type 0) (old new : Option (List ℕ)) where
  -- one of both volumes was refused, and the last line says why
  pub not_opened : (how : Outcome) → PutsCause failed old new (cause_after how) → status_after how ≡ status.NotOpened → Unopened failed old new how
  not_opened (outcome.NotStarted (unstarted.From fault.Disk)) put is = absurd (cc is)
  not_opened (outcome.NotStarted (unstarted.From (fault.NotVolume what))) put is = (unstarted.From (fault.NotVolume what), refl, tt, fault.NotVolume what, inl put)
  not_opened (outcome.NotStarted (unstarted.From fault.Unclean)) put is = (unstarted.From fault.Unclean, refl, tt, fault.Unclean, inl put)
  not_opened (outcome.NotStarted (unstarted.From (fault.Version v))) put is = (unstarted.From (fault.Version v), refl, tt, fault.Version v, inl put)
  not_opened (outcome.NotStarted (unstarted.From (fault.BadCount n))) put is = (unstarted.From (fault.BadCount n), refl, tt, fault.BadCount n, inl put)
  not_opened (outcome.NotStarted (unstarted.To fault.Disk)) put is = absurd (cc is)
  not_opened (outcome.NotStarted (unstarted.To (fault.NotVolume what))) put is = (unstarted.To (fault.NotVolume what), refl, tt, fault.NotVolume what, inr put)
  not_opened (outcome.NotStarted (unstarted.To fault.Unclean)) put is = (unstarted.To fault.Unclean, refl, tt, fault.Unclean, inr put)
  not_opened (outcome.NotStarted (unstarted.To (fault.Version v))) put is = (unstarted.To (fault.Version v), refl, tt, fault.Version v, inr put)
  not_opened (outcome.NotStarted (unstarted.To (fault.BadCount n))) put is = (unstarted.To (fault.BadCount n), refl, tt, fault.BadCount n, inr put)
  not_opened (outcome.NotStarted unstarted.NoMemory) put is = absurd (cc is)
  not_opened (outcome.NotStarted (unstarted.Halt halt.Disk)) put is = absurd (cc is)
  not_opened (outcome.NotStarted (unstarted.Halt (halt.Damaged evidence))) put is = absurd (cc is)
  not_opened (outcome.Halted (on.From halt.Disk)) put is = absurd (cc is)
  not_opened (outcome.Halted (on.From (halt.Damaged evidence))) put is = absurd (cc is)
  not_opened (outcome.Halted (on.To halt.Disk)) put is = absurd (cc is)
  not_opened (outcome.Halted (on.To (halt.Damaged evidence))) put is = absurd (cc is)
  not_opened outcome.Done put is = absurd (cc is)
  not_opened outcome.Long put is = absurd (cc is)
  not_opened outcome.ReadFault put is = absurd (cc is)
  not_opened outcome.SinkFault put is = absurd (cc is)

-- which ends have the other statuses
pub ends_so : (how : Outcome)
    → (status_after how ≡ status.NoMemory → how ≡ outcome.NotStarted unstarted.NoMemory)
    × (status_after how ≡ status.Long → how ≡ outcome.Long)
    × (status_after how ≡ status.StreamFault → (how ≡ outcome.ReadFault) ⊎ (how ≡ outcome.SinkFault))
    × (status_after how ≢ status.Usage) × (status_after how ≢ status.Unfit)
ends_so outcome.Done = (λ is. absurd (cc is), λ is. absurd (cc is), λ is. absurd (cc is), λ is. cc is, λ is. cc is)
ends_so outcome.Long = (λ is. absurd (cc is), λ is. refl, λ is. absurd (cc is), λ is. cc is, λ is. cc is)
ends_so outcome.ReadFault = (λ is. absurd (cc is), λ is. absurd (cc is), λ is. inl refl, λ is. cc is, λ is. cc is)
ends_so outcome.SinkFault = (λ is. absurd (cc is), λ is. absurd (cc is), λ is. inr refl, λ is. cc is, λ is. cc is)
ends_so (outcome.Halted (on.From halt.Disk)) = (λ is. absurd (cc is), λ is. absurd (cc is), λ is. absurd (cc is), λ is. cc is, λ is. cc is)
ends_so (outcome.Halted (on.From (halt.Damaged evidence))) = (λ is. absurd (cc is), λ is. absurd (cc is), λ is. absurd (cc is), λ is. cc is, λ is. cc is)
ends_so (outcome.Halted (on.To halt.Disk)) = (λ is. absurd (cc is), λ is. absurd (cc is), λ is. absurd (cc is), λ is. cc is, λ is. cc is)
ends_so (outcome.Halted (on.To (halt.Damaged evidence))) = (λ is. absurd (cc is), λ is. absurd (cc is), λ is. absurd (cc is), λ is. cc is, λ is. cc is)
ends_so (outcome.NotStarted unstarted.NoMemory) = (λ is. refl, λ is. absurd (cc is), λ is. absurd (cc is), λ is. cc is, λ is. cc is)
ends_so (outcome.NotStarted (unstarted.Halt halt.Disk)) = (λ is. absurd (cc is), λ is. absurd (cc is), λ is. absurd (cc is), λ is. cc is, λ is. cc is)
ends_so (outcome.NotStarted (unstarted.Halt (halt.Damaged evidence))) = (λ is. absurd (cc is), λ is. absurd (cc is), λ is. absurd (cc is), λ is. cc is, λ is. cc is)
ends_so (outcome.NotStarted (unstarted.From fault.Disk)) = (λ is. absurd (cc is), λ is. absurd (cc is), λ is. absurd (cc is), λ is. cc is, λ is. cc is)
ends_so (outcome.NotStarted (unstarted.From (fault.NotVolume what))) = (λ is. absurd (cc is), λ is. absurd (cc is), λ is. absurd (cc is), λ is. cc is, λ is. cc is)
ends_so (outcome.NotStarted (unstarted.From fault.Unclean)) = (λ is. absurd (cc is), λ is. absurd (cc is), λ is. absurd (cc is), λ is. cc is, λ is. cc is)
ends_so (outcome.NotStarted (unstarted.From (fault.Version v))) = (λ is. absurd (cc is), λ is. absurd (cc is), λ is. absurd (cc is), λ is. cc is, λ is. cc is)
ends_so (outcome.NotStarted (unstarted.From (fault.BadCount n))) = (λ is. absurd (cc is), λ is. absurd (cc is), λ is. absurd (cc is), λ is. cc is, λ is. cc is)
ends_so (outcome.NotStarted (unstarted.To fault.Disk)) = (λ is. absurd (cc is), λ is. absurd (cc is), λ is. absurd (cc is), λ is. cc is, λ is. cc is)
ends_so (outcome.NotStarted (unstarted.To (fault.NotVolume what))) = (λ is. absurd (cc is), λ is. absurd (cc is), λ is. absurd (cc is), λ is. cc is, λ is. cc is)
ends_so (outcome.NotStarted (unstarted.To fault.Unclean)) = (λ is. absurd (cc is), λ is. absurd (cc is), λ is. absurd (cc is), λ is. cc is, λ is. cc is)
ends_so (outcome.NotStarted (unstarted.To (fault.Version v))) = (λ is. absurd (cc is), λ is. absurd (cc is), λ is. absurd (cc is), λ is. cc is, λ is. cc is)
ends_so (outcome.NotStarted (unstarted.To (fault.BadCount n))) = (λ is. absurd (cc is), λ is. absurd (cc is), λ is. absurd (cc is), λ is. cc is, λ is. cc is)

-- from two sound volumes: done, or no memory, or a disk or a stream failed, or the text is too long
pub is_whole : (how : Outcome) (disk disk_too : Type 0) → (status_after how ≡ status.DiskFault → disk ⊎ disk_too) → (how ≡ outcome.ReadFault → ⊥) → (how ≡ outcome.SinkFault → ⊥) → (how ≡ outcome.Long → ⊥)
    → (disk → ⊥) → (disk_too → ⊥) → IfNotStarted how IsOutside → IfHalted how IsFaultOfDisk → (status_after how ≡ status.Done) ⊎ (status_after how ≡ status.NoMemory)
is_whole how disk disk_too rose read wrote long held held_too starts goes_on = go how refl starts goes_on
  where
    failed : {A : Type 0} → status_after how ≡ status.DiskFault → A
    failed is = absurd (elim (rose is) [ inl first ↦ held first | inr second ↦ held_too second ])

    go : (h : Outcome) → how ≡ h → IfNotStarted h IsOutside → IfHalted h IsFaultOfDisk → (status_after how ≡ status.Done) ⊎ (status_after how ≡ status.NoMemory)
    go outcome.Done same out fails = inl (ap status_after same)
    go outcome.Long same out fails = absurd (long same)
    go outcome.ReadFault same out fails = absurd (read same)
    go outcome.SinkFault same out fails = absurd (wrote same)
    go (outcome.NotStarted unstarted.NoMemory) same out fails = inr (ap status_after same)
    go (outcome.NotStarted (unstarted.From w)) same out fails = failed (ap status_after (same ∙ ap (λ (x : RootFault). outcome.NotStarted (unstarted.From x)) out))
    go (outcome.NotStarted (unstarted.To w)) same out fails = failed (ap status_after (same ∙ ap (λ (x : RootFault). outcome.NotStarted (unstarted.To x)) out))
    go (outcome.NotStarted (unstarted.Halt h)) same out fails = failed (ap status_after (same ∙ ap (λ (x : Halt). outcome.NotStarted (unstarted.Halt x)) out))
    go (outcome.Halted (on.From h)) same out fails = failed (ap status_after (same ∙ ap (λ (x : Halt). outcome.Halted (on.From x)) fails))
    go (outcome.Halted (on.To h)) same out fails = failed (ap status_after (same ∙ ap (λ (x : Halt). outcome.Halted (on.To x)) fails))

-- ---- The lines ended, and then the last line was written.

module _ (how : Outcome) (before after : World) (heard : Option (List ℕ)) (faults_then : ℕ) (second second_after : DiskState)
    (ran : RanLines how before (record after { took = heard; sink_faults = faults_then }) second second_after) (later : faults_then ≤ after.sink_faults)
    (kept : IfNotStarted how (λ why. heard ≡ before.took)) (put : PutsCause (SinkFailed before after) heard after.took (cause_after how)) where
  -- the sink had nothing of a pair that was not started
  unheard : (why : PairStart) → how ≡ outcome.NotStarted why → PutsCause (SinkFailed before after) before.took after.took (cause_after how)
  unheard why is =
      subst (λ (o : Option (List ℕ)). PutsCause (SinkFailed before after) o after.took (cause_after how)) (subst (λ (h : Outcome). IfNotStarted h (λ w. heard ≡ before.took)) is kept) put

  unwritten : (why : PairStart) → how ≡ outcome.NotStarted why → IsEarly why → OnlyReads second second_after
  unwritten why is early = subst (λ (h : Outcome). IfNotStarted h (λ w. IsEarly w → OnlyReads second second_after)) is ran.to.early early

  first_is_refused : (status_after how ≡ status.NotOpened) → Unopened (SinkFailed before after) heard after.took how
  first_is_refused is = not_opened (SinkFailed before after) heard after.took how put is

  counted : IsRefusal (unstarted.From (fault.BadCount before.disk.sectors)) how
      → (status_after how ≡ status.NoMemory) ⊎ ((status_after how ≡ status.NotOpened) × WritesLast before after (cause.Root (fault.BadCount before.disk.sectors)))
  counted (inl is) = inr (ap status_after is, subst (λ (h : Outcome). PutsCause (SinkFailed before after) before.took after.took (cause_after h)) is (unheard (unstarted.From (fault.BadCount before.disk.sectors)) is))
  counted (inr is) = inl (ap status_after is)

  heard_alike : (text : List ℕ) (why : PairStart) → how ≡ outcome.NotStarted why → Puts (SinkFailed before after) heard after.took text → Puts (SinkFailed before after) before.took after.took text
  heard_alike text why is line = subst (λ (o : Option (List ℕ)). Puts (SinkFailed before after) o after.took text) (subst (λ (h : Outcome). IfNotStarted h (λ w. heard ≡ before.took)) is kept) line

  pub reasons : HasReasonOfTwo (status_after how) before after second second_after
  reasons = record {
    disk = disk_failed before.disk second after.disk second_after how ran.shown;
    stream = λ is. elim ((ends_so how).2 is) [ inl read ↦ inl (ran.reason.source read) | inr wrote ↦ inr (rose_on before.sink_faults faults_then after.sink_faults (ran.reason.sink wrote) later) ];
    not_opened = λ is. let all = first_is_refused is in
        (unwritten all.0 all.1 all.2, all.3, elim all.4 [ inl line ↦ inl (heard_alike (last_line (cause.Root all.3)) all.0 all.1 line) | inr line ↦ inr (heard_alike (last_line (cause.Other (other.Root all.3))) all.0 all.1 line) ]);
    count = λ none. counted (ran.refuses.first_count none);
    long = λ b source is. ran.reason.long b source ((ends_so how).1 is);
    memory = λ is. unwritten unstarted.NoMemory ((ends_so how).0 is) tt;
    no_other = ((ends_so how).3, (ends_so how).4);
  }

  pub completed : (d e : List Sector) (b : List ℕ) → before.disk.contents ≡ Some d → second.contents ≡ Some e → Sound d → Sound e → Gives before b → IsShortText b
      → ¬ DiskFailed before after → ¬ Rose second.faults second_after.faults → ¬ SourceFailed before after → ¬ SinkFailed before after
      → (status_after how ≡ status.Done) ⊎ (status_after how ≡ status.NoMemory)
  completed d e b revealed there sound sound_too source short held held_too source_held sink_held =
      let judged = ran.judged d e revealed there in
      is_whole how (Rose before.disk.faults after.disk.faults) (Rose second.faults second_after.faults) (disk_failed before.disk second after.disk second_after how ran.shown)
      (λ read. source_held (ran.reason.source read)) (λ wrote. sink_held (rose_on before.sink_faults faults_then after.sink_faults (ran.reason.sink wrote) later)) (λ long. ran.reason.long b source long short)
      held held_too (judged.starts sound sound_too) (judged.goes_on sound sound_too)

  pub replicated : Replicated (status_after how) before after second second_after
  replicated = record {
    how = how;
    heard = heard;
    faults_then = faults_then;
    later = later;
    lines = ran;
    status_is = refl;
    last = put;
    complete = completed;
    cause = reasons;
  }

-- a last line is that of the whole command, if its sink did not fail less often before
pub put_before : (old new : Option (List ℕ)) (a b c : ℕ) (why : Option Cause) → a ≤ b → PutsCause (Rose b c) old new why → PutsCause (Rose a c) old new why
put_before old new a b c None le put = put
put_before old new a b c (Some why) le (inl all) = inl all
put_before old new a b c (Some why) le (inr some) = inr (rose_earlier a b c le some.0, some.1, some.2, some.3)
