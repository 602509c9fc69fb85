-- How a trial ends: its line, and the volume that is left.
use Rattle.std.proofs.Common.{◌≡◌, ℕ, List, [], ◌∷◌, map, filter, inl, inr, Option, refl, sym, ◌∙◌, subst}
use Rattle.std.specs.Io.KnownBytes.{Appends}
use Rattle.labelled_disk.specs.declared.evidence.Evidence.{Evidence}
use Rattle.labelled_disk.specs.declared.evidence.Halt.{Halt}
use Rattle.labelled_disk.specs.declared.evidence.Halt.TheVariants as halt
use Rattle.labelled_disk.specs.declared.layout.RootFault.TheVariants as fault
use Rattle.labelled_disk.specs.Calls.{OnlyReads, Rose}
use Rattle.labelled_disk.specs.FilesOn.{files_on}
use Rattle.labelled_disk.specs.Layout.{IsCount}
use Rattle.labelled_disk.specs.State.{DiskState}
use Rattle.flat_machine.specs.File.{File}
use Rattle.flat_machine.specs.Machine.{Machine}
use Rattle.flat_machine.specs.Settled.{Agrees, settled_file}
use Rattle.trace_io.specs.Stream.{AppendsPrefix, IsPrefixOf}
use Rattle.filer_kernel.specs.Evidence.{IsEvident, ShowsEvidence}
use Rattle.pilot_engine.specs.Closing.{HasShut}
use Rattle.pilot_engine.specs.Fresh.{IsFreshFault}
use Rattle.pilot_engine.specs.Opening.{IsEarly, IsSoAtStart}
use Rattle.pilot_engine.specs.declared.fault.StartFault.{StartFault}
use Rattle.pilot_engine.specs.declared.fault.StartFault.TheVariants as start_fault
use Rattle.pilot_top.specs.Last.{last_line, Puts}
use Rattle.pilot_top.specs.Making.{RefusesCount}
use Rattle.pilot_top.specs.Stopping.{StopsAs, cause_of, status_of}
use Rattle.pilot_top.specs.Trial.{HasNoFile}
use Rattle.pilot_top.specs.TrialEnding.{StopsTrial}
use Rattle.pilot_top.specs.declared.last.Cause.TheVariants as cause
use Rattle.pilot_top.specs.declared.status.Status.{Status}
use Rattle.pilot_top.specs.declared.status.Status.TheVariants as status
use Rattle.pilot_top.proofs.RefusedLemmas.{refused_count}
use Rattle.pilot_top.proofs.RunLemmas.{how, refused_early}

-- a text that was put where nothing had been
pub line_revealed : {K : Type 0} (took : K → Option (List ℕ)) (k l : K) (w : Option (List ℕ)) (text line : List ℕ) → l ≡ k → text ≡ line → Appends (took l) w text → Appends (took k) w line
line_revealed took k l w text line same is put = subst (λ (t : List ℕ). Appends (took k) w t) is (subst (λ x. Appends (took x) w text) same put)

-- or a prefix of it
pub prefix_revealed : {K : Type 0} (took : K → Option (List ℕ)) (k l : K) (w : Option (List ℕ)) (text line : List ℕ) → l ≡ k → text ≡ line → AppendsPrefix (took l) w text
    → (prefix : List ℕ) × IsPrefixOf prefix line × Appends (took k) w prefix
prefix_revealed took k l w text line same is put = (put.0, subst (λ (t : List ℕ). IsPrefixOf put.0 t) is put.1, subst (λ x. Appends (took x) w put.0) same put.2)

-- what is reported of damage where no session started is so
pub refused_damage : {K : Type 0} (f : StartFault) (s : Status) (old new : K) (took : K → Option (List ℕ)) (failed : Type 0) (disk : DiskState) → IsSoAtStart disk f → StopsAs f s old new (Puts failed (took old) (took new)) → s ≡ status.Damaged
    → (e : Evidence) × IsEvident disk e × Puts failed (took old) (took new) (last_line (cause.Damaged e))
refused_damage (start_fault.Root fault.Disk) s old new took failed disk evidence_seen stops is = absurd (cc (stops.0, is))
refused_damage (start_fault.Root (fault.NotVolume what)) s old new took failed disk evidence_seen stops is = absurd (cc (stops.0, is))
refused_damage (start_fault.Root fault.Unclean) s old new took failed disk evidence_seen stops is = absurd (cc (stops.0, is))
refused_damage (start_fault.Root (fault.Version v)) s old new took failed disk evidence_seen stops is = absurd (cc (stops.0, is))
refused_damage (start_fault.Root (fault.BadCount n)) s old new took failed disk evidence_seen stops is = absurd (cc (stops.0, is))
refused_damage start_fault.NoMemory s old new took failed disk evidence_seen stops is = absurd (cc (stops.0, is))
refused_damage (start_fault.Halt halt.Disk) s old new took failed disk evidence_seen stops is = absurd (cc (stops.0, is))
refused_damage (start_fault.Halt (halt.Damaged e)) s old new took failed disk evidence_seen stops is = (e, evidence_seen, stops.1)

-- a count of sectors is refused that no volume has, and no other
pub refused_fresh : {K : Type 0} (f : StartFault) (s : Status) (old new : K) (took : K → Option (List ℕ)) (failed : Type 0) (stops : StopsAs f s old new (Puts failed (took old) (took new))) (first disk : DiskState)
    → IsFreshFault first.sectors f → (¬ IsCount first.sectors → f ≡ start_fault.Root (fault.BadCount first.sectors)) → (IsEarly f → OnlyReads first disk) → RefusesCount s first disk (Puts failed (took old) (took new))
refused_fresh f s old new took failed stops first disk fresh count unwritten = record {
  not_opened = (bad, λ none. (refused_count f s old new took failed stops first.sectors (count none)).0);
  line = λ is. (refused_count f s old new took failed stops first.sectors (count (bad is))).1;
  unwritten = λ is. unwritten (refused_early f s old new took failed stops is);
}
  where
    bad : s ≡ status.NotOpened → ¬ IsCount first.sectors
    bad is = elim (how f s old new (Puts failed (took old) (took new)) stops) [
      | inl refusal ↦ (subst (λ (x : StartFault). IsFreshFault first.sectors x) refusal.1 fresh).0
      | inr (inl failure) ↦ absurd (let e = sym failure.1 ∙ is in cc e)
      | inr (inr (inl memory)) ↦ absurd (let e = sym memory.1 ∙ is in cc e)
      | inr (inr (inr damage)) ↦ absurd (let e = sym damage.2 ∙ is in cc e)
    ]

-- files that agree with none are none
none_agree : (fs : List File) → Agrees fs [] → fs ≡ []
none_agree [] agrees = refl
none_agree (f ∷ fs) agrees = absurd agrees

-- where no file of the machine is permanent, the volume that was closed has none
pub left_empty : (m : Machine) (disk : DiskState) → filter (λ (f : File). f.permanent) m.files ≡ [] → HasShut m disk → HasNoFile disk
left_empty m disk none shut = record {
  sectors = shut.reveals.sectors;
  revealed = shut.reveals.revealed;
  sound = shut.reveals.shut.sound;
  no_files = none_agree (files_on shut.reveals.sectors) (subst (λ (fs : List File). Agrees (files_on shut.reveals.sectors) (map (settled_file []) (filter (λ (f : File). f.permanent) fs))) none shut.reveals.shut.revealed.agrees);
  synced = shut.synced;
}

-- a call stopped the session
pub halt_stops : (h : Halt) (s : Status) (old new : DiskState) (failed : Type 0) (puts : List ℕ → Type 0) → s ≡ status_of h → (h ≡ halt.Disk → Rose old.faults new.faults) → ShowsEvidence new h
    → puts (last_line (cause_of h)) → StopsTrial s old new failed puts
halt_stops halt.Disk s old new failed puts is rose seen line = record {
  disk_cause = λ disk. rose refl;
  disk_line = λ disk. line;
  stream_cause = λ stream. absurd (cc (is, stream));
  damage_line = λ damaged. absurd (cc (is, damaged));
}
halt_stops (halt.Damaged e) s old new failed puts is rose seen line = record {
  disk_cause = λ disk. absurd (cc (is, disk));
  disk_line = λ disk. absurd (cc (is, disk));
  stream_cause = λ stream. absurd (cc (is, stream));
  damage_line = λ damaged. (e, seen, line);
}
