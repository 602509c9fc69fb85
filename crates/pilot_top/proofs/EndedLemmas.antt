-- A session that was ended, or that was left as it stood.
use Rattle.std.proofs.Common.{◌≡◌, inl, inr, List, ℕ, Option, Some, None, Result, Err, IfErr, refl, ap, subst}
use Rattle.labelled_disk.specs.declared.disk.Disk.{Ghosts}
use Rattle.labelled_disk.specs.declared.evidence.Evidence.{Evidence}
use Rattle.labelled_disk.specs.declared.evidence.Halt.{Halt}
use Rattle.labelled_disk.specs.declared.evidence.Halt.TheVariants as halt
use Rattle.labelled_disk.specs.Calls.{RevealsSame, Rose}
use Rattle.labelled_disk.specs.State.{DiskState}
use Rattle.frame_pool.specs.Frames.{Slots}
use Rattle.flat_machine.specs.Machine.{Machine}
use Rattle.swap_units.specs.declared.interval.Interval.{Interval}
use Rattle.swapper_kernel.specs.Goes.{Went}
use Rattle.filer_kernel.specs.Evidence.{ShowsEvidence}
use Rattle.filer_kernel.specs.View.{View}
use Rattle.fault_core.specs.Core.{state}
use Rattle.file_manager.specs.declared.volume.Volume.{Volume}
use Rattle.file_manager.specs.Reasons.{InitialState, KeepsOn, ShowsReason}
use Rattle.volume_root.specs.declared.root.Root.{Root}
use Rattle.running_words.specs.Running.{IsRunning}
use Rattle.pilot_engine.specs.declared.session.Session.{Session}
use Rattle.pilot_engine.specs.EndLaws.{blameless_at_end}
use Rattle.pilot_engine.specs.Ending.{AccountsAtEnd}
use Rattle.pilot_engine.specs.Opening.{IsUnset, LeavesOpen}
use Rattle.pilot_engine.specs.Reasons.{NeverBlamesEnd}
use Rattle.pilot_engine.proofs.ShutLemmas.{nothing_on}
use Rattle.pilot_engine.proofs.SparingLemmas.{spares_same}
use Rattle.pilot_top.specs.Ended.{EndsAs, StopsEnding, WritesEnd}
use Rattle.pilot_top.specs.InitialState.{FromEachInitialState}
use Rattle.pilot_top.specs.Last.{Puts, last_line}
use Rattle.pilot_top.specs.RunDisk.{IsChange, halt_on}
use Rattle.pilot_top.specs.Stopping.{cause_of, status_of}
use Rattle.pilot_top.specs.declared.status.Status.{Status}
use Rattle.pilot_top.proofs.CloseLemmas.{rest_stops}
use Rattle.pilot_top.proofs.CostLemmas.{spent_same}
use Rattle.pilot_top.proofs.ReasonLemmas.{goes_nowhere, reason_halted}
use Rattle.pilot_top.proofs.SameLemmas.{stops_same, wrote_same}
use Rattle.pilot_top.proofs.ShownLemmas.{on_damage, on_disk, on_ends, on_unset, some_of}
use Rattle.pilot_top.proofs.ShutLemmas.{none_shuts}
use Rattle.pilot_top.proofs.StagedLemmas.{AreInForm}

-- what is so of an error is so of the halt
module _ {T : Type 0} (r : Result T Halt) (h : Halt) (was : r ≡ Err h) where
  pub of_halt : (P : Halt → Type 0) → IfErr r P → P h
  of_halt P holds = subst (λ (x : Result T Halt). IfErr x P) was holds

  -- what the end of a session shows has its reason
  module _ {D A : Type 0} {G : Ghosts D} (session : Session D A G) (disk : DiskState) (accounts : (o : InitialState) → KeepsOn o session.core.filer → AccountsAtEnd o session disk r) where
    pub end_reasoned : (e : Evidence) → h ≡ halt.Damaged e → FromEachInitialState session disk e
    end_reasoned e = reason_halted session session refl (goes_nowhere session) disk e h (λ o keeps not_older. (
      of_halt (ShowsReason o (state session.core).layout disk) ((accounts o keeps).reasons),
      λ seen. blameless_at_end o disk h (of_halt (NeverBlamesEnd o disk) ((accounts o keeps).sees seen)),
    ))

-- the end of a session halted
pub stops_ending : (shown : Option Evidence) (h : Halt) (s : Status) (failed : Type 0) (u v : Option (List ℕ)) (reasoned : Evidence → Type 0) (old new : DiskState)
    → ((e : Evidence) → shown ≡ Some e → IsChange e × (new.contents ≡ None)) → s ≡ status_of (halt_on shown h) → Puts failed u v (last_line (cause_of (halt_on shown h)))
    → (h ≡ halt.Disk → Rose old.faults new.faults) → ShowsEvidence new h → ((e : Evidence) → h ≡ halt.Damaged e → reasoned e) → (IsUnset old → LeavesOpen new h)
    → StopsEnding (Some s) shown reasoned old new (Puts failed u v)
stops_ending shown h s failed u v reasoned old new law is line rose seen reason left = record {
  disk_fault = λ disk. let stopped = on_disk shown h s is failed u v (some_of disk) line in (stopped.0, rose stopped.1, stopped.2);
  damage = λ damaged. on_damage shown h s is failed u v new reasoned seen reason (some_of damaged) line;
  left_open = λ unset damaged. on_unset shown h s is new law (left unset) (some_of damaged);
  ends = elim (on_ends shown h s is) [
    | inl disk ↦ inr (inl (ap (λ (x : Status). Some x) disk))
    | inr damaged ↦ inr (inr (ap (λ (x : Status). Some x) damaged))
  ];
}

-- the session was left as it stood
pub left_as : (m : Machine) {v : View} {kept : List Interval} {count : ℕ} {volume : Volume} {new : DiskState} {shut damaged : Type 0} → IsRunning v kept count volume m → AreInForm v.disk
    → RevealsSame v.disk new → new.transfers ≡ v.disk.transfers → ¬ shut → ¬ damaged → EndsAs m shut damaged v.disk new
left_as m {v = v} {new = new} is form same spent going sound = record {
  closed = λ closes. absurd (going closes);
  stops = stops_same same (rest_stops m is form);
  sound = sound;
  cost = spent_same v.disk new spent;
  syncs = none_shuts same;
}

pub left_writes : (root : Root) (before : Slots) {old new : DiskState} → RevealsSame old new → Went old new → WritesEnd root before old new
left_writes root before {old = old} same went = record { wrote = wrote_same same went (nothing_on root old before); spares = λ id client. spares_same id same }

-- what is so of a disk that was handed back is so of the one that it is
module _ {D : Type 0} (state : D → DiskState) {x y : D} (z : DiskState) (back : y ≡ x) where
  pub same_over : RevealsSame (state y) z → RevealsSame (state x) z
  same_over same = subst (λ (d : D). RevealsSame (state d) z) back same

  pub went_over : Went (state y) z → Went (state x) z
  went_over went = subst (λ (d : D). Went (state d) z) back went

  pub spent_over : z.transfers ≡ (state y).transfers → z.transfers ≡ (state x).transfers
  spent_over spent = subst (λ (d : D). z.transfers ≡ (state d).transfers) back spent
