-- A session's end, and a session that is left as it stands.
use Rattle.std.proofs.Common.{◌≡◌, ◌⊎◌, inl, inr, ℕ, zero, suc, List, [], Option, Some, None, refl, sym, ap, subst}
use Rattle.labelled_disk.specs.declared.evidence.Halt.{Halt}
use Rattle.labelled_disk.specs.declared.evidence.Halt.TheVariants as halt
use Rattle.labelled_disk.specs.CrashState.{crash_state}
use Rattle.labelled_disk.specs.Sectors.{Sector}
use Rattle.labelled_disk.proofs.WriteRunLemmas.{appended_none}
use Rattle.file_manager.specs.declared.volume.Volume.{Volume}
use Rattle.flat_machine.specs.Machine.{Machine}
use Rattle.pilot_engine.specs.Closing.{IsStop, Throughout}
use Rattle.swap_units.specs.declared.interval.Interval.{Interval}
use Rattle.filer_kernel.specs.View.{View}
use Rattle.running_words.specs.Running.{IsRunning}
use Rattle.pilot_top.specs.Stopping.{status_of}
use Rattle.pilot_top.specs.declared.status.Status.{Status}
use Rattle.pilot_top.specs.declared.status.Status.TheVariants as status
use Rattle.pilot_top.proofs.StagedLemmas.{AreInForm, stands_revealed}

-- a session is left as it stands
pub rest_stops : (m : Machine) {v : View} {kept : List Interval} {count : ℕ} {volume : Volume} → IsRunning v kept count volume m → AreInForm v.disk → Throughout (IsStop m) v.disk v.disk
rest_stops m is form = record {
  writes = [];
  appended = appended_none (record { contents = refl; writes = refl });
  each = λ d k revealed. subst (IsStop m) (sym (still d k)) (let at = stands_revealed m is form d revealed in record { revealed = at.revealed; same_serial = at.same_serial; same_counter = elim at.counter [ inl same ↦ same | inr same ↦ same ]; honest = at.honest });
}
  where
    still : (d : List Sector) (k : ℕ) → crash_state d [] k ≡ d
    still d zero = refl
    still d (suc k) = refl

-- a fault of the disk is no damage
pub not_damaged : (h : Halt) (s : Status) → h ≡ halt.Disk → s ≡ status_of h → ◌≡◌ {A = Option Status} (Some s) (Some status.Damaged) → ⊥
not_damaged h s is same damaged = cc (ap status_of is, same, damaged)

-- a session whose end failed was not closed
pub not_closed : (o : Option Status) (s : Status) → o ≡ Some s → (o ≡ None) ⊎ (o ≡ Some status.DiskFault) ⊎ (o ≡ Some status.Damaged) → (s ≡ status.Done) ⊎ (s ≡ status.StreamFault) → ⊥
not_closed o s is (inl none) done = cc (is, none)
not_closed o s is (inr (inl disk)) (inl done) = cc (is, disk, done)
not_closed o s is (inr (inl disk)) (inr done) = cc (is, disk, done)
not_closed o s is (inr (inr damaged)) (inl done) = cc (is, damaged, done)
not_closed o s is (inr (inr damaged)) (inr done) = cc (is, damaged, done)
