-- In each crash state of a call that writes labels, the disk reveals the settled files of a machine: that of before, that of
-- after, or for another size one between. It is the same for both as long as no label was written more.
use Rattle.std.specs.Prelude.{◌≡◌, ℕ, zero, suc, ◌+◌, ◌≤◌, true, false, List, [], ◌∷◌, length, Some}
use Rattle.labelled_disk.specs.declared.disk.DiskWrite.{DiskWrite}
use Rattle.labelled_disk.specs.declared.disk.DiskWrite.TheVariants.{LabelOnly}
use Rattle.labelled_disk.specs.Sectors.{Sector}
use Rattle.labelled_disk.specs.CrashState.{crash_state}
use Rattle.labelled_disk.specs.State.{DiskState}
use Rattle.labelled_disk.specs.File.{File, file_at, size}
use Rattle.labelled_disk.specs.FilesOn.{leads_file}
use Rattle.labelled_disk.specs.RootLaws.{StaysRight}
use Rattle.labelled_disk.specs.Runs.{growth, freeing, AreUnused, IsAt, ArePagesDown, ArePagesUp, lengthened, shortened}
use Rattle.labelled_disk.specs.WriteLaws.{HasData}
use Rattle.frame_pool.specs.Frames.{Slots}
use Rattle.flat_machine.specs.Machine.{Machine, used}
use Rattle.flat_machine.specs.Next.{change_file, without_file}
use Rattle.label_laws.specs.Marks.{permanent_label, immutable_label}
use Rattle.label_laws.specs.MixedVolumes.{label_count}
use Rattle.swapper_kernel.specs.Goes.{Wrote}
use Rattle.session_words.specs.Volume.{volume_page}
use Rattle.session_words.specs.Parts.{DirtyAreLoose}
use Rattle.session_words.specs.StandsFor.{IsSettled, RevealsSettled}

-- The call began on a disk that was settled, with dirty frames of loose pages alone.
pub record Begins (before : Slots) (old : DiskState) (d : List Sector) (m : Machine) : Type 0 where
  pub settled_disk : IsSettled d m
  pub dirty : DirtyAreLoose before m.unforced
  pub revealed : old.contents ≡ Some d

-- the machine with a change of one file
abbrev pub with_change : ℕ → (File → File) → Machine → Machine
with_change id change m = record m { files = change_file id change m.files }

-- the machine where the leader was freed, if it was
abbrev pub deleted_after : ℕ → ℕ → Machine → Machine
deleted_after id zero m = m
deleted_after id (suc j) m = record m { files = without_file id m.files }

-- the machine with a change of one file, if its label was written
abbrev pub changed_after : ℕ → (File → File) → ℕ → Machine → Machine
changed_after id change zero m = m
changed_after id change (suc j) m = with_change id change m

pub record RunStops : Type 0 where
  -- as many pages more as labels were written
  pub growth_stops : (m : Machine) (id : ℕ) (f : File) (is : List ℕ) (old new : DiskState) (before : Slots) (d : List Sector) (wrote : Wrote volume_page (growth id f.kind (size f) is) old before new) → Begins before old d m
      → file_at m.files id ≡ Some f → AreUnused d is → length is + used m ≤ m.capacity
      → (k : ℕ) → RevealsSettled (crash_state d wrote.writes k) (with_change id (lengthened (label_count wrote.writes k)) m)
  -- as many fewer
  pub shrinking_stops : (m : Machine) (id : ℕ) (f : File) (is : List ℕ) (old new : DiskState) (before : Slots) (d : List Sector) (wrote : Wrote volume_page (freeing is) old before new) → Begins before old d m
      → file_at m.files id ≡ Some f → ArePagesDown d id (size f) is
      → (k : ℕ) → RevealsSettled (crash_state d wrote.writes k) (with_change id (shortened (label_count wrote.writes k)) m)
  -- a file of either kind is deleted
  pub deletion_stops : (m : Machine) (id leader : ℕ) (f : File) (is : List ℕ) (old new : DiskState) (before : Slots) (d : List Sector) (wrote : Wrote volume_page (freeing (leader ∷ is)) old before new) → Begins before old d m
      → file_at m.files id ≡ Some f → IsAt (leads_file true id) d leader → ArePagesUp d id 0 is
      → (k : ℕ) → RevealsSettled (crash_state d wrote.writes k) (deleted_after id (label_count wrote.writes k) m)
  -- a leader is marked
  pub permanent_stops : (m : Machine) (id leader : ℕ) (f : File) (s : Sector) (old new : DiskState) (before : Slots) (d : List Sector) (wrote : Wrote volume_page (LabelOnly leader (permanent_label s.0) ∷ []) old before new) → Begins before old d m
      → file_at m.files id ≡ Some f → HasData d leader s → leads_file true id s ≡ true
      → (k : ℕ) → RevealsSettled (crash_state d wrote.writes k) (changed_after id (λ f. record f { permanent = true }) (label_count wrote.writes k) m)
  pub immutable_stops : (m : Machine) (id leader : ℕ) (f : File) (s : Sector) (old new : DiskState) (before : Slots) (d : List Sector) (wrote : Wrote volume_page (LabelOnly leader (immutable_label s.0) ∷ []) old before new) → Begins before old d m
      → file_at m.files id ≡ Some f → HasData d leader s → leads_file true id s ≡ true
      → (k : ℕ) → RevealsSettled (crash_state d wrote.writes k) (changed_after id (λ f. record f { immutable = true }) (label_count wrote.writes k) m)
  -- label writes that keep the permanent files: of a creation, of a temporary file's end, of a close
  pub quiet_stops : (m : Machine) (order : List DiskWrite) (old new : DiskState) (before : Slots) (d : List Sector) (wrote : Wrote volume_page order old before new) → Begins before old d m
      → ((k : ℕ) → k ≤ length order → StaysRight false d (crash_state d order k)) → (k : ℕ) → RevealsSettled (crash_state d wrote.writes k) m
  -- the same where no page of a file is unforced, as at a start: the permanent files are those of before
  pub start_stops : (order : List DiskWrite) (old new : DiskState) (before : Slots) (d : List Sector) (wrote : Wrote volume_page order old before new) → DirtyAreLoose before [] → old.contents ≡ Some d
      → ((k : ℕ) → k ≤ length order → StaysRight false d (crash_state d order k)) → (k : ℕ) → StaysRight false d (crash_state d wrote.writes k)
