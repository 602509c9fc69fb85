-- What is restored, and what stands in each crash state before.
use Rattle.std.specs.Prelude.{◌≡◌, ◌↔◌, ◌⊎◌, ◌≤◌, ◌-◌, ℕ, List, length, slice_get}
use Rattle.labelled_disk.specs.Sectors.{Sector, AreSectors}
use Rattle.labelled_disk.specs.Layout.{capacity}
use Rattle.labelled_disk.specs.File.{total_room}
use Rattle.labelled_disk.specs.FilesOn.{files_on}
use Rattle.labelled_disk.specs.CrashState.{crash_state}
use Rattle.labelled_disk.specs.Root.{IsRoot, LabelsRight, root_page, short_at, serial_of, counter_of}
use Rattle.labelled_disk.specs.WriteRuns.{after_writes}
use Rattle.volume_root.specs.Sound.{Sound}
use Rattle.label_laws.specs.SoundParts.{IsSoundButRoom}
use Rattle.label_survey.specs.Counter.{IsRaised}
use Rattle.cut_words.specs.Cut.{IsCut}
use Rattle.scavenger.specs.Orders.{Orders, AreFor, closing_writes, scavenge_writes}

-- The files of g, the volume's serial, and a counter above its files; sound where there is room for the files. Where the
-- labels were right, there is, and the counter is the same.
pub record IsRestored (g h : List Sector) : Type 0 where
  pub sectors : length h ≡ length g
  pub files : files_on h ≡ files_on g
  pub has_serial : serial_of h ≡ serial_of g
  pub has_counter : IsRaised g (serial_of g) (counter_of g) (counter_of h)
  pub parts : IsSoundButRoom h
  pub sound : Sound h ↔ (total_room (files_on g) ≤ capacity (length g))
  pub right : LabelsRight g → Sound h × (counter_of h ≡ counter_of g)

-- A crash state of a restoration of g: it has the files of g, and labels that are right where those of g were; and where its
-- clean flag is 1, it is g, or it is restored.
pub record IsBetween (g now : List Sector) : Type 0 where
  pub files : files_on now ≡ files_on g
  pub right : LabelsRight g → LabelsRight now
  pub clean : short_at (root_page now) 10 ≡ 1 → (now ≡ g) ⊎ IsRestored g now

-- What stands where the power went in a restoration of g: it has the files of g, and where its clean flag is 1, it is
-- restored.
pub record Survives (g e : List Sector) : Type 0 where
  pub files : files_on e ≡ files_on g
  pub clean : short_at (root_page e) 10 ≡ 1 → IsRestored g e

-- so it is for each disk with a valid root, whatever its labels are; and where the clean flag is 1, the disk is the one before
-- these writes, or the one after them all
pub record ScavengingRestores (g : List Sector) (o : Orders) : Type 0 where
  pub restored : IsRestored g (after_writes (scavenge_writes o) g)
  pub crash_states : (k : ℕ) → IsBetween g (crash_state g (scavenge_writes o) k)
  pub ends : (k : ℕ) → short_at (root_page (crash_state g (scavenge_writes o) k)) 10 ≡ 1
      → (crash_state g (scavenge_writes o) k ≡ g) ⊎ (crash_state g (scavenge_writes o) k ≡ after_writes (scavenge_writes o) g)
  -- on a disk that is not clean, the writes after the first do it too
  pub closing : short_at (root_page g) 10 ≡ 0 → IsRestored g (after_writes (closing_writes o) g)
  -- where the first write is on the medium before the others, and all others before the last
  pub cuts : (e : List Sector) → IsCut g (scavenge_writes o) 1 (length (scavenge_writes o) - 1) e
      ⊎ IsCut g (scavenge_writes o) (length (scavenge_writes o) - 1) (length (scavenge_writes o)) e → Survives g e

abbrev pub RestoresEach : Type 0
RestoresEach = (g : List Sector) (o : Orders) → AreSectors g → IsRoot (length g) (slice_get g 0) → AreFor g o → ScavengingRestores g o
