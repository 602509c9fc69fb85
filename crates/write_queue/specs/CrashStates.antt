-- What stands beneath while a queue's call goes on.
use Rattle.std.specs.Prelude.{◌≡◌, ◌⊎◌, ℕ, List, ◌++◌, map, slice_get, Option, Some, option_map}
use Rattle.labelled_disk.specs.declared.disk.DiskWrite.{DiskWrite}
use Rattle.labelled_disk.specs.declared.label.Label.{Label}
use Rattle.labelled_disk.specs.CrashState.{crash_state}
use Rattle.labelled_disk.specs.Sectors.{Sector}
use Rattle.write_queue.specs.Entries.{laid}
use Rattle.write_queue.specs.View.{View}

-- the sectors that a queue reveals
abbrev pub revealed_by : View → Option (List Sector)
revealed_by view = option_map (laid view.waiting) view.beneath.contents

-- the labels of sectors
abbrev pub labels_of : List Sector → List Label
labels_of d = map (λ s. s.0) d

-- the page of a sector
abbrev pub page_in : List Sector → ℕ → Option (List ℕ)
page_in d k = option_map (λ s. s.1) (slice_get d k)

-- All labels are those at the entry, or all are those at the exit. Each page stood beneath at the entry, or is the
-- one at the entry or at the exit.
pub record IsBetween (beneath entry exit m : List Sector) : Type 0 where
  pub labels : (labels_of m ≡ labels_of entry) ⊎ (labels_of m ≡ labels_of exit)
  pub pages : (k : ℕ) → (page_in m k ≡ page_in beneath k)
      ⊎ ((page_in m k ≡ page_in entry k) ⊎ (page_in m k ≡ page_in exit k))

-- Where the disk beneath reveals what it holds and its writes, each crash state of the call's writes there is between what
-- the queue revealed at its entry and at its exit.
abbrev pub CrashStatesBetween : View → View → Type 0
CrashStatesBetween old new =
    (d entry exit : List Sector) (earlier writes : List DiskWrite) (k : ℕ) → old.beneath.contents ≡ Some d
    → revealed_by old ≡ Some entry → revealed_by new ≡ Some exit
    → old.beneath.writes ≡ Some earlier → new.beneath.writes ≡ Some (earlier ++ writes)
    → IsBetween d entry exit (crash_state d writes k)
