-- Free sectors that get zeros under their free labels, and, after a sync, the labels of pages.
use Rattle.std.specs.Prelude.{◌≡◌, ◌⊎◌, ℕ, ◌+◌, ◌<◌, ◌≤◌, true, false, List, [], ◌++◌, length, take, Some, slice_get, option_map}
use Rattle.std.specs.List.{range_with_len}
use Rattle.labelled_disk.specs.declared.label.Label.{Label}
use Rattle.labelled_disk.specs.declared.disk.DiskWrite.{DiskWrite}
use Rattle.labelled_disk.specs.declared.disk.DiskWrite.TheVariants as write
use Rattle.labelled_disk.specs.Calls.{RevealsSame, RevealsWrite}
use Rattle.labelled_disk.specs.CrashState.{crash_state}
use Rattle.labelled_disk.specs.Label.{names}
use Rattle.labelled_disk.specs.Runs.{growth, zero_bytes}
use Rattle.labelled_disk.specs.Sectors.{Sector}
use Rattle.labelled_disk.specs.State.{DiskState, NamesThere}
use Rattle.labelled_disk.specs.WriteRuns.{after_writes}
use Rattle.frame_pool.specs.Frames.{Slots}
use Rattle.swapper_kernel.specs.Goes.{Change, Goes, Makes, this_page}
use Rattle.label_calls.specs.Labels.{Labels, HasOne, free_ones, nobody}
use Rattle.label_calls.specs.Runs.{AreUncovered, HaveOnes}

-- zeros were written under the label of this sector, which is plain: it names page 0 of identifier 0
abbrev pub PutsZeros : ℕ → DiskState → DiskState → Type 0
PutsZeros sector old new = RevealsWrite (write.Page sector nobody zero_bytes) old new × NamesThere old sector nobody true

-- so they were; over any other label nothing was written
abbrev pub ClearsOne : ℕ → DiskState → DiskState → Type 0
ClearsOne sector old new = (RevealsSame old new × NamesThere old sector nobody false) ⊎ PutsZeros sector old new

-- each sector has the label that it had
abbrev pub HaveSameLabels : List Sector → List Sector → Type 0
HaveSameLabels m n = (j : ℕ) → option_map (λ s. s.0) (slice_get n j) ≡ option_map (λ s. s.0) (slice_get m j)

-- the page of the sector is zeros, where its label is plain
abbrev pub IsZeros : List Sector → ℕ → Type 0
IsZeros sectors sector = (s : Sector) → slice_get sectors sector ≡ Some s → names s.0 nobody ≡ true → s.1 ≡ zero_bytes

-- each sector has the label that it had, and pages that are made in so many from this one on leave nothing of what changed
abbrev pub ClearsPages : ℕ → ℕ → Change
ClearsPages sector pages m n = HaveSameLabels m n
    × ((id kind page : ℕ) → after_writes (growth id kind page (range_with_len sector pages)) n ≡ after_writes (growth id kind page (range_with_len sector pages)) m)

-- Of so many sectors the first ones were cleared: zeros were written under each plain label of theirs, and labels stayed.
pub record Clears (sector pages done : ℕ) (old : DiskState) (slots : Slots) (new : DiskState) : Type 0 where
  pub makes : Makes (this_page 0 0) [] old slots new slots
  pub labels : (d e : List Sector) → old.contents ≡ Some d → new.contents ≡ Some e → HaveSameLabels d e
  pub zeros : (e : List Sector) → new.contents ≡ Some e → (k : ℕ) → k < done → IsZeros e (sector + k)
  pub goes : AreUncovered slots sector pages → Goes (ClearsPages sector pages) (this_page 0 0) [] old slots new slots

-- Free sectors in a row may have been cleared, and then these permitted writes gave them other labels. Where no frame is over them, the
-- memory is what the writes make of it.
pub record RelabelsCleared (sector pages : ℕ) (run : List DiskWrite) (old : DiskState) (slots : Slots) (new : DiskState) : Type 0 where
  pub were : (d : List Sector) → old.contents ≡ Some d → HaveOnes (λ k. free_ones) d sector pages
  pub makes : Makes (this_page 0 0) run old slots new slots
  pub goes : AreUncovered slots sector pages → Goes (λ m n. n ≡ after_writes run m) (this_page 0 0) run old slots new slots

-- sectors may have been cleared, the first of these writes were made, and the sectors of these had the labels of their turns
pub record NamedCleared (place : ℕ → ℕ) (labels : ℕ → Labels) (run : List DiskWrite) (old : DiskState) (slots : Slots) (new : DiskState) : Type 0 where
  pub count : ℕ
  pub within : count ≤ length run
  pub makes : Makes (this_page 0 0) (take count run) old slots new slots
  pub found : (d : List Sector) → old.contents ≡ Some d → (k : ℕ) → k < count → HasOne (labels k) d (place k)

-- Nothing was written; or the sector was free, and this label was written with zeros, and nothing else.
abbrev pub MayBeFresh : ℕ → Label → DiskState → DiskState → Type 0
MayBeFresh sector label old new = RevealsSame old new
    ⊎ (RevealsWrite (write.Whole sector label zero_bytes) old new × ((d : List Sector) → old.contents ≡ Some d → HasOne free_ones d sector))

-- write k is of a page of zeros with its label, in one of these sectors, which had been free and was as it had been until then
abbrev pub IsOverFree : ℕ → ℕ → List Sector → List DiskWrite → ℕ → DiskWrite → Type 0
IsOverFree sector pages d writes k w = (i : ℕ) × (label : Label) × (i < pages) × (w ≡ write.Whole (sector + i) label zero_bytes) × HasOne free_ones d (sector + i)
    × ((j : ℕ) → j ≤ k → slice_get (crash_state d writes j) (sector + i) ≡ slice_get d (sector + i))

-- so is each write that was made between the two states
pub record WritesFresh (sector pages : ℕ) (old new : DiskState) : Type 0 where
  pub fresh : (d : List Sector) (earlier writes : List DiskWrite) → old.contents ≡ Some d → old.writes ≡ Some earlier → new.writes ≡ Some (earlier ++ writes)
      → (k : ℕ) (w : DiskWrite) → slice_get writes k ≡ Some w → IsOverFree sector pages d writes k w
