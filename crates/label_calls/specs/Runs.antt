-- Labels of sectors in a row.
use Rattle.std.specs.Prelude.{◌≡◌, ◌⊎◌, ℕ, ◌+◌, ◌≤◌, ◌<◌, true, List, length, take, Some}
use Rattle.labelled_disk.specs.declared.label.Wanted.{Wanted}
use Rattle.labelled_disk.specs.declared.disk.DiskWrite.{DiskWrite}
use Rattle.labelled_disk.specs.declared.evidence.Evidence.{Evidence}
use Rattle.labelled_disk.specs.Label.{is_file_id}
use Rattle.labelled_disk.specs.Sectors.{Sector}
use Rattle.labelled_disk.specs.State.{DiskState}
use Rattle.labelled_disk.specs.WriteRuns.{Appended, after_writes}
use Rattle.frame_pool.specs.Frames.{Slots}
use Rattle.swapper_kernel.specs.Goes.{Goes, Makes, no_page}
use Rattle.label_calls.specs.Labels.{Labels, HasOne, IsUncovered, IsTaken, IsNotOf}

-- pages of the space tables, or pages of a file or its leader
abbrev pub AreOfFile : ℕ → ℕ → ℕ → ℕ → Type 0
AreOfFile id kind page pages = ((id ≡ 3) × (kind ≡ 0) × (page + pages ≤ 96)) ⊎ (is_file_id id ≡ true)

-- no frame has one of so many sectors, from this one on, as its home
abbrev pub AreUncovered : Slots → ℕ → ℕ → Type 0
AreUncovered slots sector pages = (k : ℕ) → k < pages → IsUncovered slots (sector + k)

-- each of the sectors has one of the labels of its turn
abbrev pub HaveOnes : (ℕ → Labels) → List Sector → ℕ → ℕ → Type 0
HaveOnes labels sectors sector pages = (k : ℕ) → k < pages → HasOne (labels k) sectors (sector + k)

-- These permitted writes gave sectors in a row other labels. Where no frame is over them, the memory is what the writes make of it.
pub record RelabelsRun (sector pages : ℕ) (run : List DiskWrite) (old : DiskState) (slots : Slots) (new : DiskState) : Type 0 where
  pub appended : Appended run old new
  pub makes : Makes no_page run old slots new slots
  pub goes : AreUncovered slots sector pages → Goes (λ m n. n ≡ after_writes run m) no_page run old slots new slots

-- and these sectors had the labels of their turns before
pub record RelabelsOnes (labels : ℕ → Labels) (sector pages : ℕ) (run : List DiskWrite) (old : DiskState) (slots : Slots) (new : DiskState) : Type 0 where
  pub were : (d : List Sector) → old.contents ≡ Some d → HaveOnes labels d sector pages
  pub relabels : RelabelsRun sector pages run old slots new

-- the memory has sectors with the labels of their turns, and no frame has one as its home
abbrev pub AreRight : (ℕ → Labels) → ℕ → ℕ → Slots → List Sector → Type 0
AreRight labels sector pages slots m = AreUncovered slots sector pages × HaveOnes labels m sector pages

-- the first of these writes were made
pub record MadeSome (run : List DiskWrite) (old : DiskState) (slots : Slots) (new : DiskState) : Type 0 where
  pub count : ℕ
  pub within : count ≤ length run
  pub makes : Makes no_page (take count run) old slots new slots

-- and the sectors of these had the labels of their turns
pub record NamedSome (place : ℕ → ℕ) (labels : ℕ → Labels) (run : List DiskWrite) (old : DiskState) (slots : Slots) (new : DiskState) : Type 0 where
  pub count : ℕ
  pub within : count ≤ length run
  pub makes : Makes no_page (take count run) old slots new slots
  pub found : (d : List Sector) → old.contents ≡ Some d → (k : ℕ) → k < count → HasOne (labels k) d (place k)

-- the evidence is the label of one of these sectors, which isn't free
abbrev pub IsOneTaken : ℕ → ℕ → DiskState → Evidence → Type 0
IsOneTaken sector pages disk evidence = (k : ℕ) × (k < pages) × IsTaken (sector + k) disk evidence

-- the evidence is the label of one of these sectors, which doesn't name the page of its turn
abbrev pub IsOneNotOf : ℕ → ℕ → (ℕ → Wanted) → DiskState → Evidence → Type 0
IsOneNotOf sector pages wanted disk evidence = (k : ℕ) × (k < pages) × IsNotOf (sector + k) (wanted k) disk evidence
