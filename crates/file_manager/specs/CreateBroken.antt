-- What a creation that stopped has written.
use Rattle.std.specs.Prelude.{ℕ, ◌+◌, ◌≤◌, List, [], ◌∷◌, ◌++◌, length, take}
use Rattle.labelled_disk.specs.declared.disk.DiskWrite.{DiskWrite}
use Rattle.labelled_disk.specs.Runs.{creation}
use Rattle.labelled_disk.specs.Sectors.{Sector}
use Rattle.labelled_disk.specs.State.{DiskState}
use Rattle.label_laws.specs.PermittedOrders.{AreApart}
use Rattle.frame_pool.specs.Frames.{Slots}
use Rattle.swapper_kernel.specs.Goes.{Makes}
use Rattle.swapper_kernel.specs.Stands.{labels_of}
use Rattle.session_words.specs.GrowLaws.{IsFree}
use Rattle.session_words.specs.Volume.{volume_page}

-- the leader of a file in the first of these sectors, and its pages in those after it
abbrev pub file_in : ℕ → ℕ → List ℕ → List DiskWrite
file_in id kind [] = []
file_in id kind (leader ∷ is) = creation id kind leader is

-- These writes and then the labels of such a file, the first of them, were written: in different sectors that were free in
-- this memory, one for the leader and one for each of so many pages, or fewer.
pub record CreatedSome (prefix : List DiskWrite) (id kind pages : ℕ) (memory : List Sector) (old : DiskState) (before : Slots) (new : DiskState) (after : Slots) : Type 0 where
  pub sectors : List ℕ
  pub few : length sectors ≤ pages + 1
  pub free : AreApart (IsFree (labels_of memory)) sectors
  pub count : ℕ
  pub makes : Makes volume_page (take count (prefix ++ file_in id kind sectors)) old before new after
