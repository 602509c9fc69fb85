-- What a pair shows of one volume: a disk, the frames over it and the runs that are kept, as a filer shows them.
use Rattle.std.specs.Prelude.{◌≡◌, ◌⊎◌, ℕ, ◌<◌, true, false, List, [], length, Some, slice_get, MatchResult, Result}
use Rattle.labelled_disk.specs.declared.disk.DiskWrite.{DiskWrite}
use Rattle.labelled_disk.specs.declared.evidence.Halt.{Halt}
use Rattle.labelled_disk.specs.declared.evidence.Halt.TheVariants as halt
use Rattle.labelled_disk.specs.declared.label.Label.{Label}
use Rattle.labelled_disk.specs.Calls.{Rose}
use Rattle.labelled_disk.specs.File.{File}
use Rattle.labelled_disk.specs.FilesOn.{files_on}
use Rattle.labelled_disk.specs.Sectors.{Sector}
use Rattle.labelled_disk.specs.State.{DiskState}
use Rattle.label_calls.specs.Synced.{SyncsAround}
use Rattle.frame_pool.specs.Frames.{Slots}
use Rattle.swapper_kernel.specs.Goes.{IsDirty, Pages, no_page}
use Rattle.swapper_kernel.specs.Stands.{labels_of}
use Rattle.filer_kernel.specs.Evidence.{ShowsEvidence}
use Rattle.filer_kernel.specs.View.{View, HasMemory, MakesOnly, kept_by}
use Rattle.session_words.specs.FrameLaws.{HasFrames}
use Rattle.session_words.specs.OpenLaws.{CanOpen}
use Rattle.session_words.specs.Parts.{Shapes, IsTriple}
use Rattle.file_manager.specs.Book.{AreTrue, BooksUpto}
use Rattle.volume_pair.specs.Owned.{WritesFor, this_file}
use Rattle.volume_pair.specs.declared.fault.PairHalt.{PairHalt}

-- no frame is dirty
abbrev pub AreClean : Slots → Type 0
AreClean slots = (id page : ℕ) → IsDirty slots id page → ⊥

-- Over any contents: pages came into frames, none of them dirty, and nothing was written but pages of frames that were dirty.
pub record IsLookedAt (v w : View) : Type 0 where
  pub makes : MakesOnly no_page [] v w
  pub layout : w.layout ≡ v.layout

-- the pages of this file, and those of the volume's own
abbrev pub with_own : ℕ → Pages
with_own file id page = (id < 4) ⊎ (id ≡ file)

-- Over any contents: bytes were written, to pages of this file and of the volume's own alone, but for pages of frames that were
-- dirty; no label was.
pub record WritesPages (file : ℕ) (v w : View) : Type 0 where
  pub makes : MakesOnly (with_own file) [] v w
  pub layout : w.layout ≡ v.layout

-- Over any contents: writes were made, each permitted where it is made. Bytes were written to pages of this file and of the
-- volume's own alone, but for pages of frames that were dirty; and labels of this file alone.
pub record IsWrittenFor (file : ℕ) (v w : View) : Type 0 where
  pub labels : List DiskWrite
  pub makes : MakesOnly (with_own file) labels v w
  pub layout : w.layout ≡ v.layout
  pub own : WritesFor (this_file file) v w

-- Over any contents: each label that became that of a permanent file's leader, or was written over one, came right after a sync, and
-- where such a leader went there was one right after, too; but what halted may end with a label.
abbrev pub SyncsSecond : {T : Type 0} → Result T PairHalt → DiskState → DiskState → Type 0
SyncsSecond result old new = MatchResult result (λ x. SyncsAround false old new) (λ e. SyncsAround true old new)

-- The halt is a fault of the disk only where the disk counted one, and its evidence of damage is so of the disk.
pub record ShowsWhy (v w : View) (e : Halt) : Type 0 where
  pub counted : e ≡ halt.Disk → Rose v.disk.faults w.disk.faults
  pub evidence_seen : ShowsEvidence w.disk e

-- Disk and frames make this memory, whose labels are those of files of these shapes, and both maps say so. No frame is of a
-- page of a file.
abbrev pub HasBooks : View → Shapes → List Sector → Type 0
HasBooks v shapes memory = BooksUpto 0 v.disk v.slots v.layout v.runs shapes [] memory

-- the page of the file has these bytes
pub record HasPageBytes (memory : List Sector) (id page : ℕ) (bytes : List ℕ) : Type 0 where
  pub sector : ℕ
  pub label : Label
  pub here : slice_get memory sector ≡ Some (label, bytes)
  pub triple : IsTriple (labels_of memory) id page sector

-- Disk and frames make this memory, whose volume can be opened and has these files. No frame is of a page of a file, and the
-- runs that are kept are true.
pub record IsSide (v : View) (files : List File) (memory : List Sector) : Type 0 where
  pub stands : HasMemory v memory
  pub long : length memory ≡ v.layout.sectors
  pub can_open : CanOpen memory
  pub files_are : files_on memory ≡ files
  pub frames : HasFrames v.slots []
  pub kept : AreTrue (labels_of memory) (kept_by v)
