-- What a call of any layer does to disk and frames: what holds over any contents, and a relation of the memories that
-- they make before and after it.
use Rattle.std.specs.Prelude.{◌≡◌, ◌⊎◌, ◌≤◌, ℕ, Bool, true, false, not, List, [], length, filter, Some, slice_get, Contains}
use Rattle.labelled_disk.specs.declared.label.Wanted.{Wanted}
use Rattle.labelled_disk.specs.declared.disk.DiskWrite.{DiskWrite}
use Rattle.labelled_disk.specs.declared.disk.DiskWrite.TheVariants as write
use Rattle.labelled_disk.specs.Sectors.{Sector}
use Rattle.labelled_disk.specs.State.{DiskState}
use Rattle.labelled_disk.specs.CrashState.{crash_state}
use Rattle.labelled_disk.specs.Permitted.{Permitted}
use Rattle.labelled_disk.specs.Runs.{IsWriteInForm}
use Rattle.labelled_disk.specs.WriteRuns.{Appended}
use Rattle.frame_pool.specs.Frames.{Frame, Slots, Has}
use Rattle.swapper_kernel.specs.Stands.{Stands}

-- some pages of files
abbrev pub Pages : Type 1
Pages = ℕ → ℕ → Type 0

-- no page
abbrev pub no_page : Pages
no_page id page = ⊥

-- this page alone
abbrev pub this_page : ℕ → ℕ → Pages
this_page id page i p = (i ≡ id) × (p ≡ page)

-- a dirty frame has the page
pub record IsDirty (slots : Slots) (id page : ℕ) : Type 0 where
  pub slot : ℕ
  pub frame : Frame
  pub has : Has slots slot frame
  pub dirty : frame.dirty ≡ true
  pub same_id : frame.home.id ≡ id
  pub same_page : frame.home.page ≡ page

-- where the disk revealed its syncs it reveals each of them still
abbrev pub KeepsSyncs : DiskState → DiskState → Type 0
KeepsSyncs old new = (syncs : List ℕ) → old.syncs ≡ Some syncs → (later : List ℕ) × (new.syncs ≡ Some later)
    × ((s : ℕ) → Contains syncs s → Contains later s)

-- the same disk later
pub record Went (old new : DiskState) : Type 0 where
  pub sectors : new.sectors ≡ old.sectors
  pub lent : new.lent ≡ old.lent
  pub syncs : KeepsSyncs old new
  pub faults : old.faults ≤ new.faults
  pub transfers : old.transfers ≤ new.transfers

-- the write is of a page under its label
abbrev pub is_page_write : DiskWrite → Bool
is_page_write (write.Whole sector label bytes) = false
is_page_write (write.LabelOnly sector label) = false
is_page_write (write.Page sector wanted bytes) = true

-- Writes were made, each permitted where it is made. Those of labels are this run, in order. The bytes of a page were written
-- only where a dirty frame had it before, or it is one of these pages.
pub record Wrote (pages : Pages) (run : List DiskWrite) (old : DiskState) (before : Slots) (new : DiskState) : Type 0 where
  pub writes : List DiskWrite
  pub appended : Appended writes old new
  pub form : (k : ℕ) (w : DiskWrite) → slice_get writes k ≡ Some w → IsWriteInForm w
  pub permitted : (d : List Sector) (k : ℕ) (w : DiskWrite) → old.contents ≡ Some d → slice_get writes k ≡ Some w → Permitted (crash_state d writes k) w
  pub labels : filter (λ w. not (is_page_write w)) writes ≡ run
  pub of_dirty : (k sector : ℕ) (wanted : Wanted) (bytes : List ℕ) → slice_get writes k ≡ Some (write.Page sector wanted bytes)
      → IsDirty before wanted.id wanted.page ⊎ pages wanted.id wanted.page

-- Over any contents: the same disk later, with as many frames; only these pages may have become dirty; and labels were
-- written by this run alone.
pub record Makes (pages : Pages) (run : List DiskWrite) (old : DiskState) (before : Slots) (new : DiskState) (after : Slots) : Type 0 where
  pub went : Went old new
  pub dirty : (id page : ℕ) → IsDirty after id page → IsDirty before id page ⊎ pages id page
  pub wrote : Wrote pages run old before new
  pub count : length after ≡ length before

-- a relation of memories, before and after
abbrev pub Change : Type 1
Change = List Sector → List Sector → Type 0

-- the memory is the same
abbrev pub Same : Change
Same m n = n ≡ m

-- That, and for each memory that disk and frames were there is one that they are now, so changed.
pub record Goes (P : Change) (pages : Pages) (run : List DiskWrite) (old : DiskState) (before : Slots) (new : DiskState) (after : Slots) : Type 0 where
  pub makes : Makes pages run old before new after
  pub memory : (m : List Sector) → Stands old before m → (n : List Sector) × Stands new after n × P m n

-- pages are brought in and written out, and the memory stays
abbrev pub Swaps : DiskState → Slots → DiskState → Slots → Type 0
Swaps old before new after = Goes Same no_page [] old before new after
