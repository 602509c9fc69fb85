-- What the elementary moves of frames and disk do to the memory that both make.
use Rattle.std.specs.Prelude.{◌≡◌, ◌≢◌, ℕ, ◌<◌, true, false, List, length, None, Some, slice_get, slice_set}
use Rattle.labelled_disk.specs.declared.label.Label.{Label}
use Rattle.labelled_disk.specs.declared.disk.DiskWrite.TheVariants as write
use Rattle.labelled_disk.specs.Label.{names}
use Rattle.labelled_disk.specs.Sectors.{Sector}
use Rattle.labelled_disk.specs.CrashState.{written}
use Rattle.frame_pool.specs.declared.home.Home.{Home}
use Rattle.frame_pool.specs.Frames.{Frame, Slots, Has, IsNowhere, HasDistinct, frame_at, new_frame, changed_at, cleaned_at}
use Rattle.flat_mem.specs.Memory.{overwritten}
use Rattle.swapper_kernel.specs.Homes.{wanted_at}
use Rattle.swapper_kernel.specs.Stands.{IsMerged}

module _ (sectors : List Sector) (slots : Slots) (memory : List Sector) where
  pub record MoveLaws : Type 0 where
    -- a slot without a dirty frame is emptied: the memory stays
    pub cleared : (i : ℕ) → i < length slots → ((f : Frame) → Has slots i f → f.dirty ≡ false) → IsMerged sectors slots memory → IsMerged sectors (slice_set slots i None) memory
    -- the page of a home is put into an empty slot: the memory stays
    pub put : (i : ℕ) (home : Home) (label : Label) (bytes : List ℕ) → i < length slots → frame_at slots i ≡ None → IsNowhere slots home.id home.page
        → slice_get sectors home.sector ≡ Some (label, bytes) → names label (record { id = home.id; page = home.page }) ≡ true
        → IsMerged sectors slots memory → IsMerged sectors (slice_set slots i (Some (new_frame home bytes))) memory
    -- the page of a frame is written to its home: the memory stays
    pub written_out : (i : ℕ) (f : Frame) → Has slots i f → IsMerged sectors slots memory → IsMerged (written (write.Page f.home.sector (wanted_at f.home) f.bytes) sectors) slots memory
    -- a frame whose home has its bytes is clean: the memory stays
    pub cleaned : (i : ℕ) (f : Frame) → Has slots i f → slice_get sectors f.home.sector ≡ slice_get memory f.home.sector
        → IsMerged sectors slots memory → IsMerged sectors (cleaned_at slots i) memory
    -- bytes of a frame change: the memory changes at its home
    pub changed : (i : ℕ) (f : Frame) (s : Sector) (at : ℕ) (bytes : List ℕ) → Has slots i f → HasDistinct slots → slice_get memory f.home.sector ≡ Some s
        → IsMerged sectors slots memory → IsMerged sectors (changed_at slots i at bytes) (slice_set memory f.home.sector (s.0, overwritten s.1 at bytes))
    -- a frame is given up, dirty or not: the memory has what the disk has there
    pub dropped : (i : ℕ) (f : Frame) (s : Sector) → Has slots i f → HasDistinct slots → slice_get sectors f.home.sector ≡ Some s
        → IsMerged sectors slots memory → IsMerged sectors (slice_set slots i None) (slice_set memory f.home.sector s)
    -- a sector under no frame gets another label and page, on the disk and in the memory alike
    pub relabelled : (k : ℕ) (old new : Sector) → slice_get sectors k ≡ Some old → ((i : ℕ) (f : Frame) → Has slots i f → f.home.sector ≢ k)
        → IsMerged sectors slots memory → IsMerged (slice_set sectors k new) slots (slice_set memory k new)
