-- The steps of a swapper, from what the calls of its disk ensure.
use Rattle.std.specs.Prelude.{◌≡◌, ℕ, ◌<◌, true, false, ◌≢◌, List, [], ◌∷◌, length, Some, None, slice_get, slice_set}
use Rattle.labelled_disk.specs.declared.label.Label.{Label}
use Rattle.labelled_disk.specs.declared.disk.DiskWrite.{DiskWrite}
use Rattle.labelled_disk.specs.declared.disk.DiskWrite.TheVariants as write
use Rattle.labelled_disk.specs.Sectors.{Sector}
use Rattle.labelled_disk.specs.CrashState.{written}
use Rattle.labelled_disk.specs.Permitted.{Permitted}
use Rattle.labelled_disk.specs.Label.{names}
use Rattle.labelled_disk.specs.State.{DiskState, Holds, NamesThere}
use Rattle.labelled_disk.specs.Calls.{RevealsSame, RevealsWrite, Moves}
use Rattle.labelled_disk.specs.Runs.{IsWriteInForm}
use Rattle.frame_pool.specs.declared.home.Home.{Home}
use Rattle.frame_pool.specs.Frames.{Frame, Slots, Has, IsNowhere, frame_at, new_frame, cleaned_at}
use Rattle.swapper_kernel.specs.Homes.{wanted_at}
use Rattle.swapper_kernel.specs.Goes.{Goes, Makes, Swaps, no_page}

-- the write gives this sector a label
abbrev pub IsLabelled : DiskWrite → ℕ → Type 0
IsLabelled (write.Whole sector label page) k = sector ≡ k
IsLabelled (write.LabelOnly sector label) k = sector ≡ k
IsLabelled (write.Page sector wanted page) k = ⊥

pub record StepLaws : Type 0 where
  -- a sector was written whole, or its label alone, whatever stands in frames
  pub label_written : (old new : DiskState) (slots : Slots) (w : DiskWrite) (sector : ℕ) → IsLabelled w sector → IsWriteInForm w → RevealsWrite w old new → Moves old new
      → ((d : List Sector) → old.contents ≡ Some d → Permitted d w) → Makes no_page (w ∷ []) old slots new slots
  -- a sector under no frame was written whole, or its label alone: the memory changes as the disk does
  pub beside_frames : (old new : DiskState) (slots : Slots) (w : DiskWrite) (sector : ℕ) → IsLabelled w sector → IsWriteInForm w → RevealsWrite w old new → Moves old new
      → ((d : List Sector) → old.contents ≡ Some d → Permitted d w × ((s : Sector) × (slice_get d sector ≡ Some s)))
      → ((i : ℕ) (f : Frame) → Has slots i f → f.home.sector ≢ sector) → Goes (λ m n. n ≡ written w m) no_page (w ∷ []) old slots new slots
  -- the disk was read, or failed
  pub read : (old new : DiskState) (slots : Slots) → RevealsSame old new → Moves old new → Swaps old slots new slots
  -- a dirty frame was written to its home, whole, and stays dirty: the call failed
  pub written : (old new : DiskState) (slots : Slots) (i : ℕ) (f : Frame) → Has slots i f → f.dirty ≡ true → 0 < f.home.sector → IsWriteInForm (write.Page f.home.sector (wanted_at f.home) f.bytes)
      → RevealsWrite (write.Page f.home.sector (wanted_at f.home) f.bytes) old new → NamesThere old f.home.sector (wanted_at f.home) true → Moves old new → Swaps old slots new slots
  -- it was written, and is clean
  pub out : (old new : DiskState) (slots : Slots) (i : ℕ) (f : Frame) → Has slots i f → f.dirty ≡ true → 0 < f.home.sector → IsWriteInForm (write.Page f.home.sector (wanted_at f.home) f.bytes)
      → RevealsWrite (write.Page f.home.sector (wanted_at f.home) f.bytes) old new → NamesThere old f.home.sector (wanted_at f.home) true → Moves old new → Swaps old slots new (cleaned_at slots i)
  -- a clean frame was given up
  pub cleared : (disk : DiskState) (slots : Slots) (i : ℕ) → i < length slots → ((f : Frame) → Has slots i f → f.dirty ≡ false) → Swaps disk slots disk (slice_set slots i None)
  -- the page of a home, as the disk has it, was put into an empty slot
  pub put : (disk : DiskState) (slots : Slots) (i : ℕ) (home : Home) (label : Label) (bytes : List ℕ) → i < length slots → frame_at slots i ≡ None → IsNowhere slots home.id home.page
      → Holds disk home.sector (label, bytes) → names label (record { id = home.id; page = home.page }) ≡ true → Swaps disk slots disk (slice_set slots i (Some (new_frame home bytes)))
