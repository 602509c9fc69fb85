-- Calls that write no label.
use Rattle.std.specs.Prelude.{◌≡◌, ℕ, Bool, true, false, List, ◌++◌, Some, slice_get}
use Rattle.labelled_disk.specs.declared.disk.DiskWrite.{DiskWrite}
use Rattle.labelled_disk.specs.State.{DiskState}
use Rattle.flat_machine.specs.declared.call.Call.{Call}
use Rattle.flat_machine.specs.declared.call.Call.TheVariants as call
use Rattle.swapper_kernel.specs.Goes.{is_page_write}

-- a call that asks, or one on spaces that makes no file and takes none away
abbrev pub keeps_labels : Call → Bool
keeps_labels (call.Attributes id) = true
keeps_labels (call.Next id) = true
keeps_labels call.Volume = true
keeps_labels (call.MakeSpace parent pages first) = true
keeps_labels (call.RemoveSpace space) = true
keeps_labels (call.Place page) = true
keeps_labels (call.Units space pages) = true
keeps_labels (call.Map space id page writable) = true
keeps_labels (call.Protect space writable) = true
keeps_labels (call.Load address count) = true
keeps_labels (call.Store address bytes) = true
keeps_labels (call.Activate space) = true
keeps_labels (call.Deactivate space) = true
keeps_labels (call.Kill space) = true
keeps_labels (call.ForceOut space) = true
keeps_labels other = false

-- from the one state to the other no label was written, and bytes only under the label that stood there
pub record WritesPagesAlone (old new : DiskState) : Type 0 where
  pub pages : (before writes : List DiskWrite) → old.writes ≡ Some before → new.writes ≡ Some (before ++ writes)
      → (k : ℕ) (w : DiskWrite) → slice_get writes k ≡ Some w → is_page_write w ≡ true
