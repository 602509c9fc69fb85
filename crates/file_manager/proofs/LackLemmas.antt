-- That a call reveals no page as missing.
use Rattle.std.proofs.Common.{ℕ}
use Rattle.labelled_disk.specs.declared.evidence.Evidence.TheVariants.{Mismatch, Malformed, Missing}
use Rattle.labelled_disk.specs.declared.evidence.Halt.{Halt}
use Rattle.labelled_disk.specs.declared.evidence.Halt.TheVariants.{Disk, Damaged}
use Rattle.labelled_disk.specs.declared.layout.Layout.{Layout}
use Rattle.labelled_disk.specs.State.{DiskState}
use Rattle.frame_pool.specs.Frames.{Slots}
use Rattle.swapper_kernel.specs.Halts.{HasCause, Halts}
use Rattle.swapper_kernel.specs.Homes.{Homes}
use Rattle.label_calls.specs.Runs.{IsOneNotOf}
use Rattle.labelled_disk.specs.declared.label.Wanted.{Wanted}
use Rattle.filer_kernel.specs.Causes.{CutHalts, MapHalts}
use Rattle.file_manager.specs.Reasons.{MissesNone}

-- a search of the map does not
pub search_misses_none : (layout : Layout) (old : DiskState) (before : Slots) (new : DiskState) (halt : Halt) → MapHalts layout old before new halt → MissesNone halt
search_misses_none layout old before new Disk is = tt
search_misses_none layout old before new (Damaged (Mismatch sector wanted found)) is = tt
search_misses_none layout old before new (Damaged (Malformed structure page)) is = tt
search_misses_none layout old before new (Damaged (Missing id page)) is = absurd is

-- nor does a look at labels in a row
pub labels_lack_none : (first count : ℕ) (wanted : ℕ → Wanted) (on old new : DiskState) (halt : Halt) → HasCause (IsOneNotOf first count wanted on) old new halt → MissesNone halt
labels_lack_none first count wanted on old new Disk is = tt
labels_lack_none first count wanted on old new (Damaged (Mismatch sector label found)) is = tt
labels_lack_none first count wanted on old new (Damaged (Malformed structure page)) is = tt
labels_lack_none first count wanted on old new (Damaged (Missing id page)) (k, below, is) = absurd is

-- nor a change of a map
pub marks_lack_none : (homes : Homes) (old : DiskState) (before : Slots) (new : DiskState) (halt : Halt) → Halts homes old before new halt → MissesNone halt
marks_lack_none homes old before new Disk is = tt
marks_lack_none homes old before new (Damaged (Mismatch sector wanted found)) is = tt
marks_lack_none homes old before new (Damaged (Malformed structure page)) is = tt
marks_lack_none homes old before new (Damaged (Missing id page)) is = absurd is

-- nor a cut of the file map
pub cut_misses_none : (layout : Layout) (old : DiskState) (before : Slots) (new : DiskState) (after : Slots) (halt : Halt) → CutHalts layout old before new after halt → MissesNone halt
cut_misses_none layout old before new after Disk is = tt
cut_misses_none layout old before new after (Damaged (Mismatch sector wanted found)) is = tt
cut_misses_none layout old before new after (Damaged (Malformed structure page)) is = tt
cut_misses_none layout old before new after (Damaged (Missing id page)) is = absurd is
