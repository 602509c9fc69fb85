-- Causes of which none is that a page of the space tables breaks its form.
use Rattle.std.proofs.Common.{inl, inr, ℕ, List}
use Rattle.labelled_disk.specs.declared.evidence.Evidence.TheVariants.{Mismatch, Malformed, Missing}
use Rattle.labelled_disk.specs.StructureLaws.{map_or_tables}
use Rattle.labelled_disk.specs.declared.evidence.Halt.{Halt}
use Rattle.labelled_disk.specs.declared.evidence.Halt.TheVariants as halt
use Rattle.labelled_disk.specs.declared.layout.Layout.{Layout}
use Rattle.labelled_disk.specs.State.{DiskState}
use Rattle.frame_pool.specs.Frames.{Slots}
use Rattle.file_map.specs.declared.run.Run.{Run}
use Rattle.swapper_kernel.specs.Halts.{Halts}
use Rattle.swapper_kernel.specs.Homes.{Homes}
use Rattle.file_manager.specs.Grounds.{CreateHalts, CutFileHalts}
use Rattle.running_words.specs.Blameless.{NeverBlamesForm}

-- a fault of the disk, or a label
pub label_form : (homes : Homes) (old : DiskState) (slots : Slots) (new : DiskState) (e : Halt) → Halts homes old slots new e → NeverBlamesForm e
label_form homes old slots new halt.Disk is = tt
label_form homes old slots new (halt.Damaged (Mismatch sector wanted found)) is = tt
label_form homes old slots new (halt.Damaged (Malformed structure page)) is = absurd is
label_form homes old slots new (halt.Damaged (Missing id page)) is = tt

-- pages of a file are freed, and the file is cut: so it is there too
pub cut_form : (given : Type 0) (layout : Layout) (kept : List Run) (id from : ℕ) (pages : ℕ → Type 0) (old : DiskState) (before : Slots) (new : DiskState) (e : Halt) → CutFileHalts given layout kept id from pages old before new e → NeverBlamesForm e
cut_form given layout kept id from pages old before new halt.Disk is = tt
cut_form given layout kept id from pages old before new (halt.Damaged (Mismatch sector wanted found)) is = tt
cut_form given layout kept id from pages old before new (halt.Damaged (Malformed structure page)) is = elim is [ inl free ↦ map_or_tables structure free.0 | inr out ↦ map_or_tables structure out.0 ]
cut_form given layout kept id from pages old before new (halt.Damaged (Missing missing page)) is = tt

-- a file is created: a page of the file map breaks its form, if any does
pub create_form : (layout : Layout) (id : ℕ) (wanted : ℕ → Type 0) (old : DiskState) (before : Slots) (new : DiskState) (after : Slots) (e : Halt) → CreateHalts layout id wanted old before new after e → NeverBlamesForm e
create_form layout id wanted old before new after halt.Disk is = tt
create_form layout id wanted old before new after (halt.Damaged (Mismatch sector label found)) is = tt
create_form layout id wanted old before new after (halt.Damaged (Malformed structure page)) is = map_or_tables structure is.0
create_form layout id wanted old before new after (halt.Damaged (Missing missing page)) is = tt
