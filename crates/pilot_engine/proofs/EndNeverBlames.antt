-- What an end reports as missing is no page of the space tables.
use Rattle.std.proofs.Common.{◌≢◌, inl, inr, ℕ, ◌≤◌, ◌≡◌, arith}
use Rattle.labelled_disk.specs.declared.evidence.Evidence.TheVariants.{Mismatch, Malformed, Missing}
use Rattle.labelled_disk.specs.declared.evidence.Halt.{Halt}
use Rattle.labelled_disk.specs.declared.evidence.Halt.TheVariants as halt
use Rattle.labelled_disk.specs.declared.layout.Layout.{Layout}
use Rattle.labelled_disk.specs.State.{DiskState}
use Rattle.frame_pool.specs.Frames.{Slots}
use Rattle.swapper_kernel.specs.Halts.{Halts}
use Rattle.swapper_kernel.specs.Homes.{Homes}
use Rattle.filer_kernel.specs.Causes.{MapHalts}
use Rattle.file_manager.specs.Reasons.{MissesNone, InitialState}
use Rattle.filer_kernel.specs.View.{View}
use Rattle.space_calls.specs.Halts.{LookHalts}
use Rattle.pilot_engine.specs.Halting.{RemoveHalts}
use Rattle.pilot_engine.specs.Reasons.{IsBlameless, NeverBlamesEnd}

-- the halt is not that a page of the space tables is missing
abbrev pub MissesNoTable : Halt → Type 0
MissesNoTable halt.Disk = Unit {0}
MissesNoTable (halt.Damaged (Mismatch sector wanted found)) = Unit {0}
MissesNoTable (halt.Damaged (Malformed structure page)) = Unit {0}
MissesNoTable (halt.Damaged (Missing id page)) = id ≢ 3

-- what is blameless as in a step is blameless as at an end then
pub end_blameless : (o : InitialState) (disk : DiskState) (e : Halt) → IsBlameless o disk e → MissesNoTable e → NeverBlamesEnd o disk e
end_blameless o disk halt.Disk is none = (tt, tt)
end_blameless o disk (halt.Damaged (Mismatch sector wanted found)) is none = (tt, tt)
end_blameless o disk (halt.Damaged (Malformed structure page)) is none = is
end_blameless o disk (halt.Damaged (Missing id page)) is none = (none, is.1)

-- none is missing
pub none_no_table : (e : Halt) → MissesNone e → MissesNoTable e
none_no_table halt.Disk is = tt
none_no_table (halt.Damaged (Mismatch sector wanted found)) is = tt
none_no_table (halt.Damaged (Malformed structure page)) is = tt
none_no_table (halt.Damaged (Missing missing page)) is = absurd is

-- a search of the map reveals none, nor does a look at a file
pub search_no_table : (layout : Layout) (old : DiskState) (before : Slots) (new : DiskState) (e : Halt) → MapHalts layout old before new e → MissesNoTable e
search_no_table layout old before new halt.Disk is = tt
search_no_table layout old before new (halt.Damaged (Mismatch sector wanted found)) is = tt
search_no_table layout old before new (halt.Damaged (Malformed structure page)) is = tt
search_no_table layout old before new (halt.Damaged (Missing missing page)) is = absurd is

pub look_no_table : (id : ℕ) (v w : View) (e : Halt) → LookHalts id v w e → MissesNoTable e
look_no_table id v w halt.Disk is = tt
look_no_table id v w (halt.Damaged (Mismatch sector wanted found)) is = tt
look_no_table id v w (halt.Damaged (Malformed structure page)) is = tt
look_no_table id v w (halt.Damaged (Missing missing page)) is = elim is [ inl map ↦ absurd map | inr none ↦ absurd none.other ]

-- nor do labels
pub label_no_table : (homes : Homes) (old : DiskState) (slots : Slots) (new : DiskState) (e : Halt) → Halts homes old slots new e → MissesNoTable e
label_no_table homes old slots new halt.Disk is = tt
label_no_table homes old slots new (halt.Damaged (Mismatch sector wanted found)) is = tt
label_no_table homes old slots new (halt.Damaged (Malformed structure page)) is = tt
label_no_table homes old slots new (halt.Damaged (Missing missing page)) is = absurd is

-- a client's file is not that of the space tables
apart : (id : ℕ) → 16 ≤ id → (missing : ℕ) → missing ≡ id → missing ≢ 3
apart id client missing same third = omega (arith, client, same, third)

-- a deletion reveals pages of its own file alone
pub remove_no_table : (id : ℕ) → 16 ≤ id → (v w : View) (e : Halt) → RemoveHalts id v w e → MissesNoTable e
remove_no_table id client v w halt.Disk is = tt
remove_no_table id client v w (halt.Damaged (Mismatch sector wanted found)) is = tt
remove_no_table id client v w (halt.Damaged (Malformed structure page)) is = tt
remove_no_table id client v w (halt.Damaged (Missing missing page)) is = elim is [ inl free ↦ apart id client missing free.0 | inr out ↦ absurd out ]
