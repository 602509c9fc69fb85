-- Why no session starts on a volume that was closed: step by step, from right after its root was read.
use Rattle.std.specs.Prelude.{◌≡◌, ◌⊎◌, ◌<◌, List, [], ◌∷◌, Some}
use Rattle.labelled_disk.specs.declared.evidence.Halt.{Halt}
use Rattle.labelled_disk.specs.declared.evidence.Halt.TheVariants as halt
use Rattle.labelled_disk.specs.Calls.{ReadsAtMost, Rose}
use Rattle.labelled_disk.specs.CrashState.{written}
use Rattle.labelled_disk.specs.Root.{root_page}
use Rattle.labelled_disk.specs.Sectors.{Sector}
use Rattle.labelled_disk.specs.State.{DiskState}
use Rattle.swapper_kernel.specs.declared.manager.Manager.TheVariants.{AllocationMap}
use Rattle.swapper_kernel.specs.Goes.{Goes, no_page}
use Rattle.swapper_kernel.specs.Homes.{IsLayout}
use Rattle.swapper_kernel.specs.Halts.{Halts}
use Rattle.swapper_kernel.specs.Maps.{IsMapHome}
use Rattle.swapper_kernel.specs.Window.{Beside}
use Rattle.volume_root.specs.declared.root.Root.{Root}
use Rattle.volume_root.specs.RootPage.{root_in, root_write}
use Rattle.file_manager.specs.Grounds.{CreateHalts}
use Rattle.file_manager.specs.Making.{MakesAll}
use Rattle.fault_core.specs.Reach.{ReachHalts, no_break}
use Rattle.filer_kernel.specs.View.{View, kept_by}
use Rattle.space_calls.specs.Halts.{After}
use Rattle.pilot_engine.specs.declared.fault.StartFault.{StartFault}
use Rattle.pilot_engine.specs.declared.fault.StartFault.TheVariants.{Root as NoRoot, NoMemory, Halt as Halted}
use Rattle.pilot_engine.specs.Opening.{in_use, IsBare}

-- the root of the volume in use was written, and nothing else changed
abbrev pub Rooted : Root → View → View → Type 0
Rooted root v w = Goes (λ m n. n ≡ written (root_write (in_use root)) m) no_page (root_write (in_use root) ∷ []) v.disk v.slots w.disk w.slots × (w.layout ≡ v.layout)

-- the allocation map was read
abbrev pub Counted : View → View → Type 0
Counted v w = Beside AllocationMap v.disk v.slots v.layout w.disk w.slots w.layout

-- the free sectors are counted
abbrev pub CountHalts : View → View → Halt → Type 0
CountHalts v w e = Halts (IsMapHome AllocationMap v.layout) v.disk v.slots w.disk e

-- the pages of the space tables are made, and what the file map had of them goes first
abbrev pub MakeTablesHalts : View → View → Halt → Type 0
MakeTablesHalts v w e = CreateHalts v.layout 3 (λ page. page < 96) v.disk v.slots w.disk w.slots e

-- they were made
abbrev pub TablesMade : View → View → Type 0
TablesMade v w = MakesAll 3 0 0 96 v.disk v.slots w.disk w.slots × (w.layout ≡ v.layout)

-- the tables of the root alone are written
abbrev pub TablesHalts : View → View → Halt → Type 0
TablesHalts v w e = ReachHalts no_break v w e

-- the root is written, the free sectors are counted, the pages of the space tables are made, and the tables are written
abbrev pub StartHalts : Root → View → View → Halt → Type 0
StartHalts root v w e =
    ((e ≡ halt.Disk) × Rose v.disk.faults w.disk.faults)
    ⊎ After (Rooted root) (λ u x e. CountHalts u x e ⊎ After Counted (λ y x e. MakeTablesHalts y x e ⊎ After TablesMade TablesHalts y x e) u x e) v w e

-- Such a halt, from the disk as the reading of its root left it, with its own layout, no frame over it and no run kept, to this one.
pub record IsStartHalt (old new : DiskState) (e : Halt) : Type 0 where
  pub root : Root
  pub revealed : (d : List Sector) → old.contents ≡ Some d → root ≡ root_in (root_page d)
  pub before : View
  pub read : ReadsAtMost 1 old before.disk
  pub laid : IsLayout before.layout × (before.layout.sectors ≡ old.sectors)
  pub bare : IsBare before.slots
  pub no_runs : kept_by before ≡ []
  pub after : View
  pub left : after.disk ≡ new
  pub halts : StartHalts root before after e

-- where a start halted, it is such a halt
abbrev pub HasStartCause : DiskState → DiskState → StartFault → Type 0
HasStartCause old new (NoRoot why) = Unit {0}
HasStartCause old new NoMemory = Unit {0}
HasStartCause old new (Halted why) = IsStartHalt old new why
