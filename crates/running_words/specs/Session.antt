-- The machine that a session stands for.
use Rattle.std.specs.Prelude.{◌≡◌, ◌⊎◌, ℕ, ◌≤◌, ◌==◌, List, [], ◌∷◌, length, None, Some, find}
use Rattle.labelled_disk.specs.declared.disk.DiskWrite.{DiskWrite}
use Rattle.labelled_disk.specs.declared.disk.DiskWrite.TheVariants as write
use Rattle.labelled_disk.specs.declared.layout.Layout.{Layout}
use Rattle.labelled_disk.specs.Root.{short_at}
use Rattle.labelled_disk.specs.Sectors.{Sector, AreSectors}
use Rattle.labelled_disk.specs.State.{DiskState}
use Rattle.volume_root.specs.RootPage.{IsValidRoot}
use Rattle.frame_pool.specs.Frames.{Slots}
use Rattle.flat_machine.specs.declared.call.Call.{Call}
use Rattle.flat_machine.specs.declared.call.Reply.{Reply}
use Rattle.flat_machine.specs.Machine.{Machine, used}
use Rattle.flat_machine.specs.Allows.{Allows}
use Rattle.flat_machine.specs.Next.{next}
use Rattle.flat_machine.specs.declared.space.Space.{Space}
use Rattle.flat_machine.specs.Space.{root, has_window}
use Rattle.swapper_kernel.specs.Stands.{Stands, labels_of}
use Rattle.swapper_kernel.specs.Goes.{Makes, Pages}
use Rattle.filer_kernel.specs.declared.cached.CachedRuns.{CachedRuns}
use Rattle.filer_kernel.specs.Cached.{runs_of}
use Rattle.session_words.specs.Parts.{TablesMeaning}
use Rattle.session_words.specs.StandsFor.{StandsFor}
use Rattle.session_words.specs.Volume.{volume_page}
use Rattle.file_manager.specs.declared.volume.Volume.{Volume}
use Rattle.file_manager.specs.Book.{AreTrue}

-- the disk's sectors are in form, where it reveals them
abbrev pub AreInForm : DiskState → Type 0
AreInForm old = (d : List Sector) → old.contents ≡ Some d → AreSectors d

-- the volume is that of the layout, its root may be written, and its files have room
pub record IsOpen (layout : Layout) (volume : Volume) : Type 0 where
  pub same_layout : volume.layout ≡ layout
  pub valid : IsValidRoot layout.sectors volume.root
  pub room : volume.used ≤ layout.capacity

-- what a session keeps beside disk and frames is so of the memory that they make: its length, and the runs that were found
pub record IsKept (layout : Layout) (runs : CachedRuns) (memory : List Sector) : Type 0 where
  pub long : length memory ≡ layout.sectors
  pub true_runs : AreTrue (labels_of memory) (runs_of layout.sectors runs)

-- Disk, frames and what a session keeps beside them stand for a machine.
pub record IsSession (spaces_of : TablesMeaning) (disk : DiskState) (slots : Slots) (layout : Layout) (runs : CachedRuns) (volume : Volume) (m : Machine) : Type 0 where
  pub stands : StandsFor spaces_of disk slots m
  pub kept : (x : List Sector) → Stands disk slots x → IsKept layout runs x
  pub same_serial : volume.root.serial ≡ m.serial
  pub same_counter : volume.root.counter ≡ m.counter
  pub same_used : volume.used ≡ used m

-- and it has no space but the root
pub record IsAlone (spaces_of : TablesMeaning) (disk : DiskState) (slots : Slots) (layout : Layout) (runs : CachedRuns) (volume : Volume) (m : Machine) : Type 0 where
  pub session : IsSession spaces_of disk slots layout runs volume m
  pub alone : m.spaces ≡ root ∷ []

-- no window shows the file
abbrev pub IsUnseen : List Space → ℕ → Type 0
IsUnseen spaces id = find (has_window (λ w. w.file == id)) spaces ≡ None

-- the machine allows the reply, and what the call left stands for the machine after it
pub record Carries (spaces_of : TablesMeaning) (m : Machine) (call : Call) (reply : Reply) (disk : DiskState) (slots : Slots) (layout : Layout) (runs : CachedRuns) (volume : Volume) : Type 0 where
  pub allowed : Allows m call reply
  pub stands : IsSession spaces_of disk slots layout runs volume (next m call)

-- a root among these writes has the clean flag 0
abbrev pub AreOpen : List DiskWrite → Type 0
AreOpen [] = Unit {0}
AreOpen (write.Whole sector label page ∷ ws) = (short_at page 10 ≡ 0) × AreOpen ws
AreOpen (write.LabelOnly sector label ∷ ws) = AreOpen ws
AreOpen (write.Page sector wanted page ∷ ws) = AreOpen ws

-- over any contents: the writes were permitted, each where it is made, none of them sets the clean flag, and no page but these
-- became dirty
pub record WroteIn (pages : Pages) (old : DiskState) (before : Slots) (new : DiskState) (after : Slots) : Type 0 where
  pub labels : List DiskWrite
  pub makes : Makes pages labels old before new after
  pub opens : AreOpen labels

-- no page but those of the volume's own
abbrev pub Wrote : DiskState → Slots → DiskState → Slots → Type 0
Wrote old before new after = WroteIn volume_page old before new after

-- the first of some writes, if there is one, is this
abbrev pub BeginWith : DiskWrite → List DiskWrite → Type 0
BeginWith w writes = (writes ≡ []) ⊎ ((rest : List DiskWrite) × (writes ≡ w ∷ rest))
