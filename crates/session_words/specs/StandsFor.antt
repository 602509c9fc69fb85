-- The machine that a disk and the frames over it stand for.
use Rattle.std.specs.Prelude.{ℕ, Bool, List, length, slice_get}
use Rattle.labelled_disk.specs.Sectors.{Sector, AreSectors}
use Rattle.labelled_disk.specs.State.{DiskState}
use Rattle.labelled_disk.specs.FilesOn.{files_on}
use Rattle.labelled_disk.specs.Root.{LabelsRight}
use Rattle.file_map.specs.FileMap.{Triples}
use Rattle.file_map.specs.InSectors.{MapNames}
use Rattle.frame_pool.specs.Frames.{Slots}
use Rattle.flat_machine.specs.Machine.{Machine}
use Rattle.flat_machine.specs.IsMachine.{IsMachine}
use Rattle.flat_machine.specs.Settled.{settled, Agrees, is_unforced}
use Rattle.swapper_kernel.specs.Stands.{Stands, labels_of}
use Rattle.session_words.specs.FrameLaws.{HasFrames}
use Rattle.session_words.specs.Parts.{HasRoot, HasLabels, HasLabelsUpto, HasMapLabels, MarksFit, HasTriples, HasCells, HasTables, DirtyAreLoose, shapes_of, but_none, TablesMeaning, is_marked}

-- a memory stands for a machine, with these bits and these triples
pub record IsForBy (spaces_of : TablesMeaning) (marks : ℕ → Bool) (named : Triples) (memory : List Sector) (m : Machine) : Type 0 where
  pub machine : IsMachine m
  pub sectors : AreSectors memory
  pub root : HasRoot (length memory) (slice_get memory 0) m.serial m.counter m.capacity
  pub map_labels : HasMapLabels (labels_of memory)
  pub labels : HasLabels (labels_of memory) (shapes_of m.files)
  pub bits : MarksFit marks (labels_of memory)
  pub triples : HasTriples named (labels_of memory)
  pub cells : HasCells but_none memory m.files
  pub tables : HasTables spaces_of memory m.spaces

-- a memory stands for a machine: its file map is in form, and with the bits and the triples of its maps it does
pub record IsFor (spaces_of : TablesMeaning) (memory : List Sector) (m : Machine) : Type 0 where
  pub named : Triples
  pub map : MapNames memory named
  pub by : IsForBy spaces_of (is_marked memory) named memory m

-- disk and frames stand for a machine: the memory that they make does, each dirty frame is of a loose page, and each
-- frame of a page of the volume's own or of one that a window shows
pub record StandsFor (spaces_of : TablesMeaning) (disk : DiskState) (slots : Slots) (m : Machine) : Type 0 where
  pub memory : List Sector
  pub stands : Stands disk slots memory
  pub is : IsFor spaces_of memory m
  pub dirty : DirtyAreLoose slots m.unforced
  pub frames : HasFrames slots m.spaces

-- a disk, without its frames, has all of a machine but what is unforced, and so many pages of the space tables
pub record IsSettled (d : List Sector) (m : Machine) : Type 0 where
  pub table_pages : ℕ
  pub machine : IsMachine m
  pub sectors : AreSectors d
  pub root : HasRoot (length d) (slice_get d 0) m.serial m.counter m.capacity
  pub map_labels : HasMapLabels (labels_of d)
  pub labels : HasLabelsUpto table_pages (labels_of d) (shapes_of m.files)
  pub cells : HasCells (is_unforced m.unforced) d m.files

-- the files on the disk are the settled ones, and its labels are right
pub record RevealsSettled (d : List Sector) (m : Machine) : Type 0 where
  pub agrees : Agrees (files_on d) (settled m)
  pub right : LabelsRight d
