-- What is said of the writes since the last sync, of each on the crash state before it.
use Rattle.std.specs.Prelude.{◌≡◌, ◌≢◌, ℕ, ◌<◌, true, false, List, length, slice_get, Option, Some, option_map}
use Rattle.labelled_disk.specs.declared.disk.DiskWrite.{DiskWrite}
use Rattle.labelled_disk.specs.declared.disk.DiskWrite.TheVariants.{Whole, LabelOnly, Page}
use Rattle.labelled_disk.specs.File.{Page as Cells}
use Rattle.labelled_disk.specs.FilesOn.{page_at}
use Rattle.labelled_disk.specs.Label.{leader_page}
use Rattle.labelled_disk.specs.Layout.{data_sectors}
use Rattle.labelled_disk.specs.CrashState.{crash_state}
use Rattle.labelled_disk.specs.Sectors.{Sector}
use Rattle.label_laws.specs.Mixed.{gives_label}
use Rattle.label_laws.specs.OneFile.{id_of}
use Rattle.cut_laws.specs.Cut.{unit, AtSome}

-- P of each write, on the crash state before it
abbrev pub EachWrite : (List Sector → DiskWrite → Type 0) → List Sector → List DiskWrite → Type 0
EachWrite P d writes = (k : ℕ) (write : DiskWrite) → slice_get writes k ≡ Some write → P (crash_state d writes k) write

-- a label of this file is written, or written over
abbrev pub IsLabelWriteOf : ℕ → List Sector → DiskWrite → Type 0
IsLabelWriteOf id now write = (gives_label write ≡ true) × (id_of now write ≡ id)

-- none is
abbrev pub NoLabelOf : ℕ → List Sector → List DiskWrite → Type 0
NoLabelOf id = EachWrite (λ now write. IsLabelWriteOf id now write → ⊥)

-- bytes for this page of this file
abbrev pub IsPageWriteOf : ℕ → ℕ → DiskWrite → Type 0
IsPageWriteOf id p (Whole sector label page) = ⊥
IsPageWriteOf id p (LabelOnly sector label) = ⊥
IsPageWriteOf id p (Page sector wanted page) = (wanted.id ≡ id) × (wanted.page ≡ p)

-- none is
abbrev pub IsUnwritten : ℕ → ℕ → List Sector → List DiskWrite → Type 0
IsUnwritten id p = EachWrite (λ now write. IsPageWriteOf id p write → ⊥)

-- no bytes under a label that is free
abbrev pub FreeIsUnwritten : List Sector → List DiskWrite → Type 0
FreeIsUnwritten = EachWrite (λ now write. gives_label write ≡ false → id_of now write ≢ 0)

-- the cells of a page: those of the lowest sector that is this page of this file
abbrev pub disk_page : List Sector → ℕ → ℕ → Option Cells
disk_page d id p = page_at (data_sectors d) id p

-- each unit of a page of the file stood there, as that page of it, in some crash state
abbrev pub PagesOfCrashStates : List Sector → List DiskWrite → List Sector → ℕ → Type 0
PagesOfCrashStates d writes e id = (p u : ℕ) (cells : Cells) → p < leader_page → disk_page e id p ≡ Some cells
    → AtSome 0 (length writes) (λ j. option_map (unit u) (disk_page (crash_state d writes j) id p) ≡ Some (unit u cells))
