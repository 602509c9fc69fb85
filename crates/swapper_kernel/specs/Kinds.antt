-- Of which part of a volume a sector is, by its place and its label.
use Rattle.std.specs.Prelude.{◌≡◌, ℕ, Bool, true, false, ◌==◌, nat_le, nat_lt, if◌then◌else◌, List, length, Some, slice_get}
use Rattle.labelled_disk.specs.declared.label.Label.{Label}
use Rattle.labelled_disk.specs.Label.{is_file}
use Rattle.labelled_disk.specs.Layout.{vam, first_data}
use Rattle.labelled_disk.specs.Sectors.{Sector}
use Rattle.swapper_kernel.specs.Differs.{Differs}

pub data Kind : Type 0 where
  the_root : Kind
  the_allocation_map : Kind
  the_file_map : Kind
  the_tables : Kind
  a_file : Kind
  unused : Kind

-- on a volume of n sectors, the part that the sector with this label is of
unfoldable pub kind_of : ℕ → ℕ → Label → Kind
kind_of n place label =
    if place == 0 then the_root
    else (if nat_le place (vam n) then the_allocation_map
    else (if nat_lt place (first_data n) then the_file_map
    else (if label.id == 3 then the_tables
    else (if is_file label then a_file else unused))))

-- the sector is there, and is of this kind
pub record HasKind (memory : List Sector) (place : ℕ) (s : Sector) (kind : Kind) : Type 0 where
  pub here : slice_get memory place ≡ Some s
  pub is : kind_of (length memory) place s.0 ≡ kind

-- a test for sectors of some kinds
abbrev pub of_kinds : ℕ → (Kind → Bool) → ℕ → Label → Bool
of_kinds n kinds place label = kinds (kind_of n place label)

-- the labels are the same, and so are all pages but those of some kinds
abbrev pub SameBut : (Kind → Bool) → List Sector → List Sector → Type 0
SameBut kinds m n = Differs (of_kinds (length m) kinds) m n

-- one kind alone
abbrev pub files_alone : Kind → Bool
files_alone a_file = true
files_alone kind = false

abbrev pub tables_alone : Kind → Bool
tables_alone the_tables = true
tables_alone kind = false

-- both maps
abbrev pub maps_alone : Kind → Bool
maps_alone the_allocation_map = true
maps_alone the_file_map = true
maps_alone kind = false
