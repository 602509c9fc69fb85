-- A session's start on a closed volume: its flag is cleared, the pages of the space tables are made, and the memory stands
-- for the machine of the permanent files.
use Rattle.std.specs.Prelude.{◌≡◌, ◌≢◌, ◌⊎◌, ℕ, ◌*◌, ◌<◌, true, false, List, [], ◌∷◌, length, Some, slice_get}
use Rattle.labelled_disk.specs.Label.{is_free}
use Rattle.labelled_disk.specs.Layout.{capacity, data_sectors, vam}
use Rattle.labelled_disk.specs.Lowest.{is_needed}
use Rattle.labelled_disk.specs.Sectors.{Sector, AreSectors}
use Rattle.labelled_disk.specs.Root.{LabelsRight, serial_of, counter_of}
use Rattle.file_map.specs.FileMap.{Triples}
use Rattle.file_map.specs.InSectors.{MapNames}
use Rattle.flat_machine.specs.Space.{root}
use Rattle.flat_machine.specs.Start.{start}
use Rattle.swapper_kernel.specs.Stands.{labels_of}
use Rattle.swapper_kernel.specs.Kinds.{SameBut, tables_alone}
use Rattle.session_words.specs.Parts.{TablesMeaning, HasRoot, MarksFit, HasTriples, HasTables, is_marked}
use Rattle.session_words.specs.GrowLaws.{GrowsPages, grown_marks, grown_names}
use Rattle.session_words.specs.StandsFor.{IsFor}

-- the volume can be opened: its labels are right, each data sector is free or needed, and both maps say so
pub record CanOpen (d : List Sector) : Type 0 where
  pub sectors : AreSectors d
  pub right : LabelsRight d
  pub free_or_needed : (i : ℕ) (s : Sector) → slice_get (data_sectors d) i ≡ Some s → (is_free s.0 ≡ true) ⊎ (is_needed false (data_sectors d) i ≡ true)
  pub bits : MarksFit (is_marked d) (labels_of d)
  pub named : Triples
  pub map : MapNames d named
  pub triples : HasTriples named (labels_of d)

-- the root has its flag cleared, and all else is the same
pub record FlagCleared (d x : List Sector) : Type 0 where
  pub long : length x ≡ length d
  pub others : (k : ℕ) → k ≢ 0 → slice_get x k ≡ slice_get d k
  pub root_open : HasRoot (length x) (slice_get x 0) (serial_of d) (counter_of d) (capacity (length d))

-- the 96 pages of the space tables come into free sectors, and the maps say so
pub record TablesMade (is : List ℕ) (x y : List Sector) : Type 0 where
  pub count : length is ≡ 96
  pub grown : GrowsPages 3 0 0 is x y
  pub bits : (k : ℕ) → k < 4096 * vam (length x) → is_marked y k ≡ grown_marks is (is_marked x) k
  pub triples : (named : Triples) → MapNames x named → MapNames y (grown_names 3 0 is named)

-- they are given bytes that mean the root space alone
pub record TablesBegun (spaces_of : TablesMeaning) (y z : List Sector) : Type 0 where
  pub same : SameBut tables_alone y z
  pub sectors : AreSectors z
  pub tables : HasTables spaces_of z (root ∷ [])

-- so the session stands for the machine that the disk starts
abbrev pub Opened : TablesMeaning → Type 0
Opened spaces_of = (d x y z : List Sector) (is : List ℕ) → CanOpen d → FlagCleared d x → TablesMade is x y → TablesBegun spaces_of y z → IsFor spaces_of z (start d)
