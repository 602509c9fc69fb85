-- Each part stays where no page of its kind differs.
use Rattle.std.specs.Prelude.{◌≡◌, ℕ, Bool, false, List, length, slice_get}
use Rattle.labelled_disk.specs.Sectors.{Sector}
use Rattle.labelled_disk.specs.File.{File}
use Rattle.file_map.specs.FileMap.{Triples}
use Rattle.file_map.specs.InSectors.{MapNames}
use Rattle.flat_machine.specs.declared.space.Space.{Space}
use Rattle.swapper_kernel.specs.Stands.{labels_of}
use Rattle.swapper_kernel.specs.Kinds.{Kind, SameBut, the_root, the_allocation_map, the_file_map, the_tables, a_file}
use Rattle.session_words.specs.Parts.{HasRoot, MarksFit, HasTriples, HasCells, HasTables, Shapes, HasLabels, HasMapLabels, TablesMeaning, is_marked}

module _ (spaces_of : TablesMeaning) (m n : List Sector) (kinds : Kind → Bool) (same : SameBut kinds m n) where
  pub record Stays : Type 0 where
    pub labels : (shapes : Shapes) → HasLabels (labels_of m) shapes → HasLabels (labels_of n) shapes
    pub map_labels : HasMapLabels (labels_of m) → HasMapLabels (labels_of n)
    pub root : (serial counter room : ℕ) → kinds the_root ≡ false → HasRoot (length m) (slice_get m 0) serial counter room → HasRoot (length n) (slice_get n 0) serial counter room
    pub bits : kinds the_allocation_map ≡ false → MarksFit (is_marked m) (labels_of m) → MarksFit (is_marked n) (labels_of n)
    pub map : (named : Triples) → kinds the_file_map ≡ false → MapNames m named → MapNames n named
    pub triples : (named : Triples) → HasTriples named (labels_of m) → HasTriples named (labels_of n)
    pub cells : (but : ℕ → ℕ → Bool) (files : List File) → kinds a_file ≡ false → HasCells but m files → HasCells but n files
    pub tables : (spaces : List Space) → kinds the_tables ≡ false → HasTables spaces_of m spaces → HasTables spaces_of n spaces
