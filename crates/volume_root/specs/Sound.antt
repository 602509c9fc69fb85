-- A sound volume: it is closed, and its maps say what its labels say.
use Rattle.std.specs.Prelude.{◌≡◌, ◌⊎◌, ℕ, ◌<◌, ◌≤◌, true, false, not, List, length, take, drop, slice_get, Some}
use Rattle.std.specs.List.{flat_map}
use Rattle.labelled_disk.specs.Label.{is_free}
use Rattle.labelled_disk.specs.Sectors.{Sector}
use Rattle.labelled_disk.specs.Layout.{data_sectors, first_data, vam}
use Rattle.labelled_disk.specs.Lowest.{is_needed}
use Rattle.labelled_disk.specs.Root.{LabelsRight, root_page, short_at}
use Rattle.labelled_disk.specs.WriteLaws.{HasData}
use Rattle.alloc_map.specs.Bits.{is_used}
use Rattle.file_map.specs.InSectors.{MapNames, label_triples}

-- the bytes of the allocation map, over its pages in order
abbrev pub map_bytes : List Sector → List ℕ
map_bytes d = flat_map (λ s. s.1) (take (vam (length d)) (drop 1 d))

-- the allocation map has the bits of root and maps, that of a data sector where its label isn't free, and no others
pub record HasBits (d : List Sector) : Type 0 where
  pub low : (i : ℕ) → i < first_data (length d) → is_used (map_bytes d) i ≡ true
  pub by_label : (i : ℕ) (s : Sector) → HasData d i s → is_used (map_bytes d) i ≡ not (is_free s.0)
  pub past : (i : ℕ) → length d ≤ i → is_used (map_bytes d) i ≡ false

-- The file map names the pages that the labels name, and no others.
abbrev pub HasFileMap : List Sector → Type 0
HasFileMap d = MapNames d (label_triples d)

-- the volume was closed, each data sector is free or a file's, and both maps say so
pub record Sound (d : List Sector) : Type 0 where
  pub labels : LabelsRight d
  pub clean : short_at (root_page d) 10 ≡ 1
  pub free_or_needed : (i : ℕ) (s : Sector) → slice_get (data_sectors d) i ≡ Some s → (is_free s.0 ≡ true) ⊎ (is_needed false (data_sectors d) i ≡ true)
  pub bits : HasBits d
  pub file_map : HasFileMap d
