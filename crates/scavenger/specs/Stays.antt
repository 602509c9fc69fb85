-- What both maps are to say of the sectors that stay: root and maps, and the data sectors that permanent files need.
use Rattle.std.specs.Prelude.{◌≡◌, ℕ, ◌*◌, ◌&&◌, ◌||◌, ◌==◌, nat_le, nat_lt, Bool, false, List, length, map, slice_get}
use Rattle.std.specs.Option.{option_map_or}
use Rattle.labelled_disk.specs.declared.label.Label.{Label}
use Rattle.labelled_disk.specs.Sectors.{Sector}
use Rattle.labelled_disk.specs.Layout.{vam, vfm, first_data, data_sectors}
use Rattle.label_laws.specs.Counts.{needs_place}
use Rattle.alloc_map.specs.Bits.{is_used}
use Rattle.page_tree.specs.Reveals.{RevealsTree}
use Rattle.file_map.specs.FileMap.{Triples, AreNamed}

-- these are the labels of the data sectors of a disk of n sectors
pub record HasLabels (d : List Sector) (n : ℕ) (labels : List Label) : Type 0 where
  pub sectors : length d ≡ n
  pub are : labels ≡ map (λ s. s.0) (data_sectors d)

-- the sector stays
abbrev pub stays : List Sector → ℕ → Bool
stays d i = nat_lt i (first_data (length d)) || needs_place false d i

-- the page stands in this data sector, and stays
abbrev pub staying : List Sector → Triples
staying d id page sector =
    nat_le (first_data (length d)) sector
    && (needs_place false d sector && option_map_or (λ s. s.0.id == id && s.0.page == page) (slice_get d sector) false)

-- the bytes of an allocation map on which the sectors that stay are used, and no others
pub record AreBits (d : List Sector) (bytes : List ℕ) : Type 0 where
  pub size : length bytes ≡ 512 * vam (length d)
  pub used : (i : ℕ) → is_used bytes i ≡ stays d i

-- the bytes of a file map that names the pages that stay, and no others
pub record AreNames (d : List Sector) (bytes : List ℕ) : Type 0 where
  pub size : length bytes ≡ 512 * vfm (length d)
  pub named : AreNamed (length d) (RevealsTree 24 12 (vfm (length d)) (λ b. b ≡ bytes)) (staying d)
