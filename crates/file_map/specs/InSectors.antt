-- The map that stands in the sectors of a volume, and what the labels of these say.
use Rattle.std.specs.Prelude.{◌≡◌, ℕ, ◌+◌, false, not, ◌&&◌, ◌==◌, nat_le, List, length, take, drop, slice_get}
use Rattle.std.specs.List.{flat_map}
use Rattle.std.specs.Option.{option_map_or}
use Rattle.labelled_disk.specs.Label.{is_free}
use Rattle.labelled_disk.specs.Layout.{vam, vfm, first_data}
use Rattle.labelled_disk.specs.Sectors.{Sector}
use Rattle.page_tree.specs.Reveals.{RevealsTree}
use Rattle.file_map.specs.FileMap.{Triples, AreNamed}

-- the bytes of the map's pages, one after the other
abbrev pub map_bytes : List Sector → List ℕ
map_bytes d = flat_map (λ s. s.1) (take (vfm (length d)) (drop (1 + vam (length d)) d))

-- the map's pages reveal a map in form, which names these triples
abbrev pub MapNames : List Sector → Triples → Type 0
MapNames d named = AreNamed (length d) (RevealsTree 24 12 (vfm (length d)) (λ b. b ≡ map_bytes d)) named

-- of which file's page each data sector is, by its label
abbrev pub label_triples : List Sector → Triples
label_triples d id page sector = nat_le (first_data (length d)) sector && option_map_or (λ s. not (is_free s.0) && (s.0.id == id && s.0.page == page)) (slice_get d sector) false
