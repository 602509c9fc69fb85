-- What a look finds on a disk.
use Rattle.std.specs.Prelude.{◌≡◌, ◌↔◌, true, false, List, length, map, slice_get, Some}
use Rattle.labelled_disk.specs.Layout.{IsCount, layout_of, data_sectors}
use Rattle.labelled_disk.specs.Root.{HasMaps}
use Rattle.labelled_disk.specs.Sectors.{Sector}
use Rattle.file_map.specs.FileMap.{Triples}
use Rattle.file_map.specs.InSectors.{MapNames, label_triples, map_bytes}
use Rattle.volume_root.specs.RootPage.{judged}
use Rattle.volume_root.specs.Sound.{HasFileMap}
use Rattle.volume_view.specs.declared.view.View.{View}
use Rattle.volume_view.specs.Bits.{AreWrongBits}
use Rattle.volume_view.specs.Form.{HasForm}
use Rattle.volume_view.specs.Found.{IsFound}
use Rattle.volume_view.specs.Names.{IsRevealedOf, SaysForm, SaysAlike, SaysAgree}
use Rattle.volume_view.specs.Recorded.{AreReadAlike}

-- The layout, the root as it is judged, the labels, what they reveal, and both maps beside them. The file map is said
-- to agree exactly where it has all that a sound volume asks of it, and to be in form exactly where it is, whatever
-- its bytes are. One that has the form of a map is read as what it names. Where it is said to name what the labels
-- name, whatever its form is, the records that were read are labelled, and what is labelled is recorded.
pub record IsView {A : Type 0} (d : List Sector) (view : View A) : Type 0 where
  pub counted : IsCount (length d)
  pub layout : view.layout ≡ layout_of (length d)
  pub root : (s : Sector) → slice_get d 0 ≡ Some s → view.root ≡ judged false (length d) s
  pub labels : view.labels.items ≡ map (λ s. s.0) (data_sectors d)
  pub found : IsFound d view.found
  pub bits : AreWrongBits d view.bits.items
  pub names : (named : Triples) → MapNames d named → IsRevealedOf named d view.names
  pub form : SaysForm view.names (HasForm (length d) (map_bytes d))
  pub maps_labelled : (view.maps_labelled ≡ true) ↔ HasMaps (length d) d
  pub agrees : SaysAgree view.names ↔ HasFileMap d
  pub alike : SaysAlike view.names → AreReadAlike (length d) (map_bytes d) (label_triples d)
