-- What the frames over a disk show of both maps is what the maps of the memory say.
use Rattle.std.specs.Prelude.{◌≡◌, ◌↔◌, ℕ, ◌*◌, ◌<◌, Bool, true, false, List, length}
use Rattle.labelled_disk.specs.declared.layout.Layout.{Layout}
use Rattle.labelled_disk.specs.Sectors.{Sector, AreSectors}
use Rattle.alloc_map.specs.Bits.{is_used}
use Rattle.page_tree.specs.Reveals.{RevealsTree}
use Rattle.file_map.specs.FileMap.{Triples, AreNamed}
use Rattle.file_map.specs.InSectors.{map_bytes, MapNames}
use Rattle.swapper_kernel.specs.declared.manager.Manager.{Manager}
use Rattle.swapper_kernel.specs.declared.manager.Manager.TheVariants.{AllocationMap, FileMap}
use Rattle.swapper_kernel.specs.Differs.{Differs}
use Rattle.swapper_kernel.specs.Homes.{IsLayout}
use Rattle.swapper_kernel.specs.Kinds.{Kind, SameBut, the_allocation_map, the_file_map}
use Rattle.swapper_kernel.specs.Window.{Shows, in_map}
use Rattle.session_words.specs.Parts.{is_marked}

-- the sectors of this map alone
abbrev pub map_alone : Manager → Kind → Bool
map_alone AllocationMap the_allocation_map = true
map_alone FileMap the_file_map = true
map_alone which kind = false

pub record ShownLaws : Type 0 where
  -- a change of the pages of one map is one of the sectors of its kind, so all parts but its own stay
  pub kinds : (which : Manager) (layout : Layout) (m n : List Sector) → IsLayout layout → length m ≡ layout.sectors → Differs (in_map which layout) m n → SameBut (map_alone which) m n
  -- the bytes that are shown of the file map are those of its sectors
  pub bytes : (layout : Layout) (m : List Sector) (shown : List ℕ) → IsLayout layout → length m ≡ layout.sectors → AreSectors m → Shows FileMap m layout shown ↔ (shown ≡ map_bytes m)
  -- so what they name, the memory's map does
  pub names : (layout : Layout) (m : List Sector) (shown : List ℕ) (named : Triples) → IsLayout layout → length m ≡ layout.sectors → AreSectors m → Shows FileMap m layout shown
      → AreNamed layout.sectors (RevealsTree 24 12 layout.vfm (λ b. b ≡ shown)) named ↔ MapNames m named
  -- the bits that are shown are those of the memory
  pub bits : (layout : Layout) (m : List Sector) (shown : List ℕ) (k : ℕ) → Shows AllocationMap m layout shown → k < 4096 * layout.vam → is_used shown k ≡ is_marked m k
