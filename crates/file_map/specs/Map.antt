-- A map, its memory and its triples.
use Rattle.std.specs.Prelude.{◌≡◌, ℕ, ◌/◌, List}
use Rattle.flat_mem.specs.declared.memory.FlatMem.{Ghosts}
use Rattle.page_tree.specs.Page.{page_at, count_in}
use Rattle.page_tree.specs.Reveals.{RevealsTree}
use Rattle.file_map.specs.declared.map.FileMap.{FileMap}
use Rattle.file_map.specs.Entries.{Sight}
use Rattle.file_map.specs.FileMap.{Triples, AreNamed}
use Rattle.file_map.specs.Shown.{IsShown}

-- whatever bytes are revealed, they show this
abbrev pub ShownBy : (List ℕ → Type 0) → ℕ → Sight → Type 0
ShownBy reveals pages sight = (b : List ℕ) → reveals b → IsShown pages b sight

module _ {M X : Type 0} {G : Ghosts M X} where
  -- the memory that it stands in
  abbrev pub map_memory : FileMap M X G → M
  map_memory m = m.mem

  -- the sectors of its volume
  abbrev pub map_sectors : FileMap M X G → ℕ
  map_sectors m = m.sectors

  -- its memory reveals a map in form, which names these triples
  abbrev pub Names : FileMap M X G → Triples → Type 0
  Names m named = AreNamed m.sectors (RevealsTree 24 12 (G.size m.mem / 512) (G.reveals m.mem)) named

  -- its memory reveals a header that counts so many records
  abbrev pub Counts : FileMap M X G → ℕ → Type 0
  Counts m n = (b : List ℕ) × G.reveals m.mem b × (n ≡ count_in (page_at b 0))

  -- its memory shows this
  abbrev pub Shows : FileMap M X G → Sight → Type 0
  Shows m sight = ShownBy (G.reveals m.mem) (G.size m.mem / 512) sight
