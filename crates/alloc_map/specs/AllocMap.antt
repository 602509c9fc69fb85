-- A map, its memory and its sectors.
use Rattle.std.specs.Prelude.{ℕ}
use Rattle.flat_mem.specs.declared.memory.FlatMem.{Ghosts}
use Rattle.alloc_map.specs.declared.map.AllocMap.{AllocMap}

module _ {M X : Type 0} {G : Ghosts M X} where
  -- the memory that it stands in
  abbrev pub map_memory : AllocMap M X G → M
  map_memory m = m.mem

  -- its first data sector
  abbrev pub first_data : AllocMap M X G → ℕ
  first_data m = m.first

  -- how many sectors there are
  abbrev pub sector_count : AllocMap M X G → ℕ
  sector_count m = m.sectors
