-- A table, its memory, its count and its list.
use Rattle.std.specs.Prelude.{ℕ, List}
use Rattle.flat_mem.specs.declared.memory.FlatMem.{Ghosts}
use Rattle.record_table.specs.declared.table.RecordTable.{RecordTable}
use Rattle.record_table.specs.Table.{RevealsEntries}

module _ {M X : Type 0} {G : Ghosts M X} {e k : ℕ} where
  -- the memory that it stands in
  abbrev pub table_memory : RecordTable M e k X G → M
  table_memory t = t.mem

  -- how many entries it has
  abbrev pub table_count : RecordTable M e k X G → ℕ
  table_count t = t.count

  -- its memory reveals that its entries are these
  abbrev pub Lists : RecordTable M e k X G → List (List ℕ) → Type 0
  Lists t xs = RevealsEntries e (G.reveals t.mem) t.count xs
