-- The bytes of a memory in a vector.
use Rattle.std.specs.Prelude.{ℕ, List}
use Rattle.flat_mem.specs.declared.vec_mem.VecMem.{VecMem}

-- the bytes of its pages
abbrev pub vec_mem_bytes : {A : Type 0} → VecMem A → List ℕ
vec_mem_bytes m = m.bytes.items
