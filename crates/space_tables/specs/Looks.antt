-- How a call that only asks goes on the memory of the tables.
use Rattle.std.specs.Prelude.{ℕ, ◌+◌, ◌≤◌, List, Result, IfErr}
use Rattle.flat_mem.specs.declared.memory.FlatMem.{Ghosts}
use Rattle.space_tables.specs.Answer.{IfMem}
use Rattle.space_tables.specs.declared.error.SpaceError.{SpaceError}

-- it only reads, and spends at most so much: the revealed bytes and what stands beside them stay. An error of the memory is accounted for
pub record Looks {M X T : Type 0} (G : Ghosts M X) (most : ℕ) (old new : M) (result : Result T (SpaceError X)) : Type 0 where
  pub unchanged : (b : List ℕ) → G.reveals old b → G.reveals new b
  pub kept : G.beside old new
  pub looked : G.only_reads old new
  pub cause : IfErr result (IfMem (G.accounted old new))
  pub cost : G.spent new ≤ G.spent old + most
