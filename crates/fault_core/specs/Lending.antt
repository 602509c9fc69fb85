-- What a core ends as, where its filer is lent.
use Rattle.std.specs.Borrow.{Lends, MutBor, Fml, RattleType}
use Rattle.std.specs.declared.alloc.Allocator.{Ghosts as AllocatorGhosts}
use Rattle.labelled_disk.specs.declared.disk.Disk.{Ghosts as DiskGhosts}
use Rattle.filer_kernel.specs.declared.filer.Filer.{Filer}
use Rattle.filer_kernel.specs.contracts.filer.Filer.{the_row as filer_row}
use Rattle.fault_core.specs.declared.core_over.Core.{Core}
use Rattle.fault_core.specs.contracts.core_over.Core.{the_row}

-- the core ends with the filer that was left
abbrev pub LendsFiler : (D A : RattleType) (disk : DiskGhosts D.Denot) (alloc : AllocatorGhosts A.Denot) → MutBor (Core D.Denot A.Denot disk) → MutBor (Filer D.Denot A.Denot disk) → Fml
LendsFiler D A disk alloc c r = Lends (the_row D A disk alloc) (filer_row D A disk alloc) c r (λ w. record c.now { filer = w })
