-- What a filer ends as, where its swapper or its disk is lent.
use Rattle.std.specs.Borrow.{Lends, MutBor, Fml, RattleType}
use Rattle.std.specs.declared.alloc.Allocator.{Ghosts as AllocatorGhosts}
use Rattle.labelled_disk.specs.declared.disk.Disk.{Ghosts as DiskGhosts}
use Rattle.swapper_kernel.specs.declared.swapper.Swapper.{Swapper}
use Rattle.swapper_kernel.specs.contracts.swapper.Swapper.{the_row as swapper_row}
use Rattle.filer_kernel.specs.declared.filer.Filer.{Filer}
use Rattle.filer_kernel.specs.contracts.filer.Filer.{the_row}

-- the filer ends with the swapper that was left
abbrev pub LendsSwapper : (D A : RattleType) (disk : DiskGhosts D.Denot) (alloc : AllocatorGhosts A.Denot) → MutBor (Filer D.Denot A.Denot disk) → MutBor (Swapper D.Denot A.Denot disk) → Fml
LendsSwapper D A disk alloc f r = Lends (the_row D A disk alloc) (swapper_row D A disk alloc) f r (λ w. record f.now { swapper = w })

-- the filer ends with the disk that was left
abbrev pub LendsDisk : (D A : RattleType) (disk : DiskGhosts D.Denot) (alloc : AllocatorGhosts A.Denot) → MutBor (Filer D.Denot A.Denot disk) → MutBor D.Denot → Fml
LendsDisk D A disk alloc f r = Lends (the_row D A disk alloc) D f r (λ w. record f.now { swapper = record f.now.swapper { disk = w } })
