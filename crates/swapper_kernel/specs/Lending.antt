-- What a swapper ends as, where its disk is lent.
use Rattle.std.specs.Borrow.{Lends, MutBor, Fml, RattleType}
use denote.Ref.{MutRef}
use denote.MutBor.{at_last}
use mir.Syntax.{named}
use Rattle.std.specs.Prelude.{[]}
use Rattle.std.specs.declared.alloc.Allocator.{Ghosts as AllocatorGhosts}
use Rattle.labelled_disk.specs.declared.disk.Disk.{Ghosts as DiskGhosts}
use Rattle.labelled_disk.specs.contracts.disk.RefMutDisk.TheImpl.{ghosts as after, no_dict}
use Rattle.swapper_kernel.specs.declared.swapper.Swapper.{Swapper}
use Rattle.swapper_kernel.specs.contracts.swapper.Swapper.{the_row}

-- the swapper ends with the disk that was left
abbrev pub LendsDisk : (D A : RattleType) (disk : DiskGhosts D.Denot) (alloc : AllocatorGhosts A.Denot) → MutBor (Swapper D.Denot A.Denot disk) → MutBor D.Denot → Fml
LendsDisk D A disk alloc s r = Lends (the_row D A disk alloc) D s r (λ w. record s.now { disk = w })

-- the same through a reference: what the reference held ends as the disk that was left
abbrev pub LendsThrough : (D A : RattleType) (disk : DiskGhosts D.Denot) (alloc : AllocatorGhosts A.Denot) → MutBor (Swapper (MutBor D.Denot) A.Denot (after D disk no_dict)) → MutBor D.Denot → Fml
LendsThrough D A disk alloc s r = Lends (the_row (MutRef (named 1) [] D) A (after D disk no_dict) alloc) D s r (λ w. record s.now { disk = at_last s.now.disk w })
