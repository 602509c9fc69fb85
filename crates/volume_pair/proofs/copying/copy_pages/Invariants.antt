use Rattle.std.proofs.Common.{◌≡◌, ◌≤◌, ◌+◌, ◌*◌, ◌-◌, false, List, Some}
use Rattle.labelled_disk.specs.File.{File, file_at, size}
use Rattle.labelled_disk.specs.Sectors.{Sector}
use Rattle.filer_kernel.specs.View.{view_of}
use Rattle.volume_pair.specs.Copied.{IsCopying}
use Rattle.volume_pair.specs.Sides.{IsLookedAt, IsSide, WritesPages}
use Rattle.volume_pair.proofs.copying.copy_pages.Given as goal

-- The first volume is looked at alone, and the second written for the file, which has the cells of the pages before this one.
abbrev pub invariant-loop-page : goal.invariant-loop-page
invariant-loop-page g l =
    IsLookedAt (view_of l.fn.from) (view_of l.from)
    × WritesPages l.fn.id (view_of l.fn.to) (view_of l.to)
    × ((fs gs : List File) (x y : List Sector) (f : File) → IsSide (view_of l.fn.from) fs x → file_at fs l.fn.id ≡ Some f → l.fn.pages ≡ size f → IsCopying (view_of l.fn.to) y gs f false false 0
    → IsSide (view_of l.from) fs x × IsCopying (view_of l.to) y gs f false false l.page)
    × ((view_of l.from).disk.transfers ≤ (view_of l.fn.from).disk.transfers + 15 * l.page)
    × ((view_of l.to).disk.transfers ≤ (view_of l.fn.to).disk.transfers + 15 * l.page)

abbrev pub decreases-loop-page : goal.decreases-loop-page
decreases-loop-page g l = l.fn.pages - l.page
