use Rattle.std.proofs.Common.{◌≡◌, ◌*◌, ◌-◌, ◌++◌, List, Some, length, replicate}
use Rattle.flat_mem.specs.Vec.{vec_mem_bytes}
use Rattle.labelled_disk.specs.Calls.{ReadsAtMost}
use Rattle.labelled_disk.specs.Sectors.{Sector}
use Rattle.volume_view.specs.Pages.{bytes_of, SaysNamed}
use Rattle.volume_view.proofs.pages.read_pages.Given as goal

-- the pages of the sectors before this one, and zeros after them
abbrev pub invariant-loop-index : goal.invariant-loop-index
invariant-loop-index g l = record {
  cost : ReadsAtMost l.index (g.D.Disk.state l.fn.disk) (g.D.Disk.state l.disk);
  size : length (vec_mem_bytes l.mem) ≡ 512 * l.count;
  revealed : (d : List Sector) → (g.D.Disk.state l.fn.disk).contents ≡ Some d → vec_mem_bytes l.mem ≡ bytes_of d l.first l.index ++ replicate (512 * (l.count - l.index)) 0;
  labels : (d : List Sector) → (g.D.Disk.state l.fn.disk).contents ≡ Some d → SaysNamed l.fn.labelled l.labelled d l.id l.first l.index;
}
