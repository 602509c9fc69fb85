-- A core is its filer, its intervals and their number: what is known of them has one value.
use Rattle.std.specs.Prelude.{◌≡◌, ◌≤◌}
use Rattle.std.specs.Coded.{le_prop}
use Rattle.labelled_disk.specs.declared.disk.Disk.{Ghosts}
use Rattle.descriptor_cache.specs.Cache.{kept_in}
use Rattle.swapper_kernel.specs.declared.swapper.Swapper.{Swapper}
use Rattle.fault_core.specs.declared.core_over.Core.{Core}
use Rattle.fault_core.specs.Kept.{AreFormed, are_formed_once}

-- its swapper is the same
pub same_swapper : {D A : Type 0} {disk : Ghosts D} (s : Swapper D A disk) (c : Core D A disk) (a : 1 ≤ c.intervals) (b : c.intervals ≤ 1023) (e : AreFormed (kept_in c.descriptors)) → s ≡ c.filer.swapper
    → ◌≡◌ {A = Core D A disk} (record { filer = record c.filer { swapper = s }; descriptors = c.descriptors; intervals = c.intervals; some = a; few = b; formed = e }) c
same_swapper s c a b e same i = record {
  filer = record c.filer { swapper = same i };
  descriptors = c.descriptors;
  intervals = c.intervals;
  some = le_prop a c.some i;
  few = le_prop b c.few i;
  formed = are_formed_once (kept_in c.descriptors) e c.formed i;
}
