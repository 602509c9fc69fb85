-- A core is its filer, its intervals and their number: what is known of them has one value.
use Rattle.std.specs.Prelude.{◌≡◌, ◌≤◌, ℕ}
use Rattle.std.specs.Coded.{le_prop}
use Rattle.labelled_disk.specs.declared.disk.Disk.{Ghosts}
use Rattle.filer_kernel.specs.declared.filer.Filer.{Filer}
use Rattle.descriptor_cache.specs.declared.cache.DescriptorCache.{DescriptorCache}
use Rattle.descriptor_cache.specs.Cache.{kept_in}
use Rattle.fault_core.specs.declared.core_over.Core.{Core}
use Rattle.fault_core.specs.Kept.{AreFormed, are_formed_once}

pub same_facts : {D A : Type 0} {disk : Ghosts D} (filer : Filer D A disk) (descriptors : DescriptorCache) (intervals : ℕ) (a b : 1 ≤ intervals) (c d : intervals ≤ 1023) (e f : AreFormed (kept_in descriptors))
    → ◌≡◌ {A = Core D A disk} (record { filer = filer; descriptors = descriptors; intervals = intervals; some = a; few = c; formed = e }) (record { filer = filer; descriptors = descriptors; intervals = intervals; some = b; few = d; formed = f })
same_facts filer descriptors intervals a b c d e f i =
    record { filer = filer; descriptors = descriptors; intervals = intervals; some = le_prop a b i; few = le_prop c d i; formed = are_formed_once (kept_in descriptors) e f i }
