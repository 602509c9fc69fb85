-- What accesses to the one map leave of the other.
use Rattle.std.specs.Prelude.{◌≡◌, ◌≢◌, ◌+◌, ◌*◌, ◌<◌, ℕ, false, List}
use Rattle.std.proofs.Common.{refl, sym, ◌∙◌, arith}
use Rattle.std.proofs.lemmas.Bool.Decides.{nat_tests}
use Rattle.labelled_disk.specs.declared.label.Label.{Label}
use Rattle.labelled_disk.specs.declared.layout.Layout.{Layout}
use Rattle.labelled_disk.specs.State.{DiskState}
use Rattle.frame_pool.specs.Frames.{Slots}
use Rattle.flat_mem.specs.Memory.{part}
use Rattle.swapper_kernel.specs.declared.manager.Manager.{Manager}
use Rattle.swapper_kernel.specs.declared.manager.Manager.TheVariants.{AllocationMap, FileMap}
use Rattle.swapper_kernel.specs.Maps.{pages_of, start_of}
use Rattle.swapper_kernel.specs.Window.{IsPage, Reveals, Beside, in_map}

-- a page of the one map is none of the other's
apart : (which also : Manager) (layout : Layout) (k : ℕ) (l : Label) → which ≢ also → k < pages_of also layout → in_map which layout (start_of also layout + k) l ≡ false
apart AllocationMap AllocationMap layout k l other below = absurd (other refl)
apart AllocationMap FileMap layout k l other below = grind (arith, nat_tests)
apart FileMap AllocationMap layout k l other below = grind (arith, nat_tests)
apart FileMap FileMap layout k l other below = absurd (other refl)

-- the bytes of the other map stay
pub other_map_stays : (which also : Manager) (old new : DiskState) (before after : Slots) (place : Layout) (b : List ℕ) → which ≢ also
    → Beside which old before place new after place → Reveals also old before place b → Reveals also new after place b
other_map_stays which also old new before after place b other beside reveals =
    let next = beside.goes.memory reveals.memory reveals.stands in
    record {
      memory = next.0;
      stands = next.1;
      shows = record {
        count = reveals.shows.count;
        page = λ k below.
            let was : IsPage reveals.memory (start_of also place + k) (part b (512 * k) 512) = reveals.shows.page k below in
            record { label = was.label; keeps = next.2.pages (start_of also place + k) (was.label, part b (512 * k) 512) was.keeps (apart which also place k was.label other below) };
      };
      size = beside.goes.makes.went.sectors ∙ reveals.size;
    }
