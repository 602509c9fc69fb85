-- What a start costs after its root was read.
use Rattle.std.proofs.Common.{◌≡◌, ℕ, ◌+◌, ◌*◌, ◌^◌, ◌≤◌, sym, subst, arith}
use Rattle.labelled_disk.specs.declared.layout.Layout.{Layout}
use Rattle.labelled_disk.specs.State.{DiskState}
use Rattle.file_map.specs.FileMap.{most_records}
use Rattle.swapper_kernel.specs.Homes.{IsLayout}
use Rattle.running_words.specs.Bound.{other_bound}
use Rattle.pilot_engine.specs.Rest.{CostsRest}
use Rattle.pilot_engine.proofs.BoundLemmas.{start_bounded}

-- from the disk with the root read on
pub rest_bounded : (layout : Layout) → IsLayout layout → (old new : DiskState) → old.sectors ≡ layout.sectors
    → new.transfers ≤ old.transfers + (14393 + 2 * layout.vam + 2 * (1 + 51 * most_records layout.sectors) + 96 * (8 * layout.vam + 100)) → CostsRest old new
rest_bounded layout is old new same paid =
    subst (λ (n : ℕ). new.transfers + 1 ≤ old.transfers + other_bound n) (sym same) (by old.transfers new.transfers paid)
  where
    by : (t1 t2 : ℕ) → t2 ≤ t1 + (14393 + 2 * layout.vam + 2 * (1 + 51 * most_records layout.sectors) + 96 * (8 * layout.vam + 100)) → t2 + 1 ≤ t1 + other_bound layout.sectors
    by t1 t2 few =
        let whole = start_bounded layout is 0 1 (1 + (14393 + 2 * layout.vam + 2 * (1 + 51 * most_records layout.sectors) + 96 * (8 * layout.vam + 100))) (omega arith) (omega arith) in
        omega (arith, few, whole)

-- nothing was done
pub rest_none : (old new : DiskState) → new ≡ old → CostsRest old new
rest_none old new same = subst (λ (d : DiskState). CostsRest old d) (sym same) (by old.sectors)
  where
    by : (n : ℕ) → old.transfers + 1 ≤ old.transfers + other_bound n
    by n = omega arith
