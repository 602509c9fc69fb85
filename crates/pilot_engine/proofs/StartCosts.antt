-- What a start spends.
use Rattle.std.proofs.Common.{◌≡◌, ℕ, ◌+◌, ◌*◌, ◌≤◌, sym, ap, subst, arith}
use Rattle.labelled_disk.specs.declared.layout.Layout.{Layout}
use Rattle.labelled_disk.specs.Calls.{ReadsAtMost}
use Rattle.labelled_disk.specs.Layout.{vam}
use Rattle.labelled_disk.specs.State.{DiskState}
use Rattle.file_map.specs.FileMap.{most_records}
use Rattle.swapper_kernel.specs.Homes.{IsLayout}
use Rattle.pilot_engine.specs.Starting.{SpendsAtStart}
use Rattle.pilot_engine.proofs.BoundLemmas.{asked_inside, on_layout, start_bounded}

-- the root alone was read
pub spends_reading : {old new : DiskState} → ReadsAtMost 1 old new → SpendsAtStart old new
spends_reading {old = old} {new = new} reads = record {
  cost = few old.transfers new.transfers (2 * vam old.sectors) (2 * (1 + 51 * most_records old.sectors)) (96 * (8 * vam old.sectors + 100)) reads.moved;
  bounded = asked_inside old new 1 (omega arith) reads.moved;
}
  where
    few : (t0 t1 a b c : ℕ) → t1 ≤ t0 + 1 → t1 ≤ t0 + (14394 + a + b + c)
    few t0 t1 a b c one = omega (arith, one)

-- and then the volume was put into use
pub spends_begun : (layout : Layout) → IsLayout layout → (old read new : DiskState) → old.sectors ≡ layout.sectors → read.transfers ≤ old.transfers + 1
    → new.transfers ≤ read.transfers + (14393 + 2 * layout.vam + 2 * (1 + 51 * most_records layout.sectors) + 96 * (8 * layout.vam + 100)) → SpendsAtStart old new
spends_begun layout is old read new same one paid =
    let bits : layout.vam ≡ vam layout.sectors = ap (λ (l : Layout). l.vam) is.1 in
    record {
      cost = subst (λ (n : ℕ). new.transfers ≤ old.transfers + (14394 + 2 * vam n + 2 * (1 + 51 * most_records n) + 96 * (8 * vam n + 100))) (sym same)
          (subst (λ (v : ℕ). new.transfers ≤ old.transfers + (14394 + 2 * v + 2 * (1 + 51 * most_records layout.sectors) + 96 * (8 * v + 100))) bits
          (both old.transfers read.transfers new.transfers (2 * layout.vam) (2 * (1 + 51 * most_records layout.sectors)) (96 * (8 * layout.vam + 100)) one paid));
      bounded = on_layout layout old new same (start_bounded layout is old.transfers read.transfers new.transfers one paid);
    }
  where
    both : (t0 t1 t2 a b c : ℕ) → t1 ≤ t0 + 1 → t2 ≤ t1 + (14393 + a + b + c) → t2 ≤ t0 + (14394 + a + b + c)
    both t0 t1 t2 a b c one paid = omega (arith, one, paid)
