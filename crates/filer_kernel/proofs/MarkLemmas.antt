-- What the allocation map says before and after an access.
use Rattle.std.proofs.Common.{◌≡◌, inl, inr, ℕ, ◌+◌, ◌-◌, Bool, true, false, not, List, sym, ◌∙◌, ap, arith}
use Rattle.std.specs.Prelude.{nat_le, nat_lt, ◌&&◌, if◌then◌else◌, count_by}
use Rattle.std.specs.List.{range_with_len}
use Rattle.std.proofs.lemmas.Bool.{cases_lt}
use Rattle.std.proofs.lemmas.Bool.Decides.{nat_tests}
use Rattle.labelled_disk.specs.declared.layout.Layout.{Layout}
use Rattle.labelled_disk.specs.Sectors.{Sector}
use Rattle.labelled_disk.specs.State.{DiskState}
use Rattle.frame_pool.specs.Frames.{Slots}
use Rattle.alloc_map.specs.Bits.{is_used, free_in, IsMarked, RevealsMarked}
use Rattle.swapper_kernel.specs.declared.manager.Manager.{Manager}
use Rattle.swapper_kernel.specs.declared.manager.Manager.TheVariants.{AllocationMap}
use Rattle.swapper_kernel.specs.Stands.{Stands}
use Rattle.swapper_kernel.specs.Window.{Reveals, Beside}
use Rattle.filer_kernel.specs.Becomes.{Becomes}
use Rattle.filer_kernel.specs.Marks.{Marks, BitsAre, marked, free_sectors}
use Rattle.filer_kernel.proofs.MapLemmas.{becomes_shown}

-- bits that were marked, as a function
marked_are : (used : Bool) (b c : List ℕ) (marks : Marks) (first count : ℕ) → ((k : ℕ) → marks k ≡ is_used b k) → IsMarked used b c first (first + count) → (k : ℕ) → marked used first count marks k ≡ is_used c k
marked_are used b c marks first count are is k = elim (cases_lt k first) [
  | inl prefix ↦
      let test : (nat_le first k && nat_lt k (first + count)) ≡ false = grind (arith, nat_tests) in
      ap (λ (t : Bool). if t then used else marks k) test ∙ are k ∙ sym (is.others k (inl prefix))
  | inr from ↦ elim (cases_lt k (first + count)) [
    | inl below ↦
        let test : (nat_le first k && nat_lt k (first + count)) ≡ true = grind (arith, nat_tests) in
        ap (λ (t : Bool). if t then used else marks k) test ∙ sym (is.marked k from below)
    | inr past ↦
        let test : (nat_le first k && nat_lt k (first + count)) ≡ false = grind (arith, nat_tests) in
        ap (λ (t : Bool). if t then used else marks k) test ∙ are k ∙ sym (is.others k (inr past))
  ]
]

-- the free sectors that are counted
pub free_are : (layout : Layout) (marks : Marks) (b : List ℕ) → ((k : ℕ) → marks k ≡ is_used b k) → free_in b layout.first (layout.sectors - layout.first) ≡ free_sectors layout marks
unfolding free_in
free_are layout marks b are i = count_by (λ (k : ℕ). not (sym (are k) i)) (range_with_len layout.first (layout.sectors - layout.first))

-- the window's bytes are those of the map
pub bits_revealed : {d : DiskState} {s : Slots} {x : Layout} → d.sectors ≡ x.sectors → (m : List Sector) (marks : Marks) → Stands d s m → (bits : BitsAre x marks m) → Reveals AllocationMap d s x bits.bytes
bits_revealed size m marks stands bits = record { memory = m; stands = stands; shows = bits.shows; size = size }

-- sectors were marked
pub becomes_marked : (used : Bool) {also : Manager} {d e : DiskState} {s t : Slots} {x y : Layout} → AllocationMap ≡ also → Beside AllocationMap d s x e t y → (m : List Sector) (marks : Marks) → Stands d s m
    → (bits : BitsAre x marks m) → (first count : ℕ) → RevealsMarked used (Reveals also e t y) bits.bytes first (first + count) → Becomes AllocationMap x m (BitsAre x (marked used first count marks)) e t
becomes_marked used same beside m marks stands bits first count revealed =
    let now = becomes_shown same beside m stands revealed.now revealed.revealed in
    record {
      memory = now.memory;
      stands = now.stands;
      differs = now.differs;
      is = record { bytes = revealed.now; shows = now.is; are = marked_are used bits.bytes revealed.now marks first count bits.are revealed.bits };
    }
