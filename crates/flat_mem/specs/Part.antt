-- A part of a memory, and the pages beside it.
use Rattle.std.specs.Prelude.{◌≡◌, ℕ, ◌*◌, ◌+◌, ◌≤◌, List, length, take, drop, nat_le, if◌then◌else◌}
use Rattle.flat_mem.specs.Memory.{part}
use Rattle.flat_mem.specs.declared.part.Part.{Part}

-- the two lists have the same bytes before these pages and after them
pub record IsSameBeside (first pages : ℕ) (w v : List ℕ) : Type 0 where
  pub prefix : take (512 * first) v ≡ take (512 * first) w
  pub back : drop (512 * first + 512 * pages) v ≡ drop (512 * first + 512 * pages) w

-- how many bytes the pages have: none, where they do not lie within the whole
abbrev pub part_size : ℕ → ℕ → ℕ → ℕ
part_size whole first pages = if nat_le (512 * first + 512 * pages) whole then 512 * pages else 0

module _ {M X : Type 0} where
  -- it is these pages of the memory
  pub record IsPart (mem : M) (first pages : ℕ) (p : Part M X) : Type 0 where
    pub mem_is : p.mem ≡ mem
    pub first_is : p.first ≡ first
    pub pages_is : p.pages ≡ pages

  -- the pages lie within the memory, and it reveals that their bytes are these
  pub record RevealsPart (reveals : M → List ℕ → Type 0) (p : Part M X) (b : List ℕ) : Type 0 where
    pub whole : List ℕ
    pub revealed : reveals p.mem whole
    pub inside : 512 * p.first + 512 * p.pages ≤ length whole
    pub is : b ≡ part whole (512 * p.first) (512 * p.pages)

  -- what stands beside the memory was kept, and so were the pages before the part and after it
  pub record IsKept (reveals : M → List ℕ → Type 0) (beside : M → M → Type 0) (a b : Part M X) : Type 0 where
    pub mem : beside a.mem b.mem
    pub first : a.first ≡ b.first
    pub pages : a.pages ≡ b.pages
    pub others : (w : List ℕ) → reveals a.mem w → (v : List ℕ) × reveals b.mem v × IsSameBeside a.first a.pages w v

  -- that, and there were reads of the memory alone
  pub record IsLooked (reveals : M → List ℕ → Type 0) (beside only_reads : M → M → Type 0) (a b : Part M X) : Type 0 where
    pub kept : IsKept reveals beside a b
    pub mem : only_reads a.mem b.mem
