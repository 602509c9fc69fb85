-- The sectors of a volume as bits of a list of bytes, the highest bit of a byte first.
use Rattle.std.specs.Prelude.{◌≡◌, ◌⊎◌, ℕ, ◌-◌, ◌/◌, ◌%◌, ◌≤◌, ◌<◌, Bool, not, ◌==◌, List, length, get_or, count_by}
use Rattle.std.specs.List.{range_with_len}
use Rattle.std.specs.Int.{bit_at}

-- sector s is used: the bit of value 2 ^ (7 - s mod 8) is set in byte s / 8
unfoldable pub is_used : List ℕ → ℕ → Bool
is_used b s = bit_at (get_or b (s / 8) 0) (7 - s % 8) == 1

-- the sectors from one up to another, which is left out, are all used, or are all free
abbrev pub AreAll : Bool → List ℕ → ℕ → ℕ → Type 0
AreAll used b from end = (s : ℕ) → from ≤ s → s < end → is_used b s ≡ used

-- how many of the n sectors from this one on are free
unfoldable pub free_in : List ℕ → ℕ → ℕ → ℕ
free_in b from n = count_by (λ s. not (is_used b s)) (range_with_len from n)

-- the bytes where the sectors from one up to another are marked used, or free, and no other is changed
pub record IsMarked (used : Bool) (old new : List ℕ) (from end : ℕ) : Type 0 where
  pub same_length : length new ≡ length old
  pub marked : AreAll used new from end
  pub others : (s : ℕ) → (s < from) ⊎ (end ≤ s) → is_used new s ≡ is_used old s

-- a memory reveals bytes where these sectors are so marked
pub record RevealsMarked (used : Bool) (reveals : List ℕ → Type 0) (old : List ℕ) (from end : ℕ) : Type 0 where
  pub now : List ℕ
  pub revealed : reveals now
  pub bits : IsMarked used old now from end

-- a memory reveals bytes where no sector but those from one up to another is changed
pub record RevealsOthers (reveals : List ℕ → Type 0) (old : List ℕ) (from end : ℕ) : Type 0 where
  pub now : List ℕ
  pub revealed : reveals now
  pub same_length : length now ≡ length old
  pub others : (s : ℕ) → (s < from) ⊎ (end ≤ s) → is_used now s ≡ is_used old s
