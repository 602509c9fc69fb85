-- The order of the slots: the empty ones stand before the filled ones.
use Rattle.std.specs.Prelude.{◌≡◌, ◌≢◌, ◌<◌, ◌≤◌, ℕ, length, None, slice_index_or}
use Rattle.frame_pool.specs.Frames.{frame_at}
use Rattle.frame_pool.specs.Lists.{Lists}

-- the slot at a place of the order
abbrev pub slot_at : Lists → ℕ → ℕ
slot_at lists place = slice_index_or lists.orders place 0

-- the place of a slot in the order
abbrev pub place_of : Lists → ℕ → ℕ
place_of lists slot = slice_index_or lists.positions slot 0

-- each slot has one place in the order
pub record IsOrder (lists : Lists) : Type 0 where
  pub slots : (place : ℕ) → place < length lists.frames → (slot_at lists place < length lists.frames) × (place_of lists (slot_at lists place) ≡ place)
  pub places : (slot : ℕ) → slot < length lists.frames → (place_of lists slot < length lists.frames) × (slot_at lists (place_of lists slot) ≡ slot)

-- the slot went to this place, and what stood there went to where the slot was
pub record Exchanges (before after : Lists) (slot place : ℕ) : Type 0 where
  pub here : place_of after slot ≡ place
  pub displaced : (other : ℕ) → other < length before.frames → other ≢ slot → place_of before other ≡ place → place_of after other ≡ place_of before slot
  pub others : (other : ℕ) → other < length before.frames → other ≢ slot → place_of before other ≢ place → place_of after other ≡ place_of before other

-- only the order may differ
pub record KeepsButOrder (before after : Lists) : Type 0 where
  pub frames : after.frames ≡ before.frames
  pub heads : after.heads ≡ before.heads
  pub nexts : after.nexts ≡ before.nexts
  pub founds : after.founds ≡ before.founds
  pub orders : length after.orders ≡ length before.orders
  pub positions : length after.positions ≡ length before.positions

-- the slots at the first so many places are empty, and no others
pub record HasEmpties (lists : Lists) (empties : ℕ) : Type 0 where
  pub few : empties ≤ length lists.frames
  pub empty : (slot : ℕ) → slot < length lists.frames → place_of lists slot < empties → frame_at lists.frames slot ≡ None
  pub placed : (slot : ℕ) → slot < length lists.frames → frame_at lists.frames slot ≡ None → place_of lists slot < empties
