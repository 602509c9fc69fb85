-- The index: for each bucket a chain of the slots whose pages are in it, by falling numbers.
use Rattle.std.specs.Prelude.{◌≡◌, ◌≢◌, ◌<◌, ◌≤◌, ◌+◌, ◌*◌, ◌/◌, ◌%◌, ◌^◌, ℕ, length, Option, Some, None, IfSome, slice_index_or}
use Rattle.frame_pool.specs.Frames.{Frame, Slots, frame_at}
use Rattle.frame_pool.specs.Lists.{Lists}

-- the bucket of a page, among so many
unfoldable pub bucket_of : ℕ → ℕ → ℕ → ℕ
bucket_of buckets id page = (id * 11400714819323198485 % 2 ^ 64 + page) % 2 ^ 64 * 11400714819323198485 % 2 ^ 64 / 2 ^ 32 % buckets

-- the bucket of a frame's page
abbrev pub bucket_in : ℕ → Option Frame → Option ℕ
bucket_in buckets None = None
bucket_in buckets (Some frame) = Some (bucket_of buckets frame.home.id frame.home.page)

-- the bucket of the page that a slot has, where there are as many buckets as slots
abbrev pub bucket_at : Slots → ℕ → Option ℕ
bucket_at slots slot = bucket_in (length slots) (frame_at slots slot)

-- there is a slot, and this number is at most its number
abbrev pub IsAtMost : ℕ → Option ℕ → Type 0
IsAtMost other None = ⊥
IsAtMost other (Some slot) = other ≤ slot

-- there is a slot, and this number is at least its number
abbrev pub IsAtLeast : ℕ → Option ℕ → Type 0
IsAtLeast other None = ⊥
IsAtLeast other (Some slot) = slot ≤ other

-- the answer is the last slot of the bucket below the limit, or none where there is none
pub record IsLastBelow (at : ℕ → Option ℕ) (bucket limit : ℕ) (answer : Option ℕ) : Type 0 where
  pub within : IfSome answer (λ slot. (slot < limit) × (at slot ≡ Some bucket))
  pub covers : (other : ℕ) → other < limit → at other ≡ Some bucket → IsAtMost other answer

-- the answer is the first slot of the bucket above this one and below the limit, or none where there is none
pub record IsFirstAbove (at : ℕ → Option ℕ) (bucket slot limit : ℕ) (answer : Option ℕ) : Type 0 where
  pub within : IfSome answer (λ above. (slot < above) × (above < limit) × (at above ≡ Some bucket))
  pub covers : (other : ℕ) → slot < other → other < limit → at other ≡ Some bucket → IsAtLeast other answer

-- each head is its bucket's last slot, and each link leads to the last slot of the same bucket below it
pub record IsIndex (at : ℕ → Option ℕ) (lists : Lists) : Type 0 where
  pub heads : (bucket : ℕ) → bucket < length lists.frames → IsLastBelow at bucket (length lists.frames) (slice_index_or lists.heads bucket None)
  pub links : (slot bucket : ℕ) → at slot ≡ Some bucket → IsLastBelow at bucket slot (slice_index_or lists.nexts slot None)

-- the slots' buckets, with this one at the slot
pub record Puts (before : ℕ → Option ℕ) (slot : ℕ) (bucket : Option ℕ) (after : ℕ → Option ℕ) : Type 0 where
  pub here : after slot ≡ bucket
  pub others : (other : ℕ) → other ≢ slot → after other ≡ before other

-- only the chains may differ
pub record KeepsButChains (before after : Lists) : Type 0 where
  pub frames : after.frames ≡ before.frames
  pub orders : after.orders ≡ before.orders
  pub positions : after.positions ≡ before.positions
  pub founds : after.founds ≡ before.founds
  pub heads : length after.heads ≡ length before.heads
  pub nexts : length after.nexts ≡ length before.nexts

-- how far a chain may still go from here
abbrev pub steps_left : Option ℕ → ℕ
steps_left None = 0
steps_left (Some slot) = slot + 1
