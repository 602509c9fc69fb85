-- Where a sector stands in a list of sectors.
use Rattle.std.specs.Prelude.{◌≡◌, ◌≢◌, ℕ, ◌<◌, ◌≤◌, length, List, slice_index}
use Rattle.write_queue.specs.Sweeps.{sweep_key}

-- the sector stands nowhere in the list
abbrev pub Misses : ℕ → List ℕ → Type 0
Misses s ss = (k : ℕ) → k < length ss → slice_index ss k ≢ s

-- the sector stands in the list, and none is before it in the sweep
pub record IsFirstOf (head s : ℕ) (ss : List ℕ) : Type 0 where
  pub place : ℕ
  pub inside : place < length ss
  pub there : slice_index ss place ≡ s
  pub least : (k : ℕ) → k < length ss → sweep_key head s ≤ sweep_key head (slice_index ss k)

-- no sector of the list is before that at the place in the sweep
pub record IsFirstAt (head place : ℕ) (ss : List ℕ) : Type 0 where
  pub below : place < length ss
  pub least : (k : ℕ) → k < length ss → sweep_key head (slice_index ss place) ≤ sweep_key head (slice_index ss k)
