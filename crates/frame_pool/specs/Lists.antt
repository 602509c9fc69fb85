-- What the table of a pool has, as lists.
use Rattle.std.specs.Prelude.{◌≡◌, ℕ, List, length, Option, None, replicate, slice_index_or}
use Rattle.std.specs.List.{range_with_len}
use Rattle.frame_pool.specs.declared.found.FoundRun.{FoundRun}
use Rattle.frame_pool.specs.Frames.{Frame}

-- the frame of each slot, the first slot of each bucket's chain, the slot after each slot on its chain, the slots in
-- an order, the place of each slot in it, and what each slot remembers of the pages from its own on
pub record Lists : Type 0 where
  pub frames : List (Option Frame)
  pub heads : List (Option ℕ)
  pub nexts : List (Option ℕ)
  pub orders : List ℕ
  pub positions : List ℕ
  pub founds : List FoundRun

-- the lists are equally long
pub record IsSized (lists : Lists) : Type 0 where
  pub heads : length lists.heads ≡ length lists.frames
  pub nexts : length lists.nexts ≡ length lists.frames
  pub orders : length lists.orders ≡ length lists.frames
  pub positions : length lists.positions ≡ length lists.frames

-- no page is remembered
abbrev pub nothing : FoundRun
nothing = record { pages = 0; time = 0 }

-- what a slot remembers
abbrev pub found_at : List FoundRun → ℕ → FoundRun
found_at founds slot = slice_index_or founds slot nothing

-- so many empty slots: no bucket has a chain, the order is that of the numbers, and nothing is remembered
abbrev pub fresh_lists : ℕ → Lists
fresh_lists slots = record {
  frames = replicate slots None;
  heads = replicate slots None;
  nexts = replicate slots None;
  orders = range_with_len 0 slots;
  positions = range_with_len 0 slots;
  founds = replicate slots nothing;
}
