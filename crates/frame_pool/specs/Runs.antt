-- Pages of a file in a row, and runs of them that are known to be there.
use Rattle.std.specs.Prelude.{◌≡◌, ◌<◌, ◌≤◌, ◌+◌, ◌^◌, ℕ, List}
use Rattle.frame_pool.specs.declared.found.FoundRun.{FoundRun}
use Rattle.frame_pool.specs.Frames.{Frame, Slots, Has, HasPage}
use Rattle.frame_pool.specs.Lists.{found_at}

-- some slot has the page
abbrev pub IsThere : Slots → ℕ → ℕ → Type 0
IsThere slots id page = (slot : ℕ) × HasPage slots slot id page

-- each of so many pages of the file, from the first one on, is there
abbrev pub HasRun : Slots → ℕ → ℕ → ℕ → Type 0
HasRun slots id first pages = (j : ℕ) → j < pages → IsThere slots id (first + j)

-- it was found at this time, which isn't the greatest one
abbrev pub IsFresh : FoundRun → ℕ → Type 0
IsFresh found time = (found.time ≡ time) × (time + 1 < 2 ^ 32)

-- no slot remembers a time to come, and what a frame's slot remembers of this time is there
pub record HasRuns (slots : Slots) (founds : List FoundRun) (time : ℕ) : Type 0 where
  pub past : (slot : ℕ) → (found_at founds slot).time ≤ time
  pub there : (slot : ℕ) (frame : Frame) → Has slots slot frame → IsFresh (found_at founds slot) time → HasRun slots frame.home.id frame.home.page (found_at founds slot).pages
