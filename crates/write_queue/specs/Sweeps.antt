-- The order in which pages that wait are written out.
use Rattle.std.specs.Prelude.{◌≡◌, ℕ, ◌+◌, ◌^◌, ◌≤◌, nat_lt, ◌==◌, if◌then◌else◌, length, List, [], ◌∷◌, Some, None}
use Rattle.write_queue.specs.declared.entry.Entry.{Entry}
use Rattle.write_queue.specs.Entries.{waiting_at}

-- the place of a sector in the sweep from a head on: at or above the head first, and then those below it
abbrev pub sweep_key : ℕ → ℕ → ℕ
sweep_key head sector = if nat_lt sector head then 2 ^ 32 + sector else sector

-- the page is the first of the sweep
pub record IsFirst (head : ℕ) (es : List Entry) (e : Entry) : Type 0 where
  pub there : waiting_at es e.sector ≡ Some e
  pub least : (k : ℕ) (f : Entry) → waiting_at es k ≡ Some f → sweep_key head e.sector ≤ sweep_key head f.sector

-- the pages that waited, but for one
pub record IsLess (es : List Entry) (e : Entry) (fewer : List Entry) : Type 0 where
  pub rest : (k : ℕ) → waiting_at fewer k ≡ (if e.sector == k then None else waiting_at es k)

-- the pages that were written one after the other, each the first of the sweep from the one before it on, and what is
-- left
abbrev pub Sweeps : ℕ → List Entry → List Entry → List Entry → Type 0
Sweeps head es [] left = left ≡ es
Sweeps head es (e ∷ swept) left = (fewer : List Entry) × IsFirst head es e × IsLess es e fewer
    × (length fewer + 1 ≡ length es) × Sweeps e.sector fewer swept left

-- the sector that was written out last
abbrev pub head_after : ℕ → List Entry → ℕ
head_after head [] = head
head_after head (e ∷ swept) = head_after e.sector swept
