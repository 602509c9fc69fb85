-- Marks of the pages that were met.
use Rattle.std.specs.Prelude.{◌≡◌, ℕ, suc, ◌<◌, ◌≤◌, Bool, true, false, List, length, get_or}
use Rattle.page_tree.specs.Tree.{frees}

-- the page is marked
abbrev pub mark_at : List Bool → ℕ → Bool
mark_at marks q = get_or marks q false

-- of the pages from 1 to `top`, those that were met once are marked, and the others were not met, nor was any page
-- above; the header
-- counts as met before
pub record AreMarks (top : ℕ) (used : List ℕ) (marks : List Bool) : Type 0 where
  pub long : length marks ≡ suc top
  pub first : mark_at marks 0 ≡ true
  pub header : frees 0 used ≡ 0
  pub marked : (q : ℕ) → 1 ≤ q → q ≤ top → mark_at marks q ≡ true → frees q used ≡ 1
  pub unmarked : (q : ℕ) → 1 ≤ q → q ≤ top → mark_at marks q ≡ false → frees q used ≡ 0
  pub past : (q : ℕ) → top < q → frees q used ≡ 0
