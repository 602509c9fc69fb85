-- A path of pages that are met.
use Rattle.std.specs.Prelude.{◌≡◌, ℕ, ◌<◌, ◌≤◌, List, get_or}
use Rattle.page_tree.specs.Page.{page_at, filled}
use Rattle.page_tree.specs.Broken.{IsInnerForm, Meets}

-- no page of the path is the header
abbrev pub AvoidsHeader : ℕ → List ℕ → Type 0
AvoidsHeader levels pages = (l : ℕ) → 1 < l → l ≤ levels → 1 ≤ get_or pages l 0

-- the path goes through pages that are met, from the root down to `level`, and each has the child that was chosen
pub record IsMetPath (k : ℕ) (b : List ℕ) (levels level root : ℕ) (pages index : List ℕ) : Type 0 where
  pub met : (l : ℕ) → level < l → l ≤ levels → Meets k b l (get_or pages l 0)
  pub form : (l : ℕ) → level < l → l ≤ levels → IsInnerForm k (page_at b (get_or pages l 0))
  pub chosen : (l : ℕ) → level < l → l ≤ levels → get_or index l 0 ≤ filled (page_at b (get_or pages l 0))
  pub top : level < levels → get_or pages levels 0 ≡ root
