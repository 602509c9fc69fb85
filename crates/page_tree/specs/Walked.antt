-- A walk from leaf to leaf, whatever the bytes are.
use Rattle.std.specs.Prelude.{◌≡◌, ℕ, zero, suc, ◌+◌, ◌-◌, ◌<◌, ◌≤◌, List, [], ◌∷◌, ◌++◌, get_or, Option, Some, None, ◌==◌, if◌then◌else◌}
use Rattle.page_tree.specs.Page.{page_at, filled, link_at}
use Rattle.page_tree.specs.Leaves.{gathered, leaves_below, leaves_of}
use Rattle.page_tree.specs.Broken.{Meets}
use Rattle.page_tree.specs.Met.{IsMetPath}

-- the page of level l on a path that ends in page `at` of `level`
abbrev pub page_on : List ℕ → ℕ → ℕ → ℕ → ℕ
page_on pages level at l = if l == level then at else get_or pages l 0

-- each page of the path is the chosen child of the one above it
pub record IsThread (k : ℕ) (b : List ℕ) (levels level root : ℕ) (pages index : List ℕ) (at : ℕ) : Type 0 where
  pub top : page_on pages level at levels ≡ root
  pub linked : (l : ℕ) → level ≤ l → l < levels → page_on pages level at l ≡ link_at k (page_at b (get_or pages (suc l) 0)) (get_or index (suc l) 0)

-- the path is the same above a level; there it goes on to child `place` of page `at`, and on by first children
pub record IsLedDown (level at place : ℕ) (pages index pages' index' : List ℕ) : Type 0 where
  pub above_pages : (l : ℕ) → level < l → get_or pages' l 0 ≡ get_or pages l 0
  pub above_index : (l : ℕ) → level < l → get_or index' l 0 ≡ get_or index l 0
  pub here_page : 1 < level → get_or pages' level 0 ≡ at
  pub here_index : 1 < level → get_or index' level 0 ≡ place
  pub first : (l : ℕ) → 1 < l → l < level → get_or index' l 0 ≡ 0

-- the leaves before a path, below its pages of the levels up to d + 1
abbrev pub leaves_ahead : ℕ → List ℕ → List ℕ → List ℕ → ℕ → List ℕ
leaves_ahead k b pages index zero = []
leaves_ahead k b pages index (suc d) =
    gathered (λ i. leaves_below k b d (link_at k (page_at b (get_or pages (suc (suc d)) 0)) i)) (get_or index (suc (suc d)) 0) ++ leaves_ahead k b pages index d

-- the path ends in the leaf `at`, and these leaves stand before it
pub record IsWalked (k : ℕ) (b : List ℕ) (levels root : ℕ) (pages index : List ℕ) (at : ℕ) (passed : List ℕ) : Type 0 where
  pub met : Meets k b 1 at
  pub path : IsMetPath k b levels 1 root pages index
  pub thread : IsThread k b levels 1 root pages index at
  pub ahead : leaves_ahead k b pages index (levels - 1) ≡ passed

-- the walk goes on to the leaf after `at`, or there is none
abbrev pub IsWalkedOn : ℕ → List ℕ → ℕ → ℕ → List ℕ → List ℕ → ℕ → List ℕ → Option ℕ → Type 0
IsWalkedOn k b levels root pages index at passed (Some next) = IsWalked k b levels root pages index next (passed ++ at ∷ [])
IsWalkedOn k b levels root pages index at passed None = leaves_of k b levels root ≡ passed ++ at ∷ []

-- the path has the last child at each level below this one
abbrev pub IsLastBelow : List ℕ → List ℕ → List ℕ → ℕ → Type 0
IsLastBelow b pages index level = (l : ℕ) → 1 < l → l < level → get_or index l 0 ≡ filled (page_at b (get_or pages l 0))

-- so it is below the level where the path turns, or at all levels where it turns at none
abbrev pub IsLastUntil : List ℕ → ℕ → List ℕ → List ℕ → Option ℕ → Type 0
IsLastUntil b levels pages index (Some level) = IsLastBelow b pages index level
IsLastUntil b levels pages index None = IsLastBelow b pages index (levels + 1)
