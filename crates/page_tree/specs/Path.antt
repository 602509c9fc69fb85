-- A path from the root down, and the leaf after one.
use Rattle.std.specs.Prelude.{◌≡◌, ℕ, zero, suc, ◌+◌, ◌<◌, ◌≤◌, List, length, get_or, ◌==◌, if◌then◌else◌, Option, Some, None}
use Rattle.page_tree.specs.Keys.{IsPlace}
use Rattle.page_tree.specs.Page.{page_at}
use Rattle.page_tree.specs.Tree.{Node, node_at, before, heads}

-- the path goes through page `place l` of each level from `level` up, and it chose child `index l` there
pub record IsPath (nodes : ℕ → List Node) (levels level : ℕ) (pages index : List ℕ) (at : ℕ) (place : ℕ → ℕ) : Type 0 where
  pub top : place levels ≡ 0
  pub inside : (l : ℕ) → level ≤ l → l ≤ levels → place l < length (nodes l)
  pub page : (l : ℕ) → level < l → l ≤ levels → get_or pages l 0 ≡ (node_at (nodes l) (place l)).page
  pub chosen : (l : ℕ) → level < l → l ≤ levels → get_or index l 0 < length (node_at (nodes l) (place l)).items
  pub below : (l m : ℕ) → l ≡ m + 1 → level < l → l ≤ levels → place m ≡ before (nodes l) (place l) + get_or index l 0
  pub here : at ≡ (node_at (nodes level) (place level)).page

-- the first leaf below page q of level d + 1
abbrev pub first_leaf_below : (ℕ → List Node) → ℕ → ℕ → ℕ
first_leaf_below nodes zero q = q
first_leaf_below nodes (suc d) q = first_leaf_below nodes d (before (nodes (suc d + 1)) q)

-- a search for this key ends in the leaf `at`, which has these bytes, on this path
pub record IsReached (b : List ℕ) (levels : ℕ) (nodes : ℕ → List Node) (key page pages index : List ℕ) (at : ℕ) : Type 0 where
  pub place : ℕ → ℕ
  pub found : IsPlace (heads (nodes 1)) key (place 1)
  pub path : IsPath nodes levels 1 pages index at place
  pub bytes : page ≡ page_at b (node_at (nodes 1) (place 1)).page

-- the path with another place at one level
abbrev pub with_place : (ℕ → ℕ) → ℕ → ℕ → ℕ → ℕ
with_place place m q n = if n == m then q else place n

-- the leaf at the end of the way that goes down to child c of page p, and on by first children
abbrev pub leaf_under : (ℕ → List Node) → ℕ → ℕ → ℕ → ℕ
leaf_under nodes zero p c = p
leaf_under nodes (suc zero) p c = p
leaf_under nodes (suc (suc d)) p c = leaf_under nodes (suc d) (before (nodes (suc (suc d))) p + c) 0

-- the path ends in the leaf `at`, which is leaf p and has these bytes
pub record IsLed (b : List ℕ) (levels : ℕ) (nodes : ℕ → List Node) (page pages index : List ℕ) (at p : ℕ) : Type 0 where
  pub home : ℕ → ℕ
  pub path : IsPath nodes levels 1 pages index at home
  pub home_is : home 1 ≡ p
  pub bytes : page ≡ page_at b at

-- the path ends in the leaf after leaf p, or there is none
abbrev pub IsLedOn : List ℕ → ℕ → (ℕ → List Node) → List ℕ → List ℕ → List ℕ → ℕ → Option ℕ → Type 0
IsLedOn b levels nodes page pages index p (Some at) = IsLed b levels nodes page pages index at (p + 1)
IsLedOn b levels nodes page pages index p None = p + 1 ≡ length (nodes 1)

-- at this level of the path a child stands after the chosen one, and at none below it; or it does so at no level
abbrev pub Turns : (ℕ → List Node) → ℕ → List ℕ → (ℕ → ℕ) → Option ℕ → Type 0
Turns nodes levels index home (Some level) =
    (get_or index level 0 + 1 < length (node_at (nodes level) (home level)).items) × ((n : ℕ) → 1 < n → n < level → get_or index n 0 + 1 ≡ length (node_at (nodes n) (home n)).items)
Turns nodes levels index home None = (n : ℕ) → 1 < n → n ≤ levels → get_or index n 0 + 1 ≡ length (node_at (nodes n) (home n)).items
