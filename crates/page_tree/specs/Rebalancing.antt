-- A removal that has written pages, over the bytes of its start.
use Rattle.std.specs.Prelude.{◌≡◌, ◌≢◌, ℕ, ◌<◌, ◌≤◌, ◌⊎◌, ◌-◌, List, length, get_or, Bool, true, false, Option, Some, None}
use Rattle.page_tree.specs.Page.{page_at, kind_of, filled, key_room, link_at, levels_in}
use Rattle.page_tree.specs.Broken.{Meets}
use Rattle.page_tree.specs.Met.{IsMetPath}

-- an inner page with the same children, whatever its keys are; or a leaf that counts as many
pub record IsLike (k : ℕ) (page was : List ℕ) : Type 0 where
  pub kind : kind_of page ≡ kind_of was
  pub count : filled page ≡ filled was
  pub links : (i : ℕ) → i ≤ key_room k → link_at k page i ≡ link_at k was i

-- the page was met at a level below this one
abbrev pub IsBelow : ℕ → List ℕ → ℕ → ℕ → Type 0
IsBelow k b level q = (l : ℕ) × (1 ≤ l) × (l < level) × Meets k b l q

-- pages are as they were at the start, but for keys and for pages of lower levels, of which none stands on the path above
pub record IsRebalancing (k : ℕ) (b c : List ℕ) (levels level root : ℕ) (paths index : List ℕ) : Type 0 where
  pub levels_is : levels ≡ levels_in (page_at b 0)
  pub long : length c ≡ length b
  pub met : IsMetPath k b levels 1 root paths index
  pub pages : (q : ℕ) → IsLike k (page_at c q) (page_at b q) ⊎ IsBelow k b level q
  pub path : (l : ℕ) → level < l → l ≤ levels → IsLike k (page_at c (get_or paths l 0)) (page_at b (get_or paths l 0))

-- neither page stands on the path above this level
abbrev pub AreNotAbove : List ℕ → ℕ → ℕ → ℕ → ℕ → Type 0
AreNotAbove paths level levels at beside = (l : ℕ) → level < l → l ≤ levels → (get_or paths l 0 ≢ at) × (get_or paths l 0 ≢ beside)

-- this one of the two does; or neither
abbrev pub IsMetAgain : List ℕ → ℕ → ℕ → ℕ → ℕ → Option ℕ → Type 0
IsMetAgain paths level levels at beside (Some page) = ((page ≡ at) ⊎ (page ≡ beside)) × ((l : ℕ) × (level < l) × (l ≤ levels) × (get_or paths l 0 ≡ page))
IsMetAgain paths level levels at beside None = AreNotAbove paths level levels at beside

-- the child beside child i that it is redistributed with
pub record IsBesideOf (i beside : ℕ) : Type 0 where
  pub at_first : i ≡ 0 → beside ≡ 1
  pub after : 0 < i → beside ≡ i - 1

-- the removal goes on to the next level, where it was not done
abbrev pub RebalancesOn : ℕ → (List ℕ → Type 0) → List ℕ → ℕ → ℕ → ℕ → List ℕ → List ℕ → Bool → Type 0
RebalancesOn k reveals b levels level root paths index true = Unit {0}
RebalancesOn k reveals b levels level root paths index false = (d : List ℕ) × reveals d × IsRebalancing k b d levels level root paths index
