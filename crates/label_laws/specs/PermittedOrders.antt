-- The orders that make, lengthen, shorten and remove a file are permitted.
use Rattle.std.specs.Prelude.{◌≡◌, ◌≢◌, ◌⊎◌, ℕ, ◌+◌, ◌≤◌, true, List, [], ◌∷◌, length}
use Rattle.std.specs.List.{AllByRecursion}
use Rattle.labelled_disk.specs.Label.{is_free, is_file_id}
use Rattle.labelled_disk.specs.Sectors.{Sector}
use Rattle.labelled_disk.specs.Runs.{growth, creation, freeing}
use Rattle.labelled_disk.specs.WriteLaws.{HasData}
use Rattle.label_laws.specs.PermittedRuns.{ArePermitted}

-- a data sector with a free label
abbrev pub IsFreeSector : List Sector → ℕ → Type 0
IsFreeSector d i = (s : Sector) × HasData d i s × (is_free s.0 ≡ true)

-- a data sector of a file or of the space tables
abbrev pub IsTakenSector : List Sector → ℕ → Type 0
IsTakenSector d i = (s : Sector) × HasData d i s × ((s.0.id ≡ 3) ⊎ (16 ≤ s.0.id))

-- each of these sectors is so, and no two are the same
abbrev pub AreApart : (ℕ → Type 0) → List ℕ → Type 0
AreApart P [] = Unit {0}
AreApart P (i ∷ is) = P i × AllByRecursion (λ j. j ≢ i) is × AreApart P is

pub record OrdersArePermitted : Type 0 where
  pub grown : (d : List Sector) (id kind page : ℕ) (is : List ℕ) → is_file_id id ≡ true → AreApart (IsFreeSector d) is → ArePermitted d (growth id kind page is)
  pub created : (d : List Sector) (id kind leader : ℕ) (is : List ℕ) → is_file_id id ≡ true → AreApart (IsFreeSector d) (leader ∷ is) → ArePermitted d (creation id kind leader is)
  pub freed : (d : List Sector) (is : List ℕ) → AreApart (IsTakenSector d) is → ArePermitted d (freeing is)
  pub tables : (d : List Sector) (page : ℕ) (is : List ℕ) → page + length is ≤ 96 → AreApart (IsFreeSector d) is → ArePermitted d (growth 3 0 page is)
