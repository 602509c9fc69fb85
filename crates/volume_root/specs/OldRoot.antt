-- The root of an old volume, which is one of version 1 or 2, and how it is judged.
use Rattle.std.specs.Prelude.{◌≡◌, ◌⊎◌, ℕ, ◌≤◌, Bool, false, not, ◌&&◌, ◌==◌, List, Result, Ok, Err}
use Rattle.std.specs.Bool.{then_some}
use Rattle.labelled_disk.specs.declared.layout.RootFault.{RootFault}
use Rattle.labelled_disk.specs.declared.layout.RootFault.TheVariants as fault
use Rattle.labelled_disk.specs.Root.{short_at}
use Rattle.labelled_disk.specs.Sectors.{Sector}
use Rattle.volume_root.specs.declared.root.Root.{Root}
use Rattle.volume_root.specs.RootPage.{Test, judged, judged_by}

-- so many sectors could hold an old volume
abbrev pub IsOldCount : ℕ → Type 0
IsOldCount n = (256 ≤ n) × (n ≤ 65536)

-- the version is 1 or 2
abbrev pub is_old_version : List ℕ → Test
is_old_version page = then_some (not (short_at page 8 == 1) && not (short_at page 8 == 2)) (fault.Version (short_at page 8))

-- the old root that a sector 0 has, closed or not, or why it has none
abbrev pub judged_old : ℕ → Sector → Result Root RootFault
judged_old n s = judged_by (is_old_version s.1) false n s

-- the root of an old volume of n sectors may have these fields
pub record IsValidOldRoot (n : ℕ) (root : Root) : Type 0 where
  pub version : (root.version ≡ 1) ⊎ (root.version ≡ 2)
  pub accepted : IsOldCount n
  pub count : root.sectors ≡ n
  pub serial : 1 ≤ root.serial
  pub counter : 1 ≤ root.counter

-- a root that is old is none of today, for its version, and the other way round
pub record IsOldOrNew (n : ℕ) (s : Sector) : Type 0 where
  pub old : (root : Root) → judged_old n s ≡ Ok root → (clean_only : Bool) → judged clean_only n s ≡ Err (fault.Version root.version)
  pub new : (clean_only : Bool) (root : Root) → judged clean_only n s ≡ Ok root → judged_old n s ≡ Err (fault.Version root.version)
