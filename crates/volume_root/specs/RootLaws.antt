-- The tests of a root are those that a valid root passes, and a root that is written is the one that is read.
use Rattle.std.specs.Prelude.{◌≡◌, ℕ, ◌<◌, ◌^◌, false, Some, Ok}
use Rattle.labelled_disk.specs.Sectors.{Sector}
use Rattle.labelled_disk.specs.Layout.{IsCount}
use Rattle.labelled_disk.specs.Root.{IsRoot}
use Rattle.volume_root.specs.declared.root.Root.{Root}
use Rattle.volume_root.specs.RootPage.{judged, root_in, root_bytes, IsValidRoot}
use Rattle.labelled_disk.specs.Label.{root_label}

-- a root is valid exactly where each test passes, that it was closed not asked
pub record ValidIsJudged (n : ℕ) (s : Sector) : Type 0 where
  pub passes : IsRoot n (Some s) → judged false n s ≡ Ok (root_in s.1)
  pub valid : IsCount n → (root : Root) → judged false n s ≡ Ok root → IsRoot n (Some s)

-- the sector of this root has it: it is valid, and it is read back
pub record HasRoot (n : ℕ) (root : Root) : Type 0 where
  pub valid : IsRoot n (Some (root_label, root_bytes root))
  pub read : judged false n (root_label, root_bytes root) ≡ Ok root

-- a root whose fields are valid is read back
abbrev pub WrittenIsRead : Type 0
WrittenIsRead = (n : ℕ) (root : Root) → IsValidRoot n root → root.serial < 2 ^ 32 → root.counter < 2 ^ 32 → HasRoot n root
