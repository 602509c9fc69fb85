-- Sound volumes, and volumes that can be opened.
use Rattle.std.specs.Prelude.{◌≡◌, false, List}
use Rattle.labelled_disk.specs.Root.{root_page, short_at}
use Rattle.labelled_disk.specs.Sectors.{Sector, AreSectors}
use Rattle.volume_root.specs.Sound.{Sound}
use Rattle.volume_root.specs.Flag.{with_flag}
use Rattle.label_laws.specs.SoundParts.{IsSoundButFlag}
use Rattle.session_words.specs.OpenLaws.{CanOpen, FlagCleared}

pub record SoundLaws : Type 0 where
  -- a sound volume can be opened
  pub opens : (d : List Sector) → AreSectors d → Sound d → CanOpen d
  -- one that can be opened is sound but for its clean flag, so it is sound once it has a clean root
  pub but_flag : (d : List Sector) → CanOpen d → IsSoundButFlag d
  -- and with the flag it is sound
  pub sound : (d : List Sector) → CanOpen d → short_at (root_page d) 10 ≡ 1 → Sound d
  -- the write of its root with the clean flag 0 opens it
  pub cleared : (d : List Sector) → CanOpen d → FlagCleared d (with_flag false d)
