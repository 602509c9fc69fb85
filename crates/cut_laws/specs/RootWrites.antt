-- A root that is written over a root with the same serial and counter.
use Rattle.std.specs.Prelude.{◌≡◌, ◌⊎◌, List, [], ◌∷◌, slice_get, Some}
use Rattle.labelled_disk.specs.Label.{root_label}
use Rattle.labelled_disk.specs.CrashState.{written}
use Rattle.labelled_disk.specs.Sectors.{Sector}
use Rattle.volume_root.specs.declared.root.Root.{Root}
use Rattle.volume_root.specs.RootPage.{root_bytes, root_write}
use Rattle.cut_laws.specs.Cut.{IsCutSince}

-- where it is the one write since the last sync, a cut has the one or the other: the flag is set or cleared whole
abbrev pub RootIsWhole : Type 0
RootIsWhole = (d : List Sector) (old new : Root) (e : List Sector) → slice_get d 0 ≡ Some (root_label, root_bytes old)
    → new.serial ≡ old.serial → new.counter ≡ old.counter
    → IsCutSince d (root_write new ∷ []) e → (e ≡ d) ⊎ (e ≡ written (root_write new) d)
