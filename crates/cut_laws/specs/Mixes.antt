-- Bytes that were written over a page, and did not all get there.
use Rattle.std.specs.Prelude.{◌≡◌, ◌⊎◌, ℕ, true, List, [], ◌∷◌, slice_get, slice_set, Some}
use Rattle.labelled_disk.specs.declared.label.Wanted.{Wanted}
use Rattle.labelled_disk.specs.declared.disk.DiskWrite.TheVariants.{Page}
use Rattle.labelled_disk.specs.Label.{names}
use Rattle.labelled_disk.specs.Sectors.{Sector}
use Rattle.cut_laws.specs.Cut.{unit, IsCutSince}

-- each unit is that of one of the two
abbrev pub IsMixOf : List ℕ → List ℕ → List ℕ → Type 0
IsMixOf old new page = (u : ℕ) → (unit u page ≡ unit u old) ⊎ (unit u page ≡ unit u new)

-- after one write of a page any mix of old and new units may stand, and nothing else
pub record MixLaws : Type 0 where
  pub may : (d : List Sector) (i : ℕ) (s : Sector) (wanted : Wanted) (new page : List ℕ) → slice_get d i ≡ Some s
      → names s.0 wanted ≡ true → IsMixOf s.1 new page
      → IsCutSince d (Page i wanted new ∷ []) (slice_set d i (s.0, page))
  pub must : (d : List Sector) (i : ℕ) (s : Sector) (wanted : Wanted) (new : List ℕ) (e : List Sector)
      → slice_get d i ≡ Some s → names s.0 wanted ≡ true → IsCutSince d (Page i wanted new ∷ []) e
      → (page : List ℕ) × IsMixOf s.1 new page × (e ≡ slice_set d i (s.0, page))
