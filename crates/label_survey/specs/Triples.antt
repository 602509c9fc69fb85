-- The leaders and pages that stay, each with its sector, in ascending identifiers and pages.
use Rattle.std.specs.Prelude.{◌≡◌, ◌⊎◌, ℕ, ◌+◌, ◌<◌, ◌≤◌, true, false, if◌then◌else◌, List, [], ◌∷◌, slice_get, Some}
use Rattle.labelled_disk.specs.declared.label.Label.{Label}
use Rattle.labelled_disk.specs.Sectors.{Sector}
use Rattle.labelled_disk.specs.WriteLaws.{HasData}
use Rattle.label_laws.specs.Counts.{needs_place}
use Rattle.label_survey.specs.declared.sector_state.SectorState.{SectorState}
use Rattle.label_survey.specs.declared.triples.Triple.{Triple}
use Rattle.label_survey.specs.Survey.{is_kept}

abbrev pub triple_of : ℕ → Label → Triple
triple_of sector l = record { id = l.id; page = l.page; sector = sector }

-- those of the sectors that are kept, the first being sector n
abbrev pub triples_from : ℕ → List Label → List SectorState → List Triple
triples_from n [] sector_states = []
triples_from n (l ∷ ls) [] = []
triples_from n (l ∷ ls) (x ∷ xs) = if is_kept x then triple_of n l ∷ triples_from (n + 1) ls xs else triples_from (n + 1) ls xs

-- by identifier, then page, then sector
abbrev pub IsUpTo : Triple → Triple → Type 0
IsUpTo a b = (a.id < b.id) ⊎ ((a.id ≡ b.id) × ((a.page < b.page) ⊎ ((a.page ≡ b.page) × (a.sector ≤ b.sector))))

abbrev pub AreUp : List Triple → Type 0
AreUp triples = (i j : ℕ) (a b : Triple) → i ≤ j → slice_get triples i ≡ Some a → slice_get triples j ≡ Some b → IsUpTo a b

-- exactly the sectors that files of the disk need, each once, and each page once
pub record AreNeeded (d : List Sector) (triples : List Triple) : Type 0 where
  pub each : (k : ℕ) (t : Triple) → slice_get triples k ≡ Some t → (s : Sector) × HasData d t.sector s × (needs_place false d t.sector ≡ true) × (t.id ≡ s.0.id) × (t.page ≡ s.0.page)
  pub all : (i : ℕ) (s : Sector) → HasData d i s → needs_place false d i ≡ true → (k : ℕ) × (slice_get triples k ≡ Some (triple_of i s.0))
  pub once : (j k : ℕ) (a b : Triple) → slice_get triples j ≡ Some a → slice_get triples k ≡ Some b → a.sector ≡ b.sector → j ≡ k
  pub apart : (j k : ℕ) (a b : Triple) → slice_get triples j ≡ Some a → slice_get triples k ≡ Some b → a.id ≡ b.id → a.page ≡ b.page → j ≡ k
