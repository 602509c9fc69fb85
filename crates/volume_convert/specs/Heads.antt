-- The files of an old volume as the labels of their first pages say, in memory.
use Rattle.std.specs.Prelude.{◌≡◌, ◌⊎◌, ℕ, ◌<◌, ◌≤◌, if◌then◌else◌, List, [], ◌∷◌, map, slice_get, Some}
use Rattle.std.specs.List.Sorted.{IsPermutation}
use Rattle.labelled_disk.specs.declared.label.Label.{Label}
use Rattle.labelled_disk.specs.Label.{leader_page}
use Rattle.label_survey.specs.declared.sector_state.SectorState.{SectorState}
use Rattle.label_survey.specs.Survey.{is_leader}
use Rattle.volume_convert.specs.declared.heads.Head.{Head}

-- what the label of a first page says of its file
abbrev pub head_of : Label → Head
head_of l = record { id = l.id; kind = l.kind; flags = l.flags }

-- the label of the leader
abbrev pub leader_by : Head → Label
leader_by h = record { id = h.id; page = leader_page; kind = h.kind; flags = h.flags; last = 0 }

-- of those sectors that are the first page of a file
abbrev pub heads_from : List Label → List SectorState → List Head
heads_from [] sector_states = []
heads_from (l ∷ ls) [] = []
heads_from (l ∷ ls) (x ∷ xs) = if is_leader x then head_of l ∷ heads_from ls xs else heads_from ls xs

-- by identifier, then type, then flags
abbrev pub IsHeadUpTo : Head → Head → Type 0
IsHeadUpTo a b = (a.id < b.id) ⊎ ((a.id ≡ b.id) × ((a.kind < b.kind) ⊎ ((a.kind ≡ b.kind) × (a.flags ≤ b.flags))))

abbrev pub AreHeadsUp : List Head → Type 0
AreHeadsUp heads = (i j : ℕ) (a b : Head) → i ≤ j → slice_get heads i ≡ Some a → slice_get heads j ≡ Some b
    → IsHeadUpTo a b

-- these, sorted
pub record AreHeads (labels : List Label) (sector_states : List SectorState) (heads : List Head) : Type 0 where
  pub up : AreHeadsUp heads
  pub moved : IsPermutation (heads_from labels sector_states) heads

-- the labels of their leaders
abbrev pub leaders_by : List Head → List Label
leaders_by heads = map leader_by heads
