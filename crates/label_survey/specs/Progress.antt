-- What the entries before one, in order, say of the file that they end in.
use Rattle.std.specs.Prelude.{◌≡◌, ◌⊎◌, ℕ, ◌+◌, ◌^◌, ◌<◌, ◌≤◌, List, map, slice_get, Some}
use Rattle.labelled_disk.specs.Sectors.{Sector}
use Rattle.labelled_disk.specs.Layout.{data_sectors}
use Rattle.label_survey.specs.declared.entries.Entry.{Entry}
use Rattle.label_survey.specs.declared.walk.Progress.{Progress}
use Rattle.label_survey.specs.declared.sector_state.SectorState.{SectorState}
use Rattle.label_survey.specs.Entries.{AreInOrder, AreOf}
use Rattle.label_survey.specs.SectorStates.{sector_state}

-- an entry of this file and place stands among the first k
abbrev pub IsSeen : List Entry → ℕ → ℕ → ℕ → Type 0
IsSeen entries k id place = (j : ℕ) × (e : Entry) × (j < k) × (slice_get entries j ≡ Some e) × (e.id ≡ id) × (e.place ≡ place)

-- Of the first k entries: the last permanent file has the places below `next` and misses that one; no such file comes after it.
pub record HasCome (entries : List Entry) (k : ℕ) (now : Progress) : Type 0 where
  pub begun : (now.id ≡ 0) ⊎ ((place : ℕ) → place < now.next → IsSeen entries k now.id place)
  pub above : 1 ≤ now.next
  pub bounded : now.next ≤ 2 ^ 32
  pub misses : (j : ℕ) (e : Entry) → j < k → slice_get entries j ≡ Some e → e.id ≡ now.id → e.place ≡ now.next → e.place ≡ 2 ^ 32
  pub last : (j : ℕ) (e : Entry) → j < k → slice_get entries j ≡ Some e → e.place ≡ 0 → e.id ≤ now.id

-- what the next entry says of its sector, and the progress with it
pub record Takes (d : List Sector) (entries : List Entry) (k : ℕ) (entry : Entry) (says : SectorState) (now : Progress) : Type 0 where
  pub said : (s : Sector) → slice_get (data_sectors d) entry.sector ≡ Some s → sector_state d entry.sector s ≡ says
  pub come : HasCome entries (k + 1) now

-- of any disk with these labels
abbrev pub TakesNext : Entry → Progress → SectorState → Progress → Type 0
TakesNext entry old says new = (d : List Sector) (entries : List Entry) (k : ℕ) → AreOf (map (λ s. s.0) (data_sectors d)) entries → AreInOrder entries
    → slice_get entries k ≡ Some entry → HasCome entries k old → Takes d entries k entry says new
