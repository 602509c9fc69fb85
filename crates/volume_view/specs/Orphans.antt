-- The orphans among the first sectors, as they are collected.
use Rattle.std.specs.Prelude.{◌≡◌, ◌==◌, ◌+◌, ◌<◌, ◌≤◌, ℕ, true, List, count_by, slice_get, Some}
use Rattle.labelled_disk.specs.declared.label.Label.{Label}
use Rattle.label_survey.specs.declared.sector_state.SectorState.{SectorState}
use Rattle.label_survey.specs.declared.triples.Triple.{Triple}
use Rattle.label_survey.specs.Triples.{triple_of}
use Rattle.volume_view.specs.Leftovers.{is_orphan}

-- sector i, counted from the first data sector, has this label and is an orphan
pub record IsOrphanAt (labels : List Label) (sector_states : List SectorState) (i : ℕ) (l : Label) : Type 0 where
  pub here : slice_get labels i ≡ Some l
  pub x : SectorState
  pub stands : slice_get sector_states i ≡ Some x
  pub orphan : is_orphan x ≡ true

-- exactly the orphans among the first k sectors, each once; the first of all is sector `first`
pub record AreOrphans (first : ℕ) (labels : List Label) (sector_states : List SectorState) (k : ℕ) (triples : List Triple) :
    Type 0 where
  pub each : (j : ℕ) (t : Triple) → slice_get triples j ≡ Some t
      → (i : ℕ) × (l : Label) × (i < k) × IsOrphanAt labels sector_states i l × (t ≡ triple_of (first + i) l)
  pub all : (i : ℕ) (l : Label) → i < k → IsOrphanAt labels sector_states i l
      → (j : ℕ) × (slice_get triples j ≡ Some (triple_of (first + i) l))
  pub once : (sector : ℕ) → count_by (λ t. t.sector == sector) triples ≤ 1
  pub ahead : (sector : ℕ) → first + k ≤ sector → count_by (λ t. t.sector == sector) triples ≡ 0
