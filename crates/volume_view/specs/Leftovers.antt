-- What is left over on a disk: the sectors that are neither free nor of a permanent file.
use Rattle.std.specs.Prelude.{◌≡◌, ◌==◌, ◌≤◌, ℕ, Bool, true, false, List, count_by, slice_get, Some}
use Rattle.labelled_disk.specs.Label.{is_free}
use Rattle.labelled_disk.specs.Sectors.{Sector}
use Rattle.labelled_disk.specs.WriteLaws.{HasData}
use Rattle.label_laws.specs.Counts.{needs_place, is_of_some_file}
use Rattle.label_survey.specs.declared.sector_state.SectorState.{SectorState}
use Rattle.label_survey.specs.declared.sector_state.SectorState.TheVariants.{Free, Orphan, Lost, Leader, Page}
use Rattle.label_survey.specs.declared.runs.Run.{Run}
use Rattle.label_survey.specs.declared.triples.Triple.{Triple}
use Rattle.label_survey.specs.Runs.{all_triples}
use Rattle.label_survey.specs.Triples.{triple_of}
use Rattle.volume_view.specs.Rows.{AreJoined}

-- the sector is neither free, nor needed, nor lost
abbrev pub is_orphan : SectorState → Bool
is_orphan Orphan = true
is_orphan Free = false
is_orphan Lost = false
is_orphan Leader = false
is_orphan Page = false

-- a restoration frees the sector, and its label is not one of a file that stays
pub record IsLeft (d : List Sector) (i : ℕ) (s : Sector) : Type 0 where
  pub taken : is_free s.0 ≡ false
  pub unneeded : needs_place false d i ≡ false
  pub of_none : is_of_some_file false d s ≡ false

-- exactly these sectors, each once, with what its label says
pub record AreLeft (d : List Sector) (triples : List Triple) : Type 0 where
  pub each : (k : ℕ) (t : Triple) → slice_get triples k ≡ Some t
      → (s : Sector) × HasData d t.sector s × IsLeft d t.sector s × (t ≡ triple_of t.sector s.0)
  pub all : (i : ℕ) (s : Sector) → HasData d i s → IsLeft d i s
      → (k : ℕ) × (slice_get triples k ≡ Some (triple_of i s.0))
  pub once : (sector : ℕ) → count_by (λ t. t.sector == sector) triples ≤ 1

-- the same in runs, each as long as it can be
pub record AreLeftovers (d : List Sector) (runs : List Run) : Type 0 where
  pub joined : AreJoined runs
  pub left : AreLeft d (all_triples runs)
