-- A file map that names the triples of a list.
use Rattle.std.specs.Prelude.{◌≡◌, ◌≢◌, ℕ, ◌*◌, ◌≤◌, ◌<◌, ◌^◌, ◌&&◌, ◌==◌, true, List, length, slice_get, Some}
use Rattle.std.specs.List.{list_any}
use Rattle.labelled_disk.specs.Layout.{vfm, first_data}
use Rattle.page_tree.specs.Reveals.{RevealsTree}
use Rattle.file_map.specs.declared.run.Run.{Run}
use Rattle.file_map.specs.FileMap.{Triples, AreNamed, IsNew}
use Rattle.file_map.specs.Laws.{AreOnce}
use Rattle.label_survey.specs.declared.triples.Triple.{Triple}
use Rattle.label_survey.specs.declared.runs.Run.{Run as LabelRun}

-- those that are in the list
abbrev pub among : List Triple → Triples
among triples id page sector = list_any (λ t. t.id == id && (t.page == page && t.sector == sector)) triples

-- the triple may be one of a volume of n sectors
pub record IsTriple (n : ℕ) (t : Triple) : Type 0 where
  pub of_file : 16 ≤ t.id
  pub page_fits : t.page < 2 ^ 32
  pub from_data : first_data n ≤ t.sector
  pub inside : t.sector < n

-- no two have one sector, and no two are one page
pub record AreTriples (n : ℕ) (triples : List Triple) : Type 0 where
  pub each : (k : ℕ) (t : Triple) → slice_get triples k ≡ Some t → IsTriple n t
  pub once : (j k : ℕ) (a b : Triple) → slice_get triples j ≡ Some a → slice_get triples k ≡ Some b → a.sector ≡ b.sector → j ≡ k
  pub apart : (j k : ℕ) (a b : Triple) → slice_get triples j ≡ Some a → slice_get triples k ≡ Some b → a.id ≡ b.id → a.page ≡ b.page → j ≡ k

-- the bytes are those of a file map of a volume of n sectors, which names these triples
pub record IsNaming (n : ℕ) (named : Triples) (bytes : List ℕ) : Type 0 where
  pub size : length bytes ≡ 512 * vfm n
  pub names : AreNamed n (RevealsTree 24 12 (vfm n) (λ b. b ≡ bytes)) named

-- the map names some triples, each of another sector, and neither a page of this run nor its first sector
pub record HasRoomFor (n : ℕ) (bytes : List ℕ) (run : Run) : Type 0 where
  pub named : Triples
  pub naming : IsNaming n named bytes
  pub is_new : IsNew named run
  pub once : AreOnce named
  pub elsewhere : (id page sector : ℕ) → named id page sector ≡ true → sector ≢ run.sector

-- the same run as the map has it
abbrev pub map_run : LabelRun → Run
map_run r = record { id = r.id; first = r.first; pages = r.pages; sector = r.sector }
