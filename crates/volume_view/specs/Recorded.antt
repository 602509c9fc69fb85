-- What the records of a file map say, whatever its form is.
use Rattle.std.specs.Prelude.{◌≡◌, ℕ, true, List, length, slice_get, Some}
use Rattle.page_tree.specs.Page.{page_at, count_in}
use Rattle.page_tree.specs.Reveals.{StandsIn}
use Rattle.file_map.specs.declared.run.Run.{Run}
use Rattle.file_map.specs.Run.{IsRun, run_bytes}
use Rattle.file_map.specs.FileMap.{Triples, run_names, names_triple}
use Rattle.volume_view.specs.Names.{Covers}
use Rattle.volume_view.specs.Records.{AreAllInForm}

-- the record of the run stands in a leaf to which a way leads from the root
abbrev pub StandsInLeaf : List ℕ → Run → Type 0
StandsInLeaf bytes r = (leaf : ℕ) × StandsIn 24 12 bytes (run_bytes r) leaf

abbrev pub AllStand : List ℕ → List Run → Type 0
AllStand bytes runs = (j : ℕ) (r : Run) → slice_get runs j ≡ Some r → StandsInLeaf bytes r

-- a record of a run in form stands in a leaf, and names the page there
pub record IsRecorded (n : ℕ) (bytes : List ℕ) (id page sector : ℕ) : Type 0 where
  pub run : Run
  pub form : IsRun n run
  pub names : run_names run id page sector ≡ true
  pub stands : StandsInLeaf bytes run

-- each page that is named so is recorded
abbrev pub AreRecorded : ℕ → List ℕ → Triples → Type 0
AreRecorded n bytes said = (id page sector : ℕ) → said id page sector ≡ true → IsRecorded n bytes id page sector

-- As many runs as the header counts were read, each from a leaf and in form, and what they name is said of these
-- sectors; and
-- each page of which it is said is recorded. Whether the bytes are in form is open, and whether all runs are
-- different: a record
-- that none of the searches met may stand in a leaf.
pub record AreReadAlike (n : ℕ) (bytes : List ℕ) (said : Triples) : Type 0 where
  pub runs : List Run
  pub counted : length runs ≡ count_in (page_at bytes 0)
  pub form : AreAllInForm n runs
  pub stand : AllStand bytes runs
  pub covered : Covers said (names_triple runs)
  pub recorded : AreRecorded n bytes said
