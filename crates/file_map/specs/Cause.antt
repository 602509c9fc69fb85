-- Why a call of the map answered an error.
use Rattle.std.specs.Prelude.{◌≡◌, ◌⊎◌, ℕ, ◌+◌, ◌<◌, List}
use Rattle.page_tree.specs.declared.error.TreeError.{TreeError}
use Rattle.page_tree.specs.declared.error.TreeError.TheVariants.{Full as TreeFull, Malformed as TreeMalformed, Mem as TreeMem}
use Rattle.file_map.specs.declared.error.MapError.{MapError}
use Rattle.file_map.specs.declared.error.MapError.TheVariants.{Full, Malformed, Mem}
use Rattle.file_map.specs.Entries.{Sight, Entry, Count, Broken, Stops}
use Rattle.file_map.specs.declared.run.Run.{Run}
use Rattle.file_map.specs.Run.{IsRecord, run_bytes}
use Rattle.file_map.specs.FileMap.{most_records}

-- an error of the list of records as one of the map
abbrev pub of_tree : {X : Type 0} → TreeError X → MapError X
of_tree TreeFull = Full
of_tree (TreeMalformed page) = Malformed page
of_tree (TreeMem error) = Mem error

-- The page breaks its form: as a page of the list, or as one with a record that breaks the form of one on a volume of
-- n sectors, or as page 0, which counts more records than there are data sectors
abbrev pub IsBroken : ℕ → (Sight → Type 0) → ℕ → Type 0
IsBroken n shows page =
    shows (Broken page) ⊎ (((entry : List ℕ) × shows (Entry page entry) × (IsRecord n entry → ⊥)) ⊎ ((page ≡ 0) × ((count : ℕ) × shows (Count count) × (most_records n < count))))

-- why a call answered an error: where the map is full, this holds; a page that is malformed is shown to break its form; the
-- memory's error is accounted for
abbrev pub IsCause : {X : Type 0} → ℕ → Type 0 → (Sight → Type 0) → (X → Type 0) → MapError X → Type 0
IsCause n full shows accounted Full = full
IsCause n full shows accounted (Malformed page) = IsBroken n shows page
IsCause n full shows accounted (Mem error) = accounted error

-- why an addition answered one: also a page where no record can be put in
abbrev pub IsAddCause : {X : Type 0} → ℕ → Type 0 → (Sight → Type 0) → (X → Type 0) → MapError X → Type 0
IsAddCause n full shows accounted Full = full
IsAddCause n full shows accounted (Malformed page) = IsBroken n shows page ⊎ shows (Stops page)
IsAddCause n full shows accounted (Mem error) = accounted error

-- a record of the file is shown that ends after page `from`, so that a cut there takes something out
pub record IsToCut (id from : ℕ) (shows : Sight → Type 0) : Type 0 where
  pub run : Run
  pub page : ℕ
  pub shown : shows (Entry page (run_bytes run))
  pub of_file : run.id ≡ id
  pub after : from < run.first + run.pages

-- no record may be added: whatever count is revealed, it is that of the data sectors
abbrev pub IsMost : ℕ → (ℕ → Type 0) → Type 0
IsMost n counts = (count : ℕ) → counts count → count ≡ most_records n

-- the map has a record for each data sector, and stays; or the error comes from the memory
abbrev pub IsFullOr : {X : Type 0} → Type 0 → Type 0 → MapError X → Type 0
IsFullOr full stays Full = full × stays
IsFullOr full stays (Malformed page) = ⊥
IsFullOr full stays (Mem error) = Unit {0}

-- what holds where the map is full
abbrev pub IfFull : {X : Type 0} → Type 0 → MapError X → Type 0
IfFull P Full = P
IfFull P (Malformed page) = Unit {0}
IfFull P (Mem error) = Unit {0}

-- the error comes from the memory
abbrev pub FromMemory : {X : Type 0} → MapError X → Type 0
FromMemory Full = ⊥
FromMemory (Malformed page) = ⊥
FromMemory (Mem error) = Unit {0}
