-- Memories of which a file has taken sectors: labels, bits and triples.
use Rattle.std.specs.Prelude.{◌≡◌, ◌≢◌, ◌⊎◌, ℕ, ◌≤◌, true, false, List, length, Some, slice_get}
use Rattle.labelled_disk.specs.declared.layout.Layout.{Layout}
use Rattle.labelled_disk.specs.Sectors.{Sector}
use Rattle.label_calls.specs.Labels.{HasOne, free_ones}
use Rattle.file_map.specs.FileMap.{Triples}
use Rattle.filer_kernel.specs.Marks.{Marks, BitsAre}
use Rattle.filer_kernel.specs.Triples.{MapIs}

-- the sector had a free label, and has one of this file
pub record IsTakenFor (id : ℕ) (m n : List Sector) (sector : ℕ) : Type 0 where
  pub was : HasOne free_ones m sector
  pub now : HasOne (λ label. label.id ≡ id) n sector

-- each data sector has the label that it had, or was taken for this file
pub record TakesLabels (layout : Layout) (id : ℕ) (m n : List Sector) : Type 0 where
  pub long : length n ≡ length m
  pub each : (sector : ℕ) (s : Sector) → layout.first ≤ sector → slice_get m sector ≡ Some s → HasOne (λ label. label ≡ s.0) n sector ⊎ IsTakenFor id m n sector

-- each data sector is marked as it was, or is marked used and was taken for this file
abbrev pub TakesBits : Layout → ℕ → List Sector → List Sector → Marks → Marks → Type 0
TakesBits layout id m n marks later = (sector : ℕ) → layout.first ≤ sector → (later sector ≡ marks sector) ⊎ ((later sector ≡ true) × IsTakenFor id m n sector)

-- all pages of a file, and none
abbrev pub every_page : ℕ → Type 0
every_page page = Unit {0}

abbrev pub no_page_of : ℕ → Type 0
no_page_of page = ⊥

-- none of these pages of the file has a sector
abbrev pub NamesNoneOf : ℕ → (ℕ → Type 0) → Triples → Type 0
NamesNoneOf id pages named = (page sector : ℕ) → pages page → named id page sector ≡ false

-- what was named is named, and besides it these pages of the file alone
pub record AddsPages (id : ℕ) (pages : ℕ → Type 0) (named later : Triples) : Type 0 where
  pub kept : (i page sector : ℕ) → named i page sector ≡ true → later i page sector ≡ true
  pub only : (i page sector : ℕ) → later i page sector ≡ true → (named i page sector ≡ true) ⊎ ((i ≡ id) × pages page)

-- the file has taken data sectors: labels and bits of no others changed
pub record TakesSectors (layout : Layout) (id : ℕ) (m n : List Sector) : Type 0 where
  pub labels : TakesLabels layout id m n
  pub bits : (marks : Marks) → BitsAre layout marks m → (later : Marks) × BitsAre layout later n × TakesBits layout id m n marks later

-- where the identifier is not 0, data sectors that were taken have labels of these pages
abbrev pub AreOfPages : Layout → ℕ → (ℕ → Type 0) → List Sector → List Sector → Type 0
AreOfPages layout id pages m n = id ≢ 0 → (sector : ℕ) → layout.first ≤ sector → IsTakenFor id m n sector → HasOne (λ label. pages label.page) n sector

-- It has taken them for these pages: where the file map was in form, and named none of these, it is in form, and names what it
-- named and these alone.
pub record TakesFor (layout : Layout) (id : ℕ) (pages : ℕ → Type 0) (m n : List Sector) : Type 0 where
  pub taken : TakesSectors layout id m n
  pub of : AreOfPages layout id pages m n
  pub names : (named : Triples) → MapIs layout named m → NamesNoneOf id pages named → (later : Triples) × MapIs layout later n × AddsPages id pages named later
