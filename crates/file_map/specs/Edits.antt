-- What the edits of a map make of its triples.
use Rattle.std.specs.Prelude.{◌≡◌, ℕ, ◌+◌, ◌<◌, ◌≤◌, Bool, true, false, List}
use Rattle.file_map.specs.declared.run.Run.{Run}
use Rattle.file_map.specs.FileMap.{Triples, AreNamed, without_from}

-- the run b begins where the run a ends, in page and in sector, and r is both
pub record Joins (a b r : Run) : Type 0 where
  pub file : a.id ≡ b.id
  pub page : a.first + a.pages ≡ b.first
  pub sector : a.sector + a.pages ≡ b.sector
  pub both : r ≡ record { id = a.id; first = a.first; pages = a.pages + b.pages; sector = a.sector }

-- A record fewer, with the same triples but for some of the file from a page on: one page of the file that was named is
-- after all that still are.
pub record IsShorter (n : ℕ) (lists : List (List ℕ) → Type 0) (counts : ℕ → Type 0) (named : Triples) (file from count : ℕ) : Type 0 where
  pub now : Triples
  pub map_is : AreNamed n lists now
  pub same : (id page sector : ℕ) → without_from now file from id page sector ≡ without_from named file from id page sector
  pub left : ℕ
  pub counted : counts left
  pub fewer : left + 1 ≡ count
  pub page : ℕ
  pub sector : ℕ
  pub was : named file page sector ≡ true
  pub high : page ≤ 4294967295
  pub before : (p s : ℕ) → now file p s ≡ true → p < page
  pub among : (p s : ℕ) → now file p s ≡ true → named file p s ≡ true

-- a step of a cut: where more may be left, a record fewer; else the cut is done
abbrev pub IsStep : ℕ → (List (List ℕ) → Type 0) → (ℕ → Type 0) → Triples → ℕ → ℕ → ℕ → Bool → Type 0
IsStep n lists counts named file from count true = IsShorter n lists counts named file from count
IsStep n lists counts named file from count false = AreNamed n lists (without_from named file from)
