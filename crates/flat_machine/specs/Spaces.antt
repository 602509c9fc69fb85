-- What holds of a machine's spaces, by themselves.
use Rattle.std.specs.Prelude.{◌≡◌, ◌&&◌, List, map, Some, IsTrue, IsFalse}
use Rattle.std.specs.List.{AllByRecursion}
use Rattle.flat_machine.specs.Space.{Space, root, overlap, space_at, is_mapped}
use Rattle.flat_machine.specs.Machine.{IsAscending, IsSpace, EachTwo, are_siblings, shares_anonymous}

-- The spaces have the form of a machine's: their windows may show any files. Two that share a page lie on one path from the root.
pub record AreSpaces (ss : List Space) : Type 0 where
  pub has_root : space_at ss 0 ≡ Some root
  pub rise : IsAscending (map (λ s. s.handle) ss)
  pub whole : AllByRecursion (IsSpace ss) ss
  pub apart : EachTwo (λ s t. IsTrue (are_siblings s t) → IsFalse (overlap s t)) ss
  pub path : EachTwo (λ s t. IsTrue (is_mapped s && is_mapped t) → IsFalse (overlap s t)) ss

-- a file with an anonymous window has that window alone
abbrev pub AreAlone : List Space → Type 0
AreAlone ss = EachTwo (λ s t. IsFalse (shares_anonymous s t)) ss
