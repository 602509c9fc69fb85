-- Lists in ascending order.
use Rattle.std.specs.Prelude.{ℕ, ◌<◌, List, [], ◌∷◌, map, Option, Some, None}
use Rattle.std.specs.List.{AllByRecursion}
use Rattle.labelled_disk.specs.File.{File}

-- each number is below all after it
abbrev pub IsAscending : List ℕ → Type 0
IsAscending [] = Unit {0}
IsAscending (x ∷ xs) = AllByRecursion (λ y. x < y) xs × IsAscending xs

-- in ascending identifiers
abbrev pub AreAscending : List File → Type 0
AreAscending files = IsAscending (map (λ f. f.id) files)

-- two files or none, by R
abbrev pub BothBy : (File → File → Type 0) → Option File → Option File → Type 0
BothBy R None None = Unit {0}
BothBy R None (Some g) = ⊥
BothBy R (Some f) None = ⊥
BothBy R (Some f) (Some g) = R f g
