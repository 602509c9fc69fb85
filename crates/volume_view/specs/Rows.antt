-- Runs of pages that are as long as they can be.
use Rattle.std.specs.Prelude.{◌≡◌, false, List, [], ◌∷◌}
use Rattle.std.specs.List.{AllByRecursion}
use Rattle.label_survey.specs.declared.triples.Triple.{Triple}
use Rattle.label_survey.specs.declared.runs.Run.{Run}
use Rattle.label_survey.specs.Runs.{IsLong, goes_on}

-- the first page of a run
abbrev pub begin_of : Run → Triple
begin_of r = record { id = r.id; page = r.first; sector = r.sector }

-- no run goes on in the next
abbrev pub AreApart : List Run → Type 0
AreApart [] = Unit {0}
AreApart (a ∷ []) = Unit {0}
AreApart (a ∷ b ∷ runs) = (goes_on a (begin_of b) ≡ false) × AreApart (b ∷ runs)

-- no run is empty, and each is as long as it can be
pub record AreJoined (runs : List Run) : Type 0 where
  pub long : AllByRecursion IsLong runs
  pub apart : AreApart runs
