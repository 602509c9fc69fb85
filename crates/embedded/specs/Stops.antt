-- What a stop leaves among the pieces of many bytes.
use Rattle.std.specs.Prelude.{◌≡◌, ◌⊎◌, ◌≤◌, ℕ, List, length, take}
use Rattle.std.specs.List.{AllByRecursion, concat}
use Rattle.labelled_disk.specs.declared.disk.Disk.{Ghosts}
use Rattle.labelled_disk.specs.Sectors.{Sector}
use Rattle.flat_machine.specs.Machine.{Machine}
use Rattle.session_words.specs.StandsFor.{RevealsSettled}
use Rattle.pilot_engine.specs.Closing.{Throughout}
use Rattle.embedded.specs.declared.engine.Engine.{Engine}
use Rattle.embedded.specs.Engine.{Between}
use Rattle.embedded.specs.References.{Lead}

-- A machine after the first of these bytes, so many: stores in a row, of some bytes each, lead to it.
pub record IsPartway (m : Machine) (address : ℕ) (bytes : List ℕ) (n : Machine) : Type 0 where
  pub done : ℕ
  pub part : done ≤ length bytes
  pub pieces : List (List ℕ)
  pub some : AllByRecursion (λ piece. 1 ≤ length piece) pieces
  pub whole : concat pieces ≡ take done bytes
  pub lead : Lead m address pieces n

-- the disk reveals the settled files of a machine after the first of the bytes, so many
abbrev pub RevealsPart : Machine → ℕ → List ℕ → List Sector → Type 0
RevealsPart m address bytes d = (n : Machine) × IsPartway m address bytes n × RevealsSettled d n

module _ {D A : Type 0} {G : Ghosts D} where
  -- nothing was called, or each crash state of the writes that were made is such
  abbrev pub Leaves : (List Sector → Type 0) → Engine D A G → Engine D A G → Type 0
  Leaves P old new = (new ≡ old) ⊎ Between (Throughout P) old new
