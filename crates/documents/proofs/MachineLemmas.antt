-- What an engine stands for is a machine, and forced pages are gone from its unforced ones.
use Rattle.std.specs.Prelude.{filter, not, ℕ, List}
use Rattle.labelled_disk.specs.declared.disk.Disk.{Ghosts}
use Rattle.flat_machine.specs.declared.space.FilePage.{FilePage}
use Rattle.flat_machine.specs.Machine.{Machine}
use Rattle.flat_machine.specs.IsMachine.{IsMachine}
use Rattle.flat_machine.proofs.Lists.{any_not, in_filter, not_any}
use Rattle.documents.specs.Pieces.{forced, is_in_run}
use Rattle.documents.specs.Stands.{AreAmong}
use Rattle.embedded.specs.declared.engine.Engine.{Engine}
use Rattle.embedded.specs.declared.held.Held.{Held}
use Rattle.embedded.specs.declared.held.Held.TheVariants as held
use Rattle.embedded.specs.Engine.{IsIn, StandsFor}

-- what is left of them was among them
pub forced_among : (id page pages : ℕ) (us : List FilePage) → AreAmong (forced id page pages us) us
forced_among id page pages us test none =
    any_not test (forced id page pages us) (λ u i. not_any test us none u (in_filter (λ v. not (is_in_run id page pages v)) us u i).0)

module _ {D A : Type 0} {G : Ghosts D} where
  held_machine : (h : Held D A G) (m : Machine) → IsIn h m → IsMachine m
  held_machine (held.Session live) m stands = stands.1.session.stands.is.by.machine
  held_machine other m stands = absurd stands

  pub machine_of : (e : Engine D A G) (m : Machine) → StandsFor e m → IsMachine m
  machine_of e m stands = held_machine e.held m stands
