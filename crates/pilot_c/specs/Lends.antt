-- The session in a handle is lent, and the handle follows it.
use base.Fml.{Fml}
use denote.Follow.{follows}
use Rattle.std.specs.Borrow.{MutBor}
use Rattle.pilot_c.specs.declared.handle.Pilot.{Pilot}
use Rattle.embedded.specs.declared.image.ImageEngine.{ImageEngine}
use Rattle.pilot_c.specs.contracts.handle.Pilot.{the_row as pilot-row}
use Rattle.embedded.specs.contracts.image.ImageEngine.{the_row as engine-row}

abbrev pub with_value : Pilot → ImageEngine → Pilot
with_value p w = record p { value = w }

abbrev pub lends : MutBor Pilot → MutBor ImageEngine → Fml
lends p e = follows pilot-row engine-row p.ghost_name e.ghost_name (with_value p.now)
