-- What a session's end makes, call after call.
use Rattle.std.proofs.Common.{◌∙◌}
use Rattle.filer_kernel.specs.View.{View}
use Rattle.pilot_engine.specs.Halting.{Made}
use Rattle.pilot_engine.proofs.WroteLemmas.{wrote_then}

-- labels were written, and then others
pub made_then : (v w x : View) → Made v w → Made w x → Made v x
made_then v w x h k = (wrote_then h.0 k.0, k.1 ∙ h.1)
