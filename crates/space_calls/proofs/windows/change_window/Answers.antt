use Rattle.std.specs.Prelude.{option_map}
use Rattle.space_calls.proofs.RunLemmas.{knows}
use Rattle.space_calls.proofs.WindowLemmas.{window_changed}
use Rattle.fault_core.specs.Core.{kept, state}
use Rattle.space_calls.proofs.ReshapeLemmas.{reshapes_tables}
use Rattle.fault_core.specs.Lack.{Sees}
use Rattle.flat_machine.specs.Next.{set_window}
use Rattle.space_tables.specs.Shows.{window_of}
use Rattle.space_calls.proofs.SeesLemmas.{set_so}
use Rattle.space_calls.proofs.windows.change_window.Goals as goal
use Rattle.space_calls.proofs.OutcomeLemmas.{halts_reached}
use Rattle.std.proofs.Common.{Err}
use Rattle.filer_kernel.specs.View.{accepted, disk_of}

pub returns-in-Err-clause-sound : goal.returns-in-Err-clause-sound
returns-in-Err-clause-sound g c = λ volume m x r may named fits. c.in-Err.ensures.sound _ _ m.spaces x (knows c.args.core.now (accepted c.args.core.now.filer) c.requires.size volume m r) may named fits

pub returns-clause-done : goal.returns-clause-done
returns-clause-done g c = λ volume m x unforced r may named fits is frames loose.
    let old = c.args.core.now in
    window_changed old c.set_window.new.core c.frame_count-frames.new.core (accepted old.filer) c.requires.size (g.met.D.Disk.in_form (disk_of c.set_window.new.core.filer))
    c.frame_count-frames.ensures.pages c.frame_count-frames.ensures.same c.set_window.ensures.retabled volume m r _ unforced is frames loose c.in-Ok.answer
    (c.in-Ok.ensures.done _ _ m.spaces x (knows old (accepted old.filer) c.requires.size volume m r) may named fits)

-- ---- What the change leaves.

pub returns-in-Err-clause-reshapes : goal.returns-in-Err-clause-reshapes
returns-in-Err-clause-reshapes g c = reshapes_tables (state c.args.core.now) (state c.set_window.new.core) c.set_window.ensures.retabled.beside

pub returns-clause-reshapes : goal.returns-clause-reshapes
returns-clause-reshapes g c = rw c.frame_count-frames.ensures.same (reshapes_tables (state c.args.core.now) (state c.set_window.new.core) c.set_window.ensures.retabled.beside)

-- ---- The tables are revealed.

pub returns-clause-sees : goal.returns-clause-sees
returns-clause-sees g c = λ ss x s may named fits.
    let new = c.set_window.new.core in
    rw c.frame_count-frames.ensures.same (set_so _ (Sees (state new) (kept new) new.intervals (set_window c.args.space (option_map window_of c.args.shown) ss)) (λ h. h) c.in-Ok.answer (c.in-Ok.ensures.sees ss x s may named fits))

-- ---- Why it failed.

pub returns-in-Err-clause-fails : goal.returns-in-Err-clause-fails
returns-in-Err-clause-fails g c = halts_reached c.requires.size c.set_window.ensures.retabled.beside.goes.makes (Err c.in-Err.halt) c.in-Err.ensures.cause c.in-Err.ensures.right
