use Rattle.std.proofs.Common.{Err}
use Rattle.filer_kernel.specs.View.{accepted, disk_of}
use Rattle.space_calls.specs.Calls.{Looks}
use Rattle.space_calls.proofs.LookLemmas.{looked_fault, looks_asked}
use Rattle.space_calls.proofs.OutcomeLemmas.{halts_reached, on_looked, own_looked}
use Rattle.space_calls.proofs.RunLemmas.{knows, quiet_passes}
use Rattle.space_calls.proofs.SpaceLemmas.{place_refused, space_placed}
use Rattle.space_calls.proofs.spaces.place.Given as given
use Rattle.space_calls.proofs.spaces.place.Goals as goal
use Rattle.space_calls.proofs.spaces.place.Goals.{After-place}

looks : (g : given.Over) (c : After-place g) → Looks c.args.core.now c.place.new.core
looks g c = looks_asked c.requires.size c.place.ensures.asked c.place.ensures.sees

pub returns-in-Ok-Ok-clause-answers : goal.returns-in-Ok-Ok-clause-answers
returns-in-Ok-Ok-clause-answers g c = λ volume m r.
    let old = c.args.core.now in
    let looked = looks g (goal.at.returns-in-Ok-Ok-clause-answers g c).After-place in
    record {
      carried = space_placed c.place.new.core volume m (looked.runs volume m r) c.args.page c.in-Ok-Ok.field-0 c.in-Ok-Ok.handle c.in-Ok-Ok.first c.in-Ok-Ok.pages c.in-Ok-Ok.field-0-is
          (c.in-Ok-Ok.ensures.answer _ _ m.spaces (knows old (accepted old.filer) c.requires.size volume m r));
      sound = tt;
      passes = quiet_passes old c.place.new.core volume m _ (g.met.D.Disk.in_form (disk_of old.filer)) r looked.makes;
    }

pub returns-in-Ok-Err-clause-answers : goal.returns-in-Ok-Err-clause-answers
returns-in-Ok-Err-clause-answers g c = λ volume m r.
    let old = c.args.core.now in
    let looked = looks g (goal.at.returns-in-Ok-Err-clause-answers g c).After-place in
    record {
      carried = place_refused c.place.new.core volume m (looked.runs volume m r) c.args.page c.in-Ok-Err.field-0 c.in-Ok-Err.word c.in-Ok-Err.field-0-is
          (c.in-Ok-Err.ensures.answer _ _ m.spaces (knows old (accepted old.filer) c.requires.size volume m r));
      sound = tt;
      passes = quiet_passes old c.place.new.core volume m _ (g.met.D.Disk.in_form (disk_of old.filer)) r looked.makes;
    }

pub returns-in-Err-clause-answers : goal.returns-in-Err-clause-answers
returns-in-Err-clause-answers g c = λ volume m r.
    let old = c.args.core.now in
    let looked = looks g (goal.at.returns-in-Err-clause-answers g c).After-place in
    looked_fault looked (g.met.D.Disk.in_form (disk_of old.filer)) r _ c.in-Err.halt (c.in-Err.ensures.sound _ _ m.spaces (knows old (accepted old.filer) c.requires.size volume m r))

-- ---- What was written, and what is seen.

pub returns-in-Ok-Ok-clause-went : goal.returns-in-Ok-Ok-clause-went
returns-in-Ok-Ok-clause-went g c = own_looked (looks g (goal.at.returns-in-Ok-Ok-clause-went g c).After-place)

pub returns-in-Ok-Err-clause-went : goal.returns-in-Ok-Err-clause-went
returns-in-Ok-Err-clause-went g c = own_looked (looks g (goal.at.returns-in-Ok-Err-clause-went g c).After-place)

pub returns-in-Err-clause-went : goal.returns-in-Err-clause-went
returns-in-Err-clause-went g c = own_looked (looks g (goal.at.returns-in-Err-clause-went g c).After-place)

pub returns-in-Ok-Ok-clause-sees : goal.returns-in-Ok-Ok-clause-sees
returns-in-Ok-Ok-clause-sees g c = on_looked (looks g (goal.at.returns-in-Ok-Ok-clause-sees g c).After-place)

pub returns-in-Ok-Err-clause-sees : goal.returns-in-Ok-Err-clause-sees
returns-in-Ok-Err-clause-sees g c = on_looked (looks g (goal.at.returns-in-Ok-Err-clause-sees g c).After-place)

-- ---- Why it failed.

pub returns-in-Err-clause-fails : goal.returns-in-Err-clause-fails
returns-in-Err-clause-fails g c = halts_reached c.requires.size c.place.ensures.asked.reaches.goes.makes (Err c.in-Err.halt) c.in-Err.ensures.cause c.in-Err.ensures.right
