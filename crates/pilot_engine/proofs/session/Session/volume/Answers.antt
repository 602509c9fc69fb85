use Rattle.std.proofs.Common.{[], refl}
use Rattle.flat_machine.specs.declared.call.Call.TheVariants as call
use Rattle.session_words.specs.Volume.{volume_page}
use Rattle.swapper_kernel.specs.Goes.{Same}
use Rattle.swapper_kernel.specs.GoesLaws.{goes_itself}
use Rattle.pilot_engine.proofs.AskLemmas.{volume_replied}
use Rattle.pilot_engine.proofs.CameOwn.{own_itself}
use Rattle.running_words.proofs.SessionLemmas.{room_is}
use Rattle.running_words.proofs.StageLemmas.{no_step}
use Rattle.pilot_engine.proofs.AskedSteps.{accounts_itself, remains_itself}
use Rattle.pilot_engine.proofs.session.Session.volume.Goals as goal
use Rattle.filer_kernel.specs.View.{accepted, disk_of}
use Rattle.fault_core.specs.Core.{state}
use Rattle.pilot_engine.proofs.LabelLemmas.{pages_alone}

pub returns-clause-answers : goal.returns-clause-answers
returns-clause-answers g c = λ spaces_of m s. record {
  carried = record { allowed = volume_replied m c.args.self.now.volume.layout.capacity c.args.self.now.volume.used (room_is spaces_of _ _ _ _ _ m s (accepted c.args.self.now.core.filer) c.requires.set_up.opened.same_layout) s.same_used; stands = s };
  passes = no_step spaces_of _ _ _ _ m call.Volume s.stands (goes_itself Same volume_page (state c.args.self.now.core).disk (state c.args.self.now.core).slots (λ x. refl)).makes (g.met.D.Disk.in_form (disk_of c.args.self.now.core.filer));
  came = own_itself (state c.args.self.now.core).slots;
}

pub returns-clause-writes : goal.returns-clause-writes
returns-clause-writes g c = record {
  wrote = record { labels = []; makes = (goes_itself Same volume_page (state c.args.self.now.core).disk (state c.args.self.now.core).slots (λ x. refl)).makes; opens = tt };
  unlabelled = pages_alone (goes_itself Same volume_page (state c.args.self.now.core).disk (state c.args.self.now.core).slots (λ x. refl)).makes;
}

-- ---- Which windows are seen.

pub returns-clause-accounts : goal.returns-clause-accounts
returns-clause-accounts g c = accounts_itself

-- ---- Which pages came.

pub returns-clause-came : goal.returns-clause-came
returns-clause-came g c = own_itself (state c.args.self.now.core).slots

pub returns-clause-remains : goal.returns-clause-remains
returns-clause-remains g c = remains_itself c.requires.set_up.opened
