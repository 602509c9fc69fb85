use Rattle.std.proofs.Common.{Option, subst, arith}
use Rattle.flat_machine.specs.declared.call.Call.TheVariants as call
use Rattle.flat_machine.specs.Machine.{nameable}
use Rattle.file_manager.specs.declared.attributes.Attributes.{Attributes}
use Rattle.space_calls.specs.Naming.{IsNameable}
use Rattle.pilot_engine.proofs.AttributeLemmas.{attributes_running, nameless_running}
use Rattle.fault_core.specs.Core.{state}
use Rattle.space_calls.specs.ReasonLaws.{named_reasons}
use Rattle.space_calls.specs.Halts.{NamedHalts}
use Rattle.pilot_engine.proofs.ReasonSteps.{shows_after}
use Rattle.running_words.specs.BlamelessLaws.{never_blames_form}
use Rattle.pilot_engine.proofs.HomeLemmas.{file_pages}
use Rattle.pilot_engine.proofs.LackLemmas.{named_misses}
use Rattle.space_calls.specs.OutcomesLaws.{halted}
use Rattle.pilot_engine.proofs.AskedSteps.{accounts_looked, answers_asked, answers_halted, asked_pages, looks_alone, remains_asked}
use Rattle.pilot_engine.proofs.session.Session.attributes.Goals as goal
use Rattle.filer_kernel.specs.View.{accepted, disk_of}

pub returns-in-Ok-None-clause-answers : goal.returns-in-Ok-None-clause-answers
returns-in-Ok-None-clause-answers g c = λ m r. answers_asked (looks_alone c.named_file.ensures.looks) r (g.met.D.Disk.in_form (disk_of c.args.self.now.core.filer)) (call.Attributes c.args.id) 14561 (omega arith) c.named_file.ensures.cost (nameless_running _ _ m c.args.id (c.named_file.ensures.looks.runs c.args.self.now.volume m r) (subst (λ (o : Option Attributes). IsNameable (nameable m c.args.id) o) c.in-Ok-None.field-0-is (c.in-Ok-None.ensures.answer c.args.self.now.volume m r)))

pub returns-in-Ok-None-clause-writes : goal.returns-in-Ok-None-clause-writes
returns-in-Ok-None-clause-writes g c = asked_pages c.named_file.ensures.looks.makes

pub returns-in-Err-clause-answers : goal.returns-in-Err-clause-answers
returns-in-Err-clause-answers g c = λ m r. answers_halted (looks_alone c.named_file.ensures.looks) r (g.met.D.Disk.in_form (disk_of c.args.self.now.core.filer)) (call.Attributes c.args.id) 14561 (omega arith) c.named_file.ensures.cost (c.in-Err.ensures.answer c.args.self.now.volume m r)

pub returns-in-Err-clause-writes : goal.returns-in-Err-clause-writes
returns-in-Err-clause-writes g c = asked_pages c.named_file.ensures.looks.makes

pub returns-clause-answers : goal.returns-clause-answers
returns-clause-answers g c = λ m r. answers_asked (looks_alone c.named_file.ensures.looks) r (g.met.D.Disk.in_form (disk_of c.args.self.now.core.filer)) (call.Attributes c.args.id) 14561 (omega arith) c.named_file.ensures.cost (attributes_running _ _ m c.args.id _ (c.named_file.ensures.looks.runs c.args.self.now.volume m r) (subst (λ (o : Option Attributes). IsNameable (nameable m c.args.id) o) c.in-Ok-Some.field-0-is (c.in-Ok-Some.ensures.answer c.args.self.now.volume m r)))

pub returns-clause-writes : goal.returns-clause-writes
returns-clause-writes g c = asked_pages c.named_file.ensures.looks.makes

-- ---- The initial state.

pub returns-clause-accounts : goal.returns-clause-accounts
returns-clause-accounts g c = accounts_looked c.named_file.ensures.looks

pub returns-in-Ok-None-clause-accounts : goal.returns-in-Ok-None-clause-accounts
returns-in-Ok-None-clause-accounts g c = accounts_looked c.named_file.ensures.looks

pub returns-in-Err-clause-accounts : goal.returns-in-Err-clause-accounts
returns-in-Err-clause-accounts g c = λ o k. record {
  keeps_to = tt;
  reasons = (let old = c.args.self.now.core in
      let count = old.intervals in
      shows_after (NamedHalts c.args.id count) (named_reasons c.args.id count)
      o (state old) (state c.named_file.new.core) (accepted old.filer) c.named_file.ensures.looks.reaches.goes.makes k c.in-Err.halt c.in-Err.ensures.fails.cause);
  sees = (λ seen. let old = c.args.self.now.core in
      let new = c.named_file.new.core in
      (never_blames_form c.in-Err.halt (c.in-Err.ensures.fails.right (seen.0, seen.1.0)), named_misses (file_pages o (state new).disk) c.args.id old.intervals (state old) (state new) c.in-Err.halt c.in-Err.ensures.fails.cause));
  windows = tt;
}

-- ---- Which windows are seen.

pub returns-in-Err-clause-fails : goal.returns-in-Err-clause-fails
returns-in-Err-clause-fails g c = halted c.in-Err.ensures.fails

pub returns-clause-remains : goal.returns-clause-remains
returns-clause-remains g c = remains_asked (looks_alone c.named_file.ensures.looks) c.requires.set_up.opened

pub returns-in-Ok-None-clause-remains : goal.returns-in-Ok-None-clause-remains
returns-in-Ok-None-clause-remains g c = remains_asked (looks_alone c.named_file.ensures.looks) c.requires.set_up.opened

pub returns-in-Err-clause-remains : goal.returns-in-Err-clause-remains
returns-in-Err-clause-remains g c = remains_asked (looks_alone c.named_file.ensures.looks) c.requires.set_up.opened
