use Rattle.std.proofs.Common.{◌≡◌, true, false, Some, None, refl, sym, ◌∙◌, subst}
use Rattle.labelled_disk.specs.declared.evidence.Halt.{Halt}
use Rattle.labelled_disk.specs.declared.evidence.Halt.TheVariants as halt
use Rattle.filer_kernel.specs.Evidence.{ShowsEvidence}
use Rattle.filer_kernel.specs.View.{disk_of}
use Rattle.fault_core.specs.Core.{state}
use Rattle.file_manager.specs.Creating.{IsMonotone, counted}
use Rattle.file_manager.specs.Reasons.{ShowsReason}
use Rattle.flat_machine.specs.declared.call.Refusal.TheVariants as refusal
use Rattle.flat_machine.specs.declared.call.Reply.TheVariants as reply
use Rattle.trace_io.specs.Form.{GivesForm}
use Rattle.trace_io.specs.Reading.{is_last}
use Rattle.running_words.specs.Running.{Runs}
use Rattle.pilot_engine.specs.Reasons.{IsBlameless}
use Rattle.pilot_top.specs.declared.turn.End.TheVariants as end
use Rattle.pilot_top.specs.declared.turn.Turn.TheVariants as turn
use Rattle.pilot_top.proofs.ApartLines.{call_apart}
use Rattle.pilot_top.proofs.CostLemmas.{bad_costs, call_costs}
use Rattle.pilot_top.proofs.HiddenLemmas.{hidden_makes, hidden_still}
use Rattle.pilot_top.proofs.IdleLemmas.{idle_accounts, idle_stays, idle_writes}
use Rattle.pilot_top.proofs.LineParts.{line_wrote}
use Rattle.pilot_top.proofs.PartLemmas.{written_none}
use Rattle.pilot_top.proofs.RootLemmas.{counted_up, raises_call}
use Rattle.pilot_top.proofs.SparedLineLemmas.{bad_done, call_done}
use Rattle.pilot_top.proofs.StagedLemmas.{line_rest, line_step}
use Rattle.pilot_top.proofs.TurnLemmas.{answers_bad, answers_call, bad_not_end, call_not_end, call_wrote, goes_on, same_halt}
use Rattle.pilot_top.proofs.WaitedLemmas.{waits_on}
use Rattle.pilot_top.proofs.turn.take_turn.Goals as goal

pub step-requires-clause-in_form : goal.step-requires-clause-in_form
step-requires-clause-in_form g c =
    let begun = goes_on c.args.lines.now.stopped c.next.result _ _ c.requires.stopped c.next.ensures.again (λ same. call_not_end c.in-Call.call (sym c.in-Call.is ∙ same)) in
    subst GivesForm c.in-Call.is (c.next.ensures.form begun)

pub step-requires-clause-more : goal.step-requires-clause-more
step-requires-clause-more g c = c.in-None.ensures

-- a call was carried out, and has a reply
pub returns-in-Ok-clause-turns : goal.returns-in-Ok-clause-turns
returns-in-Ok-clause-turns g c =
    let more : is_last (Some c.in-Call.call) ≡ false = c.in-None.ensures in
    let begun = goes_on c.args.lines.now.stopped c.next.result _ _ c.requires.stopped c.next.ensures.again (λ same. call_not_end c.in-Call.call (sym c.in-Call.is ∙ same)) in (
      begun,
      Some c.in-Call.call,
      c.in-Call.ensures.next begun,
      answers_call (Runs c.args.session.now.core c.args.session.now.volume)
          (Runs c.step.new.self.core c.step.new.self.volume) c.in-Call.call c.in-Ok.reply more
          (λ m is. let done = (c.in-Ok.ensures.machine m is).answers.carried in (done.allowed, done.runs)),
      more,
      λ m is. (
        line_step m c.in-Call.call ((c.step.ensures.machine m is).answers.passes),
        call_costs c.in-Call.call (state c.args.session.now.core).disk (state c.step.new.self.core).disk c.step.ensures.reference ((c.step.ensures.machine m is).answers.cost),
        λ going waiting. (c.in-Ok.ensures.machine m is).forced (waits_on c.in-Call.call more waiting.0) waiting.1,
      ),
      call_done c.args.session.now.volume.root c.in-Call.call (line_wrote c.args.session.now.volume.root c.in-Call.call more c.step.ensures.writes.wrote c.step.ensures.writes.own.0) c.step.ensures.writes.wrote c.step.ensures.writes.spares
          (λ id client other free is. (
            λ going. hidden_still c.args.session.now c.step.new.self c.in-Call.call id client is other free (c.step.ensures.remains.stays.monotone, c.step.ensures.remains.stays.serial)
                (λ o keeps not_older. (c.in-Ok.ensures.accounts o keeps not_older).accounts.keeps_to) (λ o keeps not_older. (c.in-Ok.ensures.accounts o keeps not_older).windows),
            hidden_makes c.args.session.now c.step.new.self c.in-Call.call id client is c.step.ensures.writes.shown,
          )),
    )

pub returns-in-Ok-clause-accounts : goal.returns-in-Ok-clause-accounts
returns-in-Ok-clause-accounts g c = λ o keeps not_older.
    let e = (c.in-Ok.ensures.accounts o keeps not_older).accounts in
    record {
      keeps_to = λ going. e.keeps_to;
      reasons = λ why is. absurd (cc is);
      sees = λ seen going. e.sees seen;
      right = λ seen why is. absurd (cc is);
    }

pub returns-in-Ok-clause-stays : goal.returns-in-Ok-clause-stays
returns-in-Ok-clause-stays g c = record {
  idle = λ idle. absurd idle;
  going = λ going. c.in-Ok.ensures.remains.goes_on;
  open_still = c.step.ensures.remains.stays.open_still;
  layout = c.step.ensures.remains.stays.layout;
}

pub returns-in-Ok-clause-writes : goal.returns-in-Ok-clause-writes
returns-in-Ok-clause-writes g c =
    let root = c.args.session.now.volume.root in
    let up : IsMonotone root c.step.new.self.volume.root = (c.step.ensures.remains.stays.monotone, c.step.ensures.remains.stays.serial) in
    record {
      wrote = call_wrote c.in-Call.call c.step.ensures.writes.wrote;
      roots = record {
        monotone = up;
        raises = λ goes. raises_call root c.step.new.self.volume.root c.in-Call.call c.requires.ready.opened.valid.serial up c.step.ensures.writes.wrote c.in-Ok.ensures.writes.own.1;
        counts = raises_call root (counted root) c.in-Call.call c.requires.ready.opened.valid.serial (counted_up root) c.step.ensures.writes.wrote c.step.ensures.writes.own.0;
      };
      apart = λ m is.
          call_apart m c.in-Call.call false is.session.stands.is.by.machine c.in-None.ensures (c.step.ensures.machine m is).answers.passes c.step.ensures.writes.wrote c.in-Ok.ensures.writes.around ((c.step.ensures.machine m is).resizes)
          c.step.ensures.writes.unlabelled;
    }

-- the call stopped the session
pub returns-in-Err-clause-turns : goal.returns-in-Err-clause-turns
returns-in-Err-clause-turns g c =
    let more : is_last (Some c.in-Call.call) ≡ false = c.in-None.ensures in
    let begun = goes_on c.args.lines.now.stopped c.next.result _ _ c.requires.stopped c.next.ensures.again (λ same. call_not_end c.in-Call.call (sym c.in-Call.is ∙ same)) in (
      begun,
      Some c.in-Call.call,
      c.in-Call.ensures.next begun,
      more,
      λ m is. (
        line_step m c.in-Call.call ((c.step.ensures.machine m is).answers.passes),
        call_costs c.in-Call.call (state c.args.session.now.core).disk (state c.step.new.self.core).disk c.step.ensures.reference ((c.step.ensures.machine m is).answers.cost),
        λ going. absurd going,
      ),
      call_done c.args.session.now.volume.root c.in-Call.call (line_wrote c.args.session.now.volume.root c.in-Call.call more c.step.ensures.writes.wrote c.step.ensures.writes.own.0) c.step.ensures.writes.wrote c.step.ensures.writes.spares
          (λ id client other free is. (λ going. absurd going, hidden_makes c.args.session.now c.step.new.self c.in-Call.call id client is c.step.ensures.writes.shown)),
    )

pub returns-in-Err-clause-stops : goal.returns-in-Err-clause-stops
returns-in-Err-clause-stops g c =
    let fails = c.in-Err.ensures.halts.fails in
    record {
      sound = λ m why is same. sym (same_halt c.in-Err.halt why same) ∙ (c.in-Err.ensures.machine m is).answers.sound;
      counted = λ same. fails.counted (same_halt c.in-Err.halt halt.Disk same);
      evidence_seen = λ why same. subst (λ (h : Halt). ShowsEvidence (state c.step.new.self.core).disk h) (same_halt c.in-Err.halt why same) fails.evidence_seen;
    }

pub returns-in-Err-clause-accounts : goal.returns-in-Err-clause-accounts
returns-in-Err-clause-accounts g c = λ o keeps not_older.
    let e = (c.in-Err.ensures.accounts o keeps not_older).accounts in
    let disk = (state c.step.new.self.core).disk in
    record {
      keeps_to = λ going. absurd going;
      reasons = λ why same. subst (λ (h : Halt). ShowsReason o (state c.args.session.now.core).layout disk h) (same_halt c.in-Err.halt why same) e.reasons;
      sees = λ seen going. absurd going;
      right = λ seen why same. subst (λ (h : Halt). IsBlameless o disk h) (same_halt c.in-Err.halt why same) (e.sees seen);
    }

pub returns-in-Err-clause-stays : goal.returns-in-Err-clause-stays
returns-in-Err-clause-stays g c = record {
  idle = λ idle. absurd idle;
  going = λ going. absurd going;
  open_still = c.step.ensures.remains.stays.open_still;
  layout = c.step.ensures.remains.stays.layout;
}

pub returns-in-Err-clause-writes : goal.returns-in-Err-clause-writes
returns-in-Err-clause-writes g c =
    let root = c.args.session.now.volume.root in
    record {
      wrote = call_wrote c.in-Call.call c.step.ensures.writes.wrote;
      roots = record {
        monotone = (c.step.ensures.remains.stays.monotone, c.step.ensures.remains.stays.serial);
        raises = λ goes. absurd goes;
        counts = raises_call root (counted root) c.in-Call.call c.requires.ready.opened.valid.serial (counted_up root) c.step.ensures.writes.wrote c.step.ensures.writes.own.0;
      };
      apart = λ m is.
          call_apart m c.in-Call.call true is.session.stands.is.by.machine c.in-None.ensures (c.step.ensures.machine m is).answers.passes c.step.ensures.writes.wrote c.in-Err.ensures.writes.around ((c.step.ensures.machine m is).resizes)
          c.step.ensures.writes.unlabelled;
    }

-- a bad line
pub returns-in-Bad-clause-turns : goal.returns-in-Bad-clause-turns
returns-in-Bad-clause-turns g c =
    let begun = goes_on c.args.lines.now.stopped c.next.result _ _ c.requires.stopped c.next.ensures.again (λ same. bad_not_end (sym c.in-Bad.is ∙ same)) in (
      begun,
      None,
      c.in-Bad.ensures.next begun,
      answers_bad _,
      refl,
      λ m is. (
        line_rest m is (g.met.D.Disk.in_form (disk_of c.args.session.now.core.filer)),
        bad_costs (state c.args.session.now.core).disk,
        λ going waiting. absurd waiting,
      ),
      bad_done c.args.session.now.volume.root (state c.args.session.now.core).disk (state c.args.session.now.core).slots (written_none _ (record { contents = refl; writes = refl })) (λ id is going. is),
    )

pub returns-in-Bad-clause-accounts : goal.returns-in-Bad-clause-accounts
returns-in-Bad-clause-accounts g c = λ o keeps not_older. idle_accounts c.args.session.now (turn.Replies (reply.Refused refusal.Syntax)) (λ why is. cc is) keeps not_older

pub returns-in-Bad-clause-stays : goal.returns-in-Bad-clause-stays
returns-in-Bad-clause-stays g c = idle_stays c.args.session.now (turn.Replies (reply.Refused refusal.Syntax)) c.requires.ready

pub returns-in-Bad-clause-writes : goal.returns-in-Bad-clause-writes
returns-in-Bad-clause-writes g c = idle_writes c.args.session.now (turn.Replies (reply.Refused refusal.Syntax))

-- a line that ends the trace
pub returns-in-Some-clause-accounts : goal.returns-in-Some-clause-accounts
returns-in-Some-clause-accounts g c = λ o keeps not_older. idle_accounts c.args.session.now (turn.Ends c.in-Some.end) (λ why is. cc is) keeps not_older

pub returns-in-Some-clause-stays : goal.returns-in-Some-clause-stays
returns-in-Some-clause-stays g c = idle_stays c.args.session.now (turn.Ends c.in-Some.end) c.requires.ready

pub returns-in-Some-clause-writes : goal.returns-in-Some-clause-writes
returns-in-Some-clause-writes g c = idle_writes c.args.session.now (turn.Ends c.in-Some.end)

-- the end of the source
pub returns-in-End-clause-accounts : goal.returns-in-End-clause-accounts
returns-in-End-clause-accounts g c = λ o keeps not_older. idle_accounts c.args.session.now (turn.Ends end.Trace) (λ why is. cc is) keeps not_older

pub returns-in-End-clause-stays : goal.returns-in-End-clause-stays
returns-in-End-clause-stays g c = idle_stays c.args.session.now (turn.Ends end.Trace) c.requires.ready

pub returns-in-End-clause-writes : goal.returns-in-End-clause-writes
returns-in-End-clause-writes g c = idle_writes c.args.session.now (turn.Ends end.Trace)

-- the source failed
pub returns-in-ReadFault-clause-accounts : goal.returns-in-ReadFault-clause-accounts
returns-in-ReadFault-clause-accounts g c = λ o keeps not_older. idle_accounts c.args.session.now turn.ReadFault (λ why is. cc is) keeps not_older

pub returns-in-ReadFault-clause-stays : goal.returns-in-ReadFault-clause-stays
returns-in-ReadFault-clause-stays g c = idle_stays c.args.session.now turn.ReadFault c.requires.ready

pub returns-in-ReadFault-clause-writes : goal.returns-in-ReadFault-clause-writes
returns-in-ReadFault-clause-writes g c = idle_writes c.args.session.now turn.ReadFault

-- as many bytes as the limit were taken
pub returns-in-Long-clause-accounts : goal.returns-in-Long-clause-accounts
returns-in-Long-clause-accounts g c = λ o keeps not_older. idle_accounts c.args.session.now turn.Long (λ why is. cc is) keeps not_older

pub returns-in-Long-clause-stays : goal.returns-in-Long-clause-stays
returns-in-Long-clause-stays g c = idle_stays c.args.session.now turn.Long c.requires.ready

pub returns-in-Long-clause-writes : goal.returns-in-Long-clause-writes
returns-in-Long-clause-writes g c = idle_writes c.args.session.now turn.Long
