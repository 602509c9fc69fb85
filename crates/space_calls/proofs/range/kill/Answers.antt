use Rattle.std.proofs.Common.{sym, ap, subst, ℕ, refl, ◌≡◌, ◌+◌, List, arith}
use Rattle.flat_machine.specs.declared.call.Call.TheVariants as call
use Rattle.flat_machine.specs.declared.call.Reply.TheVariants as reply
use Rattle.filer_kernel.specs.View.{accepted, disk_of}
use Rattle.fault_core.specs.Core.{kept, state}
use Rattle.fault_core.specs.Kept.{AreFound}
use Rattle.fault_core.specs.Kill.{AreWritableSo, is_absent}
use Rattle.running_words.proofs.RunningLemmas.{running_laws}
use Rattle.running_words.specs.MovingLaws.{moves_of_touches}
use Rattle.space_tables.specs.Shows.{IsRunAt}
use Rattle.swap_units.specs.declared.interval.Interval.{Interval}
use Rattle.swapper_kernel.specs.Goes.{no_page}
use Rattle.table_calls.specs.Answers.{TablesSay}
use Rattle.space_calls.specs.Calls.{Looks}
use Rattle.space_calls.specs.FilesLaws.{shown_here}
use Rattle.space_calls.specs.Outcomes.{MakesOwn}
use Rattle.space_calls.proofs.CameLemmas.{came_own, give_makes, knows, still_runs, whole_after, whole_of}
use Rattle.space_calls.proofs.CarryLemmas.{allowed_done}
use Rattle.space_calls.proofs.LookLemmas.{looked_fault, looked_word, looks_asked, looks_fits}
use Rattle.space_calls.proofs.MovedLemmas.{kill_runs}
use Rattle.space_calls.proofs.OutcomeLemmas.{halts_after, halts_at, halts_wider, made_reached, made_then, on_looked, own_looked, own_made}
use Rattle.space_calls.proofs.RangeLemmas.{asked_halt, found_run, found_word, given_so, never_refused, of_run, of_space, within_halt}
use Rattle.space_calls.proofs.RefusedCalls.{kill_refused, kill_there}
use Rattle.space_calls.proofs.RunLemmas.{knows as knows_of, quiet_passes}
use Rattle.space_calls.proofs.range.kill.Given as given
use Rattle.space_calls.proofs.range.kill.Goals as goal
use Rattle.space_calls.proofs.range.kill.Goals.{After-kill, After-range_of}

asked : (g : given.Over) (c : After-range_of g) → Looks c.args.core.now c.range_of.new.core
asked g c = looks_asked c.requires.size c.range_of.ensures.asked c.range_of.ensures.still

killed : (g : given.Over) (c : After-kill g) → MakesOwn (state c.args.core.now) (state c.kill.new.self)
killed g c =
    let touches = c.kill.ensures.brings.touches in
    let moves = moves_of_touches (state c.range_of.new.core) (state c.kill.new.self) no_page touches in
    made_then (accepted c.args.core.now.filer) (made_reached c.range_of.ensures.asked.reaches c.range_of.ensures.asked.came) (record { makes = give_makes touches; moves = moves; came = c.kill.ensures.brings.came })

-- ---- There is no such space.

pub returns-in-Ok-Err-clause-answers : goal.returns-in-Ok-Err-clause-answers
returns-in-Ok-Err-clause-answers g c = λ volume m r.
    let old = c.args.core.now in
    let known = knows_of old (accepted old.filer) c.requires.size volume m r in
    let is = kill_refused m c.args.space c.in-Ok-Err.word (found_word m.spaces c.args.space c.in-Ok-Err.word c.in-Ok-Err.field-0 c.in-Ok-Err.field-0-is (c.in-Ok-Err.ensures.answer _ _ m.spaces known)) in
    looked_word (asked g (goal.at.returns-in-Ok-Err-clause-answers g c).After-range_of) (g.met.D.Disk.in_form (disk_of old.filer)) r (call.Kill c.args.space) c.in-Ok-Err.word is

pub returns-in-Ok-Err-clause-gone : goal.returns-in-Ok-Err-clause-gone
returns-in-Ok-Err-clause-gone g c = λ volume m s r there.
    let old = c.args.core.now in
    let known = knows_of old (accepted old.filer) c.requires.size volume m r in
    absurd (never_refused m.spaces c.args.space s c.in-Ok-Err.word there (found_word m.spaces c.args.space c.in-Ok-Err.word c.in-Ok-Err.field-0 c.in-Ok-Err.field-0-is (c.in-Ok-Err.ensures.answer _ _ m.spaces known)))

-- ---- The disk failed.

pub returns-in-Err-clause-answers : goal.returns-in-Err-clause-answers
returns-in-Err-clause-answers g c = λ volume m r.
    let old = c.args.core.now in
    let known = knows_of old (accepted old.filer) c.requires.size volume m r in
    looked_fault (asked g (goal.at.returns-in-Err-clause-answers g c).After-range_of) (g.met.D.Disk.in_form (disk_of old.filer)) r (call.Kill c.args.space) c.in-Err.halt (c.in-Err.ensures.answer _ _ m.spaces known)

pub returns-in-Err-clause-fails : goal.returns-in-Err-clause-fails
returns-in-Err-clause-fails g c =
    let old = c.args.core.now in
    halts_wider c.in-Err.ensures.fails (asked_halt (state old) (state c.range_of.new.core) (accepted old.filer) c.args.space old.intervals c.in-Err.halt c.in-Err.ensures.fails.cause)

pub returns-in-Err-kill-clause-answers : goal.returns-in-Err-kill-clause-answers
returns-in-Err-kill-clause-answers g c = λ volume m r.
    let old = c.args.core.now in
    let known = knows_of old (accepted old.filer) c.requires.size volume m r in
    let sound = c.in-Err-kill.ensures.fails.sound _ _ m.spaces (c.range_of.ensures.asked.same _ _ m.spaces known) in
    record { carried = tt; sound = sound; passes = quiet_passes old c.kill.new.self volume m _ (g.met.D.Disk.in_form (disk_of old.filer)) r (killed g (goal.at.returns-in-Err-kill-clause-answers g c).After-kill).makes }

pub returns-in-Err-kill-clause-fails : goal.returns-in-Err-kill-clause-fails
returns-in-Err-kill-clause-fails g c =
    let old = c.args.core.now in
    let mid = c.range_of.new.core in
    let first = c.range_of.ensures.asked in
    let looks = asked g (goal.at.returns-in-Err-kill-clause-fails g c).After-range_of in
    let fails = halts_at (looks_fits looks c.requires.size) c.kill.ensures.brings.touches.goes.makes c.in-Err-kill.halt c.in-Err-kill.ensures.fails.cause c.in-Err-kill.ensures.fails.right in
    let read = given_so (TablesSay (state old) (λ b. IsRunAt b c.args.space)) c.in-Ok-Ok.found c.in-Ok-Ok.field-0 c.in-Ok-Ok.field-0-is c.in-Ok-Ok.ensures.read in
    halts_after looks fails (within_halt (state old) (state mid) (accepted old.filer) c.args.space first.reaches old.intervals mid.intervals first.intervals (state c.kill.new.self) c.in-Ok-Ok.found read c.in-Err-kill.halt c.in-Err-kill.ensures.fails.cause)

-- ---- It is done.

pub returns-clause-answers : goal.returns-clause-answers
returns-clause-answers g c = λ volume m r. record {
  carried = (let whole = whole_of c.args.core.now c.requires.size in
      let x = r.session.stands.memory in
      let named = r.session.stands.is.named in
      let revealed = knows running_laws whole r in
      let asked = c.range_of.ensures.asked in
      let found = found_run m.spaces c.args.space c.in-Ok-Ok.found c.in-Ok-Ok.field-0 c.in-Ok-Ok.field-0-is (c.in-Ok-Ok.ensures.answer x named m.spaces revealed) in
      let free = kill_there m c.args.space found.0 in
      let then_whole = whole_after whole asked.reaches in
      let then_runs = still_runs running_laws whole r (came_own asked.reaches asked.came asked.same asked.intervals) in
      let y = then_runs.session.stands.memory in
      let triples = then_runs.session.stands.is.named in
      let then_revealed = knows running_laws then_whole then_runs in
      let s = found.1.0 in
      let run = found.1.2 in
      record {
        allowed = allowed_done m (call.Kill c.args.space) reply.Done free refl;
        runs = kill_runs running_laws then_whole then_runs c.kill.ensures.stays.intervals c.kill.ensures.brings.touches.layout c.args.space s free found.1.1
            (c.kill.ensures.killed y triples m.spaces s then_revealed (ap (λ (q : ℕ × ℕ). q.0) (sym run)) (ap (λ (q : ℕ × ℕ). q.1) (sym run)))
            c.kill.ensures.brings.came (λ z is. c.kill.ensures.stays.known y z triples m.spaces then_revealed is);
      });
  sound = tt;
  passes = quiet_passes c.args.core.now c.kill.new.self volume m _ (g.met.D.Disk.in_form (disk_of c.args.core.now.filer)) r (killed g (goal.at.returns-clause-answers g c).After-kill).makes;
}

pub returns-clause-gone : goal.returns-clause-gone
returns-clause-gone g c = λ volume m s r there.
    let whole = whole_of c.args.core.now c.requires.size in
    let x = r.session.stands.memory in
    let named = r.session.stands.is.named in
    let revealed = knows running_laws whole r in
    let found = found_run m.spaces c.args.space c.in-Ok-Ok.found c.in-Ok-Ok.field-0 c.in-Ok-Ok.field-0-is (c.in-Ok-Ok.ensures.answer x named m.spaces revealed) in
    of_space m.spaces c.args.space s c.in-Ok-Ok.found (AreWritableSo (is_absent (state c.kill.new.self).slots) m.spaces) found.1 there (c.in-Ok.ensures.gone x named m.spaces (c.range_of.ensures.asked.same x named m.spaces revealed))

-- ---- No table was asked but for the space.

pub returns-in-Ok-Err-clause-idle : goal.returns-in-Ok-Err-clause-idle
returns-in-Ok-Err-clause-idle g c = λ volume m s r there found. c.range_of.ensures.cost

pub returns-in-Err-clause-idle : goal.returns-in-Err-clause-idle
returns-in-Err-clause-idle g c = λ volume m s r there found. c.range_of.ensures.cost

pub returns-in-Err-kill-clause-idle : goal.returns-in-Err-kill-clause-idle
returns-in-Err-kill-clause-idle g c = λ volume m s r there found.
    let whole = whole_of c.args.core.now c.requires.size in
    let revealed = knows running_laws whole r in
    let run = found_run m.spaces c.args.space c.in-Ok-Ok.found c.in-Ok-Ok.field-0 c.in-Ok-Ok.field-0-is (c.in-Ok-Ok.ensures.answer r.session.stands.memory r.session.stands.is.named m.spaces revealed) in
    let here = of_run m.spaces c.args.space s c.in-Ok-Ok.found (AreFound (kept c.args.core.now)) run.1 there found in
    let e = c.in-Err-kill.ensures.idle (subst (λ (k : List Interval). AreFound k c.in-Ok-Ok.found.0 (c.in-Ok-Ok.found.0 + c.in-Ok-Ok.found.1)) (sym c.range_of.ensures.asked.kept) here) in
    let same : (state c.kill.new.self).disk.transfers ≡ (state c.range_of.new.core).disk.transfers = λ i. (e.1 i).transfers in
    let cost = c.range_of.ensures.cost in
    omega (arith, same, cost)

pub returns-clause-idle : goal.returns-clause-idle
returns-clause-idle g c = λ volume m s r there found.
    let whole = whole_of c.args.core.now c.requires.size in
    let revealed = knows running_laws whole r in
    let run = found_run m.spaces c.args.space c.in-Ok-Ok.found c.in-Ok-Ok.field-0 c.in-Ok-Ok.field-0-is (c.in-Ok-Ok.ensures.answer r.session.stands.memory r.session.stands.is.named m.spaces revealed) in
    let here = of_run m.spaces c.args.space s c.in-Ok-Ok.found (AreFound (kept c.args.core.now)) run.1 there found in
    let e = c.in-Ok.ensures.idle (subst (λ (k : List Interval). AreFound k c.in-Ok-Ok.found.0 (c.in-Ok-Ok.found.0 + c.in-Ok-Ok.found.1)) (sym c.range_of.ensures.asked.kept) here) in
    let same : (state c.kill.new.self).disk.transfers ≡ (state c.range_of.new.core).disk.transfers = λ i. (e.1 i).transfers in
    let cost = c.range_of.ensures.cost in
    omega (arith, same, cost)

-- ---- Whatever it came to.

pub returns-in-Ok-Err-clause-went : goal.returns-in-Ok-Err-clause-went
returns-in-Ok-Err-clause-went g c = own_looked (asked g (goal.at.returns-in-Ok-Err-clause-went g c).After-range_of)

pub returns-in-Err-clause-went : goal.returns-in-Err-clause-went
returns-in-Err-clause-went g c = own_looked (asked g (goal.at.returns-in-Err-clause-went g c).After-range_of)

pub returns-in-Err-kill-clause-went : goal.returns-in-Err-kill-clause-went
returns-in-Err-kill-clause-went g c = own_made (killed g (goal.at.returns-in-Err-kill-clause-went g c).After-kill)

pub returns-clause-went : goal.returns-clause-went
returns-clause-went g c = own_made (killed g (goal.at.returns-clause-went g c).After-kill)

pub returns-in-Ok-Err-clause-sees : goal.returns-in-Ok-Err-clause-sees
returns-in-Ok-Err-clause-sees g c = on_looked (asked g (goal.at.returns-in-Ok-Err-clause-sees g c).After-range_of)

pub returns-clause-sees : goal.returns-clause-sees
returns-clause-sees g c = λ ss s. (ss, (c.kill.ensures.stays.sees ss (c.range_of.ensures.still ss s), shown_here ss))
