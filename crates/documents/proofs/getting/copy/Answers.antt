use Rattle.std.proofs.Common.{◌≤◌, arith, rules}
use Rattle.documents.proofs.CourseLemmas.{led_then}
use Rattle.documents.specs.Course.{is_look}
use Rattle.documents.proofs.TakenLemmas.{split_count, took_then}
use Rattle.std.proofs.Common.{◌≡◌, ◌<◌, ◌+◌, ◌-◌, ◌*◌, ◌%◌, ◌⊎◌, inl, inr, ℕ, length, refl, subst}
use Rattle.flat_machine.specs.Machine.{Machine}
use Rattle.documents.specs.Stands.{HasSent}
use Rattle.documents.proofs.ListLemmas.{still_then}
use Rattle.documents.proofs.GotLemmas.{even_then, sent_both, sent_none}
use Rattle.documents.proofs.CauseLemmas.{blamed_fault, fault_since}
use Rattle.embedded.proofs.SpendLemmas.{later_itself, later_then, spends_none}
use Rattle.documents.proofs.SpentLemmas.{SpentWindows, windows_end, windows_none, windows_stop, windows_then}
use Rattle.std.proofs.Common.{sym}
use Rattle.documents.proofs.getting.copy.Goals as goal

pub pieces-preserved : goal.pieces-preserved
pieces-preserved g c =
    let few : c.min-count.result ≤ c.pieces.left = omega (arith, c.min-count.ensures) in
    record {
      within = omega (arith, c.pieces.invariant.within);
      place = omega (arith, few, c.pieces.invariant.place);
      width = search rules;
      led = led_then is_look c.args.engine.now c.pieces.engine c.copy_piece.new.engine
          c.pieces.invariant.led c.in-Ok.ensures.led;
      taken = took_then _ _ _ _ _ _ c.pieces.invariant.taken c.in-Ok.ensures.taken
          (split_count _ _ _ _ c.pieces.invariant.within few (search rules));
      even = λ more. even_then (512 * c.args.part.page) c.pieces.page c.pieces.left c.min-count.result
          (length c.args.buffer.now - length c.args.buffer.now % 512) c.args.part.bytes _
          c.pieces.invariant.within (c.pieces.invariant.even (omega (arith, more))) few
          (λ less. omega (arith, less, c.min-count.ensures)) (omega arith) refl more;
      sent = λ m f stands there.
          let sent = c.pieces.invariant.sent m f stands there in
          sent_both m f (512 * c.args.part.page) (512 * c.pieces.page) _ _ _ _ _ _ c.pieces.engine c.copy_piece.new.engine sent
          (c.in-Ok.ensures.sent (record m { unforced = sent.still.0 }) f sent.still.2 there)
          (c.pieces.invariant.even (search rules))
          (split_count _ _ _ _ c.pieces.invariant.within few (search rules));
      later = omega (arith, c.pieces.invariant.later, c.copy_piece.ensures.later);
      spent = subst (λ (n : ℕ). SpentWindows 4 (length c.args.buffer.now - length c.args.buffer.now % 512) n (c.pieces.left - c.min-count.result) c.args.engine.now c.copy_piece.new.engine)
          (sym (split_count _ _ _ _ c.pieces.invariant.within few refl))
          (windows_then 4 (length c.args.buffer.now - length c.args.buffer.now % 512) (c.args.part.bytes - c.pieces.left) c.pieces.left c.min-count.result
          c.args.engine.now c.pieces.engine c.copy_piece.new.engine (omega arith) (search rules) few (omega (arith, c.min-count.ensures))
          (λ less. omega (arith, less, c.min-count.ensures)) c.pieces.invariant.spent (search rules));
    }

pub pieces-init : goal.pieces-init
pieces-init g c = record {
  within = search rules;
  place = search rules;
  width = search rules;
  led = search rules;
  taken = search rules;
  even = λ more. omega arith;
  sent = λ m f stands there.
      let none : 0 ≡ c.args.part.bytes - c.args.part.bytes = omega arith in
      subst (λ (n : ℕ). HasSent m f (512 * c.args.part.page) n (g.S.Sink.took c.args.sink.now) (g.S.Sink.took c.args.sink.now) c.args.engine.now) none
      (sent_none m f (512 * c.args.part.page) (g.S.Sink.took c.args.sink.now) c.args.engine.now stands);
  later = search rules;
  spent =
      let none : 0 ≡ c.args.part.bytes - c.args.part.bytes = omega arith in
      subst (λ (n : ℕ). SpentWindows 4 (length c.args.buffer.now - length c.args.buffer.now % 512) n c.args.part.bytes c.args.engine.now c.args.engine.now) none
      (windows_none 4 (length c.args.buffer.now - length c.args.buffer.now % 512) c.args.part.bytes c.args.engine.now (search rules));
}

pub returns-clause-sent : goal.returns-clause-sent
returns-clause-sent g c = λ m f stands there.
    let all : c.args.part.bytes - c.pieces.left ≡ c.args.part.bytes = omega (arith, c.pieces-test.false) in
    subst (λ (n : ℕ). HasSent m f (512 * c.args.part.page) n (g.S.Sink.took c.args.sink.now) (g.S.Sink.took c.pieces.sink) c.pieces.engine) all
    (c.pieces.invariant.sent m f stands there)

pub returns-in-Err-clause-sent : goal.returns-in-Err-clause-sent
returns-in-Err-clause-sent g c = λ m f stands there.
    let sent = c.pieces.invariant.sent m f stands there in
    still_then m sent.still.0 _ c.copy_piece.new.engine sent.still.1
    (c.in-Err.ensures.sent (record m { unforced = sent.still.0 }) f sent.still.2 there)

pub returns-then-room-eq0-clause-sent : goal.returns-then-room-eq0-clause-sent
returns-then-room-eq0-clause-sent g c = λ m f stands there. inr (m.unforced, (λ test none. none), stands)

-- so much was spent on the windows
pub returns-then-room-eq0-clause-spends : goal.returns-then-room-eq0-clause-spends
returns-then-room-eq0-clause-spends g c = λ most within. spends_none _ _ c.args.engine.now

pub returns-clause-spends : goal.returns-clause-spends
returns-clause-spends g c = λ most within.
    windows_end 4 (length c.args.buffer.now - length c.args.buffer.now % 512) (c.args.part.bytes - c.pieces.left) c.pieces.left most
    c.args.engine.now c.pieces.engine (search rules) (omega (arith, within)) c.pieces.invariant.spent

pub returns-in-Err-clause-spends : goal.returns-in-Err-clause-spends
returns-in-Err-clause-spends g c = λ most within.
    windows_stop 4 (length c.args.buffer.now - length c.args.buffer.now % 512) (c.args.part.bytes - c.pieces.left) c.pieces.left c.min-count.result most
    c.args.engine.now c.pieces.engine c.copy_piece.new.engine (search rules) (search rules) (omega (arith, c.min-count.ensures))
    (omega (arith, within, c.pieces.invariant.within, c.min-count.ensures)) c.pieces.invariant.spent (search rules)

-- the disk is blamed where a window blames it
pub returns-in-Err-clause-cause : goal.returns-in-Err-clause-cause
returns-in-Err-clause-cause g c = λ is.
    fault_since _ c.in-Err.fault c.args.engine.now c.pieces.engine c.copy_piece.new.engine c.pieces.invariant.spent.spends.later c.copy_piece.ensures.cause
    c.in-Err.is (cc is)
