use Rattle.std.proofs.Common.{◌+◌, ◌-◌, ◌%◌, ℕ, inl, inr, ap, refl, subst, arith, length, take, rules}
use Rattle.std.proofs.lemmas.List.{length-take-le}
use Rattle.embedded.specs.declared.code.Code.{Code}
use Rattle.documents.specs.declared.fault.Fault.TheVariants as fault
use Rattle.documents.specs.Pieces.{appended}
use Rattle.documents.proofs.FillLemmas.{as_many, filled_last, filled_now, full_then, named_so_far, so_far_first, so_far_then, taken_in}
use Rattle.documents.proofs.CourseLemmas.{led_then}
use Rattle.documents.specs.Course.{is_quiet}
use Rattle.documents.proofs.StoppedLemmas.{stopped_code}
use Rattle.std.specs.Int.{div_ceil}
use Rattle.embedded.specs.Spending.{Spends}
use Rattle.embedded.proofs.SpendLemmas.{later_itself, later_then, spends_none}
use Rattle.documents.proofs.CauseLemmas.{blamed_since}
use Rattle.documents.proofs.SpentLemmas.{appended_end, appended_first, appended_stop, appended_then}
use Rattle.documents.proofs.UnseenLemmas.{stays_itself, stays_then}
use Rattle.std.proofs.Common.{◌∙◌, ◌++◌, Err}
use Rattle.documents.proofs.RoomLemmas.{misses_now}
use Rattle.documents.proofs.putting.append_all.Goals as goal

pub returns-then-count-room-clause-led : goal.returns-then-count-room-clause-led
returns-then-count-room-clause-led g c =
    led_then is_quiet c.args.engine.now c.windows.engine c.append.new.engine
    c.windows.invariant.led c.in-Ok-append.ensures.led

pub windows-preserved : goal.windows-preserved
windows-preserved g c = record {
  within = search rules;
  room = search rules;
  width = search rules;
  bytes = search rules;
  full = full_then c.windows.bytes c.windows.count c.windows.pages c.in-Ok-append.all (length c.args.buffer.now) c.windows.invariant.full
      (as_many c.windows.count c.in-Ok-append.all c.windows.pages (take c.windows.count c.windows.buffer)
      (length-take-le c.windows.count c.windows.buffer (search rules)) c.in-Ok-append.ensures.count)
      c.windows.invariant.within c.if-count-room.false;
  filled = λ m is_fresh new stands.
      let s = c.windows.invariant.filled m is_fresh new stands in
      let width = length-take-le c.windows.count c.windows.buffer (omega (arith, c.windows.invariant.within, c.windows.invariant.room)) in
      let named = named_so_far m c.args.id _ _ _ _ _ _ _ s new in
      so_far_then m c.windows.bytes c.windows.pages c.windows.count c.in-Ok-append.all (c.windows.bytes + c.windows.count) c.windows.buffer
      (take c.windows.count c.windows.buffer) _ _ c.windows.engine c.append.new.engine s c.windows.invariant.full
      (as_many c.windows.count c.in-Ok-append.all c.windows.pages (take c.windows.count c.windows.buffer) width c.in-Ok-append.ensures.count)
      c.in-Ok-append.ensures.room refl width refl (c.in-Ok-append.ensures.grown m s.file is_fresh named s.wide s.stands)
      c.in-Ok-fill.next _ _
      (taken_in (g.S.Source.left c.windows.source) (g.S.Source.left c.fill-in-windows.new.source) c.in-Ok-fill.next c.fill-in-windows.new.room _
      (omega (arith, c.in-Ok-fill.ensures.within, c.fill-in-windows.ensures.width)) c.in-Ok-fill.ensures.bytes);
  led = led_then is_quiet c.args.engine.now c.windows.engine c.append.new.engine
      c.windows.invariant.led c.in-Ok-append.ensures.led;
  stops = stays_then c.args.id c.args.engine.now c.windows.engine c.append.new.engine
      c.windows.invariant.stops c.append.ensures.stops;
  ended = search rules;
  later = search rules;
  same_disk = later_then _ _ _ c.windows.invariant.same_disk c.append.ensures.spends.later;
  spent = appended_then (length c.args.buffer.now - length c.args.buffer.now % 512) c.windows.bytes c.windows.count c.in-Ok-fill.next (g.S.Source.left c.args.source.now) (g.S.Source.left c.windows.source) (g.S.Source.left c.fill-in-windows.new.source) (take c.in-Ok-fill.next c.fill-in-windows.new.room)
      c.args.engine.now c.windows.engine c.append.new.engine (omega arith) (omega (arith, c.windows-test.true))
      (omega (arith, c.windows.invariant.within, c.if-count-room.false))
      (length-take-le c.in-Ok-fill.next c.fill-in-windows.new.room (omega (arith, c.in-Ok-fill.ensures.within, c.fill-in-windows.ensures.width)))
      c.windows.invariant.spent
      (subst (λ (n : ℕ). Spends 5 (div_ceil n 512) c.windows.engine c.append.new.engine)
      (length-take-le c.windows.count c.windows.buffer (omega (arith, c.windows.invariant.within, c.windows.invariant.room))) c.append.ensures.spends)
      c.in-Ok-fill.ensures.bytes;
}

pub returns-in-Err-clause-stopped : goal.returns-in-Err-clause-stopped
returns-in-Err-clause-stopped g c = λ why is.
    stopped_code why _ c.in-Err.code c.append.new.engine c.append.ensures.stopped c.in-Err.is (cc is)

pub windows-init : goal.windows-init
windows-init g c = record {
  within = search rules;
  room = search rules;
  width = search rules;
  bytes = search rules;
  full = refl;
  filled = λ m is_fresh new stands.
      so_far_first m c.in-Ok.count _ _ _ c.args.engine.now stands
      (taken_in (g.S.Source.left c.args.source.now) (g.S.Source.left c.fill.new.source) c.in-Ok.count c.fill.new.room _
      (omega (arith, c.in-Ok.ensures.within, c.fill.ensures.width)) c.in-Ok.ensures.bytes);
  led = search rules;
  stops = stays_itself c.args.id c.args.engine.now;
  ended = search rules;
  later = search rules;
  same_disk = later_itself _;
  spent = appended_first (length c.args.buffer.now - length c.args.buffer.now % 512) c.in-Ok.count (g.S.Source.left c.args.source.now) (g.S.Source.left c.fill.new.source) (take c.in-Ok.count c.fill.new.room) c.args.engine.now (search rules)
      (length-take-le c.in-Ok.count c.fill.new.room (omega (arith, c.in-Ok.ensures.within, c.fill.ensures.width))) c.in-Ok.ensures.bytes;
}

pub returns-then-count-room-clause-filled : goal.returns-then-count-room-clause-filled
returns-then-count-room-clause-filled g c = λ m is_fresh new stands.
    let s = c.windows.invariant.filled m is_fresh new stands in
    let width = length-take-le c.windows.count c.windows.buffer (omega (arith, c.windows.invariant.within, c.windows.invariant.room)) in
    let named = named_so_far m c.args.id _ _ _ _ _ _ _ s new in
    filled_now m c.windows.bytes c.windows.pages c.windows.count c.in-Ok-append.all (c.windows.bytes + c.windows.count) c.windows.buffer
    (take c.windows.count c.windows.buffer) _ _ c.windows.engine c.append.new.engine s c.windows.invariant.full
    (as_many c.windows.count c.in-Ok-append.all c.windows.pages (take c.windows.count c.windows.buffer) width c.in-Ok-append.ensures.count)
    c.in-Ok-append.ensures.room refl width refl (c.in-Ok-append.ensures.grown m s.file is_fresh named s.wide s.stands)

pub returns-in-Err-clause-filled : goal.returns-in-Err-clause-filled
returns-in-Err-clause-filled g c = λ m is_fresh new stands.
    let s = c.windows.invariant.filled m is_fresh new stands in
    let named = named_so_far m c.args.id _ _ _ _ _ _ _ s new in
    elim (c.in-Err.ensures.grown m s.file is_fresh named s.wide s.stands) [
      | inl bad ↦ inl (ap (λ (x : Code). fault.Call x) bad)
      | inr other ↦ inr other
    ]

pub returns-clause-filled : goal.returns-clause-filled
returns-clause-filled g c = λ m is_fresh new stands.
    filled_last m c.windows.bytes c.windows.pages c.windows.count c.windows.buffer _ _ c.windows.engine (c.windows.invariant.filled m is_fresh new stands)
    c.windows.invariant.full (omega (arith, c.windows-test.false))

pub returns-in-Err-fill-clause-filled : goal.returns-in-Err-fill-clause-filled
returns-in-Err-fill-clause-filled g c = λ m is_fresh new stands.
    let s = c.windows.invariant.filled m is_fresh new stands in
    let named = named_so_far m c.args.id _ _ _ _ _ _ _ s new in
    inr (
      appended c.in-Ok-append.all c.windows.pages (take c.windows.count c.windows.buffer) s.file,
      named,
      c.in-Ok-append.ensures.grown m s.file is_fresh named s.wide s.stands,
    )

-- so much was spent on the windows
pub returns-then-room-eq0-clause-spends : goal.returns-then-room-eq0-clause-spends
returns-then-room-eq0-clause-spends g c = λ xs told. spends_none _ _ c.args.engine.now

pub returns-in_default-clause-spends : goal.returns-in_default-clause-spends
returns-in_default-clause-spends g c = λ xs told. spends_none _ _ c.args.engine.now

pub returns-clause-spends : goal.returns-clause-spends
returns-clause-spends g c =
    appended_end (length c.args.buffer.now - length c.args.buffer.now % 512) c.windows.bytes c.windows.count (g.S.Source.left c.args.source.now) (g.S.Source.left c.windows.source) c.args.engine.now c.windows.engine
    (search rules) c.windows.invariant.spent

pub returns-then-count-room-clause-spends : goal.returns-then-count-room-clause-spends
returns-then-count-room-clause-spends g c =
    appended_stop (length c.args.buffer.now - length c.args.buffer.now % 512) c.windows.bytes c.windows.count (g.S.Source.left c.args.source.now) (g.S.Source.left c.windows.source) c.args.engine.now c.windows.engine c.append.new.engine
    (search rules) (omega (arith, c.windows-test.true)) c.windows.invariant.spent
    (subst (λ (n : ℕ). Spends 5 (div_ceil n 512) c.windows.engine c.append.new.engine)
    (length-take-le c.windows.count c.windows.buffer (omega (arith, c.windows.invariant.within, c.windows.invariant.room))) c.append.ensures.spends)

pub returns-then-count-room-clause-later : goal.returns-then-count-room-clause-later
returns-then-count-room-clause-later g c = later_then _ _ _ c.windows.invariant.same_disk c.append.ensures.spends.later

pub returns-in-Err-clause-spends : goal.returns-in-Err-clause-spends
returns-in-Err-clause-spends g c =
    appended_stop (length c.args.buffer.now - length c.args.buffer.now % 512) c.windows.bytes c.windows.count (g.S.Source.left c.args.source.now) (g.S.Source.left c.windows.source) c.args.engine.now c.windows.engine c.append.new.engine
    (search rules) (omega (arith, c.windows-test.true)) c.windows.invariant.spent
    (subst (λ (n : ℕ). Spends 5 (div_ceil n 512) c.windows.engine c.append.new.engine)
    (length-take-le c.windows.count c.windows.buffer (omega (arith, c.windows.invariant.within, c.windows.invariant.room))) c.append.ensures.spends)

pub returns-in-Err-clause-later : goal.returns-in-Err-clause-later
returns-in-Err-clause-later g c = later_then _ _ _ c.windows.invariant.same_disk c.append.ensures.spends.later

pub returns-in-Err-fill-clause-spends : goal.returns-in-Err-fill-clause-spends
returns-in-Err-fill-clause-spends g c =
    appended_stop (length c.args.buffer.now - length c.args.buffer.now % 512) c.windows.bytes c.windows.count (g.S.Source.left c.args.source.now) (g.S.Source.left c.windows.source) c.args.engine.now c.windows.engine c.append.new.engine
    (search rules) (omega (arith, c.windows-test.true)) c.windows.invariant.spent
    (subst (λ (n : ℕ). Spends 5 (div_ceil n 512) c.windows.engine c.append.new.engine)
    (length-take-le c.windows.count c.windows.buffer (omega (arith, c.windows.invariant.within, c.windows.invariant.room))) c.append.ensures.spends)

pub returns-in-Err-fill-clause-later : goal.returns-in-Err-fill-clause-later
returns-in-Err-fill-clause-later g c = later_then _ _ _ c.windows.invariant.same_disk c.append.ensures.spends.later

pub returns-then-room-eq0-clause-later : goal.returns-then-room-eq0-clause-later
returns-then-room-eq0-clause-later g c = later_itself _

pub returns-in_default-clause-later : goal.returns-in_default-clause-later
returns-in_default-clause-later g c = later_itself _

-- the disk is blamed where a window blames it
pub returns-in-Err-clause-cause : goal.returns-in-Err-clause-cause
returns-in-Err-clause-cause g c = λ is.
    blamed_since _ c.in-Err.code c.args.engine.now c.windows.engine c.append.new.engine c.windows.invariant.same_disk c.append.ensures.cause c.in-Err.is (cc is)

pub returns-then-count-room-clause-stops : goal.returns-then-count-room-clause-stops
returns-then-count-room-clause-stops g c =
    stays_then c.args.id c.args.engine.now c.windows.engine c.append.new.engine
    c.windows.invariant.stops c.append.ensures.stops

pub returns-in-Err-clause-stops : goal.returns-in-Err-clause-stops
returns-in-Err-clause-stops g c =
    stays_then c.args.id c.args.engine.now c.windows.engine c.append.new.engine
    c.windows.invariant.stops c.append.ensures.stops

pub returns-in-Err-fill-clause-stops : goal.returns-in-Err-fill-clause-stops
returns-in-Err-fill-clause-stops g c =
    stays_then c.args.id c.args.engine.now c.windows.engine c.append.new.engine
    c.windows.invariant.stops c.append.ensures.stops

pub returns-clause-stops : goal.returns-clause-stops
returns-clause-stops g c = c.windows.invariant.stops

-- it is full where what was read of the source is more than there is room for
pub returns-in-Err-clause-full : goal.returns-in-Err-clause-full
returns-in-Err-clause-full g c = λ m h is_fresh new stands is.
    let s = c.windows.invariant.filled m is_fresh new stands in
    let piece = take c.windows.count c.windows.buffer in
    let width = length-take-le c.windows.count c.windows.buffer (omega (arith, c.windows.invariant.within, c.windows.invariant.room)) in
    let named = named_so_far m c.args.id _ _ _ _ _ _ _ s new in
    record {
      bytes = s.bytes ++ piece;
      read = s.taken;
      misses = misses_now m c.windows.bytes c.windows.pages c.windows.count s.bytes piece
          (c.append.ensures.full m s.file h is_fresh named s.wide s.stands (c.in-Err.is ∙ ap (λ (x : Code). Err x) (cc is)))
          s.long width c.windows.invariant.full;
    }
