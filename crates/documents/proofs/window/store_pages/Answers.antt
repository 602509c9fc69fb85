use Rattle.std.proofs.Common.{inl, inr, true, IsOk}
use Rattle.std.proofs.lemmas.Result.{on_ok_weaker}
use Rattle.documents.proofs.CourseLemmas.{led_stored, led_then, quiet_led}
use Rattle.documents.specs.Course.{Led, is_look, is_quiet}
use Rattle.documents.proofs.StoppedLemmas.{stopped_code}
use Rattle.documents.proofs.MachineLemmas.{machine_of}
use Rattle.documents.proofs.MoveLemmas.{store_ends}
use Rattle.documents.specs.Windows.{showing}
use Rattle.documents.proofs.CauseLemmas.{blamed_code, blamed_end}
use Rattle.embedded.proofs.SpendLemmas.{later_then, spends_within}
use Rattle.documents.proofs.SpentLemmas.{window_spends}
use Rattle.std.proofs.Common.{arith, length}
use Rattle.documents.proofs.MoveLemmas.{pages_are, pages_fill}
use Rattle.documents.proofs.UnseenLemmas.{stored_unseen, unseen_then}
use Rattle.std.proofs.Common.{◌∙◌, ap, Err}
use Rattle.embedded.specs.declared.code.Code.{Code}
use Rattle.documents.proofs.RoomLemmas.{store_not_full}
use Rattle.documents.proofs.window.store_pages.Goals as goal

pub returns-clause-led : goal.returns-clause-led
returns-clause-led g c =
    on_ok_weaker c.end.result
    (λ (e : IsOk c.store-moved.result.1 × Led is_look c.store-moved.new.self c.end.new.engine).
    led_then is_quiet c.args.engine.now c.store-moved.new.self c.end.new.engine
    (led_then is_quiet c.args.engine.now c.show.new.engine c.store-moved.new.self
    c.in-Ok.ensures.led
    (led_stored c.show.new.engine c.store-moved.new.self c.store-moved.result.1 _ _ _ e.0 c.store-moved.ensures.stored))
    (quiet_led c.store-moved.new.self c.end.new.engine e.1))
    c.end.ensures.ended

pub returns-in-Err-clause-stopped : goal.returns-in-Err-clause-stopped
returns-in-Err-clause-stopped g c = λ why is.
    stopped_code why _ c.in-Err.code c.show.new.engine c.show.ensures.stopped c.in-Err.is (cc is)

pub returns-clause-stored : goal.returns-clause-stored
returns-clause-stored g c = λ m stands.
    let shown = c.in-Ok.ensures.shown m stands in
    store_ends m c.args.id c.args.page c.pages_for-pages.result c.in-Ok.window.space c.in-Ok.window.address c.store-moved.result.0
    c.args.bytes.now c.store-moved.result.1 c.store-moved.new.self c.end.new.engine
    (machine_of c.args.engine.now m stands) shown.0 c.pages_for-pages.ensures c.end.result
    (c.store-moved.ensures.stored (showing m c.args.id c.args.page c.pages_for-pages.result true) shown.1)
    c.store-moved.ensures.part c.store-moved.ensures.whole c.end.ensures.hidden c.end.ensures.failed
    (on_ok_weaker c.end.result (λ (e : IsOk c.store-moved.result.1 × Led is_look c.store-moved.new.self c.end.new.engine). e.0) c.end.ensures.ended)

pub returns-in-Err-clause-stored : goal.returns-in-Err-clause-stored
returns-in-Err-clause-stored g c = λ m stands. elim (c.in-Err.ensures.kept m stands) [
  | inl bad ↦ inl bad
  | inr st ↦ inr (inl st)
]

-- four calls, and a load or store for each page
pub returns-clause-spends : goal.returns-clause-spends
returns-clause-spends g c =
    window_spends c.in-Ok.window.address (length c.args.bytes.now) c.args.engine.now c.show.new.engine c.store-moved.new.self c.end.new.engine
    c.in-Ok.ensures.even c.in-Ok.ensures.spends c.store-moved.ensures.spends c.end.ensures.spends

pub returns-in-Err-clause-spends : goal.returns-in-Err-clause-spends
returns-in-Err-clause-spends g c =
    spends_within 3 0 4 _ c.args.engine.now c.show.new.engine (omega arith) (omega arith) c.in-Err.ensures.spends

-- the disk is blamed where one of the calls blames it
pub returns-clause-cause : goal.returns-clause-cause
returns-clause-cause g c =
    blamed_end c.store-moved.result.1 c.end.result c.args.engine.now c.show.new.engine c.store-moved.new.self c.end.new.engine
    c.in-Ok.ensures.spends.later c.store-moved.ensures.spends.2.later c.end.ensures.spends.later c.store-moved.ensures.cause c.end.ensures.cause
    (later_then _ _ _ c.in-Ok.ensures.spends.later c.store-moved.ensures.spends.2.later)

pub returns-in-Err-clause-cause : goal.returns-in-Err-clause-cause
returns-in-Err-clause-cause g c = λ is.
    blamed_code _ c.in-Err.code c.args.engine.now c.show.new.engine c.show.ensures.cause c.in-Err.is (cc is)

pub returns-clause-stops : goal.returns-clause-stops
returns-clause-stops g c = λ m like. let first = c.show.ensures.stops c.args.id m like in elim like [
  | inl shut ↦ absurd (cc (c.in-Ok.is, c.show.ensures.closed shut))
  | inr s ↦
      let h = machine_of c.args.engine.now s.0 s.2 in
      let shown = c.in-Ok.ensures.shown s.0 s.2 in
      let n = showing s.0 c.args.id c.args.page c.pages_for-pages.result true in
      let is = pages_are s.0 c.args.id c.args.page c.pages_for-pages.result (length c.args.bytes.now) true c.in-Ok.window.space c.in-Ok.window.address h shown.0 c.pages_for-pages.ensures in
      let moved = stored_unseen m c.args.id s.0 c.args.page c.pages_for-pages.result c.in-Ok.window.space c.in-Ok.window.address c.store-moved.result.0
      c.args.bytes.now c.show.new.engine c.store-moved.new.self c.store-moved.result.1 s.1 h shown.0 (pages_fill (length c.args.bytes.now) c.pages_for-pages.result is)
      (c.store-moved.ensures.leaves n shown.1) (c.store-moved.ensures.stored n shown.1) c.store-moved.ensures.part c.store-moved.ensures.stopped in
      unseen_then m c.args.id c.args.engine.now c.show.new.engine c.end.new.engine first
      (unseen_then m c.args.id c.show.new.engine c.store-moved.new.self c.end.new.engine moved (c.end.ensures.stops c.args.id m moved.goes_on))
]

pub returns-in-Err-clause-stops : goal.returns-in-Err-clause-stops
returns-in-Err-clause-stops g c = c.show.ensures.stops c.args.id

-- it takes no room
pub returns-in-Err-clause-room : goal.returns-in-Err-clause-room
returns-in-Err-clause-room g c = λ m stands is.
    c.show.ensures.room m stands (c.in-Err.is ∙ ap (λ (x : Code). Err x) (cc is))

pub returns-clause-room : goal.returns-clause-room
returns-clause-room g c = λ m stands.
    let shown = c.in-Ok.ensures.shown m stands in
    store_not_full m c.args.id c.args.page c.pages_for-pages.result c.in-Ok.window.space c.in-Ok.window.address c.store-moved.result.0
    c.args.bytes.now c.store-moved.result.1 c.store-moved.new.self c.end.new.engine
    (machine_of c.args.engine.now m stands) shown.0 c.pages_for-pages.ensures c.end.result
    (c.store-moved.ensures.stored (showing m c.args.id c.args.page c.pages_for-pages.result true) shown.1)
    c.store-moved.ensures.part (c.store-moved.ensures.stops (showing m c.args.id c.args.page c.pages_for-pages.result true) shown.1)
    c.end.ensures.room c.end.ensures.failed
