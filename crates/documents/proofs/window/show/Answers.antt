use Rattle.std.proofs.Common.{ap, not, refl}
use Rattle.documents.proofs.CourseLemmas.{led_called, led_then}
use Rattle.documents.specs.Course.{is_look, is_quiet}
use Rattle.documents.proofs.StoppedLemmas.{stopped_back, stopped_code}
use Rattle.documents.proofs.CourseLemmas.{stays_stopped}
use Rattle.labelled_disk.specs.declared.evidence.Halt.TheVariants as halt
use Rattle.flat_machine.specs.declared.call.Call.TheVariants as call
use Rattle.documents.proofs.MoveLemmas.{kept_back}
use Rattle.documents.proofs.ShowLemmas.{none_made, none_mapped, shown_by}
use Rattle.documents.proofs.CauseLemmas.{blamed_back, blamed_code, blamed_since}
use Rattle.embedded.proofs.SpendLemmas.{spends_called, spends_then, spends_within}
use Rattle.documents.proofs.SpentLemmas.{even_address}
use Rattle.std.proofs.Common.{arith, ◌≡◌, Err}
use Rattle.embedded.specs.declared.code.Code.{Code}
use Rattle.embedded.specs.declared.code.Code.TheVariants as code
use Rattle.documents.proofs.UnseenLemmas.{stays_make_space, stays_map, stays_remove_space, stays_then}
use Rattle.documents.proofs.RoomLemmas.{back_full, map_not_full, space_not_full}
use Rattle.documents.proofs.window.show.Goals as goal

pub returns-in-Ok-map-clause-led : goal.returns-in-Ok-map-clause-led
returns-in-Ok-map-clause-led g c =
    led_then is_quiet c.args.engine.now c.make_space-made.new.self c.map.new.self
    (led_called is_quiet _ c.args.engine.now c.make_space-made.new.self _ _ refl c.make_space-made.ensures c.in-Ok.ensures.ok)
    (led_called is_quiet _ c.make_space-made.new.self c.map.new.self _ _ refl c.map.ensures c.in-Ok-map.is)

pub returns-in-Ok-map-clause-look : goal.returns-in-Ok-map-clause-look
returns-in-Ok-map-clause-look g c = λ shut.
    led_then is_look c.args.engine.now c.make_space-made.new.self c.map.new.self
    (led_called is_look _ c.args.engine.now c.make_space-made.new.self _ _ refl c.make_space-made.ensures c.in-Ok.ensures.ok)
    (led_called is_look _ c.make_space-made.new.self c.map.new.self _ _ (ap not shut) c.map.ensures c.in-Ok-map.is)

pub returns-in-Err-clause-stopped : goal.returns-in-Err-clause-stopped
returns-in-Err-clause-stopped g c = λ why is.
    stopped_code why c.space_of.result c.in-Err.code c.make_space-made.new.self
    (λ w halted. c.make_space-made.ensures.stopped w (c.space_of.ensures.halted w halted)) c.in-Err.is (cc is)

pub returns-in-Err-map-clause-stopped : goal.returns-in-Err-map-clause-stopped
returns-in-Err-map-clause-stopped g c = λ why is.
    stopped_back why c.in-Err-map.code c.answer_of.result c.remove_space.result c.map.new.self c.remove_space.new.self
    (stopped_code why _ c.in-Err-map.code c.map.new.self c.map.ensures.stopped c.in-Err-map.is)
    (λ stopped. stays_stopped why _ c.map.new.self c.remove_space.new.self _ stopped c.remove_space.ensures)
    c.remove_space.ensures.stopped c.answer_of.ensures.which (cc is)

pub returns-in-Ok-map-clause-shown : goal.returns-in-Ok-map-clause-shown
returns-in-Ok-map-clause-shown g c = λ m stands.
    shown_by m c.args.run.id c.args.run.page c.args.run.pages c.args.writable c.args.engine.now c.make_space-made.new.self c.map.new.self
    _ _ c.in-Ok.place.0 c.in-Ok.place.1 _ _
    c.make_space-made.ensures c.in-Ok.ensures.ok c.map.ensures c.in-Ok-map.is refl stands

pub returns-in-Err-clause-kept : goal.returns-in-Err-clause-kept
returns-in-Err-clause-kept g c = λ m stands.
    none_made m c.args.run.pages c.args.engine.now c.make_space-made.new.self c.make_space-made.result c.space_of.result c.in-Err.code
    c.make_space-made.ensures c.space_of.ensures.space c.space_of.ensures.code c.in-Err.is stands

pub returns-in-Err-map-clause-kept : goal.returns-in-Err-map-clause-kept
returns-in-Err-map-clause-kept g c = λ m stands.
    kept_back (call.RemoveSpace c.in-Ok.place.0) c.map.new.self c.remove_space.new.self c.answer_of.result c.in-Err-map.code c.remove_space.result
    c.remove_space.ensures (λ bad. stopped_code halt.Disk _ c.in-Err-map.code c.map.new.self c.map.ensures.stopped c.in-Err-map.is bad)
    c.answer_of.ensures.which (c.answer_of.ensures.halted halt.Disk)
    (none_mapped m c.args.run.id c.args.run.page c.args.run.pages c.args.writable c.args.engine.now c.make_space-made.new.self c.map.new.self c.remove_space.new.self
    _ _ c.remove_space.result c.in-Ok.place.0 c.in-Ok.place.1 c.in-Err-map.code
    c.make_space-made.ensures c.in-Ok.ensures.ok c.map.ensures c.in-Err-map.is c.remove_space.ensures stands)

-- an address of a page
pub returns-in-Ok-map-clause-even : goal.returns-in-Ok-map-clause-even
returns-in-Ok-map-clause-even g c = even_address c.in-Ok.place.1

-- two calls show a run; one more takes the space away again
pub returns-in-Ok-map-clause-spends : goal.returns-in-Ok-map-clause-spends
returns-in-Ok-map-clause-spends g c =
    spends_then 1 0 1 0 2 0 c.args.engine.now c.make_space-made.new.self c.map.new.self (omega arith) (omega arith)
    (spends_called _ c.args.engine.now c.make_space-made.new.self _ c.make_space-made.ensures)
    (spends_called _ c.make_space-made.new.self c.map.new.self _ c.map.ensures)

pub returns-in-Err-clause-spends : goal.returns-in-Err-clause-spends
returns-in-Err-clause-spends g c =
    spends_within 1 0 3 0 c.args.engine.now c.make_space-made.new.self (omega arith) (omega arith)
    (spends_called _ c.args.engine.now c.make_space-made.new.self _ c.make_space-made.ensures)

pub returns-in-Err-map-clause-spends : goal.returns-in-Err-map-clause-spends
returns-in-Err-map-clause-spends g c =
    spends_then 2 0 1 0 3 0 c.args.engine.now c.map.new.self c.remove_space.new.self (omega arith) (omega arith)
    (spends_then 1 0 1 0 2 0 c.args.engine.now c.make_space-made.new.self c.map.new.self (omega arith) (omega arith)
    (spends_called _ c.args.engine.now c.make_space-made.new.self _ c.make_space-made.ensures)
    (spends_called _ c.make_space-made.new.self c.map.new.self _ c.map.ensures))
    (spends_called _ c.map.new.self c.remove_space.new.self _ c.remove_space.ensures)

-- the disk is blamed where one of the calls blames it
pub returns-in-Err-clause-cause : goal.returns-in-Err-clause-cause
returns-in-Err-clause-cause g c = λ is.
    blamed_code c.space_of.result c.in-Err.code c.args.engine.now c.make_space-made.new.self
    (λ bad. c.make_space-made.ensures.cause (c.space_of.ensures.halted halt.Disk bad)) c.in-Err.is (cc is)

pub returns-in-Err-map-clause-cause : goal.returns-in-Err-map-clause-cause
returns-in-Err-map-clause-cause g c = λ is.
    let two = spends_then 1 0 1 0 2 0 c.args.engine.now c.make_space-made.new.self c.map.new.self (omega arith) (omega arith)
    (spends_called _ c.args.engine.now c.make_space-made.new.self _ c.make_space-made.ensures)
    (spends_called _ c.make_space-made.new.self c.map.new.self _ c.map.ensures) in
    blamed_back c.in-Err-map.code c.answer_of.result c.remove_space.result c.args.engine.now c.map.new.self c.remove_space.new.self
    (blamed_since _ c.in-Err-map.code c.args.engine.now c.make_space-made.new.self c.map.new.self c.make_space-made.ensures.later c.map.ensures.cause c.in-Err-map.is)
    two.later c.remove_space.ensures.later c.remove_space.ensures.cause c.answer_of.ensures.which (cc is)

pub returns-in-Err-clause-stops : goal.returns-in-Err-clause-stops
returns-in-Err-clause-stops g c = λ id.
    stays_make_space id _ _ _ c.args.engine.now c.make_space-made.new.self _ c.make_space-made.ensures

pub returns-in-Ok-map-clause-stops : goal.returns-in-Ok-map-clause-stops
returns-in-Ok-map-clause-stops g c = λ id.
    stays_then id c.args.engine.now c.make_space-made.new.self c.map.new.self
    (stays_make_space id _ _ _ c.args.engine.now c.make_space-made.new.self _ c.make_space-made.ensures)
    (stays_map id _ _ _ _ c.make_space-made.new.self c.map.new.self _ c.map.ensures)

pub returns-in-Err-map-clause-stops : goal.returns-in-Err-map-clause-stops
returns-in-Err-map-clause-stops g c = λ id.
    stays_then id c.args.engine.now c.make_space-made.new.self c.remove_space.new.self
    (stays_make_space id _ _ _ c.args.engine.now c.make_space-made.new.self _ c.make_space-made.ensures)
    (stays_then id c.make_space-made.new.self c.map.new.self c.remove_space.new.self
    (stays_map id _ _ _ _ c.make_space-made.new.self c.map.new.self _ c.map.ensures)
    (stays_remove_space id _ c.map.new.self c.remove_space.new.self _ c.remove_space.ensures))

pub returns-in-Err-clause-closed : goal.returns-in-Err-clause-closed
returns-in-Err-clause-closed g c = λ shut.
    let is = c.space_of.ensures.code code.Closed (c.make_space-made.ensures.closed shut).0 in
    let same : c.in-Err.code ≡ code.Closed = cc (c.in-Err.is, is) in
    ap (λ (x : Code). Err x) same

pub returns-in-Ok-map-clause-closed : goal.returns-in-Ok-map-clause-closed
returns-in-Ok-map-clause-closed g c = λ shut. absurd (cc (c.in-Ok.ensures.ok, (c.make_space-made.ensures.closed shut).0))

pub returns-in-Err-map-clause-closed : goal.returns-in-Err-map-clause-closed
returns-in-Err-map-clause-closed g c = λ shut. absurd (cc (c.in-Ok.ensures.ok, (c.make_space-made.ensures.closed shut).0))

-- it takes no room
pub returns-in-Err-clause-room : goal.returns-in-Err-clause-room
returns-in-Err-clause-room g c = λ m stands is.
    space_not_full m c.args.run.pages c.args.engine.now c.make_space-made.new.self c.make_space-made.result c.space_of.result c.in-Err.code
    c.make_space-made.ensures c.space_of.ensures.space c.space_of.ensures.code c.in-Err.is stands (cc is)

pub returns-in-Err-map-clause-room : goal.returns-in-Err-map-clause-room
returns-in-Err-map-clause-room g c = λ m stands is.
    map_not_full m c.args.run.id c.args.run.page c.args.run.pages c.args.writable c.args.engine.now c.make_space-made.new.self c.map.new.self
    _ _ c.in-Ok.place.0 c.in-Ok.place.1 c.in-Err-map.code
    c.make_space-made.ensures c.in-Ok.ensures.ok c.map.ensures c.in-Err-map.is stands
    (back_full c.in-Err-map.code c.answer_of.result c.remove_space.result c.answer_of.ensures.which (cc is))
