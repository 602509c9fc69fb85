use Rattle.std.proofs.Common.{refl, inl, inr, false, length, rules, IsOk}
use Rattle.std.proofs.lemmas.Result.{on_ok_weaker}
use Rattle.documents.proofs.CourseLemmas.{led_still, led_then}
use Rattle.documents.specs.Course.{Led, is_look}
use Rattle.documents.proofs.StoppedLemmas.{stopped_code}
use Rattle.documents.proofs.MachineLemmas.{machine_of}
use Rattle.documents.proofs.MoveLemmas.{load_ends}
use Rattle.documents.specs.Windows.{showing}
use Rattle.documents.proofs.CauseLemmas.{blamed_code, blamed_end}
use Rattle.embedded.proofs.SpendLemmas.{later_then, spends_within}
use Rattle.documents.proofs.SpentLemmas.{window_spends}
use Rattle.std.proofs.Common.{arith, List}
use Rattle.labelled_disk.specs.Sectors.{Sector}
use Rattle.flat_machine.specs.Next.{new_id}
use Rattle.flat_machine.proofs.KeepNew.{none_new}
use Rattle.session_words.specs.StandsFor.{RevealsSettled}
use Rattle.documents.proofs.LooksLemmas.{looks_itself}
use Rattle.documents.proofs.ShownLooks.{showing_looks}
use Rattle.documents.proofs.UnseenLemmas.{loaded_unseen, unseen_then}
use Rattle.documents.proofs.window.load_pages.Goals as goal

pub returns-clause-led : goal.returns-clause-led
returns-clause-led g c =
    on_ok_weaker c.end.result
    (λ (e : IsOk c.load-moved.result.1 × Led is_look c.load-moved.new.self c.end.new.engine).
    led_then is_look c.args.engine.now c.load-moved.new.self c.end.new.engine
    (led_then is_look c.args.engine.now c.show.new.engine c.load-moved.new.self
    (c.in-Ok.ensures.look refl)
    (led_still is_look c.show.new.engine c.load-moved.new.self c.load-moved.result.1 e.0 c.load-moved.ensures.still))
    e.1)
    c.end.ensures.ended

pub returns-in-Err-clause-stopped : goal.returns-in-Err-clause-stopped
returns-in-Err-clause-stopped g c = λ why is.
    stopped_code why _ c.in-Err.code c.show.new.engine c.show.ensures.stopped c.in-Err.is (cc is)

pub returns-clause-read : goal.returns-clause-read
returns-clause-read g c = λ m stands.
    let shown = c.in-Ok.ensures.shown m stands in
    load_ends m c.args.id c.args.page c.pages_for-pages.result false c.in-Ok.window.space c.in-Ok.window.address c.load-moved.result.0
    (length c.args.into.now) c.load-moved.new.into c.load-moved.result.1 c.load-moved.new.self c.end.new.engine
    (machine_of c.args.engine.now m stands) shown.0 c.pages_for-pages.ensures (search rules) c.end.result
    (c.load-moved.ensures.still (showing m c.args.id c.args.page c.pages_for-pages.result false) shown.1)
    (c.load-moved.ensures.loaded (showing m c.args.id c.args.page c.pages_for-pages.result false) shown.1) c.load-moved.ensures.whole
    c.end.ensures.hidden c.end.ensures.failed
    (on_ok_weaker c.end.result (λ (e : IsOk c.load-moved.result.1 × Led is_look c.load-moved.new.self c.end.new.engine). e.0) c.end.ensures.ended)

pub returns-in-Err-clause-read : goal.returns-in-Err-clause-read
returns-in-Err-clause-read g c = λ m stands. elim (c.in-Err.ensures.kept m stands) [
  | inl bad ↦ inl bad
  | inr st ↦ inr (m.unforced, (λ test none. none), st)
]

-- four calls, and a load or store for each page
pub returns-clause-spends : goal.returns-clause-spends
returns-clause-spends g c =
    window_spends c.in-Ok.window.address (length c.args.into.now) c.args.engine.now c.show.new.engine c.load-moved.new.self c.end.new.engine
    c.in-Ok.ensures.even c.in-Ok.ensures.spends c.load-moved.ensures.spends c.end.ensures.spends

pub returns-in-Err-clause-spends : goal.returns-in-Err-clause-spends
returns-in-Err-clause-spends g c =
    spends_within 3 0 4 _ c.args.engine.now c.show.new.engine (omega arith) (omega arith) c.in-Err.ensures.spends

-- the disk is blamed where one of the calls blames it
pub returns-clause-cause : goal.returns-clause-cause
returns-clause-cause g c =
    blamed_end c.load-moved.result.1 c.end.result c.args.engine.now c.show.new.engine c.load-moved.new.self c.end.new.engine
    c.in-Ok.ensures.spends.later c.load-moved.ensures.spends.2.later c.end.ensures.spends.later c.load-moved.ensures.cause c.end.ensures.cause
    (later_then _ _ _ c.in-Ok.ensures.spends.later c.load-moved.ensures.spends.2.later)

pub returns-in-Err-clause-cause : goal.returns-in-Err-clause-cause
returns-in-Err-clause-cause g c = λ is.
    blamed_code _ c.in-Err.code c.args.engine.now c.show.new.engine c.show.ensures.cause c.in-Err.is (cc is)

pub returns-clause-stops : goal.returns-clause-stops
returns-clause-stops g c = λ m stands.
    let id = new_id m in
    let h = machine_of c.args.engine.now m stands in
    let like = looks_itself m id h (none_new m h) in
    let shown = c.in-Ok.ensures.shown m stands in
    let n = showing m c.args.id c.args.page c.pages_for-pages.result false in
    let first = c.show.ensures.stops id m (inr (m, like, stands)) in
    let moved = loaded_unseen m id n c.show.new.engine c.load-moved.new.self c.load-moved.result.1
    (showing_looks m id m c.args.id c.args.page c.pages_for-pages.result false c.in-Ok.window.space c.in-Ok.window.address h like shown.0)
    (c.load-moved.ensures.leaves n shown.1) (c.load-moved.ensures.still n shown.1) c.load-moved.ensures.stopped in
    let all = unseen_then m id c.args.engine.now c.show.new.engine c.end.new.engine first
    (unseen_then m id c.show.new.engine c.load-moved.new.self c.end.new.engine moved (c.end.ensures.stops id m moved.goes_on)) in
    all.leaves

pub returns-in-Err-clause-stops : goal.returns-in-Err-clause-stops
returns-in-Err-clause-stops g c = λ m stands.
    let h = machine_of c.args.engine.now m stands in
    let unseen = c.show.ensures.stops (new_id m) m (inr (m, looks_itself m (new_id m) h (none_new m h), stands)) in
    unseen.leaves
