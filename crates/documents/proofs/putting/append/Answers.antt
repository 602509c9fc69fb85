use Rattle.std.proofs.Common.{refl}
use Rattle.documents.proofs.CourseLemmas.{led_called, led_then}
use Rattle.documents.specs.Course.{is_quiet}
use Rattle.documents.proofs.StoppedLemmas.{stopped_code}
use Rattle.documents.proofs.PutLemmas.{set_err, set_ok, stored_err, stored_ok}
use Rattle.documents.specs.Pieces.{adding, grown}
use Rattle.std.specs.Int.{div_ceil}
use Rattle.documents.proofs.CauseLemmas.{blamed_code, blamed_since}
use Rattle.embedded.proofs.SpendLemmas.{spends_called, spends_none, spends_then, spends_within}
use Rattle.std.proofs.Common.{arith, length}
use Rattle.documents.proofs.UnseenLemmas.{stays_size, stays_then}
use Rattle.std.proofs.Common.{◌≡◌, ◌+◌, ◌∙◌, ap, subst, ℕ, Err, rules}
use Rattle.embedded.specs.declared.code.Code.{Code}
use Rattle.documents.specs.Room.{MissesRoom}
use Rattle.documents.proofs.RoomLemmas.{few_pages, sized_by}
use Rattle.documents.proofs.putting.append.Goals as goal

pub returns-in-Ok-store_pages-clause-led : goal.returns-in-Ok-store_pages-clause-led
returns-in-Ok-store_pages-clause-led g c =
    led_then is_quiet c.args.engine.now c.set_size.new.self c.store_pages.new.engine
    (led_called is_quiet _ c.args.engine.now c.set_size.new.self _ _ refl c.set_size.ensures c.in-Ok-set_size.is)
    c.in-Ok-store_pages.ensures.led

pub returns-in-Err-clause-stopped : goal.returns-in-Err-clause-stopped
returns-in-Err-clause-stopped g c = λ why is.
    stopped_code why _ c.in-Err.code c.set_size.new.self c.set_size.ensures.stopped c.in-Err.is (cc is)

pub returns-in-Err-store_pages-clause-stopped : goal.returns-in-Err-store_pages-clause-stopped
returns-in-Err-store_pages-clause-stopped g c = λ why is.
    stopped_code why _ c.in-Err-store_pages.code c.store_pages.new.engine c.store_pages.ensures.stopped c.in-Err-store_pages.is (cc is)

pub returns-in-Ok-store_pages-clause-grown : goal.returns-in-Ok-store_pages-clause-grown
returns-in-Ok-store_pages-clause-grown g c = λ m f is_fresh named long stands.
    let longer = set_ok m f c.args.id is_fresh named c.in-Some.all c.args.engine.now c.set_size.new.self _ _ c.set_size.ensures c.in-Ok-set_size.is stands in
    stored_ok m (record f { pages = grown c.in-Some.all f.pages }) c.args.id is_fresh named c.args.pages _ c.args.bytes.now c.store_pages.new.engine
    (c.in-Ok-store_pages.ensures.stored (adding (record f { pages = grown c.in-Some.all f.pages }) m) longer)

pub returns-in-Err-store_pages-clause-grown : goal.returns-in-Err-store_pages-clause-grown
returns-in-Err-store_pages-clause-grown g c = λ m f is_fresh named long stands.
    let longer = set_ok m f c.args.id is_fresh named c.in-Some.all c.args.engine.now c.set_size.new.self _ _ c.set_size.ensures c.in-Ok-set_size.is stands in
    stored_err m (record f { pages = grown c.in-Some.all f.pages }) c.args.id is_fresh named c.args.pages c.args.bytes.now c.in-Err-store_pages.code c.store_pages.new.engine
    (c.in-Err-store_pages.ensures.stored (adding (record f { pages = grown c.in-Some.all f.pages }) m) longer)

pub returns-in-Err-clause-grown : goal.returns-in-Err-clause-grown
returns-in-Err-clause-grown g c = λ m f is_fresh named long stands.
    set_err m f c.args.id is_fresh named c.in-Some.all c.args.engine.now c.set_size.new.self _ c.in-Err.code c.set_size.ensures c.in-Err.is stands

-- one call, and a window
pub returns-in-Ok-store_pages-clause-spends : goal.returns-in-Ok-store_pages-clause-spends
returns-in-Ok-store_pages-clause-spends g c =
    spends_then 1 0 4 (div_ceil (length c.args.bytes.now) 512) 5 (div_ceil (length c.args.bytes.now) 512) c.args.engine.now c.set_size.new.self c.store_pages.new.engine
    (omega arith) (omega arith) (spends_called _ c.args.engine.now c.set_size.new.self _ c.set_size.ensures) c.store_pages.ensures.spends

pub returns-in-Err-store_pages-clause-spends : goal.returns-in-Err-store_pages-clause-spends
returns-in-Err-store_pages-clause-spends g c =
    spends_then 1 0 4 (div_ceil (length c.args.bytes.now) 512) 5 (div_ceil (length c.args.bytes.now) 512) c.args.engine.now c.set_size.new.self c.store_pages.new.engine
    (omega arith) (omega arith) (spends_called _ c.args.engine.now c.set_size.new.self _ c.set_size.ensures) c.store_pages.ensures.spends

pub returns-in-Err-clause-spends : goal.returns-in-Err-clause-spends
returns-in-Err-clause-spends g c =
    spends_within 1 0 5 _ c.args.engine.now c.set_size.new.self (omega arith) (omega arith)
    (spends_called _ c.args.engine.now c.set_size.new.self _ c.set_size.ensures)

pub returns-in_default-clause-spends : goal.returns-in_default-clause-spends
returns-in_default-clause-spends g c = spends_none 5 _ c.args.engine.now

pub returns-in_default-checked_add-clause-spends : goal.returns-in_default-checked_add-clause-spends
returns-in_default-checked_add-clause-spends g c = spends_none 5 _ c.args.engine.now

-- the disk is blamed where one of them blames it
pub returns-in-Err-clause-cause : goal.returns-in-Err-clause-cause
returns-in-Err-clause-cause g c = λ is.
    blamed_code _ c.in-Err.code c.args.engine.now c.set_size.new.self c.set_size.ensures.cause c.in-Err.is (cc is)

pub returns-in-Err-store_pages-clause-cause : goal.returns-in-Err-store_pages-clause-cause
returns-in-Err-store_pages-clause-cause g c = λ is.
    blamed_since _ c.in-Err-store_pages.code c.args.engine.now c.set_size.new.self c.store_pages.new.engine c.set_size.ensures.later c.store_pages.ensures.cause
    c.in-Err-store_pages.is (cc is)

pub returns-in-Err-clause-stops : goal.returns-in-Err-clause-stops
returns-in-Err-clause-stops g c =
    stays_size c.args.id _ c.args.engine.now c.set_size.new.self _ c.set_size.ensures

pub returns-in-Ok-store_pages-clause-stops : goal.returns-in-Ok-store_pages-clause-stops
returns-in-Ok-store_pages-clause-stops g c =
    stays_then c.args.id c.args.engine.now c.set_size.new.self c.store_pages.new.engine
    (stays_size c.args.id _ c.args.engine.now c.set_size.new.self _ c.set_size.ensures)
    c.store_pages.ensures.stops

pub returns-in-Err-store_pages-clause-stops : goal.returns-in-Err-store_pages-clause-stops
returns-in-Err-store_pages-clause-stops g c =
    stays_then c.args.id c.args.engine.now c.set_size.new.self c.store_pages.new.engine
    (stays_size c.args.id _ c.args.engine.now c.set_size.new.self _ c.set_size.ensures)
    c.store_pages.ensures.stops

-- it is full where it has no room
pub returns-in-Err-clause-full : goal.returns-in-Err-clause-full
returns-in-Err-clause-full g c = λ m f h is_fresh named long stands is.
    subst (λ (n : ℕ). MissesRoom m n) (let z : c.in-Some.all ≡ c.args.pages + div_ceil (length c.args.bytes.now) 512 = search rules in z)
    (sized_by m f c.args.id c.in-Some.all c.args.engine.now c.set_size.new.self _ c.in-Err.code h is_fresh named c.set_size.ensures c.in-Err.is stands (cc is))

pub returns-in-Err-store_pages-clause-full : goal.returns-in-Err-store_pages-clause-full
returns-in-Err-store_pages-clause-full g c = λ m f h is_fresh named long stands is.
    let longer = set_ok m f c.args.id is_fresh named c.in-Some.all c.args.engine.now c.set_size.new.self _ _ c.set_size.ensures c.in-Ok-set_size.is stands in
    absurd (c.store_pages.ensures.room (adding (record f { pages = grown c.in-Some.all f.pages }) m) longer
    (c.in-Err-store_pages.is ∙ ap (λ (x : Code). Err x) (cc is)))

pub returns-in_default-clause-full : goal.returns-in_default-clause-full
returns-in_default-clause-full g c = λ m f h is_fresh named long stands is.
    let few = few_pages c.args.engine.now (adding f m) stands in
    omega (arith, few)

pub returns-in_default-checked_add-clause-full : goal.returns-in_default-checked_add-clause-full
returns-in_default-checked_add-clause-full g c = λ m f h is_fresh named long stands is.
    let few = few_pages c.args.engine.now (adding f m) stands in
    omega (arith, few)
