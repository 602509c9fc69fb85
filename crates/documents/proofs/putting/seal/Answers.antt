use Rattle.documents.proofs.StoppedLemmas.{stopped_code}
use Rattle.std.proofs.Common.{ℕ, List, subst}
use Rattle.document_head.specs.Head.{head_page}
use Rattle.embedded.specs.Engine.{StandsFor}
use Rattle.documents.specs.Pieces.{adding, written}
use Rattle.documents.proofs.PutLemmas.{mark_err, mark_ok, stored_err, stored_ok}
use Rattle.documents.proofs.CauseLemmas.{blamed_code, blamed_since}
use Rattle.embedded.proofs.SpendLemmas.{spends_called, spends_then, spends_within}
use Rattle.std.proofs.Common.{arith, rules, inl, inr}
use Rattle.documents.proofs.WholeLemmas.{adding_looks, mark_fails, mark_leaves}
use Rattle.std.proofs.Common.{◌∙◌, ap, Err}
use Rattle.embedded.specs.declared.code.Code.{Code}
use Rattle.documents.proofs.RoomLemmas.{mark_not_full}
use Rattle.documents.proofs.putting.seal.Goals as goal

pub returns-in-Err-make_permanent-clause-stopped : goal.returns-in-Err-make_permanent-clause-stopped
returns-in-Err-make_permanent-clause-stopped g c = λ why is.
    stopped_code why _ c.in-Err-make_permanent.code c.make_permanent.new.self c.make_permanent.ensures.stopped c.in-Err-make_permanent.is (cc is)

pub returns-in-Ok-make_permanent-clause-sealed : goal.returns-in-Ok-make_permanent-clause-sealed
returns-in-Ok-make_permanent-clause-sealed g c = λ m f is_fresh named stands.
    let page = c.to_page.result in
    let written_is = stored_ok m f c.args.id is_fresh named 0 _ page c.store_pages.new.engine (c.in-Ok.ensures.stored (adding f m) stands) in
    let its = subst (λ (p : List ℕ). StandsFor c.store_pages.new.engine (adding (written 0 p f) m)) c.to_page.ensures written_is in
    mark_ok m (written 0 (head_page c.args.head.now.bytes c.args.head.now.name.bytes) f) c.args.id is_fresh named c.store_pages.new.engine c.make_permanent.new.self _ _ c.make_permanent.ensures c.in-Ok-make_permanent.is its

pub returns-in-Err-make_permanent-clause-sealed : goal.returns-in-Err-make_permanent-clause-sealed
returns-in-Err-make_permanent-clause-sealed g c = λ m f is_fresh named stands.
    let page = c.to_page.result in
    let written_is = stored_ok m f c.args.id is_fresh named 0 _ page c.store_pages.new.engine (c.in-Ok.ensures.stored (adding f m) stands) in
    mark_err m (written 0 page f) c.args.id is_fresh named c.store_pages.new.engine c.make_permanent.new.self _ c.in-Err-make_permanent.code
    c.make_permanent.ensures c.in-Err-make_permanent.is written_is

pub returns-in-Err-clause-sealed : goal.returns-in-Err-clause-sealed
returns-in-Err-clause-sealed g c = λ m f is_fresh named stands.
    stored_err m f c.args.id is_fresh named 0 c.to_page.result c.in-Err.code c.store_pages.new.engine (c.in-Err.ensures.stored (adding f m) stands)

-- a window of one page, and one call
pub returns-in-Ok-make_permanent-clause-spends : goal.returns-in-Ok-make_permanent-clause-spends
returns-in-Ok-make_permanent-clause-spends g c =
    spends_then 4 1 1 0 5 1 c.args.engine.now c.store_pages.new.engine c.make_permanent.new.self (omega arith) (omega arith)
    (spends_within 4 _ 4 1 c.args.engine.now c.store_pages.new.engine (omega arith) (search rules) c.store_pages.ensures.spends)
    (spends_called _ c.store_pages.new.engine c.make_permanent.new.self _ c.make_permanent.ensures)

pub returns-in-Err-make_permanent-clause-spends : goal.returns-in-Err-make_permanent-clause-spends
returns-in-Err-make_permanent-clause-spends g c =
    spends_then 4 1 1 0 5 1 c.args.engine.now c.store_pages.new.engine c.make_permanent.new.self (omega arith) (omega arith)
    (spends_within 4 _ 4 1 c.args.engine.now c.store_pages.new.engine (omega arith) (search rules) c.store_pages.ensures.spends)
    (spends_called _ c.store_pages.new.engine c.make_permanent.new.self _ c.make_permanent.ensures)

pub returns-in-Err-clause-spends : goal.returns-in-Err-clause-spends
returns-in-Err-clause-spends g c =
    spends_within 4 _ 5 1 c.args.engine.now c.store_pages.new.engine (omega arith) (search rules) c.store_pages.ensures.spends

-- the disk is blamed where one of them blames it
pub returns-in-Err-clause-cause : goal.returns-in-Err-clause-cause
returns-in-Err-clause-cause g c = λ is.
    blamed_code _ c.in-Err.code c.args.engine.now c.store_pages.new.engine c.store_pages.ensures.cause c.in-Err.is (cc is)

pub returns-in-Err-make_permanent-clause-cause : goal.returns-in-Err-make_permanent-clause-cause
returns-in-Err-make_permanent-clause-cause g c = λ is.
    blamed_since _ c.in-Err-make_permanent.code c.args.engine.now c.store_pages.new.engine c.make_permanent.new.self c.store_pages.ensures.spends.later
    c.make_permanent.ensures.cause c.in-Err-make_permanent.is (cc is)

pub returns-in-Ok-make_permanent-clause-stops : goal.returns-in-Ok-make_permanent-clause-stops
returns-in-Ok-make_permanent-clause-stops g c = λ m f h is_fresh named temporary stands.
    let page = c.to_page.result in
    let written_is = stored_ok m f c.args.id is_fresh named 0 _ page c.store_pages.new.engine (c.in-Ok.ensures.stored (adding f m) stands) in
    let its = subst (λ (p : List ℕ). StandsFor c.store_pages.new.engine (adding (written 0 p f) m)) c.to_page.ensures written_is in
    let unseen = c.store_pages.ensures.stops m (inr (adding f m, adding_looks m f c.args.id h is_fresh named temporary, stands)) in
    mark_leaves m (written 0 (head_page c.args.head.now.bytes c.args.head.now.name.bytes) f) c.args.id h is_fresh named temporary
    c.args.engine.now c.store_pages.new.engine c.make_permanent.new.self _ unseen its c.make_permanent.ensures

pub returns-in-Err-make_permanent-clause-stops : goal.returns-in-Err-make_permanent-clause-stops
returns-in-Err-make_permanent-clause-stops g c = λ m f h is_fresh named temporary stands.
    let page = c.to_page.result in
    let written_is = stored_ok m f c.args.id is_fresh named 0 _ page c.store_pages.new.engine (c.in-Ok.ensures.stored (adding f m) stands) in
    let its = subst (λ (p : List ℕ). StandsFor c.store_pages.new.engine (adding (written 0 p f) m)) c.to_page.ensures written_is in
    let unseen = c.store_pages.ensures.stops m (inr (adding f m, adding_looks m f c.args.id h is_fresh named temporary, stands)) in
    mark_fails m (written 0 (head_page c.args.head.now.bytes c.args.head.now.name.bytes) f) c.args.id h is_fresh named temporary
    c.args.engine.now c.store_pages.new.engine c.make_permanent.new.self _ c.in-Err-make_permanent.code unseen its c.make_permanent.ensures c.in-Err-make_permanent.is

pub returns-in-Err-clause-stops : goal.returns-in-Err-clause-stops
returns-in-Err-clause-stops g c = λ m f h is_fresh named temporary stands.
    inl (c.store_pages.ensures.stops m (inr (adding f m, adding_looks m f c.args.id h is_fresh named temporary, stands)))

-- it takes no room
pub returns-in-Err-clause-room : goal.returns-in-Err-clause-room
returns-in-Err-clause-room g c = λ m stands is.
    c.store_pages.ensures.room m stands (c.in-Err.is ∙ ap (λ (x : Code). Err x) (cc is))

pub returns-in-Err-make_permanent-clause-room : goal.returns-in-Err-make_permanent-clause-room
returns-in-Err-make_permanent-clause-room g c = λ m stands is.
    mark_not_full _ c.args.id c.store_pages.new.engine c.make_permanent.new.self _ c.in-Err-make_permanent.code c.make_permanent.ensures
    c.in-Err-make_permanent.is (c.in-Ok.ensures.stored m stands) (cc is)
