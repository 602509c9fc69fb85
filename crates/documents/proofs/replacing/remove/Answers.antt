use Rattle.documents.proofs.StoppedLemmas.{stopped_code}
use Rattle.documents.proofs.RemoveLemmas.{removed_err, removed_ok}
use Rattle.documents.proofs.CauseLemmas.{blamed_since}
use Rattle.embedded.proofs.SpendLemmas.{spends_called, spends_then, spends_within}
use Rattle.std.proofs.Common.{arith, inl}
use Rattle.session_words.specs.StandsFor.{RevealsSettled}
use Rattle.documents.specs.Stops.{ThereOrGone}
use Rattle.documents.proofs.GoneLemmas.{removed_leaves}
use Rattle.documents.proofs.UnseenLemmas.{leaves_less}
use Rattle.documents.proofs.replacing.remove.Goals as goal

pub returns-in-Err-delete-clause-stopped : goal.returns-in-Err-delete-clause-stopped
returns-in-Err-delete-clause-stopped g c = λ why is.
    stopped_code why _ c.in-Err-delete.code c.delete.new.self c.delete.ensures.stopped c.in-Err-delete.is (cc is)

pub returns-in-Ok-delete-clause-removed : goal.returns-in-Ok-delete-clause-removed
returns-in-Ok-delete-clause-removed g c = λ m stands.
    removed_ok m c.args.id c.is_document.new.engine c.delete.new.self _ _ c.delete.ensures c.in-Ok-delete.is (c.in-Ok.ensures.still m stands)

pub returns-in-Err-delete-clause-removed : goal.returns-in-Err-delete-clause-removed
returns-in-Err-delete-clause-removed g c = λ m stands.
    removed_err m c.args.id c.is_document.new.engine c.delete.new.self _ c.in-Err-delete.code c.delete.ensures c.in-Err-delete.is (c.in-Ok.ensures.still m stands).1

pub returns-in-Err-clause-removed : goal.returns-in-Err-clause-removed
returns-in-Err-clause-removed g c = λ m stands. c.in-Err.ensures.still m stands

-- five calls for the head, and one
pub returns-in-Err-clause-spends : goal.returns-in-Err-clause-spends
returns-in-Err-clause-spends g c =
    spends_within 5 1 6 1 c.args.engine.now c.is_document.new.engine (omega arith) (omega arith) c.is_document.ensures.spends

pub returns-in-Ok-delete-clause-spends : goal.returns-in-Ok-delete-clause-spends
returns-in-Ok-delete-clause-spends g c =
    spends_then 5 1 1 0 6 1 c.args.engine.now c.is_document.new.engine c.delete.new.self (omega arith) (omega arith) c.is_document.ensures.spends
    (spends_called _ c.is_document.new.engine c.delete.new.self _ c.delete.ensures)

pub returns-in-Err-delete-clause-spends : goal.returns-in-Err-delete-clause-spends
returns-in-Err-delete-clause-spends g c =
    spends_then 5 1 1 0 6 1 c.args.engine.now c.is_document.new.engine c.delete.new.self (omega arith) (omega arith) c.is_document.ensures.spends
    (spends_called _ c.is_document.new.engine c.delete.new.self _ c.delete.ensures)

pub returns-in-Err-delete-clause-cause : goal.returns-in-Err-delete-clause-cause
returns-in-Err-delete-clause-cause g c = λ is.
    blamed_since _ c.in-Err-delete.code c.args.engine.now c.is_document.new.engine c.delete.new.self c.is_document.ensures.spends.later c.delete.ensures.cause
    c.in-Err-delete.is (cc is)

pub returns-in-Err-clause-stops : goal.returns-in-Err-clause-stops
returns-in-Err-clause-stops g c = λ m stands.
    leaves_less (λ d. RevealsSettled d m) (ThereOrGone m c.args.id) (λ d r. inl r) c.args.engine.now c.is_document.new.engine (c.is_document.ensures.stops m stands)

pub returns-in-Ok-delete-clause-stops : goal.returns-in-Ok-delete-clause-stops
returns-in-Ok-delete-clause-stops g c = λ m stands.
    removed_leaves m c.args.id c.args.engine.now c.is_document.new.engine c.delete.new.self _ stands (c.in-Ok.ensures.still m stands) (c.is_document.ensures.stops m stands) c.delete.ensures

pub returns-in-Err-delete-clause-stops : goal.returns-in-Err-delete-clause-stops
returns-in-Err-delete-clause-stops g c = λ m stands.
    removed_leaves m c.args.id c.args.engine.now c.is_document.new.engine c.delete.new.self _ stands (c.in-Ok.ensures.still m stands) (c.is_document.ensures.stops m stands) c.delete.ensures
