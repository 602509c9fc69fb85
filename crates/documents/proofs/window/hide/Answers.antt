use Rattle.std.proofs.Common.{refl}
use Rattle.documents.proofs.CourseLemmas.{led_called, led_then}
use Rattle.documents.specs.Course.{is_look}
use Rattle.documents.proofs.StoppedLemmas.{stopped_code}
use Rattle.documents.proofs.ShowLemmas.{hidden_by, remove_fails, unmap_fails}
use Rattle.documents.proofs.CauseLemmas.{blamed_code, blamed_since}
use Rattle.embedded.proofs.SpendLemmas.{spends_called, spends_then, spends_within}
use Rattle.std.proofs.Common.{arith}
use Rattle.documents.proofs.UnseenLemmas.{stays_remove_space, stays_then, stays_unmap}
use Rattle.documents.proofs.window.hide.Goals as goal

pub returns-in-Ok-remove_space-clause-led : goal.returns-in-Ok-remove_space-clause-led
returns-in-Ok-remove_space-clause-led g c =
    led_then is_look c.args.engine.now c.unmap.new.self c.remove_space.new.self
    (led_called is_look _ c.args.engine.now c.unmap.new.self _ _ refl c.unmap.ensures c.in-Ok.is)
    (led_called is_look _ c.unmap.new.self c.remove_space.new.self _ _ refl c.remove_space.ensures c.in-Ok-remove_space.is)

pub returns-in-Err-clause-stopped : goal.returns-in-Err-clause-stopped
returns-in-Err-clause-stopped g c = λ why is.
    stopped_code why _ c.in-Err.code c.unmap.new.self c.unmap.ensures.stopped c.in-Err.is (cc is)

pub returns-in-Err-remove_space-clause-stopped : goal.returns-in-Err-remove_space-clause-stopped
returns-in-Err-remove_space-clause-stopped g c = λ why is.
    stopped_code why _ c.in-Err-remove_space.code c.remove_space.new.self c.remove_space.ensures.stopped c.in-Err-remove_space.is (cc is)

pub returns-in-Ok-remove_space-clause-hidden : goal.returns-in-Ok-remove_space-clause-hidden
returns-in-Ok-remove_space-clause-hidden g c = λ m last stands h.
    hidden_by m last c.args.window.space c.args.engine.now c.unmap.new.self c.remove_space.new.self _ _ _ _
    c.unmap.ensures c.in-Ok.is c.remove_space.ensures c.in-Ok-remove_space.is stands h

pub returns-in-Err-clause-hidden : goal.returns-in-Err-clause-hidden
returns-in-Err-clause-hidden g c = λ m last stands h.
    unmap_fails m last c.args.window.space c.args.engine.now c.unmap.new.self _ c.in-Err.code c.unmap.ensures c.in-Err.is stands h

pub returns-in-Err-remove_space-clause-hidden : goal.returns-in-Err-remove_space-clause-hidden
returns-in-Err-remove_space-clause-hidden g c = λ m last stands h.
    remove_fails m last c.args.window.space c.args.engine.now c.unmap.new.self c.remove_space.new.self _ _ _ c.in-Err-remove_space.code
    c.unmap.ensures c.in-Ok.is c.remove_space.ensures c.in-Err-remove_space.is stands h

-- two calls
pub returns-in-Ok-remove_space-clause-spends : goal.returns-in-Ok-remove_space-clause-spends
returns-in-Ok-remove_space-clause-spends g c =
    spends_then 1 0 1 0 2 0 c.args.engine.now c.unmap.new.self c.remove_space.new.self (omega arith) (omega arith)
    (spends_called _ c.args.engine.now c.unmap.new.self _ c.unmap.ensures)
    (spends_called _ c.unmap.new.self c.remove_space.new.self _ c.remove_space.ensures)

pub returns-in-Err-clause-spends : goal.returns-in-Err-clause-spends
returns-in-Err-clause-spends g c =
    spends_within 1 0 2 0 c.args.engine.now c.unmap.new.self (omega arith) (omega arith)
    (spends_called _ c.args.engine.now c.unmap.new.self _ c.unmap.ensures)

pub returns-in-Err-remove_space-clause-spends : goal.returns-in-Err-remove_space-clause-spends
returns-in-Err-remove_space-clause-spends g c =
    spends_then 1 0 1 0 2 0 c.args.engine.now c.unmap.new.self c.remove_space.new.self (omega arith) (omega arith)
    (spends_called _ c.args.engine.now c.unmap.new.self _ c.unmap.ensures)
    (spends_called _ c.unmap.new.self c.remove_space.new.self _ c.remove_space.ensures)

pub returns-in-Err-clause-cause : goal.returns-in-Err-clause-cause
returns-in-Err-clause-cause g c = λ is.
    blamed_code _ c.in-Err.code c.args.engine.now c.unmap.new.self c.unmap.ensures.cause c.in-Err.is (cc is)

pub returns-in-Err-remove_space-clause-cause : goal.returns-in-Err-remove_space-clause-cause
returns-in-Err-remove_space-clause-cause g c = λ is.
    blamed_since _ c.in-Err-remove_space.code c.args.engine.now c.unmap.new.self c.remove_space.new.self c.unmap.ensures.later c.remove_space.ensures.cause
    c.in-Err-remove_space.is (cc is)

pub returns-in-Err-clause-stops : goal.returns-in-Err-clause-stops
returns-in-Err-clause-stops g c = λ id.
    stays_unmap id _ c.args.engine.now c.unmap.new.self _ c.unmap.ensures

pub returns-in-Ok-remove_space-clause-stops : goal.returns-in-Ok-remove_space-clause-stops
returns-in-Ok-remove_space-clause-stops g c = λ id.
    stays_then id c.args.engine.now c.unmap.new.self c.remove_space.new.self
    (stays_unmap id _ c.args.engine.now c.unmap.new.self _ c.unmap.ensures)
    (stays_remove_space id _ c.unmap.new.self c.remove_space.new.self _ c.remove_space.ensures)

pub returns-in-Err-remove_space-clause-stops : goal.returns-in-Err-remove_space-clause-stops
returns-in-Err-remove_space-clause-stops g c = λ id.
    stays_then id c.args.engine.now c.unmap.new.self c.remove_space.new.self
    (stays_unmap id _ c.args.engine.now c.unmap.new.self _ c.unmap.ensures)
    (stays_remove_space id _ c.unmap.new.self c.remove_space.new.self _ c.remove_space.ensures)
