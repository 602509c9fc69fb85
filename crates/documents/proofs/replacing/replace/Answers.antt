use Rattle.documents.proofs.CourseLemmas.{stays_stopped}
use Rattle.documents.proofs.StoppedLemmas.{stopped_code, stopped_fault, stopped_undone}
use Rattle.documents.specs.declared.fault.Fault.TheVariants as fault
use Rattle.std.proofs.Common.{◌≡◌, ◌⊎◌, arith, inl, inr}
use Rattle.labelled_disk.specs.declared.evidence.Halt.TheVariants as halt
use Rattle.documents.proofs.RemoveLemmas.{replaced_err, replaced_ok}
use Rattle.std.specs.Int.{div_ceil}
use Rattle.documents.proofs.CauseLemmas.{blamed_since, blamed_fault, blamed_undone, fault_since}
use Rattle.embedded.proofs.SpendLemmas.{later_then, spends_called, spends_then, spends_within}
use Rattle.documents.specs.Spent.{windows}
use Rattle.std.proofs.Common.{◌+◌, ◌*◌, length, ◌∙◌, ap, Err}
use Rattle.session_words.specs.StandsFor.{RevealsSettled}
use Rattle.documents.specs.Stops.{OldOrNew}
use Rattle.documents.proofs.GoneLemmas.{back_leaves, instead_leaves, put_leaves}
use Rattle.documents.proofs.UnseenLemmas.{leaves_less}
use Rattle.documents.specs.declared.fault.Fault.{Fault}
use Rattle.documents.proofs.RefusedLemmas.{kept_other}
use Rattle.documents.proofs.replacing.replace.Goals as goal

pub returns-in-Err-clause-stopped : goal.returns-in-Err-clause-stopped
returns-in-Err-clause-stopped g c = λ why is.
    stopped_fault why _ c.in-Err.fault c.is_document.new.engine c.is_document.ensures.stopped c.in-Err.is (cc is)

pub returns-in-Err-delete-clause-stopped : goal.returns-in-Err-delete-clause-stopped
returns-in-Err-delete-clause-stopped g c = λ why is.
    stopped_undone why (fault.Call c.in-Err-delete.code) c.fault_after.result c.delete-in-Err-delete.result
    c.delete.new.self c.delete-in-Err-delete.new.self
    (λ same. stopped_code why _ c.in-Err-delete.code c.delete.new.self c.delete.ensures.stopped c.in-Err-delete.is (cc same))
    (λ stopped. stays_stopped why _ c.delete.new.self c.delete-in-Err-delete.new.self _ stopped c.delete-in-Err-delete.ensures)
    c.delete-in-Err-delete.ensures.stopped c.fault_after.ensures.which (cc is)

pub returns-in-Ok-delete-clause-document : goal.returns-in-Ok-delete-clause-document
returns-in-Ok-delete-clause-document g c = λ m stands.
    let one = c.in-Ok.ensures.still m stands in
    let still = one.1 in
    replaced_ok m c.args.old c.in-Ok-put.id c.args.name.now _ still.0 c.put.new.engine c.delete.new.self _ _ c.delete.ensures c.in-Ok-delete.is
    one.0 still.1 (c.in-Ok-put.ensures.document (record m { unforced = still.0 }) still.2).document

pub returns-in-Err-clause-kept : goal.returns-in-Err-clause-kept
returns-in-Err-clause-kept g c = λ m stands. elim (c.in-Err.ensures.still m stands) [
  | inl bad ↦ inl bad
  | inr st ↦ inr (st.0, st.1, (m.counter, omega arith, st.2))
]

pub returns-in-Err-put-clause-kept : goal.returns-in-Err-put-clause-kept
returns-in-Err-put-clause-kept g c = λ m stands.
    let still = (c.in-Ok.ensures.still m stands).1 in
    elim (c.in-Err-put.ensures.document (record m { unforced = still.0 }) still.2).kept [
      | inl bad ↦ inl bad
      | inr st ↦ inr (still.0, still.1, st)
    ]

pub returns-in-Err-delete-clause-kept : goal.returns-in-Err-delete-clause-kept
returns-in-Err-delete-clause-kept g c = λ m stands.
    let still = (c.in-Ok.ensures.still m stands).1 in
    replaced_err m c.args.old c.in-Ok-put.id c.args.name.now _ still.0 c.is_document.new.engine c.put.new.engine c.delete.new.self c.delete-in-Err-delete.new.self
    _ c.delete-in-Err-delete.result c.in-Err-delete.code c.fault_after.result still.1 still.2 c.delete.ensures c.in-Err-delete.is c.delete-in-Err-delete.ensures
    (λ bad. stopped_code halt.Disk _ c.in-Err-delete.code c.delete.new.self c.delete.ensures.stopped c.in-Err-delete.is bad)
    c.fault_after.ensures.which (c.fault_after.ensures.halted halt.Disk)
    (c.in-Ok-put.ensures.document (record m { unforced = still.0 }) still.2).document

-- six calls at most, those of a put, and two
pub returns-in-Err-clause-spends : goal.returns-in-Err-clause-spends
returns-in-Err-clause-spends g c = λ xs told.
    spends_within 5 1 _ _ c.args.engine.now c.is_document.new.engine (omega arith) (omega arith) c.is_document.ensures.spends

pub returns-in-Err-put-clause-spends : goal.returns-in-Err-put-clause-spends
returns-in-Err-put-clause-spends g c = λ xs told.
    spends_then 5 1 (7 + 5 * windows (length c.args.buffer.now) (length xs)) (1 + div_ceil (length xs) 512) _ _ c.args.engine.now c.is_document.new.engine c.put.new.engine
    (omega arith) (omega arith) c.is_document.ensures.spends (c.put.ensures.spends xs told)

pub returns-in-Ok-delete-clause-spends : goal.returns-in-Ok-delete-clause-spends
returns-in-Ok-delete-clause-spends g c = λ xs told.
    let count = windows (length c.args.buffer.now) (length xs) in
    let pages = div_ceil (length xs) 512 in
    spends_then (12 + 5 * count) (2 + pages) 1 0 _ _ c.args.engine.now c.put.new.engine c.delete.new.self (omega arith) (omega arith)
    (spends_then 5 1 (7 + 5 * count) (1 + pages) (12 + 5 * count) (2 + pages) c.args.engine.now c.is_document.new.engine c.put.new.engine
    (omega arith) (omega arith) c.is_document.ensures.spends (c.put.ensures.spends xs told))
    (spends_called _ c.put.new.engine c.delete.new.self _ c.delete.ensures)

pub returns-in-Err-delete-clause-spends : goal.returns-in-Err-delete-clause-spends
returns-in-Err-delete-clause-spends g c = λ xs told.
    let count = windows (length c.args.buffer.now) (length xs) in
    let pages = div_ceil (length xs) 512 in
    spends_then (13 + 5 * count) (2 + pages) 1 0 _ _ c.args.engine.now c.delete.new.self c.delete-in-Err-delete.new.self (omega arith) (omega arith)
    (spends_then (12 + 5 * count) (2 + pages) 1 0 (13 + 5 * count) (2 + pages) c.args.engine.now c.put.new.engine c.delete.new.self (omega arith) (omega arith)
    (spends_then 5 1 (7 + 5 * count) (1 + pages) (12 + 5 * count) (2 + pages) c.args.engine.now c.is_document.new.engine c.put.new.engine
    (omega arith) (omega arith) c.is_document.ensures.spends (c.put.ensures.spends xs told))
    (spends_called _ c.put.new.engine c.delete.new.self _ c.delete.ensures))
    (spends_called _ c.delete.new.self c.delete-in-Err-delete.new.self _ c.delete-in-Err-delete.ensures)

-- the disk is blamed where one of them blames it
pub returns-in-Err-clause-cause : goal.returns-in-Err-clause-cause
returns-in-Err-clause-cause g c = λ is.
    blamed_fault _ c.in-Err.fault c.args.engine.now c.is_document.new.engine c.is_document.ensures.cause c.in-Err.is (cc is)

pub returns-in-Err-put-clause-cause : goal.returns-in-Err-put-clause-cause
returns-in-Err-put-clause-cause g c = λ is.
    fault_since _ c.in-Err-put.fault c.args.engine.now c.is_document.new.engine c.put.new.engine c.is_document.ensures.spends.later c.put.ensures.fails.cause c.in-Err-put.is (cc is)

pub returns-in-Err-delete-clause-cause : goal.returns-in-Err-delete-clause-cause
returns-in-Err-delete-clause-cause g c = λ is.
    let before = later_then _ _ _ c.is_document.ensures.spends.later c.put.ensures.later in
    blamed_undone (fault.Call c.in-Err-delete.code) c.fault_after.result c.delete-in-Err-delete.result c.args.engine.now c.delete.new.self c.delete-in-Err-delete.new.self
    (λ same. blamed_since _ c.in-Err-delete.code c.args.engine.now c.put.new.engine c.delete.new.self before c.delete.ensures.cause c.in-Err-delete.is (cc same))
    (later_then _ _ _ before c.delete.ensures.later) c.delete-in-Err-delete.ensures.later c.delete-in-Err-delete.ensures.cause c.fault_after.ensures.which (cc is)

pub returns-in-Err-clause-stops : goal.returns-in-Err-clause-stops
returns-in-Err-clause-stops g c = λ m stands.
    leaves_less (λ d. RevealsSettled d m) (OldOrNew m c.args.old c.args.name.now (g.S.Source.left c.args.source.now)) (λ d r. inl (inl r))
    c.args.engine.now c.is_document.new.engine (c.is_document.ensures.stops m stands)

pub returns-in-Err-put-clause-stops : goal.returns-in-Err-put-clause-stops
returns-in-Err-put-clause-stops g c = λ m stands.
    let still = (c.in-Ok.ensures.still m stands).1 in
    put_leaves m c.args.old c.args.name.now _ still.0 c.args.engine.now c.is_document.new.engine c.put.new.engine stands still.1
    (c.is_document.ensures.stops m stands) (c.put.ensures.document (record m { unforced = still.0 }) still.2).stops

pub returns-in-Ok-delete-clause-stops : goal.returns-in-Ok-delete-clause-stops
returns-in-Ok-delete-clause-stops g c = λ m stands.
    let one = c.in-Ok.ensures.still m stands in
    let still = one.1 in
    let n = record m { unforced = still.0 } in
    let put = put_leaves m c.args.old c.args.name.now _ still.0 c.args.engine.now c.is_document.new.engine c.put.new.engine stands still.1
    (c.is_document.ensures.stops m stands) (c.put.ensures.document n still.2).stops in
    instead_leaves m c.args.old c.in-Ok-put.id c.args.name.now _ still.0 c.args.engine.now c.put.new.engine c.delete.new.self _ stands still.1 one.0
    (c.in-Ok-put.ensures.document n still.2).document put c.delete.ensures

pub returns-in-Err-delete-clause-stops : goal.returns-in-Err-delete-clause-stops
returns-in-Err-delete-clause-stops g c = λ m stands.
    let one = c.in-Ok.ensures.still m stands in
    let still = one.1 in
    let n = record m { unforced = still.0 } in
    let put = put_leaves m c.args.old c.args.name.now _ still.0 c.args.engine.now c.is_document.new.engine c.put.new.engine stands still.1
    (c.is_document.ensures.stops m stands) (c.put.ensures.document n still.2).stops in
    let tried = instead_leaves m c.args.old c.in-Ok-put.id c.args.name.now _ still.0 c.args.engine.now c.put.new.engine c.delete.new.self _ stands still.1 one.0
    (c.in-Ok-put.ensures.document n still.2).document put c.delete.ensures in
    back_leaves m c.args.old c.in-Ok-put.id c.args.name.now _ still.0 c.args.engine.now c.is_document.new.engine c.put.new.engine c.delete.new.self c.delete-in-Err-delete.new.self
    _ c.delete-in-Err-delete.result c.in-Err-delete.code stands still.1 still.2 (c.in-Ok-put.ensures.document n still.2).document c.delete.ensures c.in-Err-delete.is
    tried c.delete-in-Err-delete.ensures

pub returns-in-Err-delete-clause-refused : goal.returns-in-Err-delete-clause-refused
returns-in-Err-delete-clause-refused g c = λ m stands is.
    absurd (kept_other fault.NoDocument (fault.Call c.in-Err-delete.code) c.fault_after.result c.delete-in-Err-delete.result (λ k e. cc e) (λ e. cc e)
    c.fault_after.ensures.which (cc is))

pub returns-in-Err-delete-clause-long : goal.returns-in-Err-delete-clause-long
returns-in-Err-delete-clause-long g c = λ is.
    absurd (kept_other fault.LongName (fault.Call c.in-Err-delete.code) c.fault_after.result c.delete-in-Err-delete.result (λ k e. cc e) (λ e. cc e)
    c.fault_after.ensures.which (cc is))

pub returns-in-Err-put-clause-refused : goal.returns-in-Err-put-clause-refused
returns-in-Err-put-clause-refused g c = λ m stands is. absurd (c.put.ensures.fails.other (c.in-Err-put.is ∙ is))

pub returns-in-Err-put-clause-long : goal.returns-in-Err-put-clause-long
returns-in-Err-put-clause-long g c = λ is. c.put.ensures.fails.long (c.in-Err-put.is ∙ is)

pub returns-in-Err-clause-refused : goal.returns-in-Err-clause-refused
returns-in-Err-clause-refused g c = λ m stands is.
    c.is_document.ensures.refused m stands (c.in-Err.is ∙ ap (λ (x : Fault). Err x) (cc is))

pub returns-in-Err-clause-long : goal.returns-in-Err-clause-long
returns-in-Err-clause-long g c = λ is.
    absurd (c.is_document.ensures.long (c.in-Err.is ∙ ap (λ (x : Fault). Err x) (cc is)))
