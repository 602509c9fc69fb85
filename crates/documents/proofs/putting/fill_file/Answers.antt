use Rattle.documents.proofs.CourseLemmas.{marked_after}
use Rattle.documents.proofs.StoppedLemmas.{stopped_code, stopped_fault}
use Rattle.std.proofs.Common.{◌∙◌, inl, inr, ap, sym, rules}
use Rattle.flat_machine.specs.File.{File}
use Rattle.embedded.specs.declared.code.Code.{Code}
use Rattle.documents.specs.declared.fault.Fault.TheVariants as fault
use Rattle.documents.proofs.PutLemmas.{put_is}
use Rattle.std.specs.Int.{div_ceil}
use Rattle.documents.proofs.CauseLemmas.{blamed_fault, blamed_since}
use Rattle.embedded.proofs.SpendLemmas.{later_then, spends_then, spends_within}
use Rattle.documents.specs.Spent.{windows}
use Rattle.std.proofs.Common.{◌*◌, arith, length, refl}
use Rattle.documents.specs.Pieces.{adding}
use Rattle.documents.specs.Stands.{blank}
use Rattle.documents.specs.Stops.{WholeOrAbsent}
use Rattle.documents.proofs.UnseenLemmas.{leaves_less}
use Rattle.documents.proofs.WholeLemmas.{adding_looks, marks_err, marks_ok, whole_such}
use Rattle.std.proofs.Common.{Err}
use Rattle.documents.specs.declared.fault.Fault.{Fault}
use Rattle.documents.proofs.putting.fill_file.Goals as goal

pub returns-in-Ok-seal-clause-marked : goal.returns-in-Ok-seal-clause-marked
returns-in-Ok-seal-clause-marked g c =
    marked_after c.args.id c.args.engine.now c.append_all.new.engine c.seal.new.engine
    c.in-Ok.ensures.led c.in-Ok-seal.ensures.marked

pub returns-in-Err-clause-stopped : goal.returns-in-Err-clause-stopped
returns-in-Err-clause-stopped g c = λ why is.
    stopped_fault why _ c.in-Err.fault c.append_all.new.engine c.append_all.ensures.stopped c.in-Err.is (cc is)

pub returns-in-Err-seal-clause-stopped : goal.returns-in-Err-seal-clause-stopped
returns-in-Err-seal-clause-stopped g c = λ why is.
    stopped_code why _ c.in-Err-seal.code c.seal.new.engine c.seal.ensures.stopped c.in-Err-seal.is (cc is)

pub returns-in-Ok-seal-clause-document : goal.returns-in-Ok-seal-clause-document
returns-in-Ok-seal-clause-document g c = λ m is_fresh new stands.
    let filled = c.in-Ok.ensures.filled m is_fresh new stands in
    let named = ap (λ (x : File). x.id) filled.filled.same ∙ sym new in
    put_is m c.args.id c.in-Ok.bytes c.args.name.bytes _ _ c.append_all.new.engine c.seal.new.engine new (search rules) filled
    c.in-Ok.ensures.ended c.seal.ensures.wide (c.in-Ok-seal.ensures.sealed m filled.file is_fresh named filled.stands)

pub returns-in-Err-clause-document : goal.returns-in-Err-clause-document
returns-in-Err-clause-document g c = λ m is_fresh new stands. c.in-Err.ensures.filled m is_fresh new stands

pub returns-in-Err-seal-clause-document : goal.returns-in-Err-seal-clause-document
returns-in-Err-seal-clause-document g c = λ m is_fresh new stands.
    let filled = c.in-Ok.ensures.filled m is_fresh new stands in
    let named = ap (λ (x : File). x.id) filled.filled.same ∙ sym new in
    elim (c.in-Err-seal.ensures.sealed m filled.file is_fresh named filled.stands) [
      | inl bad ↦ inl (ap (λ (x : Code). fault.Call x) bad)
      | inr other ↦ inr other
    ]

-- the windows, and five calls
pub returns-in-Ok-seal-clause-spends : goal.returns-in-Ok-seal-clause-spends
returns-in-Ok-seal-clause-spends g c = λ xs told.
    spends_then (5 * windows (length c.args.buffer.now) (length xs)) (div_ceil (length xs) 512) 5 1 _ _ c.args.engine.now c.append_all.new.engine c.seal.new.engine
    (omega arith) (omega arith) (c.append_all.ensures.spends xs told) c.seal.ensures.spends

pub returns-in-Ok-seal-clause-later : goal.returns-in-Ok-seal-clause-later
returns-in-Ok-seal-clause-later g c = later_then _ _ _ c.append_all.ensures.later c.seal.ensures.spends.later

pub returns-in-Err-seal-clause-spends : goal.returns-in-Err-seal-clause-spends
returns-in-Err-seal-clause-spends g c = λ xs told.
    spends_then (5 * windows (length c.args.buffer.now) (length xs)) (div_ceil (length xs) 512) 5 1 _ _ c.args.engine.now c.append_all.new.engine c.seal.new.engine
    (omega arith) (omega arith) (c.append_all.ensures.spends xs told) c.seal.ensures.spends

pub returns-in-Err-seal-clause-later : goal.returns-in-Err-seal-clause-later
returns-in-Err-seal-clause-later g c = later_then _ _ _ c.append_all.ensures.later c.seal.ensures.spends.later

pub returns-in-Err-clause-spends : goal.returns-in-Err-clause-spends
returns-in-Err-clause-spends g c = λ xs told.
    spends_within (5 * windows (length c.args.buffer.now) (length xs)) (div_ceil (length xs) 512) _ _ c.args.engine.now c.append_all.new.engine
    (omega arith) (omega arith) (c.append_all.ensures.spends xs told)

-- the disk is blamed where one of them blames it
pub returns-in-Err-clause-cause : goal.returns-in-Err-clause-cause
returns-in-Err-clause-cause g c = λ is.
    blamed_fault _ c.in-Err.fault c.args.engine.now c.append_all.new.engine c.append_all.ensures.cause c.in-Err.is (cc is)

pub returns-in-Err-seal-clause-cause : goal.returns-in-Err-seal-clause-cause
returns-in-Err-seal-clause-cause g c = λ is.
    blamed_since _ c.in-Err-seal.code c.args.engine.now c.append_all.new.engine c.seal.new.engine c.append_all.ensures.later c.seal.ensures.cause
    c.in-Err-seal.is (cc is)

pub returns-in-Ok-seal-clause-stops : goal.returns-in-Ok-seal-clause-stops
returns-in-Ok-seal-clause-stops g c = λ m h is_fresh new stands.
    let filled = c.in-Ok.ensures.filled m is_fresh new stands in
    let named = ap (λ (x : File). x.id) filled.filled.same ∙ sym new in
    let temporary = ap (λ (x : File). x.permanent) filled.filled.same in
    let left = g.S.Source.left c.args.source.now in
    let unseen = c.append_all.ensures.stops m (inr (adding (blank m) m, adding_looks m (blank m) c.args.id h is_fresh (sym new) refl, stands)) in
    let marks = c.in-Ok-seal.ensures.stops m filled.file h is_fresh named temporary filled.stands in
    marks_ok (WholeOrAbsent m c.args.name.bytes left) m c.args.id c.args.engine.now c.append_all.new.engine c.seal.new.engine (λ d r. inl r) unseen
    (leaves_less _ (WholeOrAbsent m c.args.name.bytes left)
    (whole_such m c.args.id c.in-Ok.bytes c.args.name.bytes left _ c.append_all.new.engine new (search rules) filled c.in-Ok.ensures.ended c.seal.ensures.wide)
    c.append_all.new.engine c.seal.new.engine marks)

pub returns-in-Err-seal-clause-stops : goal.returns-in-Err-seal-clause-stops
returns-in-Err-seal-clause-stops g c = λ m h is_fresh new stands.
    let filled = c.in-Ok.ensures.filled m is_fresh new stands in
    let named = ap (λ (x : File). x.id) filled.filled.same ∙ sym new in
    let temporary = ap (λ (x : File). x.permanent) filled.filled.same in
    let left = g.S.Source.left c.args.source.now in
    let unseen = c.append_all.ensures.stops m (inr (adding (blank m) m, adding_looks m (blank m) c.args.id h is_fresh (sym new) refl, stands)) in
    marks_err (WholeOrAbsent m c.args.name.bytes left) m c.args.id c.args.engine.now c.append_all.new.engine c.seal.new.engine (λ d r. inl r) unseen
    (elim (c.in-Err-seal.ensures.stops m filled.file h is_fresh named temporary filled.stands) [
      | inl still ↦ inl still
      | inr ended ↦ inr (
        ended.0,
        leaves_less _ (WholeOrAbsent m c.args.name.bytes left)
            (whole_such m c.args.id c.in-Ok.bytes c.args.name.bytes left _ c.append_all.new.engine new (search rules) filled c.in-Ok.ensures.ended c.seal.ensures.wide)
            c.append_all.new.engine c.seal.new.engine ended.1,
      )
    ])

pub returns-in-Err-clause-stops : goal.returns-in-Err-clause-stops
returns-in-Err-clause-stops g c = λ m h is_fresh new stands.
    inl (c.append_all.ensures.stops m (inr (adding (blank m) m, adding_looks m (blank m) c.args.id h is_fresh (sym new) refl, stands)))

-- it is full where the bytes have no room
pub returns-in-Err-clause-full : goal.returns-in-Err-clause-full
returns-in-Err-clause-full g c = λ m h is_fresh new stands is.
    c.append_all.ensures.full m h is_fresh new stands (c.in-Err.is ∙ ap (λ (x : Fault). Err x) (cc is))

pub returns-in-Err-seal-clause-full : goal.returns-in-Err-seal-clause-full
returns-in-Err-seal-clause-full g c = λ m h is_fresh new stands is.
    let filled = c.in-Ok.ensures.filled m is_fresh new stands in
    absurd (c.seal.ensures.room (adding filled.file m) filled.stands (c.in-Err-seal.is ∙ ap (λ (x : Code). Err x) (cc is)))
