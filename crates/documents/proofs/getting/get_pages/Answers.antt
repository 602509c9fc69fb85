use Rattle.documents.proofs.CourseLemmas.{led_then}
use Rattle.documents.specs.Course.{is_look}
use Rattle.documents.proofs.StoppedLemmas.{stopped_code, stopped_fault}
use Rattle.std.proofs.Common.{◌≡◌, ◌∙◌, ◌⊎◌, inl, inr, ◌*◌, ap, arith}
use Rattle.embedded.specs.declared.code.Code.{Code}
use Rattle.documents.proofs.ListLemmas.{still_then}
use Rattle.documents.specs.declared.fault.Fault.TheVariants as fault
use Rattle.std.specs.Int.{div_ceil}
use Rattle.flat_machine.specs.File.{size}
use Rattle.documents.proofs.GotLemmas.{pages_fit}
use Rattle.documents.proofs.CauseLemmas.{blamed_code, fault_since}
use Rattle.embedded.proofs.SpendLemmas.{spends_then, spends_within}
use Rattle.documents.specs.Spent.{windows}
use Rattle.std.proofs.Common.{length}
use Rattle.documents.proofs.getting.get_pages.Goals as goal

pub returns-in-Ok-copy-clause-led : goal.returns-in-Ok-copy-clause-led
returns-in-Ok-copy-clause-led g c =
    led_then is_look c.args.engine.now c.describe.new.engine c.copy.new.engine
    c.in-Ok.ensures.led c.in-Ok-copy.ensures.led

pub returns-in-Err-clause-stopped : goal.returns-in-Err-clause-stopped
returns-in-Err-clause-stopped g c = λ why is.
    stopped_code why _ c.in-Err.code c.describe.new.engine c.describe.ensures.stopped c.in-Err.is (cc is)

pub returns-in-Err-copy-clause-stopped : goal.returns-in-Err-copy-clause-stopped
returns-in-Err-copy-clause-stopped g c = λ why is.
    stopped_fault why _ c.in-Err-copy.fault c.copy.new.engine c.copy.ensures.stopped c.in-Err-copy.is (cc is)

pub returns-in-Ok-copy-clause-got : goal.returns-in-Ok-copy-clause-got
returns-in-Ok-copy-clause-got g c = λ m stands.
    let listed = c.in-Ok.ensures.listed m stands in
    let sent = c.in-Ok-copy.ensures.sent (record m { unforced = listed.still.0 }) listed.file listed.still.2 listed.there in
    let many : c.from.result * 512 ≡ 512 * c.in-Ok.file.pages = omega (arith, c.from.ensures) in
    record {
      file = listed.file;
      there = listed.there;
      long = listed.same_size;
      sent = record { bytes = sent.bytes; long = sent.long ∙ many; reads = sent.reads; sent = sent.sent; still = (sent.still.0, (λ test none. sent.still.1 test (listed.still.1 test none)), sent.still.2) };
    }

pub returns-in-Err-clause-got : goal.returns-in-Err-clause-got
returns-in-Err-clause-got g c = λ m stands. elim (c.in-Err.ensures.listed m stands) [
  | inl bad ↦ inl (ap (λ (x : Code). fault.Call x) bad)
  | inr st ↦ inr st
]

pub returns-in-Err-copy-clause-got : goal.returns-in-Err-copy-clause-got
returns-in-Err-copy-clause-got g c = λ m stands.
    let listed = c.in-Ok.ensures.listed m stands in
    still_then m listed.still.0 _ c.copy.new.engine listed.still.1
    (c.in-Err-copy.ensures.sent (record m { unforced = listed.still.0 }) listed.file listed.still.2 listed.there)

pub returns-in-Ok-copy-clause-absent : goal.returns-in-Ok-copy-clause-absent
returns-in-Ok-copy-clause-absent g c = λ m stands none.
    absurd (cc (none, (c.in-Ok.ensures.listed m stands).there))

pub returns-in-Err-copy-clause-absent : goal.returns-in-Err-copy-clause-absent
returns-in-Err-copy-clause-absent g c = λ m stands none.
    absurd (cc (none, (c.in-Ok.ensures.listed m stands).there))

-- five calls for the head, and the windows

pub returns-in-Ok-copy-clause-spends : goal.returns-in-Ok-copy-clause-spends
returns-in-Ok-copy-clause-spends g c = λ m f stands there.
    spends_then 5 1 (4 * windows (length c.args.buffer.now) (512 * size f)) (div_ceil (512 * size f) 512) _ _ c.args.engine.now c.describe.new.engine c.copy.new.engine
    (omega arith) (omega arith) c.describe.ensures.spends
    (c.copy.ensures.spends (512 * size f) (pages_fit m c.args.id _ _ c.from.result _ c.describe.new.engine f (c.in-Ok.ensures.listed m stands) there c.from.ensures))

pub returns-in-Err-copy-clause-spends : goal.returns-in-Err-copy-clause-spends
returns-in-Err-copy-clause-spends g c = λ m f stands there.
    spends_then 5 1 (4 * windows (length c.args.buffer.now) (512 * size f)) (div_ceil (512 * size f) 512) _ _ c.args.engine.now c.describe.new.engine c.copy.new.engine
    (omega arith) (omega arith) c.describe.ensures.spends
    (c.copy.ensures.spends (512 * size f) (pages_fit m c.args.id _ _ c.from.result _ c.describe.new.engine f (c.in-Ok.ensures.listed m stands) there c.from.ensures))

pub returns-in-Err-clause-spends : goal.returns-in-Err-clause-spends
returns-in-Err-clause-spends g c = λ m f stands there.
    spends_within 5 1 _ _ c.args.engine.now c.describe.new.engine (omega arith) (omega arith) c.describe.ensures.spends

-- the disk is blamed where the one or the other blames it
pub returns-in-Err-clause-cause : goal.returns-in-Err-clause-cause
returns-in-Err-clause-cause g c = λ is.
    blamed_code _ c.in-Err.code c.args.engine.now c.describe.new.engine c.describe.ensures.cause c.in-Err.is (cc is)

pub returns-in-Err-copy-clause-cause : goal.returns-in-Err-copy-clause-cause
returns-in-Err-copy-clause-cause g c = λ is.
    fault_since _ c.in-Err-copy.fault c.args.engine.now c.describe.new.engine c.copy.new.engine c.describe.ensures.spends.later c.copy.ensures.cause
    c.in-Err-copy.is (cc is)
