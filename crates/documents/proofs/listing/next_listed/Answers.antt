use Rattle.std.proofs.Common.{◌≡◌, ◌∙◌, inr, ap, refl, Err}
use Rattle.embedded.specs.declared.code.Code.{Code}
use Rattle.embedded.specs.declared.code.Code.TheVariants as code
use Rattle.documents.proofs.CourseLemmas.{led_called, led_then}
use Rattle.documents.proofs.NextLemmas.{listed_next, next_none, next_odd, next_there, next_unknown}
use Rattle.documents.proofs.StoppedLemmas.{stopped_code}
use Rattle.documents.specs.Course.{is_look}
use Rattle.documents.proofs.CauseLemmas.{blamed_code, blamed_since}
use Rattle.embedded.proofs.SpendLemmas.{spends_called, spends_then, spends_within}
use Rattle.std.proofs.Common.{arith}
use Rattle.documents.proofs.listing.next_listed.Goals as goal

pub returns-in-Err : goal.returns-in-Err
returns-in-Err g c = record {
  pages = tt;
  led = tt;
  closed = λ shut.
      let was = c.next.ensures.closed shut in
      let same : c.in-Err.code ≡ code.Closed = cc (c.in-Err.is, was.0) in
      (ap (λ (x : Code). Err x) same, was.1);
  listed = λ m stands. next_unknown m c.args.cursor c.args.engine.now c.next.new.self _ c.in-Err.code c.next.ensures c.in-Err.is stands;
  stopped = λ why is.
      stopped_code why _ c.in-Err.code c.next.new.self c.next.ensures.stopped c.in-Err.is (cc is);
  cause = λ is. blamed_code _ c.in-Err.code c.args.engine.now c.next.new.self c.next.ensures.cause c.in-Err.is (cc is);
  spends = spends_within 1 0 6 1 c.args.engine.now c.next.new.self (omega arith) (omega arith)
      (spends_called _ c.args.engine.now c.next.new.self _ c.next.ensures);
}

pub returns-in-Ok-describe-clause-led : goal.returns-in-Ok-describe-clause-led
returns-in-Ok-describe-clause-led g c =
    led_then is_look c.args.engine.now c.next.new.self c.describe.new.engine
    (led_called is_look _ c.args.engine.now c.next.new.self _ _ refl c.next.ensures c.in-Ok-File.is)
    c.in-Ok-describe.ensures.led

pub returns-in-Err-describe-clause-stopped : goal.returns-in-Err-describe-clause-stopped
returns-in-Err-describe-clause-stopped g c = λ why is.
    stopped_code why _ c.in-Err-describe.code c.describe.new.engine c.describe.ensures.stopped c.in-Err-describe.is (cc is)

pub returns-in-Ok-describe-clause-listed : goal.returns-in-Ok-describe-clause-listed
returns-in-Ok-describe-clause-listed g c = λ m stands.
    let one = next_there m c.args.cursor c.in-Ok-File.id c.args.engine.now c.next.new.self _ _ c.next.ensures c.in-Ok-File.is c.in-Ok-File.field-0-is stands in
    listed_next m c.args.cursor c.in-Ok-File.id c.in-Ok-describe.file.id _ _ _ c.describe.new.engine one.0 c.in-Ok-describe.ensures.id (c.in-Ok-describe.ensures.listed m one.1)

pub returns-in-Err-describe-clause-listed : goal.returns-in-Err-describe-clause-listed
returns-in-Err-describe-clause-listed g c = λ m stands.
    c.in-Err-describe.ensures.listed m (next_there m c.args.cursor c.in-Ok-File.id c.args.engine.now c.next.new.self _ _ c.next.ensures c.in-Ok-File.is c.in-Ok-File.field-0-is stands).1

pub returns-in-Ok-clause-listed : goal.returns-in-Ok-clause-listed
returns-in-Ok-clause-listed g c = λ m stands.
    inr (next_odd m c.args.cursor c.args.engine.now c.next.new.self _ _ c.next.ensures c.in-Ok.is stands)

pub returns-in-Err-NoFile-clause-listed : goal.returns-in-Err-NoFile-clause-listed
returns-in-Err-NoFile-clause-listed g c = λ m stands.
    next_none m c.args.cursor c.args.engine.now c.next.new.self _ c.next.ensures
    (c.in-Err-NoFile.is ∙ ap (λ (x : Code). Err x) c.in-Err-NoFile.field-0-is) stands

-- one call, and those for what the file is

pub returns-in-Ok-clause-spends : goal.returns-in-Ok-clause-spends
returns-in-Ok-clause-spends g c =
    spends_within 1 0 6 1 c.args.engine.now c.next.new.self (omega arith) (omega arith)
    (spends_called _ c.args.engine.now c.next.new.self _ c.next.ensures)

pub returns-in-Err-NoFile-clause-spends : goal.returns-in-Err-NoFile-clause-spends
returns-in-Err-NoFile-clause-spends g c =
    spends_within 1 0 6 1 c.args.engine.now c.next.new.self (omega arith) (omega arith)
    (spends_called _ c.args.engine.now c.next.new.self _ c.next.ensures)

pub returns-in-Ok-describe-clause-spends : goal.returns-in-Ok-describe-clause-spends
returns-in-Ok-describe-clause-spends g c =
    spends_then 1 0 5 1 6 1 c.args.engine.now c.next.new.self c.describe.new.engine (omega arith) (omega arith)
    (spends_called _ c.args.engine.now c.next.new.self _ c.next.ensures) c.describe.ensures.spends

pub returns-in-Err-describe-clause-spends : goal.returns-in-Err-describe-clause-spends
returns-in-Err-describe-clause-spends g c =
    spends_then 1 0 5 1 6 1 c.args.engine.now c.next.new.self c.describe.new.engine (omega arith) (omega arith)
    (spends_called _ c.args.engine.now c.next.new.self _ c.next.ensures) c.describe.ensures.spends

pub returns-in-Err-describe-clause-cause : goal.returns-in-Err-describe-clause-cause
returns-in-Err-describe-clause-cause g c = λ is.
    blamed_since _ c.in-Err-describe.code c.args.engine.now c.next.new.self c.describe.new.engine c.next.ensures.later c.describe.ensures.cause
    c.in-Err-describe.is (cc is)
