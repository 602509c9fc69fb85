use Rattle.std.proofs.Common.{refl}
use Rattle.documents.proofs.CourseLemmas.{led_called, led_then}
use Rattle.documents.proofs.StoppedLemmas.{stopped_code}
use Rattle.documents.specs.Course.{is_look}
use Rattle.std.proofs.Common.{◌≡◌, inl, inr, rules}
use Rattle.documents.proofs.ListLemmas.{asked, listed_head, listed_plain, still_after}
use Rattle.documents.proofs.CauseLemmas.{blamed_code, blamed_since}
use Rattle.embedded.proofs.SpendLemmas.{spends_called, spends_then, spends_within}
use Rattle.std.proofs.Common.{arith}
use Rattle.labelled_disk.specs.Sectors.{Sector}
use Rattle.session_words.specs.StandsFor.{RevealsSettled}
use Rattle.documents.proofs.UnseenLemmas.{leaves_asked, leaves_then}
use Rattle.documents.proofs.RefusedLemmas.{no_document}
use Rattle.documents.proofs.listing.describe.Goals as goal

pub returns-in-Err-clause-stopped : goal.returns-in-Err-clause-stopped
returns-in-Err-clause-stopped g c = λ why is.
    stopped_code why _ c.in-Err.code c.attributes.new.self c.attributes.ensures.stopped c.in-Err.is (cc is)

pub returns-then-kind-ne-KIND-clause-led : goal.returns-then-kind-ne-KIND-clause-led
returns-then-kind-ne-KIND-clause-led g c =
    led_called is_look _ c.args.engine.now c.attributes.new.self _ _ refl c.attributes.ensures c.in-Ok-Attributes.is

pub returns-in-Ok-head_in-clause-led : goal.returns-in-Ok-head_in-clause-led
returns-in-Ok-head_in-clause-led g c =
    led_then is_look c.args.engine.now c.attributes.new.self c.head_in.new.engine
    (led_called is_look _ c.args.engine.now c.attributes.new.self _ _ refl c.attributes.ensures c.in-Ok-Attributes.is)
    c.in-Ok-head_in.ensures.led

pub returns-in-Err-head_in-clause-stopped : goal.returns-in-Err-head_in-clause-stopped
returns-in-Err-head_in-clause-stopped g c = λ why is.
    stopped_code why _ c.in-Err-head_in.code c.head_in.new.engine c.head_in.ensures.stopped c.in-Err-head_in.is (cc is)

pub returns-in-Err-clause-listed : goal.returns-in-Err-clause-listed
returns-in-Err-clause-listed g c = λ m stands. still_after m c.args.id c.args.engine.now c.attributes.new.self _ c.in-Err.code c.attributes.ensures c.in-Err.is stands

pub returns-then-kind-ne-KIND-clause-listed : goal.returns-then-kind-ne-KIND-clause-listed
returns-then-kind-ne-KIND-clause-listed g c = λ m stands.
    listed_plain m c.args.id c.args.engine.now c.attributes.new.self _ _ _ _ _ _ c.attributes.ensures c.in-Ok-Attributes.is c.in-Ok-Attributes.field-0-is stands

pub returns-in-Ok-head_in-clause-listed : goal.returns-in-Ok-head_in-clause-listed
returns-in-Ok-head_in-clause-listed g c = λ m stands.
    listed_head m c.args.id c.args.engine.now c.attributes.new.self c.head_in.new.engine _ _ _ _ _ _ c.in-Ok-head_in.head c.attributes.ensures c.in-Ok-Attributes.is c.in-Ok-Attributes.field-0-is stands
    (search rules) (λ st. c.in-Ok-head_in.ensures.read m st)

pub returns-in-Err-head_in-clause-listed : goal.returns-in-Err-head_in-clause-listed
returns-in-Err-head_in-clause-listed g c = λ m stands.
    c.in-Err-head_in.ensures.read m (asked m c.args.id c.args.engine.now c.attributes.new.self _ _ c.attributes.ensures c.in-Ok-Attributes.is stands)

pub returns-in-Ok : goal.returns-in-Ok
returns-in-Ok g c = record {
  id = tt;
  pages = tt;
  listed = λ m stands.
      inr (m.unforced, (λ test none. none), asked m c.args.id c.args.engine.now c.attributes.new.self _ _ c.attributes.ensures c.in-Ok.is stands);
  stops = λ m stands. leaves_asked m c.args.id c.args.engine.now c.attributes.new.self _ c.attributes.ensures stands;
  led = tt;
  headless = λ m stands. tt;
  closed = λ shut. absurd (cc (c.in-Ok.is, (c.attributes.ensures.closed shut).0));
  stopped = λ why is. absurd (cc is);
  cause = λ is. absurd (cc is);
  spends = spends_within 1 0 5 1 c.args.engine.now c.attributes.new.self (omega arith) (omega arith)
      (spends_called _ c.args.engine.now c.attributes.new.self _ c.attributes.ensures);
}

-- one call, and those for the head
pub returns-in-Err-clause-spends : goal.returns-in-Err-clause-spends
returns-in-Err-clause-spends g c =
    spends_within 1 0 5 1 c.args.engine.now c.attributes.new.self (omega arith) (omega arith)
    (spends_called _ c.args.engine.now c.attributes.new.self _ c.attributes.ensures)

pub returns-then-kind-ne-KIND-clause-spends : goal.returns-then-kind-ne-KIND-clause-spends
returns-then-kind-ne-KIND-clause-spends g c =
    spends_within 1 0 5 1 c.args.engine.now c.attributes.new.self (omega arith) (omega arith)
    (spends_called _ c.args.engine.now c.attributes.new.self _ c.attributes.ensures)

pub returns-in-Ok-head_in-clause-spends : goal.returns-in-Ok-head_in-clause-spends
returns-in-Ok-head_in-clause-spends g c =
    spends_then 1 0 4 1 5 1 c.args.engine.now c.attributes.new.self c.head_in.new.engine (omega arith) (omega arith)
    (spends_called _ c.args.engine.now c.attributes.new.self _ c.attributes.ensures) c.head_in.ensures.spends

pub returns-in-Err-head_in-clause-spends : goal.returns-in-Err-head_in-clause-spends
returns-in-Err-head_in-clause-spends g c =
    spends_then 1 0 4 1 5 1 c.args.engine.now c.attributes.new.self c.head_in.new.engine (omega arith) (omega arith)
    (spends_called _ c.args.engine.now c.attributes.new.self _ c.attributes.ensures) c.head_in.ensures.spends

-- the disk is blamed where one of them blames it
pub returns-in-Err-clause-cause : goal.returns-in-Err-clause-cause
returns-in-Err-clause-cause g c = λ is.
    blamed_code _ c.in-Err.code c.args.engine.now c.attributes.new.self c.attributes.ensures.cause c.in-Err.is (cc is)

pub returns-in-Err-head_in-clause-cause : goal.returns-in-Err-head_in-clause-cause
returns-in-Err-head_in-clause-cause g c = λ is.
    blamed_since _ c.in-Err-head_in.code c.args.engine.now c.attributes.new.self c.head_in.new.engine c.attributes.ensures.later c.head_in.ensures.cause
    c.in-Err-head_in.is (cc is)

pub returns-in-Err-clause-stops : goal.returns-in-Err-clause-stops
returns-in-Err-clause-stops g c = λ m stands.
    leaves_asked m c.args.id c.args.engine.now c.attributes.new.self _ c.attributes.ensures stands

pub returns-then-kind-ne-KIND-clause-stops : goal.returns-then-kind-ne-KIND-clause-stops
returns-then-kind-ne-KIND-clause-stops g c = λ m stands.
    leaves_asked m c.args.id c.args.engine.now c.attributes.new.self _ c.attributes.ensures stands

pub returns-in-Ok-head_in-clause-stops : goal.returns-in-Ok-head_in-clause-stops
returns-in-Ok-head_in-clause-stops g c = λ m stands.
    leaves_then (λ d. RevealsSettled d m) c.args.engine.now c.attributes.new.self c.head_in.new.engine
    (leaves_asked m c.args.id c.args.engine.now c.attributes.new.self _ c.attributes.ensures stands)
    (c.head_in.ensures.stops m (asked m c.args.id c.args.engine.now c.attributes.new.self _ _ c.attributes.ensures c.in-Ok-Attributes.is stands))

pub returns-in-Err-head_in-clause-stops : goal.returns-in-Err-head_in-clause-stops
returns-in-Err-head_in-clause-stops g c = λ m stands.
    leaves_then (λ d. RevealsSettled d m) c.args.engine.now c.attributes.new.self c.head_in.new.engine
    (leaves_asked m c.args.id c.args.engine.now c.attributes.new.self _ c.attributes.ensures stands)
    (c.head_in.ensures.stops m (asked m c.args.id c.args.engine.now c.attributes.new.self _ _ c.attributes.ensures c.in-Ok-Attributes.is stands))

pub returns-in-Ok-head_in-clause-headless : goal.returns-in-Ok-head_in-clause-headless
returns-in-Ok-head_in-clause-headless g c = λ m stands none.
    no_document m c.args.id c.args.engine.now c.attributes.new.self _ _ _ _ _ _ c.attributes.ensures c.in-Ok-Attributes.is c.in-Ok-Attributes.field-0-is stands
    (inr (inr (c.in-Ok-head_in.ensures.headless m (asked m c.args.id c.args.engine.now c.attributes.new.self _ _ c.attributes.ensures c.in-Ok-Attributes.is stands) none)))

pub returns-then-kind-ne-KIND-clause-headless : goal.returns-then-kind-ne-KIND-clause-headless
returns-then-kind-ne-KIND-clause-headless g c = λ m stands none.
    no_document m c.args.id c.args.engine.now c.attributes.new.self _ _ _ _ _ _ c.attributes.ensures c.in-Ok-Attributes.is c.in-Ok-Attributes.field-0-is stands
    (elim c.then-kind-ne-KIND.either [
      | inl other ↦ inl other
      | inr both ↦ inr (inl both.1)
    ])
