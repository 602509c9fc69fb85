use Rattle.std.proofs.Common.{rules, ◌≡◌, ◌≢◌, ◌∙◌, ◌/◌, false, length, refl}
use Rattle.fault_core.specs.declared.reference.Access.TheVariants as access
use Rattle.fault_core.specs.Access.{access_of, last_page}
use Rattle.fault_core.specs.Attempt.{HasClient, IfAbsent, IfAccess, IsAbsent, IsHere, IsReferred, moved}
use Rattle.fault_core.specs.Core.{kept, state}
use Rattle.fault_core.specs.Unit.{IsSlotOf}
use Rattle.fault_core.proofs.AttemptLemmas.{all_present, at_ready, at_settled}
use Rattle.fault_core.proofs.OutcomeLemmas.{failed_on}
use Rattle.fault_core.proofs.core_over.Core.look_and_load.Goals as goal

-- ---- No byte is moved.

pub returns-in-Ok-Settled-clause-comes : goal.returns-in-Ok-Settled-clause-comes
returns-in-Ok-Settled-clause-comes g c = record {
  access = λ m named ss knows.
      at_settled (IfAccess (λ a. a ≡ access_of ss false c.args.address (length c.args.into.now))) c.in-Ok-Settled.field-0 c.in-Ok-Settled.attempt c.in-Ok-Settled.field-0-is (c.in-Ok-Settled.ensures.comes.access m named ss knows);
  absent = λ m named ss knows.
      at_settled (IfAbsent (IsAbsent ss (state c.look_ahead.new.self).slots false c.args.address (length c.args.into.now))) c.in-Ok-Settled.field-0 c.in-Ok-Settled.attempt c.in-Ok-Settled.field-0-is (c.in-Ok-Settled.ensures.comes.absent m named ss knows);
  present = λ m named ss knows done.
      absurd (at_settled (λ t. t ≢ moved) c.in-Ok-Settled.field-0 c.in-Ok-Settled.attempt c.in-Ok-Settled.field-0-is c.in-Ok-Settled.ensures.comes.unmoved done);
  referred =
      at_settled (IfAbsent (IsReferred c.args.address (length c.args.into.now))) c.in-Ok-Settled.field-0 c.in-Ok-Settled.attempt c.in-Ok-Settled.field-0-is c.in-Ok-Settled.ensures.comes.referred;
  here = λ done.
      absurd (at_settled (λ t. t ≢ moved) c.in-Ok-Settled.field-0 c.in-Ok-Settled.attempt c.in-Ok-Settled.field-0-is c.in-Ok-Settled.ensures.comes.unmoved done);
  ready = λ first last apart.
      at_settled (IfAbsent (λ page. ⊥)) c.in-Ok-Settled.field-0 c.in-Ok-Settled.attempt c.in-Ok-Settled.field-0-is (c.in-Ok-Settled.ensures.comes.present first last apart);
}

pub returns-in-Ok-Settled-clause-moves : goal.returns-in-Ok-Settled-clause-moves
returns-in-Ok-Settled-clause-moves g c = record {
  bytes = λ m named ss knows done.
      absurd (at_settled (λ t. t ≢ moved) c.in-Ok-Settled.field-0 c.in-Ok-Settled.attempt c.in-Ok-Settled.field-0-is c.in-Ok-Settled.ensures.comes.unmoved done);
  width = search rules;
  unmoved = search rules;
}

-- ---- All bytes are.

pub copy_pages-requires-clause-first : goal.copy_pages-requires-clause-first
copy_pages-requires-clause-first g c =
    (at_ready (λ i j. HasClient (state c.look_ahead.new.self).slots i × HasClient (state c.look_ahead.new.self).slots j) c.in-Ok-Ready.field-0 c.in-Ok-Ready.first c.in-Ok-Ready.last c.in-Ok-Ready.field-0-is c.in-Ok-Ready.ensures.comes.clients).0

pub copy_pages-requires-clause-last : goal.copy_pages-requires-clause-last
copy_pages-requires-clause-last g c =
    (at_ready (λ i j. HasClient (state c.look_ahead.new.self).slots i × HasClient (state c.look_ahead.new.self).slots j) c.in-Ok-Ready.field-0 c.in-Ok-Ready.first c.in-Ok-Ready.last c.in-Ok-Ready.field-0-is c.in-Ok-Ready.ensures.comes.clients).1

pub returns-clause-comes : goal.returns-clause-comes
returns-clause-comes g c = record {
  access = λ m named ss knows.
      at_ready (λ i j. access.Done ≡ access_of ss false c.args.address (length c.args.into.now)) c.in-Ok-Ready.field-0 c.in-Ok-Ready.first c.in-Ok-Ready.last c.in-Ok-Ready.field-0-is (c.in-Ok-Ready.ensures.comes.granted m named ss knows);
  absent = search rules;
  present = λ m named ss knows done.
      let pool = (state c.look_ahead.new.self).slots in
      let a = c.args.address in
      let n = length c.args.into.now in
      let slots = at_ready (λ i j. IsSlotOf ss pool (a / 512) i × IsSlotOf ss pool (last_page a n) j) c.in-Ok-Ready.field-0 c.in-Ok-Ready.first c.in-Ok-Ready.last c.in-Ok-Ready.field-0-is (c.in-Ok-Ready.ensures.comes.slots m named ss knows) in
      rw c.copy_pages.ensures.same (all_present ss pool a n c.in-Ok-Ready.first c.in-Ok-Ready.last slots.0 slots.1);
  referred = search rules;
  here = λ done.
      let self = c.look_ahead.new.self in
      let here = at_ready (λ i j. IsHere (kept self) (state self).slots (last_page c.args.address (length c.args.into.now))) c.in-Ok-Ready.field-0 c.in-Ok-Ready.first c.in-Ok-Ready.last c.in-Ok-Ready.field-0-is c.in-Ok-Ready.ensures.comes.here in
      rw c.copy_pages.ensures.same here;
  ready = search rules;
}

pub returns-clause-moves : goal.returns-clause-moves
returns-clause-moves g c = record {
  bytes = λ m named ss knows done.
      let pool = (state c.look_ahead.new.self).slots in
      let a = c.args.address in
      let n = length c.args.into.now in
      let after = c.in-Ok-Ready.ensures.stays.same m named ss knows in
      let slots = at_ready (λ i j. IsSlotOf ss pool (a / 512) i × IsSlotOf ss pool (last_page a n) j) c.in-Ok-Ready.field-0 c.in-Ok-Ready.first c.in-Ok-Ready.last c.in-Ok-Ready.field-0-is (c.in-Ok-Ready.ensures.comes.slots m named ss knows) in
      c.copy_pages.ensures.bytes m named after.bytes ss after.known after.stored slots.0 slots.1;
  width = search rules;
  unmoved = λ other. absurd (other refl);
}

pub returns-clause-stays : goal.returns-clause-stays
returns-clause-stays g c = rw c.copy_pages.ensures.same c.look_ahead.ensures.stays

pub returns-clause-idle : goal.returns-clause-idle
returns-clause-idle g c = λ first last apart.
    let one = c.in-Ok-Ready.ensures.idle first last apart in
    (refl, c.copy_pages.ensures.same ∙ one.1, one.2)

-- ---- The tables are revealed.

pub returns-in-Err-clause-fails : goal.returns-in-Err-clause-fails
returns-in-Err-clause-fails g c = failed_on c.in-Err.halt c.in-Err.ensures.fails

-- ---- Which pages stay.

pub returns-clause-brings : goal.returns-clause-brings
returns-clause-brings g c = rw c.copy_pages.ensures.same c.look_ahead.ensures.brings
