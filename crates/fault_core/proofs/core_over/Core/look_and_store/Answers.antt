use Rattle.std.proofs.Common.{rules, ◌≡◌, ◌≢◌, ◌∙◌, ◌/◌, true, length, ap, refl}
use Rattle.swapper_kernel.specs.HaltLaws.{brings_then}
use Rattle.session_words.specs.CellLaws.{IsTouchedOrOwn}
use Rattle.fault_core.specs.declared.reference.Access.TheVariants as access
use Rattle.fault_core.specs.Access.{access_of, last_page}
use Rattle.fault_core.specs.Attempt.{HasClient, IfAbsent, IfAccess, IsAbsent, IsHere, IsReferred, StoresTried, moved, either}
use Rattle.fault_core.specs.Core.{kept, state}
use Rattle.fault_core.specs.Moves.{client_page}
use Rattle.fault_core.specs.Unit.{IsSlotOf}
use Rattle.filer_kernel.specs.View.{accepted, view_of}
use Rattle.fault_core.proofs.AttemptLemmas.{all_present, at_ready, at_settled, here_stays, slot_stays, tried_stays}
use Rattle.fault_core.proofs.BeforeLemmas.{touches_of, touches_then, touches_wider}
use Rattle.fault_core.proofs.LeaveLemmas.{goes_refused, goes_revealed, revealed_leaves, revealed_stands}
use Rattle.fault_core.proofs.MovedLemmas.{either_client, either_touched, of_a_client}
use Rattle.fault_core.proofs.NeverBlamesLemmas.{sees_touched}
use Rattle.fault_core.proofs.RoomLemmas.{keeps_room, room_then}
use Rattle.fault_core.proofs.YieldLemmas.{pages_kept, pages_yield}
use Rattle.fault_core.proofs.OutcomeLemmas.{alone_changes, failed_on, stays_told}
use Rattle.fault_core.proofs.core_over.Core.look_and_store.Goals as goal

-- ---- No byte is moved.

pub returns-in-Ok-Settled-clause-comes : goal.returns-in-Ok-Settled-clause-comes
returns-in-Ok-Settled-clause-comes g c = record {
  access = λ m named ss knows.
      at_settled (IfAccess (λ a. a ≡ access_of ss true c.args.address (length c.args.bytes.now))) c.in-Ok-Settled.field-0 c.in-Ok-Settled.attempt c.in-Ok-Settled.field-0-is (c.in-Ok-Settled.ensures.comes.access m named ss knows);
  absent = λ m named ss knows.
      at_settled (IfAbsent (IsAbsent ss (state c.look_ahead.new.self).slots true c.args.address (length c.args.bytes.now))) c.in-Ok-Settled.field-0 c.in-Ok-Settled.attempt c.in-Ok-Settled.field-0-is (c.in-Ok-Settled.ensures.comes.absent m named ss knows);
  present = λ m named ss knows done.
      absurd (at_settled (λ t. t ≢ moved) c.in-Ok-Settled.field-0 c.in-Ok-Settled.attempt c.in-Ok-Settled.field-0-is c.in-Ok-Settled.ensures.comes.unmoved done);
  referred =
      at_settled (IfAbsent (IsReferred c.args.address (length c.args.bytes.now))) c.in-Ok-Settled.field-0 c.in-Ok-Settled.attempt c.in-Ok-Settled.field-0-is c.in-Ok-Settled.ensures.comes.referred;
  here = λ done.
      absurd (at_settled (λ t. t ≢ moved) c.in-Ok-Settled.field-0 c.in-Ok-Settled.attempt c.in-Ok-Settled.field-0-is c.in-Ok-Settled.ensures.comes.unmoved done);
  ready = λ first last apart.
      at_settled (IfAbsent (λ page. ⊥)) c.in-Ok-Settled.field-0 c.in-Ok-Settled.attempt c.in-Ok-Settled.field-0-is (c.in-Ok-Settled.ensures.comes.present first last apart);
}

pub returns-in-Ok-Settled-clause-moves : goal.returns-in-Ok-Settled-clause-moves
returns-in-Ok-Settled-clause-moves g c = record {
  stored = λ m named ss knows.
      let other = at_settled (λ t. t ≢ moved) c.in-Ok-Settled.field-0 c.in-Ok-Settled.attempt c.in-Ok-Settled.field-0-is c.in-Ok-Settled.ensures.comes.unmoved in
      goes_refused (StoresTried c.in-Ok-Settled.attempt ss c.args.address c.args.bytes.now) c.args.address (length c.args.bytes.now) (tried_stays c.in-Ok-Settled.attempt ss c.args.address c.args.bytes.now m other)
      c.look_ahead.ensures.brings.reaches knows (c.in-Ok-Settled.ensures.stays.same m named ss knows);
  unmoved = search rules;
  dirty = λ m named ss knows done.
      absurd (at_settled (λ t. t ≢ moved) c.in-Ok-Settled.field-0 c.in-Ok-Settled.attempt c.in-Ok-Settled.field-0-is c.in-Ok-Settled.ensures.comes.unmoved done);
}

pub returns-in-Ok-Settled-clause-stays : goal.returns-in-Ok-Settled-clause-stays
returns-in-Ok-Settled-clause-stays g c = stays_told c.look_ahead.ensures.stays

pub returns-in-Ok-Settled-clause-brings : goal.returns-in-Ok-Settled-clause-brings
returns-in-Ok-Settled-clause-brings g c = alone_changes c.look_ahead.ensures.brings

pub returns-in-Ok-Settled-clause-idle : goal.returns-in-Ok-Settled-clause-idle
returns-in-Ok-Settled-clause-idle g c = λ first last apart.
    let one = c.in-Ok-Settled.ensures.idle first last apart in
    (refl, ap (λ f. (view_of f).disk) one.1, one.2)

-- ---- The pages could not be described.

pub returns-in-Err-clause-stays : goal.returns-in-Err-clause-stays
returns-in-Err-clause-stays g c = stays_told c.look_ahead.ensures.stays

pub returns-in-Err-clause-brings : goal.returns-in-Err-clause-brings
returns-in-Err-clause-brings g c = alone_changes c.look_ahead.ensures.brings

pub returns-in-Err-clause-idle : goal.returns-in-Err-clause-idle
returns-in-Err-clause-idle g c = λ first last apart.
    let one = c.in-Err.ensures.idle first last apart in
    (one.0, ap (λ f. (view_of f).disk) one.1, one.2)

-- ---- All bytes are.

pub change_pages-requires-clause-first : goal.change_pages-requires-clause-first
change_pages-requires-clause-first g c =
    (at_ready (λ i j. HasClient (state c.look_ahead.new.self).slots i × HasClient (state c.look_ahead.new.self).slots j) c.in-Ok-Ready.field-0 c.in-Ok-Ready.first c.in-Ok-Ready.last c.in-Ok-Ready.field-0-is c.in-Ok-Ready.ensures.comes.clients).0

pub change_pages-requires-clause-last : goal.change_pages-requires-clause-last
change_pages-requires-clause-last g c =
    (at_ready (λ i j. HasClient (state c.look_ahead.new.self).slots i × HasClient (state c.look_ahead.new.self).slots j) c.in-Ok-Ready.field-0 c.in-Ok-Ready.first c.in-Ok-Ready.last c.in-Ok-Ready.field-0-is c.in-Ok-Ready.ensures.comes.clients).1

pub returns-clause-comes : goal.returns-clause-comes
returns-clause-comes g c = record {
  access = λ m named ss knows.
      at_ready (λ i j. access.Done ≡ access_of ss true c.args.address (length c.args.bytes.now)) c.in-Ok-Ready.field-0 c.in-Ok-Ready.first c.in-Ok-Ready.last c.in-Ok-Ready.field-0-is (c.in-Ok-Ready.ensures.comes.granted m named ss knows);
  absent = search rules;
  present = λ m named ss knows done.
      let pool = (state c.look_ahead.new.self).slots in
      let a = c.args.address in
      let n = length c.args.bytes.now in
      let slots = at_ready (λ i j. IsSlotOf ss pool (a / 512) i × IsSlotOf ss pool (last_page a n) j) c.in-Ok-Ready.field-0 c.in-Ok-Ready.first c.in-Ok-Ready.last c.in-Ok-Ready.field-0-is (c.in-Ok-Ready.ensures.comes.slots m named ss knows) in
      all_present ss (view_of c.change_pages.new.filer).slots a n c.in-Ok-Ready.first c.in-Ok-Ready.last (slot_stays c.change_pages.ensures.slots slots.0) (slot_stays c.change_pages.ensures.slots slots.1);
  referred = search rules;
  here = λ done.
      let self = c.look_ahead.new.self in
      here_stays c.change_pages.ensures.slots
      (at_ready (λ i j. IsHere (kept self) (state self).slots (last_page c.args.address (length c.args.bytes.now))) c.in-Ok-Ready.field-0 c.in-Ok-Ready.first c.in-Ok-Ready.last c.in-Ok-Ready.field-0-is c.in-Ok-Ready.ensures.comes.here);
  ready = search rules;
}

pub returns-clause-moves : goal.returns-clause-moves
returns-clause-moves g c = record {
  stored = λ m named ss knows.
      let pool = (state c.look_ahead.new.self).slots in
      let a = c.args.address in
      let n = length c.args.bytes.now in
      let after = c.in-Ok-Ready.ensures.stays.same m named ss knows in
      let slots = at_ready (λ i j. IsSlotOf ss pool (a / 512) i × IsSlotOf ss pool (last_page a n) j) c.in-Ok-Ready.field-0 c.in-Ok-Ready.first c.in-Ok-Ready.last c.in-Ok-Ready.field-0-is (c.in-Ok-Ready.ensures.comes.slots m named ss knows) in
      let s = slots.0 in
      let t = slots.1 in
      let l = c.change_pages.ensures.stored m named after.bytes ss after.known after.stored s t in
      goes_revealed (StoresTried moved ss a c.args.bytes.now) (either s.shown.file s.shown.page t.shown.file t.shown.page) (IsTouchedOrOwn ss a n)
      (touches_then (state c.args.self.now) (state c.look_ahead.new.self) (accepted c.args.self.now.filer) (touches_of (either s.shown.file s.shown.page t.shown.file t.shown.page) c.look_ahead.ensures.brings.reaches) (view_of c.change_pages.new.filer)
      (c.change_pages.ensures.touches s.shown.file s.shown.page t.shown.file t.shown.page s.has t.has (of_a_client after.stored s) (of_a_client after.stored t)))
      (either_touched a n s t) knows.known.stands l.memory l.known.stands l.changed;
  unmoved = λ other. absurd (other refl);
  dirty = λ m named ss knows done.
      let pool = (state c.look_ahead.new.self).slots in
      let a = c.args.address in
      let n = length c.args.bytes.now in
      let slots = at_ready (λ i j. IsSlotOf ss pool (a / 512) i × IsSlotOf ss pool (last_page a n) j) c.in-Ok-Ready.field-0 c.in-Ok-Ready.first c.in-Ok-Ready.last c.in-Ok-Ready.field-0-is (c.in-Ok-Ready.ensures.comes.slots m named ss knows) in
      c.change_pages.ensures.dirty ss slots.0 slots.1;
}

pub returns-clause-stays : goal.returns-clause-stays
returns-clause-stays g c = record {
  sees =
      let pool = (state c.look_ahead.new.self).slots in
      let own = at_ready (λ i j. HasClient pool i × HasClient pool j) c.in-Ok-Ready.field-0 c.in-Ok-Ready.first c.in-Ok-Ready.last c.in-Ok-Ready.field-0-is c.in-Ok-Ready.ensures.comes.clients in
      let p = own.0 in
      let q = own.1 in
      λ ss s. sees_touched (c.in-Ok-Ready.ensures.stays.sees ss s) (either p.id p.page q.id q.page) (view_of c.change_pages.new.filer) (c.change_pages.ensures.touches p.id p.page q.id q.page p.has q.has p.client q.client);
  known = λ m n named ss knows stands.
      let pool = (state c.look_ahead.new.self).slots in
      let a = c.args.address in
      let count = length c.args.bytes.now in
      let after = c.in-Ok-Ready.ensures.stays.same m named ss knows in
      let slots = at_ready (λ i j. IsSlotOf ss pool (a / 512) i × IsSlotOf ss pool (last_page a count) j) c.in-Ok-Ready.field-0 c.in-Ok-Ready.first c.in-Ok-Ready.last c.in-Ok-Ready.field-0-is (c.in-Ok-Ready.ensures.comes.slots m named ss knows) in
      revealed_stands (revealed_leaves after (c.change_pages.ensures.stored m named after.bytes ss after.known after.stored slots.0 slots.1)) n stands;
  intervals = search rules;
}

pub returns-clause-brings : goal.returns-clause-brings
returns-clause-brings g c = record {
  touches =
      let pool = (state c.look_ahead.new.self).slots in
      let own = at_ready (λ i j. HasClient pool i × HasClient pool j) c.in-Ok-Ready.field-0 c.in-Ok-Ready.first c.in-Ok-Ready.last c.in-Ok-Ready.field-0-is c.in-Ok-Ready.ensures.comes.clients in
      let s = own.0 in
      let t = own.1 in
      touches_wider (either s.id s.page t.id t.page) client_page (either_client s.id s.page t.id t.page s.client t.client)
      (touches_then (state c.args.self.now) (state c.look_ahead.new.self) (accepted c.args.self.now.filer) (touches_of (either s.id s.page t.id t.page) c.look_ahead.ensures.brings.reaches) (view_of c.change_pages.new.filer)
      (c.change_pages.ensures.touches s.id s.page t.id t.page s.has t.has s.client t.client));
  came = brings_then c.look_ahead.ensures.brings.came c.change_pages.ensures.came;
  room =
      let pool = (state c.look_ahead.new.self).slots in
      let own = at_ready (λ i j. HasClient pool i × HasClient pool j) c.in-Ok-Ready.field-0 c.in-Ok-Ready.first c.in-Ok-Ready.last c.in-Ok-Ready.field-0-is c.in-Ok-Ready.ensures.comes.clients in
      let s = own.0 in
      let t = own.1 in
      room_then c.look_ahead.ensures.brings.room
      (keeps_room pool (view_of c.change_pages.new.filer).slots c.change_pages.ensures.slots (c.change_pages.ensures.touches s.id s.page t.id t.page s.has t.has s.client t.client).goes.makes.count);
  stay = pages_kept (pages_yield c.look_ahead.ensures.brings.stay) c.change_pages.ensures.slots;
}

pub returns-clause-idle : goal.returns-clause-idle
returns-clause-idle g c = λ first last apart.
    let one = c.in-Ok-Ready.ensures.idle first last apart in
    (refl, ap g.D.Disk.state c.change_pages.ensures.disk ∙ ap (λ f. (view_of f).disk) one.1, one.2)

-- ---- The tables are revealed.

pub returns-in-Err-clause-fails : goal.returns-in-Err-clause-fails
returns-in-Err-clause-fails g c = failed_on c.in-Err.halt c.in-Err.ensures.fails
