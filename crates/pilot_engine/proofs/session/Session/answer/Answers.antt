use Rattle.std.proofs.Common.{refl, sym, ap, ◌∙◌, arith}
use Rattle.std.proofs.lemmas.Bool.{true≢false}
use Rattle.std.proofs.lemmas.Option.{same_Some}
use Rattle.labelled_disk.specs.File.{file_at}
use Rattle.flat_machine.specs.References.{is_reference}
use Rattle.fault_core.specs.Core.{state}
use Rattle.swapper_kernel.specs.Goes.{no_page}
use Rattle.file_manager.specs.Creating.{next_id}
use Rattle.space_calls.specs.Halts.{NamedHalts, OnNamedHalts}
use Rattle.file_manager.specs.Grounds.{IsNewPage}
use Rattle.pilot_engine.specs.Halting.{MarkHalts, NewFileHalts, NextHalts, RemoveHalts, SizeHalts}
use Rattle.pilot_engine.proofs.BoundLemmas.{asked_inside, spent_inside}
use Rattle.pilot_engine.proofs.LiftLemmas.{carried_out}
use Rattle.pilot_engine.proofs.StepLemmas.{on_spaces}
use Rattle.flat_machine.specs.declared.call.Call.TheVariants as call
use Rattle.pilot_engine.proofs.OwnLemmas.{around_other}
use Rattle.pilot_engine.proofs.LackLemmas.{fails_missing_page, mark_misses, named_misses, new_misses, on_named_misses, pages_of, remove_misses, size_misses}
use Rattle.pilot_engine.proofs.SpaceMisses.{next_misses}
use Rattle.pilot_engine.proofs.ReferLemmas.{ok_always}
use Rattle.pilot_engine.proofs.CallSteps.{asked_all, file_all, new_accounts, new_all, plain_accounts, plain_all, sized_all}
use Rattle.pilot_engine.proofs.session.Session.answer.Goals as goal
use Rattle.filer_kernel.specs.FailsLaws.{cause_in}

-- ---- Create.

pub returns-in-Create-clause-machine : goal.returns-in-Create-clause-machine
returns-in-Create-clause-machine g c =
    λ m r. rw c.in-Create.is (plain_all (call.Create c.in-Create.pages c.in-Create.kind) c.create.result refl (λ kept slots resident. resident) (λ kept slots. tt) refl (record {
      carried = ((carried_out c.args.self.now.core c.create.new.self.core c.args.self.now.volume c.create.new.self.volume m (call.Create c.in-Create.pages c.in-Create.kind) c.create.ensures.remains.kept c.create.ensures.remains.intervals refl r c.create.result (λ spaces_of s. (c.create.ensures.answers spaces_of m s).carried)));
      sound = (c.create.ensures.sound _ m r.session);
      passes = (((c.create.ensures.answers _ m r.session).passes));
      came = λ quiet. (c.create.ensures.answers _ m r.session).came;
      cost = (spent_inside (state c.args.self.now.core).disk (state c.create.new.self.core).disk c.create.ensures.bounded);
    }))

pub returns-in-Create-clause-halts : goal.returns-in-Create-clause-halts
returns-in-Create-clause-halts g c = rw c.in-Create.is (record {
  fails = c.create.ensures.fails;
  missing = λ ss sees. fails_missing_page (NewFileHalts (next_id c.args.self.now.volume.root) (IsNewPage c.in-Create.pages)) no_page (new_misses no_page (next_id c.args.self.now.volume.root) (IsNewPage c.in-Create.pages)) (state c.args.self.now.core) (state c.create.new.self.core) c.create.result (cause_in _ _ _ c.create.result c.create.ensures.fails);
})

pub returns-in-Create-clause-accounts : goal.returns-in-Create-clause-accounts
returns-in-Create-clause-accounts g c = λ o k n. new_accounts c.args.call.now c.create.result c.create.ensures.writes o (c.create.ensures.accounts o k n)

pub returns-in-Create-clause-writes : goal.returns-in-Create-clause-writes
returns-in-Create-clause-writes g c = rw c.in-Create.is (new_all (call.Create c.in-Create.pages c.in-Create.kind) c.create.result c.create.ensures.writes.wrote (λ ss s. c.create.ensures.writes.wrote) refl refl c.create.ensures.writes)

pub returns-in-Create-clause-remains : goal.returns-in-Create-clause-remains
returns-in-Create-clause-remains g c = record { stays = c.create.ensures.remains.stays; running = c.create.ensures.remains.running }

pub returns-in-Create-clause-reference : goal.returns-in-Create-clause-reference
returns-in-Create-clause-reference g c = λ revealed. absurd (true≢false (sym revealed ∙ ap is_reference c.in-Create.is))

-- ---- Delete.

pub returns-in-Delete-clause-machine : goal.returns-in-Delete-clause-machine
returns-in-Delete-clause-machine g c = λ m r. rw c.in-Delete.is (plain_all (call.Delete c.in-Delete.id) c.delete.result refl (λ kept slots resident. resident) (λ kept slots. tt) refl (c.delete.ensures.answers m r))

pub returns-in-Delete-clause-halts : goal.returns-in-Delete-clause-halts
returns-in-Delete-clause-halts g c = rw c.in-Delete.is (record {
  fails = c.delete.ensures.fails;
  missing = λ ss sees. fails_missing_page (OnNamedHalts c.in-Delete.id c.args.self.now.core.intervals (RemoveHalts c.in-Delete.id)) (pages_of c.in-Delete.id) (on_named_misses c.in-Delete.id c.args.self.now.core.intervals (RemoveHalts c.in-Delete.id) (pages_of c.in-Delete.id) (remove_misses c.in-Delete.id)) (state c.args.self.now.core) (state c.delete.new.self.core) c.delete.result (cause_in _ _ _ c.delete.result c.delete.ensures.fails);
})

pub returns-in-Delete-clause-accounts : goal.returns-in-Delete-clause-accounts
returns-in-Delete-clause-accounts g c = plain_accounts c.args.call.now c.delete.result c.delete.ensures.remains.stays c.delete.ensures.accounts

pub returns-in-Delete-clause-writes : goal.returns-in-Delete-clause-writes
returns-in-Delete-clause-writes g c = rw c.in-Delete.is (file_all (call.Delete c.in-Delete.id) c.delete.result c.delete.ensures.writes.wrote (λ ss s. c.delete.ensures.writes.wrote) refl refl (λ is. c.delete.ensures.around) c.delete.ensures.writes)

pub returns-in-Delete-clause-remains : goal.returns-in-Delete-clause-remains
returns-in-Delete-clause-remains g c = c.delete.ensures.remains

pub returns-in-Delete-clause-reference : goal.returns-in-Delete-clause-reference
returns-in-Delete-clause-reference g c = λ revealed. absurd (true≢false (sym revealed ∙ ap is_reference c.in-Delete.is))

-- ---- Attributes.

pub returns-in-Attributes-clause-machine : goal.returns-in-Attributes-clause-machine
returns-in-Attributes-clause-machine g c = λ m r. rw c.in-Attributes.is (plain_all (call.Attributes c.in-Attributes.id) c.attributes.result refl (λ kept slots resident. resident) (λ kept slots. tt) refl (c.attributes.ensures.answers m r))

pub returns-in-Attributes-clause-halts : goal.returns-in-Attributes-clause-halts
returns-in-Attributes-clause-halts g c = rw c.in-Attributes.is (record {
  fails = c.attributes.ensures.fails;
  missing = λ ss sees. fails_missing_page (NamedHalts c.in-Attributes.id c.args.self.now.core.intervals) no_page (named_misses no_page c.in-Attributes.id c.args.self.now.core.intervals) (state c.args.self.now.core) (state c.attributes.new.self.core) c.attributes.result (cause_in _ _ _ c.attributes.result c.attributes.ensures.fails);
})

pub returns-in-Attributes-clause-accounts : goal.returns-in-Attributes-clause-accounts
returns-in-Attributes-clause-accounts g c = plain_accounts c.args.call.now c.attributes.result c.attributes.ensures.remains.stays c.attributes.ensures.accounts

pub returns-in-Attributes-clause-writes : goal.returns-in-Attributes-clause-writes
returns-in-Attributes-clause-writes g c = rw c.in-Attributes.is (asked_all (call.Attributes c.in-Attributes.id) c.attributes.result c.attributes.ensures.writes.wrote (λ ss s. c.attributes.ensures.writes.wrote) refl c.attributes.ensures.writes)

pub returns-in-Attributes-clause-remains : goal.returns-in-Attributes-clause-remains
returns-in-Attributes-clause-remains g c = c.attributes.ensures.remains

pub returns-in-Attributes-clause-reference : goal.returns-in-Attributes-clause-reference
returns-in-Attributes-clause-reference g c = λ revealed. absurd (true≢false (sym revealed ∙ ap is_reference c.in-Attributes.is))

-- ---- SetSize.

pub returns-in-SetSize-clause-machine : goal.returns-in-SetSize-clause-machine
returns-in-SetSize-clause-machine g c = λ m r.
    rw c.in-SetSize.is (sized_all (call.SetSize c.in-SetSize.id c.in-SetSize.pages) c.set_size.result refl (λ kept slots resident. resident) (λ kept slots. tt)
    (λ id f is found. c.set_size.ensures.after_sync m f r (ap (file_at m.files) (same_Some c.in-SetSize.id id is) ∙ found)) (c.set_size.ensures.answers m r))

pub returns-in-SetSize-clause-halts : goal.returns-in-SetSize-clause-halts
returns-in-SetSize-clause-halts g c = rw c.in-SetSize.is (record {
  fails = c.set_size.ensures.fails;
  missing = λ ss sees. fails_missing_page (OnNamedHalts c.in-SetSize.id c.args.self.now.core.intervals (SizeHalts c.in-SetSize.id c.in-SetSize.pages)) (pages_of c.in-SetSize.id) (on_named_misses c.in-SetSize.id c.args.self.now.core.intervals (SizeHalts c.in-SetSize.id c.in-SetSize.pages) (pages_of c.in-SetSize.id) (size_misses c.in-SetSize.id c.in-SetSize.pages)) (state c.args.self.now.core) (state c.set_size.new.self.core) c.set_size.result (cause_in _ _ _ c.set_size.result c.set_size.ensures.fails);
})

pub returns-in-SetSize-clause-accounts : goal.returns-in-SetSize-clause-accounts
returns-in-SetSize-clause-accounts g c = plain_accounts c.args.call.now c.set_size.result c.set_size.ensures.remains.stays c.set_size.ensures.accounts

pub returns-in-SetSize-clause-writes : goal.returns-in-SetSize-clause-writes
returns-in-SetSize-clause-writes g c = rw c.in-SetSize.is (file_all (call.SetSize c.in-SetSize.id c.in-SetSize.pages) c.set_size.result c.set_size.ensures.writes.wrote (λ ss s. c.set_size.ensures.writes.wrote) refl refl (around_other (call.SetSize c.in-SetSize.id c.in-SetSize.pages) refl) c.set_size.ensures.writes)

pub returns-in-SetSize-clause-remains : goal.returns-in-SetSize-clause-remains
returns-in-SetSize-clause-remains g c = c.set_size.ensures.remains

pub returns-in-SetSize-clause-reference : goal.returns-in-SetSize-clause-reference
returns-in-SetSize-clause-reference g c = λ revealed. absurd (true≢false (sym revealed ∙ ap is_reference c.in-SetSize.is))

-- ---- MakePermanent.

pub returns-in-MakePermanent-clause-machine : goal.returns-in-MakePermanent-clause-machine
returns-in-MakePermanent-clause-machine g c = λ m r. rw c.in-MakePermanent.is (plain_all (call.MakePermanent c.in-MakePermanent.id) c.make_permanent.result refl (λ kept slots resident. resident) (λ kept slots. tt) refl (c.make_permanent.ensures.answers m r))

pub returns-in-MakePermanent-clause-halts : goal.returns-in-MakePermanent-clause-halts
returns-in-MakePermanent-clause-halts g c = rw c.in-MakePermanent.is (record {
  fails = c.make_permanent.ensures.fails;
  missing = λ ss sees. fails_missing_page (OnNamedHalts c.in-MakePermanent.id c.args.self.now.core.intervals (MarkHalts c.in-MakePermanent.id)) (pages_of c.in-MakePermanent.id) (on_named_misses c.in-MakePermanent.id c.args.self.now.core.intervals (MarkHalts c.in-MakePermanent.id) (pages_of c.in-MakePermanent.id) (mark_misses c.in-MakePermanent.id)) (state c.args.self.now.core) (state c.make_permanent.new.self.core) c.make_permanent.result (cause_in _ _ _ c.make_permanent.result c.make_permanent.ensures.fails);
})

pub returns-in-MakePermanent-clause-accounts : goal.returns-in-MakePermanent-clause-accounts
returns-in-MakePermanent-clause-accounts g c = plain_accounts c.args.call.now c.make_permanent.result c.make_permanent.ensures.remains.stays c.make_permanent.ensures.accounts

pub returns-in-MakePermanent-clause-writes : goal.returns-in-MakePermanent-clause-writes
returns-in-MakePermanent-clause-writes g c = rw c.in-MakePermanent.is (file_all (call.MakePermanent c.in-MakePermanent.id) c.make_permanent.result c.make_permanent.ensures.writes.wrote (λ ss s. c.make_permanent.ensures.writes.wrote) refl refl (λ is. c.make_permanent.ensures.around) c.make_permanent.ensures.writes)

pub returns-in-MakePermanent-clause-remains : goal.returns-in-MakePermanent-clause-remains
returns-in-MakePermanent-clause-remains g c = c.make_permanent.ensures.remains

pub returns-in-MakePermanent-clause-reference : goal.returns-in-MakePermanent-clause-reference
returns-in-MakePermanent-clause-reference g c = λ revealed. absurd (true≢false (sym revealed ∙ ap is_reference c.in-MakePermanent.is))

-- ---- MakeImmutable.

pub returns-in-MakeImmutable-clause-machine : goal.returns-in-MakeImmutable-clause-machine
returns-in-MakeImmutable-clause-machine g c = λ m r. rw c.in-MakeImmutable.is (plain_all (call.MakeImmutable c.in-MakeImmutable.id) c.make_immutable.result refl (λ kept slots resident. resident) (λ kept slots. tt) refl (c.make_immutable.ensures.answers m r))

pub returns-in-MakeImmutable-clause-halts : goal.returns-in-MakeImmutable-clause-halts
returns-in-MakeImmutable-clause-halts g c = rw c.in-MakeImmutable.is (record {
  fails = c.make_immutable.ensures.fails;
  missing = λ ss sees. fails_missing_page (OnNamedHalts c.in-MakeImmutable.id c.args.self.now.core.intervals (MarkHalts c.in-MakeImmutable.id)) (pages_of c.in-MakeImmutable.id) (on_named_misses c.in-MakeImmutable.id c.args.self.now.core.intervals (MarkHalts c.in-MakeImmutable.id) (pages_of c.in-MakeImmutable.id) (mark_misses c.in-MakeImmutable.id)) (state c.args.self.now.core) (state c.make_immutable.new.self.core) c.make_immutable.result (cause_in _ _ _ c.make_immutable.result c.make_immutable.ensures.fails);
})

pub returns-in-MakeImmutable-clause-accounts : goal.returns-in-MakeImmutable-clause-accounts
returns-in-MakeImmutable-clause-accounts g c = plain_accounts c.args.call.now c.make_immutable.result c.make_immutable.ensures.remains.stays c.make_immutable.ensures.accounts

pub returns-in-MakeImmutable-clause-writes : goal.returns-in-MakeImmutable-clause-writes
returns-in-MakeImmutable-clause-writes g c = rw c.in-MakeImmutable.is (file_all (call.MakeImmutable c.in-MakeImmutable.id) c.make_immutable.result c.make_immutable.ensures.writes.wrote (λ ss s. c.make_immutable.ensures.writes.wrote) refl refl (λ is. c.make_immutable.ensures.around) c.make_immutable.ensures.writes)

pub returns-in-MakeImmutable-clause-remains : goal.returns-in-MakeImmutable-clause-remains
returns-in-MakeImmutable-clause-remains g c = c.make_immutable.ensures.remains

pub returns-in-MakeImmutable-clause-reference : goal.returns-in-MakeImmutable-clause-reference
returns-in-MakeImmutable-clause-reference g c = λ revealed. absurd (true≢false (sym revealed ∙ ap is_reference c.in-MakeImmutable.is))

-- ---- Next.

pub returns-in-Next-clause-machine : goal.returns-in-Next-clause-machine
returns-in-Next-clause-machine g c = λ m r. rw c.in-Next.is (plain_all (call.Next c.in-Next.id) c.next.result refl (λ kept slots resident. resident) (λ kept slots. tt) refl (c.next.ensures.answers m r))

pub returns-in-Next-clause-halts : goal.returns-in-Next-clause-halts
returns-in-Next-clause-halts g c = rw c.in-Next.is (record {
  fails = c.next.ensures.fails;
  missing = λ ss sees. fails_missing_page (NextHalts c.args.self.now.core.intervals) no_page (next_misses c.args.self.now.core.intervals no_page) (state c.args.self.now.core) (state c.next.new.self.core) c.next.result (cause_in _ _ _ c.next.result c.next.ensures.fails);
})

pub returns-in-Next-clause-accounts : goal.returns-in-Next-clause-accounts
returns-in-Next-clause-accounts g c = plain_accounts c.args.call.now c.next.result c.next.ensures.remains.stays c.next.ensures.accounts

pub returns-in-Next-clause-writes : goal.returns-in-Next-clause-writes
returns-in-Next-clause-writes g c = rw c.in-Next.is (asked_all (call.Next c.in-Next.id) c.next.result c.next.ensures.writes.wrote (λ ss s. c.next.ensures.writes.wrote) refl c.next.ensures.writes)

pub returns-in-Next-clause-remains : goal.returns-in-Next-clause-remains
returns-in-Next-clause-remains g c = c.next.ensures.remains

pub returns-in-Next-clause-reference : goal.returns-in-Next-clause-reference
returns-in-Next-clause-reference g c = λ revealed. absurd (true≢false (sym revealed ∙ ap is_reference c.in-Next.is))

-- ---- Volume.

pub returns-in-Volume-clause-machine : goal.returns-in-Volume-clause-machine
returns-in-Volume-clause-machine g c =
    λ m r. rw c.in-Volume.is (plain_all call.Volume c.volume.result refl (λ kept slots resident. resident) (λ kept slots. tt) refl (record {
      carried = ((carried_out c.args.self.now.core c.volume.new.self.core c.args.self.now.volume c.volume.new.self.volume m call.Volume c.volume.ensures.remains.kept c.volume.ensures.remains.intervals refl r c.volume.result (λ spaces_of s. (c.volume.ensures.answers spaces_of m s).carried)));
      sound = (c.volume.ensures.sound _ m r.session);
      passes = (((c.volume.ensures.answers _ m r.session).passes));
      came = λ quiet. ok_always c.volume.result _ c.volume.ensures.came;
      cost = (asked_inside (state c.args.self.now.core).disk (state c.volume.new.self.core).disk 0 (omega arith) c.volume.ensures.cost);
    }))

pub returns-in-Volume-clause-halts : goal.returns-in-Volume-clause-halts
returns-in-Volume-clause-halts g c = rw c.in-Volume.is (record {
  fails = c.volume.ensures.fails;
  missing = λ ss sees. fails_missing_page (λ v w e. ⊥) no_page (λ v w e none. absurd none) (state c.args.self.now.core) (state c.volume.new.self.core) c.volume.result (cause_in _ _ _ c.volume.result c.volume.ensures.fails);
})

pub returns-in-Volume-clause-accounts : goal.returns-in-Volume-clause-accounts
returns-in-Volume-clause-accounts g c = plain_accounts c.args.call.now c.volume.result c.volume.ensures.remains.stays c.volume.ensures.accounts

pub returns-in-Volume-clause-writes : goal.returns-in-Volume-clause-writes
returns-in-Volume-clause-writes g c = rw c.in-Volume.is (asked_all call.Volume c.volume.result c.volume.ensures.writes.wrote (λ ss s. c.volume.ensures.writes.wrote) refl c.volume.ensures.writes)

pub returns-in-Volume-clause-remains : goal.returns-in-Volume-clause-remains
returns-in-Volume-clause-remains g c = record { stays = c.volume.ensures.remains.stays; running = c.volume.ensures.remains.running }

pub returns-in-Volume-clause-reference : goal.returns-in-Volume-clause-reference
returns-in-Volume-clause-reference g c = λ revealed. absurd (true≢false (sym revealed ∙ ap is_reference c.in-Volume.is))

-- ---- A call on spaces.

pub answer_on_spaces-requires-clause-on_spaces : goal.answer_on_spaces-requires-clause-on_spaces
answer_on_spaces-requires-clause-on_spaces g c = on_spaces c.args.call.now c.requires.more c.in_default.not-Create c.in_default.not-Delete c.in_default.not-Attributes c.in_default.not-SetSize c.in_default.not-MakePermanent c.in_default.not-MakeImmutable c.in_default.not-Next c.in_default.not-Volume
