use Rattle.std.proofs.Common.{◌∙◌, sym, subst, length, [], refl, arith}
use Rattle.flat_machine.specs.declared.call.Refusal.TheVariants as why
use Rattle.flat_machine.specs.Bytes.{AreBytes}
use Rattle.fault_core.specs.declared.reference.Access.{Access}
use Rattle.fault_core.specs.declared.reference.Access.TheVariants as access
use Rattle.fault_core.specs.Core.{kept, state}
use Rattle.fault_core.specs.Moves.{StoresAs}
use Rattle.session_words.specs.CellLaws.{IsTouchedOrOwn}
use Rattle.swapper_kernel.specs.Goes.{Goes}
use Rattle.running_words.proofs.RunningLemmas.{running_laws}
use Rattle.space_calls.proofs.CameLemmas.{Came, knows, touched_makes, whole_of, wrote_so}
use Rattle.space_calls.proofs.MovedLemmas.{store_runs}
use Rattle.space_calls.proofs.StoreLemmas.{are_bytes, other_than_done, refused_came, stays_where, store_allowed, store_not_refused, store_stays, store_reveals, store_word}
use Rattle.space_calls.specs.FilesLaws.{shown_here}
use Rattle.space_calls.proofs.reference.store.Goals as goal
use Rattle.space_calls.proofs.OutcomeLemmas.{halts_bringing, over_stored}
use Rattle.filer_kernel.specs.View.{disk_of}

-- ---- The bytes were stored.

pub returns-in-Ok-Done-clause-answers : goal.returns-in-Ok-Done-clause-answers
returns-in-Ok-Done-clause-answers g c = λ volume m r. record {
  carried = (let typed : AreBytes c.args.bytes.now = are_bytes c.args.bytes.now (λ k. let fits = c.type_inv.bytes k in omega (arith, fits)) in
      let whole = whole_of c.args.core.now c.requires.size in
      let x = r.session.stands.memory in
      let named = r.session.stands.is.named in
      let revealed = knows running_laws whole r in
      record {
        allowed = store_allowed running_laws whole r c.args.address c.args.bytes.now c.in-Ok-Done.field-0 access.Done c.in-Ok-Done.field-0-is c.in-Ok-Done.ensures.comes.access;
        runs = store_runs running_laws whole r c.store.ensures.stays.intervals c.store.ensures.brings.touches.layout c.args.address c.args.bytes.now typed
            (sym c.in-Ok-Done.field-0-is ∙ c.in-Ok-Done.ensures.comes.access x named m.spaces revealed)
            (subst (λ (a : Access). Goes (StoresAs a m.spaces c.args.address c.args.bytes.now) (IsTouchedOrOwn m.spaces c.args.address (length c.args.bytes.now)) [] (state c.args.core.now).disk (state c.args.core.now).slots (state c.store.new.self).disk (state c.store.new.self).slots)
            c.in-Ok-Done.field-0-is (c.in-Ok-Done.ensures.moves.stored x named m.spaces revealed))
            (c.store.ensures.brings.came x named m.spaces revealed) (λ y is. c.store.ensures.stays.known x y named m.spaces revealed is);
      });
  sound = tt;
  passes = (let typed : AreBytes c.args.bytes.now = are_bytes c.args.bytes.now (λ k. let fits = c.type_inv.bytes k in omega (arith, fits)) in
      let whole = whole_of c.args.core.now c.requires.size in
      let x = r.session.stands.memory in
      let named = r.session.stands.is.named in
      let revealed = knows running_laws whole r in
      store_reveals running_laws whole r (λ d revealed. g.met.D.Disk.in_form (disk_of c.args.core.now.filer) d revealed) (state c.store.new.self) c.args.address c.args.bytes.now typed (omega (arith, c.requires.few))
      (c.in-Ok-Done.ensures.moves.stored x named m.spaces revealed).makes (c.store.ensures.moves.tested x named m.spaces revealed));
}

pub returns-in-Ok-Done-clause-ready : goal.returns-in-Ok-Done-clause-ready
returns-in-Ok-Done-clause-ready g c = λ volume m r free. c.in-Ok-Done.ensures.comes.ready c.in-Ok-Done.field-0-is

-- ---- It was refused (NoMap).

pub returns-in-Ok-NoMap-clause-answers : goal.returns-in-Ok-NoMap-clause-answers
returns-in-Ok-NoMap-clause-answers g c = λ volume m r. record {
  carried = (let whole = whole_of c.args.core.now c.requires.size in
      let a = access.NoMap c.in-Ok-NoMap.page in
      let came : Came (state c.args.core.now) (state c.store.new.self) (kept c.args.core.now) (kept c.store.new.self) c.args.core.now.intervals c.store.new.self.intervals =
      refused_came (c.in-Ok-NoMap.ensures.moves.refused (λ done. other_than_done a (λ no. no) (sym c.in-Ok-NoMap.field-0-is ∙ done))) c.store.ensures.brings.came
      (λ x named ss revealed. stays_where (state c.args.core.now) (state c.store.new.self) (access.NoMap c.in-Ok-NoMap.page) c.in-Ok-NoMap.field-0 ss c.args.address c.args.bytes.now x c.in-Ok-NoMap.field-0-is (λ no. no) revealed.known.stands (c.in-Ok-NoMap.ensures.moves.stored x named ss revealed))
      c.store.ensures.stays.known c.store.ensures.stays.intervals in
      record {
        allowed = store_allowed running_laws whole r c.args.address c.args.bytes.now c.in-Ok-NoMap.field-0 a c.in-Ok-NoMap.field-0-is c.in-Ok-NoMap.ensures.comes.access;
        runs = store_stays running_laws whole r c.args.address c.args.bytes.now (why.NoMap c.in-Ok-NoMap.page) (store_word running_laws whole r c.args.address c.args.bytes.now c.in-Ok-NoMap.field-0 a c.in-Ok-NoMap.field-0-is c.in-Ok-NoMap.ensures.comes.access) came;
      });
  sound = tt;
  passes = (let typed : AreBytes c.args.bytes.now = are_bytes c.args.bytes.now (λ k. let fits = c.type_inv.bytes k in omega (arith, fits)) in
      let whole = whole_of c.args.core.now c.requires.size in
      let x = r.session.stands.memory in
      let named = r.session.stands.is.named in
      let revealed = knows running_laws whole r in
      store_reveals running_laws whole r (λ d revealed. g.met.D.Disk.in_form (disk_of c.args.core.now.filer) d revealed) (state c.store.new.self) c.args.address c.args.bytes.now typed (omega (arith, c.requires.few))
      (c.in-Ok-NoMap.ensures.moves.stored x named m.spaces revealed).makes (c.store.ensures.moves.tested x named m.spaces revealed));
}

pub returns-in-Ok-NoMap-clause-ready : goal.returns-in-Ok-NoMap-clause-ready
returns-in-Ok-NoMap-clause-ready g c = λ volume m r free.
    absurd (store_not_refused running_laws (whole_of c.args.core.now c.requires.size) r c.args.address c.args.bytes.now c.in-Ok-NoMap.field-0 (access.NoMap c.in-Ok-NoMap.page) c.in-Ok-NoMap.field-0-is c.in-Ok-NoMap.ensures.comes.access free)

-- ---- It was refused (ReadOnly).

pub returns-in-Ok-ReadOnly-clause-answers : goal.returns-in-Ok-ReadOnly-clause-answers
returns-in-Ok-ReadOnly-clause-answers g c = λ volume m r. record {
  carried = (let whole = whole_of c.args.core.now c.requires.size in
      let a = access.ReadOnly c.in-Ok-ReadOnly.page in
      let came : Came (state c.args.core.now) (state c.store.new.self) (kept c.args.core.now) (kept c.store.new.self) c.args.core.now.intervals c.store.new.self.intervals =
      refused_came (c.in-Ok-ReadOnly.ensures.moves.refused (λ done. other_than_done a (λ no. no) (sym c.in-Ok-ReadOnly.field-0-is ∙ done))) c.store.ensures.brings.came
      (λ x named ss revealed. stays_where (state c.args.core.now) (state c.store.new.self) (access.ReadOnly c.in-Ok-ReadOnly.page) c.in-Ok-ReadOnly.field-0 ss c.args.address c.args.bytes.now x c.in-Ok-ReadOnly.field-0-is (λ no. no) revealed.known.stands (c.in-Ok-ReadOnly.ensures.moves.stored x named ss revealed))
      c.store.ensures.stays.known c.store.ensures.stays.intervals in
      record {
        allowed = store_allowed running_laws whole r c.args.address c.args.bytes.now c.in-Ok-ReadOnly.field-0 a c.in-Ok-ReadOnly.field-0-is c.in-Ok-ReadOnly.ensures.comes.access;
        runs = store_stays running_laws whole r c.args.address c.args.bytes.now (why.ReadOnly c.in-Ok-ReadOnly.page) (store_word running_laws whole r c.args.address c.args.bytes.now c.in-Ok-ReadOnly.field-0 a c.in-Ok-ReadOnly.field-0-is c.in-Ok-ReadOnly.ensures.comes.access) came;
      });
  sound = tt;
  passes = (let typed : AreBytes c.args.bytes.now = are_bytes c.args.bytes.now (λ k. let fits = c.type_inv.bytes k in omega (arith, fits)) in
      let whole = whole_of c.args.core.now c.requires.size in
      let x = r.session.stands.memory in
      let named = r.session.stands.is.named in
      let revealed = knows running_laws whole r in
      store_reveals running_laws whole r (λ d revealed. g.met.D.Disk.in_form (disk_of c.args.core.now.filer) d revealed) (state c.store.new.self) c.args.address c.args.bytes.now typed (omega (arith, c.requires.few))
      (c.in-Ok-ReadOnly.ensures.moves.stored x named m.spaces revealed).makes (c.store.ensures.moves.tested x named m.spaces revealed));
}

pub returns-in-Ok-ReadOnly-clause-ready : goal.returns-in-Ok-ReadOnly-clause-ready
returns-in-Ok-ReadOnly-clause-ready g c = λ volume m r free.
    absurd (store_not_refused running_laws (whole_of c.args.core.now c.requires.size) r c.args.address c.args.bytes.now c.in-Ok-ReadOnly.field-0 (access.ReadOnly c.in-Ok-ReadOnly.page) c.in-Ok-ReadOnly.field-0-is c.in-Ok-ReadOnly.ensures.comes.access free)

-- ---- The disk failed.

pub returns-in-Err-clause-answers : goal.returns-in-Err-clause-answers
returns-in-Err-clause-answers g c = λ volume m r. record {
  carried = tt;
  sound = (c.in-Err.ensures.fails.sound r.session.stands.memory r.session.stands.is.named m.spaces (knows running_laws (whole_of c.args.core.now c.requires.size) r));
  passes = (let typed : AreBytes c.args.bytes.now = are_bytes c.args.bytes.now (λ k. let fits = c.type_inv.bytes k in omega (arith, fits)) in
      let whole = whole_of c.args.core.now c.requires.size in
      let x = r.session.stands.memory in
      let named = r.session.stands.is.named in
      let revealed = knows running_laws whole r in
      store_reveals running_laws whole r (λ d revealed. g.met.D.Disk.in_form (disk_of c.args.core.now.filer) d revealed) (state c.store.new.self) c.args.address c.args.bytes.now typed (omega (arith, c.requires.few))
      (c.in-Err.ensures.moves.halted x named m.spaces revealed).makes (c.store.ensures.moves.tested x named m.spaces revealed));
}

-- ---- Whatever it came to.

pub returns-in-Ok-Done-clause-idle : goal.returns-in-Ok-Done-clause-idle
returns-in-Ok-Done-clause-idle g c = λ volume m r first last.
    let apart = running_laws.apart (state c.args.core.now) (kept c.args.core.now) c.args.core.now.intervals volume m r in
    let two = c.in-Ok-Done.ensures.idle first last apart in
    (refl, two.1, two.2)

pub returns-in-Ok-NoMap-clause-idle : goal.returns-in-Ok-NoMap-clause-idle
returns-in-Ok-NoMap-clause-idle g c = λ volume m r first last.
    let apart = running_laws.apart (state c.args.core.now) (kept c.args.core.now) c.args.core.now.intervals volume m r in
    let two = c.in-Ok-NoMap.ensures.idle first last apart in
    (refl, two.1, two.2)

pub returns-in-Ok-ReadOnly-clause-idle : goal.returns-in-Ok-ReadOnly-clause-idle
returns-in-Ok-ReadOnly-clause-idle g c = λ volume m r first last.
    let apart = running_laws.apart (state c.args.core.now) (kept c.args.core.now) c.args.core.now.intervals volume m r in
    let two = c.in-Ok-ReadOnly.ensures.idle first last apart in
    (refl, two.1, two.2)

pub returns-in-Err-clause-idle : goal.returns-in-Err-clause-idle
returns-in-Err-clause-idle g c = λ volume m r first last.
    let apart = running_laws.apart (state c.args.core.now) (kept c.args.core.now) c.args.core.now.intervals volume m r in
    let two = c.in-Err.ensures.idle first last apart in
    (two.0, two.1, two.2)

-- ---- The tables are revealed.

pub returns-in-Ok-Done-clause-sees : goal.returns-in-Ok-Done-clause-sees
returns-in-Ok-Done-clause-sees g c = λ ss s. (ss, (c.store.ensures.stays.sees ss s, shown_here ss))

pub returns-in-Ok-NoMap-clause-sees : goal.returns-in-Ok-NoMap-clause-sees
returns-in-Ok-NoMap-clause-sees g c = λ ss s. (ss, (c.store.ensures.stays.sees ss s, shown_here ss))

pub returns-in-Ok-ReadOnly-clause-sees : goal.returns-in-Ok-ReadOnly-clause-sees
returns-in-Ok-ReadOnly-clause-sees g c = λ ss s. (ss, (c.store.ensures.stays.sees ss s, shown_here ss))

pub returns-in-Ok-Done-clause-shown : goal.returns-in-Ok-Done-clause-shown
returns-in-Ok-Done-clause-shown g c = λ ss s. wrote_so (touched_makes ss c.args.address (length c.args.bytes.now) (c.store.ensures.brings.shown ss s))

pub returns-in-Ok-NoMap-clause-shown : goal.returns-in-Ok-NoMap-clause-shown
returns-in-Ok-NoMap-clause-shown g c = λ ss s. wrote_so (touched_makes ss c.args.address (length c.args.bytes.now) (c.store.ensures.brings.shown ss s))

pub returns-in-Ok-ReadOnly-clause-shown : goal.returns-in-Ok-ReadOnly-clause-shown
returns-in-Ok-ReadOnly-clause-shown g c = λ ss s. wrote_so (touched_makes ss c.args.address (length c.args.bytes.now) (c.store.ensures.brings.shown ss s))

pub returns-in-Err-clause-shown : goal.returns-in-Err-clause-shown
returns-in-Err-clause-shown g c = λ ss s. wrote_so (touched_makes ss c.args.address (length c.args.bytes.now) (c.store.ensures.brings.shown ss s))

-- ---- What was written.

pub returns-in-Ok-Done-clause-went : goal.returns-in-Ok-Done-clause-went
returns-in-Ok-Done-clause-went g c = over_stored c.store.ensures.brings.touches

pub returns-in-Ok-NoMap-clause-went : goal.returns-in-Ok-NoMap-clause-went
returns-in-Ok-NoMap-clause-went g c = over_stored c.store.ensures.brings.touches

pub returns-in-Ok-ReadOnly-clause-went : goal.returns-in-Ok-ReadOnly-clause-went
returns-in-Ok-ReadOnly-clause-went g c = over_stored c.store.ensures.brings.touches

pub returns-in-Err-clause-went : goal.returns-in-Err-clause-went
returns-in-Err-clause-went g c = over_stored c.store.ensures.brings.touches

-- ---- Why it failed.

pub returns-in-Err-clause-fails : goal.returns-in-Err-clause-fails
returns-in-Err-clause-fails g c = halts_bringing c.requires.size c.store.ensures.brings.touches.goes.makes c.in-Err.halt c.in-Err.ensures.fails
