use Rattle.std.proofs.Common.{Err, ◌≡◌, ◌∙◌, sym, subst, length, ℕ, List, refl, rules}
use Rattle.flat_machine.specs.declared.call.Call.TheVariants as call
use Rattle.flat_machine.specs.declared.call.Reply.TheVariants as reply
use Rattle.flat_machine.specs.Allows.{Allows}
use Rattle.fault_core.specs.declared.reference.Access.TheVariants as access
use Rattle.fault_core.specs.Access.{BreaksFor, last_page}
use Rattle.fault_core.specs.Core.{kept, state}
use Rattle.fault_core.specs.Lack.{shown_units}
use Rattle.fault_core.specs.Reach.{TouchHalts}
use Rattle.fault_core.specs.Unit.{IsReady}
use Rattle.running_words.proofs.RunningLemmas.{running_laws}
use Rattle.space_calls.proofs.RunLemmas.{reached_makes}
use Rattle.space_calls.proofs.CameLemmas.{Came, knows, still_reveals, whole_of}
use Rattle.space_calls.proofs.LoadLemmas.{load_carried, load_not_refused}
use Rattle.space_calls.specs.FilesLaws.{shown_here}
use Rattle.space_calls.proofs.reference.load.Goals as goal
use Rattle.space_calls.proofs.OutcomeLemmas.{halts_bringing, over_reached}
use Rattle.space_calls.specs.Outcomes.{HaltsToBring}
use Rattle.filer_kernel.specs.View.{disk_of}

-- ---- The bytes were loaded.

pub returns-in-Ok-Done-clause-answers : goal.returns-in-Ok-Done-clause-answers
returns-in-Ok-Done-clause-answers g c =
    let long : length c.load.new.into ≡ c.args.count = search rules in
    let came : Came (state c.args.core.now) (state c.load.new.self) (kept c.args.core.now) (kept c.load.new.self) c.args.core.now.intervals c.load.new.self.intervals =
    record { reaches = c.load.ensures.brings.reaches; brings = c.load.ensures.brings.came; known = c.load.ensures.stays.same; same_count = c.load.ensures.stays.intervals } in
    λ volume m r. record {
      carried = (let done = load_carried running_laws (whole_of c.args.core.now c.requires.size) r came c.args.address c.args.count _ c.load.new.into c.in-Ok-Done.field-0 access.Done
          c.load.ensures.moves.width long c.in-Ok-Done.field-0-is c.in-Ok-Done.ensures.comes.access c.in-Ok-Done.ensures.moves.bytes in
          record { allowed = subst (λ (b : List ℕ). Allows m (call.Load c.args.address c.args.count) (reply.Bytes b)) (sym c.of.ensures) done.0; runs = done.1 });
      sound = tt;
      passes = (still_reveals running_laws (whole_of c.args.core.now c.requires.size) r (state c.load.new.self) (λ d revealed. g.met.D.Disk.in_form (disk_of c.args.core.now.filer) d revealed) (call.Load c.args.address c.args.count) (reached_makes c.load.ensures.brings.reaches));
    }

pub returns-in-Ok-Done-clause-ready : goal.returns-in-Ok-Done-clause-ready
returns-in-Ok-Done-clause-ready g c =
    let long : length c.load.new.into ≡ c.args.count = search rules in
    λ volume m r free.
    subst (λ (n : ℕ). IsReady (kept c.load.new.self) (state c.load.new.self).slots (last_page c.args.address n)) (sym c.load.ensures.moves.width ∙ long) (c.in-Ok-Done.ensures.comes.ready c.in-Ok-Done.field-0-is)

-- ---- It was refused (NoMap).

pub returns-in-Ok-NoMap-clause-answers : goal.returns-in-Ok-NoMap-clause-answers
returns-in-Ok-NoMap-clause-answers g c =
    let long : length c.load.new.into ≡ c.args.count = search rules in
    let came : Came (state c.args.core.now) (state c.load.new.self) (kept c.args.core.now) (kept c.load.new.self) c.args.core.now.intervals c.load.new.self.intervals =
    record { reaches = c.load.ensures.brings.reaches; brings = c.load.ensures.brings.came; known = c.load.ensures.stays.same; same_count = c.load.ensures.stays.intervals } in
    λ volume m r. record {
      carried = (let done = load_carried running_laws (whole_of c.args.core.now c.requires.size) r came c.args.address c.args.count _ c.load.new.into c.in-Ok-NoMap.field-0 (access.NoMap c.in-Ok-NoMap.page)
          c.load.ensures.moves.width long c.in-Ok-NoMap.field-0-is c.in-Ok-NoMap.ensures.comes.access c.in-Ok-NoMap.ensures.moves.bytes in
          record { allowed = done.0; runs = done.1 });
      sound = tt;
      passes = (still_reveals running_laws (whole_of c.args.core.now c.requires.size) r (state c.load.new.self) (λ d revealed. g.met.D.Disk.in_form (disk_of c.args.core.now.filer) d revealed) (call.Load c.args.address c.args.count) (reached_makes c.load.ensures.brings.reaches));
    }

pub returns-in-Ok-NoMap-clause-ready : goal.returns-in-Ok-NoMap-clause-ready
returns-in-Ok-NoMap-clause-ready g c =
    let long : length c.load.new.into ≡ c.args.count = search rules in
    λ volume m r free.
    absurd (load_not_refused running_laws (whole_of c.args.core.now c.requires.size) r c.args.address c.args.count _ c.in-Ok-NoMap.field-0 (access.NoMap c.in-Ok-NoMap.page)
    (sym c.load.ensures.moves.width ∙ long) c.in-Ok-NoMap.field-0-is c.in-Ok-NoMap.ensures.comes.access free)

-- ---- It was refused (ReadOnly).

pub returns-in-Ok-ReadOnly-clause-answers : goal.returns-in-Ok-ReadOnly-clause-answers
returns-in-Ok-ReadOnly-clause-answers g c =
    let long : length c.load.new.into ≡ c.args.count = search rules in
    let came : Came (state c.args.core.now) (state c.load.new.self) (kept c.args.core.now) (kept c.load.new.self) c.args.core.now.intervals c.load.new.self.intervals =
    record { reaches = c.load.ensures.brings.reaches; brings = c.load.ensures.brings.came; known = c.load.ensures.stays.same; same_count = c.load.ensures.stays.intervals } in
    λ volume m r. record {
      carried = (let done = load_carried running_laws (whole_of c.args.core.now c.requires.size) r came c.args.address c.args.count _ c.load.new.into c.in-Ok-ReadOnly.field-0 (access.ReadOnly c.in-Ok-ReadOnly.page)
          c.load.ensures.moves.width long c.in-Ok-ReadOnly.field-0-is c.in-Ok-ReadOnly.ensures.comes.access c.in-Ok-ReadOnly.ensures.moves.bytes in
          record { allowed = done.0; runs = done.1 });
      sound = tt;
      passes = (still_reveals running_laws (whole_of c.args.core.now c.requires.size) r (state c.load.new.self) (λ d revealed. g.met.D.Disk.in_form (disk_of c.args.core.now.filer) d revealed) (call.Load c.args.address c.args.count) (reached_makes c.load.ensures.brings.reaches));
    }

pub returns-in-Ok-ReadOnly-clause-ready : goal.returns-in-Ok-ReadOnly-clause-ready
returns-in-Ok-ReadOnly-clause-ready g c =
    let long : length c.load.new.into ≡ c.args.count = search rules in
    λ volume m r free.
    absurd (load_not_refused running_laws (whole_of c.args.core.now c.requires.size) r c.args.address c.args.count _ c.in-Ok-ReadOnly.field-0 (access.ReadOnly c.in-Ok-ReadOnly.page)
    (sym c.load.ensures.moves.width ∙ long) c.in-Ok-ReadOnly.field-0-is c.in-Ok-ReadOnly.ensures.comes.access free)

-- ---- Whatever it came to.

pub returns-in-Err-clause-answers : goal.returns-in-Err-clause-answers
returns-in-Err-clause-answers g c = λ volume m r. record {
  carried = tt;
  sound = (c.in-Err.ensures.fails.sound r.session.stands.memory r.session.stands.is.named m.spaces (knows running_laws (whole_of c.args.core.now c.requires.size) r));
  passes = (still_reveals running_laws (whole_of c.args.core.now c.requires.size) r (state c.load.new.self) (λ d revealed. g.met.D.Disk.in_form (disk_of c.args.core.now.filer) d revealed) (call.Load c.args.address c.args.count) (reached_makes c.load.ensures.brings.reaches));
}

pub returns-in-Ok-Done-clause-idle : goal.returns-in-Ok-Done-clause-idle
returns-in-Ok-Done-clause-idle g c =
    let long : length c.load.new.into ≡ c.args.count = search rules in
    λ volume m r first last.
    let apart = running_laws.apart (state c.args.core.now) (kept c.args.core.now) c.args.core.now.intervals volume m r in
    let two = c.in-Ok-Done.ensures.idle first (subst (λ (n : ℕ). IsReady (kept c.args.core.now) (state c.args.core.now).slots (last_page c.args.address n)) (sym long ∙ c.load.ensures.moves.width) last) apart in
    (refl, two.1, two.2)

pub returns-in-Ok-NoMap-clause-idle : goal.returns-in-Ok-NoMap-clause-idle
returns-in-Ok-NoMap-clause-idle g c =
    let long : length c.load.new.into ≡ c.args.count = search rules in
    λ volume m r first last.
    let apart = running_laws.apart (state c.args.core.now) (kept c.args.core.now) c.args.core.now.intervals volume m r in
    let two = c.in-Ok-NoMap.ensures.idle first (subst (λ (n : ℕ). IsReady (kept c.args.core.now) (state c.args.core.now).slots (last_page c.args.address n)) (sym long ∙ c.load.ensures.moves.width) last) apart in
    (refl, two.1, two.2)

pub returns-in-Ok-ReadOnly-clause-idle : goal.returns-in-Ok-ReadOnly-clause-idle
returns-in-Ok-ReadOnly-clause-idle g c =
    let long : length c.load.new.into ≡ c.args.count = search rules in
    λ volume m r first last.
    let apart = running_laws.apart (state c.args.core.now) (kept c.args.core.now) c.args.core.now.intervals volume m r in
    let two = c.in-Ok-ReadOnly.ensures.idle first (subst (λ (n : ℕ). IsReady (kept c.args.core.now) (state c.args.core.now).slots (last_page c.args.address n)) (sym long ∙ c.load.ensures.moves.width) last) apart in
    (refl, two.1, two.2)

pub returns-in-Err-clause-idle : goal.returns-in-Err-clause-idle
returns-in-Err-clause-idle g c =
    let long : length c.load.new.into ≡ c.args.count = search rules in
    λ volume m r first last.
    let apart = running_laws.apart (state c.args.core.now) (kept c.args.core.now) c.args.core.now.intervals volume m r in
    let two = c.in-Err.ensures.idle first (subst (λ (n : ℕ). IsReady (kept c.args.core.now) (state c.args.core.now).slots (last_page c.args.address n)) (sym long ∙ c.load.ensures.moves.width) last) apart in
    (two.0, two.1, two.2)

-- ---- The tables are revealed.

pub returns-in-Ok-Done-clause-sees : goal.returns-in-Ok-Done-clause-sees
returns-in-Ok-Done-clause-sees g c = λ ss s. (ss, (c.load.ensures.stays.sees ss s, shown_here ss))

pub returns-in-Ok-NoMap-clause-sees : goal.returns-in-Ok-NoMap-clause-sees
returns-in-Ok-NoMap-clause-sees g c = λ ss s. (ss, (c.load.ensures.stays.sees ss s, shown_here ss))

pub returns-in-Ok-ReadOnly-clause-sees : goal.returns-in-Ok-ReadOnly-clause-sees
returns-in-Ok-ReadOnly-clause-sees g c = λ ss s. (ss, (c.load.ensures.stays.sees ss s, shown_here ss))

-- ---- What was written.

pub returns-in-Ok-Done-clause-went : goal.returns-in-Ok-Done-clause-went
returns-in-Ok-Done-clause-went g c = over_reached c.load.ensures.brings.reaches

pub returns-in-Ok-NoMap-clause-went : goal.returns-in-Ok-NoMap-clause-went
returns-in-Ok-NoMap-clause-went g c = over_reached c.load.ensures.brings.reaches

pub returns-in-Ok-ReadOnly-clause-went : goal.returns-in-Ok-ReadOnly-clause-went
returns-in-Ok-ReadOnly-clause-went g c = over_reached c.load.ensures.brings.reaches

pub returns-in-Err-clause-went : goal.returns-in-Err-clause-went
returns-in-Err-clause-went g c = over_reached c.load.ensures.brings.reaches

-- ---- Why it failed.

pub returns-in-Err-clause-fails : goal.returns-in-Err-clause-fails
returns-in-Err-clause-fails g c =
    let long : length c.load.new.into ≡ c.args.count = search rules in
    let fails = halts_bringing c.requires.size c.load.ensures.brings.reaches.goes.makes c.in-Err.halt c.in-Err.ensures.fails in
    subst (λ (n : ℕ). HaltsToBring (TouchHalts (BreaksFor (state c.args.core.now) c.args.core.now.intervals c.args.address n) (state c.args.core.now) (state c.load.new.self)) (λ ss. shown_units ss c.args.address n) c.args.core.now c.load.new.self (Err c.in-Err.halt))
    (sym c.load.ensures.moves.width ∙ long) fails
