use Rattle.std.proofs.Common.{ℕ, ◌<◌, ◌≤◌, Option, refl, subst, arith, inl, inr}
use Rattle.std.specs.Prelude.{IfSome}
use Rattle.session_words.specs.Parts.{shapes_of}
use Rattle.file_manager.specs.Answer.{IsNextFile}
use Rattle.running_words.proofs.SessionLemmas.{session_books}
use Rattle.pilot_engine.specs.declared.sight.Sight.{Sight}
use Rattle.pilot_engine.specs.Seen.{IsSight}
use Rattle.pilot_engine.proofs.LiftLemmas.{searched_running}
use Rattle.fault_core.specs.Core.{state}
use Rattle.space_calls.proofs.HaltLemmas.{look_reaches}
use Rattle.file_manager.specs.Reasons.{telling}
use Rattle.filer_kernel.specs.View.{accepted, view_of}
use Rattle.pilot_engine.proofs.HomeLemmas.{file_pages}
use Rattle.pilot_engine.proofs.LackLemmas.{search_misses}
use Rattle.pilot_engine.proofs.SeesLemmas.{seen_blameless}
use Rattle.pilot_engine.proofs.FailSteps.{fails_after, fails_wider}
use Rattle.pilot_engine.proofs.AskedSteps.{accounts_after, accounts_again, accounts_failed, accounts_found, looks_found, looks_then}
use Rattle.pilot_engine.proofs.session.Session.next_passed.Goals as goal

pub returns-in-Err-clause-asks : goal.returns-in-Err-clause-asks
returns-in-Err-clause-asks g c = λ m r. record {
  answer = tt;
  runs = searched_running c.args.self.now.core (record c.args.self.now.core { filer = c.next.new.filer }) c.args.self.now.volume m r refl refl c.next.ensures.stays.makes c.next.ensures.stays.brings (λ z0 z1 z2 z3. (c.next.ensures.revealed z0 z1 z2 z3).1) c.next.ensures.stays.layout;
  sound = (c.in-Err.ensures.revealed r.session.stands.memory (shapes_of m.files) m.spaces (session_books _ _ _ _ _ _ m r.session)).0;
}

pub returns-in-Ok-None-clause-asks : goal.returns-in-Ok-None-clause-asks
returns-in-Ok-None-clause-asks g c = λ m r. record {
  answer = subst (IsNextFile (shapes_of m.files) c.args.cursor) c.in-Ok-None.field-0-is ((c.in-Ok-None.ensures.revealed r.session.stands.memory (shapes_of m.files) m.spaces (session_books _ _ _ _ _ _ m r.session)).0);
  runs = searched_running c.args.self.now.core (record c.args.self.now.core { filer = c.next.new.filer }) c.args.self.now.volume m r refl refl c.next.ensures.stays.makes c.next.ensures.stays.brings (λ z0 z1 z2 z3. (c.next.ensures.revealed z0 z1 z2 z3).1) c.next.ensures.stays.layout;
  sound = tt;
}

pub returns-in-Ok-Hidden-clause-asks : goal.returns-in-Ok-Hidden-clause-asks
returns-in-Ok-Hidden-clause-asks g c = λ m r.
    let now = searched_running c.args.self.now.core (record c.args.self.now.core { filer = c.next.new.filer }) c.args.self.now.volume m r refl refl c.next.ensures.stays.makes c.next.ensures.stays.brings (λ z0 z1 z2 z3. (c.next.ensures.revealed z0 z1 z2 z3).1) c.next.ensures.stays.layout in
    record {
      answer = (subst (IsNextFile (shapes_of m.files) c.args.cursor) c.in-Ok-Some.field-0-is ((c.in-Ok-Some.ensures.revealed r.session.stands.memory (shapes_of m.files) m.spaces (session_books _ _ _ _ _ _ m r.session)).0), (subst (λ (x : Sight). IsSight m c.in-Ok-Some.id x) c.in-Ok-Hidden.field-0-is ((c.in-Ok-Hidden.ensures.asks m now).answer)));
      runs = (c.sight.ensures.asks m now).runs;
      sound = tt;
    }

pub returns-in-Ok-Hidden-clause-above : goal.returns-in-Ok-Hidden-clause-above
returns-in-Ok-Hidden-clause-above g c = (subst (λ (o : Option ℕ). IfSome o (λ id. (c.args.cursor < id) × (16 ≤ id))) c.in-Ok-Some.field-0-is c.in-Ok-Some.ensures.above).0

pub returns-in-Ok-By-clause-asks : goal.returns-in-Ok-By-clause-asks
returns-in-Ok-By-clause-asks g c = λ m r.
    let now = searched_running c.args.self.now.core (record c.args.self.now.core { filer = c.next.new.filer }) c.args.self.now.volume m r refl refl c.next.ensures.stays.makes c.next.ensures.stays.brings (λ z0 z1 z2 z3. (c.next.ensures.revealed z0 z1 z2 z3).1) c.next.ensures.stays.layout in
    record {
      answer = (subst (IsNextFile (shapes_of m.files) c.args.cursor) c.in-Ok-Some.field-0-is ((c.in-Ok-Some.ensures.revealed r.session.stands.memory (shapes_of m.files) m.spaces (session_books _ _ _ _ _ _ m r.session)).0), (subst (λ (x : Sight). IsSight m c.in-Ok-Some.id x) c.in-Ok-By.field-0-is ((c.in-Ok-By.ensures.asks m now).answer)).named);
      runs = (c.sight.ensures.asks m now).runs;
      sound = tt;
    }

pub returns-in-Ok-By-clause-above : goal.returns-in-Ok-By-clause-above
returns-in-Ok-By-clause-above g c = (subst (λ (o : Option ℕ). IfSome o (λ id. (c.args.cursor < id) × (16 ≤ id))) c.in-Ok-Some.field-0-is c.in-Ok-Some.ensures.above).0

pub returns-in-Ok-Hidden-clause-cost : goal.returns-in-Ok-Hidden-clause-cost
returns-in-Ok-Hidden-clause-cost g c = let first = c.next.ensures.cost in let later = c.sight.ensures.cost in omega (arith, first, later)

pub returns-in-Ok-By-clause-cost : goal.returns-in-Ok-By-clause-cost
returns-in-Ok-By-clause-cost g c = let first = c.next.ensures.cost in let later = c.sight.ensures.cost in omega (arith, first, later)

pub returns-in-Err-sight-clause-asks : goal.returns-in-Err-sight-clause-asks
returns-in-Err-sight-clause-asks g c = λ m r. record {
  answer = tt;
  runs = (c.sight.ensures.asks m (searched_running c.args.self.now.core (record c.args.self.now.core { filer = c.next.new.filer }) c.args.self.now.volume m r refl refl c.next.ensures.stays.makes c.next.ensures.stays.brings (λ z0 z1 z2 z3. (c.next.ensures.revealed z0 z1 z2 z3).1) c.next.ensures.stays.layout)).runs;
  sound = (c.in-Err-sight.ensures.asks m (searched_running c.args.self.now.core (record c.args.self.now.core { filer = c.next.new.filer }) c.args.self.now.volume m r refl refl c.next.ensures.stays.makes c.next.ensures.stays.brings (λ z0 z1 z2 z3. (c.next.ensures.revealed z0 z1 z2 z3).1) c.next.ensures.stays.layout)).sound;
}

pub returns-in-Err-sight-clause-cost : goal.returns-in-Err-sight-clause-cost
returns-in-Err-sight-clause-cost g c = let first = c.next.ensures.cost in let later = c.sight.ensures.cost in omega (arith, first, later)

-- ---- Why it failed.

pub returns-in-Err-clause-fails : goal.returns-in-Err-clause-fails
returns-in-Err-clause-fails g c = fails_wider (λ h. inl h) c.in-Err.ensures.fails

pub returns-in-Err-sight-clause-fails : goal.returns-in-Err-sight-clause-fails
returns-in-Err-sight-clause-fails g c = fails_after c.next.ensures.stays.makes.went.faults (λ h. inr (state (record c.args.self.now.core { filer = c.next.new.filer }), look_reaches (state c.args.self.now.core) (state (record c.args.self.now.core { filer = c.next.new.filer })) c.next.ensures.stays.looks c.next.ensures.stays.layout, h)) c.in-Err-sight.ensures.fails

-- ---- What the search leaves.

pub returns-in-Ok-None-clause-looks : goal.returns-in-Ok-None-clause-looks
returns-in-Ok-None-clause-looks g c = looks_found c.args.self.now _ c.next.ensures.stays refl refl refl

pub returns-in-Err-clause-looks : goal.returns-in-Err-clause-looks
returns-in-Err-clause-looks g c = looks_found c.args.self.now _ c.next.ensures.stays refl refl refl

pub returns-in-Ok-Hidden-clause-looks : goal.returns-in-Ok-Hidden-clause-looks
returns-in-Ok-Hidden-clause-looks g c = looks_then (looks_found c.args.self.now _ c.next.ensures.stays refl refl refl) c.sight.ensures.looks

pub returns-in-Ok-By-clause-looks : goal.returns-in-Ok-By-clause-looks
returns-in-Ok-By-clause-looks g c = looks_then (looks_found c.args.self.now _ c.next.ensures.stays refl refl refl) c.sight.ensures.looks

pub returns-in-Err-sight-clause-looks : goal.returns-in-Err-sight-clause-looks
returns-in-Err-sight-clause-looks g c = looks_then (looks_found c.args.self.now _ c.next.ensures.stays refl refl refl) c.sight.ensures.looks

-- ---- The initial state.

pub returns-in-Ok-None-clause-accounts : goal.returns-in-Ok-None-clause-accounts
returns-in-Ok-None-clause-accounts g c = accounts_found c.args.self.now _ c.in-Ok-None.ensures.accounts c.next.ensures.stays.makes refl refl

pub returns-in-Ok-Hidden-clause-accounts : goal.returns-in-Ok-Hidden-clause-accounts
returns-in-Ok-Hidden-clause-accounts g c = λ o k. accounts_again (accounts_after _ c.next.ensures.stays.layout (accounts_found {x = c.in-Ok-Some.id} c.args.self.now _ c.in-Ok-Some.ensures.accounts c.next.ensures.stays.makes refl refl) c.in-Ok-Hidden.ensures.accounts o k)

pub returns-in-Ok-By-clause-accounts : goal.returns-in-Ok-By-clause-accounts
returns-in-Ok-By-clause-accounts g c = λ o k. accounts_again (accounts_after _ c.next.ensures.stays.layout (accounts_found {x = c.in-Ok-Some.id} c.args.self.now _ c.in-Ok-Some.ensures.accounts c.next.ensures.stays.makes refl refl) c.in-Ok-By.ensures.accounts o k)

pub returns-in-Err-clause-accounts : goal.returns-in-Err-clause-accounts
returns-in-Err-clause-accounts g c = λ o k. record {
  keeps_to = tt;
  reasons = (c.in-Err.ensures.accounts o k.0 k.1.0);
  sees = (λ seen. let old = c.args.self.now.core in
      let disk = (view_of c.next.new.filer).disk in
      seen_blameless o (state old) (accepted old.filer) k (state old).layout disk c.in-Err.halt (λ b. c.in-Err.ensures.accounts (telling o b) k.0)
      (search_misses (file_pages o disk) (state old).layout (state old).disk (state old).slots disk c.in-Err.halt c.in-Err.ensures.fails.cause) (seen.0, seen.1.0));
  windows = tt;
}

pub returns-in-Err-sight-clause-accounts : goal.returns-in-Err-sight-clause-accounts
returns-in-Err-sight-clause-accounts g c = λ o k. accounts_failed (accounts_after _ c.next.ensures.stays.layout (accounts_found {x = c.in-Ok-Some.id} c.args.self.now _ c.in-Ok-Some.ensures.accounts c.next.ensures.stays.makes refl refl) c.in-Err-sight.ensures.accounts o k)
