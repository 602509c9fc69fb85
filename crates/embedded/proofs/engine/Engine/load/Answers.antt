use Rattle.std.proofs.Common.{◌≡◌, ◌∙◌, ◌+◌, ◌-◌, ◌%◌, ℕ, ap, arith, length, refl, subst, Err, rules}
use Rattle.labelled_disk.specs.declared.evidence.Halt.TheVariants as halt
use Rattle.embedded.specs.declared.code.Code.{Code}
use Rattle.embedded.specs.declared.code.Code.TheVariants as code
use Rattle.embedded.specs.References.{StopsLoad}
use Rattle.session_words.specs.StandsFor.{RevealsSettled}
use Rattle.embedded.proofs.FaultLemmas.{rose_since}
use Rattle.embedded.proofs.StopLemmas.{leaves_then}
use Rattle.embedded.proofs.SpendLemmas.{so_far_ends, so_far_none, so_far_stops, so_far_then}
use Rattle.embedded.proofs.engine.Engine.load.Goals as goal

-- a halt is the piece's
pub returns-in-Err-clause-stopped : goal.returns-in-Err-clause-stopped
returns-in-Err-clause-stopped g c = λ why is.
    let same : c.in-Err.code ≡ code.Halted why = cc is in
    c.load_next.ensures.stopped why (c.in-Err.is ∙ ap (λ (e : Code). Err e) same)

-- and so is why it stops
pub returns-in-Err-clause-stops : goal.returns-in-Err-clause-stops
returns-in-Err-clause-stops g c = λ m stands low.
    subst (λ (k : ℕ). StopsLoad m (c.args.address + c.pieces.done) (k - c.pieces.done) c.in-Err.code) c.pieces.invariant.long
    (c.in-Err.ensures.stops m (c.pieces.invariant.loaded m stands).0 low)

-- the disk is blamed where the piece's call blames it, and no fault was lost before
pub returns-in-Err-clause-cause : goal.returns-in-Err-clause-cause
returns-in-Err-clause-cause g c = λ is.
    let same : c.in-Err.code ≡ code.Halted halt.Disk = cc is in
    rose_since c.args.self.now c.pieces.self c.load_next.new.self c.pieces.invariant.faults
    (c.load_next.ensures.cause (c.in-Err.is ∙ ap (λ (e : Code). Err e) same))

pub pieces-preserved : goal.pieces-preserved
pieces-preserved g c = record {
  within = search rules;
  long = search rules;
  loaded = search rules;
  rest = search rules;
  faults = search rules;
  leaves = λ m stands.
      leaves_then (λ d. RevealsSettled d m) c.args.self.now c.pieces.self c.load_next.new.self (c.pieces.invariant.leaves m stands)
      (c.load_next.ensures.leaves m (c.pieces.invariant.loaded m stands).0);
  spent = so_far_then c.args.address (c.args.address % 512) c.pieces.done c.in-Ok.count (length c.args.into.now) c.args.self.now c.pieces.self c.load_next.new.self
      refl (omega (arith, c.pieces-test.true, c.pieces.invariant.long)) c.in-Ok.ensures.more.0 (λ more. c.in-Ok.ensures.more.2 (omega (arith, more, c.pieces.invariant.long))) c.pieces.invariant.spent c.load_next.ensures.spends;
  closed = search rules;
}

pub returns-in-Err-clause-leaves : goal.returns-in-Err-clause-leaves
returns-in-Err-clause-leaves g c = λ m stands.
    leaves_then (λ d. RevealsSettled d m) c.args.self.now c.pieces.self c.load_next.new.self (c.pieces.invariant.leaves m stands)
    (c.load_next.ensures.leaves m (c.pieces.invariant.loaded m stands).0)

pub pieces-init : goal.pieces-init
pieces-init g c = record {
  within = search rules;
  long = search rules;
  loaded = search rules;
  rest = search rules;
  faults = search rules;
  leaves = search rules;
  spent = so_far_none (c.args.address % 512) (length c.args.into.now) c.args.self.now;
  closed = search rules;
}

-- what was spent was spent on the pieces
pub returns-clause-spends : goal.returns-clause-spends
returns-clause-spends g c =
    so_far_ends (c.args.address % 512) c.pieces.done (length c.args.into.now) c.args.self.now c.pieces.self
    (omega (arith, c.pieces.invariant.within, c.pieces.invariant.long)) c.pieces.invariant.spent

pub returns-in-Err-clause-spends : goal.returns-in-Err-clause-spends
returns-in-Err-clause-spends g c =
    so_far_stops (c.args.address % 512) c.pieces.done (length c.args.into.now) c.args.self.now c.pieces.self c.load_next.new.self
    (omega (arith, c.pieces-test.true, c.pieces.invariant.long)) c.pieces.invariant.spent c.load_next.ensures.spends
