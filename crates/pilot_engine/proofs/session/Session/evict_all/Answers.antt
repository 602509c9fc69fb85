use Rattle.pilot_engine.proofs.EndCosts.{few_gone}
use Rattle.std.proofs.Common.{subst, sym}
use Rattle.filer_kernel.specs.declared.filer.Filer.{Filer}
use Rattle.file_manager.specs.Reasons.{KeepsOn, ShowsReason}
use Rattle.fault_core.specs.Core.{state}
use Rattle.filer_kernel.specs.View.{view_of}
use Rattle.pilot_engine.specs.Reasons.{SeesHome}
use Rattle.pilot_engine.proofs.session.Session.evict_all.Goals as goal

pub returns-in-Ok-clause-ends : goal.returns-in-Ok-clause-ends
returns-in-Ok-clause-ends g c = rw c.look_at_frames.ensures.same at c.in-Ok.ensures.ends

pub returns-in-Err-clause-ends : goal.returns-in-Err-clause-ends
returns-in-Err-clause-ends g c = rw c.look_at_frames.ensures.same at c.in-Err.ensures.ends

pub returns-in-Ok-clause-clears : goal.returns-in-Ok-clause-clears
returns-in-Ok-clause-clears g c = record {
  wrote = rw c.look_at_frames.ensures.same at c.evict_root.ensures.clears.wrote;
  spares = (record {
    spares = rw c.look_at_frames.ensures.same at c.evict_root.ensures.clears.spares.spares;
    frees = rw c.look_at_frames.ensures.same at c.evict_root.ensures.clears.spares.frees;
    root = c.evict_root.ensures.clears.spares.root;
  });
  open_still = c.evict_root.ensures.clears.open_still;
  layout = rw c.look_at_frames.ensures.same at c.evict_root.ensures.clears.layout;
}

pub returns-in-Err-clause-clears : goal.returns-in-Err-clause-clears
returns-in-Err-clause-clears g c = record {
  wrote = rw c.look_at_frames.ensures.same at c.evict_root.ensures.clears.wrote;
  spares = (record {
    spares = rw c.look_at_frames.ensures.same at c.evict_root.ensures.clears.spares.spares;
    frees = rw c.look_at_frames.ensures.same at c.evict_root.ensures.clears.spares.frees;
    root = c.evict_root.ensures.clears.spares.root;
  });
  open_still = c.evict_root.ensures.clears.open_still;
  layout = rw c.look_at_frames.ensures.same at c.evict_root.ensures.clears.layout;
}

pub returns-in-Ok-clause-cost : goal.returns-in-Ok-clause-cost
returns-in-Ok-clause-cost g c = few_gone _ _ _ c.look_at_frames.ensures.few (rw c.look_at_frames.ensures.same at c.evict_root.ensures.cost)

pub returns-in-Err-clause-cost : goal.returns-in-Err-clause-cost
returns-in-Err-clause-cost g c = few_gone _ _ _ c.look_at_frames.ensures.few (rw c.look_at_frames.ensures.same at c.evict_root.ensures.cost)

-- ---- Why it failed.

pub returns-in-Err-clause-fails : goal.returns-in-Err-clause-fails
returns-in-Err-clause-fails g c = rw c.look_at_frames.ensures.same at c.in-Err.ensures.fails

-- ---- What began stays a reason.

pub returns-in-Ok-clause-accounts : goal.returns-in-Ok-clause-accounts
returns-in-Ok-clause-accounts g c = λ o k.
    let there = c.in-Ok.ensures.accounts o (subst (KeepsOn o) (sym c.look_at_frames.ensures.same) k) in
    record {
      keeps_to = there.keeps_to;
      reasons = tt;
      sees = λ seen. there.sees (subst (λ (f : Filer g.row.D.Denot g.row.A.Denot g.D.Disk). SeesHome o (record c.args.self.now.core { filer = f })) (sym c.look_at_frames.ensures.same) seen);
    }

pub returns-in-Err-clause-accounts : goal.returns-in-Err-clause-accounts
returns-in-Err-clause-accounts g c = λ o k.
    let there = c.in-Err.ensures.accounts o (subst (KeepsOn o) (sym c.look_at_frames.ensures.same) k) in
    record {
      keeps_to = tt;
      reasons = subst (λ (f : Filer g.row.D.Denot g.row.A.Denot g.D.Disk). ShowsReason o (view_of f).layout (state c.evict_root.new.self.core).disk c.in-Err.halt) c.look_at_frames.ensures.same there.reasons;
      sees = λ seen. there.sees (subst (λ (f : Filer g.row.D.Denot g.row.A.Denot g.D.Disk). SeesHome o (record c.args.self.now.core { filer = f })) (sym c.look_at_frames.ensures.same) seen);
    }
