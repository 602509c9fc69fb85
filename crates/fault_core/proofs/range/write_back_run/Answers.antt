use Rattle.std.proofs.Common.{sym, subst, ℕ, ◌+◌, ◌<◌, ◌≤◌}
use Rattle.std.specs.Prelude.{OnOk}
use Rattle.fault_core.specs.declared.range.WriteBack.{WriteBack}
use Rattle.fault_core.specs.Range.{IsWrittenBack, LeavesFrames}
use Rattle.fault_core.proofs.range.write_back_run.Goals as goal
use Rattle.filer_kernel.specs.View.{view_of}

pub returns-in-Flush-clause-rest : goal.returns-in-Flush-clause-rest
returns-in-Flush-clause-rest g c =
    subst (λ (write_back : WriteBack). OnOk c.flush_run.result ((p : ℕ) → c.args.first ≤ p → p < c.args.first + c.args.pages → IsWrittenBack write_back (view_of c.flush_run.new.filer).slots c.args.id p)) (sym c.in-Flush.is) c.flush_run.ensures.rest

pub returns-clause-rest : goal.returns-clause-rest
returns-clause-rest g c =
    subst (λ (write_back : WriteBack). OnOk c.evict_run.result ((p : ℕ) → c.args.first ≤ p → p < c.args.first + c.args.pages → IsWrittenBack write_back (view_of c.evict_run.new.filer).slots c.args.id p)) (sym c.in-Evict.is) c.evict_run.ensures.rest

pub returns-in-Flush-clause-frames : goal.returns-in-Flush-clause-frames
returns-in-Flush-clause-frames g c =
    subst (λ (write_back : WriteBack). LeavesFrames write_back c.args.id c.args.first c.args.pages (view_of c.args.filer.now).slots (view_of c.flush_run.new.filer).slots) (sym c.in-Flush.is) c.flush_run.ensures.frames

pub returns-clause-frames : goal.returns-clause-frames
returns-clause-frames g c =
    subst (λ (write_back : WriteBack). LeavesFrames write_back c.args.id c.args.first c.args.pages (view_of c.args.filer.now).slots (view_of c.evict_run.new.filer).slots) (sym c.in-Evict.is) c.evict_run.ensures.frames
