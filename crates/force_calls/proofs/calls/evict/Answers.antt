use Rattle.std.proofs.Common.{◌≡◌, rules, Err}
use Rattle.swapper_kernel.specs.GoesLaws.{swaps_then}
use Rattle.force_calls.proofs.RunLemmas.{only_run_then}
use Rattle.force_calls.proofs.calls.evict.Goals as goal

pub returns-in_err-flush-clause-sound : goal.returns-in_err-flush-clause-sound
returns-in_err-flush-clause-sound g c = λ m h.
    let same : c.from_residual.result ≡ Err c.in_err-flush.field-0.0 = search rules in
    rw same (c.in_err-flush.ensures.sound m h)

pub returns-clause-swaps : goal.returns-clause-swaps
returns-clause-swaps g c = swaps_then c.flush.ensures.swaps (c.discard.ensures.swaps c.in_ok-flush.ensures.clean)

pub returns-clause-run : goal.returns-clause-run
returns-clause-run g c = only_run_then c.flush.ensures.run c.discard.ensures.run

pub returns-clause-written : goal.returns-clause-written
returns-clause-written g c = record {
  middle = c.flush.new.memory.pool;
  steps = rw c.discard.ensures.disk c.flush.ensures.steps;
  clean = c.in_ok-flush.ensures.clean;
  run = c.discard.ensures.run;
}
