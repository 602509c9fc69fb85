use Rattle.std.proofs.Common.{rules, ◌≡◌, inl, inr}
use Rattle.pilot_top.proofs.ProcessingLemmas.{processed_after}
use Rattle.pilot_top.proofs.StartedLemmas.{causes_after, clients_reasons, refuses_after, source_kept}
use Rattle.pilot_top.proofs.processing.process_on.Given as given
use Rattle.pilot_top.proofs.processing.process_on.Goals as goal

-- the disk through the reference is the one that was handed back
after : (g : given.Over) (c : goal.After-disk-1 g) → c.disk-1.given.0 ≡ c.process-status.result.1.now
after g c = search rules

pub returns : goal.returns
returns g c =
    let e = c.process-status.ensures in
    let state = g.D.Disk.state in
    let left = c.process-status.result.1.now in
    let name = c.process-status.result.1.ghost_name in
    let first = g.D.Disk.state c.args.disk.now in
    record {
      processed = processed_after state _ left (after g c) first _ name e.processed;
      cause = λ words meant.
          clients_reasons words c.args.frames meant (causes_after state _ left (after g c) first _ name e.causes) (refuses_after state _ left (after g c) first _ name e.refuses);
      keeps_source = λ words meant takes. source_kept words (inr (inl (c.args.frames, meant))) e.causes.no_other.0 e.leaves takes;
      understood = e.causes.no_other.0;
      keeps_sink = e.leaves.sink;
    }
