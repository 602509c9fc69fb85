use Rattle.std.proofs.Common.{rules, ◌≡◌, inl}
use Rattle.pilot_top.proofs.QueuedAfter.{queued_after}
use Rattle.pilot_top.proofs.StartedLemmas.{causes_after, refuses_after, run_reasons, source_kept}
use Rattle.pilot_top.proofs.lent.run_queued_on.Given as given
use Rattle.pilot_top.proofs.lent.run_queued_on.Goals as goal

-- the disk through the reference is the one that was handed back
after : (g : given.Over) (c : goal.After-disk-1 g) → c.disk-1.given.0 ≡ c.run_queued-status.result.1.now
after g c = search rules

pub returns : goal.returns
returns g c =
    let e = c.run_queued-status.ensures in
    let state = g.D.Disk.state in
    let left = c.run_queued-status.result.1.now in
    let name = c.run_queued-status.result.1.ghost_name in
    let first = g.D.Disk.state c.args.disk.now in
    record {
      ran = queued_after state _ left (after g c) name first _ c.run_queued-status.result.0 _ _ _ _ _ _ _ _ e.ran;
      cause = λ words meant.
          run_reasons words c.args.frames c.args.room meant (causes_after state _ left (after g c) first _ name e.causes) (refuses_after state _ left (after g c) first _ name e.refuses);
      keeps_source = λ words meant takes. source_kept words (inl (c.args.frames, c.args.room, meant)) e.causes.no_other.0 e.leaves takes;
      understood = e.causes.no_other.0;
      keeps_sink = e.leaves.sink;
    }
