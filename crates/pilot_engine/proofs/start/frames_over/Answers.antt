use Rattle.std.proofs.Common.{◌∙◌, rules}
use Rattle.pilot_engine.proofs.StartFaults.{bare_count, bare_slots, refused_so, right_so, root_there, count_so, bad_count_so}
use Rattle.pilot_engine.proofs.start.frames_over.Goals as goal

pub returns-in-Err-clause-refuses : goal.returns-in-Err-clause-refuses
returns-in-Err-clause-refuses g c =
    let sectors = (g.D.Disk.state c.args.disk).sectors in
    record {
      count = count_so sectors c.read_root.result c.in-Err.why c.in-Err.is c.read_root.ensures.count;
      bad_count = bad_count_so sectors c.read_root.result c.in-Err.why c.in-Err.is c.read_root.ensures.bad_count;
      refused = λ d why revealed is.
          refused_so d (g.D.Disk.state c.args.disk).sectors (g.met.D.Disk.whole c.args.disk d revealed) c.read_root.result c.read_root.ensures.count (λ count. c.read_root.ensures.judged count d revealed) c.in-Err.why c.in-Err.is why is;
      judged = λ d revealed.
          right_so d (g.D.Disk.state c.args.disk).sectors (g.met.D.Disk.whole c.args.disk d revealed) c.read_root.result c.read_root.ensures.count (λ count. c.read_root.ensures.judged count d revealed) c.in-Err.why c.in-Err.is;
    }

pub returns-in-Ok-over-clause-blank : goal.returns-in-Ok-over-clause-blank
returns-in-Ok-over-clause-blank g c = record {
  same_layout = (search rules);
  size = (search rules);
  bare = bare_slots c.args.frames _ ((λ i. (c.over-in-Ok-over.ensures.swapper i).pool) ∙ c.in-Ok-over.ensures.empty);
  no_runs = (search rules);
}

pub returns-in-Ok-over-clause-read : goal.returns-in-Ok-over-clause-read
returns-in-Ok-over-clause-read g c = λ d revealed.
    root_there d (g.D.Disk.state c.args.disk).sectors (g.met.D.Disk.whole c.args.disk d revealed) c.read_root.result c.read_root.ensures.count (λ count. c.read_root.ensures.judged count d revealed) c.in-Ok.root c.in-Ok.is c.in-Ok.ensures.valid.accepted

pub returns-in-Ok-over-clause-frames : goal.returns-in-Ok-over-clause-frames
returns-in-Ok-over-clause-frames g c = bare_count c.args.frames _ ((λ i. (c.over-in-Ok-over.ensures.swapper i).pool) ∙ c.in-Ok-over.ensures.empty)
