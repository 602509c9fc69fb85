use Rattle.std.proofs.Common.{ap, sym, ◌∙◌}
use Rattle.std.specs.Prelude.{option_map}
use Rattle.labelled_disk.specs.WriteRuns.{after_writes}
use Rattle.flat_machine.specs.Start.{start}
use Rattle.swapper_kernel.specs.GoesLaws.{went_itself}
use Rattle.filer_kernel.specs.View.{accepted, view_of}
use Rattle.pilot_engine.proofs.RestLemmas.{rest_bounded, rest_none}
use Rattle.pilot_engine.proofs.StartRuns.{begun_fits, runs_over, takes_over}
use Rattle.pilot_engine.proofs.session.Session.with_root.Goals as goal

-- ---- There is no memory.

pub returns-in-Err : goal.returns-in-Err
returns-in-Err g c = record {
  machine = λ d revealed sound. record { stands = tt; sound = tt };
  takes = tt;
  fails = record {
    memory = λ is. c.in-Err.ensures.back;
    no_root = λ why is. cc is;
    counted = λ is. absurd is;
    evidence_seen = tt;
    revealed = λ d revealed. (d, ap (λ x. (g.D.Disk.state x).contents) c.in-Err.ensures.back ∙ revealed);
  };
  leaves = record {
    went = rw c.in-Err.ensures.back (went_itself (g.D.Disk.state c.args.disk));
    left_open = tt;
    bounded = rest_none (g.D.Disk.state c.args.disk) (g.D.Disk.state c.in-Err.disk) (ap (λ x. g.D.Disk.state x) c.in-Err.ensures.back);
  };
}

-- ---- The session starts.

pub returns-in-Ok-begin-clause-machine : goal.returns-in-Ok-begin-clause-machine
returns-in-Ok-begin-clause-machine g c = λ d revealed sound. record {
  stands =
      runs_over c.over.result c.begin.new.filer c.in-Ok-begin.volume (start d) c.over.ensures.filer c.over.ensures.kept c.over.ensures.intervals
      (c.in-Ok-begin.ensures.begun d (ap (λ x. (g.D.Disk.state x).contents) c.in-Ok.ensures.over ∙ revealed) sound (c.requires.read d revealed));
  sound = tt;
}

pub returns-in-Ok-begin-clause-takes : goal.returns-in-Ok-begin-clause-takes
returns-in-Ok-begin-clause-takes g c =
    let e = c.in-Ok-begin.ensures in
    takes_over c.over.result c.begin.new.filer c.in-Ok-begin.volume c.over.ensures.filer (begun_fits (view_of c.in-Ok.opened.0) (view_of c.begin.new.filer) e.starts.makes.went.sectors e.layout c.in-Ok.ensures.blank.size) e.opened

pub returns-in-Ok-begin-clause-fails : goal.returns-in-Ok-begin-clause-fails
returns-in-Ok-begin-clause-fails g c = record { memory = tt; no_root = λ why. tt; counted = tt; evidence_seen = tt; revealed = λ d revealed. tt }

pub returns-in-Ok-begin-clause-leaves : goal.returns-in-Ok-begin-clause-leaves
returns-in-Ok-begin-clause-leaves g c = record {
  went = rw (c.over.ensures.filer, sym c.in-Ok.ensures.over) c.begin.ensures.starts.makes.went;
  left_open = rw c.over.ensures.filer c.in-Ok-begin.ensures.left_open;
  bounded =
      rw (c.over.ensures.filer, sym c.in-Ok.ensures.over)
      (rest_bounded (view_of c.in-Ok.opened.0).layout (accepted c.in-Ok.opened.0) (view_of c.in-Ok.opened.0).disk (view_of c.begin.new.filer).disk c.in-Ok.ensures.blank.size c.begin.ensures.cost);
}

-- ---- The start halted.

pub returns-in-Err-begin-clause-machine : goal.returns-in-Err-begin-clause-machine
returns-in-Err-begin-clause-machine g c = λ d revealed sound. record {
  stands = tt;
  sound = c.in-Err-begin.ensures.begun d (ap (λ x. (g.D.Disk.state x).contents) c.in-Ok.ensures.over ∙ revealed) sound (c.requires.read d revealed);
}

pub returns-in-Err-begin-clause-fails : goal.returns-in-Err-begin-clause-fails
returns-in-Err-begin-clause-fails g c =
    let fails = c.in-Err-begin.ensures.fails in
    record {
      memory = λ is. absurd (cc is);
      no_root = λ why is. cc is;
      counted = rw (c.into_disk.ensures, sym c.in-Ok.ensures.over) fails.counted;
      evidence_seen = rw c.into_disk.ensures fails.evidence_seen;
      revealed = λ d revealed.
          let wrote = c.begin.ensures.starts.makes.wrote in
          rw c.into_disk.ensures
          (after_writes wrote.writes d, wrote.appended.contents ∙ ap (option_map (after_writes wrote.writes)) (ap (λ x. (g.D.Disk.state x).contents) c.in-Ok.ensures.over ∙ revealed));
    }

pub returns-in-Err-begin-clause-leaves : goal.returns-in-Err-begin-clause-leaves
returns-in-Err-begin-clause-leaves g c = record {
  went = rw (c.into_disk.ensures, sym c.in-Ok.ensures.over) c.begin.ensures.starts.makes.went;
  left_open = rw c.into_disk.ensures c.in-Err-begin.ensures.left_open;
  bounded =
      rw (c.into_disk.ensures, sym c.in-Ok.ensures.over)
      (rest_bounded (view_of c.in-Ok.opened.0).layout (accepted c.in-Ok.opened.0) (view_of c.in-Ok.opened.0).disk (view_of c.begin.new.filer).disk c.in-Ok.ensures.blank.size c.begin.ensures.cost);
}
