use Rattle.std.proofs.Common.{inr, Err}
use Rattle.scavenger.specs.declared.report.Report.{Report}
use Rattle.embedded.proofs.MadeLemmas.{accords_error, not_restored, other_error}
use Rattle.embedded.proofs.making.restored.Goals as goal

pub returns-in_default : goal.returns-in_default
returns-in_default g c = not_restored (g.D.Disk.state c.args.disk.now)

pub returns-in_default-with_room : goal.returns-in_default-with_room
returns-in_default-with_room g c = not_restored (g.D.Disk.state c.args.disk.now)

pub returns : goal.returns
returns g c =
    let s = c.in-Ok-scavenge.ensures in
    record {
      restored = s.restored;
      report = s.report;
      synced = s.synced;
      crash_states = s.crash_states;
      count = λ not. absurd (cc (s.root.count not));
      bad_count = λ n is. absurd (cc is);
      accords = λ count d revealed sector here. inr (s.root.judged count d revealed sector here);
      refused = λ why is. absurd (cc is);
      unwritten = λ is. absurd (cc is);
      cause = λ is. absurd (cc is);
      later = record { sectors = s.later.sectors; faults = s.later.faults };
    }

pub returns-in-Err : goal.returns-in-Err
returns-in-Err g c =
    let s = c.in-Err.ensures in
    record {
      restored = λ d revealed. tt;
      report = λ d revealed. tt;
      synced = tt;
      crash_states = s.crash_states;
      count = λ not. inr (other_error (s.root.count not));
      bad_count = λ n is. s.root.bad_count n (other_error is);
      accords = λ count d revealed sector here. inr (accords_error (Unit {0}) (Report g.row.A.Denot) c.in-Err.why _ (s.root.judged count d revealed sector here));
      refused = λ why is. s.unwritten.0 why (other_error is);
      unwritten = λ is. s.unwritten.1 (other_error is);
      cause = λ is. s.cause (other_error is);
      later = record { sectors = s.later.sectors; faults = s.later.faults };
    }
