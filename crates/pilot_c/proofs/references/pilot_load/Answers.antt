use Rattle.std.proofs.Common.{sym, to_z-of_z, arith}
use Rattle.pilot_c.proofs.references.pilot_load.Goals as goal

pub returns : goal.returns
returns c =
    let s = c.load-count.ensures in
    record {
      answer = c.load-count.result.1;
      answered = record {
        loaded = rw (sym c.engine.ensures.value) s.loaded;
        still = rw (sym c.engine.ensures.value) s.still;
        rest = s.rest;
        stops = rw (sym c.engine.ensures.value) s.stops;
        leaves = rw (sym c.engine.ensures.value) s.leaves;
        moves = record {
          part = s.part;
          whole = s.whole;
          closed = rw (sym c.engine.ensures.value) s.closed;
          stopped = s.stopped;
          cause = rw (sym c.engine.ensures.value) s.cause;
          spends = rw (sym c.engine.ensures.value) s.spends;
        };
      };
      number_is = grind (arith, to_z-of_z);
    }
