use Rattle.std.proofs.Common.{sym, to_z-of_z, arith}
use Rattle.pilot_c.proofs.references.pilot_store.Goals as goal

pub returns : goal.returns
returns c =
    let s = c.store-count.ensures in
    record {
      answer = c.store-count.result.1;
      answered = record {
        stored = rw (sym c.engine.ensures.value) s.stored;
        stops = rw (sym c.engine.ensures.value) s.stops;
        leaves = rw (sym c.engine.ensures.value) s.leaves;
        moves = record {
          part = s.part;
          whole = s.whole;
          closed = rw (sym c.engine.ensures.value) s.closed;
          stopped = s.stopped;
          cause = rw (sym c.engine.ensures.value) s.cause;
          spends = rw (sym c.engine.ensures.value) s.spends;
        };
      };
      number_is = grind (arith, to_z-of_z);
    }
