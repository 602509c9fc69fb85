use Rattle.std.proofs.Common.{◌≡◌, ℕ, ◌+◌, ◌*◌, ◌≤◌, ◌<◌, length, refl, arith}
use Rattle.std.proofs.lemmas.Result.{on_ok_weaker}
use Rattle.flat_mem.specs.Memory.{overwritten}
use Rattle.projection_laws.specs.Stored.{bytes_of}
use Rattle.space_tables.proofs.Writes.{other, interval_written}
use Rattle.space_tables.proofs.records.put_interval.Goals as goal

pub returns-clause-written : goal.returns-clause-written
returns-clause-written g c = λ slots xs h below.
    let long : 49152 ≤ length h.bytes = rw (g.met.M.FlatMem.revealed_length c.args.mem.now h.bytes h.revealed) c.requires.size in
    on_ok_weaker c.store.result
    (λ (revealed : g.M.FlatMem.reveals c.store.new.mem (overwritten h.bytes (32 * (512 + c.args.index)) (bytes_of c.args.interval.now))). record {
      bytes = overwritten h.bytes (32 * (512 + c.args.index)) (bytes_of c.args.interval.now);
      revealed = revealed;
      are = interval_written h.bytes slots xs h.are long c.args.index c.args.interval.now below c.requires.inside;
    })
    (rw c.interval_bytes.ensures at (c.store.ensures.written h.bytes h.revealed))

pub returns-clause-rest : goal.returns-clause-rest
returns-clause-rest g c = λ b h.
    let long : 49152 ≤ length b = rw (g.met.M.FlatMem.revealed_length c.args.mem.now b h) c.requires.size in
    on_ok_weaker c.store.result
    (λ (revealed : g.M.FlatMem.reveals c.store.new.mem (overwritten b (32 * (512 + c.args.index)) (bytes_of c.args.interval.now))). record {
      bytes = overwritten b (32 * (512 + c.args.index)) (bytes_of c.args.interval.now);
      revealed = revealed;
      rest = λ k after. other b (bytes_of c.args.interval.now) (512 + c.args.index) (512 + k) refl (omega (arith, long, c.requires.inside)) (λ q. omega (arith, q, after));
    })
    (rw c.interval_bytes.ensures at (c.store.ensures.written b h))
