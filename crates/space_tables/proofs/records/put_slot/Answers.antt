use Rattle.std.proofs.Common.{rules, ◌+◌, ◌≡◌, ℕ, ◌*◌, ◌≤◌, length, arith}
use Rattle.std.proofs.lemmas.Result.{on_ok_weaker}
use Rattle.flat_mem.specs.Memory.{overwritten}
use Rattle.space_tables.proofs.Writes.{other, slot_written}
use Rattle.space_tables.proofs.records.put_slot.Goals as goal

pub returns-clause-written : goal.returns-clause-written
returns-clause-written g c = λ slots xs o h is.
    let long : 49152 ≤ length h.bytes = rw (g.met.M.FlatMem.revealed_length c.args.mem.now h.bytes h.revealed) c.requires.size in
    on_ok_weaker c.store.result
    (λ (revealed : g.M.FlatMem.reveals c.store.new.mem (overwritten h.bytes (32 * c.args.handle) c.args.bytes.now)). record {
      bytes = overwritten h.bytes (32 * c.args.handle) c.args.bytes.now;
      revealed = revealed;
      are = slot_written h.bytes c.args.bytes.now slots xs h.are long c.args.handle o c.requires.inside is;
    })
    (c.store.ensures.written h.bytes h.revealed)

pub returns-clause-rest : goal.returns-clause-rest
returns-clause-rest g c = λ b h.
    let long : 49152 ≤ length b = rw (g.met.M.FlatMem.revealed_length c.args.mem.now b h) c.requires.size in
    on_ok_weaker c.store.result
    (λ (revealed : g.M.FlatMem.reveals c.store.new.mem (overwritten b (32 * c.args.handle) c.args.bytes.now)). record {
      bytes = overwritten b (32 * c.args.handle) c.args.bytes.now;
      revealed = revealed;
      rest = λ k after. other b c.args.bytes.now c.args.handle (512 + k) (search rules) (omega (arith, long, c.requires.inside)) (λ q. omega (arith, q, c.requires.inside));
    })
    (c.store.ensures.written b h)
