use Rattle.std.proofs.Common.{◌*◌, ◌+◌, ◌≤◌, ◌<◌, length, sym, ◌∙◌, ap, List, ℕ, arith, refl}
use Rattle.flat_mem.specs.Memory.{overwritten}
use Rattle.flat_mem.specs.Parts.{part-overwritten, length-overwritten}
use Rattle.flat_mem.specs.PartLaws.{part_size_is, part_inside, same_beside_written}
use Rattle.flat_mem.proofs.Outcomes.{on_ok, on_either, not_empty}
use Rattle.flat_mem.proofs.part.PartFlatMem.write.Goals as goal

pub returns-clause-written : goal.returns-clause-written
returns-clause-written g c = λ b h.
    let self = c.args.self.now in
    let piece = c.args.bytes.now in
    let fits : 512 * self.first + 512 * self.pages ≤ g.M.FlatMem.size self.mem = omega (arith, g.met.M.FlatMem.revealed_length self.mem h.whole h.revealed, h.inside) in
    let inside = rw (part_size_is (g.M.FlatMem.size self.mem) self.first self.pages fits) at c.requires.inside in
    on_ok c.write.result _ _
    (λ (reveals : g.M.FlatMem.reveals c.write.new.self (overwritten h.whole (512 * self.first + c.args.at) piece)). record {
      whole = overwritten h.whole (512 * self.first + c.args.at) piece;
      revealed = reveals;
      inside = omega (arith, h.inside, inside, length-overwritten h.whole piece (512 * self.first + c.args.at) (omega (arith, h.inside, inside)));
      is = ap (λ (x : List ℕ). overwritten x c.args.at piece) h.is ∙ sym (part-overwritten h.whole piece (512 * self.first) (512 * self.pages) c.args.at h.inside inside);
    })
    (c.write.ensures.written h.whole h.revealed)

pub returns-clause-kept : goal.returns-clause-kept
returns-clause-kept g c =
    let self = c.args.self.now in
    let piece = c.args.bytes.now in
    let filled : 0 < length piece = not_empty c.is_empty.result (length piece) c.is_empty.ensures c.if-is_empty.false in
    let some : 0 < c.args.at + length piece = omega (arith, filled) in
    let right = part_inside (g.M.FlatMem.size self.mem) self.first self.pages (c.args.at + length piece) some c.requires.inside in
    record {
      mem = c.write.ensures.kept;
      first = refl;
      pages = refl;
      others = λ w reveals.
          let fits : 512 * self.first + 512 * self.pages ≤ length w = omega (arith, g.met.M.FlatMem.revealed_length self.mem w reveals, right.0) in
          on_either c.write.result _ _ _
          (λ (wrote : g.M.FlatMem.reveals c.write.new.self (overwritten w (512 * self.first + c.args.at) piece)). (
            overwritten w (512 * self.first + c.args.at) piece,
            wrote,
            same_beside_written self.first self.pages c.args.at w piece right.1 fits,
          ))
          (λ (stays : g.M.FlatMem.reveals c.write.new.self w). (w, stays, record { prefix = refl; back = refl }))
          (c.write.ensures.written w reveals) (c.write.ensures.unchanged w reveals);
    }
