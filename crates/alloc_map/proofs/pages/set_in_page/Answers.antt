use Rattle.std.proofs.Common.{◌+◌, ◌-◌, ◌*◌, ◌/◌, ◌%◌, ◌≤◌, ℕ, length, arith, rules}
use Rattle.std.proofs.lemmas.Result.{on_ok_weaker}
use Rattle.flat_mem.specs.Memory.{overwritten, part}
use Rattle.alloc_map.proofs.PageLemmas.{marked_in_bytes}
use Rattle.alloc_map.proofs.pages.set_in_page.Goals as goal

pub returns-clause-marked : goal.returns-clause-marked
returns-clause-marked g c = λ b h.
    let n : ℕ = c.args.at / 4096 in
    let from : ℕ = c.args.at % 4096 in
    let end : ℕ = from + (c.args.stop - c.args.at) in
    let first : ℕ = from / 8 in
    let last : ℕ = (end - 1) / 8 + 1 in
    let fits : 512 * n + 512 ≤ length b = omega (arith, g.met.M.FlatMem.revealed_length c.args.mem.now b h, c.requires.inside) in
    on_ok_weaker c.write.result
    (λ (revealed : g.M.FlatMem.reveals c.write.new.self (overwritten b (512 * n + first) (part c.set_range.new.page first (last - first)))). record {
      now = overwritten b (512 * n + first) (part c.set_range.new.page first (last - first));
      revealed = revealed;
      bits = marked_in_bytes c.args.used b c.read_bytes.new.page c.set_range.new.page n c.args.at c.args.stop from end first last (omega arith) (omega (arith, c.requires.order)) (omega (arith, c.requires.order)) (omega (arith, c.requires.order, c.requires.one_page)) (search rules) (search rules) (c.in_ok-read_bytes.ensures.read b h) fits c.set_range.array_long c.set_range.ensures;
    })
    (c.write.ensures.written b (c.read_bytes.ensures.unchanged b h))
