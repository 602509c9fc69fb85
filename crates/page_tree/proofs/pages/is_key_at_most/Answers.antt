use Rattle.std.proofs.Common.{◌≡◌, ◌≤◌, ℕ, length, subst, arith, rules}
use Rattle.byteorder.specs.Endian.{big_from}
use Rattle.flat_mem.specs.Memory.{part}
use Rattle.flat_mem.specs.Parts.{length-part}
use Rattle.flat_mem.specs.Order.{at_most}
use Rattle.page_tree.proofs.Compared.{other_numbers, part_fits}
use Rattle.page_tree.proofs.pages.is_key_at_most.Goals as goal

pub returns : goal.returns
unfolding at_most
returns g c =
    let long : 8 ≤ g.row.K = omega (arith, c.if-this-lt8.false) in
    let whole : length (part c.args.page.now c.args.at g.row.K) ≡ g.row.K = length-part c.args.page.now c.args.at g.row.K (omega (arith, c.requires.inside, c.fits-page)) in
    let read = subst (λ (n : ℕ). c.read_u64-first.result ≡ big_from 0 8 (part c.args.page.now c.args.at n)) (omega arith) c.read_u64-first.ensures in
    other_numbers (part c.args.page.now c.args.at g.row.K) c.args.key.now c.read_u64-first.result c.args.limit (omega (arith, long, whole)) (omega (arith, long, c.requires.width)) (part_fits c.args.page.now c.args.at g.row.K c.fits-page) (search rules) read (c.requires.limit long) c.if-first-limit.false
