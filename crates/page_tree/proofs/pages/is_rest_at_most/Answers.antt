use Rattle.std.proofs.Common.{arith, rules}
use Rattle.flat_mem.specs.Order.{at_most}
use Rattle.page_tree.proofs.Compared.{four_numbers}
use Rattle.page_tree.proofs.pages.is_rest_at_most.Goals as goal

pub returns : goal.returns
unfolding at_most
returns c =
    four_numbers c.args.key.now c.args.other.now c.read_u32-last.result c.read_u32-limit.result (omega (arith, c.if-key-ne4.false)) (omega (arith, c.if-other-ne4.false)) (search rules) (search rules) c.read_u32-last.ensures c.read_u32-limit.ensures
