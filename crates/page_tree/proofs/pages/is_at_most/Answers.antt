use Rattle.std.proofs.Common.{◌∙◌, arith, rules}
use Rattle.flat_mem.specs.Order.{at_most}
use Rattle.page_tree.proofs.Compared.{other_numbers, same_numbers}
use Rattle.page_tree.proofs.pages.is_at_most.Goals as goal

pub returns-then-first-limit : goal.returns-then-first-limit
unfolding at_most
returns-then-first-limit c =
    c.is_rest_at_most.ensures
    ∙ same_numbers c.args.key.now c.args.other.now c.read_u64-first.result c.read_u64-limit.result (omega (arith, c.if-key-lt8.false)) (omega (arith, c.if-other-lt8.false)) (search rules) (search rules) c.read_u64-first.ensures c.read_u64-limit.ensures c.if-first-limit.true

pub returns : goal.returns
unfolding at_most
returns c =
    other_numbers c.args.key.now c.args.other.now c.read_u64-first.result c.read_u64-limit.result (omega (arith, c.if-key-lt8.false)) (omega (arith, c.if-other-lt8.false)) (search rules) (search rules) c.read_u64-first.ensures c.read_u64-limit.ensures c.if-first-limit.false
