use Rattle.std.proofs.Common.{◌≡◌, ℕ, ◌+◌, ◌-◌, ◌*◌, ◌<◌, arith, ◌∙◌, ap}
use Rattle.std.specs.Str.{bytes_eq}
use Rattle.flat_mem.specs.Memory.{part}
use Rattle.page_tree.specs.Page.{filled}
use Rattle.page_tree.proofs.Found.{not_here, last_here}
use Rattle.page_tree.proofs.sought.last_of_key.Goals as goal

pub returns-then-not-is_same : goal.returns-then-not-is_same
returns-then-not-is_same g c =
    let width : (8 + g.row.E * (c.count_at_most-found.result - 1)) + g.row.K - (8 + g.row.E * (c.count_at_most-found.result - 1)) ≡ g.row.K = omega arith in
    not_here g.row.E g.row.K c.args.page.now c.args.key.now c.count_at_most-found.result c.requires.widths c.if-found-eq0.false (omega (arith, c.count_at_most-found.ensures.below, c.filled_of.ensures)) c.count_at_most-found.ensures.holds
    (λ (more : c.count_at_most-found.result < filled c.args.page.now). c.count_at_most-found.ensures.above (omega (arith, more, c.filled_of.ensures)))
    (c.if-not-is_same.ensures ∙ ap (λ (n : ℕ). bytes_eq (part c.args.page.now (8 + g.row.E * (c.count_at_most-found.result - 1)) n) c.args.key.now) width)

pub returns : goal.returns
returns g c =
    let width : (8 + g.row.E * (c.count_at_most-found.result - 1)) + g.row.K - (8 + g.row.E * (c.count_at_most-found.result - 1)) ≡ g.row.K = omega arith in
    last_here g.row.E g.row.K c.args.page.now c.args.key.now c.count_at_most-found.result c.requires.widths c.if-found-eq0.false (omega (arith, c.count_at_most-found.ensures.below, c.filled_of.ensures)) c.count_at_most-found.ensures.holds
    (λ (more : c.count_at_most-found.result < filled c.args.page.now). c.count_at_most-found.ensures.above (omega (arith, more, c.filled_of.ensures)))
    (c.if-not-is_same.ensures ∙ ap (λ (n : ℕ). bytes_eq (part c.args.page.now (8 + g.row.E * (c.count_at_most-found.result - 1)) n) c.args.key.now) width)
