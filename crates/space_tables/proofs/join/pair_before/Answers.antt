use Rattle.std.proofs.Common.{rules, ◌≡◌, ℕ, suc, ◌-◌, ◌<◌, ◌≤◌, length, Some, None, sym, ◌∙◌, ap, arith}
use Rattle.projection_laws.specs.Edits.{paired, paired_before}
use Rattle.space_tables.proofs.Rejoined.{first_alone, paired_after, before_is, own_is}
use Rattle.space_tables.proofs.join.pair_before.Goals as goal

pub returns-in_default-clause-paired : goal.returns-in_default-clause-paired
returns-in_default-clause-paired g c = λ slots xs h long own before.
    let same : paired_before xs c.args.index ≡ xs = first_alone xs c.args.index (omega (arith, c.requires.order.0, long)) (before ∙ c.in_default.is) in
    rw same (h, long)

pub returns-clause-paired : goal.returns-clause-paired
returns-clause-paired g c = λ slots xs h long own before.
    let k = c.args.index in
    let some : 1 ≤ k = search (rules, c.requires.order.1) in
    let done = c.in_ok-count.ensures.paired slots xs h long (before_is xs k some ∙ before ∙ c.in-Some.is) (own_is xs k some ∙ own) in
    rw (paired_after xs k some) (done.0, done.1)
