use Rattle.std.proofs.Common.{◌≡◌, ◌-◌, ◌+◌, ◌%◌, ℕ, arith, ap, ◌∙◌}
use Rattle.alloc_map.specs.Bits.{free_in}
use Rattle.alloc_map.proofs.BitLemmas.{free_in_le}
use Rattle.alloc_map.proofs.PageLemmas.{free_in_page}
use Rattle.alloc_map.proofs.pages.count_in_page.Goals as goal

pub returns-clause-count : goal.returns-clause-count
returns-clause-count g c = λ b h.
    let n : ℕ = c.args.stop - c.args.at in
    let len : (c.args.at % 4096 + n) - c.args.at % 4096 ≡ n = omega arith in
    c.count_free.ensures ∙ ap (free_in c.read.new.into (c.args.at % 4096)) len ∙ free_in_page b c.read.new.into c.args.at (c.in_ok-read.ensures.read b h) n (omega (arith, c.requires.one_page, c.requires.order))

pub returns-clause-form : goal.returns-clause-form
returns-clause-form g c = omega (arith, c.count_free.ensures, free_in_le c.read.new.into (c.args.at % 4096) ((c.args.at % 4096 + (c.args.stop - c.args.at)) - c.args.at % 4096))
