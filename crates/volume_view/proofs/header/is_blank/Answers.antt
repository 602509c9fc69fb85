use Rattle.std.proofs.Common.{arith}
use Rattle.volume_view.proofs.LevelLemmas.{blank_of, blank_at}
use Rattle.volume_view.proofs.header.is_blank.Goals as goal

pub returns-then-page-i-ne0-clause-no : goal.returns-then-page-i-ne0-clause-no
returns-then-page-i-ne0-clause-no c = λ _ blank. c.if-page-i-ne0.true (blank_at c.args.page.now c.loop-i.i blank (omega (arith, c.loop-i.auto.i)) (omega (arith, c.loop-i-test.true)))

pub returns-clause-yes : goal.returns-clause-yes
returns-clause-yes c = λ _. blank_of c.args.page.now c.told-page (λ k from below. c.loop-i.invariant k from (omega (arith, below, c.loop-i-test.false)))
