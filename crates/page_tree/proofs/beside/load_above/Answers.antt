use Rattle.std.proofs.Common.{◌≡◌, ◌+◌, ◌/◌, get_or, refl, arith}
use Rattle.page_tree.specs.Page.{page_at}
use Rattle.page_tree.proofs.Inner.{links_fit}
use Rattle.page_tree.proofs.Paired.{above_inner, above_index, above_full}
use Rattle.page_tree.proofs.RebalancingLaws.{above_like, above_form, above_underfull}
use Rattle.page_tree.proofs.Calls.{looks_as}
use Rattle.page_tree.proofs.beside.load_above.Goals as goal
use Rattle.page_tree.proofs.beside.load_above.Goals.{then-above-ne2-via-then-above-ne2, then-above-ne2-via-else-above-ne2+then-count-eq0, then-above-ne2-via-else-above-ne2+else-count-eq0+then-count, then-above-ne2-via-else-above-ne2+else-count-eq0+else-count+then-index-count}

pub returns-then-above-ne2-clause-well : goal.returns-then-above-ne2-clause-well
returns-then-above-ne2-clause-well g c = λ e b h records at page root first top pending.
    let read : c.load.new.page ≡ page_at b (get_or c.args.path.now.pages (c.args.level + 1) 0) = c.in-Ok.ensures.read b h in
    let inner = above_inner e g.row.K (g.M.FlatMem.size c.args.mem.now / 512) b records c.args.levels c.args.level c.args.path.now.pages c.args.path.now.index at page root first top pending c.requires.below.some c.requires.below.lower c.load.new.page read in
    let index = above_index e g.row.K (g.M.FlatMem.size c.args.mem.now / 512) b records c.args.levels c.args.level c.args.path.now.pages c.args.path.now.index at page root first top pending c.requires.below.some c.requires.below.lower c.load.new.page read in
    elim c.then-above-ne2.branch [
      | then-above-ne2-via-then-above-ne2 w ↦ absurd (omega (arith, w.if-above-ne2.true, inner.kind))
      | then-above-ne2-via-else-above-ne2+then-count-eq0 w ↦ absurd (omega (arith, w.if-count-eq0.true, inner.count, inner.some, c.filled_of-count.ensures))
      | then-above-ne2-via-else-above-ne2+else-count-eq0+then-count w ↦ absurd (omega (arith, w.if-count.true, inner.count, inner.most, c.filled_of-count.ensures))
      | then-above-ne2-via-else-above-ne2+else-count-eq0+else-count+then-index-count w ↦ absurd (omega (arith, w.if-index-count.true, index, c.filled_of-count.ensures))
    ]

pub returns-then-level-levels-clause-well : goal.returns-then-level-levels-clause-well
returns-then-level-levels-clause-well g c = λ e b h records at page root first top pending.
    let read : c.load.new.page ≡ page_at b (get_or c.args.path.now.pages (c.args.level + 1) 0) = c.in-Ok.ensures.read b h in
    let full = above_full e g.row.K (g.M.FlatMem.size c.args.mem.now / 512) b records c.args.levels c.args.level c.args.path.now.pages c.args.path.now.index at page root first top pending c.requires.below.some c.requires.below.lower c.load.new.page read
    (omega (arith, c.if-level-levels.true)) in
    omega (arith, full, (links_fit g.row.K c.requires.sized.some_key c.requires.sized.key_most).2, c.if-count-eq1.true, c.filled_of-count.ensures)

pub returns-then-above-ne2-clause-broken : goal.returns-then-above-ne2-clause-broken
returns-then-above-ne2-clause-broken g c = λ e root b d h rebalancing.
    let form = above_form g.row.K b d c.args.levels c.args.level root c.args.path.now.pages c.args.path.now.index rebalancing c.requires.below.some c.requires.below.lower (get_or c.args.path.now.pages (c.args.level + 1) 0) refl c.load.new.page (c.in-Ok.ensures.read d h) in
    elim c.then-above-ne2.branch [
      | then-above-ne2-via-then-above-ne2 w ↦ absurd (w.if-above-ne2.true form.0.kind)
      | then-above-ne2-via-else-above-ne2+then-count-eq0 w ↦ absurd (omega (arith, w.if-count-eq0.true, form.0.some, c.filled_of-count.ensures))
      | then-above-ne2-via-else-above-ne2+else-count-eq0+then-count w ↦ absurd (omega (arith, w.if-count.true, form.0.most, c.filled_of-count.ensures))
      | then-above-ne2-via-else-above-ne2+else-count-eq0+else-count+then-index-count w ↦ absurd (omega (arith, w.if-index-count.true, form.1, c.filled_of-count.ensures))
    ]

pub returns-then-level-levels-clause-broken : goal.returns-then-level-levels-clause-broken
returns-then-level-levels-clause-broken g c = λ e root b d h rebalancing.
    above_underfull g.row.K b d c.args.levels c.args.level root c.args.path.now.pages c.args.path.now.index rebalancing c.requires.below.some c.requires.below.lower (get_or c.args.path.now.pages (c.args.level + 1) 0) refl c.load.new.page (c.in-Ok.ensures.read d h)
    e (g.M.FlatMem.size c.args.mem.now / 512) (omega (arith, c.if-count-eq1.true, c.filled_of-count.ensures)) c.if-level-levels.true (links_fit g.row.K c.requires.sized.some_key c.requires.sized.key_most).2

pub returns-clause-like : goal.returns-clause-like
returns-clause-like g c = λ root b d h rebalancing.
    above_like g.row.K b d c.args.levels c.args.level root c.args.path.now.pages c.args.path.now.index rebalancing c.requires.below.some c.requires.below.lower (get_or c.args.path.now.pages (c.args.level + 1) 0) refl c.load.new.page (c.in-Ok.ensures.read d h)

pub returns-in-Err-clause-looks : goal.returns-in-Err-clause-looks
returns-in-Err-clause-looks g c = looks_as g.M.FlatMem c.load.ensures.looks c.in-Err.ensures.looks.cause (omega (arith, c.load.ensures.looks.cost))

pub returns-then-above-ne2-clause-looks : goal.returns-then-above-ne2-clause-looks
returns-then-above-ne2-clause-looks g c = looks_as g.M.FlatMem c.load.ensures.looks tt (omega (arith, c.load.ensures.looks.cost))

pub returns-then-level-levels-clause-looks : goal.returns-then-level-levels-clause-looks
returns-then-level-levels-clause-looks g c = looks_as g.M.FlatMem c.load.ensures.looks tt (omega (arith, c.load.ensures.looks.cost))

pub returns-clause-looks : goal.returns-clause-looks
returns-clause-looks g c = looks_as g.M.FlatMem c.load.ensures.looks tt (omega (arith, c.load.ensures.looks.cost))
