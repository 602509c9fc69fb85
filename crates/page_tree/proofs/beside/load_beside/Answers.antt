use Rattle.std.proofs.Common.{inl, inr, ◌+◌, ◌/◌, arith, sym, ◌∙◌}
use Rattle.std.proofs.lemmas.Bool.{ltb-true}
use Rattle.page_tree.proofs.MetLaws.{inner_broken, leaf_broken, link_broken}
use Rattle.page_tree.proofs.RebalancingLaws.{met_like, leaf_like, inner_like, child_of_like}
use Rattle.page_tree.proofs.Calls.{looks_as}
use Rattle.page_tree.proofs.beside.load_beside.Goals as goal
use Rattle.page_tree.proofs.beside.load_beside.Goals.{then-page-ne1, else-page-ne1, then-page-ne2, else-page-ne2, else-level-eq1-via-then-level-eq1+else-count, else-level-eq1-via-else-level-eq1}

pub returns-then-at-eq0-clause-broken : goal.returns-then-at-eq0-clause-broken
returns-then-at-eq0-clause-broken g c = λ root levels paths indexes b d h rebalancing up_met form like inside.
    link_broken g.row.E g.row.K (g.M.FlatMem.size c.args.mem.now / 512) b (c.args.level + 1) c.args.up c.args.index c.link_of-at.result up_met (omega (arith, c.requires.some)) form (omega (arith, inside, like.count)) (c.link_of-at.ensures ∙ like.links c.args.index c.requires.child)
    (elim c.then-at-eq0.either [
      | inl none ↦ inl none
      | inr past ↦ inr (omega (arith, past.1, c.len.ensures))
    ])

pub returns-then-count-clause-broken : goal.returns-then-count-clause-broken
returns-then-count-clause-broken g c = λ root levels paths indexes b d h rebalancing up_met form like inside.
    let met = child_of_like g.row.K b c.args.level c.args.up c.args.above.now c.args.index c.link_of-at.result c.requires.some up_met form like inside c.link_of-at.ensures (omega (arith, c.if-at-eq0.false)) (omega (arith, g.met.M.FlatMem.revealed_length c.args.mem.now d h, rebalancing.long, c.if-at-pages.false, c.len.ensures)) in
    elim (met_like g.row.E g.row.K (g.M.FlatMem.size c.args.mem.now / 512) b d levels c.args.level root paths indexes rebalancing c.link_of-at.result c.load.new.page met (c.in-Ok.ensures.read d h)) [
      | inr broken ↦ broken
      | inl same ↦ leaf_broken g.row.E g.row.K (g.M.FlatMem.size c.args.mem.now / 512) b c.args.level c.link_of-at.result c.if-level-eq1.true met (λ leaf_form.
          let here = leaf_like g.row.E g.row.K c.load.new.page _ same leaf_form in
          elim c.if-page-ne1.branch [
            | then-page-ne1 w ↦ absurd (w.if-page-ne1.true here.kind)
            | else-page-ne1 w ↦ absurd (omega (arith, here.most, ltb-true (504 / g.row.E) c.filled_of-count.result (sym w.value-is ∙ c.if-count.true), c.filled_of-count.ensures))
          ])
    ]

pub returns-then-count-2-clause-broken : goal.returns-then-count-2-clause-broken
returns-then-count-2-clause-broken g c = λ root levels paths indexes b d h rebalancing up_met form like inside.
    let met = child_of_like g.row.K b c.args.level c.args.up c.args.above.now c.args.index c.link_of-at.result c.requires.some up_met form like inside c.link_of-at.ensures (omega (arith, c.if-at-eq0.false)) (omega (arith, g.met.M.FlatMem.revealed_length c.args.mem.now d h, rebalancing.long, c.if-at-pages.false, c.len.ensures)) in
    elim (met_like g.row.E g.row.K (g.M.FlatMem.size c.args.mem.now / 512) b d levels c.args.level root paths indexes rebalancing c.link_of-at.result c.load.new.page met (c.in-Ok.ensures.read d h)) [
      | inr broken ↦ broken
      | inl same ↦ inner_broken g.row.E g.row.K (g.M.FlatMem.size c.args.mem.now / 512) b c.args.level c.link_of-at.result met (omega (arith, c.requires.some, c.if-level-ne1.true)) (λ inner_form.
          let here = inner_like g.row.K c.load.new.page _ same inner_form in
          elim c.if-page-ne2.branch [
            | then-page-ne2 w ↦ absurd (w.if-page-ne2.true here.kind)
            | else-page-ne2 w ↦ absurd (omega (arith, here.most, ltb-true (500 / (g.row.K + 4)) c.filled_of-count.result (sym w.value-is ∙ c.if-count-2.true), c.filled_of-count.ensures))
          ])
    ]

pub returns-in-Err-clause-looks : goal.returns-in-Err-clause-looks
returns-in-Err-clause-looks g c = looks_as g.M.FlatMem c.load.ensures.looks c.in-Err.ensures.looks.cause (omega (arith, c.load.ensures.looks.cost))

pub returns-then-count-clause-looks : goal.returns-then-count-clause-looks
returns-then-count-clause-looks g c = looks_as g.M.FlatMem c.load.ensures.looks tt (omega (arith, c.load.ensures.looks.cost))

pub returns-then-count-2-clause-looks : goal.returns-then-count-2-clause-looks
returns-then-count-2-clause-looks g c = looks_as g.M.FlatMem c.load.ensures.looks tt (omega (arith, c.load.ensures.looks.cost))

pub returns-clause-looks : goal.returns-clause-looks
returns-clause-looks g c = looks_as g.M.FlatMem c.load.ensures.looks tt (omega (arith, c.load.ensures.looks.cost))
