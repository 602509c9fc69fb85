use Rattle.std.proofs.Common.{◌∙◌, false, get_or, sym, arith}
use Rattle.std.proofs.lemmas.List.{get_or_default}
use Rattle.volume_view.proofs.MarkLemmas.{marked_more, above_all, met_again}
use Rattle.volume_view.proofs.once.mark_pages.Goals as goal
use Rattle.volume_view.proofs.once.mark_pages.Goals.{then-page-len-via-then-page-len, then-page-len-via-else-page-len+then-index}

pub returns-then-page-len-clause-twice : goal.returns-then-page-len-clause-twice
returns-then-page-len-clause-twice g c = λ _ once.
    let so_far = c.loop-j.invariant in
    elim c.then-page-len.branch [
      | then-page-len-via-then-page-len w ↦ above_all c.args.top c.args.used.now c.loop-j.j c.loop-j-test.true c.loop-j.marks.items so_far (omega (arith, w.if-page-len.true, c.len.ensures, so_far.long)) once
      | then-page-len-via-else-page-len+then-index w ↦
          met_again c.args.top c.args.used.now c.loop-j.j c.loop-j-test.true c.loop-j.marks.items so_far (omega (arith, w.if-page-len.false, c.len.ensures, so_far.long))
          (get_or_default c.loop-j.marks.items (get_or c.args.used.now c.loop-j.j 0) false _ (omega (arith, w.if-page-len.false, c.len.ensures)) ∙ sym w.index.ensures ∙ w.if-index.true) once
    ]

pub loop-j-preserved : goal.loop-j-preserved
loop-j-preserved g c =
    let so_far = c.loop-j.invariant in
    marked_more c.args.top c.args.used.now c.loop-j.j c.loop-j-test.true c.loop-j.marks.items so_far (omega (arith, c.if-page-len.false, c.len.ensures, so_far.long))
    (get_or_default c.loop-j.marks.items (get_or c.args.used.now c.loop-j.j 0) false _ (omega (arith, c.if-page-len.false, c.len.ensures)) ∙ sym c.index.ensures ∙ c.if-index.false)
