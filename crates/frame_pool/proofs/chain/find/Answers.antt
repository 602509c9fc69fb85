use Rattle.std.proofs.Common.{arith, sym, ◌∙◌}
use Rattle.frame_pool.proofs.IndexLemmas.{widened, nearer, step_covers, at_most}
use Rattle.frame_pool.proofs.chain.find.Goals as goal

pub loop-cursor-smaller : goal.loop-cursor-smaller
loop-cursor-smaller g c =
    let here = rw c.in-Some.is at c.loop-cursor.invariant.within in
    rw (c.in-Some.is, c.next-cursor.ensures) (nearer _ _ _ _ (c.requires.indexed.links c.in-Some.slot _ here.1).within)

pub loop-cursor-preserved : goal.loop-cursor-preserved
loop-cursor-preserved g c =
    let here = rw c.in-Some.is at c.loop-cursor.invariant.within in
    rw c.next-cursor.ensures (record {
      within = widened _ _ c.in-Some.slot _ _ (let h = here.0 in omega (arith, h)) (c.requires.indexed.links c.in-Some.slot _ here.1).within;
      covers = λ other is. step_covers c.args.table.now.frames c.args.table.now c.args.id c.args.page c.in-Some.slot c.requires.indexed here.1 (sym c.has.ensures ∙ c.if-has.false) other is
          (at_most other c.in-Some.slot _ c.in-Some.is (c.loop-cursor.invariant.covers other is));
    })
