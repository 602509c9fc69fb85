use Rattle.std.proofs.Common.{arith, sym, ◌∙◌, inr}
use Rattle.std.proofs.lemmas.Option.{same_Some}
use Rattle.frame_pool.proofs.IndexLemmas.{widened, nearer, first_above_is, above_or_below}
use Rattle.frame_pool.proofs.chain.first_above.Goals as goal

pub loop-cursor-init : goal.loop-cursor-init
loop-cursor-init g c =
    let head = c.requires.indexed.heads c.args.bucket c.requires.below in
    rw c.head-cursor.ensures (record { above = tt; within = head.within; covers = λ other below is. inr (head.covers other below is) })

pub next-cursor-requires : goal.next-cursor-requires
next-cursor-requires g c = (rw c.in-Some.is at c.loop-cursor.invariant.within).0

pub loop-cursor-smaller : goal.loop-cursor-smaller
loop-cursor-smaller g c =
    let here = rw c.in-Some.is at c.loop-cursor.invariant.within in
    rw (c.in-Some.is, c.next-cursor.ensures) (nearer _ _ _ _ (c.requires.indexed.links c.in-Some.other _ here.1).within)

pub loop-cursor-preserved : goal.loop-cursor-preserved
loop-cursor-preserved g c =
    let here = rw c.in-Some.is at c.loop-cursor.invariant.within in
    let above = c.if-other-slot.false in
    rw c.next-cursor.ensures (record {
      above = (above, here.0, here.1);
      within = widened _ _ c.in-Some.other _ _ (let h = here.0 in omega (arith, h)) (c.requires.indexed.links c.in-Some.other _ here.1).within;
      covers = λ other below is. above_or_below _ c.args.table.now c.args.bucket c.in-Some.other c.requires.indexed here.1 other is;
    })

pub returns-then-other-slot : goal.returns-then-other-slot
returns-then-other-slot g c =
    let invariant = c.loop-cursor.invariant in
    let low = c.if-other-slot.true in
    first_above_is _ _ _ _ _ c.loop-cursor.cursor (λ s is. rw (same_Some s c.in-Some.other (sym is ∙ c.in-Some.is)) low) invariant.above invariant.covers

pub returns-in_default : goal.returns-in_default
returns-in_default g c =
    let invariant = c.loop-cursor.invariant in
    first_above_is _ _ _ _ _ c.loop-cursor.cursor (λ s is. absurd (c.in_default.not-Some s is)) invariant.above invariant.covers
