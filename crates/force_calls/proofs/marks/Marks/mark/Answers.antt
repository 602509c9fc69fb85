use Rattle.std.proofs.Common.{rules, arith}
use Rattle.std.proofs.lemmas.Option.{same_Some}
use Rattle.frame_pool.specs.FrameLaws.{has_below}
use Rattle.force_calls.proofs.MarkLemmas.{marking_none, marking_on, marking_more}
use Rattle.force_calls.proofs.marks.Marks.mark.Goals as goal
use Rattle.force_calls.proofs.marks.Marks.mark.Goals.{in-Some, in_default}

pub loop-slot-init : goal.loop-slot-init
loop-slot-init g c = marking_none c.args.run.now.id c.args.run.now.first c.args.run.now.pages c.args.frames.now c.args.self.now.dirty (search rules)

pub loop-slot-preserved : goal.loop-slot-preserved
loop-slot-preserved g c =
    let so_far = c.loop-slot.invariant in
    let few = c.requires in
    elim c.match-dirty_at.branch [
      | in-Some w ↦
          let inside = w.in-Some.ensures.below in
          rw w.self-is (marking_more so_far w.in-Some.place (omega (arith, few, inside)) (λ f has within dirty. same_Some w.in-Some.place _ (w.in-Some.ensures.all f has within dirty)))
      | in_default w ↦
          rw w.self-is (marking_on so_far (λ f has within dirty. w.in_default.not-Some _ (c.dirty_at.ensures.all f has within dirty)))
    ]

pub returns : goal.returns
returns g c = λ i f has within dirty.
    let inside = has_below c.args.frames.now i f has in
    let count = c.frames-slot-end.ensures.count in
    let end = c.loop-slot-test.false in
    c.loop-slot.invariant.marked i f (omega (arith, inside, count, end)) has within dirty
