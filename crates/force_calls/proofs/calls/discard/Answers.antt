use Rattle.std.proofs.Common.{◌≡◌, ◌∙◌, sym, refl, rules}
use Rattle.force_calls.proofs.RunLemmas.{within_kept}
use Rattle.force_calls.proofs.LoopLemmas.{forgetting_none, forgetting_on, forgetting_more, found_below, revealed_slot, has_in}
use Rattle.force_calls.proofs.calls.discard.Goals as goal
use Rattle.force_calls.proofs.calls.discard.Goals.{in-Some, in_default}

pub loop-look-init : goal.loop-look-init
loop-look-init g c = (forgetting_none c.is_short-by_page.result c.args.id c.args.first c.args.pages _ c.args.memory.now.pool, refl, refl)

pub loop-look-preserved : goal.loop-look-preserved
loop-look-preserved g c =
    let so_far = c.loop-look.invariant in
    let pool : c.frames-in-loop-look.result.now ≡ c.loop-look.memory.pool = search rules in
    elim c.match-held_at.branch [
      | in-Some w ↦
          let f = w.in-Some.ensures.held in
          let has = has_in pool f.1 in
          rw w.memory-is (
            forgetting_more so_far.0 w.in-Some.slot f.0 has (within_kept c.args.id c.args.first c.args.pages f.0 f.3)
                (λ i x x_has within look. revealed_slot w.in-Some.slot i w.in-Some._dirty x (w.in-Some.ensures.all i x (has_in (sym pool) x_has) within look))
                (w.clear.ensures.goes f.0 has) w.clear.ensures.swaps w.clear.ensures.slot,
            w.clear.ensures.disk ∙ so_far.1,
            w.clear.ensures.layout ∙ so_far.2,
          )
      | in_default w ↦
          rw w.memory-is (
            forgetting_on so_far.0 (λ i x has within look. w.in_default.not-Some (i, x.dirty) (c.held_at.ensures.all i x (has_in (sym pool) has) within look)),
            so_far.1,
            so_far.2,
          )
    ]

pub returns-clause-gone : goal.returns-clause-gone
returns-clause-gone g c = λ i f has within.
    let so_far = c.loop-look.invariant.0 in
    so_far.past i f (found_below c.is_short-by_page.result c.args.id c.args.first c.args.pages c.args.memory.now.pool c.loop-look.memory.pool i c.loop-look.look c.looks-look-end.result f so_far.goes.makes.count (search rules) c.loop-look-test.false has within) has within
