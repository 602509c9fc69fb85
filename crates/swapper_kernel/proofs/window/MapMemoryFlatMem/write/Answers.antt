use Rattle.std.proofs.Common.{◌≡◌, ◌<◌, ◌+◌, ◌*◌, ◌/◌, ◌%◌, ◌∙◌, refl, rules, arith, Err}
use Rattle.frame_pool.specs.FrameLaws.{filled_of}
use Rattle.swapper_kernel.specs.Maps.{pages_of}
use Rattle.swapper_kernel.specs.WindowLaws.{beside_then}
use Rattle.swapper_kernel.proofs.WindowLemmas.{accounted_at, beside_swaps, beside_changed, reveals_swapped, reveals_changed}
use Rattle.swapper_kernel.proofs.window.MapMemoryFlatMem.write.Goals as goal

pub returns-in_err-slot-clause-kept : goal.returns-in_err-slot-clause-kept
returns-in_err-slot-clause-kept g c =
    let self = c.args.self.now in
    let below : c.args.at / 512 < pages_of self.which self.swapper.now.layout = search rules in
    (refl, refl, beside_swaps self.which (c.args.at / 512) below c.fetch_map_page.ensures.layout c.fetch_map_page.ensures.moves.swaps c.fetch_map_page.ensures.moves.brings c.fetch_map_page.ensures.moves.steps)

pub returns-in_err-slot-clause-cause : goal.returns-in_err-slot-clause-cause
returns-in_err-slot-clause-cause g c =
    let self = c.args.self.now in
    let below : c.args.at / 512 < pages_of self.which self.swapper.now.layout = search rules in
    let same : c.from_residual.result ≡ Err c.in_err-slot.field-0.0 = search rules in
    rw same (accounted_at self.which _ _ self.swapper.now.pool self.swapper.now.layout (c.args.at / 512) below c.in_err-slot.field-0.0 c.in_err-slot.ensures.cause c.in_err-slot.ensures.sound)

pub change-requires-2-clause-filled : goal.change-requires-2-clause-filled
change-requires-2-clause-filled g c =
    let there = c.in_ok-slot.ensures.there in
    filled_of c.fetch_map_page.new.self.pool c.in_ok-slot.slot there.0 there.1

pub returns-clause-written : goal.returns-clause-written
returns-clause-written g c = λ b reveals.
    let self = c.args.self.now in
    let below : c.args.at / 512 < pages_of self.which self.swapper.now.layout = search rules in
    let there = c.in_ok-slot.ensures.there in
    let place : 512 * (c.args.at / 512) + c.args.at % 512 ≡ c.args.at = omega arith in
    reveals_changed self.which (c.args.at / 512) below (c.change-2.ensures.layout ∙ c.fetch_map_page.ensures.layout) there.0.home there.2 (c.args.at % 512) c.args.bytes.now c.requires.in_one_page
    (c.change-2.ensures.goes there.0 there.1) c.args.at place b (reveals_swapped self.which refl c.fetch_map_page.ensures.moves.swaps b reveals)

pub returns-clause-kept : goal.returns-clause-kept
returns-clause-kept g c =
    let self = c.args.self.now in
    let below : c.args.at / 512 < pages_of self.which self.swapper.now.layout = search rules in
    let there = c.in_ok-slot.ensures.there in (
      refl,
      refl,
      beside_then refl (beside_swaps self.which (c.args.at / 512) below refl c.fetch_map_page.ensures.moves.swaps c.fetch_map_page.ensures.moves.brings c.fetch_map_page.ensures.moves.steps)
          (beside_changed self.which (c.args.at / 512) below (c.change-2.ensures.layout ∙ c.fetch_map_page.ensures.layout) c.in_ok-slot.slot there.0 there.1 there.2 (c.args.at % 512) c.args.bytes.now
          c.requires.in_one_page (c.change-2.ensures.frame there.0 there.1) (c.change-2.ensures.goes there.0 there.1) (c.change-2.ensures.steps there.0 there.1)),
    )

pub returns-in_err-slot-clause-unchanged : goal.returns-in_err-slot-clause-unchanged
returns-in_err-slot-clause-unchanged g c = λ b reveals.
    let same : c.from_residual.result ≡ Err c.in_err-slot.field-0.0 = search rules in
    rw same (reveals_swapped c.args.self.now.which c.fetch_map_page.ensures.layout c.fetch_map_page.ensures.moves.swaps b reveals)

pub change-requires-clause-filled : goal.change-requires-clause-filled
change-requires-clause-filled g c =
    let there = c.in-Some.ensures.there in
    filled_of c.args.self.now.swapper.now.pool c.in-Some.here there.0 there.1

pub returns-in-Some-clause-written : goal.returns-in-Some-clause-written
returns-in-Some-clause-written g c = λ b reveals.
    let self = c.args.self.now in
    let below : c.args.at / 512 < pages_of self.which self.swapper.now.layout = search rules in
    let there = c.in-Some.ensures.there in
    let place : 512 * (c.args.at / 512) + c.args.at % 512 ≡ c.args.at = omega arith in
    reveals_changed self.which (c.args.at / 512) below c.change.ensures.layout there.0.home there.2 (c.args.at % 512) c.args.bytes.now c.requires.in_one_page
    (c.change.ensures.goes there.0 there.1) c.args.at place b reveals

pub returns-in-Some-clause-kept : goal.returns-in-Some-clause-kept
returns-in-Some-clause-kept g c =
    let self = c.args.self.now in
    let below : c.args.at / 512 < pages_of self.which self.swapper.now.layout = search rules in
    let there = c.in-Some.ensures.there in (
      refl,
      refl,
      beside_changed self.which (c.args.at / 512) below c.change.ensures.layout c.in-Some.here there.0 there.1 there.2 (c.args.at % 512) c.args.bytes.now
          c.requires.in_one_page (c.change.ensures.frame there.0 there.1) (c.change.ensures.goes there.0 there.1) (c.change.ensures.steps there.0 there.1),
    )
