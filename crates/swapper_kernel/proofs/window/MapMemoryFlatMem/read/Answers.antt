use Rattle.std.proofs.Common.{◌≡◌, ◌<◌, ◌+◌, ◌*◌, ◌/◌, ◌%◌, ℕ, ◌∙◌, ap, refl, rules, arith, length, Err}
use Rattle.flat_mem.specs.Memory.{part}
use Rattle.frame_pool.specs.FrameLaws.{filled_of}
use Rattle.swapper_kernel.specs.Maps.{pages_of}
use Rattle.swapper_kernel.specs.GoesLaws.{swaps_stands}
use Rattle.swapper_kernel.proofs.WindowLemmas.{accounted_at, beside_swaps, looked_swaps, read_shown}
use Rattle.swapper_kernel.proofs.window.MapMemoryFlatMem.read.Goals as goal

pub returns-in_err-slot-clause-kept : goal.returns-in_err-slot-clause-kept
returns-in_err-slot-clause-kept g c =
    let self = c.args.self.now in
    let below : c.args.at / 512 < pages_of self.which self.swapper.now.layout = search rules in
    (refl, refl, beside_swaps self.which (c.args.at / 512) below c.fetch_map_page.ensures.layout c.fetch_map_page.ensures.moves.swaps c.fetch_map_page.ensures.moves.brings c.fetch_map_page.ensures.moves.steps)

pub returns-in_err-slot-clause-looked : goal.returns-in_err-slot-clause-looked
returns-in_err-slot-clause-looked g c =
    let self = c.args.self.now in
    let below : c.args.at / 512 < pages_of self.which self.swapper.now.layout = search rules in
    (refl, refl, looked_swaps self.which (c.args.at / 512) below c.fetch_map_page.ensures.layout c.fetch_map_page.ensures.moves.swaps c.fetch_map_page.ensures.moves.brings c.fetch_map_page.ensures.moves.steps)

pub returns-in_err-slot-clause-cause : goal.returns-in_err-slot-clause-cause
returns-in_err-slot-clause-cause g c =
    let self = c.args.self.now in
    let below : c.args.at / 512 < pages_of self.which self.swapper.now.layout = search rules in
    let same : c.from_residual.result ≡ Err c.in_err-slot.field-0.0 = search rules in
    rw same (accounted_at self.which _ _ self.swapper.now.pool self.swapper.now.layout (c.args.at / 512) below c.in_err-slot.field-0.0 c.in_err-slot.ensures.cause c.in_err-slot.ensures.sound)

pub copy_out-requires-2-clause-filled : goal.copy_out-requires-2-clause-filled
copy_out-requires-2-clause-filled g c =
    let there = c.in_ok-slot.ensures.there in
    filled_of c.fetch_map_page.new.self.pool c.in_ok-slot.slot there.0 there.1

pub returns-clause-read : goal.returns-clause-read
returns-clause-read g c = λ b reveals.
    let self = c.args.self.now in
    let below : c.args.at / 512 < pages_of self.which self.swapper.now.layout = search rules in
    let now = swaps_stands c.fetch_map_page.ensures.moves.swaps reveals.memory reveals.stands in
    let there = c.in_ok-slot.ensures.there in
    let place : 512 * (c.args.at / 512) + c.args.at % 512 ≡ c.args.at = omega arith in
    c.copy_out-2.ensures there.0 there.1
    ∙ read_shown self.which _ c.fetch_map_page.new.self.pool self.swapper.now.layout reveals.memory now c.in_ok-slot.slot there.0 there.1 (c.args.at / 512) below there.2 b (c.args.at % 512) (length c.args.into.now) reveals.shows c.requires.in_one_page
    ∙ ap (λ (n : ℕ). part b n (length c.args.into.now)) place

pub returns-clause-kept : goal.returns-clause-kept
returns-clause-kept g c =
    let self = c.args.self.now in
    let below : c.args.at / 512 < pages_of self.which self.swapper.now.layout = search rules in
    (refl, refl, beside_swaps self.which (c.args.at / 512) below c.fetch_map_page.ensures.layout c.fetch_map_page.ensures.moves.swaps c.fetch_map_page.ensures.moves.brings c.fetch_map_page.ensures.moves.steps)

pub returns-clause-looked : goal.returns-clause-looked
returns-clause-looked g c =
    let self = c.args.self.now in
    let below : c.args.at / 512 < pages_of self.which self.swapper.now.layout = search rules in
    (refl, refl, looked_swaps self.which (c.args.at / 512) below c.fetch_map_page.ensures.layout c.fetch_map_page.ensures.moves.swaps c.fetch_map_page.ensures.moves.brings c.fetch_map_page.ensures.moves.steps)

pub copy_out-requires-clause-filled : goal.copy_out-requires-clause-filled
copy_out-requires-clause-filled g c =
    let there = c.in-Some.ensures.there in
    filled_of c.args.self.now.swapper.now.pool c.in-Some.here there.0 there.1

pub returns-in-Some-clause-read : goal.returns-in-Some-clause-read
returns-in-Some-clause-read g c = λ b reveals.
    let self = c.args.self.now in
    let below : c.args.at / 512 < pages_of self.which self.swapper.now.layout = search rules in
    let there = c.in-Some.ensures.there in
    let place : 512 * (c.args.at / 512) + c.args.at % 512 ≡ c.args.at = omega arith in
    c.copy_out.ensures there.0 there.1
    ∙ read_shown self.which _ self.swapper.now.pool self.swapper.now.layout reveals.memory reveals.stands c.in-Some.here there.0 there.1 (c.args.at / 512) below there.2 b (c.args.at % 512) (length c.args.into.now) reveals.shows c.requires.in_one_page
    ∙ ap (λ (n : ℕ). part b n (length c.args.into.now)) place
