use Rattle.std.proofs.Common.{◌≡◌, ℕ, ◌+◌, ◌-◌, ◌*◌, ◌/◌, ◌%◌, ◌<◌, true, false, arith, ◌∙◌, ap}
use Rattle.flat_mem.specs.Memory.{part}
use Rattle.alloc_map.proofs.PageLemmas.{all_in_page, found_in_page}
use Rattle.alloc_map.proofs.SearchLemmas.{found_on, found_back, found_none}
use Rattle.alloc_map.proofs.search.find_free_in_page.Goals as goal

pub returns-then-found-end-clause-free : goal.returns-then-found-end-clause-free
returns-then-found-end-clause-free g c = λ b h.
    let from : ℕ = c.args.from in
    let found : ℕ = c.find-found.result in
    let read = c.in_ok-read.ensures.read b h in
    let low = c.find-found.ensures.range.0 in
    let below : found < from % 4096 + (c.args.stop - from) = omega (arith, c.if-found-end.true) in
    let fits : found < 4096 = omega (arith, below, c.requires) in
    found_on b c.args.low from c.args.stop (from + (found - from % 4096)) (omega (arith, below, low))
    (found_in_page b c.read.new.into from read false found low fits (c.find-found.ensures.found below))
    (all_in_page b c.read.new.into from read true found (omega (arith, fits)) c.find-found.ensures.before)

pub returns-then-found-place-clause-free : goal.returns-then-found-place-clause-free
returns-then-found-place-clause-free g c = λ b h.
    let low : ℕ = c.args.low in
    let found : ℕ = c.find-found-2.result in
    let page : c.args.from / 4096 ≡ low / 4096 = omega (arith, c.requires) in
    let read = c.in_ok-read.ensures.read b h ∙ ap (λ n. part b (512 * n) 512) page in
    let above = c.find-found-2.ensures.range.0 in
    let below : found < c.args.from % 4096 = omega (arith, c.if-found-place.true) in
    found_back b low c.args.from c.args.stop (low + (found - low % 4096)) (omega arith) (omega (arith, below, above, page, c.requires)) c.requires.order
    (found_in_page b c.read.new.into low read false found above (omega (arith, below)) (c.find-found-2.ensures.found below))

pub returns-clause-free : goal.returns-clause-free
returns-clause-free g c = λ b h.
    let low : ℕ = c.args.low in
    let from : ℕ = c.args.from in
    let page : from / 4096 ≡ low / 4096 = omega (arith, c.requires) in
    let read = c.in_ok-read.ensures.read b h in
    let back = read ∙ ap (λ n. part b (512 * n) 512) page in
    found_none b low from c.args.stop
    (λ s above below. all_in_page b c.read.new.into low back true c.find-found-2.result (omega (arith, c.find-found-2.ensures.range)) c.find-found-2.ensures.before s above (omega (arith, below, page, c.if-found-place.false, c.find-found-2.ensures.range)))
    (λ s above below. all_in_page b c.read.new.into from read true c.find-found.result (omega (arith, c.find-found.ensures.range, page, c.requires)) c.find-found.ensures.before s above (omega (arith, below, c.if-found-end.false, c.find-found.ensures.range)))
