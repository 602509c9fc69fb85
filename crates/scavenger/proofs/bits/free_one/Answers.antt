use Rattle.std.proofs.Common.{◌≡◌, ◌+◌, false, refl, ◌∙◌, rules}
use Rattle.flat_mem.specs.Vec.{vec_mem_bytes}
use Rattle.scavenger.proofs.MarkLemmas.{marked_as}
use Rattle.scavenger.proofs.bits.free_one.Goals as goal

pub returns : goal.returns
returns g c =
    let before : vec_mem_bytes c.over.result.mem.now ≡ vec_mem_bytes c.args.map.now = search rules in
    let marked = c.in-Ok.ensures.given (vec_mem_bytes c.over.result.mem.now) refl in
    marked_as false _ _ (vec_mem_bytes c.over.result.mem.now) marked.now c.args.sector (c.args.sector + 1) c.args.sector (c.args.sector + 1) before (marked.revealed ∙ (search rules)) refl refl marked.bits
