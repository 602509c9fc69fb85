use Rattle.std.proofs.Common.{◌≡◌, ℕ, ◌+◌, ◌*◌, List, replicate, Err, refl, sym, ◌∙◌, ap, rules, arith, true, false}
use Rattle.std.proofs.lemmas.Bool.{true≢false}
use Rattle.flat_mem.specs.Vec.{vec_mem_bytes}
use Rattle.labelled_disk.specs.Layout.{vam}
use Rattle.alloc_map.specs.Bits.{is_used}
use Rattle.scavenger.proofs.MarkLemmas.{zeros_free, whole_run, marked_as}
use Rattle.scavenger.proofs.bits.mark_all.Goals as goal

pub unreachable-requires : goal.unreachable-requires
unreachable-requires g c =
    let same : vec_mem_bytes c.over.result.mem.now ≡ vec_mem_bytes c.args.map.now = search rules in
    let used = c.take.ensures.no_room (vec_mem_bytes c.over.result.mem.now) refl (c.in-Err-NoRoom.is ∙ ap Err c.in-Err-NoRoom.field-0-is) 0 (omega arith) (omega (arith, c.requires.some, c.over.ensures.sectors)) in
    true≢false (sym used ∙ ap (λ (b : List ℕ). is_used b 0) (same ∙ c.requires.zeros) ∙ zeros_free (512 * vam c.args.sectors) 0)

pub returns : goal.returns
returns g c =
    let same : vec_mem_bytes c.over.result.mem.now ≡ vec_mem_bytes c.args.map.now = search rules in
    let marked = c.in-Ok.ensures.taken (vec_mem_bytes c.over.result.mem.now) refl in
    let free : (i : ℕ) → is_used (vec_mem_bytes c.over.result.mem.now) i ≡ false =
    λ i. ap (λ (b : List ℕ). is_used b i) (same ∙ c.requires.zeros) ∙ zeros_free (512 * vam c.args.sectors) i in
    let lowest = c.in-Ok.ensures.lowest (vec_mem_bytes c.over.result.mem.now) refl (λ s above below. absurd (omega (arith, below))) in
    let run = whole_run c.args.sectors (vec_mem_bytes c.over.result.mem.now) c.in-Ok.field-0 free
    (rw (c.over.ensures.first, c.over.ensures.sectors) at lowest)
    (rw c.over.ensures.sectors at (c.in-Ok.ensures.longest (vec_mem_bytes c.over.result.mem.now) refl))
    (rw (c.over.ensures.first, c.over.ensures.sectors) at c.in-Ok.ensures.form) in
    marked_as true _ _ (vec_mem_bytes c.over.result.mem.now) marked.now 0 c.args.sectors c.in-Ok.field-0.0 (c.in-Ok.field-0.0 + c.in-Ok.field-0.1) same (marked.revealed ∙ (search rules))
    run.0 (omega (arith, run.0, run.1)) marked.bits
