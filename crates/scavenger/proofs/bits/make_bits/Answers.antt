use Rattle.std.proofs.Common.{ℕ, ◌*◌, List, ◌∙◌, ap, arith}
use Rattle.flat_mem.specs.Vec.{vec_mem_bytes}
use Rattle.alloc_map.specs.Bits.{is_used}
use Rattle.scavenger.proofs.MarkLemmas.{begun, all_marked, zeros_free}
use Rattle.scavenger.proofs.LayoutLemmas.{of_layout, first_within}
use Rattle.scavenger.proofs.bits.make_bits.Goals as goal

pub free_rest-requires-clause-all : goal.free_rest-requires-clause-all
free_rest-requires-clause-all g c =
    let parts = of_layout c.args.layout.now c.args.layout.now.sectors c.requires.layout in
    omega (arith, c.requires.all, parts.first, first_within c.args.layout.now.sectors c.requires.counted)

pub free_rest-requires-clause-full : goal.free_rest-requires-clause-full
free_rest-requires-clause-full g c =
    let parts = of_layout c.args.layout.now c.args.layout.now.sectors c.requires.layout in
    begun c.args.layout.now.sectors c.args.layout.now.first c.args.sector_states.now (vec_mem_bytes c.in-Ok.map) (vec_mem_bytes c.mark_all.new.map)
    (omega (arith, c.in-Ok.ensures.size, parts.bits)) (omega (arith, parts.first, first_within c.args.layout.now.sectors c.requires.counted))
    (λ i. ap (λ (b : List ℕ). is_used b i) c.in-Ok.ensures.bytes ∙ zeros_free (512 * c.args.layout.now.vam) i) c.mark_all.ensures

pub returns-clause-used : goal.returns-clause-used
returns-clause-used g c =
    let parts = of_layout c.args.layout.now c.args.layout.now.sectors c.requires.layout in
    all_marked c.args.layout.now.sectors c.args.layout.now.first c.args.sector_states.now (vec_mem_bytes c.free_rest.new.map)
    (omega (arith, c.requires.all, parts.first, first_within c.args.layout.now.sectors c.requires.counted)) c.free_rest.ensures
