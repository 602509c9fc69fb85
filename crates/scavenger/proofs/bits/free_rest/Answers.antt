use Rattle.std.proofs.Common.{◌≡◌, ℕ, ◌∙◌, sym, subst, arith, slice_index_or, length}
use Rattle.std.proofs.lemmas.Option.{slice_get-get_or}
use Rattle.flat_mem.specs.Vec.{vec_mem_bytes}
use Rattle.label_survey.specs.declared.sector_state.SectorState.TheVariants.{Free}
use Rattle.scavenger.specs.Marks.{IsMarkedSoFar}
use Rattle.scavenger.proofs.MarkLemmas.{passed, freed}
use Rattle.scavenger.proofs.bits.free_rest.Goals as goal
use Rattle.scavenger.proofs.bits.free_rest.Goals.{then-not-is_kept, else-not-is_kept}

pub loop-i-init : goal.loop-i-init
loop-i-init g c = c.requires.full

pub free_one-requires-clause-size : goal.free_one-requires-clause-size
free_one-requires-clause-size g c = c.loop-i.invariant.size

pub loop-i-preserved : goal.loop-i-preserved
loop-i-preserved g c =
    let x = slice_index_or c.args.sector_states.now c.loop-i.i Free in
    let there = slice_get-get_or c.args.sector_states.now c.loop-i.i Free c.loop-i-test.true in
    elim c.if-not-is_kept.branch [
      | then-not-is_kept w ↦
          rw w.map-is (freed c.args.layout.now.sectors c.args.layout.now.first c.args.sector_states.now c.loop-i.i x there c.requires.all (vec_mem_bytes c.loop-i.map) (vec_mem_bytes w.free_one.new.map)
          (sym c.is_kept.ensures ∙ w.if-not-is_kept.true) c.loop-i.invariant w.free_one.ensures)
      | else-not-is_kept w ↦
          rw w.map-is (passed c.args.layout.now.sectors c.args.layout.now.first c.args.sector_states.now c.loop-i.i x there c.requires.all (vec_mem_bytes c.loop-i.map)
          (sym c.is_kept.ensures ∙ w.if-not-is_kept.false) c.loop-i.invariant)
    ]

pub returns : goal.returns
returns g c =
    let all : c.loop-i.i ≡ length c.args.sector_states.now = omega (arith, c.loop-i-test.false, c.loop-i.auto.i-end) in
    subst (λ (k : ℕ). IsMarkedSoFar c.args.layout.now.sectors c.args.layout.now.first c.args.sector_states.now k (vec_mem_bytes c.loop-i.map)) all c.loop-i.invariant
