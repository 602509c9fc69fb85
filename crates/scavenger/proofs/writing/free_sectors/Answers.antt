use Rattle.std.proofs.Common.{◌≡◌, Err, rules, ◌∙◌, sym, arith, slice_index_or}
use Rattle.std.proofs.lemmas.Option.{slice_get-get_or}
use Rattle.label_survey.specs.declared.sector_state.SectorState.TheVariants.{Free}
use Rattle.scavenger.proofs.CarryLemmas.{IsSoFar, none_so_far, passed_one, freed_one, freed_stopped, all_freed}
use Rattle.scavenger.proofs.RowLemmas.{carries_none}
use Rattle.scavenger.proofs.writing.free_sectors.Goals as goal
use Rattle.scavenger.proofs.writing.free_sectors.Goals.{then-is_freed+in_ok-write_label, else-is_freed}

pub loop-i-init : goal.loop-i-init
loop-i-init g c = none_so_far c.args.first c.args.sector_states.now (g.D.Disk.state c.args.disk.now) (carries_none (g.D.Disk.state c.args.disk.now))

pub write_label-requires : goal.write_label-requires
write_label-requires g c = omega (arith, c.loop-i.invariant.made.later.sectors, c.requires, c.loop-i-test.true)

pub returns-in_err-write_label : goal.returns-in_err-write_label
returns-in_err-write_label g c =
    let same : c.from_residual.result ≡ Err c.in_err-write_label.field-0.0 = search rules in
    rw same (freed_stopped c.args.first c.args.sector_states.now (g.D.Disk.state c.args.disk.now) (g.D.Disk.state c.loop-i.disk) c.loop-i.i
    (slice_index_or c.args.sector_states.now c.loop-i.i Free) (slice_get-get_or c.args.sector_states.now c.loop-i.i Free c.loop-i-test.true) c.loop-i.invariant
    (g.D.Disk.state c.write_label.new.self) _ _ (sym c.is_freed.ensures ∙ c.if-is_freed.true) c.in_err-write_label.ensures)

pub loop-i-preserved : goal.loop-i-preserved
loop-i-preserved g c =
    let there = slice_get-get_or c.args.sector_states.now c.loop-i.i Free c.loop-i-test.true in
    elim c.if-is_freed.branch [
      | then-is_freed+in_ok-write_label w ↦
          rw w.disk-is (freed_one c.args.first c.args.sector_states.now (g.D.Disk.state c.args.disk.now) (g.D.Disk.state c.loop-i.disk) c.loop-i.i
          (slice_index_or c.args.sector_states.now c.loop-i.i Free) there c.loop-i.invariant (g.D.Disk.state w.write_label.new.self)
          (sym c.is_freed.ensures ∙ w.if-is_freed.true) w.in_ok-write_label.ensures)
      | else-is_freed w ↦
          rw w.disk-is (passed_one c.args.first c.args.sector_states.now (g.D.Disk.state c.args.disk.now) (g.D.Disk.state c.loop-i.disk) c.loop-i.i
          (slice_index_or c.args.sector_states.now c.loop-i.i Free) there c.loop-i.invariant (sym c.is_freed.ensures ∙ w.if-is_freed.false))
    ]

pub returns : goal.returns
returns g c = all_freed c.args.first c.args.sector_states.now (g.D.Disk.state c.args.disk.now) (g.D.Disk.state c.loop-i.disk) c.loop-i.i (omega (arith, c.loop-i-test.false)) c.loop-i.invariant
