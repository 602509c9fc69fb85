use Rattle.std.proofs.Common.{rules, ◌∙◌, sym, arith, slice_index_or}
use Rattle.std.proofs.lemmas.Option.{slice_get-get_or}
use Rattle.label_survey.specs.declared.sector_state.SectorState.TheVariants.{Free}
use Rattle.scavenger.proofs.RowLemmas.{carries_err}
use Rattle.volume_convert.proofs.LeaderRuns.{no_head, passed_kept, passed_full, led_one, led_stopped}
use Rattle.volume_convert.proofs.leaders.write_leaders.Goals as goal
use Rattle.volume_convert.proofs.leaders.write_leaders.Goals.{then-not-is_kept+then-placed-heads+in_ok-write, else-not-is_kept, else-not-is_kept-via-then-not-is_kept+else-placed-heads, else-not-is_kept-via-else-not-is_kept}

pub returns-in_err-write : goal.returns-in_err-write
returns-in_err-write g c =
    let here = slice_get-get_or c.args.sector_states.now c.loop-i.i Free c.loop-i-test.true in
    let there = slice_get-get_or c.args.heads.now c.loop-i.placed no_head c.if-placed-heads.true in
    carries_err _ _ _ _ c.in_err-write.field-0.0 (search rules)
    (led_stopped c.args.first c.args.sector_states.now c.args.heads.now (g.D.Disk.state c.args.disk.now) (g.D.Disk.state c.loop-i.disk) c.loop-i.i c.loop-i.placed
    (slice_index_or c.args.sector_states.now c.loop-i.i Free) here c.loop-i.invariant (slice_index_or c.args.heads.now c.loop-i.placed no_head) there (sym c.is_kept.ensures ∙ c.if-not-is_kept.true)
    c.leader.result c.leader.ensures (g.D.Disk.state c.write.new.self) _ _ c.in_err-write.ensures)

pub loop-i-preserved : goal.loop-i-preserved
loop-i-preserved g c =
    let here = slice_get-get_or c.args.sector_states.now c.loop-i.i Free c.loop-i-test.true in
    elim c.if-not-is_kept.branch [
      | then-not-is_kept+then-placed-heads+in_ok-write w ↦
          let there = slice_get-get_or c.args.heads.now c.loop-i.placed no_head w.if-placed-heads.true in
          rw w.disk-is (rw w.placed-is (led_one c.args.first c.args.sector_states.now c.args.heads.now (g.D.Disk.state c.args.disk.now) (g.D.Disk.state c.loop-i.disk) c.loop-i.i c.loop-i.placed
          (slice_index_or c.args.sector_states.now c.loop-i.i Free) here c.loop-i.invariant (slice_index_or c.args.heads.now c.loop-i.placed no_head) there (sym c.is_kept.ensures ∙ w.if-not-is_kept.true)
          w.leader.result w.leader.ensures (g.D.Disk.state w.write.new.self) w.if-placed-heads.true w.in_ok-write.ensures))
      | else-not-is_kept w ↦ rw w.disk-is (rw w.placed-is (elim w.else-not-is_kept.branch [
        | else-not-is_kept-via-then-not-is_kept+else-placed-heads v ↦
            passed_full c.args.first c.args.sector_states.now c.args.heads.now (g.D.Disk.state c.args.disk.now) (g.D.Disk.state c.loop-i.disk) c.loop-i.i c.loop-i.placed
            (slice_index_or c.args.sector_states.now c.loop-i.i Free) here c.loop-i.invariant (omega (arith, v.if-placed-heads.false))
        | else-not-is_kept-via-else-not-is_kept v ↦
            passed_kept c.args.first c.args.sector_states.now c.args.heads.now (g.D.Disk.state c.args.disk.now) (g.D.Disk.state c.loop-i.disk) c.loop-i.i c.loop-i.placed
            (slice_index_or c.args.sector_states.now c.loop-i.i Free) here c.loop-i.invariant (sym c.is_kept.ensures ∙ v.if-not-is_kept.false)
      ]))
    ]
