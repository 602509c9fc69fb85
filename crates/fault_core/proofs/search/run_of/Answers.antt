use Rattle.std.proofs.Common.{rules}
use Rattle.filer_kernel.specs.Causes.{MapHalts}
use Rattle.filer_kernel.proofs.Outcomes.{err_wider}
use Rattle.filer_kernel.specs.View.{accepted, disk_of, view_of}
use Rattle.fault_core.specs.Reach.{ReachHalts, no_break}
use Rattle.fault_core.specs.Revealed.{Known}
use Rattle.fault_core.proofs.RoomLemmas.{steps_room}
use Rattle.fault_core.proofs.TurnLemmas.{reaches_map, own_map, map_halt}
use Rattle.fault_core.proofs.YieldLemmas.{map_yields}
use Rattle.fault_core.proofs.search.run_of.Goals as goal

pub returns-clause-comes : goal.returns-clause-comes
returns-clause-comes g c = record {
  form = search rules;
  holds = search rules;
  given = search rules;
  nowhere = rw (← c.count_frames.ensures.same) c.find.ensures.nowhere;
  found = λ m named b known.
      let k : Known (view_of c.count_frames.new.filer) m named b = rw c.count_frames.ensures.same known in
      c.find.ensures.found m named k.stands k.map k.runs;
}

pub returns-clause-cause : goal.returns-clause-cause
returns-clause-cause g c =
    let v = view_of c.count_frames.new.filer in
    let w = view_of c.find.new.self in
    rw (← c.count_frames.ensures.same) (err_wider c.find.result (MapHalts v.layout v.disk v.slots w.disk) (ReachHalts no_break v w) (map_halt v w no_break) c.find.ensures.fails.cause)

pub returns-clause-sound : goal.returns-clause-sound
returns-clause-sound g c = λ m named b known.
    let k : Known (view_of c.count_frames.new.filer) m named b = rw c.count_frames.ensures.same known in
    c.find.ensures.fails.sound m named k.stands k.map k.map_labels

pub returns-clause-brings : goal.returns-clause-brings
returns-clause-brings g c = record {
  reaches =
      rw (← c.count_frames.ensures.same) (reaches_map (view_of c.count_frames.new.filer) (view_of c.find.new.self) (accepted c.count_frames.new.filer) (rw c.count_frames.ensures.same c.requires.size)
      (g.met.D.Disk.whole (disk_of c.count_frames.new.filer)) (g.met.D.Disk.in_form (disk_of c.count_frames.new.filer)) (rw c.count_frames.ensures.same c.count_frames.ensures.pages)
      c.find.ensures.leaves.beside c.find.ensures.leaves.same_bytes c.find.ensures.keeps.runs_given c.find.ensures.keeps.runs_are);
  came = rw (← c.count_frames.ensures.same) (own_map (view_of c.count_frames.new.filer) (view_of c.find.new.self) c.find.ensures.leaves.beside);
  room = rw (← c.count_frames.ensures.same) (steps_room c.find.ensures.leaves.beside.steps);
  stay = rw (← c.count_frames.ensures.same) (map_yields (view_of c.count_frames.new.filer).layout c.find.ensures.leaves.beside.steps);
}
