use Rattle.std.proofs.Common.{inl, inr, ◌++◌}
use Rattle.pilot_top.specs.Trial.{after_calls, drawn_calls, empty_volume, first_calls}
use Rattle.pilot_top.proofs.PermittedRuns.{ran_lawfully, started_lawfully}
use Rattle.pilot_top.proofs.RefusedLemmas.{refused_disk, refused_disk_line}
use Rattle.pilot_top.proofs.RunLemmas.{not_done}
use Rattle.pilot_top.proofs.TopLemmas.{rose_later}
use Rattle.pilot_top.proofs.TrialEnds.{left_empty, refused_damage, refused_fresh}
use Rattle.pilot_top.proofs.TrialFiles.{none_left}
use Rattle.pilot_top.proofs.trial.run_trial.Goals as goal

pub returns-in-Ok-clause-puts : goal.returns-in-Ok-clause-puts
returns-in-Ok-clause-puts g c =
    let volume = empty_volume (g.D.Disk.state c.args.disk).sectors in
    record {
      line = λ done. let all = c.try_session.ensures.puts.line done in (all.0, all.1, λ d revealed. all.2 volume ((c.in-Ok.ensures.machine d revealed).stands), all.3);
      part_of_line = λ failed.
          let all = c.try_session.ensures.puts.part_of_line failed in
          (all.0, all.1, λ d revealed. all.2 volume ((c.in-Ok.ensures.machine d revealed).stands), all.3, all.4, all.5);
    }

pub returns-in-Ok-clause-stops : goal.returns-in-Ok-clause-stops
returns-in-Ok-clause-stops g c =
    let stops = c.try_session.ensures.stops in
    record {
      disk_cause = λ disk. rose_later _ _ _ c.in-Ok.ensures.writes.later.faults (stops.disk_cause disk);
      disk_line = stops.disk_line;
      stream_cause = stops.stream_cause;
      damage_line = stops.damage_line;
    }

pub returns-in-Ok-clause-left : goal.returns-in-Ok-clause-left
returns-in-Ok-clause-left g c = λ d revealed ends.
    let n = (g.D.Disk.state c.args.disk).sectors in
    left_empty (after_calls (empty_volume n) (first_calls ++ drawn_calls c.args.seed c.args.calls)) (g.D.Disk.state c.try_session.result.1) (none_left n c.args.seed c.args.calls)
    (c.try_session.ensures.left (empty_volume n) ((c.in-Ok.ensures.machine d revealed).stands) ends)

pub returns-in-Ok-clause-complete : goal.returns-in-Ok-clause-complete
returns-in-Ok-clause-complete g c = λ d revealed count disk sink. elim c.try_session.ensures.ends [
  | inl done ↦ inl done
  | inr (inl stream) ↦ absurd (sink (c.try_session.ensures.stops.stream_cause stream))
  | inr (inr (inl failed)) ↦ absurd (disk (rose_later _ _ _ c.in-Ok.ensures.writes.later.faults (c.try_session.ensures.stops.disk_cause failed)))
  | inr (inr (inr damaged)) ↦ absurd (c.try_session.ensures.sound (empty_volume (g.D.Disk.state c.args.disk).sectors) ((c.in-Ok.ensures.machine d revealed).stands) damaged)
]

pub returns-in-Ok-clause-sound : goal.returns-in-Ok-clause-sound
returns-in-Ok-clause-sound g c = λ d revealed damaged. c.try_session.ensures.sound (empty_volume (g.D.Disk.state c.args.disk).sectors) ((c.in-Ok.ensures.machine d revealed).stands) damaged

pub returns-in-Ok-clause-permitted : goal.returns-in-Ok-clause-permitted
returns-in-Ok-clause-permitted g c = let w = c.in-Ok.ensures.writes.wrote in inr (w.made, w.volume.wrote, ran_lawfully w.wrote c.in-Ok.ensures.writes.left_open c.try_session.ensures.permitted)

pub returns-in-Err-clause-permitted : goal.returns-in-Err-clause-permitted
returns-in-Err-clause-permitted g c = elim c.in-Err.ensures.writes.wrote [
  | inl began ↦ inl began
  | inr w ↦ inr (w.made, w.volume.wrote, started_lawfully w.wrote)
]

pub returns-in-Err-clause-stops : goal.returns-in-Err-clause-stops
returns-in-Err-clause-stops g c =
    let f = c.in-Err.fault in
    let s = c.refuse.result in
    let took = g.K.Sink.took in
    let stops = c.refuse.ensures.stops in
    record {
      disk_cause = λ disk. c.in-Err.ensures.fails.counted (refused_disk f s _ _ took _ stops disk);
      disk_line = λ disk. refused_disk_line f s _ _ took _ stops disk;
      stream_cause = λ failed. absurd ((not_done f s _ _ took _ stops).1 failed);
      damage_line = λ damaged. refused_damage f s _ _ took _ (g.D.Disk.state c.in-Err.disk) c.in-Err.ensures.fails.evidence_seen stops damaged;
    }

pub returns-in-Err-clause-refuses : goal.returns-in-Err-clause-refuses
returns-in-Err-clause-refuses g c =
    refused_fresh c.in-Err.fault c.refuse.result _ _ g.K.Sink.took _ c.refuse.ensures.stops (g.D.Disk.state c.args.disk) (g.D.Disk.state c.in-Err.disk) c.in-Err.ensures.refuses.refused c.in-Err.ensures.refuses.count
    c.in-Err.ensures.fails.unwritten
