use Rattle.std.proofs.Common.{rules, ◌∙◌, sym, ap}
use Rattle.std.proofs.lemmas.Bool.{true≢false}
use Rattle.filer_kernel.proofs.Outcomes.{on_ok_wider, err_wider}
use Rattle.fault_core.specs.Revealed.{Known}
use Rattle.filer_kernel.specs.View.{view_of}
use Rattle.fault_core.proofs.ReachLemmas.{reaches_itself}
use Rattle.fault_core.proofs.RoomLemmas.{room_same}
use Rattle.fault_core.proofs.UnitLemmas.{whole_of_run, run_of_whole, run_stored, run_shown}
use Rattle.fault_core.specs.Lack.{MissesPage, run_pages, unit_pages}
use Rattle.fault_core.proofs.LackLemmas.{misses_wider, run_unit}
use Rattle.fault_core.proofs.touch.bring_unit.Goals as goal

pub returns-then-is_there-clause-whole : goal.returns-then-is_there-clause-whole
returns-then-is_there-clause-whole g c = rw c.is_there.ensures.same (whole_of_run c.unit_run-first.ensures (view_of c.args.filer.now).slots (c.is_there.ensures.there.0 c.if-is_there.true))

pub returns-clause-whole : goal.returns-clause-whole
returns-clause-whole g c = on_ok_wider c.bring_run.result _ _ (whole_of_run c.unit_run-first.ensures (view_of c.bring_run.new.filer).slots) c.bring_run.ensures.there

pub returns-clause-fails : goal.returns-clause-fails
returns-clause-fails g c = record {
  cause = search rules;
  misses =
      let x = c.args.x.now in
      let run = c.unit_run-first.result in
      err_wider c.bring_run.result (MissesPage (run_pages x.id run.0 run.1)) (MissesPage (unit_pages x c.args.page))
      (misses_wider (run_pages x.id run.0 run.1) (unit_pages x c.args.page) (run_unit x c.args.page run c.unit_run-first.ensures)) c.bring_run.ensures.fails.misses;
  sound = λ m named b known stored.
      let k : Known (view_of c.is_there.new.filer) m named b = rw c.is_there.ensures.same known in
      c.bring_run.ensures.fails.sound m named b k (run_stored c.unit_run-first.ensures named m stored);
  early = rw (← c.is_there.ensures.same) c.bring_run.ensures.fails.early;
}

pub returns-clause-brings : goal.returns-clause-brings
returns-clause-brings g c = record {
  reaches = search rules;
  came = rw (← c.is_there.ensures.same) (run_shown c.unit_run-first.ensures (view_of c.is_there.new.filer).slots (view_of c.bring_run.new.filer).slots c.bring_run.ensures.brings.came);
  room = rw (← c.is_there.ensures.same) c.bring_run.ensures.brings.room;
}

pub returns-clause-idle : goal.returns-clause-idle
returns-clause-idle g c = λ whole. absurd (true≢false (sym (c.is_there.ensures.there.1 (run_of_whole c.unit_run-first.ensures (view_of c.args.filer.now).slots whole)) ∙ c.if-is_there.false))

pub returns-then-is_there-clause-brings : goal.returns-then-is_there-clause-brings
returns-then-is_there-clause-brings g c = record {
  reaches = rw c.is_there.ensures.same (reaches_itself (view_of c.args.filer.now));
  came = search rules;
  room = room_same (view_of c.args.filer.now).slots (view_of c.is_there.new.filer).slots (ap (λ f. (view_of f).slots) c.is_there.ensures.same);
}
