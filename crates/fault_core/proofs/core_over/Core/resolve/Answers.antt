use Rattle.std.proofs.Common.{rules, ◌∙◌, sym, refl, arith, ◌+◌, ◌-◌, subst, Option}
use Rattle.std.proofs.lemmas.Option.{none-some}
use Rattle.fault_core.specs.Core.{core_view, kept, state}
use Rattle.fault_core.specs.Homes.{homes_in}
use Rattle.filer_kernel.specs.Evidence.{MayBeMissing}
use Rattle.fault_core.specs.Reach.{no_break}
use Rattle.fault_core.specs.ReachLaws.{reach_misses}
use Rattle.fault_core.specs.Revealed.{BreaksTables}
use Rattle.filer_kernel.specs.View.{accepted, view_of}
use Rattle.fault_core.proofs.AccessLemmas.{shows_of, at_of}
use Rattle.fault_core.proofs.PlanLemmas.{plan_is, unit_has_sectors}
use Rattle.fault_core.proofs.ReachLemmas.{finds_before}
use Rattle.fault_core.proofs.ShowLemmas.{shown_is, all_stored}
use Rattle.fault_core.proofs.RevealedLemmas.{interval_of}
use Rattle.fault_core.specs.Lack.{kept_unit, run_pages, shown_unit}
use Rattle.fault_core.proofs.LackLemmas.{misses_wider, run_unit, seen_at, unit_shown}
use Rattle.fault_core.proofs.UnitLemmas.{unit_run_is}
use Rattle.std.specs.Prelude.{IfSome}
use Rattle.swap_units.specs.declared.interval.Interval.{Interval}
use Rattle.fault_core.specs.Kept.{IsKept}
use Rattle.fault_core.proofs.NeverBlamesLemmas.{table_never_blames}
use Rattle.fault_core.proofs.OutcomeLemmas.{alone_then, failed_early, stays_found, stays_then}
use Rattle.fault_core.proofs.core_over.Core.resolve.Goals as goal

pub returns-in-Ok-None-clause-comes : goal.returns-in-Ok-None-clause-comes
returns-in-Ok-None-clause-comes g c = record {
  unit = search rules;
  homes = search rules;
  none = λ m named ss knows. (λ e. (c.in-Ok-None.ensures.comes.none m named ss knows).0 c.in-Ok-None.field-0-is, λ none. refl);
}

-- ---- The homes were found.

pub returns-in-Ok-clause-comes : goal.returns-in-Ok-clause-comes
returns-in-Ok-clause-comes g c = record {
  unit = search rules;
  homes = λ m named ss knows.
      let x = c.in-Ok-Some.x in
      let after = c.in-Ok-Some.ensures.stays.same m named ss knows in
      record {
        interval = x;
        projected = at_of ss c.in-Ok-Some.field-0 x c.args.page c.in-Ok-Some.field-0-is (c.in-Ok-Some.ensures.comes.interval m named ss knows);
        plan = plan_is x c.args.page c.unit_of-first.result (homes_in c.in-Ok.homes) c.unit_of-first.ensures.pages c.in-Ok.ensures.comes.are;
        found = c.in-Ok.ensures.comes.named m named after.bytes after.known;
      };
  none = λ m named ss knows.
      let x = c.in-Ok-Some.x in
      let shows = shows_of c.in-Ok-Some.field-0 x c.args.page c.in-Ok-Some.field-0-is c.in-Ok-Some.ensures.comes.form in
      let at = at_of ss c.in-Ok-Some.field-0 x c.args.page c.in-Ok-Some.field-0-is (c.in-Ok-Some.ensures.comes.interval m named ss knows) in
      (λ e. absurd (none-some _ (sym e)), λ none. absurd (none-some _ (sym none ∙ shown_is knows.tables x (interval_of ss c.args.page x at) c.args.page shows.holds shows.mapped)));
}

pub returns-in-Ok-clause-stays : goal.returns-in-Ok-clause-stays
returns-in-Ok-clause-stays g c = stays_then c.shown.ensures.stays (stays_found (core_view c.shown.new.self) (view_of c.homes_of.new.filer) (accepted c.shown.new.self.filer) c.homes_of.ensures.brings.reaches)

pub returns-in-Ok-clause-brings : goal.returns-in-Ok-clause-brings
returns-in-Ok-clause-brings g c = alone_then (state c.args.self.now) (state c.shown.new.self) (view_of c.homes_of.new.filer) (accepted c.args.self.now.filer) c.shown.ensures.brings c.homes_of.ensures.brings

-- ---- They could not be found.

pub returns-in-Err-clause-fails : goal.returns-in-Err-clause-fails
returns-in-Err-clause-fails g c = failed_early (BreaksTables (state c.args.self.now) c.args.self.now.intervals c.args.page) (core_view c.args.self.now) (state c.shown.new.self) (λ ss. shown_unit ss c.args.page) c.in-Err.halt c.in-Err.ensures.fails

pub returns-in-Err-homes_of-clause-fails : goal.returns-in-Err-homes_of-clause-fails
returns-in-Err-homes_of-clause-fails g c =
    let cause =
    let v = state c.args.self.now in
    let x = view_of c.homes_of.new.filer in
    finds_before v (state c.shown.new.self) (accepted c.args.self.now.filer) c.shown.ensures.brings.reaches MayBeMissing no_break (BreaksTables v c.args.self.now.intervals c.args.page) (λ page none. absurd none)
    x x (omega arith) c.in-Err-homes_of.halt c.in-Err-homes_of.ensures.fails.cause in
    record {
      cause = cause;
      missing = λ ss s.
          let x = c.in-Ok-Some.x in
          let page = c.args.page in
          let unit = c.unit_of-first.result in
          let shows = shows_of c.in-Ok-Some.field-0 x page c.in-Ok-Some.field-0-is c.in-Ok-Some.ensures.comes.form in
          let is_kept = subst (λ (o : Option Interval). IfSome o (IsKept (kept c.shown.new.self))) c.in-Ok-Some.field-0-is c.in-Ok-Some.ensures.comes.is_kept in
          let own = c.unit_of-first.ensures in
          let run = unit_run_is x page unit shows.formed shows.holds shows.mapped own.pages own.holds own.inside own.size in
          let mid = c.in-Ok-Some.ensures.stays.sees ss s in
          misses_wider (run_pages x.id (x.page + (unit.0 - x.first)) unit.1) (shown_unit ss page)
          (λ id number one. unit_shown mid x page (seen_at mid x page is_kept shows) shows.mapped id number (run_unit x page (x.page + (unit.0 - x.first), unit.1) run id number one))
          c.in-Err-homes_of.halt c.in-Err-homes_of.ensures.fails.misses;
      right = λ ss s. table_never_blames s c.args.self.now.some (view_of c.homes_of.new.filer) c.in-Err-homes_of.halt c.args.page cause;
      sound = λ m named ss knows.
          let x = c.in-Ok-Some.x in
          let after = c.in-Ok-Some.ensures.stays.same m named ss knows in
          let shows = shows_of c.in-Ok-Some.field-0 x c.args.page c.in-Ok-Some.field-0-is c.in-Ok-Some.ensures.comes.form in
          let at = at_of ss c.in-Ok-Some.field-0 x c.args.page c.in-Ok-Some.field-0-is (c.in-Ok-Some.ensures.comes.interval m named ss knows) in
          let unit = c.unit_of-first.ensures in
          c.in-Err-homes_of.ensures.fails.sound m named after.bytes after.known
          (unit_has_sectors x c.args.page c.unit_of-first.result shows unit.pages unit.holds unit.inside unit.size named m (all_stored after.tables x (interval_of ss c.args.page x at) named m after.stored shows.mapped));
    }

pub returns-in-Err-homes_of-clause-stays : goal.returns-in-Err-homes_of-clause-stays
returns-in-Err-homes_of-clause-stays g c = stays_then c.shown.ensures.stays (stays_found (core_view c.shown.new.self) (view_of c.homes_of.new.filer) (accepted c.shown.new.self.filer) c.homes_of.ensures.brings.reaches)

pub returns-in-Err-homes_of-clause-brings : goal.returns-in-Err-homes_of-clause-brings
returns-in-Err-homes_of-clause-brings g c = alone_then (state c.args.self.now) (state c.shown.new.self) (view_of c.homes_of.new.filer) (accepted c.args.self.now.filer) c.shown.ensures.brings c.homes_of.ensures.brings

-- ---- A page has no sector.

pub returns-in-Err-clause-misses : goal.returns-in-Err-clause-misses
returns-in-Err-clause-misses g c = reach_misses (BreaksTables (state c.args.self.now) c.args.self.now.intervals c.args.page) (state c.args.self.now) (state c.shown.new.self) (kept_unit (kept c.shown.new.self) c.args.page) c.in-Err.halt c.in-Err.ensures.fails.cause

pub returns-in-Err-homes_of-clause-misses : goal.returns-in-Err-homes_of-clause-misses
returns-in-Err-homes_of-clause-misses g c =
    let x = c.in-Ok-Some.x in
    let page = c.args.page in
    let unit = c.unit_of-first.result in
    let shows = shows_of c.in-Ok-Some.field-0 x page c.in-Ok-Some.field-0-is c.in-Ok-Some.ensures.comes.form in
    let is_kept = subst (λ (o : Option Interval). IfSome o (IsKept (kept c.shown.new.self))) c.in-Ok-Some.field-0-is c.in-Ok-Some.ensures.comes.is_kept in
    let own = c.unit_of-first.ensures in
    let run = unit_run_is x page unit shows.formed shows.holds shows.mapped own.pages own.holds own.inside own.size in
    misses_wider (run_pages x.id (x.page + (unit.0 - x.first)) unit.1) (kept_unit (kept c.shown.new.self) page) (λ id number one. (x, is_kept, shows, run_unit x page (x.page + (unit.0 - x.first), unit.1) run id number one))
    c.in-Err-homes_of.halt c.in-Err-homes_of.ensures.fails.misses
