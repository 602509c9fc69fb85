use Rattle.std.proofs.Common.{rules, ◌∙◌, sym, subst, refl, arith, Option}
use Rattle.std.specs.Prelude.{IfSome}
use Rattle.std.proofs.lemmas.Option.{none-some}
use Rattle.swap_units.specs.declared.interval.Interval.{Interval}
use Rattle.swapper_kernel.specs.HaltLaws.{brings_then}
use Rattle.fault_core.specs.Core.{core_view, kept, state}
use Rattle.fault_core.specs.Kept.{IsKept}
use Rattle.filer_kernel.specs.Evidence.{MayBeMissing}
use Rattle.fault_core.specs.Reach.{no_break}
use Rattle.fault_core.specs.ReachLaws.{reach_misses}
use Rattle.fault_core.specs.Revealed.{BreaksTables}
use Rattle.fault_core.specs.Unit.{IsWhole, file_page}
use Rattle.filer_kernel.specs.View.{accepted, view_of}
use Rattle.fault_core.proofs.AccessLemmas.{shows_of, at_of}
use Rattle.fault_core.proofs.ReachLemmas.{reaches_then, finds_before}
use Rattle.fault_core.proofs.RoomLemmas.{room_then}
use Rattle.fault_core.proofs.ShowLemmas.{shown_is, all_stored, known_came, own_came}
use Rattle.fault_core.proofs.RevealedLemmas.{interval_of}
use Rattle.fault_core.specs.Lack.{kept_unit, shown_unit, unit_pages}
use Rattle.fault_core.specs.Early.{KeepsClients}
use Rattle.fault_core.proofs.EarlyLemmas.{clients_then, unfound_less, unfound_so}
use Rattle.fault_core.proofs.LackLemmas.{misses_wider, seen_at, unit_shown}
use Rattle.fault_core.proofs.NeverBlamesLemmas.{table_never_blames}
use Rattle.fault_core.proofs.OutcomeLemmas.{failed_early, own_fetches_in_room, stays_found, stays_then}
use Rattle.fault_core.proofs.core_over.Core.fetch_page.Goals as goal

pub returns-in-Ok-None-clause-comes : goal.returns-in-Ok-None-clause-comes
returns-in-Ok-None-clause-comes g c = record {
  ready = search rules;
  slot = search rules;
  none = λ m named ss knows. (λ e. (c.in-Ok-None.ensures.comes.none m named ss knows).0 c.in-Ok-None.field-0-is, λ none. refl);
}

-- ---- The unit is resident.

pub returns-in-Ok-clause-comes : goal.returns-in-Ok-clause-comes
returns-in-Ok-clause-comes g c = record {
  ready =
      let x = c.in-Ok-Some.x in
      let shows = shows_of c.in-Ok-Some.field-0 x c.args.page c.in-Ok-Some.field-0-is c.in-Ok-Some.ensures.comes.form in
      record {
        ready = record {
          interval = x;
          is_kept = subst (λ (o : Option Interval). IfSome o (IsKept (kept c.shown.new.self))) c.in-Ok-Some.field-0-is c.in-Ok-Some.ensures.comes.is_kept;
          holds = shows.holds;
          mapped = shows.mapped;
          whole = c.in-Ok.ensures.comes.whole;
        };
        has = c.in-Ok.ensures.comes.slot;
      };
  slot = λ m named ss knows.
      let x = c.in-Ok-Some.x in
      let shows = shows_of c.in-Ok-Some.field-0 x c.args.page c.in-Ok-Some.field-0-is c.in-Ok-Some.ensures.comes.form in
      let at = at_of ss c.in-Ok-Some.field-0 x c.args.page c.in-Ok-Some.field-0-is (c.in-Ok-Some.ensures.comes.interval m named ss knows) in
      record {
        shown = record { file = x.id; page = file_page x c.args.page };
        is_shown = shown_is knows.tables x (interval_of ss c.args.page x at) c.args.page shows.holds shows.mapped;
        has = c.in-Ok.ensures.comes.slot;
      };
  none = λ m named ss knows.
      let x = c.in-Ok-Some.x in
      let shows = shows_of c.in-Ok-Some.field-0 x c.args.page c.in-Ok-Some.field-0-is c.in-Ok-Some.ensures.comes.form in
      let at = at_of ss c.in-Ok-Some.field-0 x c.args.page c.in-Ok-Some.field-0-is (c.in-Ok-Some.ensures.comes.interval m named ss knows) in
      (λ e. absurd (none-some c.in-Ok.slot (sym e)), λ none. absurd (none-some _ (sym none ∙ shown_is knows.tables x (interval_of ss c.args.page x at) c.args.page shows.holds shows.mapped)));
}

pub returns-in-Ok-clause-stays : goal.returns-in-Ok-clause-stays
returns-in-Ok-clause-stays g c = stays_then c.shown.ensures.stays (stays_found (core_view c.shown.new.self) (view_of c.touch.new.filer) (accepted c.shown.new.self.filer) c.touch.ensures.brings.reaches)

pub returns-in-Ok-clause-brings : goal.returns-in-Ok-clause-brings
returns-in-Ok-clause-brings g c = record {
  reaches =
      reaches_then (state c.args.self.now) (state c.shown.new.self) (accepted c.args.self.now.filer) c.shown.ensures.brings.reaches (view_of c.touch.new.filer) c.touch.ensures.brings.reaches;
  came = λ m named ss knows.
      let x = c.in-Ok-Some.x in
      let shows = shows_of c.in-Ok-Some.field-0 x c.args.page c.in-Ok-Some.field-0-is c.in-Ok-Some.ensures.comes.form in
      let at = at_of ss c.in-Ok-Some.field-0 x c.args.page c.in-Ok-Some.field-0-is (c.in-Ok-Some.ensures.comes.interval m named ss knows) in
      brings_then (own_came ss (state c.args.self.now).slots (state c.shown.new.self).slots c.shown.ensures.brings.came)
      (known_came knows.tables x (interval_of ss c.args.page x at) shows.mapped (state c.shown.new.self).slots (view_of c.touch.new.filer).slots c.touch.ensures.brings.came);
  room = room_then c.shown.ensures.brings.room c.touch.ensures.brings.room;
}

pub returns-in-Ok-clause-idle : goal.returns-in-Ok-clause-idle
returns-in-Ok-clause-idle g c = λ ready apart.
    let x = c.in-Ok-Some.x in
    let one = c.in-Ok-Some.ensures.idle ready apart in
    let was = subst (λ (o : Option Interval). IfSome o (λ x. IsWhole (state c.args.self.now).slots x c.args.page)) c.in-Ok-Some.field-0-is one.0.0 in
    let whole : IsWhole (state c.shown.new.self).slots x c.args.page = rw one.2 was in
    let two = c.touch.ensures.idle whole in
    (refl, two.1 ∙ one.2, one.3)

-- ---- The unit could not be brought in.

pub returns-in-Err-clause-fails : goal.returns-in-Err-clause-fails
returns-in-Err-clause-fails g c = failed_early (BreaksTables (state c.args.self.now) c.args.self.now.intervals c.args.page) (core_view c.args.self.now) (state c.shown.new.self) (λ ss. shown_unit ss c.args.page) c.in-Err.halt c.in-Err.ensures.fails

pub returns-in-Err-touch-clause-fails : goal.returns-in-Err-touch-clause-fails
returns-in-Err-touch-clause-fails g c =
    let cause =
    let v = state c.args.self.now in
    let x = view_of c.touch.new.filer in
    finds_before v (state c.shown.new.self) (accepted c.args.self.now.filer) c.shown.ensures.brings.reaches MayBeMissing no_break (BreaksTables v c.args.self.now.intervals c.args.page) (λ page none. absurd none)
    x x (omega arith) c.in-Err-touch.halt c.in-Err-touch.ensures.fails.cause in
    record {
      cause = cause;
      missing = λ ss s.
          let x = c.in-Ok-Some.x in
          let shows = shows_of c.in-Ok-Some.field-0 x c.args.page c.in-Ok-Some.field-0-is c.in-Ok-Some.ensures.comes.form in
          let is_kept = subst (λ (o : Option Interval). IfSome o (IsKept (kept c.shown.new.self))) c.in-Ok-Some.field-0-is c.in-Ok-Some.ensures.comes.is_kept in
          let mid = c.in-Ok-Some.ensures.stays.sees ss s in
          misses_wider (unit_pages x c.args.page) (shown_unit ss c.args.page) (unit_shown mid x c.args.page (seen_at mid x c.args.page is_kept shows) shows.mapped) c.in-Err-touch.halt c.in-Err-touch.ensures.fails.misses;
      right = λ ss s. table_never_blames s c.args.self.now.some (view_of c.touch.new.filer) c.in-Err-touch.halt c.args.page cause;
      sound = λ m named ss knows.
          let x = c.in-Ok-Some.x in
          let after = c.in-Ok-Some.ensures.stays.same m named ss knows in
          let shows = shows_of c.in-Ok-Some.field-0 x c.args.page c.in-Ok-Some.field-0-is c.in-Ok-Some.ensures.comes.form in
          let at = at_of ss c.in-Ok-Some.field-0 x c.args.page c.in-Ok-Some.field-0-is (c.in-Ok-Some.ensures.comes.interval m named ss knows) in
          c.in-Err-touch.ensures.fails.sound m named after.bytes after.known (all_stored after.tables x (interval_of ss c.args.page x at) named m after.stored shows.mapped);
    }

pub returns-in-Err-touch-clause-stays : goal.returns-in-Err-touch-clause-stays
returns-in-Err-touch-clause-stays g c = stays_then c.shown.ensures.stays (stays_found (core_view c.shown.new.self) (view_of c.touch.new.filer) (accepted c.shown.new.self.filer) c.touch.ensures.brings.reaches)

pub returns-in-Err-touch-clause-brings : goal.returns-in-Err-touch-clause-brings
returns-in-Err-touch-clause-brings g c = record {
  reaches =
      reaches_then (state c.args.self.now) (state c.shown.new.self) (accepted c.args.self.now.filer) c.shown.ensures.brings.reaches (view_of c.touch.new.filer) c.touch.ensures.brings.reaches;
  came = λ m named ss knows.
      let x = c.in-Ok-Some.x in
      let shows = shows_of c.in-Ok-Some.field-0 x c.args.page c.in-Ok-Some.field-0-is c.in-Ok-Some.ensures.comes.form in
      let at = at_of ss c.in-Ok-Some.field-0 x c.args.page c.in-Ok-Some.field-0-is (c.in-Ok-Some.ensures.comes.interval m named ss knows) in
      brings_then (own_came ss (state c.args.self.now).slots (state c.shown.new.self).slots c.shown.ensures.brings.came)
      (known_came knows.tables x (interval_of ss c.args.page x at) shows.mapped (state c.shown.new.self).slots (view_of c.touch.new.filer).slots c.touch.ensures.brings.came);
  room = room_then c.shown.ensures.brings.room c.touch.ensures.brings.room;
}

pub returns-in-Err-touch-clause-idle : goal.returns-in-Err-touch-clause-idle
returns-in-Err-touch-clause-idle g c = λ ready apart.
    let x = c.in-Ok-Some.x in
    let one = c.in-Ok-Some.ensures.idle ready apart in
    let was = subst (λ (o : Option Interval). IfSome o (λ x. IsWhole (state c.args.self.now).slots x c.args.page)) c.in-Ok-Some.field-0-is one.0.0 in
    let whole : IsWhole (state c.shown.new.self).slots x c.args.page = rw one.2 was in
    let two = c.in-Err-touch.ensures.idle whole in
    (two.0, two.1 ∙ one.2, one.3)

-- ---- A page has no sector.

pub returns-in-Err-clause-misses : goal.returns-in-Err-clause-misses
returns-in-Err-clause-misses g c = reach_misses (BreaksTables (state c.args.self.now) c.args.self.now.intervals c.args.page) (state c.args.self.now) (state c.shown.new.self) (kept_unit (kept c.shown.new.self) c.args.page) c.in-Err.halt c.in-Err.ensures.fails.cause

pub returns-in-Err-touch-clause-misses : goal.returns-in-Err-touch-clause-misses
returns-in-Err-touch-clause-misses g c =
    let x = c.in-Ok-Some.x in
    let shows = shows_of c.in-Ok-Some.field-0 x c.args.page c.in-Ok-Some.field-0-is c.in-Ok-Some.ensures.comes.form in
    let is_kept = subst (λ (o : Option Interval). IfSome o (IsKept (kept c.shown.new.self))) c.in-Ok-Some.field-0-is c.in-Ok-Some.ensures.comes.is_kept in
    misses_wider (unit_pages x c.args.page) (kept_unit (kept c.shown.new.self) c.args.page) (λ id number own. (x, is_kept, shows, own)) c.in-Err-touch.halt c.in-Err-touch.ensures.fails.misses

-- ---- A page has no home.

pub returns-in-Err-clause-early : goal.returns-in-Err-clause-early
returns-in-Err-clause-early g c =
    unfound_so (KeepsClients (state c.args.self.now).slots (state c.shown.new.self).slots) c.in-Err.halt (record { came = c.shown.ensures.brings.came; stay = c.shown.ensures.brings.stay })

pub returns-in-Err-touch-clause-early : goal.returns-in-Err-touch-clause-early
returns-in-Err-touch-clause-early g c =
    let v = (state c.args.self.now).slots in
    let w = (state c.shown.new.self).slots in
    let x = (view_of c.touch.new.filer).slots in
    unfound_less (KeepsClients w x) (KeepsClients v x) (λ later. clients_then (record { came = c.shown.ensures.brings.came; stay = c.shown.ensures.brings.stay }) later) c.in-Err-touch.halt c.in-Err-touch.ensures.fails.early

pub returns-in-Ok-None-clause-brings : goal.returns-in-Ok-None-clause-brings
returns-in-Ok-None-clause-brings g c = own_fetches_in_room (core_view c.args.self.now) (core_view c.shown.new.self) c.shown.ensures.brings

pub returns-in-Err-clause-brings : goal.returns-in-Err-clause-brings
returns-in-Err-clause-brings g c = own_fetches_in_room (core_view c.args.self.now) (core_view c.shown.new.self) c.shown.ensures.brings

pub returns-in-Ok-None-clause-fails : goal.returns-in-Ok-None-clause-fails
returns-in-Ok-None-clause-fails g c = record { cause = tt; missing = λ ss s. tt; right = λ ss s. tt; sound = λ m named ss knows. tt }

pub returns-in-Ok-None-clause-misses : goal.returns-in-Ok-None-clause-misses
returns-in-Ok-None-clause-misses g c = tt

pub returns-in-Ok-None-clause-early : goal.returns-in-Ok-None-clause-early
returns-in-Ok-None-clause-early g c = tt

pub returns-in-Ok-None-clause-stays : goal.returns-in-Ok-None-clause-stays
returns-in-Ok-None-clause-stays g c = c.shown.ensures.stays

pub returns-in-Ok-None-clause-idle : goal.returns-in-Ok-None-clause-idle
returns-in-Ok-None-clause-idle g c = λ ready apart. let one = c.in-Ok-None.ensures.idle ready apart in (refl, one.2, one.3)

pub returns-in-Ok-None-clause-cost : goal.returns-in-Ok-None-clause-cost
returns-in-Ok-None-clause-cost g c = omega (arith, c.shown.ensures.cost)

pub returns-in-Ok-clause-fails : goal.returns-in-Ok-clause-fails
returns-in-Ok-clause-fails g c = record { cause = tt; missing = λ ss s. tt; right = λ ss s. tt; sound = λ m named ss knows. tt }

pub returns-in-Ok-clause-misses : goal.returns-in-Ok-clause-misses
returns-in-Ok-clause-misses g c = tt

pub returns-in-Ok-clause-early : goal.returns-in-Ok-clause-early
returns-in-Ok-clause-early g c = tt

pub returns-in-Ok-clause-cost : goal.returns-in-Ok-clause-cost
returns-in-Ok-clause-cost g c = omega (arith, c.shown.ensures.cost, c.touch.ensures.cost)

pub returns-in-Err-clause-comes : goal.returns-in-Err-clause-comes
returns-in-Err-clause-comes g c = record { ready = tt; slot = λ m named ss knows. tt; none = λ m named ss knows. tt }

pub returns-in-Err-clause-stays : goal.returns-in-Err-clause-stays
returns-in-Err-clause-stays g c = c.shown.ensures.stays

pub returns-in-Err-clause-idle : goal.returns-in-Err-clause-idle
returns-in-Err-clause-idle g c = λ ready apart. let one = c.in-Err.ensures.idle ready apart in (one.1, one.2, one.3)

pub returns-in-Err-clause-cost : goal.returns-in-Err-clause-cost
returns-in-Err-clause-cost g c = omega (arith, c.shown.ensures.cost)

pub returns-in-Err-touch-clause-comes : goal.returns-in-Err-touch-clause-comes
returns-in-Err-touch-clause-comes g c = record { ready = tt; slot = λ m named ss knows. tt; none = λ m named ss knows. tt }

pub returns-in-Err-touch-clause-cost : goal.returns-in-Err-touch-clause-cost
returns-in-Err-touch-clause-cost g c = omega (arith, c.shown.ensures.cost, c.touch.ensures.cost)
