use Rattle.std.proofs.Common.{rules, ◌≡◌, ◌/◌, ◌∙◌, sym, subst, refl, arith, Option}
use Rattle.std.specs.Prelude.{IfSome, None}
use Rattle.flat_machine.specs.At.{shown_at}
use Rattle.swap_units.specs.declared.interval.Interval.{Interval}
use Rattle.space_tables.specs.SpaceTables.{IsIntervalAt}
use Rattle.fault_core.specs.Access.{last_page, outcome, BreaksFor}
use Rattle.fault_core.specs.Core.{core_view, kept, state}
use Rattle.fault_core.specs.Kept.{IsKept, AreApart}
use Rattle.fault_core.specs.Revealed.{BreaksTables}
use Rattle.fault_core.specs.Unit.{IsReady, IsWhole}
use Rattle.fault_core.proofs.AccessLemmas.{no_map_first, no_map_last, access_shown, breaks_first, breaks_last, breaks_before, shown_some, shows_of, some_shows, at_of}
use Rattle.fault_core.proofs.ReachLemmas.{reaches_itself, halts_before}
use Rattle.fault_core.proofs.ShowLemmas.{shown_is}
use Rattle.fault_core.proofs.RevealedLemmas.{interval_of}
use Rattle.fault_core.proofs.LackLemmas.{seen_at}
use Rattle.fault_core.proofs.OutcomeLemmas.{alone_then, failed_after, stays_itself, stays_then}
use Rattle.fault_core.proofs.core_over.Core.refer.Goals as goal
use Rattle.filer_kernel.specs.View.{accepted}

-- ---- The first page.

pub returns-in-Ok-None-clause-comes : goal.returns-in-Ok-None-clause-comes
returns-in-Ok-None-clause-comes g c = record {
  form = tt;
  one = tt;
  is_kept = tt;
  access = λ m named ss knows.
      no_map_first ss c.args.writes c.args.address c.args.count ((c.in-Ok-None.ensures.comes.none m named ss knows).0 c.in-Ok-None.field-0-is);
  intervals_at = λ m named ss knows. tt;
  seen = λ ss s. tt;
}

pub returns-in-Err-clause-fails : goal.returns-in-Err-clause-fails
returns-in-Err-clause-fails g c =
    let v = (state c.args.self.now) in
    let w = state c.shown.new.self in
    failed_after (stays_itself (core_view c.args.self.now))
    (halts_before v v (accepted c.args.self.now.filer) (reaches_itself v) (BreaksTables v c.args.self.now.intervals (c.args.address / 512)) (BreaksFor v c.args.self.now.intervals c.args.address c.args.count) (breaks_first v c.args.self.now.intervals c.args.address c.args.count) w w (omega arith))
    c.in-Err.halt c.in-Err.ensures.fails

-- ---- It is shown, and no window shows the last page.

pub returns-in-Ok-None-shown_last-clause-comes : goal.returns-in-Ok-None-shown_last-clause-comes
returns-in-Ok-None-shown_last-clause-comes g c = record {
  form = tt;
  one = tt;
  is_kept = tt;
  access = λ m named ss knows.
      let x = c.in-Ok-Some.x in
      let at = at_of ss c.in-Ok-Some.field-0 x (c.args.address / 512) c.in-Ok-Some.field-0-is (c.in-Ok-Some.ensures.comes.interval m named ss knows) in
      let shows = shows_of c.in-Ok-Some.field-0 x (c.args.address / 512) c.in-Ok-Some.field-0-is c.in-Ok-Some.ensures.comes.form in
      let none : shown_at ss (last_page c.args.address c.args.count) ≡ None = rw (← c.last_page-last.ensures) ((c.in-Ok-None-shown_last.ensures.comes.none m named ss (c.in-Ok-Some.ensures.stays.same m named ss knows)).0 c.in-Ok-None-shown_last.field-0-is) in
      rw c.last_page-last.ensures (no_map_last ss c.args.writes c.args.address c.args.count _ (shown_is knows.tables x (interval_of ss (c.args.address / 512) x at) (c.args.address / 512) shows.holds shows.mapped) none);
  intervals_at = λ m named ss knows. tt;
  seen = λ ss s. tt;
}

pub returns-in-Ok-None-shown_last-clause-stays : goal.returns-in-Ok-None-shown_last-clause-stays
returns-in-Ok-None-shown_last-clause-stays g c = stays_then c.shown.ensures.stays c.shown_last.ensures.stays

pub returns-in-Ok-None-shown_last-clause-brings : goal.returns-in-Ok-None-shown_last-clause-brings
returns-in-Ok-None-shown_last-clause-brings g c = alone_then (state c.args.self.now) (state c.shown.new.self) (state c.shown_last.new.self) (accepted c.args.self.now.filer) c.shown.ensures.brings c.shown_last.ensures.brings

pub returns-in-Ok-None-shown_last-clause-idle : goal.returns-in-Ok-None-shown_last-clause-idle
returns-in-Ok-None-shown_last-clause-idle g c = λ first last apart.
    let one = c.in-Ok-Some.ensures.idle first apart in
    let ready : IsReady (kept c.shown.new.self) (state c.shown.new.self).slots c.last_page-last.result = rw (one.3, one.2, c.last_page-last.ensures) last in
    let two = c.in-Ok-None-shown_last.ensures.idle ready (subst AreApart (sym one.3) apart) in
    (tt, refl, two.2 ∙ one.2, two.3 ∙ one.3)

-- ---- The last page could not be described.

pub returns-in-Err-shown_last-clause-fails : goal.returns-in-Err-shown_last-clause-fails
returns-in-Err-shown_last-clause-fails g c =
    let v = (state c.args.self.now) in
    let w = state c.shown.new.self in
    let x = state c.shown_last.new.self in
    let last = c.last_page-last.result in
    failed_after c.shown.ensures.stays
    (halts_before v w (accepted c.args.self.now.filer) c.shown.ensures.brings.reaches (BreaksTables w c.shown.new.self.intervals last) (BreaksFor v c.args.self.now.intervals c.args.address c.args.count)
    (λ page broken. breaks_last v c.args.self.now.intervals c.args.address c.args.count page
    (rw (← c.last_page-last.ensures) (breaks_before v w c.shown.ensures.brings.reaches c.args.self.now.intervals c.shown.new.self.intervals last page c.shown.ensures.stays.intervals broken)))
    x x (omega arith)) c.in-Err-shown_last.halt c.in-Err-shown_last.ensures.fails

pub returns-in-Err-shown_last-clause-stays : goal.returns-in-Err-shown_last-clause-stays
returns-in-Err-shown_last-clause-stays g c = stays_then c.shown.ensures.stays c.shown_last.ensures.stays

pub returns-in-Err-shown_last-clause-brings : goal.returns-in-Err-shown_last-clause-brings
returns-in-Err-shown_last-clause-brings g c = alone_then (state c.args.self.now) (state c.shown.new.self) (state c.shown_last.new.self) (accepted c.args.self.now.filer) c.shown.ensures.brings c.shown_last.ensures.brings

pub returns-in-Err-shown_last-clause-idle : goal.returns-in-Err-shown_last-clause-idle
returns-in-Err-shown_last-clause-idle g c = λ first last apart.
    let one = c.in-Ok-Some.ensures.idle first apart in
    let ready : IsReady (kept c.shown.new.self) (state c.shown.new.self).slots c.last_page-last.result = rw (one.3, one.2, c.last_page-last.ensures) last in
    let two = c.in-Err-shown_last.ensures.idle ready (subst AreApart (sym one.3) apart) in
    (tt, two.1, two.2 ∙ one.2, two.3 ∙ one.3)

-- ---- Both are shown.

pub returns-clause-comes : goal.returns-clause-comes
returns-clause-comes g c = record {
  form = search rules;
  one = search rules;
  is_kept =
      shown_some (λ x y. IsKept (kept c.shown_last.new.self) y) c.allowed.result c.in-Ok-Some.x c.in-Ok-Some-shown_last.y c.allowed.ensures.shown
      (subst (λ (o : Option Interval). IfSome o (IsKept (kept c.shown_last.new.self))) c.in-Ok-Some-shown_last.field-0-is c.in-Ok-Some-shown_last.ensures.comes.is_kept);
  access = λ m named ss knows.
      let x = c.in-Ok-Some.x in
      let y = c.in-Ok-Some-shown_last.y in
      let last = c.last_page-last.result in
      let x_at = at_of ss c.in-Ok-Some.field-0 x (c.args.address / 512) c.in-Ok-Some.field-0-is (c.in-Ok-Some.ensures.comes.interval m named ss knows) in
      let y_at = at_of ss c.in-Ok-Some-shown_last.field-0 y last c.in-Ok-Some-shown_last.field-0-is (c.in-Ok-Some-shown_last.ensures.comes.interval m named ss (c.in-Ok-Some.ensures.stays.same m named ss knows)) in
      let x_shows = shows_of c.in-Ok-Some.field-0 x (c.args.address / 512) c.in-Ok-Some.field-0-is c.in-Ok-Some.ensures.comes.form in
      let y_shows = some_shows c.in-Ok-Some-shown_last.field-0 y last c.in-Ok-Some-shown_last.field-0-is c.in-Ok-Some-shown_last.ensures.comes.form in
      access_shown ss c.args.writes c.args.address c.args.count knows.tables x y (interval_of ss (c.args.address / 512) x x_at) (interval_of ss last y y_at) x_shows (rw (← c.last_page-last.ensures) y_shows) (outcome c.allowed.result) c.allowed.ensures.access;
  intervals_at = λ m named ss knows.
      let x = c.in-Ok-Some.x in
      let y = c.in-Ok-Some-shown_last.y in
      let last = c.last_page-last.result in
      let x_at = at_of ss c.in-Ok-Some.field-0 x (c.args.address / 512) c.in-Ok-Some.field-0-is (c.in-Ok-Some.ensures.comes.interval m named ss knows) in
      let y_at = at_of ss c.in-Ok-Some-shown_last.field-0 y last c.in-Ok-Some-shown_last.field-0-is (c.in-Ok-Some-shown_last.ensures.comes.interval m named ss (c.in-Ok-Some.ensures.stays.same m named ss knows)) in
      shown_some (λ x y. IsIntervalAt ss (c.args.address / 512) x × IsIntervalAt ss (last_page c.args.address c.args.count) y) c.allowed.result x y c.allowed.ensures.shown (x_at, rw (← c.last_page-last.ensures) y_at);
  seen = λ ss s.
      let x = c.in-Ok-Some.x in
      let y = c.in-Ok-Some-shown_last.y in
      let last = c.last_page-last.result in
      let mid = c.in-Ok-Some.ensures.stays.sees ss s in
      let after = c.in-Ok-Some-shown_last.ensures.stays.sees ss mid in
      let x_kept = subst (λ (o : Option Interval). IfSome o (IsKept (kept c.shown.new.self))) c.in-Ok-Some.field-0-is c.in-Ok-Some.ensures.comes.is_kept in
      let y_kept = subst (λ (o : Option Interval). IfSome o (IsKept (kept c.shown_last.new.self))) c.in-Ok-Some-shown_last.field-0-is c.in-Ok-Some-shown_last.ensures.comes.is_kept in
      let x_shows = shows_of c.in-Ok-Some.field-0 x (c.args.address / 512) c.in-Ok-Some.field-0-is c.in-Ok-Some.ensures.comes.form in
      let y_shows = some_shows c.in-Ok-Some-shown_last.field-0 y last c.in-Ok-Some-shown_last.field-0-is c.in-Ok-Some-shown_last.ensures.comes.form in
      let x_at = seen_at mid x (c.args.address / 512) x_kept x_shows in
      let y_at = seen_at after y last y_kept y_shows in
      shown_some (λ x y. IsIntervalAt ss (c.args.address / 512) x × IsIntervalAt ss (last_page c.args.address c.args.count) y) c.allowed.result x y c.allowed.ensures.shown (x_at, rw (← c.last_page-last.ensures) y_at);
}

pub returns-clause-stays : goal.returns-clause-stays
returns-clause-stays g c = stays_then c.shown.ensures.stays c.shown_last.ensures.stays

pub returns-clause-brings : goal.returns-clause-brings
returns-clause-brings g c = alone_then (state c.args.self.now) (state c.shown.new.self) (state c.shown_last.new.self) (accepted c.args.self.now.filer) c.shown.ensures.brings c.shown_last.ensures.brings

pub returns-clause-idle : goal.returns-clause-idle
returns-clause-idle g c = λ first last apart.
    let x = c.in-Ok-Some.x in
    let y = c.in-Ok-Some-shown_last.y in
    let pool = (state c.args.self.now).slots in
    let one = c.in-Ok-Some.ensures.idle first apart in
    let ready : IsReady (kept c.shown.new.self) (state c.shown.new.self).slots c.last_page-last.result = rw (one.3, one.2, c.last_page-last.ensures) last in
    let two = c.in-Ok-Some-shown_last.ensures.idle ready (subst AreApart (sym one.3) apart) in
    let x_whole = subst (λ (o : Option Interval). IfSome o (λ x. IsWhole pool x (c.args.address / 512))) c.in-Ok-Some.field-0-is one.0.0 in
    let y_whole = subst (λ (o : Option Interval). IfSome o (λ x. IsWhole (state c.shown.new.self).slots x c.last_page-last.result)) c.in-Ok-Some-shown_last.field-0-is two.0.0 in (
      shown_some (λ x y. IsWhole pool x (c.args.address / 512) × IsWhole pool y (last_page c.args.address c.args.count)) c.allowed.result x y c.allowed.ensures.shown
          (x_whole, rw (← c.last_page-last.ensures, ← one.2) y_whole),
      refl,
      two.2 ∙ one.2,
      two.3 ∙ one.3,
    )

pub returns-in-Ok-None-clause-fails : goal.returns-in-Ok-None-clause-fails
returns-in-Ok-None-clause-fails g c = record { cause = tt; right = λ ss s. tt; sound = λ m named ss knows. tt }

pub returns-in-Ok-None-clause-stays : goal.returns-in-Ok-None-clause-stays
returns-in-Ok-None-clause-stays g c = c.shown.ensures.stays

pub returns-in-Ok-None-clause-brings : goal.returns-in-Ok-None-clause-brings
returns-in-Ok-None-clause-brings g c = c.shown.ensures.brings

pub returns-in-Ok-None-clause-idle : goal.returns-in-Ok-None-clause-idle
returns-in-Ok-None-clause-idle g c = λ first last apart. let one = c.in-Ok-None.ensures.idle first apart in (tt, refl, one.2, one.3)

pub returns-in-Ok-None-clause-cost : goal.returns-in-Ok-None-clause-cost
returns-in-Ok-None-clause-cost g c = omega (arith, c.shown.ensures.cost)

pub returns-in-Err-clause-comes : goal.returns-in-Err-clause-comes
returns-in-Err-clause-comes g c = record {
  form = tt;
  one = tt;
  is_kept = tt;
  access = λ m named ss knows. tt;
  intervals_at = λ m named ss knows. tt;
  seen = λ ss s. tt;
}

pub returns-in-Err-clause-stays : goal.returns-in-Err-clause-stays
returns-in-Err-clause-stays g c = c.shown.ensures.stays

pub returns-in-Err-clause-brings : goal.returns-in-Err-clause-brings
returns-in-Err-clause-brings g c = c.shown.ensures.brings

pub returns-in-Err-clause-idle : goal.returns-in-Err-clause-idle
returns-in-Err-clause-idle g c = λ first last apart. let one = c.in-Err.ensures.idle first apart in (tt, one.1, one.2, one.3)

pub returns-in-Err-clause-cost : goal.returns-in-Err-clause-cost
returns-in-Err-clause-cost g c = omega (arith, c.shown.ensures.cost)

pub returns-in-Ok-None-shown_last-clause-fails : goal.returns-in-Ok-None-shown_last-clause-fails
returns-in-Ok-None-shown_last-clause-fails g c = record { cause = tt; right = λ ss s. tt; sound = λ m named ss knows. tt }

pub returns-in-Ok-None-shown_last-clause-cost : goal.returns-in-Ok-None-shown_last-clause-cost
returns-in-Ok-None-shown_last-clause-cost g c = omega (arith, c.shown.ensures.cost, c.shown_last.ensures.cost)

pub returns-in-Err-shown_last-clause-comes : goal.returns-in-Err-shown_last-clause-comes
returns-in-Err-shown_last-clause-comes g c = record {
  form = tt;
  one = tt;
  is_kept = tt;
  access = λ m named ss knows. tt;
  intervals_at = λ m named ss knows. tt;
  seen = λ ss s. tt;
}

pub returns-in-Err-shown_last-clause-cost : goal.returns-in-Err-shown_last-clause-cost
returns-in-Err-shown_last-clause-cost g c = omega (arith, c.shown.ensures.cost, c.shown_last.ensures.cost)

pub returns-clause-fails : goal.returns-clause-fails
returns-clause-fails g c = record { cause = tt; right = λ ss s. tt; sound = λ m named ss knows. tt }

pub returns-clause-cost : goal.returns-clause-cost
returns-clause-cost g c = omega (arith, c.shown.ensures.cost, c.shown_last.ensures.cost)
