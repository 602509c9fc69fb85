use Rattle.std.proofs.Common.{rules, ◌∙◌, ◌/◌, false, refl, arith, inl, length, inr}
use Rattle.swapper_kernel.specs.HaltLaws.{brings_then}
use Rattle.fault_core.specs.Access.{Shows, access_of, last_page, BreaksFor}
use Rattle.fault_core.specs.Core.{core_view, kept, state}
use Rattle.fault_core.specs.Kept.{IsKept}
use Rattle.filer_kernel.specs.Evidence.{MayBeMissing}
use Rattle.fault_core.specs.Reach.{no_break}
use Rattle.fault_core.specs.Unit.{IsWhole}
use Rattle.filer_kernel.specs.View.{accepted, view_of}
use Rattle.fault_core.proofs.AccessLemmas.{at_shown, both_seen, came_to}
use Rattle.fault_core.proofs.ReachLemmas.{reaches_then, finds_before}
use Rattle.fault_core.proofs.ShowLemmas.{own_came, both_came}
use Rattle.fault_core.specs.Lack.{both_units, shown_units}
use Rattle.fault_core.proofs.LackLemmas.{misses_wider, unit_shown}
use Rattle.space_tables.specs.SpaceTables.{IsIntervalAt}
use Rattle.fault_core.proofs.NeverBlamesLemmas.{reference_never_blames}
use Rattle.fault_core.proofs.OutcomeLemmas.{failed_early, own_fetches, stays_found, stays_then}
use Rattle.fault_core.proofs.core_over.Core.bring_and_load.Goals as goal

-- ---- It is refused.

pub returns-in-Ok-NoMap-clause-comes : goal.returns-in-Ok-NoMap-clause-comes
returns-in-Ok-NoMap-clause-comes g c = record {
  access = λ m named ss knows.
      came_to (access_of ss false c.args.address (length c.args.into.now)) c.in-Ok-NoMap.field-0 _ c.in-Ok-NoMap.field-0-is (c.in-Ok-NoMap.ensures.comes.access m named ss knows);
  ready = search rules;
}

pub returns-in-Ok-ReadOnly-clause-comes : goal.returns-in-Ok-ReadOnly-clause-comes
returns-in-Ok-ReadOnly-clause-comes g c = record {
  access = λ m named ss knows.
      came_to (access_of ss false c.args.address (length c.args.into.now)) c.in-Ok-ReadOnly.field-0 _ c.in-Ok-ReadOnly.field-0-is (c.in-Ok-ReadOnly.ensures.comes.access m named ss knows);
  ready = search rules;
}

-- ---- All bytes were loaded.

pub returns-in-Ok-clause-comes : goal.returns-in-Ok-clause-comes
returns-in-Ok-clause-comes g c = record {
  access = λ m named ss knows.
      came_to (access_of ss false c.args.address (length c.args.into.now)) c.in-Ok-Shown.field-0 _ c.in-Ok-Shown.field-0-is (c.in-Ok-Shown.ensures.comes.access m named ss knows);
  ready = λ done.
      let x = c.in-Ok-Shown.first in
      let y = c.in-Ok-Shown.last in
      let form = at_shown (λ x y. Shows x (c.args.address / 512) × Shows y (last_page c.args.address (length c.args.into.now))) c.in-Ok-Shown.field-0 x y c.in-Ok-Shown.field-0-is c.in-Ok-Shown.ensures.comes.form in
      record {
        interval = y;
        is_kept = at_shown (λ x y. IsKept (kept c.refer.new.self) y) c.in-Ok-Shown.field-0 x y c.in-Ok-Shown.field-0-is c.in-Ok-Shown.ensures.comes.is_kept;
        holds = form.1.holds;
        mapped = form.1.mapped;
        whole = c.in-Ok.ensures.whole;
      };
}

pub returns-in-Ok-clause-moves : goal.returns-in-Ok-clause-moves
returns-in-Ok-clause-moves g c = record {
  bytes = λ m named ss knows done.
      let x = c.in-Ok-Shown.first in
      let y = c.in-Ok-Shown.last in
      let p = c.args.address / 512 in
      let q = last_page c.args.address (length c.args.into.now) in
      let after = c.in-Ok-Shown.ensures.stays.same m named ss knows in
      let seen = both_seen after c.in-Ok-Shown.field-0 x y p q c.in-Ok-Shown.field-0-is c.in-Ok-Shown.ensures.comes.form (c.in-Ok-Shown.ensures.comes.intervals_at m named ss knows) in
      c.in-Ok.ensures.moves.bytes m named after.bytes ss after.known seen.0 seen.1;
  width = search rules;
  refused = search rules;
  intact = search rules;
}

pub returns-in-Ok-clause-stays : goal.returns-in-Ok-clause-stays
returns-in-Ok-clause-stays g c = stays_then c.refer.ensures.stays (stays_found (core_view c.refer.new.self) (view_of c.load_shown.new.filer) (accepted c.refer.new.self.filer) c.load_shown.ensures.brings.reaches)

pub returns-in-Ok-clause-brings : goal.returns-in-Ok-clause-brings
returns-in-Ok-clause-brings g c = record {
  reaches =
      reaches_then (state c.args.self.now) (state c.refer.new.self) (accepted c.args.self.now.filer) c.refer.ensures.brings.reaches (view_of c.load_shown.new.filer) c.load_shown.ensures.brings.reaches;
  came = λ m named ss knows.
      let x = c.in-Ok-Shown.first in
      let y = c.in-Ok-Shown.last in
      let p = c.args.address / 512 in
      let q = last_page c.args.address (length c.args.into.now) in
      let seen = both_seen knows c.in-Ok-Shown.field-0 x y p q c.in-Ok-Shown.field-0-is c.in-Ok-Shown.ensures.comes.form (c.in-Ok-Shown.ensures.comes.intervals_at m named ss knows) in
      brings_then (own_came ss (state c.args.self.now).slots (state c.refer.new.self).slots c.refer.ensures.brings.came)
      (both_came ss named m x y seen.0 seen.1
      (state c.refer.new.self).slots (view_of c.load_shown.new.filer).slots c.load_shown.ensures.brings.came);
}

pub returns-in-Ok-clause-idle : goal.returns-in-Ok-clause-idle
returns-in-Ok-clause-idle g c = λ first last apart.
    let x = c.in-Ok-Shown.first in
    let y = c.in-Ok-Shown.last in
    let p = c.args.address / 512 in
    let q = last_page c.args.address (length c.args.into.now) in
    let one = c.in-Ok-Shown.ensures.idle first last apart in
    let whole = at_shown (λ x y. IsWhole (state c.args.self.now).slots x p × IsWhole (state c.args.self.now).slots y q) c.in-Ok-Shown.field-0 x y c.in-Ok-Shown.field-0-is one.0 in
    let x_whole : IsWhole (state c.refer.new.self).slots x p = rw one.2 whole.0 in
    let y_whole : IsWhole (state c.refer.new.self).slots y q = rw one.2 whole.1 in
    let two = c.load_shown.ensures.idle x_whole y_whole in
    (refl, two.1 ∙ one.2, one.3)

-- ---- The disk failed.

pub returns-in-Err-clause-fails : goal.returns-in-Err-clause-fails
returns-in-Err-clause-fails g c = failed_early (BreaksFor (state c.args.self.now) c.args.self.now.intervals c.args.address (length c.args.into.now)) (core_view c.args.self.now) (state c.refer.new.self) (λ ss. shown_units ss c.args.address (length c.args.into.now)) c.in-Err.halt c.in-Err.ensures.fails

pub returns-in-Err-load_shown-clause-fails : goal.returns-in-Err-load_shown-clause-fails
returns-in-Err-load_shown-clause-fails g c =
    let cause =
    let v = state c.args.self.now in
    let x = view_of c.load_shown.new.filer in
    finds_before v (state c.refer.new.self) (accepted c.args.self.now.filer) c.refer.ensures.brings.reaches MayBeMissing no_break (BreaksFor v c.args.self.now.intervals c.args.address (length c.args.into.now)) (λ page none. absurd none)
    x x (omega arith) c.in-Err-load_shown.halt c.in-Err-load_shown.ensures.fails.cause in
    record {
      cause = cause;
      missing = λ ss s.
          let x = c.in-Ok-Shown.first in
          let y = c.in-Ok-Shown.last in
          let a = c.args.address in
          let n = length c.args.into.now in
          let mid = c.in-Ok-Shown.ensures.stays.sees ss s in
          let form = at_shown (λ x y. Shows x (a / 512) × Shows y (last_page a n)) c.in-Ok-Shown.field-0 x y c.in-Ok-Shown.field-0-is c.in-Ok-Shown.ensures.comes.form in
          let at = at_shown (λ x y. IsIntervalAt ss (a / 512) x × IsIntervalAt ss (last_page a n) y) c.in-Ok-Shown.field-0 x y c.in-Ok-Shown.field-0-is (c.in-Ok-Shown.ensures.comes.seen ss s) in
          misses_wider (both_units x y a n) (shown_units ss a n) (λ id number one. elim one [
            | inl own ↦ inl (unit_shown mid x (a / 512) at.0 form.0.mapped id number own)
            | inr own ↦ inr (unit_shown mid y (last_page a n) at.1 form.1.mapped id number own)
          ]) c.in-Err-load_shown.halt c.in-Err-load_shown.ensures.fails.misses;
      right = λ ss s. reference_never_blames s c.args.self.now.some (view_of c.load_shown.new.filer) c.in-Err-load_shown.halt c.args.address (length c.args.into.now) cause;
      sound = λ m named ss knows.
          let x = c.in-Ok-Shown.first in
          let y = c.in-Ok-Shown.last in
          let p = c.args.address / 512 in
          let q = last_page c.args.address (length c.args.into.now) in
          let after = c.in-Ok-Shown.ensures.stays.same m named ss knows in
          let seen = both_seen after c.in-Ok-Shown.field-0 x y p q c.in-Ok-Shown.field-0-is c.in-Ok-Shown.ensures.comes.form (c.in-Ok-Shown.ensures.comes.intervals_at m named ss knows) in
          c.in-Err-load_shown.ensures.fails.sound m named after.bytes after.known (seen.0.stored, seen.1.stored);
    }

pub returns-in-Err-load_shown-clause-moves : goal.returns-in-Err-load_shown-clause-moves
returns-in-Err-load_shown-clause-moves g c = record {
  bytes = search rules;
  width = search rules;
  refused = search rules;
  intact = λ one. c.in-Err-load_shown.ensures.moves.intact one;
}

pub returns-in-Err-load_shown-clause-stays : goal.returns-in-Err-load_shown-clause-stays
returns-in-Err-load_shown-clause-stays g c = stays_then c.refer.ensures.stays (stays_found (core_view c.refer.new.self) (view_of c.load_shown.new.filer) (accepted c.refer.new.self.filer) c.load_shown.ensures.brings.reaches)

pub returns-in-Err-load_shown-clause-brings : goal.returns-in-Err-load_shown-clause-brings
returns-in-Err-load_shown-clause-brings g c = record {
  reaches =
      reaches_then (state c.args.self.now) (state c.refer.new.self) (accepted c.args.self.now.filer) c.refer.ensures.brings.reaches (view_of c.load_shown.new.filer) c.load_shown.ensures.brings.reaches;
  came = λ m named ss knows.
      let x = c.in-Ok-Shown.first in
      let y = c.in-Ok-Shown.last in
      let p = c.args.address / 512 in
      let q = last_page c.args.address (length c.args.into.now) in
      let seen = both_seen knows c.in-Ok-Shown.field-0 x y p q c.in-Ok-Shown.field-0-is c.in-Ok-Shown.ensures.comes.form (c.in-Ok-Shown.ensures.comes.intervals_at m named ss knows) in
      brings_then (own_came ss (state c.args.self.now).slots (state c.refer.new.self).slots c.refer.ensures.brings.came)
      (both_came ss named m x y seen.0 seen.1
      (state c.refer.new.self).slots (view_of c.load_shown.new.filer).slots c.load_shown.ensures.brings.came);
}

pub returns-in-Err-load_shown-clause-idle : goal.returns-in-Err-load_shown-clause-idle
returns-in-Err-load_shown-clause-idle g c = λ first last apart.
    let x = c.in-Ok-Shown.first in
    let y = c.in-Ok-Shown.last in
    let p = c.args.address / 512 in
    let q = last_page c.args.address (length c.args.into.now) in
    let one = c.in-Ok-Shown.ensures.idle first last apart in
    let whole = at_shown (λ x y. IsWhole (state c.args.self.now).slots x p × IsWhole (state c.args.self.now).slots y q) c.in-Ok-Shown.field-0 x y c.in-Ok-Shown.field-0-is one.0 in
    let x_whole : IsWhole (state c.refer.new.self).slots x p = rw one.2 whole.0 in
    let y_whole : IsWhole (state c.refer.new.self).slots y q = rw one.2 whole.1 in
    let two = c.in-Err-load_shown.ensures.idle x_whole y_whole in
    (two.0, two.1 ∙ one.2, one.3)

-- ---- The tables are revealed.

pub returns-in-Ok-NoMap-clause-brings : goal.returns-in-Ok-NoMap-clause-brings
returns-in-Ok-NoMap-clause-brings g c = own_fetches (core_view c.args.self.now) (core_view c.refer.new.self) c.refer.ensures.brings

pub returns-in-Ok-ReadOnly-clause-brings : goal.returns-in-Ok-ReadOnly-clause-brings
returns-in-Ok-ReadOnly-clause-brings g c = own_fetches (core_view c.args.self.now) (core_view c.refer.new.self) c.refer.ensures.brings

pub returns-in-Err-clause-brings : goal.returns-in-Err-clause-brings
returns-in-Err-clause-brings g c = own_fetches (core_view c.args.self.now) (core_view c.refer.new.self) c.refer.ensures.brings

pub returns-in-Ok-NoMap-clause-fails : goal.returns-in-Ok-NoMap-clause-fails
returns-in-Ok-NoMap-clause-fails g c = record { cause = tt; missing = λ ss s. tt; right = λ ss s. tt; sound = λ m named ss knows. tt }

pub returns-in-Ok-NoMap-clause-stays : goal.returns-in-Ok-NoMap-clause-stays
returns-in-Ok-NoMap-clause-stays g c = c.refer.ensures.stays

pub returns-in-Ok-NoMap-clause-idle : goal.returns-in-Ok-NoMap-clause-idle
returns-in-Ok-NoMap-clause-idle g c = λ first last apart. let one = c.in-Ok-NoMap.ensures.idle first last apart in (refl, one.2, one.3)

pub returns-in-Ok-NoMap-clause-cost : goal.returns-in-Ok-NoMap-clause-cost
returns-in-Ok-NoMap-clause-cost g c = omega (arith, c.refer.ensures.cost)

pub returns-in-Ok-ReadOnly-clause-fails : goal.returns-in-Ok-ReadOnly-clause-fails
returns-in-Ok-ReadOnly-clause-fails g c = record { cause = tt; missing = λ ss s. tt; right = λ ss s. tt; sound = λ m named ss knows. tt }

pub returns-in-Ok-ReadOnly-clause-stays : goal.returns-in-Ok-ReadOnly-clause-stays
returns-in-Ok-ReadOnly-clause-stays g c = c.refer.ensures.stays

pub returns-in-Ok-ReadOnly-clause-idle : goal.returns-in-Ok-ReadOnly-clause-idle
returns-in-Ok-ReadOnly-clause-idle g c = λ first last apart. let one = c.in-Ok-ReadOnly.ensures.idle first last apart in (refl, one.2, one.3)

pub returns-in-Ok-ReadOnly-clause-cost : goal.returns-in-Ok-ReadOnly-clause-cost
returns-in-Ok-ReadOnly-clause-cost g c = omega (arith, c.refer.ensures.cost)

pub returns-in-Err-clause-comes : goal.returns-in-Err-clause-comes
returns-in-Err-clause-comes g c = record { access = λ m named ss knows. tt; ready = tt }

pub returns-in-Err-clause-moves : goal.returns-in-Err-clause-moves
returns-in-Err-clause-moves g c = record { bytes = λ m named ss knows. tt; width = refl; refused = tt; intact = λ one. refl }

pub returns-in-Err-clause-stays : goal.returns-in-Err-clause-stays
returns-in-Err-clause-stays g c = c.refer.ensures.stays

pub returns-in-Err-clause-idle : goal.returns-in-Err-clause-idle
returns-in-Err-clause-idle g c = λ first last apart. let one = c.in-Err.ensures.idle first last apart in (one.1, one.2, one.3)

pub returns-in-Err-clause-cost : goal.returns-in-Err-clause-cost
returns-in-Err-clause-cost g c = omega (arith, c.refer.ensures.cost)

pub returns-in-Ok-clause-fails : goal.returns-in-Ok-clause-fails
returns-in-Ok-clause-fails g c = record { cause = tt; missing = λ ss s. tt; right = λ ss s. tt; sound = λ m named ss knows. tt }

pub returns-in-Ok-clause-cost : goal.returns-in-Ok-clause-cost
returns-in-Ok-clause-cost g c = omega (arith, c.refer.ensures.cost, c.load_shown.ensures.cost)

pub returns-in-Err-load_shown-clause-comes : goal.returns-in-Err-load_shown-clause-comes
returns-in-Err-load_shown-clause-comes g c = record { access = λ m named ss knows. tt; ready = tt }

pub returns-in-Err-load_shown-clause-cost : goal.returns-in-Err-load_shown-clause-cost
returns-in-Err-load_shown-clause-cost g c = omega (arith, c.refer.ensures.cost, c.load_shown.ensures.cost)
