use Rattle.std.proofs.Common.{rules, ap, ◌/◌, true, refl, sym, arith, length, inl, inr}
use Rattle.swapper_kernel.specs.HaltLaws.{brings_then}
use Rattle.session_words.specs.CellLaws.{IsTouchedOrOwn}
use Rattle.fault_core.specs.declared.reference.Access.TheVariants as access
use Rattle.fault_core.specs.Access.{Shows, access_of, last_page, BreaksFor}
use Rattle.fault_core.specs.Core.{core_view, kept, state}
use Rattle.fault_core.specs.Kept.{IsKept}
use Rattle.fault_core.specs.Moves.{StoresAs, StoresSome, client_page, of_reference}
use Rattle.filer_kernel.specs.Evidence.{MayBeMissing}
use Rattle.fault_core.specs.Reach.{no_break}
use Rattle.fault_core.specs.Unit.{IsWhole, file_page}
use Rattle.filer_kernel.specs.View.{accepted, view_of}
use Rattle.fault_core.proofs.AccessLemmas.{at_shown, both_seen, came_to}
use Rattle.fault_core.proofs.BeforeLemmas.{touches_of, touches_then, touches_wider}
use Rattle.fault_core.proofs.LeaveLemmas.{clients_alone, goes_refused, goes_revealed, none_stored, revealed_leaves, revealed_stands, touched_or_own}
use Rattle.fault_core.proofs.ReachLemmas.{finds_before}
use Rattle.fault_core.proofs.ShowLemmas.{own_came, both_came}
use Rattle.fault_core.specs.Lack.{both_units, shown_units}
use Rattle.fault_core.proofs.LackLemmas.{misses_wider, unit_shown}
use Rattle.space_tables.specs.SpaceTables.{IsIntervalAt}
use Rattle.fault_core.proofs.NeverBlamesLemmas.{reference_never_blames, sees_touched}
use Rattle.fault_core.proofs.ReferredLemmas.{touches_referred}
use Rattle.fault_core.proofs.OutcomeLemmas.{failed_early, own_changes, stays_told}
use Rattle.fault_core.proofs.core_over.Core.bring_and_store.Goals as goal

-- ---- It is refused.

pub returns-in-Ok-NoMap-clause-comes : goal.returns-in-Ok-NoMap-clause-comes
returns-in-Ok-NoMap-clause-comes g c = record {
  access = λ m named ss knows.
      came_to (access_of ss true c.args.address (length c.args.bytes.now)) c.in-Ok-NoMap.field-0 _ c.in-Ok-NoMap.field-0-is (c.in-Ok-NoMap.ensures.comes.access m named ss knows);
  ready = search rules;
}

pub returns-in-Ok-NoMap-clause-moves : goal.returns-in-Ok-NoMap-clause-moves
returns-in-Ok-NoMap-clause-moves g c = record {
  stored = λ m named ss knows.
      goes_refused (StoresAs (access.NoMap c.in-Ok-NoMap.page) ss c.args.address c.args.bytes.now) c.args.address (length c.args.bytes.now) refl c.refer.ensures.brings.reaches knows (c.in-Ok-NoMap.ensures.stays.same m named ss knows);
  halted = search rules;
  tested = search rules;
  refused = search rules;
  dirty = search rules;
}

pub returns-in-Ok-NoMap-clause-stays : goal.returns-in-Ok-NoMap-clause-stays
returns-in-Ok-NoMap-clause-stays g c = stays_told c.refer.ensures.stays

pub returns-in-Ok-NoMap-clause-brings : goal.returns-in-Ok-NoMap-clause-brings
returns-in-Ok-NoMap-clause-brings g c = own_changes c.args.address (length c.args.bytes.now) (core_view c.args.self.now) (core_view c.refer.new.self) c.refer.ensures.brings

pub returns-in-Ok-ReadOnly-clause-comes : goal.returns-in-Ok-ReadOnly-clause-comes
returns-in-Ok-ReadOnly-clause-comes g c = record {
  access = λ m named ss knows.
      came_to (access_of ss true c.args.address (length c.args.bytes.now)) c.in-Ok-ReadOnly.field-0 _ c.in-Ok-ReadOnly.field-0-is (c.in-Ok-ReadOnly.ensures.comes.access m named ss knows);
  ready = search rules;
}

pub returns-in-Ok-ReadOnly-clause-moves : goal.returns-in-Ok-ReadOnly-clause-moves
returns-in-Ok-ReadOnly-clause-moves g c = record {
  stored = λ m named ss knows.
      goes_refused (StoresAs (access.ReadOnly c.in-Ok-ReadOnly.page) ss c.args.address c.args.bytes.now) c.args.address (length c.args.bytes.now) refl c.refer.ensures.brings.reaches knows (c.in-Ok-ReadOnly.ensures.stays.same m named ss knows);
  halted = search rules;
  tested = search rules;
  refused = search rules;
  dirty = search rules;
}

pub returns-in-Ok-ReadOnly-clause-stays : goal.returns-in-Ok-ReadOnly-clause-stays
returns-in-Ok-ReadOnly-clause-stays g c = stays_told c.refer.ensures.stays

pub returns-in-Ok-ReadOnly-clause-brings : goal.returns-in-Ok-ReadOnly-clause-brings
returns-in-Ok-ReadOnly-clause-brings g c = own_changes c.args.address (length c.args.bytes.now) (core_view c.args.self.now) (core_view c.refer.new.self) c.refer.ensures.brings

-- ---- The pages could not be described.

pub returns-in-Err-clause-fails : goal.returns-in-Err-clause-fails
returns-in-Err-clause-fails g c = failed_early (BreaksFor (state c.args.self.now) c.args.self.now.intervals c.args.address (length c.args.bytes.now)) (core_view c.args.self.now) (state c.refer.new.self) (λ ss. shown_units ss c.args.address (length c.args.bytes.now)) c.in-Err.halt c.in-Err.ensures.fails

pub returns-in-Err-clause-moves : goal.returns-in-Err-clause-moves
returns-in-Err-clause-moves g c = record {
  stored = search rules;
  halted = λ m named ss knows.
      goes_refused (StoresSome ss c.args.address c.args.bytes.now) c.args.address (length c.args.bytes.now) (none_stored ss c.args.address c.args.bytes.now m m refl) c.refer.ensures.brings.reaches knows (c.in-Err.ensures.stays.same m named ss knows);
  tested = search rules;
  refused = search rules;
  dirty = search rules;
}

pub returns-in-Err-clause-stays : goal.returns-in-Err-clause-stays
returns-in-Err-clause-stays g c = stays_told c.refer.ensures.stays

pub returns-in-Err-clause-brings : goal.returns-in-Err-clause-brings
returns-in-Err-clause-brings g c = own_changes c.args.address (length c.args.bytes.now) (core_view c.args.self.now) (core_view c.refer.new.self) c.refer.ensures.brings

-- ---- All bytes were stored.

pub returns-in-Ok-clause-comes : goal.returns-in-Ok-clause-comes
returns-in-Ok-clause-comes g c = record {
  access = λ m named ss knows.
      came_to (access_of ss true c.args.address (length c.args.bytes.now)) c.in-Ok-Shown.field-0 _ c.in-Ok-Shown.field-0-is (c.in-Ok-Shown.ensures.comes.access m named ss knows);
  ready = λ done.
      let x = c.in-Ok-Shown.first in
      let y = c.in-Ok-Shown.last in
      let form = at_shown (λ x y. Shows x (c.args.address / 512) × Shows y (last_page c.args.address (length c.args.bytes.now))) c.in-Ok-Shown.field-0 x y c.in-Ok-Shown.field-0-is c.in-Ok-Shown.ensures.comes.form in
      record {
        interval = y;
        is_kept = at_shown (λ x y. IsKept (kept c.refer.new.self) y) c.in-Ok-Shown.field-0 x y c.in-Ok-Shown.field-0-is c.in-Ok-Shown.ensures.comes.is_kept;
        holds = form.1.holds;
        mapped = form.1.mapped;
        whole = c.in-Ok.ensures.whole;
      };
}

pub returns-in-Ok-clause-moves : goal.returns-in-Ok-clause-moves
returns-in-Ok-clause-moves g c = record {
  stored = λ m named ss knows.
      let x = c.in-Ok-Shown.first in
      let y = c.in-Ok-Shown.last in
      let a = c.args.address in
      let n = length c.args.bytes.now in
      let after = c.in-Ok-Shown.ensures.stays.same m named ss knows in
      let form = at_shown (λ x y. Shows x (a / 512) × Shows y (last_page a n)) c.in-Ok-Shown.field-0 x y c.in-Ok-Shown.field-0-is c.in-Ok-Shown.ensures.comes.form in
      let seen = both_seen after c.in-Ok-Shown.field-0 x y (a / 512) (last_page a n) c.in-Ok-Shown.field-0-is c.in-Ok-Shown.ensures.comes.form (c.in-Ok-Shown.ensures.comes.intervals_at m named ss knows) in
      let l = c.in-Ok.ensures.moves.stored m named after.bytes ss after.known seen.0 seen.1 in
      goes_revealed (StoresAs access.Done ss a c.args.bytes.now) (of_reference x y a n) (IsTouchedOrOwn ss a n)
      (touches_then (state c.args.self.now) (state c.refer.new.self) (accepted c.args.self.now.filer) (touches_of (of_reference x y a n) c.refer.ensures.brings.reaches) (view_of c.store_shown.new.filer) c.store_shown.ensures.brings.touches)
      (touched_or_own ss named m x y a n seen.0 seen.1 form.0.holds form.1.holds) knows.known.stands l.memory l.known.stands l.changed;
  halted = search rules;
  tested = λ m named ss knows other.
      absurd (other (sym (came_to (access_of ss true c.args.address (length c.args.bytes.now)) c.in-Ok-Shown.field-0 _ c.in-Ok-Shown.field-0-is (c.in-Ok-Shown.ensures.comes.access m named ss knows))));
  refused = search rules;
  dirty = λ m named ss knows done.
      let x = c.in-Ok-Shown.first in
      let y = c.in-Ok-Shown.last in
      let q = last_page c.args.address (length c.args.bytes.now) in
      let form = at_shown (λ x y. Shows x (c.args.address / 512) × Shows y q) c.in-Ok-Shown.field-0 x y c.in-Ok-Shown.field-0-is c.in-Ok-Shown.ensures.comes.form in
      let seen = both_seen knows c.in-Ok-Shown.field-0 x y (c.args.address / 512) q c.in-Ok-Shown.field-0-is c.in-Ok-Shown.ensures.comes.form (c.in-Ok-Shown.ensures.comes.intervals_at m named ss knows) in
      record { shown = record { file = y.id; page = file_page y q }; is_shown = seen.1.shown q form.1.holds; dirty = c.in-Ok.ensures.moves.dirty };
}

pub returns-in-Ok-clause-stays : goal.returns-in-Ok-clause-stays
returns-in-Ok-clause-stays g c = record {
  sees =
      let x = c.in-Ok-Shown.first in
      let y = c.in-Ok-Shown.last in
      λ ss s. sees_touched (c.in-Ok-Shown.ensures.stays.sees ss s) (of_reference x y c.args.address (length c.args.bytes.now)) (view_of c.store_shown.new.filer) c.store_shown.ensures.brings.touches;
  known = λ m n named ss knows stands.
      let after = c.in-Ok-Shown.ensures.stays.same m named ss knows in
      let seen = both_seen after c.in-Ok-Shown.field-0 c.in-Ok-Shown.first c.in-Ok-Shown.last (c.args.address / 512) (last_page c.args.address (length c.args.bytes.now)) c.in-Ok-Shown.field-0-is c.in-Ok-Shown.ensures.comes.form (c.in-Ok-Shown.ensures.comes.intervals_at m named ss knows) in
      revealed_stands (revealed_leaves after (c.in-Ok.ensures.moves.stored m named after.bytes ss after.known seen.0 seen.1)) n stands;
  intervals = search rules;
}

pub returns-in-Ok-clause-brings : goal.returns-in-Ok-clause-brings
returns-in-Ok-clause-brings g c = record {
  touches =
      let x = c.in-Ok-Shown.first in
      let y = c.in-Ok-Shown.last in
      let a = c.args.address in
      let n = length c.args.bytes.now in
      let form = at_shown (λ x y. Shows x (a / 512) × Shows y (last_page a n)) c.in-Ok-Shown.field-0 x y c.in-Ok-Shown.field-0-is c.in-Ok-Shown.ensures.comes.form in
      touches_wider (of_reference x y a n) client_page (clients_alone x y a n (form.0.formed.shows form.0.mapped).0 (form.1.formed.shows form.1.mapped).0)
      (touches_then (state c.args.self.now) (state c.refer.new.self) (accepted c.args.self.now.filer) (touches_of (of_reference x y a n) c.refer.ensures.brings.reaches) (view_of c.store_shown.new.filer) c.store_shown.ensures.brings.touches);
  shown = λ ss s.
      let x = c.in-Ok-Shown.first in
      let y = c.in-Ok-Shown.last in
      let a = c.args.address in
      let n = length c.args.bytes.now in
      let form = at_shown (λ x y. Shows x (a / 512) × Shows y (last_page a n)) c.in-Ok-Shown.field-0 x y c.in-Ok-Shown.field-0-is c.in-Ok-Shown.ensures.comes.form in
      let at = at_shown (λ x y. IsIntervalAt ss (a / 512) x × IsIntervalAt ss (last_page a n) y) c.in-Ok-Shown.field-0 x y c.in-Ok-Shown.field-0-is (c.in-Ok-Shown.ensures.comes.seen ss s) in
      touches_referred s x y a n at.0 at.1 form.0 form.1
      (touches_then (state c.args.self.now) (state c.refer.new.self) (accepted c.args.self.now.filer) (touches_of (of_reference x y a n) c.refer.ensures.brings.reaches) (view_of c.store_shown.new.filer) c.store_shown.ensures.brings.touches);
  came = λ m named ss knows.
      let x = c.in-Ok-Shown.first in
      let y = c.in-Ok-Shown.last in
      let seen = both_seen knows c.in-Ok-Shown.field-0 x y (c.args.address / 512) (last_page c.args.address (length c.args.bytes.now)) c.in-Ok-Shown.field-0-is c.in-Ok-Shown.ensures.comes.form (c.in-Ok-Shown.ensures.comes.intervals_at m named ss knows) in
      brings_then (own_came ss (state c.args.self.now).slots (state c.refer.new.self).slots c.refer.ensures.brings.came)
      (both_came ss named m x y seen.0 seen.1 (state c.refer.new.self).slots (view_of c.store_shown.new.filer).slots c.store_shown.ensures.brings.came);
}

pub returns-in-Ok-clause-idle : goal.returns-in-Ok-clause-idle
returns-in-Ok-clause-idle g c = λ first last apart.
    let x = c.in-Ok-Shown.first in
    let y = c.in-Ok-Shown.last in
    let p = c.args.address / 512 in
    let q = last_page c.args.address (length c.args.bytes.now) in
    let one = c.in-Ok-Shown.ensures.idle first last apart in
    let whole = at_shown (λ x y. IsWhole (state c.args.self.now).slots x p × IsWhole (state c.args.self.now).slots y q) c.in-Ok-Shown.field-0 x y c.in-Ok-Shown.field-0-is one.0 in
    let x_whole : IsWhole (state c.refer.new.self).slots x p = rw one.2 whole.0 in
    let y_whole : IsWhole (state c.refer.new.self).slots y q = rw one.2 whole.1 in
    let two = c.store_shown.ensures.idle x_whole y_whole in
    (refl, rw (← one.2) two.1, one.3)

-- ---- The disk failed.

pub returns-in-Err-store_shown-clause-moves : goal.returns-in-Err-store_shown-clause-moves
returns-in-Err-store_shown-clause-moves g c = record {
  stored = search rules;
  halted = λ m named ss knows.
      let x = c.in-Ok-Shown.first in
      let y = c.in-Ok-Shown.last in
      let a = c.args.address in
      let n = length c.args.bytes.now in
      let after = c.in-Ok-Shown.ensures.stays.same m named ss knows in
      let form = at_shown (λ x y. Shows x (a / 512) × Shows y (last_page a n)) c.in-Ok-Shown.field-0 x y c.in-Ok-Shown.field-0-is c.in-Ok-Shown.ensures.comes.form in
      let seen = both_seen after c.in-Ok-Shown.field-0 x y (a / 512) (last_page a n) c.in-Ok-Shown.field-0-is c.in-Ok-Shown.ensures.comes.form (c.in-Ok-Shown.ensures.comes.intervals_at m named ss knows) in
      let l = c.in-Err-store_shown.ensures.moves.halted m named after.bytes ss after.known seen.0 in
      goes_revealed (StoresSome ss a c.args.bytes.now) (of_reference x y a n) (IsTouchedOrOwn ss a n)
      (touches_then (state c.args.self.now) (state c.refer.new.self) (accepted c.args.self.now.filer) (touches_of (of_reference x y a n) c.refer.ensures.brings.reaches) (view_of c.store_shown.new.filer) c.store_shown.ensures.brings.touches)
      (touched_or_own ss named m x y a n seen.0 seen.1 form.0.holds form.1.holds) knows.known.stands l.memory l.known.stands l.changed;
  tested = λ m named ss knows other.
      absurd (other (sym (came_to (access_of ss true c.args.address (length c.args.bytes.now)) c.in-Ok-Shown.field-0 _ c.in-Ok-Shown.field-0-is (c.in-Ok-Shown.ensures.comes.access m named ss knows))));
  refused = search rules;
  dirty = search rules;
}

pub returns-in-Err-store_shown-clause-stays : goal.returns-in-Err-store_shown-clause-stays
returns-in-Err-store_shown-clause-stays g c = record {
  sees =
      let x = c.in-Ok-Shown.first in
      let y = c.in-Ok-Shown.last in
      λ ss s. sees_touched (c.in-Ok-Shown.ensures.stays.sees ss s) (of_reference x y c.args.address (length c.args.bytes.now)) (view_of c.store_shown.new.filer) c.store_shown.ensures.brings.touches;
  known = λ m n named ss knows stands.
      let after = c.in-Ok-Shown.ensures.stays.same m named ss knows in
      let seen = both_seen after c.in-Ok-Shown.field-0 c.in-Ok-Shown.first c.in-Ok-Shown.last (c.args.address / 512) (last_page c.args.address (length c.args.bytes.now)) c.in-Ok-Shown.field-0-is c.in-Ok-Shown.ensures.comes.form (c.in-Ok-Shown.ensures.comes.intervals_at m named ss knows) in
      revealed_stands (revealed_leaves after (c.in-Err-store_shown.ensures.moves.halted m named after.bytes ss after.known seen.0)) n stands;
  intervals = search rules;
}

pub returns-in-Err-store_shown-clause-fails : goal.returns-in-Err-store_shown-clause-fails
returns-in-Err-store_shown-clause-fails g c =
    let cause =
    let v = state c.args.self.now in
    let x = view_of c.store_shown.new.filer in
    finds_before v (state c.refer.new.self) (accepted c.args.self.now.filer) c.refer.ensures.brings.reaches MayBeMissing no_break (BreaksFor v c.args.self.now.intervals c.args.address (length c.args.bytes.now)) (λ page none. absurd none)
    x x (omega arith) c.in-Err-store_shown.halt c.in-Err-store_shown.ensures.fails.cause in
    record {
      cause = cause;
      missing = λ ss s.
          let x = c.in-Ok-Shown.first in
          let y = c.in-Ok-Shown.last in
          let a = c.args.address in
          let n = length c.args.bytes.now in
          let mid = c.in-Ok-Shown.ensures.stays.sees ss s in
          let form = at_shown (λ x y. Shows x (a / 512) × Shows y (last_page a n)) c.in-Ok-Shown.field-0 x y c.in-Ok-Shown.field-0-is c.in-Ok-Shown.ensures.comes.form in
          let at = at_shown (λ x y. IsIntervalAt ss (a / 512) x × IsIntervalAt ss (last_page a n) y) c.in-Ok-Shown.field-0 x y c.in-Ok-Shown.field-0-is (c.in-Ok-Shown.ensures.comes.seen ss s) in
          misses_wider (both_units x y a n) (shown_units ss a n) (λ id number one. elim one [
            | inl own ↦ inl (unit_shown mid x (a / 512) at.0 form.0.mapped id number own)
            | inr own ↦ inr (unit_shown mid y (last_page a n) at.1 form.1.mapped id number own)
          ]) c.in-Err-store_shown.halt c.in-Err-store_shown.ensures.fails.misses;
      right = λ ss s. reference_never_blames s c.args.self.now.some (view_of c.store_shown.new.filer) c.in-Err-store_shown.halt c.args.address (length c.args.bytes.now) cause;
      sound = λ m named ss knows.
          let after = c.in-Ok-Shown.ensures.stays.same m named ss knows in
          let seen = both_seen after c.in-Ok-Shown.field-0 c.in-Ok-Shown.first c.in-Ok-Shown.last (c.args.address / 512) (last_page c.args.address (length c.args.bytes.now)) c.in-Ok-Shown.field-0-is c.in-Ok-Shown.ensures.comes.form (c.in-Ok-Shown.ensures.comes.intervals_at m named ss knows) in
          c.in-Err-store_shown.ensures.fails.sound m named after.bytes after.known (seen.0.stored, seen.1.stored);
    }

pub returns-in-Err-store_shown-clause-brings : goal.returns-in-Err-store_shown-clause-brings
returns-in-Err-store_shown-clause-brings g c = record {
  touches =
      let x = c.in-Ok-Shown.first in
      let y = c.in-Ok-Shown.last in
      let a = c.args.address in
      let n = length c.args.bytes.now in
      let form = at_shown (λ x y. Shows x (a / 512) × Shows y (last_page a n)) c.in-Ok-Shown.field-0 x y c.in-Ok-Shown.field-0-is c.in-Ok-Shown.ensures.comes.form in
      touches_wider (of_reference x y a n) client_page (clients_alone x y a n (form.0.formed.shows form.0.mapped).0 (form.1.formed.shows form.1.mapped).0)
      (touches_then (state c.args.self.now) (state c.refer.new.self) (accepted c.args.self.now.filer) (touches_of (of_reference x y a n) c.refer.ensures.brings.reaches) (view_of c.store_shown.new.filer) c.store_shown.ensures.brings.touches);
  shown = λ ss s.
      let x = c.in-Ok-Shown.first in
      let y = c.in-Ok-Shown.last in
      let a = c.args.address in
      let n = length c.args.bytes.now in
      let form = at_shown (λ x y. Shows x (a / 512) × Shows y (last_page a n)) c.in-Ok-Shown.field-0 x y c.in-Ok-Shown.field-0-is c.in-Ok-Shown.ensures.comes.form in
      let at = at_shown (λ x y. IsIntervalAt ss (a / 512) x × IsIntervalAt ss (last_page a n) y) c.in-Ok-Shown.field-0 x y c.in-Ok-Shown.field-0-is (c.in-Ok-Shown.ensures.comes.seen ss s) in
      touches_referred s x y a n at.0 at.1 form.0 form.1
      (touches_then (state c.args.self.now) (state c.refer.new.self) (accepted c.args.self.now.filer) (touches_of (of_reference x y a n) c.refer.ensures.brings.reaches) (view_of c.store_shown.new.filer) c.store_shown.ensures.brings.touches);
  came = λ m named ss knows.
      let x = c.in-Ok-Shown.first in
      let y = c.in-Ok-Shown.last in
      let seen = both_seen knows c.in-Ok-Shown.field-0 x y (c.args.address / 512) (last_page c.args.address (length c.args.bytes.now)) c.in-Ok-Shown.field-0-is c.in-Ok-Shown.ensures.comes.form (c.in-Ok-Shown.ensures.comes.intervals_at m named ss knows) in
      brings_then (own_came ss (state c.args.self.now).slots (state c.refer.new.self).slots c.refer.ensures.brings.came)
      (both_came ss named m x y seen.0 seen.1 (state c.refer.new.self).slots (view_of c.store_shown.new.filer).slots c.store_shown.ensures.brings.came);
}

pub returns-in-Err-store_shown-clause-idle : goal.returns-in-Err-store_shown-clause-idle
returns-in-Err-store_shown-clause-idle g c = λ first last apart.
    let x = c.in-Ok-Shown.first in
    let y = c.in-Ok-Shown.last in
    let p = c.args.address / 512 in
    let q = last_page c.args.address (length c.args.bytes.now) in
    let one = c.in-Ok-Shown.ensures.idle first last apart in
    let whole = at_shown (λ x y. IsWhole (state c.args.self.now).slots x p × IsWhole (state c.args.self.now).slots y q) c.in-Ok-Shown.field-0 x y c.in-Ok-Shown.field-0-is one.0 in
    let x_whole : IsWhole (state c.refer.new.self).slots x p = rw one.2 whole.0 in
    let y_whole : IsWhole (state c.refer.new.self).slots y q = rw one.2 whole.1 in
    let two = c.in-Err-store_shown.ensures.idle x_whole y_whole in
    (two.0, rw (← one.2) two.1, one.3)

pub returns-in-Ok-NoMap-clause-fails : goal.returns-in-Ok-NoMap-clause-fails
returns-in-Ok-NoMap-clause-fails g c = record { cause = tt; missing = λ ss s. tt; right = λ ss s. tt; sound = λ m named ss knows. tt }

pub returns-in-Ok-NoMap-clause-idle : goal.returns-in-Ok-NoMap-clause-idle
returns-in-Ok-NoMap-clause-idle g c = λ first last apart. let one = c.in-Ok-NoMap.ensures.idle first last apart in (refl, ap (λ f. (view_of f).disk) one.2, one.3)

pub returns-in-Ok-NoMap-clause-cost : goal.returns-in-Ok-NoMap-clause-cost
returns-in-Ok-NoMap-clause-cost g c = omega (arith, c.refer.ensures.cost)

pub returns-in-Ok-ReadOnly-clause-fails : goal.returns-in-Ok-ReadOnly-clause-fails
returns-in-Ok-ReadOnly-clause-fails g c = record { cause = tt; missing = λ ss s. tt; right = λ ss s. tt; sound = λ m named ss knows. tt }

pub returns-in-Ok-ReadOnly-clause-idle : goal.returns-in-Ok-ReadOnly-clause-idle
returns-in-Ok-ReadOnly-clause-idle g c = λ first last apart. let one = c.in-Ok-ReadOnly.ensures.idle first last apart in (refl, ap (λ f. (view_of f).disk) one.2, one.3)

pub returns-in-Ok-ReadOnly-clause-cost : goal.returns-in-Ok-ReadOnly-clause-cost
returns-in-Ok-ReadOnly-clause-cost g c = omega (arith, c.refer.ensures.cost)

pub returns-in-Err-clause-comes : goal.returns-in-Err-clause-comes
returns-in-Err-clause-comes g c = record { access = λ m named ss knows. tt; ready = tt }

pub returns-in-Err-clause-idle : goal.returns-in-Err-clause-idle
returns-in-Err-clause-idle g c = λ first last apart. let one = c.in-Err.ensures.idle first last apart in (one.1, ap (λ f. (view_of f).disk) one.2, one.3)

pub returns-in-Err-clause-cost : goal.returns-in-Err-clause-cost
returns-in-Err-clause-cost g c = omega (arith, c.refer.ensures.cost)

pub returns-in-Ok-clause-fails : goal.returns-in-Ok-clause-fails
returns-in-Ok-clause-fails g c = record { cause = tt; missing = λ ss s. tt; right = λ ss s. tt; sound = λ m named ss knows. tt }

pub returns-in-Ok-clause-cost : goal.returns-in-Ok-clause-cost
returns-in-Ok-clause-cost g c = omega (arith, c.refer.ensures.cost, c.store_shown.ensures.cost)

pub returns-in-Err-store_shown-clause-comes : goal.returns-in-Err-store_shown-clause-comes
returns-in-Err-store_shown-clause-comes g c = record { access = λ m named ss knows. tt; ready = tt }

pub returns-in-Err-store_shown-clause-cost : goal.returns-in-Err-store_shown-clause-cost
returns-in-Err-store_shown-clause-cost g c = omega (arith, c.refer.ensures.cost, c.store_shown.ensures.cost)
