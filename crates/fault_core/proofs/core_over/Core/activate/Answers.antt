use Rattle.std.proofs.Common.{ℕ, ◌+◌, ◌/◌, length, refl, subst, arith}
use Rattle.filer_kernel.specs.Evidence.{MayBeMissing}
use Rattle.fault_core.specs.Activate.{AreUnits, start_at}
use Rattle.fault_core.specs.Core.{core_view, kept, state}
use Rattle.fault_core.specs.Kill.{BreaksWithin}
use Rattle.fault_core.specs.Revealed.{BreaksTables}
use Rattle.fault_core.proofs.AccessLemmas.{breaks_before}
use Rattle.fault_core.proofs.ActivateLemmas.{none_active, touched_whole}
use Rattle.fault_core.proofs.ReachLemmas.{finds_before}
use Rattle.fault_core.proofs.WholeLemmas.{whole_stays}
use Rattle.fault_core.proofs.OutcomeLemmas.{brought_after, brought_on, fetches_then, stays_then}
use Rattle.fault_core.proofs.core_over.Core.activate.Goals as goal
use Rattle.filer_kernel.specs.View.{accepted}

-- ---- No window shows a page of the range.

pub returns-then-units-eq0-clause-whole : goal.returns-then-units-eq0-clause-whole
returns-then-units-eq0-clause-whole g c = λ m named ss knows.
    none_active ss (kept c.bring_units.new.self) (state c.bring_units.new.self).slots c.args.first (c.args.first + c.args.pages) _ c.in-Ok.brought.0 c.in-Ok.brought.1 c.if-units-eq0.true
    (c.in-Ok.ensures.comes.units m named ss knows)

pub returns-then-units-eq0-clause-units : goal.returns-then-units-eq0-clause-units
returns-then-units-eq0-clause-units g c = λ m named ss knows. record {
  last = c.in-Ok.brought.1;
  are = subst (λ (n : ℕ). AreUnits ss (c.args.first + c.args.pages) (start_at c.args.first (length (state c.args.self.now).slots / 2)) n c.in-Ok.brought.1) c.if-units-eq0.true (c.in-Ok.ensures.comes.units m named ss knows);
  whole = λ some. absurd (some refl);
  all = λ slot empty some. absurd (some refl);
}

-- ---- The page that was brought in last is touched.

pub returns-in-Ok-fetch_page-clause-whole : goal.returns-in-Ok-fetch_page-clause-whole
returns-in-Ok-fetch_page-clause-whole g c = λ m named ss knows page above below shown.
    let within = c.in-Ok.ensures.comes.within c.if-units-eq0.false in
    let after = c.bring_units.ensures.stays.same m named ss knows in
    record {
      page = c.in-Ok.brought.1;
      above = within.0;
      below = within.1;
      whole = touched_whole (c.fetch_page.ensures.stays.same m named ss after) (state c.fetch_page.new.self).slots c.in-Ok.brought.1 c.in-Ok-fetch_page._slot (c.in-Ok.ensures.comes.shown m named ss knows c.if-units-eq0.false)
          (c.in-Ok-fetch_page.ensures.comes.none m named ss after).0 c.in-Ok-fetch_page.ensures.comes.ready;
    }

pub returns-in-Ok-fetch_page-clause-units : goal.returns-in-Ok-fetch_page-clause-units
returns-in-Ok-fetch_page-clause-units g c = λ m named ss knows.
    let after = c.bring_units.ensures.stays.same m named ss knows in
    record {
      last = c.in-Ok.brought.1;
      are = c.in-Ok.ensures.comes.units m named ss knows;
      whole = λ some. touched_whole (c.fetch_page.ensures.stays.same m named ss after) (state c.fetch_page.new.self).slots c.in-Ok.brought.1 c.in-Ok-fetch_page._slot (c.in-Ok.ensures.comes.shown m named ss knows some)
          (c.in-Ok-fetch_page.ensures.comes.none m named ss after).0 c.in-Ok-fetch_page.ensures.comes.ready;
      all = λ slot empty some.
          let room = c.fetch_page.ensures.brings.room in
          whole_stays ss (state c.bring_units.new.self).slots (state c.fetch_page.new.self).slots c.args.first (c.in-Ok.brought.1 + 1) slot room empty (c.in-Ok.ensures.comes.all m named ss knows slot (room.empty slot empty) some);
    }

pub returns-in-Ok-fetch_page-clause-stays : goal.returns-in-Ok-fetch_page-clause-stays
returns-in-Ok-fetch_page-clause-stays g c = stays_then c.bring_units.ensures.stays c.fetch_page.ensures.stays

pub returns-in-Ok-fetch_page-clause-brings : goal.returns-in-Ok-fetch_page-clause-brings
returns-in-Ok-fetch_page-clause-brings g c = fetches_then (core_view c.args.self.now) (core_view c.bring_units.new.self) (core_view c.fetch_page.new.self) (accepted c.args.self.now.filer) c.bring_units.ensures.brings c.bring_units.ensures.stays c.fetch_page.ensures.brings

-- ---- It could not be brought in.

pub returns-in-Err-fetch_page-clause-fails : goal.returns-in-Err-fetch_page-clause-fails
returns-in-Err-fetch_page-clause-fails g c =
    let v = (state c.args.self.now) in
    let w = state c.bring_units.new.self in
    let x = state c.fetch_page.new.self in
    let page = c.in-Ok.brought.1 in
    let h = c.bring_units.ensures.brings.reaches in
    let within = c.in-Ok.ensures.comes.within c.if-units-eq0.false in
    brought_after c.bring_units.ensures.stays
    (finds_before v w (accepted c.args.self.now.filer) h MayBeMissing (BreaksTables w c.bring_units.new.self.intervals page) (BreaksWithin v c.args.self.now.intervals c.args.first (c.args.first + c.args.pages))
    (λ broken breaks. record {
      asked = page;
      from = within.0;
      below = within.1;
      breaks = breaks_before v w h c.args.self.now.intervals c.bring_units.new.self.intervals page broken c.bring_units.ensures.stays.intervals breaks;
    }) x x (omega arith)) c.in-Err-fetch_page.halt (λ ss s id number own. (page, within.0, within.1, own)) c.in-Err-fetch_page.ensures.fails

pub returns-in-Err-fetch_page-clause-stays : goal.returns-in-Err-fetch_page-clause-stays
returns-in-Err-fetch_page-clause-stays g c = stays_then c.bring_units.ensures.stays c.fetch_page.ensures.stays

pub returns-in-Err-fetch_page-clause-brings : goal.returns-in-Err-fetch_page-clause-brings
returns-in-Err-fetch_page-clause-brings g c = fetches_then (core_view c.args.self.now) (core_view c.bring_units.new.self) (core_view c.fetch_page.new.self) (accepted c.args.self.now.filer) c.bring_units.ensures.brings c.bring_units.ensures.stays c.fetch_page.ensures.brings

-- ---- The tables are revealed.

pub returns-in-Err-clause-fails : goal.returns-in-Err-clause-fails
returns-in-Err-clause-fails g c = brought_on c.in-Err.halt c.in-Err.ensures.fails
