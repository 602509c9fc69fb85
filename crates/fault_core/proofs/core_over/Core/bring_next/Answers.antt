use Rattle.std.proofs.Common.{rules, inl, inr, refl, arith}
use Rattle.filer_kernel.specs.Evidence.{MayBeMissing}
use Rattle.fault_core.specs.Core.{core_view, state}
use Rattle.fault_core.specs.Revealed.{BreaksTables}
use Rattle.fault_core.proofs.AccessLemmas.{breaks_before}
use Rattle.fault_core.proofs.ActivateLemmas.{touched_ready, unit_brought}
use Rattle.fault_core.proofs.ReachLemmas.{finds_before}
use Rattle.fault_core.proofs.WholeLemmas.{none_whole, shown_here, unit_whole}
use Rattle.fault_core.specs.Lack.{shown_unit}
use Rattle.fault_core.proofs.OutcomeLemmas.{brought_after, failed_early, found_fetches, own_fetches_in_room, stays_then}
use Rattle.fault_core.proofs.core_over.Core.bring_next.Goals as goal
use Rattle.filer_kernel.specs.View.{accepted}

-- ---- No window shows the page.

pub returns-then-pages-eq0-clause-comes : goal.returns-then-pages-eq0-clause-comes
returns-then-pages-eq0-clause-comes g c = record {
  turn = search rules;
  further = λ m named ss knows.
      let passed = c.in-Ok.ensures.comes.bare m named ss knows c.if-pages-eq0.true in
      inr (refl, passed.0, passed.1);
  whole = λ m named ss knows.
      none_whole knows.tables (state c.unit_at.new.self).slots c.args.so_far.page c.in-Ok.unit.0 (c.in-Ok.ensures.comes.bare m named ss knows c.if-pages-eq0.true).0;
  too_long = search rules;
}

-- ---- Its unit has too many pages.

pub returns-then-pages-so_far-clause-comes : goal.returns-then-pages-so_far-clause-comes
returns-then-pages-so_far-clause-comes g c = record {
  turn = search rules;
  further = search rules;
  whole = search rules;
  too_long = λ m named ss knows none.
      (c.if-so_far-ne0.true, c.in-Ok.unit.0, c.in-Ok.unit.1, c.in-Ok.ensures.comes.shown m named ss knows c.if-pages-eq0.false, c.if-pages-so_far.true);
}

-- ---- It is brought in.

pub returns-in-Ok-fetch_page-clause-comes : goal.returns-in-Ok-fetch_page-clause-comes
returns-in-Ok-fetch_page-clause-comes g c = record {
  turn = search rules;
  further = λ m named ss knows.
      unit_brought ss c.args.end c.args.so_far c.in-Ok.unit.0 c.in-Ok.unit.1 c.saturating_sub.result c.saturating_sub.ensures (c.in-Ok.ensures.comes.shown m named ss knows c.if-pages-eq0.false)
      (λ some. elim c.else-so_far-ne0.either [ inl both ↦ both.1 | inr none ↦ absurd (some none) ]);
  whole = λ m named ss knows.
      let unit = c.in-Ok.ensures.comes.shown m named ss knows c.if-pages-eq0.false in
      let mid = c.unit_at.ensures.stays.same m named ss knows in
      let shown = shown_here knows.tables unit.interval c.args.so_far.page unit.projected unit.mapped in
      unit_whole (c.fetch_page.ensures.stays.same m named ss mid) (state c.fetch_page.new.self).slots c.args.so_far.page c.in-Ok.unit.0 c.in-Ok.unit.1 unit
      (touched_ready ss _ (state c.fetch_page.new.self).slots c.args.so_far.page c.in-Ok-fetch_page._slot shown (c.in-Ok-fetch_page.ensures.comes.none m named ss mid).0 c.in-Ok-fetch_page.ensures.comes.ready);
  too_long = search rules;
}

pub returns-in-Ok-fetch_page-clause-brings : goal.returns-in-Ok-fetch_page-clause-brings
returns-in-Ok-fetch_page-clause-brings g c = found_fetches (core_view c.args.self.now) (core_view c.unit_at.new.self) (core_view c.fetch_page.new.self) (accepted c.args.self.now.filer) c.unit_at.ensures.brings c.unit_at.ensures.stays c.fetch_page.ensures.brings

pub returns-in-Err-fetch_page-clause-brings : goal.returns-in-Err-fetch_page-clause-brings
returns-in-Err-fetch_page-clause-brings g c = found_fetches (core_view c.args.self.now) (core_view c.unit_at.new.self) (core_view c.fetch_page.new.self) (accepted c.args.self.now.filer) c.unit_at.ensures.brings c.unit_at.ensures.stays c.fetch_page.ensures.brings

pub returns-in-Ok-fetch_page-clause-stays : goal.returns-in-Ok-fetch_page-clause-stays
returns-in-Ok-fetch_page-clause-stays g c = stays_then c.unit_at.ensures.stays c.fetch_page.ensures.stays

-- ---- It could not be brought in.

pub returns-in-Err-clause-fails : goal.returns-in-Err-clause-fails
returns-in-Err-clause-fails g c = failed_early (BreaksTables (state c.args.self.now) c.args.self.now.intervals c.args.so_far.page) (core_view c.args.self.now) (state c.unit_at.new.self) (λ ss. shown_unit ss c.args.so_far.page) c.in-Err.halt c.in-Err.ensures.fails

pub returns-in-Err-fetch_page-clause-fails : goal.returns-in-Err-fetch_page-clause-fails
returns-in-Err-fetch_page-clause-fails g c =
    let v = (state c.args.self.now) in
    let w = state c.unit_at.new.self in
    let x = state c.fetch_page.new.self in
    let page = c.args.so_far.page in
    let h = c.unit_at.ensures.brings.reaches in
    brought_after c.unit_at.ensures.stays
    (finds_before v w (accepted c.args.self.now.filer) h MayBeMissing (BreaksTables w c.unit_at.new.self.intervals page) (BreaksTables v c.args.self.now.intervals page)
    (λ broken breaks. breaks_before v w h c.args.self.now.intervals c.unit_at.new.self.intervals page broken c.unit_at.ensures.stays.intervals breaks) x x (omega arith))
    c.in-Err-fetch_page.halt (λ ss s id number own. own) c.in-Err-fetch_page.ensures.fails

pub returns-in-Err-fetch_page-clause-stays : goal.returns-in-Err-fetch_page-clause-stays
returns-in-Err-fetch_page-clause-stays g c = stays_then c.unit_at.ensures.stays c.fetch_page.ensures.stays

-- ---- A page has no sector.

pub returns-in-Err-clause-brings : goal.returns-in-Err-clause-brings
returns-in-Err-clause-brings g c = own_fetches_in_room (core_view c.args.self.now) (core_view c.unit_at.new.self) c.unit_at.ensures.brings

pub returns-then-pages-eq0-clause-brings : goal.returns-then-pages-eq0-clause-brings
returns-then-pages-eq0-clause-brings g c = own_fetches_in_room (core_view c.args.self.now) (core_view c.unit_at.new.self) c.unit_at.ensures.brings

pub returns-then-pages-so_far-clause-brings : goal.returns-then-pages-so_far-clause-brings
returns-then-pages-so_far-clause-brings g c = own_fetches_in_room (core_view c.args.self.now) (core_view c.unit_at.new.self) c.unit_at.ensures.brings
