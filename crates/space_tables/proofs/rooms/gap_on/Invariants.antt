use Rattle.std.proofs.Common.{◌≡◌, ℕ, ◌-◌, ◌<◌, ◌≤◌, false, List}
use Rattle.projection_laws.specs.Laws.{is_gap}
use Rattle.projection_laws.specs.Stored.{interval_in}
use Rattle.space_tables.specs.Form.{interval_page, interval_record}
use Rattle.space_tables.proofs.rooms.gap_on.Given as goal

abbrev pub invariant-scan : goal.invariant-scan
invariant-scan l = record {
  from : l.from ≤ l.index;
  none : (b : List ℕ) → l.page ≡ interval_page b l.from → (k : ℕ) → l.from ≤ k → k < l.index → is_gap l.parent l.pages (interval_in (interval_record b k)) ≡ false;
}

abbrev pub decreases-scan : goal.decreases-scan
decreases-scan l = l.end - l.index
