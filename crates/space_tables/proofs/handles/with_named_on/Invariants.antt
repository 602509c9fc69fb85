use Rattle.std.proofs.Common.{◌≡◌, ℕ, ◌-◌, ◌≤◌, List}
use Rattle.space_tables.specs.Form.{interval_page}
use Rattle.space_tables.specs.Handles.{NameOnly, Widens}
use Rattle.space_tables.proofs.handles.with_named_on.Given as goal

abbrev pub invariant-naming : goal.invariant-naming
invariant-naming l = record {
  from : l.from ≤ l.index;
  named : (b : List ℕ) → l.page ≡ interval_page b l.from → NameOnly l.sought b l.from l.index l.handles;
  wider : Widens l.fn.handles l.handles;
  form : l.fn.handles.end ≤ 512 → l.handles.end ≤ 512;
}

abbrev pub decreases-naming : goal.decreases-naming
decreases-naming l = l.end - l.index
