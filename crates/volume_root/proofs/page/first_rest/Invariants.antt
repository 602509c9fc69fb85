use Rattle.std.proofs.Common.{◌≡◌, drop}
use Rattle.volume_root.specs.RootPage.{first_from, first_rest}
use Rattle.volume_root.proofs.page.first_rest.Given as goal

abbrev pub invariant-loop-at : goal.invariant-loop-at
invariant-loop-at l = first_from l.at (drop l.at l.page) ≡ first_rest l.page
