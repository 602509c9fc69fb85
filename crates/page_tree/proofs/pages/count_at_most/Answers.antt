use Rattle.std.proofs.Common.{◌+◌, ◌-◌, ◌*◌, ◌/◌, ◌≤◌, ℕ, arith}
use Rattle.std.proofs.lemmas.Nat.{mul-le}
use Rattle.page_tree.proofs.pages.count_at_most.Goals as goal

pub is_key_at_most-requires : goal.is_key_at_most-requires
is_key_at_most-requires g c =
    let middle : ℕ = c.search.found + (c.search.end - c.search.found) / 2 in
    let inside : c.args.step * (middle + 1) ≤ c.args.step * c.args.count = mul-le c.args.step (middle + 1) c.args.step c.args.count (omega arith) (omega (arith, c.search-test.true, c.search.invariant.below)) in
    record { inside = omega (arith, inside, c.requires.inside, c.requires.width); width = c.told-key; limit = c.first_number-limit.ensures }
