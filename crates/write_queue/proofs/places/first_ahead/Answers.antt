use Rattle.std.proofs.Common.{◌≤◌, ◌<◌, ℕ, length, get_or, sym, subst}
use Rattle.write_queue.specs.Sweeps.{sweep_key}
use Rattle.write_queue.proofs.PlaceLemmas.{found_first}
use Rattle.write_queue.proofs.places.first_ahead.Goals as goal

-- the first sector stands where it was found
inside : (c : goal.After-index_of) → c.index_of.result < length c.args.sectors.now
inside c =
    let first = c.first_of_sweep-first.ensures in
    found_first c.args.sectors.now c.first_of_sweep-first.result c.index_of.result first.place c.index_of.ensures.within c.index_of.ensures.misses first.inside first.there

pub returns : goal.returns
returns c = record {
  below = inside c;
  least = λ k below.
      subst (λ (s : ℕ). sweep_key c.args.head s ≤ sweep_key c.args.head (get_or c.args.sectors.now k 0)) (sym (c.index_of.ensures.stands (inside c)))
      (c.first_of_sweep-first.ensures.least k below);
}
