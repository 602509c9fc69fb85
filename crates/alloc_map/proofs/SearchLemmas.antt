-- What a look on and a look back find.
use Rattle.std.proofs.Common.{◌≡◌, ℕ, ◌<◌, ◌≤◌, true, false, List, arith, sym, ◌∙◌}
use Rattle.std.proofs.lemmas.Bool.{true≢false}
use Rattle.alloc_map.specs.Bits.{is_used, AreAll}
use Rattle.alloc_map.specs.Runs.{IsFreeFrom}
use Rattle.alloc_map.proofs.BitLemmas.{all_more}

module _ (b : List ℕ) (low from stop : ℕ) where
  pub found_on : (s : ℕ) → s < stop → is_used b s ≡ false → AreAll true b from s → IsFreeFrom b low from stop s
  found_on s below free used = record {
    free = λ _. free;
    none = λ end. absurd (omega (arith, below, end));
    lowest = λ all. all_more true b low from s all used;
  }

  pub found_back : (s : ℕ) → low ≤ s → s < from → from < stop → is_used b s ≡ false → IsFreeFrom b low from stop s
  found_back s above below order free = record {
    free = λ _. free;
    none = λ end. absurd (omega (arith, below, order, end));
    lowest = λ all. absurd (true≢false (sym (all s above below) ∙ free));
  }

  pub found_none : AreAll true b low from → AreAll true b from stop → IsFreeFrom b low from stop stop
  found_none before on = record {
    free = λ below. absurd (omega (arith, below));
    none = λ _. all_more true b low from stop before on;
    lowest = λ _. all_more true b low from stop before on;
  }
