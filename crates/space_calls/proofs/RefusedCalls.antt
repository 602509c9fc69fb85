-- When the machine refuses a call on the range of a space.
use Rattle.std.proofs.Common.{◌≡◌, ℕ, [], ◌∷◌, Option, Some, None, ap}
use Rattle.flat_machine.specs.declared.call.Call.TheVariants as call
use Rattle.flat_machine.specs.declared.call.Refusal.{Refusal}
use Rattle.flat_machine.specs.Machine.{Machine}
use Rattle.flat_machine.specs.Refusal.{refusal, first_of, no_space}

-- the one test of a call on a space
one_test : (o p : Option Refusal) → o ≡ p → first_of (o ∷ []) ≡ first_of (p ∷ [])
one_test o p is = ap (λ (q : Option Refusal). first_of (q ∷ [])) is

module _ (m : Machine) (space : ℕ) where
  module _ (free : no_space m.spaces space ≡ None) where
    pub deactivate_there : refusal m (call.Deactivate space) ≡ None
    deactivate_there = one_test _ _ free

    pub kill_there : refusal m (call.Kill space) ≡ None
    kill_there = one_test _ _ free

    pub force_there : refusal m (call.ForceOut space) ≡ None
    force_there = one_test _ _ free

  module _ (word : Refusal) (is : no_space m.spaces space ≡ Some word) where
    pub deactivate_refused : refusal m (call.Deactivate space) ≡ Some word
    deactivate_refused = one_test _ _ is

    pub kill_refused : refusal m (call.Kill space) ≡ Some word
    kill_refused = one_test _ _ is

    pub force_refused : refusal m (call.ForceOut space) ≡ Some word
    force_refused = one_test _ _ is
