-- Calls in a row, and one more.
use Rattle.std.proofs.Common.{◌≡◌, Some, None, ℕ, zero, suc, ◌+◌, ◌-◌, ◌≤◌, List, [], ◌∷◌, ◌++◌, refl, sym, ◌∙◌, ap, subst, arith}
use Rattle.std.specs.Prelude.{flat_map}
use Rattle.std.specs.List.{range_with_len}
use Rattle.std.proofs.lemmas.Grind.{flat_map-append}
use Rattle.flight_core.specs.declared.pending.Pending.{Pending}
use Rattle.flight_core.specs.Carrying.{Carried, Tries, Steps, LedInARow, LedByFirst}
use Rattle.flight_core.specs.Crowd.{by_client, entry_of, of_client}
use Rattle.flight_core.specs.LandingCalls.{tries_of, landing_calls}
use Rattle.flight_core.specs.Pending.{times}
use Rattle.flight_core.proofs.TimesLemmas.{entry_none, of_nobody, of_one}
use Rattle.flight_core.proofs.TryLemmas.{below, below_more}

tries_then : (ps qs : List Pending) → tries_of (ps ++ qs) ≡ tries_of ps ++ tries_of qs
tries_then [] qs = refl
tries_then (p ∷ ps) qs = ap (λ (xs : List Carried). Tries p.call ∷ xs) (tries_then ps qs)

-- numbers in a row, cut in two
range_split : (a m n k : ℕ) → k ≡ m + n → range_with_len a k ≡ range_with_len a m ++ range_with_len (a + m) n
range_split a zero n k is =
    let same : k ≡ n = omega (arith, is) in
    let start : a ≡ a + 0 = omega arith in
    ap (λ (i : ℕ). range_with_len a i) same ∙ ap (λ (i : ℕ). range_with_len i n) start
range_split a (suc m) n zero is = absurd (omega (arith, is))
range_split a (suc m) n (suc k) is =
    let rest : k ≡ m + n = omega (arith, is) in
    let start : (a + 1) + m ≡ a + suc m = omega arith in
    ap (λ (xs : List ℕ). a ∷ xs) (range_split (a + 1) m n k rest ∙ ap (λ (i : ℕ). range_with_len (a + 1) m ++ range_with_len i n) start)

-- those below a client are the first ones in ascending clients
below_first : (ps : List Pending) (client : ℕ) → 1 ≤ client → client ≤ 17 → (more : List Pending) × (by_client ps ≡ below ps client ++ more)
below_first ps client some few =
    let size : 16 ≡ (client - 1) + (17 - client) = omega (arith, some, few) in
    let more = range_with_len (1 + (client - 1)) (17 - client) in
    (flat_map (of_client ps) more, ap (λ (ks : List ℕ). flat_map (of_client ps) ks) (range_split 1 (client - 1) (17 - client) 16 size) ∙ flat_map-append (of_client ps) (range_with_len 1 (client - 1)) more)

module _ {S : Type 0} (led : S → Carried → S → Type 0) where
  pub in_a_row_then : (old mid new : S) (calls more : List Carried) → LedInARow led old calls mid → LedInARow led mid more new → LedInARow led old (calls ++ more) new
  in_a_row_then old mid new [] more first next = subst (λ (s : S). LedInARow led s more new) first next
  in_a_row_then old mid new (call ∷ calls) more first next = (first.0, first.1, in_a_row_then first.0 mid new calls more first.2 next)

  -- the client that is tried
  pub tried_client : (old new : S) (client : ℕ) (ps : List Pending) (p : Pending) → times ps client ≤ 1 → entry_of ps client ≡ Some p → led old (Tries p.call) new → LedInARow led old (tries_of (of_client ps client)) new
  tried_client old new client ps p once found one = subst (λ (qs : List Pending). LedInARow led old (tries_of qs) new) (sym (of_one ps client p found once)) (new, one, refl)

  pub tried_nobody : (s : S) (client : ℕ) (ps : List Pending) → entry_of ps client ≡ None → LedInARow led s (tries_of (of_client ps client)) s
  tried_nobody s client ps none = subst (λ (qs : List Pending). LedInARow led s (tries_of qs) s) (sym (of_nobody ps client (entry_none ps client none))) refl

  -- one client more
  pub tried_more : (old mid new : S) (client : ℕ) (ps : List Pending) → 1 ≤ client → LedInARow led old (tries_of (below ps client)) mid → LedInARow led mid (tries_of (of_client ps client)) new
      → LedInARow led old (tries_of (below ps (client + 1))) new
  tried_more old mid new client ps some first next =
      subst (λ (calls : List Carried). LedInARow led old calls new) (sym (ap tries_of (below_more ps client some) ∙ tries_then (below ps client) (of_client ps client)))
      (in_a_row_then old mid new (tries_of (below ps client)) (tries_of (of_client ps client)) first next)

  pub tried_first : (old new : S) (client : ℕ) (ps : List Pending) → 1 ≤ client → client ≤ 17 → LedInARow led old (tries_of (below ps client)) new → LedByFirst led old (tries_of (by_client ps)) new
  tried_first old new client ps some few first =
      let more = below_first ps client some few in
      (tries_of (below ps client), (tries_of more.0, ap tries_of more.1 ∙ tries_then (below ps client) more.0), first)

  -- a flight lands
  module _ (old mid : S) (ps : List Pending) (owner : Pending) (joined : List Pending) (all : ps ≡ owner ∷ joined) (one : led old (Steps owner.call) mid) where
    pub owner_led : LedByFirst led old (landing_calls ps) mid
    owner_led = (Steps owner.call ∷ [], (tries_of (by_client joined), ap landing_calls all), (mid, one, refl))

    pub landing_led : (new : S) → LedByFirst led mid (tries_of (by_client joined)) new → LedByFirst led old (landing_calls ps) new
    landing_led new tried = (Steps owner.call ∷ tried.0, (tried.1.0, ap landing_calls all ∙ ap (λ (xs : List Carried). Steps owner.call ∷ xs) tried.1.1), (mid, one, tried.2))

pub led_nothing : {S : Type 0} (led : S → Carried → S → Type 0) (s : S) (calls : List Carried) → LedByFirst led s calls s
led_nothing led s calls = ([], (calls, refl), refl)

pub led_one : {S : Type 0} (led : S → Carried → S → Type 0) (old new : S) (call : Carried) → led old call new → LedByFirst led old (call ∷ []) new
led_one led old new call one = (call ∷ [], ([], refl), (new, one, refl))
