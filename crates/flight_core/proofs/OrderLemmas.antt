-- Those who wait stay in order: each client once, and those of one page in one flight.
use Rattle.std.proofs.Common.{◌≡◌, ◌≢◌, ◌⊎◌, inl, inr, ℕ, ◌+◌, ◌<◌, ◌≤◌, max, Bool, true, false, cond, List, [], ◌∷◌, ◌++◌, length, get_or, Option, Some, None, refl, sym, ◌∙◌, ap, subst, arith, eq-eqb, ne_eqb, eqb-true}
use Rattle.std.specs.Prelude.{◌==◌, ◌↔◌, filter}
use Rattle.std.specs.List.{All}
use Rattle.std.specs.Option.{option_map_or}
use Rattle.std.proofs.lemmas.Bool.{cases_eq, true≢false, false≢true}
use Rattle.std.proofs.lemmas.List.Elements.{All-head, All-tail, All-push, All-weaker, All-filter}
use Rattle.flat_machine.specs.declared.call.Call.{Call}
use Rattle.flat_machine.specs.declared.call.Call.TheVariants as call
use Rattle.flat_machine.specs.After.{ends_trace}
use Rattle.flat_machine.specs.Form.{IsInForm}
use Rattle.flight_core.specs.declared.pending.Pending.{Pending}
use Rattle.flight_core.specs.Pending.{IsClient, IsKept, IsPending, AreInOrder, times}
use Rattle.flight_core.specs.Crowd.{entry_of, entry_for, flight_for, begun_for, with_waiting}
use Rattle.flight_core.proofs.TimesLemmas.{times-push, times-parts, found, not_found, fewer}

-- a call that may wait ends no trace, and is in form
pub goes_on : (c : Call) → IsKept c → ends_trace c ≡ false
goes_on call.Close k = absurd (false≢true k.reference)
goes_on call.Halt k = absurd (false≢true k.reference)
goes_on other k = refl

pub in_form : (c : Call) → IsKept c → IsInForm c
in_form (call.Load address count) k = (k.some, k.few)
in_form (call.Store address bytes) k = (k.some, k.few)
in_form other k = tt

-- with what a client waits may wait
pub kept_of : (ps : List Pending) (client : ℕ) (p : Pending) → All (λ q. IsKept q.call) ps → entry_of ps client ≡ Some p → IsKept p.call
kept_of ps client p all is = (found (λ (q : Pending). q.client == client) (λ (q : Pending). IsKept q.call) ps p all is).0

abbrev pub newcomer : ℕ → List Pending → ℕ → Call → ℕ → Pending
newcomer begun ps client call page = record { client = client; call = call; page = page; flight = flight_for begun ps page }

abbrev newcomer_by : ℕ → Call → ℕ → ℕ → Pending
newcomer_by client call page flight = record { client = client; call = call; page = page; flight = flight }

abbrev AreTogether : Pending → Pending → Type 0
AreTogether p q = (p.page ≡ q.page) ↔ (p.flight ≡ q.flight)

module _ (begun : ℕ) (ps : List Pending) (order : AreInOrder begun ps) where
  -- there is room for one who does not wait
  pub room : (client : ℕ) → IsClient client → times ps client ≡ 0 → length ps < 16
  room client is free = fewer 16 ps client (All-weaker (IsPending begun) (λ (p : Pending). (1 ≤ p.client) × (p.client ≤ 16)) (λ p w. w.client) ps order.each) order.once is free

  -- the flight for a page is the greatest that has begun then
  pub begun_is : (page : ℕ) → max begun (flight_for begun ps page) ≡ begun_for begun ps page
  begun_is page = either (entry_for ps page) refl
    where
      either : (o : Option Pending) → entry_for ps page ≡ o → max begun (option_map_or (λ p. p.flight) o (begun + 1)) ≡ option_map_or (λ p. begun) o (begun + 1)
      either None e = omega arith
      either (Some p) e = omega (arith, (found (λ (q : Pending). q.page == page) (IsPending begun) ps p order.each e).0.flight.1)

  some_flight : (page : ℕ) → 1 ≤ flight_for begun ps page
  some_flight page = either (entry_for ps page) refl
    where
      either : (o : Option Pending) → entry_for ps page ≡ o → 1 ≤ option_map_or (λ p. p.flight) o (begun + 1)
      either None e = omega arith
      either (Some p) e = (found (λ (q : Pending). q.page == page) (IsPending begun) ps p order.each e).0.flight.0

  -- those who wait for the page are those in its flight
  together : (page : ℕ) → All (λ p. (p.page ≡ page) ↔ (p.flight ≡ flight_for begun ps page)) ps
  together page = either (entry_for ps page) refl
    where
      either : (o : Option Pending) → entry_for ps page ≡ o → All (λ p. (p.page ≡ page) ↔ (p.flight ≡ option_map_or (λ q. q.flight) o (begun + 1))) ps
      either None e = λ k d below.
          let fails : ((get_or ps k d).page == page) ≡ false = not_found (λ (p : Pending). p.page == page) ps e k d below in
          let w = order.each k d below in
          (λ same. absurd (true≢false (sym (eq-eqb (get_or ps k d).page page same) ∙ fails)), λ same. absurd (omega (arith, w.flight.1, same)))
      either (Some q) e =
          let f = found (λ (p : Pending). p.page == page) (λ (p : Pending). All (AreTogether p) ps) ps q order.one_flight e in
          let is : q.page ≡ page = eqb-true q.page page f.1 in
          λ k d below. let r = f.0 k d below in (λ same. sym (r.0 (is ∙ sym same)), λ same. sym (r.1 (sym same)) ∙ is)

  -- one more who did not wait
  pub joined : (client : ℕ) (call : Call) (page later : ℕ) → IsClient client → IsKept call → times ps client ≡ 0
      → later ≡ max begun (flight_for begun ps page) → AreInOrder later (with_waiting begun ps client call page)
  joined client call page later is kept free last = record {
    each =
        All-push (IsPending later) ps (newcomer begun ps client call page)
        (All-weaker (IsPending begun) (IsPending later) wider ps order.each)
        (record { client = is; kept = kept; flight = (some_flight page, omega (arith, last)) });
    once = λ k. subst (λ (n : ℕ). n ≤ 1) (sym (times-push ps (newcomer begun ps client call page) k)) (either k (cases_eq client k));
    one_flight =
        All-push (λ (p : Pending). All (AreTogether p) (ps ++ newcomer begun ps client call page ∷ [])) ps (newcomer begun ps client call page)
        (λ k d below. All-push (AreTogether (get_or ps k d)) ps (newcomer begun ps client call page) (order.one_flight k d below) (together page k d below))
        (All-push (AreTogether (newcomer begun ps client call page)) ps (newcomer begun ps client call page)
        (λ k d below. let r = together page k d below in (λ same. sym (r.0 (sym same)), λ same. sym (r.1 (sym same))))
        (λ same. refl, λ same. refl));
  }
    where
      wider : (p : Pending) → IsPending begun p → IsPending later p
      wider p w = record { client = w.client; kept = w.kept; flight = (w.flight.0, omega (arith, w.flight.1, last)) }

      bit : (b : Bool) → cond b 1 0 ≤ 1
      bit true = omega arith
      bit false = omega arith

      either : (k : ℕ) → (client ≡ k) ⊎ (client ≢ k) → times ps k + cond (client == k) 1 0 ≤ 1
      either k (inl same) =
          let none : times ps k ≡ 0 = subst (λ (j : ℕ). times ps j ≡ 0) same free in
          omega (arith, none, bit (client == k))
      either k (inr other) =
          let not_it : ◌≡◌ {A = ℕ} (cond (client == k) 1 0) 0 = ap (λ (b : Bool). cond {A = ℕ} b 1 0) (ne_eqb client k other) in
          omega (arith, order.once k, not_it)

  -- the same, of values that are known to be these
  pub joined_by : (client : ℕ) (call again : Call) (page flight later : ℕ) (qs : List Pending) → IsClient client → IsKept call → times ps client ≡ 0
      → flight ≡ flight_for begun ps page → again ≡ call → later ≡ max begun flight
      → qs ≡ ps ++ (record { client = client; call = again; page = page; flight = flight }) ∷ [] → AreInOrder later qs
  joined_by client call again page flight later qs is kept free of_it as_it last all =
      subst (λ (xs : List Pending). AreInOrder later xs) (sym (all ∙ ap (λ (p : Pending). ps ++ p ∷ []) same))
      (joined client call page later is kept free (last ∙ ap (λ (n : ℕ). max begun n) of_it))
    where
      same : ◌≡◌ {A = Pending} (record { client = client; call = again; page = page; flight = flight }) (newcomer begun ps client call page)
      same =
          ap (λ (c : Call). newcomer_by client c page flight) as_it ∙ ap (λ (n : ℕ). newcomer_by client call page n) of_it

  -- some of them
  pub some_in_order : (test : Pending → Bool) → AreInOrder begun (filter test ps)
  some_in_order test = record {
    each = All-filter test (IsPending begun) ps order.each;
    once = λ k. omega (arith, times-parts test ps k, order.once k);
    one_flight = λ k d below.
        All-filter test (AreTogether (get_or (filter test ps) k d)) ps
        (All-filter test (λ (p : Pending). All (AreTogether p) ps) ps order.one_flight k d below);
  }

  module _ (test : Pending → Bool) (owner : Pending) (others : List Pending) (all : filter test ps ≡ owner ∷ others) where
    some_pending : All (IsPending begun) (owner ∷ others)
    some_pending = subst (λ (qs : List Pending). All (IsPending begun) qs) all (All-filter test (IsPending begun) ps order.each)

    -- the first of them waits, and so do the others
    pub owner_pending : IsPending begun owner
    owner_pending = All-head (IsPending begun) owner others some_pending

    pub others_kept : All (λ p. IsKept p.call) others
    others_kept = All-weaker (IsPending begun) (λ (p : Pending). IsKept p.call) (λ p w. w.kept) others (All-tail (IsPending begun) owner others some_pending)
