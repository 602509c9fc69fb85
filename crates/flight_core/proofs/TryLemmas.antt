-- Clients that are tried, one after the other.
use Rattle.std.proofs.Common.{◌≡◌, ◌≢◌, ◌⊎◌, inl, inr, ℕ, zero, suc, ◌+◌, ◌-◌, ◌<◌, ◌≤◌, List, [], ◌∷◌, ◌++◌, length, true, false, leb, Option, Some, None, refl, sym, ◌∙◌, ap, subst, arith}
use Rattle.std.specs.Prelude.{flat_map, is_some, IsSome}
use Rattle.std.specs.List.{range_with_len}
use Rattle.std.proofs.lemmas.Grind.{flat_map-append}
use Rattle.std.proofs.lemmas.List.{append-nil}
use Rattle.std.proofs.lemmas.Bool.{true≢false}
use Rattle.std.proofs.lemmas.Bool.Decides.{leb_tells}
use Rattle.flat_machine.specs.declared.call.Reply.{Reply}
use Rattle.flat_machine.specs.Allows.{Allows}
use Rattle.flat_machine.specs.Next.{next}
use Rattle.flight_core.specs.declared.pending.Pending.{Pending}
use Rattle.flight_core.specs.declared.answers.Answer.{Answer}
use Rattle.flight_core.specs.declared.answers.Revealed.{Revealed}
use Rattle.flight_core.specs.declared.answers.Revealed.TheVariants as revealed
use Rattle.flight_core.specs.Pending.{times}
use Rattle.flight_core.specs.Crowd.{Crowd, entry_of, of_client, of_flight, of_others, by_client, waits_for, carries, Gets, TriesEach, Lands}
use Rattle.flight_core.specs.Landing.{HasTried, answer_of, reply_of}
use Rattle.flight_core.proofs.TimesLemmas.{entry_client, entry_none, of_one, of_nobody}

pub tries_then : (c : Crowd) (ps : List Pending) (got : List Answer) (mid : Crowd) (qs : List Pending) (bs : List Answer) (new : Crowd)
    → TriesEach c ps got mid → TriesEach mid qs bs new → TriesEach c (ps ++ qs) (got ++ bs) new
tries_then c [] got mid qs bs new tried goes =
    subst (λ (xs : List Answer). TriesEach c qs (xs ++ bs) new) (sym tried.0) (subst (λ (x : Crowd). TriesEach x qs bs new) tried.1 goes)
tries_then c (p ∷ ps) got mid qs bs new (inl tried) goes =
    inl (tried.0, tried.1 ++ bs, ap (λ (xs : List Answer). xs ++ bs) tried.2, tried.3, tries_then (carries c p.call) ps tried.1 mid qs bs new tried.4 goes)
tries_then c (p ∷ ps) got mid qs bs new (inr tried) goes =
    inr (tried.0, tried.1, tries_then (waits_for c p.client p.call tried.0) ps got mid qs bs new tried.2 goes)

abbrev answered : ℕ → Reply → List Answer
answered client r = (record { client = client; reply = r }) ∷ []

module _ (c new : Crowd) (client : ℕ) (ps : List Pending) (p : Pending) (once : times ps client ≤ 1) (found : entry_of ps client ≡ Some p) where
  -- the client that was found has an answer, or waits again
  pub tries_revealed : (t : Revealed) → Gets c client p.call t new → TriesEach c (of_client ps client) (answer_of client (reply_of t)) new
  tries_revealed (revealed.Answered r) gets =
      subst (λ (xs : List Pending). TriesEach c xs ((record { client = client; reply = r }) ∷ []) new) (sym (of_one ps client p found once))
      (inl (r, [], ap (λ (k : ℕ). answered k r) (sym (entry_client ps client p found)), gets.0, (refl, gets.1)))
  tries_revealed (revealed.Waits flight) gets =
      subst (λ (xs : List Pending). TriesEach c xs [] new) (sym (of_one ps client p found once))
      (inr (gets.0, gets.1, (refl, gets.3 ∙ ap (λ (k : ℕ). waits_for c k p.call gets.0) (sym (entry_client ps client p found)))))
  tries_revealed revealed.Busy gets = absurd gets

-- a client that is none of them
pub tries_none : (c : Crowd) (client : ℕ) (ps : List Pending) → entry_of ps client ≡ None → TriesEach c (of_client ps client) [] c
tries_none c client ps none =
    subst (λ (xs : List Pending). TriesEach c xs [] c) (sym (of_nobody ps client (entry_none ps client none))) (refl, refl)

-- those below a client, in ascending clients
abbrev pub below : List Pending → ℕ → List Pending
below ps client = flat_map (of_client ps) (range_with_len 1 (client - 1))

range_push : (a n : ℕ) → range_with_len a (suc n) ≡ range_with_len a n ++ (a + n) ∷ []
range_push a zero = let e : a ≡ a + 0 = omega arith in ap (λ (k : ℕ). k ∷ []) e
range_push a (suc n) =
    let e : (a + 1) + n ≡ a + suc n = omega arith in
    ap (λ (xs : List ℕ). a ∷ xs) (range_push (a + 1) n ∙ ap (λ (k : ℕ). range_with_len (a + 1) n ++ k ∷ []) e)

pub below_more : (ps : List Pending) (client : ℕ) → 1 ≤ client → below ps (client + 1) ≡ below ps client ++ of_client ps client
below_more ps client some =
    let more : client + 1 - 1 ≡ suc (client - 1) = omega (arith, some) in
    let it : 1 + (client - 1) ≡ client = omega (arith, some) in
    ap (λ (n : ℕ). flat_map (of_client ps) (range_with_len 1 n)) more
    ∙ ap (λ (xs : List ℕ). flat_map (of_client ps) xs) (range_push 1 (client - 1))
    ∙ flat_map-append (of_client ps) (range_with_len 1 (client - 1)) ((1 + (client - 1)) ∷ [])
    ∙ ap (λ (xs : List Pending). below ps client ++ xs) (append-nil (of_client ps (1 + (client - 1))) ∙ ap (λ (k : ℕ). of_client ps k) it)

-- the owner alone
pub tried_none : (c : Crowd) (owner : Answer) → HasTried c [] owner (owner ∷ []) c
tried_none c owner = record { rest = []; answers_are = refl; tries = (refl, refl) }

-- and more of them
pub tried_then : (c mid new : Crowd) (ps qs : List Pending) (owner : Answer) (answers more : List Answer)
    → HasTried c ps owner answers mid → TriesEach mid qs more new → HasTried c (ps ++ qs) owner (answers ++ more) new
tried_then c mid new ps qs owner answers more tried goes = record {
  rest = tried.rest ++ more;
  answers_are = ap (λ (xs : List Answer). xs ++ more) tried.answers_are;
  tries = tries_then c ps tried.rest mid qs more new tried.tries goes;
}

-- There is room for each answer, since the owner is none of the others.

other_than : (ps : List Pending) (client owner : ℕ) → entry_of ps owner ≡ None → IsSome (entry_of ps client) → client ≢ owner
other_than ps client owner none some = λ same. true≢false (sym some ∙ ap (λ (k : ℕ). is_some (entry_of ps k)) same ∙ ap is_some none)

abbrev pub HasRoom : ℕ → ℕ → ℕ → Type 0
HasRoom n client owner = (n ≤ client) × (owner < client → n + 1 ≤ client)

module _ (n client owner : ℕ) (room : HasRoom n client owner) (ps : List Pending) (none : entry_of ps owner ≡ None) (r : Option Reply) (one : IsSome r → IsSome (entry_of ps client)) where
  pub has_room : client < 17 → owner ≤ 16 → IsSome r → n < 16
  has_room low fits some = either (leb_tells client owner)
    where
      other : client ≢ owner
      other = other_than ps client owner none (one some)

      either : ((leb client owner ≡ true) × (client ≤ owner)) ⊎ ((leb client owner ≡ false) × (owner < client)) → n < 16
      either (inl le) = omega (arith, room.0, le.1, other, fits)
      either (inr gt) = omega (arith, room.1 gt.1, low)

pub keeps_room : (n client owner : ℕ) (ps : List Pending) (r : Option Reply) → HasRoom n client owner → entry_of ps owner ≡ None
    → (IsSome r → IsSome (entry_of ps client)) → HasRoom (n + length (answer_of client r)) (client + 1) owner
keeps_room n client owner ps None room none one = (omega (arith, room.0), λ low. omega (arith, room.0))
keeps_room n client owner ps (Some x) room none one =
    let other : client ≢ owner = other_than ps client owner none (one refl) in
    (omega (arith, room.0), λ low. let less : owner < client = omega (arith, low, other) in omega (arith, room.1 less))

-- the owner's answer, and then the others: the flight has landed
pub lands : (c : Crowd) (flight : ℕ) (owner : Pending) (others left : List Pending) (reply : Reply) (answers : List Answer) (new : Crowd)
    → of_flight c.waiting flight ≡ owner ∷ others → left ≡ of_others c.waiting flight → Allows c.machine owner.call reply
    → HasTried (record { machine = next c.machine owner.call; begun = c.begun; waiting = left }) (by_client others) (record { client = owner.client; reply = reply }) answers new
    → Lands c flight answers new
lands c flight owner others left reply answers new all rest allowed tried = record {
  owner = owner;
  joined = others;
  of_it = all;
  reply = reply;
  rest = tried.rest;
  answers_are = tried.answers_are;
  allowed = allowed;
  tries =
      subst (λ (ps : List Pending). TriesEach (record { machine = next c.machine owner.call; begun = c.begun; waiting = ps }) (by_client others) tried.rest new) rest tried.tries;
}
