-- One call of a trial more.
use Rattle.std.proofs.Common.{◌≡◌, ℕ, ◌+◌, List, [], ◌∷◌, ◌++◌, length, map, take, Some, refl, sym, ◌∙◌, ap, subst, arith}
use Rattle.std.specs.Prelude.{slice_get}
use Rattle.std.proofs.lemmas.List.{length-append, take_more}
use Rattle.std.proofs.lemmas.List.FromFn.{map-range_with_len_more}
use Rattle.std.proofs.lemmas.List.Sums.{fold-append}
use Rattle.std.proofs.lemmas.Option.{get_or_from_slice_get, slice_get_within}
use Rattle.flat_machine.specs.declared.call.Call.{Call}
use Rattle.flat_machine.specs.declared.call.Reply.{Reply}
use Rattle.flat_machine.specs.After.{AllowsAll}
use Rattle.flat_machine.specs.Allows.{Allows}
use Rattle.flat_machine.specs.Machine.{Machine}
use Rattle.flat_machine.specs.Next.{next}
use Rattle.trace_maker.specs.Calls.{call_of}
use Rattle.pilot_top.specs.Trial.{HasAnswered, IsTrialOf, after_calls, drawn_calls, first_calls}

-- replies to some calls, and then to others
pub allowed_then : (m : Machine) (xs ys : List Call) (rs ss : List Reply) → length rs ≡ length xs → AllowsAll m (map Some xs) rs → AllowsAll (after_calls m xs) (map Some ys) ss → AllowsAll m (map Some (xs ++ ys)) (rs ++ ss)
allowed_then m [] ys [] ss long all then_all = then_all
allowed_then m [] ys (r ∷ rs) ss long all then_all = absurd (omega (arith, long))
allowed_then m (x ∷ xs) ys [] ss long all then_all = absurd (omega (arith, long))
allowed_then m (x ∷ xs) ys (r ∷ rs) ss long all then_all = (all.0, allowed_then (next m x) xs ys rs ss (omega (arith, long)) all.1 then_all)

-- no call was answered yet
pub none_answered : (m : Machine) (now : Machine → Type 0) → now m → HasAnswered m [] [] now
none_answered m now stands = record { count = refl; allowed = tt; stands = stands }

-- one more was
pub one_answered : (m : Machine) (calls more : List Call) (replies : List Reply) (now later : Machine → Type 0) (c : Call) (r : Reply) → more ≡ calls ++ c ∷ [] → HasAnswered m calls replies now
    → ((n : Machine) → now n → Allows n c r × later (next n c)) → HasAnswered m more (replies ++ r ∷ []) later
one_answered m calls more replies now later c r is h step =
    let done = step (after_calls m calls) h.stands in
    let long : length (replies ++ r ∷ []) ≡ length (calls ++ c ∷ []) = let a = length-append replies (r ∷ []) in let b = length-append calls (c ∷ []) in let e = h.count in omega (arith, a, b, e) in
    subst (λ (all : List Call). HasAnswered m all (replies ++ r ∷ []) later) (sym is) (record {
      count = long;
      allowed = allowed_then m calls (c ∷ []) replies (r ∷ []) h.count h.allowed (done.0, tt);
      stands = subst later (sym (fold-append next m calls (c ∷ []))) done.1;
    })

-- the first calls up to one, and that one
pub first_more : (k : ℕ) (c : Call) → slice_get first_calls k ≡ Some c → take (k + 1) first_calls ≡ take k first_calls ++ c ∷ []
first_more k c here =
    take_more first_calls k c (slice_get_within first_calls k c here) ∙ ap (λ (x : Call). take k first_calls ++ x ∷ []) (get_or_from_slice_get first_calls k c c here)

-- one drawn call more
pub drawn_more : (seed k : ℕ) (c : Call) → c ≡ call_of seed k → drawn_calls seed (k + 1) ≡ drawn_calls seed k ++ c ∷ []
drawn_more seed k c is = map-range_with_len_more (call_of seed) 0 k k (let a : 0 + k ≡ k = omega arith in a) ∙ ap (λ (x : Call). drawn_calls seed k ++ x ∷ []) (sym is)

-- both parts make a trial
pub tried : (m : Machine) (seed calls : ℕ) (before replies : List Reply) (now later : Machine → Type 0) → HasAnswered m first_calls before now → HasAnswered (after_calls m first_calls) (drawn_calls seed calls) replies later
    → length (drawn_calls seed calls) ≡ calls → IsTrialOf m seed calls replies × later (after_calls m (first_calls ++ drawn_calls seed calls))
tried m seed calls before replies now later first drawn count = (
  record {
    before = before;
    before_count = first.count;
    count = drawn.count ∙ count;
    allowed = allowed_then m first_calls (drawn_calls seed calls) before replies first.count first.allowed drawn.allowed;
  },
  subst later (sym (fold-append next m first_calls (drawn_calls seed calls))) drawn.stands,
)
