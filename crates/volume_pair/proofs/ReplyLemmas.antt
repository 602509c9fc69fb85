-- What the machine of two lists allows, by whether it refuses.
use Rattle.std.proofs.Common.{◌≡◌, ◌≢◌, Bool, true, false, min, ℕ, Option, Some, None, refl, sym, subst}
use Rattle.std.specs.Prelude.{◌==◌, if◌then◌else◌}
use Rattle.pair_machine.specs.declared.call.PairCall.{PairCall}
use Rattle.pair_machine.specs.declared.call.PairRefusal.{PairRefusal}
use Rattle.pair_machine.specs.declared.call.PairReply.{PairReply}
use Rattle.pair_machine.specs.declared.call.PairReply.TheVariants as reply
use Rattle.pair_machine.specs.Pair.{AllowsPair, IsRefusedOr, Pair, Replies, pair_refusal}
use Rattle.volume_pair.specs.Comparing.{compare_reply}

-- a refused call has the refusal as its reply
pub allows_refused : (p : Pair) (c : PairCall) (w : PairRefusal) → pair_refusal p c ≡ Some w → AllowsPair p c (reply.Refused w)
allows_refused p c w is = subst (λ (o : Option PairRefusal). IsRefusedOr o (reply.Refused w) (Replies p c (reply.Refused w))) (sym is) refl

pub allows_others : (p : Pair) (c : PairCall) (r : PairReply) → pair_refusal p c ≡ None → Replies p c r → AllowsPair p c r
allows_others p c r is replies = subst (λ (o : Option PairRefusal). IsRefusedOr o r (Replies p c r)) (sym is) replies

-- ---- No copy was made.

abbrev IsDone : PairReply → Type 0
IsDone reply.Done = Unit {0}
IsDone other = ⊥

pub refused_not_done : (w : PairRefusal) → reply.Refused w ≢ reply.Done
refused_not_done w e = subst IsDone (sym e) tt

pub compare_not_done : (d : Option ℕ) (m n : ℕ) → compare_reply d m n ≢ reply.Done
compare_not_done (Some page) m n e = subst IsDone (sym e) tt
compare_not_done None m n e = either (m == n) e
  where
    either : (b : Bool) → ◌≢◌ {A = PairReply} (if b then reply.Same else reply.Differs (min m n)) reply.Done
    either true q = subst IsDone (sym q) tt
    either false q = subst IsDone (sym q) tt
