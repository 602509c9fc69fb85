-- What a stop leaves among the pieces of many bytes, one piece after the other.
use Rattle.std.proofs.Common.{◌≡◌, ◌⊎◌, inl, inr, ◌∙◌, ℕ, zero, suc, ◌+◌, ◌-◌, ◌≤◌, sym, ap, subst, refl, arith, List, [], ◌∷◌, ◌++◌, length, Option, Some, None, is_none, Result, if◌then◌else◌}
use Rattle.std.specs.Prelude.{slice_range, take, drop}
use Rattle.std.proofs.Math.Seq.{take-add}
use Rattle.std.proofs.lemmas.List.{append-nil, length-take-le}
use Rattle.std.proofs.lemmas.List.Folds.{concat-append}
use Rattle.std.specs.List.{AllByRecursion, concat}
use Rattle.labelled_disk.specs.declared.disk.Disk.{Ghosts}
use Rattle.labelled_disk.specs.Sectors.{Sector}
use Rattle.labelled_disk.specs.State.{DiskState}
use Rattle.flat_machine.specs.declared.call.Call.{Call}
use Rattle.flat_machine.specs.declared.call.Call.TheVariants as call
use Rattle.flat_machine.specs.declared.call.Refusal.{Refusal}
use Rattle.flat_machine.specs.declared.call.Reply.{Reply}
use Rattle.flat_machine.specs.Machine.{Machine}
use Rattle.flat_machine.specs.Next.{next, change}
use Rattle.flat_machine.specs.Refusal.{refusal}
use Rattle.session_words.specs.StandsFor.{RevealsSettled}
use Rattle.fault_core.specs.Core.{state}
use Rattle.running_words.specs.Stages.{Passes, stage}
use Rattle.pilot_engine.specs.Closing.{Throughout}
use Rattle.pilot_engine.proofs.StopLemmas.{throughout_less, throughout_then}
use Rattle.embedded.specs.declared.code.Code.{Code}
use Rattle.embedded.specs.declared.engine.Engine.{Engine}
use Rattle.embedded.specs.declared.held.Held.{Held}
use Rattle.embedded.specs.declared.held.Held.TheVariants as held
use Rattle.embedded.specs.declared.live.Live.{Live}
use Rattle.embedded.specs.Called.{Called}
use Rattle.embedded.specs.Engine.{Between, OfBoth, StandsFor, disk_in, disk_of}
use Rattle.embedded.specs.References.{IsPiece, Lead, Stored}
use Rattle.embedded.specs.Stops.{IsPartway, Leaves, RevealsPart}
use Rattle.embedded.proofs.ReferenceLemmas.{lead_then, piece_long, some_then, unchanged}

-- A call whose stages are all such.
passed : (P : List Sector → Type 0) (m : Machine) (one : Call) → ((d : List Sector) (k : ℕ) → RevealsSettled d (stage m one k) → P d) → (o p : Option DiskState) → OfBoth (Passes m one) o p → OfBoth (Throughout P) o p
passed P m one such (Some a) (Some b) passes = record { writes = passes.writes; appended = passes.appended; each = λ d k revealed. such _ (passes.steps k) (passes.reveals d k revealed) }
passed P m one such (Some a) None passes = absurd passes
passed P m one such None p passes = absurd passes

both_then : (P : List Sector → Type 0) (o p q : Option DiskState) → OfBoth (Throughout P) o p → OfBoth (Throughout P) p q → OfBoth (Throughout P) o q
both_then P (Some a) (Some b) (Some c) one two = throughout_then P one two
both_then P (Some a) (Some b) None one two = absurd two
both_then P (Some a) None q one two = absurd one
both_then P None p q one two = absurd one

both_less : (P Q : List Sector → Type 0) → ((d : List Sector) → P d → Q d) → (o p : Option DiskState) → OfBoth (Throughout P) o p → OfBoth (Throughout Q) o p
both_less P Q less (Some a) (Some b) one = throughout_less P Q less one
both_less P Q less (Some a) None one = absurd one
both_less P Q less None p one = absurd one

-- The machine stays, or goes on by a piece.

stays_partway : (m n : Machine) (address at : ℕ) (bytes piece : List ℕ) → IsPartway m address bytes n → (refusal n (call.Store at piece) ≡ None → IsPartway m address bytes (next n (call.Store at piece)))
    → (o : Option Refusal) → refusal n (call.Store at piece) ≡ o → IsPartway m address bytes (next n (call.Store at piece))
stays_partway m n address at bytes piece here more None is = more is
stays_partway m n address at bytes piece here more (Some why) is =
    subst (λ (x : Machine). IsPartway m address bytes x) (sym (ap (λ (o : Option Refusal). if is_none o then change n (call.Store at piece) else n) is)) here

module _ {D A : Type 0} {G : Ghosts D} where
  -- one relation after the other
  pub leaves_then : (P : List Sector → Type 0) (a b c : Engine D A G) → Leaves P a b → Leaves P b c → Leaves P a c
  leaves_then P a b c (inl same) (inl still) = inl (still ∙ same)
  leaves_then P a b c (inl same) (inr two) = inr (subst (λ (e : Engine D A G). Between (Throughout P) e c) same two)
  leaves_then P a b c (inr one) (inl still) = inr (subst (λ (e : Engine D A G). Between (Throughout P) a e) (sym still) one)
  leaves_then P a b c (inr one) (inr two) = inr (both_then P (disk_of a) (disk_of b) (disk_of c) one two)

  -- a load leaves what was there
  pub load_leaves : (m : Machine) (address count : ℕ) (a b : Engine D A G) (answer : Result Reply Code) → Called (call.Load address count) a answer b → StandsFor a m → Leaves (λ d. RevealsSettled d m) a b
  load_leaves m address count a b answer called stands =
      inr (passed (λ d. RevealsSettled d m) m (call.Load address count) still (disk_of a) (disk_of b) (called.passes m stands))
    where
      still : (d : List Sector) (k : ℕ) → RevealsSettled d (stage m (call.Load address count) k) → RevealsSettled d m
      still d zero r = r
      still d (suc k) r = subst (λ (x : Machine). RevealsSettled d x) (unchanged (refusal m (call.Load address count)) m) r

  -- the first bytes were stored
  here_partway : (m : Machine) (address done : ℕ) (bytes : List ℕ) (e : Engine D A G) → done ≤ length bytes → (s : Stored m address done bytes e) → IsPartway m address bytes s.after
  here_partway m address done bytes e part s = record { done = done; part = part; pieces = s.pieces; some = s.some; whole = s.whole; lead = s.lead }

  then_partway : (m : Machine) (address done n : ℕ) (bytes : List ℕ) (e : Engine D A G) → done ≤ length bytes → (s : Stored m address done bytes e) → IsPiece (address + done) (length bytes - done) n
      → refusal s.after (call.Store (address + done) (slice_range bytes done (done + n))) ≡ None → IsPartway m address bytes (next s.after (call.Store (address + done) (slice_range bytes done (done + n))))
  then_partway m address done n bytes e part s is free =
      let piece = slice_range bytes done (done + n) in
      let long : length (concat s.pieces) ≡ done = ap (λ (l : List ℕ). length l) s.whole ∙ length-take-le done bytes part in
      let at : address + length (concat s.pieces) ≡ address + done = omega (arith, long) in
      let count : (done + n) - done ≡ n = omega arith in
      record {
        done = done + n;
        part = omega (arith, is.within, part);
        pieces = s.pieces ++ piece ∷ [];
        some = some_then s.pieces piece s.some (omega (arith, piece_long done n bytes part is.within, is.some));
        whole = concat-append s.pieces (piece ∷ []) ∙ ap (λ (l : List ℕ). l ++ (piece ++ [])) s.whole ∙ ap (λ (l : List ℕ). take done bytes ++ l) (append-nil piece)
            ∙ ap (λ (k : ℕ). take done bytes ++ take k (drop done bytes)) count ∙ sym (take-add done n bytes);
        lead = subst (λ (a : ℕ). Lead m address (s.pieces ++ piece ∷ []) (next s.after (call.Store a piece))) at
            (lead_then m address s.pieces s.after piece s.lead (subst (λ (a : ℕ). refusal s.after (call.Store a piece) ≡ None) (sym at) free));
      }

  -- a piece of a store leaves the first bytes, or one piece more
  pub store_leaves : (m : Machine) (address done n : ℕ) (bytes : List ℕ) (a b : Engine D A G) (answer : Result Reply Code) → done ≤ length bytes → (s : Stored m address done bytes a) → IsPiece (address + done) (length bytes - done) n
      → Called (call.Store (address + done) (slice_range bytes done (done + n))) a answer b → Leaves (RevealsPart m address bytes) a b
  store_leaves m address done n bytes a b answer part s is called =
      inr (passed (RevealsPart m address bytes) s.after one such (disk_of a) (disk_of b) (called.passes s.after s.stands))
    where
      one : Call
      one = call.Store (address + done) (slice_range bytes done (done + n))

      such : (d : List Sector) (k : ℕ) → RevealsSettled d (stage s.after one k) → RevealsPart m address bytes d
      such d zero r = (s.after, here_partway m address done bytes a part s, r)
      such d (suc k) r = (
        next s.after one,
        stays_partway m s.after address (address + done) bytes (slice_range bytes done (done + n)) (here_partway m address done bytes a part s)
            (then_partway m address done n bytes a part s is) (refusal s.after one) refl,
        r,
      )

  -- bytes in a row after the first ones, of which no write was made
  pub row_leaves : (m : Machine) (address done : ℕ) (bytes : List ℕ) (a b : Engine D A G) → done ≤ length bytes → (s : Stored m address done bytes a) → Leaves (λ d. RevealsSettled d s.after) a b
      → Leaves (RevealsPart m address bytes) a b
  row_leaves m address done bytes a b part s (inl same) = inl same
  row_leaves m address done bytes a b part s (inr one) =
      inr (both_less (λ d. RevealsSettled d s.after) (RevealsPart m address bytes) (λ d r. (s.after, here_partway m address done bytes a part s, r)) (disk_of a) (disk_of b) one)

  -- what is so of the writes of a session is so of its engine's
  pub session_leaves : (P : List Sector → Type 0) (old new : Engine D A G) (a b : Live D A G) → old.held ≡ held.Session a → new ≡ record old { held = held.Session b }
      → Throughout P (state a.session.core).disk (state b.session.core).disk → Leaves P old new
  session_leaves P old new a b had has each =
      inr (subst (λ (e : Engine D A G). Between (Throughout P) old e) (sym has)
      (subst (λ (h : Held D A G). OfBoth (Throughout P) (disk_in h) (Some (state b.session.core).disk)) (sym had) each))
