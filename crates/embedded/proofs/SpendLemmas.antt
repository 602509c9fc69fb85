-- What calls in a row spend, put together.
use Rattle.std.proofs.Common.{◌≡◌, ◌∙◌, ◌≤◌, ◌<◌, ◌+◌, ◌*◌, ◌%◌, ◌^◌, ℕ, true, inl, inr, ap, sym, subst, refl, arith, Option, Some, None, Result, Ok, Err, add-mul, mul-le-mul_right}
use Rattle.labelled_disk.specs.Calls.{Rose}
use Rattle.labelled_disk.specs.State.{DiskState}
use Rattle.labelled_disk.specs.declared.disk.Disk.{Ghosts}
use Rattle.labelled_disk.specs.declared.evidence.Halt.TheVariants as halt
use Rattle.flat_machine.specs.declared.call.Call.{Call}
use Rattle.flat_machine.specs.declared.call.Reply.{Reply}
use Rattle.flat_machine.specs.Machine.{Machine}
use Rattle.flat_machine.specs.Next.{next}
use Rattle.flat_machine.specs.References.{is_reference}
use Rattle.running_words.specs.Bound.{CostsOther, other_bound}
use Rattle.fault_core.specs.Core.{state}
use Rattle.embedded.specs.declared.code.Code.{Code}
use Rattle.embedded.specs.declared.engine.Engine.{Engine}
use Rattle.embedded.specs.declared.held.Held.{Held}
use Rattle.embedded.specs.declared.held.Held.TheVariants as held
use Rattle.embedded.specs.declared.live.Live.{Live}
use Rattle.embedded.specs.Called.{Called}
use Rattle.embedded.specs.Engine.{IsClosed, OfBoth, StandsFor, disk_in, disk_of}
use Rattle.embedded.specs.Later.{Later}
use Rattle.embedded.specs.Spending.{HasFailed, IsKnown, IsLater, MovedFew, Spends, SpendsOn}

-- States of a disk.

pub later_itself : (o : Option DiskState) → IsLater o o
later_itself (Some disk) = record { sectors = refl; faults = omega arith }
later_itself None = tt

later_both : {a b c : DiskState} → Later a b → Later b c → Later a c
later_both first second = record { sectors = cc (first.sectors, second.sectors); faults = omega (arith, first.faults, second.faults) }

pub later_then : (o p q : Option DiskState) → IsLater o p → IsLater p q → IsLater o q
later_then (Some a) (Some b) (Some c) first second = later_both first second
later_then (Some a) (Some b) None first second = absurd second
later_then (Some a) None q first second = absurd first
later_then None (Some b) q first second = absurd first
later_then None None (Some c) first second = absurd second
later_then None None None first second = tt

-- nothing was moved
pub moved_none : (calls pieces : ℕ) (o : Option DiskState) → MovedFew calls pieces o o
moved_none calls pieces (Some disk) = omega arith
moved_none calls pieces None = tt

one_call : (t u each : ℕ) → u ≤ t + each → u ≤ t + (1 * each + 1680 * 0)
one_call t u each most = omega (arith, most)

-- one call, and one load or store of up to a page
pub few_of_call : (a b : DiskState) → CostsOther a b → MovedFew 1 0 (Some a) (Some b)
few_of_call a b most = one_call a.transfers b.transfers (other_bound a.sectors) most

one_piece : (t u each : ℕ) → u ≤ t + 1680 → u ≤ t + (0 * each + 1680 * 1)
one_piece t u each most = omega (arith, most)

pub few_of_piece : (a b : DiskState) → b.transfers ≤ a.transfers + 1680 → MovedFew 0 1 (Some a) (Some b)
few_of_piece a b most = one_piece a.transfers b.transfers (other_bound a.sectors) most

-- what so few sectors are for one of these is within the coarse bound of a call
pub coarsely : (t u squared : ℕ) → u ≤ t + 1680 → u ≤ t + (2 ^ 30 + squared)
coarsely t u squared most = omega (arith, most)

sum_of : (t u v c p d q e r each : ℕ) → u ≤ t + (c * each + 1680 * p) → v ≤ u + (d * each + 1680 * q) → c + d ≤ e → p + q ≤ r
    → v ≤ t + (e * each + 1680 * r)
sum_of t u v c p d q e r each first second calls pieces =
    omega (arith, first, second, pieces, add-mul c d each, mul-le-mul_right each calls)

-- calls in a row, and then others
pub moved_then : (c p d q e r : ℕ) (x y z : Option DiskState) → c + d ≤ e → p + q ≤ r → IsLater x y → MovedFew c p x y → MovedFew d q y z
    → MovedFew e r x z
moved_then c p d q e r (Some x) (Some y) (Some z) calls pieces later first second =
    sum_of x.transfers y.transfers z.transfers c p d q e r (other_bound x.sectors) first
    (subst (λ (n : ℕ). z.transfers ≤ y.transfers + (d * other_bound n + 1680 * q)) later.sectors second) calls pieces
moved_then c p d q e r (Some x) (Some y) None calls pieces later first second = tt
moved_then c p d q e r (Some x) None z calls pieces later first second = absurd later
moved_then c p d q e r None y z calls pieces later first second = tt

-- a fault that was counted between was counted from the start to the end
pub rose_between : (o p q r : Option DiskState) → IsLater o p → OfBoth (λ x y. Rose x.faults y.faults) p q → IsLater q r
    → OfBoth (λ x y. Rose x.faults y.faults) o r
rose_between (Some a) (Some b) (Some c) (Some d) first rose last = omega (arith, first.faults, rose, last.faults)
rose_between (Some a) (Some b) (Some c) None first rose last = absurd last
rose_between (Some a) (Some b) None r first rose last = absurd rose
rose_between (Some a) None q r first rose last = absurd first
rose_between None (Some b) q r first rose last = absurd first
rose_between None None q r first rose last = absurd rose

-- Engines.

module _ {D A : Type 0} {G : Ghosts D} where
  known_after : (call : Call) (a b : Engine D A G) (answer : Result Reply Code) (m : Machine) → Called call a answer b → StandsFor a m → IsKnown b
  known_after call a b answer m called stands = elim (called.answers m stands) [
    | inl follows ↦ inr (next m call, follows.stands)
    | inr bad ↦ inl (called.stopped halt.Disk bad).closed
  ]

  -- a call moves so few sectors, where it does so in each session that stands for a machine
  spends_by : (calls pieces : ℕ) (call : Call) (a b : Engine D A G) (answer : Result Reply Code) → Called call a answer b
      → ((m : Machine) → StandsFor a m → MovedFew calls pieces (disk_of a) (disk_of b)) → Spends calls pieces a b
  spends_by calls pieces call a b answer called few = record {
    later = called.later;
    cost = λ known. elim known [
      | inl closed ↦ subst (λ (e : Engine D A G). IsKnown e × MovedFew calls pieces (disk_of a) (disk_of e)) (sym (called.closed closed).1)
          (inl closed, moved_none calls pieces (disk_of a))
      | inr there ↦ (known_after call a b answer there.0 called there.1, few there.0 there.1)
    ];
  }

  pub spends_called : (call : Call) (a b : Engine D A G) (answer : Result Reply Code) → Called call a answer b → Spends 1 0 a b
  spends_called call a b answer called = spends_by 1 0 call a b answer called called.cost

  pub spends_piece : (call : Call) (a b : Engine D A G) (answer : Result Reply Code) → is_reference call ≡ true → Called call a answer b → Spends 0 1 a b
  spends_piece call a b answer is called = spends_by 0 1 call a b answer called (λ m stands. called.few is)

  -- nothing was called
  pub spends_none : (calls pieces : ℕ) (a : Engine D A G) → Spends calls pieces a a
  spends_none calls pieces a = record {
    later = later_itself (disk_of a);
    cost = λ known. (known, moved_none calls pieces (disk_of a));
  }

  -- nothing was moved of the disk of a session
  pub session_spends_none : (old new : Engine D A G) (a b : Live D A G) → old.held ≡ held.Session a → new ≡ record old { held = held.Session b }
      → (state b.session.core).disk ≡ (state a.session.core).disk → (IsKnown old → IsKnown new) → Spends 0 1 old new
  session_spends_none old new a b had has still goes_on =
      let same : disk_of new ≡ disk_of old = ap (λ (e : Engine D A G). disk_of e) has ∙ ap (λ (d : DiskState). Some d) still ∙ sym (ap (λ (h : Held D A G). disk_in h) had) in
      record {
        later = subst (λ (o : Option DiskState). IsLater (disk_of old) o) (sym same) (later_itself (disk_of old));
        cost = λ known. (goes_on known, subst (λ (o : Option DiskState). MovedFew 0 1 (disk_of old) o) (sym same) (moved_none 0 1 (disk_of old)));
      }

  -- calls in a row, and then others
  pub spends_then : (c p d q e r : ℕ) (x y z : Engine D A G) → c + d ≤ e → p + q ≤ r → Spends c p x y → Spends d q y z → Spends e r x z
  spends_then c p d q e r x y z calls pieces first second = record {
    later = later_then (disk_of x) (disk_of y) (disk_of z) first.later second.later;
    cost = λ known.
        let one = first.cost known in
        let two = second.cost one.0 in
        (two.0, moved_then c p d q e r (disk_of x) (disk_of y) (disk_of z) calls pieces first.later one.1 two.1);
  }

  pub spends_within : (c p e r : ℕ) (x y : Engine D A G) → c ≤ e → p ≤ r → Spends c p x y → Spends e r x y
  spends_within c p e r x y calls pieces spends =
      spends_then c p 0 0 e r x y y (omega (arith, calls)) (omega (arith, pieces)) spends (spends_none 0 0 y)

  -- a fault that was counted between was counted from the start to the end
  pub failed_between : (a b c d : Engine D A G) → IsLater (disk_of a) (disk_of b) → HasFailed b c → IsLater (disk_of c) (disk_of d) → HasFailed a d
  failed_between a b c d first rose last = rose_between (disk_of a) (disk_of b) (disk_of c) (disk_of d) first rose last

  pub failed_since : (a b c : Engine D A G) → IsLater (disk_of a) (disk_of b) → HasFailed b c → HasFailed a c
  failed_since a b c first rose = failed_between a b c c first rose (later_itself (disk_of c))

  pub failed_before : (a b c : Engine D A G) → HasFailed a b → IsLater (disk_of b) (disk_of c) → HasFailed a c
  failed_before a b c rose last = failed_between a a b c (later_itself (disk_of a)) rose last

  -- Of so many bytes from a place of a page on, the first, so many, were loaded or stored, page by page.
  pub record SpentSoFar (start done all : ℕ) (old new : Engine D A G) : Type 0 where
    pub pieces : ℕ
    pub few : 512 * pieces ≤ start + done + 511
    pub even : done < all → 512 * pieces ≤ start + done
    pub spends : Spends 0 pieces old new

  pub so_far_none : (start all : ℕ) (a : Engine D A G) → SpentSoFar start 0 all a a
  so_far_none start all a = record { pieces = 0; few = omega arith; even = λ more. omega arith; spends = spends_none 0 0 a }

  pub so_far_then : (address start done n all : ℕ) (a b c : Engine D A G) → start ≡ address % 512 → done < all → 1 ≤ n
      → (done + n < all → (address + done + n) % 512 ≡ 0) → SpentSoFar start done all a b → Spends 0 1 b c → SpentSoFar start (done + n) all a c
  so_far_then address start done n all a b c is below some ends had one =
      let before = had.even below in
      record {
        pieces = had.pieces + 1;
        few = omega (arith, before, some);
        even = λ more. omega (arith, is, before, some, ends more);
        spends = spends_then 0 had.pieces 0 1 0 (had.pieces + 1) a b c (omega arith) (omega arith) had.spends one;
      }

  pub so_far_stops : (start done all : ℕ) (a b c : Engine D A G) → done < all → SpentSoFar start done all a b → Spends 0 1 b c → SpendsOn (start + all) a c
  so_far_stops start done all a b c below had one = (
    had.pieces + 1,
    omega (arith, had.even below, below),
    spends_then 0 had.pieces 0 1 0 (had.pieces + 1) a b c (omega arith) (omega arith) had.spends one,
  )

  pub so_far_ends : (start done all : ℕ) (a b : Engine D A G) → done ≤ all → SpentSoFar start done all a b → SpendsOn (start + all) a b
  so_far_ends start done all a b within had = (had.pieces, omega (arith, had.few, within), had.spends)
