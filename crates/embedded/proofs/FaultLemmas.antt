-- Faults that are counted from one call to the next, and bytes that are not moved.
use Rattle.std.proofs.Common.{◌≡◌, ◌≢◌, ◌≤◌, sym, subst, refl, arith, Option, Some, None, Result, Ok, Err, OnOk, OnErr}
use Rattle.labelled_disk.specs.Calls.{Rose}
use Rattle.labelled_disk.specs.State.{DiskState}
use Rattle.labelled_disk.specs.declared.disk.Disk.{Ghosts}
use Rattle.fault_core.specs.Core.{state}
use Rattle.fault_core.specs.declared.reference.Access.{Access}
use Rattle.fault_core.specs.declared.reference.Access.TheVariants as access
use Rattle.embedded.specs.declared.code.Code.{Code}
use Rattle.embedded.specs.declared.engine.Engine.{Engine}
use Rattle.embedded.specs.declared.held.Held.{Held}
use Rattle.embedded.specs.declared.held.Held.TheVariants as held
use Rattle.embedded.specs.declared.live.Live.{Live}
use Rattle.embedded.specs.Answers.{answer_of}
use Rattle.embedded.specs.Engine.{AreNoFewer, Between, LosesNoFault, OfBoth, disk_in, disk_of}

-- what is so is so of each answer that is Ok
pub whenever : {P : Type 0} → P → (r : Result (Unit {0}) Code) → OnOk r P
whenever p (Ok done) = p
whenever p (Err e) = tt

-- what was not carried out is answered by a code
pub unless_done : (a : Access) (P : Type 0) → (a ≢ access.Done → P) → OnErr (answer_of a) P
unless_done access.Done P p = tt
unless_done (access.NoMap page) P p = p (λ is. cc is)
unless_done (access.ReadOnly page) P p = p (λ is. cc is)

no_fewer_itself : (o : Option DiskState) → AreNoFewer o o
no_fewer_itself (Some disk) = omega arith
no_fewer_itself None = tt

no_fewer_then : (o p q : Option DiskState) → AreNoFewer o p → AreNoFewer p q → AreNoFewer o q
no_fewer_then (Some a) (Some b) (Some c) first then_more = omega (arith, first, then_more)
no_fewer_then None None None first then_more = tt
no_fewer_then (Some a) (Some b) None first then_more = absurd then_more
no_fewer_then (Some a) None q first then_more = absurd first
no_fewer_then None (Some b) q first then_more = absurd first
no_fewer_then None None (Some c) first then_more = absurd then_more

rose_before : (o p q : Option DiskState) → AreNoFewer o p → OfBoth (λ x y. Rose x.faults y.faults) p q → OfBoth (λ x y. Rose x.faults y.faults) o q
rose_before (Some a) (Some b) (Some c) less rose = omega (arith, less, rose)
rose_before (Some a) (Some b) None less rose = absurd rose
rose_before (Some a) None q less rose = absurd less
rose_before None (Some b) q less rose = absurd less
rose_before None None q less rose = absurd rose

module _ {D A : Type 0} {G : Ghosts D} where
  pub loses_none : (e : Engine D A G) → LosesNoFault e e
  loses_none e = no_fewer_itself (disk_of e)

  pub loses_none_then : (a b c : Engine D A G) → LosesNoFault a b → LosesNoFault b c → LosesNoFault a c
  loses_none_then a b c first then_more = no_fewer_then (disk_of a) (disk_of b) (disk_of c) first then_more

  -- a fault that was counted in a later call was counted since an earlier one
  pub rose_since : (a b c : Engine D A G) → LosesNoFault a b → Between (λ x y. Rose x.faults y.faults) b c → Between (λ x y. Rose x.faults y.faults) a c
  rose_since a b c less rose = rose_before (disk_of a) (disk_of b) (disk_of c) less rose

  -- an engine whose session went on
  pub session_loses_none : (old new : Engine D A G) (a b : Live D A G) → old.held ≡ held.Session a → new ≡ record old { held = held.Session b }
      → (state a.session.core).disk.faults ≤ (state b.session.core).disk.faults → LosesNoFault old new
  session_loses_none old new a b had has more =
      subst (λ (e : Engine D A G). LosesNoFault old e) (sym has)
      (subst (λ (h : Held D A G). AreNoFewer (disk_in h) (Some (state b.session.core).disk)) (sym had) more)
