use Rattle.std.proofs.Common.{◌≤◌, ◌-◌, List}
use Rattle.swap_units.specs.declared.interval.Interval.{Interval}
use Rattle.filer_kernel.specs.View.{view_of}
use Rattle.fault_core.specs.Kept.{IsKept}
use Rattle.fault_core.specs.Ready.{AreHere}
use Rattle.fault_core.specs.StoreReady.{AreStoredAtHand}
use Rattle.fault_core.proofs.store_ready.store_parts.Given as goal

-- so many bytes were stored
abbrev pub invariant-parts : goal.invariant-parts
invariant-parts g l = record {
  within : l.done ≤ l.count;
  here : AreHere (view_of l.filer).slots l.x l.address l.count;
  stored : (kept : List Interval) → IsKept kept l.x → AreStoredAtHand kept l.address l.done l.bytes (view_of l.fn.filer) (view_of l.filer);
}

abbrev pub decreases-parts : goal.decreases-parts
decreases-parts g l = l.count - l.done
