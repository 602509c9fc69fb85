use Rattle.std.proofs.Common.{◌≡◌, ◌≤◌, ◌-◌, ℕ, List, length}
use Rattle.std.specs.Prelude.{slice_get}
use Rattle.labelled_disk.specs.Sectors.{Sector}
use Rattle.file_map.specs.FileMap.{Triples}
use Rattle.flat_machine.specs.declared.space.Space.{Space}
use Rattle.filer_kernel.specs.View.{view_of}
use Rattle.fault_core.specs.Moves.{AreSeen}
use Rattle.fault_core.specs.Ready.{AreLoaded}
use Rattle.fault_core.specs.Revealed.{Known}
use Rattle.fault_core.proofs.ready.load_parts.Given as goal

-- so many bytes were loaded
abbrev pub invariant-parts : goal.invariant-parts
invariant-parts g l = record {
  within : l.done ≤ l.count;
  long : length l.into ≡ length l.fn.into;
  same : l.filer ≡ l.fn.filer;
  loaded : (m : List Sector) (named : Triples) (b : List ℕ) (ss : List Space) → Known (view_of l.fn.filer) m named b → AreSeen ss named m l.x
      → AreLoaded ss l.address l.done l.into m;
  rest : (k : ℕ) → l.count ≤ k → slice_get l.into k ≡ slice_get l.fn.into k;
}

abbrev pub decreases-parts : goal.decreases-parts
decreases-parts g l = l.count - l.done
