-- A run is added to a map that was cut, and a call reveals why not: the leader is not named then, so nothing keeps to an initial state, but each
-- home that the evidence speaks of was one before the cut.
use Rattle.std.proofs.Common.{◌≡◌, ◌⊎◌, inl, inr, ℕ, true, false, List, ◌∙◌, arith}
use Rattle.std.proofs.lemmas.Bool.Decides.{nat_tests}
use Rattle.labelled_disk.specs.declared.disk.DiskWrite.{DiskWrite}
use Rattle.labelled_disk.specs.declared.evidence.Halt.{Halt}
use Rattle.labelled_disk.specs.declared.layout.Layout.{Layout}
use Rattle.labelled_disk.specs.Label.{leader_page}
use Rattle.labelled_disk.specs.State.{DiskState}
use Rattle.frame_pool.specs.declared.home.Home.{Home}
use Rattle.frame_pool.specs.Frames.{Slots}
use Rattle.file_map.specs.declared.run.Run.{Run}
use Rattle.file_map.specs.FileMap.{Triples}
use Rattle.file_map.specs.Run.{holds}
use Rattle.swapper_kernel.specs.declared.manager.Manager.TheVariants.{FileMap}
use Rattle.swapper_kernel.specs.Goes.{Makes, Pages}
use Rattle.swapper_kernel.specs.Homes.{IsLayout, IsHeld}
use Rattle.swapper_kernel.specs.Window.{Beside}
use Rattle.filer_kernel.specs.Becomes.{Becomes}
use Rattle.filer_kernel.specs.Causes.{AddHalts, IsFaultOrMost}
use Rattle.filer_kernel.specs.Triples.{MapIs}
use Rattle.file_manager.specs.Grounds.{IsMapsHome}
use Rattle.file_manager.specs.Reasons.{InitialState, IsAtHome, KeepsTo, ShowsReason}
use Rattle.file_manager.specs.Shrinking.{leader_run}
use Rattle.file_manager.specs.LaterLaws.{at_home_later}
use Rattle.file_manager.proofs.AddReasons.{add_at}
use Rattle.file_manager.proofs.MadeRun.{maps_come}

-- the leader's run has its page
pub has_leader : (id leader : ℕ) → holds (leader_run id leader) id leader_page ≡ true
has_leader id leader = grind (arith, nat_tests)

module _ {o : InitialState} {layout last : Layout} {kept : List Run} {a b : DiskState} {s t : Slots} {named later : Triples} (k : KeepsTo o layout kept a s named) (is : IsLayout layout) (beside : Beside FileMap a s layout b t last)
    (becomes : Becomes FileMap layout k.memory (MapIs layout later) b t) (only : (id page sector : ℕ) → later id page sector ≡ true → named id page sector ≡ true)
    {pages : Pages} {run : List DiskWrite} {c : DiskState} {u : Slots} (makes : Makes pages run b t c u) where
  there : (home : Home) → IsAtHome o a home → IsAtHome o c home
  there home at = at_home_later o makes home (at_home_later o beside.goes.makes home at)

  -- a home of a frame
  held_there : (home : Home) → IsHeld t home → IsMapsHome layout home ⊎ IsAtHome o c home
  held_there home held = elim ((maps_come beside).homes home held) [
    | inl was ↦ elim (k.frames home was) [ inl own ↦ inl own | inr at ↦ inr (there home at) ]
    | inr own ↦ inl own
  ]

  -- a page that was named, and is named no more
  pub added_reasons : (extra : Home) → named extra.id extra.page extra.sector ≡ true → ((sector : ℕ) → later extra.id extra.page sector ≡ false) → (halt : Halt) → AddHalts layout b t c halt → IsFaultOrMost layout b t halt → ShowsReason o layout c halt
  added_reasons extra led none halt cause right =
      add_at o c is (beside.goes.makes.went.sectors ∙ k.size) becomes.memory becomes.stands becomes.is (λ home named_so. there home (k.homes home (only home.id home.page home.sector named_so))) held_there extra (there extra (k.homes extra led)) none halt cause right
