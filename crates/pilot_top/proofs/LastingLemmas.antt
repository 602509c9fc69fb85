-- What a run has waited for stands in each later cut.
use Rattle.std.proofs.Common.{◌≡◌, inl, inr, ℕ, ◌<◌, ◌≤◌, List, length, refl, arith}
use Rattle.labelled_disk.specs.State.{DiskState}
use Rattle.flat_machine.specs.After.{TraceLine}
use Rattle.flat_machine.specs.Machine.{Machine}
use Rattle.pilot_top.specs.CrashStates.{CrashStates, IsBy, IsCrashState}
use Rattle.pilot_top.specs.Lasting.{WaitedForLasts}
use Rattle.pilot_top.proofs.AlongLemmas.{along_wider, by_itself}

later_line : (j k i l g : ℕ) → j < k → IsBy k i l g → j < l
later_line j k i l g below (inl less) = omega (arith, below, less)
later_line j k i l g below (inr same) = let here = same.0 in omega (arith, below, here)

pub waited_for_lasts : WaitedForLasts
waited_for_lasts m lines d old new k i j made leads within cuts revealed is below waits =
    let on = leads.1 in
    let at : CrashStates m lines old new = along_wider (IsCrashState m lines) 0 0 0 0 k i (length lines) 0 (by_itself 0 0) within on in
    let sync = leads.2 made is j below waits in
    let n = sync.0 in (
      n,
      sync.1,
      sync.2,
      sync.3,
      λ syncs s l e have since few between cut id page f bytes file forced.
          (cuts.files at made syncs is have l s e few between cut).bytes id page f bytes file (λ q low high.
          forced (on.line q) (on.step q) (later_line j (on.line n) (on.step n) (on.line q) (on.step q) sync.2.0 (on.rise n q (omega (arith, since, low)))) (on.rise q l high) (on.each d q revealed).within),
    )
