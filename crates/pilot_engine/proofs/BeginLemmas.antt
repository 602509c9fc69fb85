-- The root of a volume in use was written over a disk without frames.
use Rattle.std.proofs.Common.{◌≡◌, [], ◌∷◌, sym, subst}
use Rattle.labelled_disk.specs.CrashState.{written}
use Rattle.frame_pool.specs.Frames.{Slots}
use Rattle.swapper_kernel.specs.Goes.{Goes, no_page}
use Rattle.volume_root.specs.declared.root.Root.{Root}
use Rattle.volume_root.specs.RootPage.{root_write}
use Rattle.filer_kernel.specs.View.{View}
use Rattle.pilot_engine.specs.Beginning.{Rooted}
use Rattle.pilot_engine.specs.Opening.{in_use}

pub rooted : (root used : Root) (v w : View) → used ≡ in_use root → Goes (λ m n. n ≡ written (root_write used) m) no_page (root_write used ∷ []) v.disk v.slots w.disk v.slots → w.slots ≡ v.slots → w.layout ≡ v.layout → Rooted root v w
rooted root used v w same made frames layout =
    let as_used = subst (λ (r : Root). Goes (λ m n. n ≡ written (root_write r) m) no_page (root_write r ∷ []) v.disk v.slots w.disk v.slots) same made in
    (subst (λ (s : Slots). Goes (λ m n. n ≡ written (root_write (in_use root)) m) no_page (root_write (in_use root) ∷ []) v.disk v.slots w.disk s) (sym frames) as_used, layout)
