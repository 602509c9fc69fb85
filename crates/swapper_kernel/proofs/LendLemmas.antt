-- A swapper is its disk, its frames and its layout: what is known of them has one value.
use Rattle.std.specs.Prelude.{◌≡◌, ◌≤◌, length}
use Rattle.std.proofs.Common.{sym, subst}
use Rattle.std.proofs.Math.Nat.{ℕ_set}
use Rattle.std.specs.Coded.{le_prop}
use Rattle.labelled_disk.specs.declared.layout.Layout.{Layout}
use Rattle.labelled_disk.specs.declared.disk.Disk.{Ghosts as DiskGhosts}
use Rattle.frame_pool.specs.Frames.{Slots}
use Rattle.swapper_kernel.specs.Homes.{IsLayout, ArePlaced}
use Rattle.swapper_kernel.specs.declared.swapper.Swapper.{Swapper}

accepted_once : (layout : Layout) → IsProp (IsLayout layout)
accepted_once layout = hlevel (le_prop, ℕ_set)

placed_once : (slots : Slots) (layout : Layout) → IsProp (ArePlaced slots layout)
placed_once slots layout = hlevel (le_prop, ℕ_set)

least_once : (slots : Slots) → IsProp (24 ≤ length slots)
least_once slots = hlevel (le_prop, ℕ_set)

pub same_facts : {D A : Type 0} {disk : DiskGhosts D} (under : D) (pool : Slots) (layout : Layout) (a b : IsLayout layout) (c d : ArePlaced pool layout) (e f : 24 ≤ length pool)
    → ◌≡◌ {A = Swapper D A disk} (record { disk = under; pool = pool; layout = layout; accepted = a; placed = c; least = e }) (record { disk = under; pool = pool; layout = layout; accepted = b; placed = d; least = f })
same_facts under pool layout a b c d e f i =
    record { disk = under; pool = pool; layout = layout; accepted = accepted_once layout a b i; placed = placed_once pool layout c d i; least = least_once pool e f i }

-- where the frames are the same, all is
pub same_swapper : {D A : Type 0} {disk : DiskGhosts D} (under : D) (pool after : Slots) (layout : Layout) → after ≡ pool → (a b : IsLayout layout) (c : ArePlaced after layout) (d : ArePlaced pool layout) (e : 24 ≤ length after) (f : 24 ≤ length pool)
    → ◌≡◌ {A = Swapper D A disk} (record { disk = under; pool = after; layout = layout; accepted = a; placed = c; least = e }) (record { disk = under; pool = pool; layout = layout; accepted = b; placed = d; least = f })
same_swapper {D = D} {A = A} {disk = disk} under pool after layout is a b c d e f =
    subst (λ (p : Slots). (c : ArePlaced p layout) (e : 24 ≤ length p) → ◌≡◌ {A = Swapper D A disk} (record { disk = under; pool = p; layout = layout; accepted = a; placed = c; least = e }) (record { disk = under; pool = pool; layout = layout; accepted = b; placed = d; least = f }))
    (sym is) (λ c e. same_facts under pool layout a b c d e f) c e
