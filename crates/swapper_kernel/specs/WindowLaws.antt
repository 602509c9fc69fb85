-- Accesses to a map's pages in a row.
use Rattle.std.specs.Prelude.{◌≡◌, ℕ, ◌<◌, ◌≤◌, ◌*◌, if◌then◌else◌, Bool, List, length}
use Rattle.std.proofs.lemmas.Bool.Decides.{eqb_tells}
use Rattle.std.proofs.lemmas.Bool.{eq-eqb}
use Rattle.std.proofs.Common.{refl, sym, ◌∙◌, ap, subst, arith, inl, inr}
use Rattle.labelled_disk.specs.declared.label.Label.{Label}
use Rattle.labelled_disk.specs.declared.layout.Layout.{Layout}
use Rattle.labelled_disk.specs.declared.evidence.Halt.{Halt}
use Rattle.labelled_disk.specs.Label.{names}
use Rattle.labelled_disk.specs.Sectors.{Sector}
use Rattle.labelled_disk.specs.State.{DiskState}
use Rattle.frame_pool.specs.Frames.{Slots}
use Rattle.swapper_kernel.specs.declared.manager.Manager.{Manager}
use Rattle.swapper_kernel.specs.Maps.{pages_of, IsMapHome}
use Rattle.swapper_kernel.specs.Homes.{Homes, AreNamed, no_home, wanted_at}
use Rattle.swapper_kernel.specs.Stands.{labels_of}
use Rattle.swapper_kernel.specs.Differs.{Differs}
use Rattle.swapper_kernel.specs.DiffersLaws.{differs_itself, differs_then, other_sector}
use Rattle.swapper_kernel.specs.Goes.{Same}
use Rattle.swapper_kernel.specs.GoesLaws.{goes_itself, goes_then, goes_wider, swaps_itself, swaps_then, swaps_stands}
use Rattle.swapper_kernel.specs.HaltLaws.{brings_itself, brings_then, halts_later}
use Rattle.swapper_kernel.specs.CourseLaws.{steps_itself, steps_then, steps_wider}
use Rattle.swapper_kernel.specs.Window.{Reveals, Beside, Looked, IsAccounted, size_in, in_map, map_pages}

pub size_is : (which : Manager) (sectors : ℕ) (layout : Layout) → sectors ≡ layout.sectors → size_in which sectors layout ≡ 512 * pages_of which layout
size_is which sectors layout same = ap (λ (b : Bool). if b then 512 * pages_of which layout else 0) (eq-eqb sectors layout.sectors same)

-- where there are bytes, the disk has its size
pub size_right : (which : Manager) (sectors : ℕ) (layout : Layout) (n : ℕ) → 0 < n → n ≤ size_in which sectors layout → (sectors ≡ layout.sectors) × (n ≤ 512 * pages_of which layout)
size_right which sectors layout n some below = elim (eqb_tells sectors layout.sectors) [
  | inl (_, same) ↦ (same, subst (λ (x : ℕ). n ≤ x) (size_is which sectors layout same) below)
  | inr (test, _) ↦ absurd (let no : size_in which sectors layout ≡ 0 = ap (λ (b : Bool). if b then 512 * pages_of which layout else 0) test in omega (arith, no, some, below))
]

pub revealed_size : {which : Manager} {disk : DiskState} {slots : Slots} {layout : Layout} {b : List ℕ} → Reveals which disk slots layout b → length b ≡ size_in which disk.sectors layout
revealed_size {which = which} {disk = disk} {layout = layout} reveals = reveals.shows.count ∙ sym (size_is which disk.sectors layout reveals.size)

pub beside_itself : (which : Manager) (d : DiskState) (s : Slots) (layout : Layout) → Beside which d s layout d s layout
beside_itself which d s layout = record {
  goes = goes_itself (Differs (in_map which layout)) (map_pages which) d s (λ m. differs_itself (in_map which layout) m);
  brings = brings_itself (IsMapHome which layout) s;
  steps = steps_itself (IsMapHome which layout) (IsMapHome which layout) d s;
  layout = refl;
}

-- The second is said of the layout that the first left.
moved : {which also : Manager} {a b : DiskState} {s t : Slots} {x y z : Layout} → which ≡ also → y ≡ x → Beside also a s y b t z → Beside which a s x b t z
moved {a = a} {b = b} {s = s} {t = t} {z = z} same layout h = rw (same, ← layout) h

pub beside_then : {which also : Manager} {a b c : DiskState} {s t u : Slots} {x y z : Layout} → which ≡ also → Beside which a s x b t y → Beside also b t y c u z → Beside which a s x c u z
beside_then {which = which} {x = x} same h next =
    let k = moved same h.layout next in
    record {
      goes = goes_then (Differs (in_map which x)) (Differs (in_map which x)) (Differs (in_map which x)) (λ m n o first last. differs_then (in_map which x) m n o first last) h.goes k.goes;
      brings = brings_then h.brings k.brings;
      steps = steps_then h.steps k.steps;
      layout = k.layout;
    }

-- ---- Looks in a row.

pub looked_itself : (which : Manager) (d : DiskState) (s : Slots) (layout : Layout) → Looked which d s layout d s layout
looked_itself which d s layout = record {
  swaps = swaps_itself d s;
  brings = brings_itself (IsMapHome which layout) s;
  steps = steps_itself (IsMapHome which layout) no_home d s;
  layout = refl;
}

pub looked_then : {which also : Manager} {a b c : DiskState} {s t u : Slots} {x y z : Layout} → which ≡ also → Looked which a s x b t y → Looked also b t y c u z → Looked which a s x c u z
looked_then {which = which} {b = b} {c = c} {t = t} {u = u} {x = x} {z = z} same h next =
    let k : Looked which b t x c u z = rw (same, ← h.layout) next in
    record {
      swaps = swaps_then h.swaps k.swaps;
      brings = brings_then h.brings k.brings;
      steps = steps_then h.steps k.steps;
      layout = k.layout;
    }

-- a look is an access
pub looked_beside : {which : Manager} {a b : DiskState} {s t : Slots} {x y : Layout} → Looked which a s x b t y → Beside which a s x b t y
looked_beside {which = which} {x = x} h = record {
  goes = goes_wider Same (Differs (in_map which x)) (map_pages which) (λ m n is. subst (Differs (in_map which x) m) (sym is) (differs_itself (in_map which x) m)) (λ id p no. absurd no) h.swaps;
  brings = h.brings;
  steps = steps_wider (IsMapHome which x) (IsMapHome which x) (λ home is. is) (λ home no. absurd no) h.steps;
  layout = h.layout;
}

-- what is revealed stays revealed
pub looked_revealed : {which also : Manager} {a b : DiskState} {s t : Slots} {x y : Layout} {bytes : List ℕ} → which ≡ also → Looked which a s x b t y → Reveals which a s x bytes → Reveals also b t y bytes
looked_revealed same h reveals = record {
  memory = reveals.memory;
  stands = swaps_stands h.swaps reveals.memory reveals.stands;
  shows = rw (← same, h.layout) reveals.shows;
  size = h.swaps.makes.went.sectors ∙ reveals.size ∙ ap (λ (l : Layout). l.sectors) (sym h.layout);
}

-- ---- Halts, and how many bytes are revealed.

-- names stay where the labels do
pub named_kept : (homes : Homes) (m n : List Sector) → labels_of n ≡ labels_of m → AreNamed m homes → AreNamed n homes
named_kept homes m n labels named home is =
    let was = named home is in
    let now = other_sector n m (sym labels) home.sector was.sector was.here in
    record { sector = now.0; here = now.1; named = ap (λ (l : Label). names l (wanted_at home)) now.2 ∙ was.named }

pub accounted_then : {which also third : Manager} {a b c d : DiskState} {s t u v : Slots} {w x y z : Layout} {e : Halt} → which ≡ also → also ≡ third
    → Beside which a s w b t x → Beside also b t x c u y → Beside third c u y d v z → IsAccounted also b t x c e → IsAccounted which a s w d e
accounted_then {which = which} {w = w} {e = e} same next h k l is =
    let acc = rw (← same, h.layout) at is in
    record {
      cause = halts_later (IsMapHome which w) (IsMapHome which w) (λ home of. of) h.goes.makes.went h.goes.makes.wrote h.brings l.goes.makes.went e acc.cause;
      sound = λ m stands named.
          let mid = h.goes.memory m stands in
          acc.sound mid.0 mid.1 (named_kept (IsMapHome which w) m mid.0 mid.2.labels named);
    }

pub same_size_in : {which also : Manager} {a b : DiskState} {s t : Slots} {x y : Layout} → which ≡ also → Beside which a s x b t y → size_in which a.sectors x ≡ size_in also b.sectors y
same_size_in {which = which} {b = b} {x = x} {y = y} same h =
    ap (λ (n : ℕ). size_in which n x) (sym h.goes.makes.went.sectors) ∙ ap (size_in which b.sectors) (sym h.layout) ∙ ap (λ (m : Manager). size_in m b.sectors y) same
