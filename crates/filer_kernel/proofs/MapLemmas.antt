-- What a memory becomes where the pages of one map are accessed.
use Rattle.std.proofs.Common.{◌≡◌, ◌⊎◌, inl, inr, ℕ, zero, suc, ◌+◌, ◌-◌, ◌*◌, ◌<◌, false, List, [], ◌∷◌, Some, refl, sym, ◌∙◌, ap, subst, arith}
use Rattle.std.specs.Prelude.{slice_get, nat_le, nat_lt, ◌&&◌}
use Rattle.std.proofs.lemmas.Bool.{cases_lt}
use Rattle.std.proofs.lemmas.Bool.Decides.{nat_tests}
use Rattle.std.proofs.lemmas.Option.{same_Some, none-some}
use Rattle.labelled_disk.specs.declared.label.Label.{Label}
use Rattle.labelled_disk.specs.declared.layout.Layout.{Layout}
use Rattle.labelled_disk.specs.Sectors.{Sector}
use Rattle.labelled_disk.specs.State.{DiskState}
use Rattle.flat_mem.specs.Memory.{part}
use Rattle.frame_pool.specs.Frames.{Slots}
use Rattle.swapper_kernel.specs.declared.manager.Manager.{Manager}
use Rattle.swapper_kernel.specs.Maps.{pages_of, start_of}
use Rattle.swapper_kernel.specs.Stands.{Stands}
use Rattle.swapper_kernel.specs.Differs.{Differs}
use Rattle.swapper_kernel.specs.DiffersLaws.{same_place, label_here}
use Rattle.swapper_kernel.specs.OnceLaws.{stands_once}
use Rattle.swapper_kernel.specs.Window.{IsPage, Shows, Reveals, Beside, in_map}
use Rattle.filer_kernel.specs.Becomes.{Becomes}

pub same_elements : {X : Type 0} (xs ys : List X) → ((k : ℕ) → slice_get xs k ≡ slice_get ys k) → xs ≡ ys
same_elements [] [] same = refl
same_elements [] (y ∷ ys) same = absurd (none-some y (same zero))
same_elements (x ∷ xs) [] same = absurd (none-some x (sym (same zero)))
same_elements (x ∷ xs) (y ∷ ys) same = λ i. same_Some x y (same zero) i ∷ same_elements xs ys (λ k. same (suc k)) i

-- within some numbers in a row, or outside
pub within_or_not : (start count k : ℕ) → ((nat_le start k && nat_lt k (start + count)) ≡ false) ⊎ ((j : ℕ) × (j < count) × (k ≡ start + j))
within_or_not start count k = elim (cases_lt k start) [
  | inl prefix ↦ inl (grind (arith, nat_tests))
  | inr from ↦ elim (cases_lt k (start + count)) [
    | inl below ↦ inr (k - start, omega (arith, from, below), omega (arith, from))
    | inr past ↦ inl (grind (arith, nat_tests))
  ]
]

-- where the bytes of the map are the same, the memory is
pub same_shown : (which : Manager) (layout : Layout) (m n : List Sector) (b : List ℕ) → Shows which m layout b → Shows which n layout b → Differs (in_map which layout) m n → n ≡ m
same_shown which layout m n b before after differs = same_elements n m (λ k. elim (within_or_not (start_of which layout) (pages_of which layout) k) [
  | inl outside ↦ same_place (in_map which layout) m n differs k (λ s here. outside)
  | inr (j, below, at) ↦
      let a : IsPage m (start_of which layout + j) (part b (512 * j) 512) = before.page j below in
      let c : IsPage n (start_of which layout + j) (part b (512 * j) 512) = after.page j below in
      let labels : Some a.label ≡ Some c.label =
      sym (label_here m (start_of which layout + j) (a.label, part b (512 * j) 512) a.keeps)
      ∙ ap (λ (ls : List Label). slice_get ls (start_of which layout + j)) (sym differs.labels) ∙ label_here n (start_of which layout + j) (c.label, part b (512 * j) 512) c.keeps in
      ap (slice_get n) at ∙ c.keeps ∙ ap (λ (l : Label). Some (l, part b (512 * j) 512)) (sym (same_Some a.label c.label labels)) ∙ sym a.keeps ∙ ap (slice_get m) (sym at)
])

module _ {which also : Manager} {d e : DiskState} {s t : Slots} {x y : Layout} (same : which ≡ also) (beside : Beside which d s x e t y) (m : List Sector) (stands : Stands d s m) where
  -- the map's bytes are these now
  pub becomes_shown : (c : List ℕ) → Reveals also e t y c → Becomes which x m (λ n. Shows which n x c) e t
  becomes_shown c reveals =
      let now = beside.goes.memory m stands in
      let one : now.0 ≡ reveals.memory = same_elements now.0 reveals.memory (stands_once e t now.0 reveals.memory now.1 reveals.stands) in
      let shows : Shows also now.0 x c = subst (λ (l : Layout). Shows also now.0 l c) beside.layout (subst (λ (n : List Sector). Shows also n y c) (sym one) reveals.shows) in
      record { memory = now.0; stands = now.1; differs = now.2; is = subst (λ (w : Manager). Shows w now.0 x c) (sym same) shows }

  -- and were these before
  pub stays_shown : (b : List ℕ) → Shows which m x b → Reveals also e t y b → Stands e t m
  stays_shown b shows reveals =
      let now = becomes_shown b reveals in
      subst (Stands e t) (same_shown which x m now.memory b shows now.is now.differs) now.stands
