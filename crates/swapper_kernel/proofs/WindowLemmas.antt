-- Accesses to a map's pages, through frames.
use Rattle.std.specs.Prelude.{◌≡◌, ◌≢◌, ◌⊎◌, ◌≤◌, ◌<◌, ◌+◌, ◌*◌, ◌&&◌, nat_le, nat_lt, ℕ, true, List, [], length, Some, slice_get, slice_set}
use Rattle.std.proofs.lemmas.Bool.Decides.{leb_tells, nat_tests}
use Rattle.std.proofs.lemmas.Bool.{cases_eq, true≢false}
use Rattle.std.proofs.Common.{refl, sym, ◌∙◌, ap, arith, inl, inr}
use Rattle.std.proofs.lemmas.Option.{same_Some}
use Rattle.labelled_disk.specs.declared.layout.Layout.{Layout}
use Rattle.labelled_disk.specs.declared.evidence.Halt.{Halt}
use Rattle.labelled_disk.specs.declared.evidence.Halt.TheVariants as halt
use Rattle.labelled_disk.specs.Sectors.{Sector}
use Rattle.labelled_disk.specs.State.{DiskState}
use Rattle.flat_mem.specs.Memory.{part, overwritten}
use Rattle.flat_mem.specs.Parts.{part-part, part-overwritten, part-overwritten_below, part-overwritten_above, length-overwritten}
use Rattle.frame_pool.specs.declared.home.Home.{Home}
use Rattle.frame_pool.specs.Frames.{Slots, Frame, Has, changed}
use Rattle.frame_pool.specs.FrameLaws.{has_set, has_below}
use Rattle.frame_pool.specs.ListLaws.{get_other, get_same, below_of}
use Rattle.swapper_kernel.specs.declared.manager.Manager.{Manager}
use Rattle.swapper_kernel.specs.Maps.{pages_of, start_of, map_home, IsMapHome}
use Rattle.swapper_kernel.specs.Homes.{Brings, IsNamed, no_home}
use Rattle.swapper_kernel.specs.Stands.{Stands}
use Rattle.swapper_kernel.specs.Goes.{Goes, Swaps, this_page}
use Rattle.swapper_kernel.specs.GoesLaws.{goes_wider, swaps_stands}
use Rattle.swapper_kernel.specs.Differs.{ChangesAt, Differs}
use Rattle.swapper_kernel.specs.DiffersLaws.{set_labels}
use Rattle.swapper_kernel.specs.Steps.{Steps}
use Rattle.swapper_kernel.specs.CourseLaws.{steps_wider}
use Rattle.swapper_kernel.specs.Halts.{Halts}
use Rattle.swapper_kernel.specs.HaltLaws.{brings_wider, halts_wider}
use Rattle.swapper_kernel.specs.Window.{IsPage, Shows, Reveals, Beside, Looked, IsAccounted, in_map, map_pages}
use Rattle.swapper_kernel.specs.WindowLaws.{looked_beside}

le_total : (a b : ℕ) → (a ≤ b) ⊎ (b ≤ a)
le_total a b = elim (leb_tells a b) [ inl (_, le) ↦ inl le | inr (_, gt) ↦ inr (omega arith) ]

pub part_elsewhere : (b : List ℕ) (from : ℕ) (bytes : List ℕ) (j k : ℕ) → j ≢ k → from + length bytes ≤ 512 → 512 * k + from + length bytes ≤ length b → part (overwritten b (512 * k + from) bytes) (512 * j) 512 ≡ part b (512 * j) 512
part_elsewhere b from bytes j k other fits inside = elim (le_total j k) [
  | inl below ↦ part-overwritten_below b bytes (512 * k + from) (512 * j) 512 (omega (arith, below, other)) inside
  | inr above ↦ part-overwritten_above b bytes (512 * k + from) (512 * j) 512 (omega (arith, above, other, fits)) inside
]

inside_map : (start pages k : ℕ) → k < pages → (nat_le start (start + k) && nat_lt (start + k) (start + pages)) ≡ true
inside_map start pages k below = grind (arith, nat_tests)

-- A page of the map changes.
module _ (which : Manager) (layout : Layout) (k from : ℕ) (bytes : List ℕ) (home : Home) (m n : List Sector) (below : k < pages_of which layout) (at : home ≡ map_home which layout k)
    (fits : from + length bytes ≤ 512) (c : ChangesAt home from bytes m n) where
  sector : home.sector ≡ start_of which layout + k
  sector = ap (λ (h : Home). h.sector) at

  -- in no sector but the map's
  pub change_differs : Differs (in_map which layout) m n
  change_differs = record {
    labels = rw c.is (set_labels m home.sector c.s (overwritten c.s.1 from bytes) c.here);
    pages = λ j t here fails. elim (cases_eq j home.sector) [
      | inl own ↦ absurd (true≢false (sym (inside_map (start_of which layout) (pages_of which layout) k below) ∙ ap (λ (x : ℕ). in_map which layout x t.0) (sym (own ∙ sector)) ∙ fails))
      | inr other ↦ rw c.is (get_other m home.sector j (c.s.0, overwritten c.s.1 from bytes) other ∙ here)
    ];
  }

  -- so are the bytes
  pub change_shows : (b : List ℕ) → Shows which m layout b → Shows which n layout (overwritten b (512 * k + from) bytes)
  change_shows b shows =
      let whole : 512 * k + 512 ≤ length b = omega (arith, shows.count, below) in
      let piece : 512 * k + from + length bytes ≤ length b = omega (arith, whole, fits) in
      let there = below_of m home.sector c.s c.here in
      let own : IsPage m (start_of which layout + k) (part b (512 * k) 512) = shows.page k below in
      let old : c.s ≡ (own.label, part b (512 * k) 512) = same_Some {A = Sector} c.s (own.label, part b (512 * k) 512) (sym c.here ∙ ap (slice_get m) sector ∙ own.keeps) in
      record {
        count = length-overwritten b bytes (512 * k + from) piece ∙ shows.count;
        page = λ j j_below. elim (cases_eq j k) [
          | inl same ↦ record {
            label = c.s.0;
            keeps = ap (slice_get n) (ap (λ (x : ℕ). start_of which layout + x) same ∙ sym sector)
                ∙ ap (λ (l : List Sector). slice_get l home.sector) c.is ∙ get_same m home.sector (c.s.0, overwritten c.s.1 from bytes) there
                ∙ ap (λ (l : List ℕ). Some (c.s.0, l))
                (ap (λ (t : Sector). overwritten t.1 from bytes) old ∙ sym (part-overwritten b bytes (512 * k) 512 from whole fits)
                ∙ ap (λ (x : ℕ). part (overwritten b (512 * k + from) bytes) (512 * x) 512) (sym same));
          }
          | inr other ↦
              let page : IsPage m (start_of which layout + j) (part b (512 * j) 512) = shows.page j j_below in
              record {
                label = page.label;
                keeps = ap (λ (l : List Sector). slice_get l (start_of which layout + j)) c.is
                    ∙ get_other m home.sector (start_of which layout + j) (c.s.0, overwritten c.s.1 from bytes) (λ same. other (omega (arith, same, sector)))
                    ∙ page.keeps ∙ ap (λ (l : List ℕ). Some (page.label, l)) (sym (part_elsewhere b from bytes j k other fits piece));
              }
        ];
      }

-- swapping that brings in a page of the map is a look at it
pub looked_swaps : (which : Manager) {a b : DiskState} {s t : Slots} {x y : Layout} (page : ℕ) → page < pages_of which x → y ≡ x → Swaps a s b t → Brings (λ h. h ≡ map_home which x page) s t
    → Steps (λ h. h ≡ map_home which x page) no_home a s b t → Looked which a s x b t y
looked_swaps which {x = x} page below same swaps brings steps = record {
  swaps = swaps;
  brings = brings_wider (IsMapHome which x) (λ h is. (page, below, is)) brings;
  steps = steps_wider (IsMapHome which x) no_home (λ h is. (page, below, is)) (λ h no. no) steps;
  layout = same;
}

pub beside_swaps : (which : Manager) {a b : DiskState} {s t : Slots} {x y : Layout} (page : ℕ) → page < pages_of which x → y ≡ x → Swaps a s b t → Brings (λ h. h ≡ map_home which x page) s t
    → Steps (λ h. h ≡ map_home which x page) no_home a s b t → Beside which a s x b t y
beside_swaps which page below same swaps brings steps = looked_beside (looked_swaps which page below same swaps brings steps)

-- a frame of the map was changed
pub beside_changed : (which : Manager) {a b : DiskState} {s t : Slots} {x y : Layout} (page : ℕ) → page < pages_of which x → y ≡ x → (i : ℕ) (f : Frame) → Has s i f → f.home ≡ map_home which x page
    → (from : ℕ) (bytes : List ℕ) → from + length bytes ≤ 512 → t ≡ slice_set s i (Some (changed f from bytes))
    → Goes (ChangesAt f.home from bytes) (this_page f.home.id f.home.page) [] a s b t → Steps no_home (λ h. h ≡ f.home) a s b t → Beside which a s x b t y
beside_changed which {x = x} page below same i f has at from bytes fits is goes steps = record {
  goes = goes_wider (ChangesAt f.home from bytes) (Differs (in_map which x)) (map_pages which) (λ m n c. change_differs which x page from bytes f.home m n below at fits c)
      (λ id p own. own.0 ∙ ap (λ (h : Home). h.id) at) goes;
  brings = record {
    homes = λ home held. elim (has_set _ i held.slot (Some (changed f from bytes)) held.frame (has_below _ i f has) (record { is = ap (λ (l : Slots). slice_get l held.slot) (sym is) ∙ held.has.is })) [
      | inl (_, own) ↦ inl (record { slot = i; frame = f; has = has; at = ap (λ (g : Frame). g.home) (same_Some (changed f from bytes) held.frame own) ∙ held.at })
      | inr (_, was) ↦ inl (record { slot = held.slot; frame = held.frame; has = was; at = held.at })
    ];
  };
  steps = steps_wider (IsMapHome which x) (IsMapHome which x) (λ h no. absurd no) (λ h own. (page, below, own ∙ at)) steps;
  layout = same;
}

pub reveals_swapped : (which : Manager) {a b : DiskState} {s t : Slots} {x y : Layout} → y ≡ x → Swaps a s b t → (bytes : List ℕ) → Reveals which a s x bytes → Reveals which b t y bytes
reveals_swapped which same h bytes reveals = record {
  memory = reveals.memory;
  stands = swaps_stands h reveals.memory reveals.stands;
  shows = rw same reveals.shows;
  size = h.makes.went.sectors ∙ reveals.size ∙ ap (λ (l : Layout). l.sectors) (sym same);
}

pub reveals_changed : (which : Manager) {a b : DiskState} {s t : Slots} {x y : Layout} (page : ℕ) → page < pages_of which x → y ≡ x → (home : Home) → home ≡ map_home which x page
    → (from : ℕ) (new : List ℕ) → from + length new ≤ 512 → Goes (ChangesAt home from new) (this_page home.id home.page) [] a s b t
    → (at : ℕ) → 512 * page + from ≡ at → (bytes : List ℕ) → Reveals which a s x bytes → Reveals which b t y (overwritten bytes at new)
reveals_changed which {x = x} page below same home home_is from new fits goes at at_is bytes reveals =
    let now = goes.memory reveals.memory reveals.stands in
    let shown = change_shows which x page from new home reveals.memory now.0 below home_is fits now.2 bytes reveals.shows in
    record {
      memory = now.0;
      stands = now.1;
      shows = rw (same, ← at_is) shown;
      size = goes.makes.went.sectors ∙ reveals.size ∙ ap (λ (l : Layout). l.sectors) (sym same);
    }

-- a frame of the map has the page that is shown
pub read_shown : (which : Manager) (disk : DiskState) (slots : Slots) (layout : Layout) (m : List Sector) → Stands disk slots m → (i : ℕ) (f : Frame) → Has slots i f → (page : ℕ) → page < pages_of which layout
    → f.home ≡ map_home which layout page → (b : List ℕ) (from len : ℕ) → Shows which m layout b → from + len ≤ 512 → part f.bytes from len ≡ part b (512 * page + from) len
read_shown which disk slots layout m h i f has page below at b from len shows fits =
    let home = h.merged.frames i f has in
    let own : IsPage m (start_of which layout + page) (part b (512 * page) 512) = shows.page page below in
    let same : f.bytes ≡ part b (512 * page) 512 =
    ap (λ (t : Sector). t.1) (same_Some {A = Sector} (home.label, f.bytes) (own.label, part b (512 * page) 512) (sym home.keeps ∙ ap (λ (x : Home). slice_get m x.sector) at ∙ own.keeps)) in
    ap (λ (l : List ℕ). part l from len) same ∙ part-part b (512 * page) 512 from len fits

-- a halt at one page of the map
pub accounted_at : (which : Manager) (old now : DiskState) (slots : Slots) (layout : Layout) (page : ℕ) → page < pages_of which layout → (e : Halt)
    → Halts (λ h. h ≡ map_home which layout page) old slots now e → ((m : List Sector) → Stands old slots m → IsNamed m (map_home which layout page) → e ≡ halt.Disk) → IsAccounted which old slots layout now e
accounted_at which old now slots layout page below e cause sound = record {
  cause = halts_wider (λ h. h ≡ map_home which layout page) (IsMapHome which layout) old now slots (λ h is. (page, below, is)) e cause;
  sound = λ m stands named. sound m stands (named (map_home which layout page) (page, below, refl));
}
