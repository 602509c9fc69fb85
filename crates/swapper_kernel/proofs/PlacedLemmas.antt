-- Homes that lie where the layout lets them be.
use Rattle.std.specs.Prelude.{◌≡◌, ◌≢◌, ◌<◌, ◌≤◌, ◌+◌, ℕ, List, length, Option, Some, None, IsSome, Result, Ok, Err, IfOk, IfSome, slice_set}
use Rattle.std.proofs.Common.{refl, sym, ◌∙◌, ap, subst, arith, inl, inr}
use Rattle.std.proofs.lemmas.Bool.{cases_eq, true≢false}
use Rattle.std.proofs.lemmas.Option.{none-some}
use Rattle.labelled_disk.specs.declared.evidence.Halt.{Halt}
use Rattle.labelled_disk.specs.declared.layout.Layout.{Layout}
use Rattle.labelled_disk.specs.Layout.{vam, vfm}
use Rattle.labelled_disk.specs.Sectors.{Sector}
use Rattle.labelled_disk.specs.State.{DiskState}
use Rattle.frame_pool.specs.declared.home.Home.{Home}
use Rattle.frame_pool.specs.Frames.{Slots, Frame, Has, HasPage, frame_at}
use Rattle.frame_pool.specs.FrameLaws.{has_set, has_of_frame}
use Rattle.swapper_kernel.specs.declared.manager.Manager.{Manager}
use Rattle.swapper_kernel.specs.declared.manager.Manager.TheVariants.{AllocationMap, FileMap}
use Rattle.swapper_kernel.specs.Maps.{id_of, pages_of, start_of, map_home}
use Rattle.swapper_kernel.specs.Homes.{IsLayout, IsPlaced, ArePlaced, IsFileHome}
use Rattle.swapper_kernel.specs.Stands.{Stands, IsHome}

-- the maps come before the data sectors, which come to the end
pub parts : (layout : Layout) → IsLayout layout → (layout.first ≡ 1 + layout.vam + layout.vfm) × (layout.first ≤ layout.sectors)
parts layout is =
    let first : layout.first ≡ 1 + layout.vam + layout.vfm =
    ap (λ (l : Layout). l.first) is.1 ∙ sym (ap (λ (l : Layout). 1 + l.vam + l.vfm) is.1) in
    let room : 1 + vam layout.sectors + vfm layout.sectors ≤ layout.sectors = omega (arith, is.0.0, is.0.1) in
    (first, subst (λ (n : ℕ). n ≤ layout.sectors) (sym (ap (λ (l : Layout). l.first) is.1)) room)

-- a home is a sector of the disk, and not the root
pub inside : (layout : Layout) (home : Home) → IsLayout layout → IsPlaced layout home → (0 < home.sector) × (home.sector < layout.sectors)
inside layout home is placed =
    let p = parts layout is in
    let first = p.0 in
    let end = p.1 in
    elim (cases_eq home.id 1) [
      | inl same ↦
          let m = placed.of_map AllocationMap same in
          let at = m.1 in
          let below = m.0 in
          (omega (arith, at), omega (arith, at, below, first, end))
      | inr other ↦ elim (cases_eq home.id 2) [
        | inl same ↦
            let m = placed.of_map FileMap same in
            let at = m.1 in
            let below = m.0 in
            (omega (arith, at), omega (arith, at, below, first, end))
        | inr neither ↦
            let f = placed.of_file (others home.id other neither) in
            let from = f.0 in
            (omega (arith, from, first), f.1)
      ]
    ]
  where
    others : (id : ℕ) → id ≢ 1 → id ≢ 2 → (which : Manager) → id ≢ id_of which
    others id one two AllocationMap = one
    others id one two FileMap = two

-- the home that the layout gives to a page of a map
pub map_placed : (which : Manager) (layout : Layout) (page : ℕ) → page < pages_of which layout → IsPlaced layout (map_home which layout page)
map_placed AllocationMap layout page below = record { of_map = one; of_file = λ apart. absurd (apart AllocationMap refl) }
  where
    one : (which : Manager) → 1 ≡ id_of which → (page < pages_of which layout) × (1 + page ≡ start_of which layout + page)
    one AllocationMap same = (below, refl)
    one FileMap same = absurd (omega (arith, same))
map_placed FileMap layout page below = record { of_map = two; of_file = λ apart. absurd (apart FileMap refl) }
  where
    two : (which : Manager) → 2 ≡ id_of which → (page < pages_of which layout) × (1 + layout.vam + page ≡ start_of which layout + page)
    two AllocationMap same = absurd (omega (arith, same))
    two FileMap same = (below, refl)

pub file_placed : (layout : Layout) (home : Home) → IsFileHome layout home → IsPlaced layout home
file_placed layout home is = record { of_map = λ which same. absurd (apart which same); of_file = λ other. (is.from, is.below) }
  where
    apart : (which : Manager) → home.id ≡ id_of which → ⊥
    apart AllocationMap same = elim is.id [ inl three ↦ omega (arith, three, same) | inr high ↦ omega (arith, high, same) ]
    apart FileMap same = elim is.id [ inl three ↦ omega (arith, three, same) | inr high ↦ omega (arith, high, same) ]

pub placed_cleared : (layout : Layout) (s : Slots) (i : ℕ) → i < length s → ArePlaced s layout → ArePlaced (slice_set s i None) layout
placed_cleared layout s i below each j f has = elim (has_set s i j None f below has) [ inl (_, empty) ↦ absurd (none-some f empty) | inr (_, was) ↦ each j f was ]

-- a page of a map is at home where the layout has it
pub map_home_is : (which : Manager) (layout : Layout) (page : ℕ) (home : Home) → IsPlaced layout home → home.id ≡ id_of which → home.page ≡ page → home ≡ map_home which layout page
map_home_is which layout page home placed id at =
    let sector : home.sector ≡ start_of which layout + page = (placed.of_map which id).1 ∙ ap (λ (n : ℕ). start_of which layout + n) at in
    (λ i. record { sector = sector i; id = id i; page = at i })

-- a filled slot has a frame
pub frame_there : (s : Slots) (i : ℕ) → i < length s → IsSome (frame_at s i) → (f : Frame) × Has s i f
frame_there s i below filled = either (frame_at s i) refl filled
  where
    either : (o : Option Frame) → frame_at s i ≡ o → IsSome o → (f : Frame) × Has s i f
    either None is some = absurd (true≢false (sym some))
    either (Some f) is some = (f, has_of_frame s i f below is)

-- the slot of a map's page has it at home
pub map_there : (which : Manager) (layout : Layout) (page : ℕ) (slots : Slots) (r : Result ℕ Halt) → ArePlaced slots layout
    → IfOk r (λ i. (f : Frame) × Has slots i f × (f.home.id ≡ id_of which) × (f.home.page ≡ page)) → IfOk r (λ i. (f : Frame) × Has slots i f × (f.home ≡ map_home which layout page))
map_there which layout page slots (Ok i) placed is = (is.0, is.1, map_home_is which layout page is.0.home (placed i is.0 is.1) is.2 is.3)
map_there which layout page slots (Err e) placed is = tt

-- the same of a slot that is found
pub map_found : (which : Manager) (layout : Layout) (page : ℕ) (slots : Slots) (o : Option ℕ) → ArePlaced slots layout
    → IfSome o (λ i. HasPage slots i (id_of which) page) → IfSome o (λ i. (f : Frame) × Has slots i f × (f.home ≡ map_home which layout page))
map_found which layout page slots (Some i) placed is = (is.0, is.1, map_home_is which layout page is.0.home (placed i is.0 is.1) is.2.0 is.2.1)
map_found which layout page slots None placed is = tt

-- a frame that a call gives has the page of its home, as the memory has it
pub shown_at : (id page : ℕ) (r : Result ℕ Halt) (disk : DiskState) (slots : Slots) (m : List Sector) → Stands disk slots m → IfOk r (λ i. (f : Frame) × Has slots i f × (f.home.id ≡ id) × (f.home.page ≡ page))
    → IfOk r (λ i. (f : Frame) × Has slots i f × IsHome m f)
shown_at id page (Ok i) disk slots m stands is = (is.0, is.1, stands.merged.frames i is.0 is.1)
shown_at id page (Err e) disk slots m stands is = tt
