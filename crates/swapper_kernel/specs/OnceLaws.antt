-- A disk and the frames over it make one memory at most.
use Rattle.std.specs.Prelude.{◌≡◌, ◌≢◌, ◌⊎◌, ℕ, ◌<◌, ◌+◌, ◌*◌, ◌/◌, ◌%◌, Bool, true, false, List, [], ◌∷◌, Option, Some, None, slice_get, get_or, drop}
use Rattle.std.proofs.Common.{refl, sym, ◌∙◌, ap, subst, arith, true≢false, inl, inr, zero, suc}
use Rattle.std.proofs.lemmas.Option.{same_Some, none-some}
use Rattle.std.proofs.lemmas.Bool.{cases_eq}
use Rattle.std.proofs.lemmas.List.{same_lists, get_or-take, get_or-drop}
use Rattle.labelled_disk.specs.declared.label.Label.{Label}
use Rattle.labelled_disk.specs.Sectors.{Sector}
use Rattle.labelled_disk.specs.State.{DiskState}
use Rattle.frame_pool.specs.Frames.{Frame, Slots, Has}
use Rattle.flat_mem.specs.Memory.{part}
use Rattle.labelled_disk.specs.declared.layout.Layout.{Layout}
use Rattle.swapper_kernel.specs.declared.manager.Manager.{Manager}
use Rattle.swapper_kernel.specs.Stands.{IsHome, IsClean, IsMerged, Stands}
use Rattle.swapper_kernel.specs.Maps.{pages_of, start_of}
use Rattle.swapper_kernel.specs.DiffersLaws.{label_here}
use Rattle.swapper_kernel.specs.Window.{IsPage, Reveals}

-- a dirty frame over the sector
pub record IsOver (slots : Slots) (sector : ℕ) : Type 0 where
  pub slot : ℕ
  pub frame : Frame
  pub has : Has slots slot frame
  pub dirty : frame.dirty ≡ true
  pub at : frame.home.sector ≡ sector

later_over : (x : Option Frame) (s : Slots) (sector : ℕ) → IsOver s sector → IsOver (x ∷ s) sector
later_over x s sector over = record { slot = suc over.slot; frame = over.frame; has = record { is = over.has.is }; dirty = over.dirty; at = over.at }

still_clean : (x : Option Frame) (s : Slots) (sector : ℕ) → ((f : Frame) → x ≡ Some f → f.dirty ≡ true → f.home.sector ≢ sector) → IsClean s sector → IsClean (x ∷ s) sector
still_clean x s sector here clean zero f has dirty = here f (same_Some x (Some f) has.is) dirty
still_clean x s sector here clean (suc i) f has dirty = clean i f (record { is = has.is }) dirty

frame_over : (f : Frame) (s : Slots) (sector : ℕ) (b : Bool) → f.dirty ≡ b → (f.home.sector ≡ sector) ⊎ (f.home.sector ≢ sector) → IsOver s sector ⊎ IsClean s sector → IsOver (Some f ∷ s) sector ⊎ IsClean (Some f ∷ s) sector
frame_over f s sector b is place (inl over) = inl (later_over (Some f) s sector over)
frame_over f s sector false is place (inr clean) = inr (still_clean (Some f) s sector (λ g same dirty. absurd (true≢false (sym dirty ∙ ap (λ (x : Frame). x.dirty) (sym (same_Some f g same)) ∙ is))) clean)
frame_over f s sector true is (inl at) (inr clean) = inl (record { slot = zero; frame = f; has = record { is = refl }; dirty = is; at = at })
frame_over f s sector true is (inr apart) (inr clean) = inr (still_clean (Some f) s sector (λ g same dirty at. apart (ap (λ (x : Frame). x.home.sector) (same_Some f g same) ∙ at)) clean)

none_over : (s : Slots) (sector : ℕ) → IsOver s sector ⊎ IsClean s sector → IsOver (None ∷ s) sector ⊎ IsClean (None ∷ s) sector
none_over s sector (inl over) = inl (later_over None s sector over)
none_over s sector (inr clean) = inr (still_clean None s sector (λ g same dirty at. none-some g same) clean)

nothing_over : (sector : ℕ) → IsClean [] sector
nothing_over sector i f has dirty at = none-some (Some f) has.is

pub over_or_clean : (s : Slots) (sector : ℕ) → IsOver s sector ⊎ IsClean s sector
over_or_clean [] sector = inr (nothing_over sector)
over_or_clean (None ∷ s) sector = none_over s sector (over_or_clean s sector)
over_or_clean (Some f ∷ s) sector = frame_over f s sector f.dirty refl (cases_eq f.home.sector sector) (over_or_clean s sector)

pub merged_once : (sectors : List Sector) (slots : Slots) (m n : List Sector) → IsMerged sectors slots m → IsMerged sectors slots n → (k : ℕ) → slice_get m k ≡ slice_get n k
merged_once sectors slots m n h l k = elim (over_or_clean slots k) [
  | inl over ↦
      let f = over.frame in
      let a : IsHome m f = h.frames over.slot f over.has in
      let b : IsHome n f = l.frames over.slot f over.has in
      let labels : Some a.label ≡ Some b.label =
      sym (label_here m f.home.sector (a.label, f.bytes) a.keeps) ∙ ap (λ (ls : List Label). slice_get ls f.home.sector) (h.labels ∙ sym l.labels) ∙ label_here n f.home.sector (b.label, f.bytes) b.keeps in
      ap (slice_get m) (sym over.at) ∙ a.keeps ∙ ap (λ (x : Label). Some (x, f.bytes)) (same_Some a.label b.label labels) ∙ sym b.keeps ∙ ap (slice_get n) over.at
  | inr clean ↦ h.clean k clean ∙ sym (l.clean k clean)
]

pub stands_once : (disk : DiskState) (slots : Slots) (m n : List Sector) → Stands disk slots m → Stands disk slots n → (k : ℕ) → slice_get m k ≡ slice_get n k
stands_once disk slots m n h l =
    let same : l.sectors ≡ h.sectors = same_Some l.sectors h.sectors (sym l.revealed ∙ h.revealed) in
    merged_once h.sectors slots m n h.merged (subst (λ (x : List Sector). IsMerged x slots n) same l.merged)

byte_at : (b : List ℕ) (q r d : ℕ) → r < 512 → get_or b (q + r) d ≡ get_or (part b q 512) r d
byte_at b q r d below = sym (get_or-take 512 (drop q b) r d below ∙ get_or-drop q b r d)

-- byte k of the list is one of its page
pub byte_in : (b : List ℕ) (k d : ℕ) → get_or b k d ≡ get_or (part b (512 * (k / 512)) 512) (k % 512) d
byte_in b k d =
    let place : k ≡ 512 * (k / 512) + k % 512 = omega arith in
    let below : k % 512 < 512 = omega arith in
    ap (λ (n : ℕ). get_or b n d) place ∙ byte_at b (512 * (k / 512)) (k % 512) d below

pub reveals_once : (which : Manager) (disk : DiskState) (slots : Slots) (layout : Layout) (b c : List ℕ) → Reveals which disk slots layout b → Reveals which disk slots layout c → b ≡ c
reveals_once which disk slots layout b c h l =
    same_lists b c (h.shows.count ∙ sym l.shows.count) (λ k d below.
    let page : k / 512 < pages_of which layout = omega (arith, h.shows.count, below) in
    byte_in b k d ∙ ap (λ (x : List ℕ). get_or x (k % 512) d) (same_page (k / 512) page) ∙ sym (byte_in c k d))
  where
    same_page : (j : ℕ) → j < pages_of which layout → part b (512 * j) 512 ≡ part c (512 * j) 512
    same_page j below =
        let x : IsPage h.memory (start_of which layout + j) (part b (512 * j) 512) = h.shows.page j below in
        let y : IsPage l.memory (start_of which layout + j) (part c (512 * j) 512) = l.shows.page j below in
        ap (λ (s : Sector). s.1) (same_Some {A = Sector} (x.label, part b (512 * j) 512) (y.label, part c (512 * j) 512)
        (sym x.keeps ∙ stands_once disk slots h.memory l.memory h.stands l.stands (start_of which layout + j) ∙ y.keeps))
