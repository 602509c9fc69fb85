-- Which pages have frames.
use Rattle.std.proofs.Common.{◌≡◌, ◌≢◌, ◌⊎◌, inl, inr, ⊎_elim, ℕ, ◌≤◌, false, List, Some, refl, sym, ◌∙◌, ap, arith}
use Rattle.std.specs.Prelude.{slice_get}
use Rattle.std.proofs.lemmas.Option.{same_Some}
use Rattle.std.proofs.lemmas.Bool.{true≢false}
use Rattle.labelled_disk.specs.declared.label.Label.{Label}
use Rattle.labelled_disk.specs.Sectors.{Sector}
use Rattle.frame_pool.specs.Frames.{Frame, Slots, Has}
use Rattle.flat_machine.specs.declared.space.Space.{Space}
use Rattle.swapper_kernel.specs.Stands.{IsMerged}
use Rattle.swapper_kernel.specs.Homes.{wanted_at}
use Rattle.session_words.specs.FrameLaws.{HasFrames, FrameLaws, is_shown}
use Rattle.session_words.proofs.KnownLemmas.{frames_brought}
use Rattle.session_words.proofs.LooseLemmas.{names_id, names_page}

none_over : (sectors : List Sector) (slots : Slots) (memory : List Sector) (spaces : List Space) (k : ℕ) (s : Sector) → IsMerged sectors slots memory → HasFrames slots spaces
    → slice_get memory k ≡ Some s → is_shown spaces s.0.id s.0.page ≡ false → (s.0.id ≡ 0) ⊎ (16 ≤ s.0.id) → (i : ℕ) (f : Frame) → Has slots i f → f.home.sector ≢ k
none_over sectors slots memory spaces k s merged frames here hidden low i f has at =
    let home = merged.frames i f has in
    let label : home.label ≡ s.0 = ap (λ (t : Sector). t.0) (same_Some {A = Sector} (home.label, f.bytes) s (sym home.keeps ∙ ap (slice_get memory) at ∙ here)) in
    let ids : s.0.id ≡ f.home.id = ap (λ (l : Label). l.id) (sym label) ∙ names_id home.label (wanted_at f.home) home.named in
    let pages : s.0.page ≡ f.home.page = ap (λ (l : Label). l.page) (sym label) ∙ names_page home.label (wanted_at f.home) home.named in
    elim (frames.known f.home.id f.home.page (record { slot = i; frame = f; has = has; same_id = refl; same_page = refl })) [
      | inl (some, few) ↦ absurd (⊎_elim (λ (z : s.0.id ≡ 0). omega (arith, z, ids, some)) (λ (h : 16 ≤ s.0.id). omega (arith, h, ids, few)) low)
      | inr shown ↦ true≢false (sym shown ∙ (λ j. is_shown spaces (sym ids j) (sym pages j)) ∙ hidden)
    ]

pub frame_laws : FrameLaws
frame_laws = record {
  brought = frames_brought;
  mapped = λ slots spaces others shown frames. record { known = λ id page there. elim (frames.known id page there) [ inl low ↦ inl low | inr was ↦ inr (shown id page there was) ] };
  none_over = none_over;
}
