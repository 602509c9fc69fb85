-- A page is read into a slot that has no dirty frame.
use Rattle.std.specs.Prelude.{◌≡◌, ◌≢◌, ◌<◌, ℕ, true, false, List, length, Some, None, slice_get, slice_set, option_map}
use Rattle.std.proofs.Common.{refl, sym, ◌∙◌, ap, subst, inl, inr}
use Rattle.std.proofs.lemmas.Option.{same_Some, none-some}
use Rattle.std.proofs.lemmas.Bool.{true≢false}
use Rattle.labelled_disk.specs.declared.label.Label.{Label}
use Rattle.labelled_disk.specs.Calls.{RevealsSame, Moves}
use Rattle.labelled_disk.specs.Label.{names}
use Rattle.labelled_disk.specs.Sectors.{Sector}
use Rattle.labelled_disk.specs.State.{DiskState, Holds}
use Rattle.frame_pool.specs.declared.home.Home.{Home}
use Rattle.frame_pool.specs.Frames.{Slots, Frame, Has, IsEmpty, IsNowhere, new_frame}
use Rattle.frame_pool.specs.FrameLaws.{has_set, has_other, empty_cleared, nowhere_cleared, length_of_set, set_twice}
use Rattle.frame_pool.specs.ListLaws.{get_same}
use Rattle.swapper_kernel.specs.Homes.{Homes, Brings, IsNamed, wanted_at}
use Rattle.swapper_kernel.specs.Stands.{Stands}
use Rattle.swapper_kernel.specs.DiffersLaws.{other_sector}
use Rattle.swapper_kernel.specs.Goes.{Swaps}
use Rattle.swapper_kernel.specs.GoesLaws.{swaps_then}
use Rattle.swapper_kernel.specs.Steps.{Steps}
use Rattle.swapper_kernel.specs.CourseLaws.{steps_filled}
use Rattle.swapper_kernel.specs.Halts.{IsOther, held_or}
use Rattle.swapper_kernel.proofs.StepLemmas.{step_laws}

-- a slot that was emptied, and then filled
pub refilled : (s mid after : Slots) (i : ℕ) (f : Frame) → mid ≡ slice_set s i None → after ≡ slice_set mid i (Some f) → after ≡ slice_set (slice_set s i None) i (Some f)
refilled s mid after i f emptied filled = filled ∙ ap (λ (l : Slots). slice_set l i (Some f)) emptied

module _ (s after : Slots) (i : ℕ) (home : Home) (bytes : List ℕ) (below : i < length s) (is : after ≡ slice_set (slice_set s i None) i (Some (new_frame home bytes))) where
  pub there : (f : Frame) × Has after i f × (f.home ≡ home)
  there =
      let inside : i < length (slice_set s i None) = subst (λ (n : ℕ). i < n) (sym (length_of_set s i None)) below in
      (new_frame home bytes, record { is = ap (λ (l : Slots). slice_get l i) is ∙ get_same (slice_set s i None) i (Some (new_frame home bytes)) inside }, refl)

  pub others : (j : ℕ) (g : Frame) → j ≢ i → Has s j g → Has after j g
  others j g apart has = rw is (has_other _ i j (Some (new_frame home bytes)) g apart (has_other s i j None g apart has))

  pub brings : Brings (λ h. h ≡ home) s after
  brings = record {
    homes = λ h held.
        let inside : i < length (slice_set s i None) = subst (λ (n : ℕ). i < n) (sym (length_of_set s i None)) below in
        let now : Has (slice_set (slice_set s i None) i (Some (new_frame home bytes))) held.slot held.frame = record { is = ap (λ (l : Slots). slice_get l held.slot) (sym is) ∙ held.has.is } in
        elim (has_set (slice_set s i None) i held.slot (Some (new_frame home bytes)) held.frame inside now) [
          | inl (_, own) ↦ inr (sym held.at ∙ ap (λ (f : Frame). f.home) (sym (same_Some (new_frame home bytes) held.frame own)))
          | inr (_, was) ↦ elim (has_set s i held.slot None held.frame below was) [
            | inl (_, empty) ↦ absurd (none-some held.frame empty)
            | inr (_, has) ↦ inl (record { slot = held.slot; frame = held.frame; has = has; at = held.at })
          ]
        ];
  }

  module _ {old new : DiskState} (clean : (g : Frame) → Has s i g → g.dirty ≡ false) (nowhere : IsNowhere s home.id home.page) (label : Label) (holds : Holds old home.sector (label, bytes)) (same : RevealsSame old new) where
    pub swaps : names label (wanted_at home) ≡ true → Moves old new → Swaps old s new after
    swaps named moves =
        let inside : i < length (slice_set s i None) = subst (λ (n : ℕ). i < n) (sym (length_of_set s i None)) below in
        rw is (swaps_then (step_laws.read old new s same moves) (swaps_then (step_laws.cleared new s i below clean)
        (step_laws.put new (slice_set s i None) i home label bytes inside (empty_cleared s i below) (nowhere_cleared s i home.id home.page below nowhere) (λ d revealed. holds d (sym same.contents ∙ revealed)) named)))

    pub steps : {change : Homes} → names label (wanted_at home) ≡ true → ((g : Frame) → Has s i g → (j : ℕ) → IsEmpty s j → ⊥) → Steps (λ h. h ≡ home) change old s new after
    steps named full = steps_filled s after i (new_frame home bytes) (record {
      may = refl;
      same = same;
      clean = refl;
      page = (label, holds, named);
      fresh = nowhere;
      below = below;
      leaves = λ g has. (clean g has, full g has);
      is = is ∙ set_twice s i None (Some (new_frame home bytes));
    })

-- The label that was read is another than that of the given home.
pub given_other : (s : Slots) (home : Home) (disk : DiskState) (label : Label) (bytes : List ℕ) → names label (wanted_at home) ≡ false
    → Holds disk home.sector (label, bytes) → IsOther (held_or s (λ h. h ≡ home)) disk home.sector (wanted_at home) label
given_other s home disk label bytes other holds = record { there = λ d revealed. ap (option_map (λ (t : Sector). t.0)) (holds d revealed); other = other; reason = inr refl }

-- But not where frames and disk stand for a memory whose label there names the page.
pub named_holds : {disk : DiskState} (s : Slots) (home : Home) (m : List Sector) (label : Label) (bytes : List ℕ) → Stands disk s m → IsNamed m home → Holds disk home.sector (label, bytes) → names label (wanted_at home) ≡ false → ⊥
named_holds s home m label bytes h named holds other =
    let d = other_sector h.sectors m h.merged.labels home.sector named.sector named.here in
    let same : label ≡ d.0.0 = ap (λ (t : Sector). t.0) (same_Some {A = Sector} (label, bytes) d.0 (sym (holds h.sectors h.revealed) ∙ d.1)) in
    true≢false (sym named.named ∙ ap (λ (l : Label). names l (wanted_at home)) (sym d.2 ∙ sym same) ∙ other)
