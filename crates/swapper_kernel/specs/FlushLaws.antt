-- The memory where no frame is dirty: it is what the disk reveals.
use Rattle.std.specs.Prelude.{◌≡◌, ℕ, true, false, List, [], ◌∷◌, replicate, Some, None, slice_get}
use Rattle.std.proofs.Common.{refl, sym, ◌∙◌, ap, true≢false, zero, suc}
use Rattle.std.proofs.lemmas.Option.{same_Some, none-some}
use Rattle.labelled_disk.specs.Sectors.{Sector}
use Rattle.labelled_disk.specs.State.{DiskState}
use Rattle.frame_pool.specs.Frames.{Frame, Slots, Has}
use Rattle.swapper_kernel.specs.Stands.{Stands}

nothing_in : (n i : ℕ) (f : Frame) → slice_get (replicate n None) i ≡ Some (Some f) → ⊥
nothing_in zero i f is = none-some (Some f) is
nothing_in (suc n) zero f is = none-some f (same_Some None (Some f) is)
nothing_in (suc n) (suc i) f is = nothing_in n i f is

same_elements : {X : Type 0} (xs ys : List X) → ((i : ℕ) → slice_get xs i ≡ slice_get ys i) → xs ≡ ys
same_elements [] [] same = refl
same_elements [] (y ∷ ys) same = absurd (none-some y (same zero))
same_elements (x ∷ xs) [] same = absurd (none-some x (sym (same zero)))
same_elements {X} (x ∷ xs) (y ∷ ys) same =
    ap (λ (a : X). a ∷ xs) (same_Some x y (same zero)) ∙ ap (λ (l : List X). y ∷ l) (same_elements xs ys (λ i. same (suc i)))

-- with empty slots, what the disk reveals stands
pub stands_first : (disk : DiskState) (d : List Sector) (n : ℕ) → disk.contents ≡ Some d → Stands disk (replicate n None) d
stands_first disk d n revealed = record {
  sectors = d;
  revealed = revealed;
  merged = record { labels = refl; frames = λ i f has. absurd (nothing_in n i f has.is); clean = λ k free. refl };
}

-- where each frame was written out, the memory that stands is what the disk reveals
pub stands_flushed : (disk : DiskState) (slots : Slots) (m d : List Sector) → disk.contents ≡ Some d → Stands disk slots m → ((i : ℕ) (f : Frame) → Has slots i f → f.dirty ≡ false) → m ≡ d
stands_flushed disk slots m d revealed h clean =
    same_elements m h.sectors (λ k. h.merged.clean k (λ i f has dirty at. true≢false (sym dirty ∙ clean i f has))) ∙ same_Some h.sectors d (sym h.revealed ∙ revealed)
