-- One look after the other.
use Rattle.std.specs.Prelude.{◌≡◌, ◌+◌, ◌<◌, ◌≤◌, ℕ, Bool, true, false, [], length, Option, Some, None, slice_get, slice_set}
use Rattle.std.proofs.Common.{sym, ◌∙◌, ap, subst, arith, inl, inr}
use Rattle.std.proofs.lemmas.Bool.{cases_eq}
use Rattle.std.proofs.lemmas.Bool.Decides.{nat_tests}
use Rattle.std.proofs.lemmas.Option.{same_Some, none-some}
use Rattle.labelled_disk.specs.declared.label.Label.{Label}
use Rattle.labelled_disk.specs.State.{DiskState}
use Rattle.frame_pool.specs.Frames.{Frame, Slots, Has, IsWithin, is_kept}
use Rattle.frame_pool.specs.FrameLaws.{has_set, has_below}
use Rattle.swapper_kernel.specs.Goes.{Goes, Swaps, no_page}
use Rattle.swapper_kernel.specs.GoesLaws.{swaps_itself, swaps_then, goes_itself, goes_then, goes_wider}
use Rattle.swapper_kernel.specs.Differs.{Differs, of_run}
use Rattle.swapper_kernel.specs.DiffersLaws.{differs_itself, differs_then, differs_wider}
use Rattle.force_calls.specs.Run.{OnlyRun, look_at, looks_of}
use Rattle.force_calls.proofs.RunLemmas.{only_run_itself, only_run_then, cleared_only, kept_within, same_frame}

-- Frames of the run that the first k looks find were given up, and the memory may have lost these pages' bytes.
pub record IsForgetting (by_page : Bool) (id first pages : ℕ) (a : DiskState) (s : Slots) (b : DiskState) (t : Slots) (k : ℕ) : Type 0 where
  pub goes : Goes (Differs (of_run id first pages)) no_page [] a s b t
  pub swaps : ((i : ℕ) (f : Frame) → Has s i f → IsWithin id first pages f.home → f.dirty ≡ false) → Swaps a s b t
  pub left : (i : ℕ) (f : Frame) → Has t i f → Has s i f
  pub run : OnlyRun id first pages s t
  pub past : (i : ℕ) (f : Frame) → look_at by_page first i f.home < k → Has t i f → IsWithin id first pages f.home → ⊥

pub forgetting_none : (by_page : Bool) (id first pages : ℕ) (a : DiskState) (s : Slots) → IsForgetting by_page id first pages a s a s 0
forgetting_none by_page id first pages a s = record {
  goes = goes_itself (Differs (of_run id first pages)) no_page a s (λ m. differs_itself (of_run id first pages) m);
  swaps = λ clean. swaps_itself a s;
  left = λ i f has. has;
  run = only_run_itself id first pages s;
  past = λ i f below has within. omega (arith, below);
}

pub forgetting_on : {by_page : Bool} {id first pages : ℕ} {a : DiskState} {s : Slots} {b : DiskState} {t : Slots} {k : ℕ} → IsForgetting by_page id first pages a s b t k
    → ((i : ℕ) (f : Frame) → Has t i f → IsWithin id first pages f.home → look_at by_page first i f.home ≡ k → ⊥) → IsForgetting by_page id first pages a s b t (k + 1)
forgetting_on {by_page = by_page} {first = first} {k = k} h here = record {
  goes = h.goes;
  swaps = h.swaps;
  left = h.left;
  run = h.run;
  past = λ i f below has within. elim (cases_eq (look_at by_page first i f.home) k) [
    | inl same ↦ here i f has within same
    | inr other ↦ h.past i f (omega (arith, below, other)) has within
  ];
}

-- a label of this page is one of the run's
of_page : (id first pages page : ℕ) (other : ℕ) (l : Label) → other ≡ id → first ≤ page → page < first + pages → of_run id first pages 0 l ≡ false → of_run other page 1 0 l ≡ false
of_page id first pages page other l same from below fails = grind (arith, nat_tests)

pub forgetting_more : {by_page : Bool} {id first pages : ℕ} {a : DiskState} {s : Slots} {b : DiskState} {t : Slots} {k : ℕ} → IsForgetting by_page id first pages a s b t k → (slot : ℕ) (f : Frame) → Has t slot f
    → is_kept id first pages (Some f) ≡ true → ((i : ℕ) (g : Frame) → Has t i g → IsWithin id first pages g.home → look_at by_page first i g.home ≡ k → i ≡ slot)
    → {c : DiskState} {u : Slots} → Goes (Differs (of_run f.home.id f.home.page 1)) no_page [] b t c u → (((g : Frame) → Has t slot g → g.dirty ≡ false) → Swaps b t c u) → u ≡ slice_set t slot None
    → IsForgetting by_page id first pages a s c u (k + 1)
forgetting_more {by_page = by_page} {id = id} {first = first} {pages = pages} {t = t} {k = k} h slot f has kept only {u = u} goes swaps is =
    let within = kept_within id first pages f kept in
    record {
      goes = goes_then (Differs (of_run id first pages)) (Differs (of_run id first pages)) (Differs (of_run id first pages)) (λ m n o one two. differs_then (of_run id first pages) m n o one two) h.goes
          (goes_wider (Differs (of_run f.home.id f.home.page 1)) (Differs (of_run id first pages)) no_page
          (λ m n d. differs_wider (of_run f.home.id f.home.page 1) (of_run id first pages) m n (λ place x at fails. of_page id first pages f.home.page f.home.id x.0 within.0 within.1 within.2 fails) d)
          (λ i p no. no) goes);
      swaps = λ clean. swaps_then (h.swaps clean) (swaps (λ g g_has. same_frame t slot f g has g_has (clean slot f (h.left slot f has) within)));
      left = λ i g g_has. elim (has_set t slot i None g (has_below t slot f has) (record { is = ap (λ (l : Slots). slice_get l i) (sym is) ∙ g_has.is })) [
        | inl (_, empty) ↦ absurd (none-some g empty)
        | inr (_, was) ↦ h.left i g was
      ];
      run = only_run_then h.run (cleared_only id first pages t u slot f has kept is);
      past = λ i g below g_has g_within. elim (has_set t slot i None g (has_below t slot f has) (record { is = ap (λ (l : Slots). slice_get l i) (sym is) ∙ g_has.is })) [
        | inl (_, empty) ↦ none-some g empty
        | inr (other, was) ↦ elim (cases_eq (look_at by_page first i g.home) k) [
          | inl looked ↦ other (only i g was g_within looked)
          | inr earlier ↦ h.past i g (omega (arith, below, earlier)) was g_within
        ]
      ];
    }

-- A look is one of those of now, which are as many as there were.
pub look_below : (by_page : Bool) (pages : ℕ) (s t : Slots) (look n : ℕ) → length t ≡ length s → n ≡ looks_of by_page pages (length s) → look < n → look < looks_of by_page pages (length t)
look_below by_page pages s t look n same is below = subst (λ (k : ℕ). look < looks_of by_page pages k) (sym same) (subst (λ (k : ℕ). look < k) is below)

-- Each frame of the run is found by one of the looks.
pub found_below : (by_page : Bool) (id first pages : ℕ) (s t : Slots) (i k n : ℕ) (f : Frame) → length t ≡ length s → n ≡ looks_of by_page pages (length s) → n ≤ k → Has t i f → IsWithin id first pages f.home → look_at by_page first i f.home < k
found_below true id first pages s t i k n f same looks end has within = let low = within.1 in let high = within.2 in omega (arith, looks, end, low, high)
found_below false id first pages s t i k n f same looks end has within = let below = has_below t i f has in omega (arith, same, looks, end, below)

-- what was found is what is revealed of the frame
pub revealed_slot : (slot i : ℕ) (dirty : Bool) (f : Frame) → ◌≡◌ {A = Option (ℕ × Bool)} (Some (slot, dirty)) (Some (i, f.dirty)) → i ≡ slot
revealed_slot slot i dirty f is = sym (ap (λ (x : ℕ × Bool). x.0) (same_Some (slot, dirty) (i, f.dirty) is))

pub revealed_dirty : (slot i : ℕ) (dirty : Bool) (f : Frame) → ◌≡◌ {A = Option (ℕ × Bool)} (Some (slot, dirty)) (Some (i, f.dirty)) → dirty ≡ f.dirty
revealed_dirty slot i dirty f is = ap (λ (x : ℕ × Bool). x.1) (same_Some (slot, dirty) (i, f.dirty) is)

-- the same slots
pub has_in : {s t : Slots} {i : ℕ} {f : Frame} → s ≡ t → Has s i f → Has t i f
has_in {i = i} same has = record { is = ap (λ (l : Slots). slice_get l i) (sym same) ∙ has.is }
