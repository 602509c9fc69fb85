-- Marks, set for one slot after the other.
use Rattle.std.specs.Prelude.{◌≡◌, ◌+◌, ◌-◌, ◌<◌, ℕ, Bool, true, false, List, length, slice_index_or, slice_set}
use Rattle.std.proofs.Common.{sym, ◌∙◌, ap, subst, arith, inl, inr, length-set}
use Rattle.std.proofs.lemmas.Bool.{cases_eq}
use Rattle.std.proofs.lemmas.List.{get_or-set_same, get_or-set_other}
use Rattle.frame_pool.specs.Frames.{Frame, Slots, Has, IsWithin}

-- each dirty page of the run in one of the first n slots has a mark
pub record IsMarking (id first pages : ℕ) (slots : Slots) (dirty : List Bool) (n : ℕ) : Type 0 where
  pub width : length dirty ≡ 4096
  pub marked : (i : ℕ) (f : Frame) → i < n → Has slots i f → IsWithin id first pages f.home → f.dirty ≡ true → slice_index_or dirty (f.home.page - first) false ≡ true

pub marking_none : (id first pages : ℕ) (slots : Slots) (dirty : List Bool) → length dirty ≡ 4096 → IsMarking id first pages slots dirty 0
marking_none id first pages slots dirty width = record { width = width; marked = λ i f below has within is. absurd (omega (arith, below)) }

-- what the next slot reveals
module _ {id first pages : ℕ} {slots : Slots} {dirty : List Bool} {n : ℕ} (h : IsMarking id first pages slots dirty n) where
  pub marking_on : ((f : Frame) → Has slots n f → IsWithin id first pages f.home → f.dirty ≡ true → ⊥) → IsMarking id first pages slots dirty (n + 1)
  marking_on clean = record {
    width = h.width;
    marked = λ i f below has within is. elim (cases_eq i n) [
      | inl same ↦ absurd (clean f (subst (λ (k : ℕ). Has slots k f) same has) within is)
      | inr other ↦ h.marked i f (omega (arith, below, other)) has within is
    ];
  }

  pub marking_more : (place : ℕ) → place < 4096 → ((f : Frame) → Has slots n f → IsWithin id first pages f.home → f.dirty ≡ true → place ≡ f.home.page - first)
      → IsMarking id first pages slots (slice_set dirty place true) (n + 1)
  marking_more place below only = record {
    width = length-set dirty place true ∙ h.width;
    marked = λ i f earlier has within is. elim (cases_eq (f.home.page - first) place) [
      | inl here ↦ ap (λ (k : ℕ). slice_index_or (slice_set dirty place true) k false) here ∙ get_or-set_same dirty place true false (let wide = h.width in omega (arith, wide, below))
      | inr apart ↦ get_or-set_other dirty place (f.home.page - first) true false apart
          ∙ elim (cases_eq i n) [
            | inl same ↦ absurd (apart (sym (only f (subst (λ (k : ℕ). Has slots k f) same has) within is)))
            | inr other ↦ h.marked i f (omega (arith, earlier, other)) has within is
          ]
    ];
  }
