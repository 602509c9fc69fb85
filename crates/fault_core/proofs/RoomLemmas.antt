-- While a slot is empty no page leaves the frames.
use Rattle.std.proofs.Common.{◌≡◌, ◌≢◌, ◌⊎◌, inl, inr, ℕ, ◌<◌, ◌≤◌, List, [], ◌∷◌, length, Option, Some, refl, sym, ◌∙◌, ap, subst, arith}
use Rattle.std.specs.Prelude.{get_or, slice_get, slice_set, None}
use Rattle.std.proofs.lemmas.Bool.{cases_eq}
use Rattle.std.proofs.lemmas.Option.{same_Some, none-some, slice_get_cases}
use Rattle.labelled_disk.specs.State.{DiskState}
use Rattle.frame_pool.specs.declared.home.Home.{Home}
use Rattle.frame_pool.specs.Frames.{Frame, Slots, Has, IsEmpty}
use Rattle.frame_pool.specs.FrameLaws.{has_below}
use Rattle.frame_pool.specs.ListLaws.{below_of, get_same, get_other}
use Rattle.swapper_kernel.specs.Homes.{Homes}
use Rattle.swapper_kernel.specs.Steps.{Step, Steps, IsStep, IsCourse, fills, writes_out, alters}
use Rattle.fault_core.specs.Unit.{KeepsResident}
use Rattle.fault_core.specs.Room.{KeepsSlots, KeepsWhileEmpty}

pub room_itself : (s : Slots) → KeepsWhileEmpty s s
room_itself s = record { empty = λ slot empty. empty; resident = λ slot empty id page there. there }

pub room_same : (s t : Slots) → t ≡ s → KeepsWhileEmpty s t
room_same s t same = subst (KeepsWhileEmpty s) (sym same) (room_itself s)

pub room_then : {s t u : Slots} → KeepsWhileEmpty s t → KeepsWhileEmpty t u → KeepsWhileEmpty s u
room_then h k = record {
  empty = λ slot empty. h.empty slot (k.empty slot empty);
  resident = λ slot empty id page there. k.resident slot empty id page (h.resident slot (k.empty slot empty) id page there);
}

-- the frame of a slot is another than none
filled_not : (s : Slots) (i : ℕ) (f : Frame) → slice_get s i ≡ Some (Some f) → IsEmpty s i → ⊥
filled_not s i f there empty = none-some f (same_Some None (Some f) (sym empty ∙ there))

-- one slot is filled: what it had keeps its page, or no slot was empty
put_room : (s t : Slots) (i : ℕ) (x : Frame) → i < length s → t ≡ slice_set s i (Some x) → ((f : Frame) → Has s i f → (x.home ≡ f.home) ⊎ ((j : ℕ) → IsEmpty s j → ⊥)) → KeepsWhileEmpty s t
put_room s t i x below is here = record { empty = was_empty; resident = stays }
  where
    now : slice_get t i ≡ Some (Some x)
    now = ap (λ (l : Slots). slice_get l i) is ∙ get_same s i (Some x) below

    elsewhere : (j : ℕ) → j ≢ i → slice_get t j ≡ slice_get s j
    elsewhere j other = ap (λ (l : Slots). slice_get l j) is ∙ get_other s i j (Some x) other

    was_empty : (j : ℕ) → IsEmpty t j → IsEmpty s j
    was_empty j empty = elim (cases_eq j i) [
      | inl same ↦ absurd (filled_not t i x now (subst (λ (k : ℕ). IsEmpty t k) same empty))
      | inr other ↦ sym (elsewhere j other) ∙ empty
    ]

    stays : (slot : ℕ) → IsEmpty t slot → KeepsResident s t
    stays slot empty id page (j, (f, has, of)) = elim (cases_eq j i) [
      | inl same ↦ elim (here f (record { is = ap (slice_get s) (sym same) ∙ has.is })) [
        | inl home ↦ (i, (x, record { is = now }, (ap (λ (h : Home). h.id) home ∙ of.0, ap (λ (h : Home). h.page) home ∙ of.1)))
        | inr full ↦ absurd (full slot (was_empty slot empty))
      ]
      | inr other ↦ (j, (f, record { is = elsewhere j other ∙ has.is }, of))
    ]

one_there : (s : Slots) (i : ℕ) (f g : Frame) → Has s i f → Has s i g → f ≡ g
one_there s i f g first last = same_Some f g (same_Some (Some f) (Some g) (sym first.is ∙ last.is))

module _ (come change : Homes) where
  step_room : (k : Step) (a : DiskState) (s : Slots) (b : DiskState) (t : Slots) → IsStep come change k a s b t → KeepsWhileEmpty s t
  step_room (fills i f) a s b t h = put_room s t i f h.below h.is (λ g has. inr (h.leaves g has).1)
  step_room (writes_out i f g) a s b t h = put_room s t i g (has_below s i f h.has) h.is (λ x has. inl (h.home ∙ ap (λ (y : Frame). y.home) (one_there s i f x h.has has)))
  step_room (alters i f g) a s b t h = put_room s t i g (has_below s i f h.has) h.is (λ x has. inl (h.home ∙ ap (λ (y : Frame). y.home) (one_there s i f x h.has has)))

  course_room : (ks : List Step) (a : DiskState) (s : Slots) (b : DiskState) (t : Slots) → IsCourse come change ks a s b t → KeepsWhileEmpty s t
  course_room [] a s b t h = room_same s t h.1
  course_room (k ∷ ks) a s b t (m, u, first, rest) = room_then (step_room k a s m u first) (course_room ks m u b t rest)

-- whatever steps a call takes
pub steps_room : {come change : Homes} {a b : DiskState} {s t : Slots} → Steps come change a s b t → KeepsWhileEmpty s t
steps_room {come = come} {change = change} {a = a} {b = b} {s = s} {t = t} h = course_room come change h.steps a s b t h.course

-- pages that all stay in their slots
pub keeps_room : (s t : Slots) → KeepsSlots s t → length t ≡ length s → KeepsWhileEmpty s t
keeps_room s t keeps same = record {
  empty = λ i none. by i none (slice_get_cases s i).1;
  resident = λ slot none id page there. (there.0, keeps there.0 id page there.1);
}
  where
    by : (i : ℕ) → IsEmpty t i → ((x : Option Frame) × (i < length s) × (slice_get s i ≡ Some x) × (get_or s i x ≡ x)) ⊎ ((length s ≤ i) × (slice_get s i ≡ None)) → IsEmpty s i
    by i none (inl (None, below, here, own)) = here
    by i none (inl (Some f, below, here, own)) = let after = keeps i f.home.id f.home.page (f, record { is = here }, (refl, refl)) in absurd (filled_not t i after.0 after.1.is none)
    by i none (inr (past, end)) = let below = below_of t i None none in absurd (omega (arith, below, past, same))
