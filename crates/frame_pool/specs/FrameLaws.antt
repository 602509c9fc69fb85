-- Slots of which one was replaced.
use Rattle.std.specs.Prelude.{◌≡◌, ◌≢◌, ℕ, ◌<◌, Bool, List, [], ◌∷◌, length, Option, Some, None, IsSome, IfSome, slice_get, slice_set, option_map}
use Rattle.std.proofs.Common.{zero, suc, refl, sym, ◌∙◌, ◌⊎◌, ap, subst, inl, inr, length-set}
use Rattle.std.proofs.lemmas.Bool.{cases_eq}
use Rattle.std.proofs.lemmas.Option.{same_Some, none-some, slice_get-get_or, get_or_from_slice_get}
use Rattle.std.proofs.lemmas.List.{get_or-set_same}
use Rattle.frame_pool.specs.declared.home.Home.{Home}
use Rattle.frame_pool.specs.Frames.{Slots, Frame, Has, IsEmpty, frame_at, shown, clean, cleaned_at, changed, changed_at, IsNowhere, IsWithin, IsOutside, HasDistinct, IsPageBytes, ArePages}
use Rattle.frame_pool.specs.ListLaws.{get_same, get_other, below_of}

-- a slot with a frame is one of the slots
pub has_below : (slots : Slots) (i : ℕ) (f : Frame) → Has slots i f → i < length slots
has_below slots i f has = below_of slots i (Some f) has.is

pub frame_of_has : (slots : Slots) (i : ℕ) (f : Frame) → Has slots i f → frame_at slots i ≡ Some f
frame_of_has slots i f has = get_or_from_slice_get slots i (Some f) None has.is

pub has_of_frame : (slots : Slots) (i : ℕ) (f : Frame) → i < length slots → frame_at slots i ≡ Some f → Has slots i f
has_of_frame slots i f below is = record { is = slice_get-get_or slots i None below ∙ ap (λ (x : Option Frame). Some x) is }

-- a frame after one slot was set is the new one there, or one of elsewhere
pub has_set : (slots : Slots) (i j : ℕ) (x : Option Frame) (g : Frame) → i < length slots → Has (slice_set slots i x) j g → ((j ≡ i) × (x ≡ Some g)) ⊎ ((j ≢ i) × Has slots j g)
has_set slots i j x g below has = elim (cases_eq j i) [
  | inl same ↦ inl (same, same_Some x (Some g) (sym (get_same slots i x below) ∙ ap (slice_get (slice_set slots i x)) (sym same) ∙ has.is))
  | inr other ↦ inr (other, record { is = sym (get_other slots i j x other) ∙ has.is })
]

-- a frame elsewhere stays
pub has_other : (slots : Slots) (i j : ℕ) (x : Option Frame) (g : Frame) → j ≢ i → Has slots j g → Has (slice_set slots i x) j g
has_other slots i j x g other has = record { is = get_other slots i j x other ∙ has.is }

pub distinct_cleared : (slots : Slots) (i : ℕ) → i < length slots → HasDistinct slots → HasDistinct (slice_set slots i None)
distinct_cleared slots i below distinct j k f g hj hk ids pages = elim (has_set slots i j None f below hj) [
  | inl (_, empty) ↦ absurd (none-some f empty)
  | inr (_, jf) ↦ elim (has_set slots i k None g below hk) [ inl (_, empty) ↦ absurd (none-some g empty) | inr (_, kg) ↦ distinct j k f g jf kg ids pages ]
]

-- a frame of a page that is in no other slot
pub distinct_filled : (slots : Slots) (i : ℕ) (h : Frame) → i < length slots → HasDistinct slots → ((j : ℕ) (f : Frame) → j ≢ i → Has slots j f → f.home.id ≡ h.home.id → f.home.page ≡ h.home.page → ⊥) → HasDistinct (slice_set slots i (Some h))
distinct_filled slots i h below distinct alone j k f g hj hk ids pages = elim (has_set slots i j (Some h) f below hj) [
  | inl (at, is) ↦
      let own : h ≡ f = same_Some h f is in
      elim (has_set slots i k (Some h) g below hk) [
        | inl (also, _) ↦ at ∙ sym also
        | inr (apart, kg) ↦ absurd (alone k g apart kg (sym ids ∙ ap (λ (x : Frame). x.home.id) (sym own)) (sym pages ∙ ap (λ (x : Frame). x.home.page) (sym own)))
      ]
  | inr (apart, jf) ↦ elim (has_set slots i k (Some h) g below hk) [
    | inl (also, is) ↦ let own : h ≡ g = same_Some h g is in absurd (alone j f apart jf (ids ∙ ap (λ (x : Frame). x.home.id) (sym own)) (pages ∙ ap (λ (x : Frame). x.home.page) (sym own)))
    | inr (_, kg) ↦ distinct j k f g jf kg ids pages
  ]
]

pub distinct_put : (slots : Slots) (i : ℕ) (h : Frame) → i < length slots → HasDistinct slots → IsNowhere slots h.home.id h.home.page → HasDistinct (slice_set slots i (Some h))
distinct_put slots i h below distinct nowhere = distinct_filled slots i h below distinct (λ j f _ has ids pages. nowhere j f has ids pages)

pub distinct_same : (slots : Slots) (i : ℕ) (f h : Frame) → i < length slots → HasDistinct slots → Has slots i f → h.home ≡ f.home → HasDistinct (slice_set slots i (Some h))
distinct_same slots i f h below distinct has home = distinct_filled slots i h below distinct (λ j g apart at ids pages.
    apart (distinct j i g f at has (ids ∙ ap (λ (x : Home). x.id) home) (pages ∙ ap (λ (x : Home). x.page) home)))

-- what holds of each frame, and of the new one, holds of each
pub each_filled : (P : Frame → Type 0) (s after : Slots) (i : ℕ) (f : Frame) → i < length s → after ≡ slice_set s i (Some f) → ((j : ℕ) (g : Frame) → Has s j g → P g) → P f → (j : ℕ) (g : Frame) → Has after j g → P g
each_filled P s after i f below is each new j g has =
    elim (has_set s i j (Some f) g below (record { is = ap (λ (l : Slots). slice_get l j) (sym is) ∙ has.is })) [
      | inl (_, same) ↦ subst P (same_Some f g same) new
      | inr (_, was) ↦ each j g was
    ]

pub length_of_set : (slots : Slots) (i : ℕ) (x : Option Frame) → length (slice_set slots i x) ≡ length slots
length_of_set slots i x = simp length-set

-- a slot that is emptied and filled is filled
pub set_twice : (slots : Slots) (i : ℕ) (x y : Option Frame) → slice_set (slice_set slots i x) i y ≡ slice_set slots i y
set_twice [] i x y = refl
set_twice (z ∷ slots) zero x y = refl
set_twice (z ∷ slots) (suc i) x y = ap (λ (l : Slots). z ∷ l) (set_twice slots i x y)

-- what is shown of a slot is of a frame that it has
shown_of : (o : Option Frame) (home : Home) (dirty : Bool) → ◌≡◌ {A = Option (Home × Bool)} (Some (home, dirty)) (option_map shown o) → (f : Frame) × (o ≡ Some f) × (f.home ≡ home) × (f.dirty ≡ dirty)
shown_of None home dirty is = absurd (none-some (home, dirty) (sym is))
shown_of (Some f) home dirty is =
    let same = same_Some {A = Home × Bool} (home, dirty) (f.home, f.dirty) is in
    (f, refl, sym (ap (λ (p : Home × Bool). p.0) same), sym (ap (λ (p : Home × Bool). p.1) same))

pub frame_shown : (s : Slots) (i : ℕ) (home : Home) (dirty : Bool) → i < length s → ◌≡◌ {A = Option (Home × Bool)} (Some (home, dirty)) (option_map shown (frame_at s i)) → (f : Frame) × Has s i f × (f.home ≡ home) × (f.dirty ≡ dirty)
frame_shown s i home dirty below is =
    let found = shown_of (frame_at s i) home dirty is in
    (found.0, has_of_frame s i found.0 below found.1, found.2, found.3)

-- nothing is shown of a slot without a frame
pub nothing_shown : (s : Slots) (i : ℕ) → ◌≡◌ {A = Option (Home × Bool)} None (option_map shown (frame_at s i)) → (f : Frame) → Has s i f → ⊥
nothing_shown s i is f has = none-some (f.home, f.dirty) (is ∙ ap (option_map shown) (frame_of_has s i f has))

pub filled_of : (s : Slots) (i : ℕ) (f : Frame) → Has s i f → IsSome (frame_at s i)
filled_of s i f has = rw (frame_of_has s i f has) refl

-- the bytes of a slot are those of the frame that it has
pub bytes_of : (s : Slots) (i : ℕ) (f : Frame) (page : List ℕ) → Has s i f → IfSome (frame_at s i) (λ x. page ≡ x.bytes) → page ≡ f.bytes
bytes_of s i f page has h = rw (frame_of_has s i f has) at h

pub cleaned_is : (s : Slots) (i : ℕ) (f : Frame) → Has s i f → cleaned_at s i ≡ slice_set s i (Some (clean f))
cleaned_is s i f has = ap (λ (o : Option Frame). slice_set s i (option_map clean o)) (frame_of_has s i f has)

pub changed_is : (s : Slots) (i : ℕ) (f : Frame) (at : ℕ) (bytes : List ℕ) → Has s i f → changed_at s i at bytes ≡ slice_set s i (Some (changed f at bytes))
changed_is s i f at bytes has = ap (λ (o : Option Frame). slice_set s i (option_map (λ (x : Frame). changed x at bytes) o)) (frame_of_has s i f has)

-- a slot that was emptied has no frame
pub empty_cleared : (s : Slots) (i : ℕ) → i < length s → frame_at (slice_set s i None) i ≡ None
empty_cleared s i below = get_or-set_same s i None None below

pub nowhere_cleared : (s : Slots) (i id page : ℕ) → i < length s → IsNowhere s id page → IsNowhere (slice_set s i None) id page
nowhere_cleared s i id page below nowhere j f has = elim (has_set s i j None f below has) [ inl (_, empty) ↦ absurd (none-some f empty) | inr (_, was) ↦ nowhere j f was ]

-- what holds of each frame, and of the one that a slot was emptied and filled with, holds of each
pub each_loaded : (P : Frame → Type 0) (s after : Slots) (i : ℕ) (f : Frame) → i < length s → after ≡ slice_set (slice_set s i None) i (Some f) → ((j : ℕ) (g : Frame) → Has s j g → P g) → P f → (j : ℕ) (g : Frame) → Has after j g → P g
each_loaded P s after i f below is each new = each_filled P s after i f below (is ∙ set_twice s i None (Some f)) each new

pub length_loaded : (s after : Slots) (i : ℕ) (f : Frame) → after ≡ slice_set (slice_set s i None) i (Some f) → length after ≡ length s
length_loaded s after i f is = ap (λ (l : Slots). length l) is ∙ length_of_set (slice_set s i None) i (Some f) ∙ length_of_set s i None

-- a frame of the run that is to stay is not in the slot that is given up
pub not_victim : (s : Slots) (i id first pages : ℕ) → IsOutside s i id first pages → (j : ℕ) (g : Frame) → Has s j g → IsWithin id first pages g.home → j ≢ i
not_victim s i id first pages outside j g has within same = outside g (record { is = ap (slice_get s) (sym same) ∙ has.is }) within

-- a page of the run that is to stay does, where a slot outside the run is emptied and filled
pub kept_loaded : (s after : Slots) (i : ℕ) (f : Frame) (id first pages : ℕ) → i < length s → after ≡ slice_set (slice_set s i None) i (Some f) → IsOutside s i id first pages
    → (j : ℕ) (g : Frame) → Has s j g → IsWithin id first pages g.home → Has after j g
kept_loaded s after i f id first pages below is outside j g has within =
    let there = has_other s i j (Some f) g (not_victim s i id first pages outside j g has within) has in
    record { is = ap (λ (l : Slots). slice_get l j) (is ∙ set_twice s i None (Some f)) ∙ there.is }

-- the slot that was set has the new frame
pub has_new : (s after : Slots) (i : ℕ) (g h : Frame) → i < length s → after ≡ slice_set s i (Some g) → Has after i h → g ≡ h
has_new s after i g h below is h_has =
    same_Some g h (same_Some (Some g) (Some h) (sym (get_same s i (Some g) below) ∙ ap (λ (l : Slots). slice_get l i) (sym is) ∙ h_has.is))

-- where a frame was replaced by one with the same home and bytes, each frame has the home and bytes of one that was there
pub same_homes : (s after : Slots) (i : ℕ) (f g : Frame) → Has s i f → g.home ≡ f.home → g.bytes ≡ f.bytes → after ≡ slice_set s i (Some g)
    → (j : ℕ) (h : Frame) → Has after j h → (x : Frame) × Has s j x × (x.home ≡ h.home) × (x.bytes ≡ h.bytes)
same_homes s after i f g has home bytes is j h h_has =
    let h_in : Has (slice_set s i (Some g)) j h = record { is = ap (λ (l : Slots). slice_get l j) (sym is) ∙ h_has.is } in
    elim (has_set s i j (Some g) h (below_of s i (Some f) has.is) h_in) [
      | inl (at, new) ↦
          let own : g ≡ h = same_Some g h new in
          (f, record { is = ap (slice_get s) at ∙ has.is }, sym home ∙ ap (λ (y : Frame). y.home) own, sym bytes ∙ ap (λ (y : Frame). y.bytes) own)
      | inr (_, old) ↦ (h, old, refl, refl)
    ]

-- an empty slot was empty, where a filled one was replaced
pub empties_same : (s after : Slots) (i : ℕ) (f g : Frame) → Has s i f → after ≡ slice_set s i (Some g) → (j : ℕ) → IsEmpty after j → IsEmpty s j
empties_same s after i f g has is j empty = elim (cases_eq j i) [
  | inl same ↦ absurd (none-some g (same_Some None (Some g) (sym empty ∙ ap (λ (l : Slots). slice_get l j) is ∙ ap (slice_get (slice_set s i (Some g))) same ∙ get_same s i (Some g) (below_of s i (Some f) has.is))))
  | inr other ↦ sym (get_other s i j (Some g) other) ∙ ap (λ (l : Slots). slice_get l j) (sym is) ∙ empty
]

-- the bytes of each frame are those of a page, where a slot was set to nothing, or to a frame whose bytes are
pub pages_cleared : (s : Slots) (i : ℕ) → i < length s → ArePages s → ArePages (slice_set s i None)
pages_cleared s i below each j f has = elim (has_set s i j None f below has) [ inl (_, empty) ↦ absurd (none-some f empty) | inr (_, was) ↦ each j f was ]

pub pages_filled : (s : Slots) (i : ℕ) (f : Frame) → i < length s → ArePages s → IsPageBytes f.bytes → ArePages (slice_set s i (Some f))
pages_filled s i f below each new = each_filled (λ g. IsPageBytes g.bytes) s (slice_set s i (Some f)) i f below refl each new
