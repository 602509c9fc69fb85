-- Slots of which those with pages of a run change.
use Rattle.std.specs.Prelude.{◌≡◌, ◌↔◌, IfSome, ◌+◌, ◌-◌, ◌<◌, ◌≤◌, ◌&&◌, ℕ, zero, suc, Bool, true, false, if◌then◌else◌, [], ◌∷◌, length, Option, Some, None, slice_get, slice_set}
use Rattle.std.proofs.Common.{refl, sym, ◌∙◌, ap, arith, inl, inr}
use Rattle.std.proofs.lemmas.Bool.{cases_eq}
use Rattle.std.proofs.lemmas.Bool.Decides.{nat_tests}
use Rattle.std.proofs.lemmas.Option.{same_Some, none-some}
use Rattle.frame_pool.specs.Frames.{Frame, Slots, Has, HasDistinct, HasPage, IsNowhere, IsOutside, IsWithin, is_kept, frame_at, clean, cleaned_at}
use Rattle.frame_pool.specs.FrameLaws.{has_set, has_below, has_of_frame, frame_of_has, cleaned_is, same_homes}
use Rattle.frame_pool.specs.ListLaws.{get_same, get_other}
use Rattle.force_calls.specs.Run.{dirty_within, is_dirty_in, dirty_count, OnlyRun, Stay}

-- the test of a home is what it says
pub within_kept : (id first pages : ℕ) (f : Frame) → IsWithin id first pages f.home → is_kept id first pages (Some f) ≡ true
within_kept id first pages f within =
    let a = within.0 in
    let b = within.1 in
    let c = within.2 in
    grind (arith, nat_tests)

pub kept_within : (id first pages : ℕ) (f : Frame) → is_kept id first pages (Some f) ≡ true → IsWithin id first pages f.home
kept_within id first pages f kept = (grind (arith, nat_tests), grind (arith, nat_tests), grind (arith, nat_tests))

-- what the look at a slot reveals
held_as : (id first pages : ℕ) (o : Option Frame) (b : Bool) → Some b ≡ dirty_within id first pages o → (f : Frame) × (o ≡ Some f) × (f.dirty ≡ b) × (is_kept id first pages (Some f) ≡ true)
held_as id first pages None b is = absurd (none-some b (sym is))
held_as id first pages (Some f) b is = tested (is_kept id first pages (Some f)) refl
  where
    tested : (t : Bool) → is_kept id first pages (Some f) ≡ t → (g : Frame) × (◌≡◌ {A = Option Frame} (Some f) (Some g)) × (g.dirty ≡ b) × (is_kept id first pages (Some g) ≡ true)
    tested true t = (f, refl, sym (same_Some b f.dirty (is ∙ ap (λ (x : Bool). if x then Some f.dirty else None) t)), t)
    tested false t = absurd (none-some b (sym (is ∙ ap (λ (x : Bool). if x then Some f.dirty else None) t)))

pub held_frame : (id first pages : ℕ) (s : Slots) (i : ℕ) (b : Bool) → i < length s → Some b ≡ dirty_within id first pages (frame_at s i) → (f : Frame) × Has s i f × (f.dirty ≡ b) × (is_kept id first pages (Some f) ≡ true)
held_frame id first pages s i b below is =
    let h = held_as id first pages (frame_at s i) b is in
    (h.0, has_of_frame s i h.0 below h.1, h.2, h.3)

-- a slot of which the look reveals nothing has no page of the run
pub none_held : (id first pages : ℕ) (s : Slots) (i : ℕ) → None ≡ dirty_within id first pages (frame_at s i) → IsOutside s i id first pages
none_held id first pages s i is f has within =
    none-some f.dirty (is ∙ ap (dirty_within id first pages) (frame_of_has s i f has) ∙ ap (λ (x : Bool). if x then Some f.dirty else None) (within_kept id first pages f within))

-- one slot's frame is replaced by a frame that doesn't count, or by none
pub count_set : (id first pages : ℕ) (s : Slots) (i : ℕ) (o x : Option Frame) → slice_get s i ≡ Some o → is_dirty_in id first pages x ≡ false
    → ◌≡◌ {A = ℕ} (dirty_count id first pages (slice_set s i x) + (if is_dirty_in id first pages o then 1 else 0)) (dirty_count id first pages s)
count_set id first pages [] i o x here fresh = absurd (none-some o here)
count_set id first pages (y ∷ s) zero o x here fresh =
    let same : y ≡ o = same_Some y o here in
    let a : ◌≡◌ {A = ℕ} (if is_dirty_in id first pages x then 1 else 0) 0 = ap (λ (b : Bool). if b then 1 else 0) fresh in
    let b : ◌≡◌ {A = ℕ} (if is_dirty_in id first pages y then 1 else 0) (if is_dirty_in id first pages o then 1 else 0) = ap (λ (z : Option Frame). if is_dirty_in id first pages z then 1 else 0) same in
    omega (arith, a, b)
count_set id first pages (y ∷ s) (suc i) o x here fresh = let h = count_set id first pages s i o x here fresh in omega (arith, h)

-- Slots that are as they were but for the run.
pub only_run_itself : (id first pages : ℕ) (s : Slots) → OnlyRun id first pages s s
only_run_itself id first pages s = record { others = λ i outside. refl; frames = λ i f has. (f, has, refl, refl) }

pub only_run_then : {id first pages : ℕ} {s t u : Slots} → OnlyRun id first pages s t → OnlyRun id first pages t u → OnlyRun id first pages s u
only_run_then h k = record {
  others = λ i outside.
      let same = h.others i outside in
      k.others i (λ f has. outside f (record { is = sym same ∙ has.is })) ∙ same;
  frames = λ i f has.
      let mid = k.frames i f has in
      let old = h.frames i mid.0 mid.1 in
      (old.0, old.1, old.2 ∙ mid.2, old.3 ∙ mid.3);
}

pub stay_then : {s t u : Slots} → Stay s t → Stay t u → Stay s u
stay_then h k i f has =
    let mid = h i f has in
    let new = k i mid.0 mid.1 in
    (new.0, new.1, new.2 ∙ mid.2, new.3 ∙ mid.3)

-- a frame of the run is clean now
module _ (id first pages : ℕ) (s after : Slots) (i : ℕ) (f : Frame) (has : Has s i f) (kept : is_kept id first pages (Some f) ≡ true) where
  pub cleaned_only : after ≡ cleaned_at s i → OnlyRun id first pages s after
  cleaned_only is = record {
    others = λ j outside. ap (λ (l : Slots). slice_get l j) (is ∙ cleaned_is s i f has) ∙ get_other s i j (Some (clean f)) (λ same. outside f (record { is = ap (slice_get s) same ∙ has.is }) (kept_within id first pages f kept));
    frames = same_homes s after i f (clean f) has refl refl (is ∙ cleaned_is s i f has);
  }

  pub cleaned_stay : after ≡ cleaned_at s i → Stay s after
  cleaned_stay is j g g_has = elim (cases_eq j i) [
    | inl same ↦
        let own : f ≡ g = same_Some f g (same_Some (Some f) (Some g) (sym has.is ∙ ap (slice_get s) (sym same) ∙ g_has.is)) in
        (clean f, record { is = ap (λ (l : Slots). slice_get l j) (is ∙ cleaned_is s i f has) ∙ ap (slice_get (slice_set s i (Some (clean f)))) same ∙ get_same s i (Some (clean f)) (has_below s i f has) }, ap (λ (x : Frame). x.home) own, ap (λ (x : Frame). x.bytes) own)
    | inr other ↦ (g, record { is = ap (λ (l : Slots). slice_get l j) (is ∙ cleaned_is s i f has) ∙ get_other s i j (Some (clean f)) other ∙ g_has.is }, refl, refl)
  ]

  pub cleaned_count : f.dirty ≡ true → after ≡ cleaned_at s i → dirty_count id first pages after + 1 ≡ dirty_count id first pages s
  cleaned_count dirty is =
      let one : ◌≡◌ {A = ℕ} (if is_dirty_in id first pages (Some f) then 1 else 0) 1 = ap (λ (b : Bool). if b && is_kept id first pages (Some f) then 1 else 0) dirty ∙ ap (λ (b : Bool). if b then 1 else 0) kept in
      let counted = count_set id first pages s i (Some f) (Some (clean f)) has.is refl in
      let same : dirty_count id first pages after ≡ dirty_count id first pages (slice_set s i (Some (clean f))) = ap (dirty_count id first pages) (is ∙ cleaned_is s i f has) in
      omega (arith, one, counted, same)

  -- a frame of the run is gone
  pub cleared_only : after ≡ slice_set s i None → OnlyRun id first pages s after
  cleared_only is = record {
    others = λ j outside. ap (λ (l : Slots). slice_get l j) is ∙ get_other s i j None (λ same. outside f (record { is = ap (slice_get s) same ∙ has.is }) (kept_within id first pages f kept));
    frames = λ j g g_has. elim (has_set s i j None g (has_below s i f has) (record { is = ap (λ (l : Slots). slice_get l j) (sym is) ∙ g_has.is })) [
      | inl (_, empty) ↦ absurd (none-some g empty)
      | inr (_, was) ↦ (g, was, refl, refl)
    ];
  }

-- a dirty frame of the run counts
pub dirty_some : (id first pages : ℕ) (s : Slots) (i : ℕ) (f : Frame) → Has s i f → is_kept id first pages (Some f) ≡ true → f.dirty ≡ true → 1 ≤ dirty_count id first pages s
dirty_some id first pages s i f has kept dirty = let fewer = cleaned_count id first pages s (cleaned_at s i) i f has kept dirty refl in omega (arith, fewer)

-- the slot's frame is clean where its one frame is
pub same_frame : (s : Slots) (i : ℕ) (f g : Frame) → Has s i f → Has s i g → f.dirty ≡ false → g.dirty ≡ false
same_frame s i f g has also clean = sym (ap (λ (x : Frame). x.dirty) (same_Some f g (same_Some (Some f) (Some g) (sym has.is ∙ also.is)))) ∙ clean

-- what the look at a slot reveals of a frame of the run
pub revealed_within : (id first pages : ℕ) (s : Slots) (i : ℕ) (f : Frame) → Has s i f → IsWithin id first pages f.home → dirty_within id first pages (frame_at s i) ≡ Some f.dirty
revealed_within id first pages s i f has within =
    ap (dirty_within id first pages) (frame_of_has s i f has) ∙ ap (λ (x : Bool). if x then Some f.dirty else None) (within_kept id first pages f within)

-- a search for the page of this look finds the frame's slot
pub found_look : (id first pages look : ℕ) (s : Slots) (result : Option ℕ) → HasDistinct s → IfSome result (λ slot. HasPage s slot id (first + look)) → (result ≡ None ↔ IsNowhere s id (first + look))
    → (i : ℕ) (f : Frame) → Has s i f → IsWithin id first pages f.home → f.home.page - first ≡ look → result ≡ Some i
found_look id first pages look s (Some slot) distinct found nowhere i f has within looked =
    let page = within.1 in
    let same : found.0.home.page ≡ f.home.page = found.2.1 ∙ omega (arith, page, looked) in
    ap (λ (n : ℕ). Some n) (distinct slot i found.0 f found.1 has (found.2.0 ∙ sym within.0) same)
found_look id first pages look s None distinct found nowhere i f has within looked =
    let page = within.1 in
    absurd (nowhere.0 refl i f has within.0 (omega (arith, page, looked)))
