-- A dirty frame is written to its home.
use Rattle.std.specs.Prelude.{◌≡◌, ◌≢◌, ◌⊎◌, ◌<◌, ℕ, true, false, List, Some, slice_get, slice_set, option_map}
use Rattle.std.proofs.Common.{refl, sym, ◌∙◌, ap, inl, inr}
use Rattle.std.proofs.lemmas.Option.{same_Some}
use Rattle.std.proofs.lemmas.Bool.{true≢false}
use Rattle.labelled_disk.specs.declared.label.Label.{Label}
use Rattle.labelled_disk.specs.declared.disk.DiskWrite.TheVariants as write
use Rattle.labelled_disk.specs.Calls.{RevealsSame, RevealsWrite, Moves}
use Rattle.labelled_disk.specs.Label.{names}
use Rattle.labelled_disk.specs.Sectors.{Sector}
use Rattle.labelled_disk.specs.State.{DiskState, NamesThere, HasLabel}
use Rattle.frame_pool.specs.declared.home.Home.{Home}
use Rattle.frame_pool.specs.Frames.{Slots, Frame, Has, IsEmpty, IsPageBytes, clean}
use Rattle.frame_pool.specs.FrameLaws.{has_other, has_below, has_new, same_homes, empties_same, cleaned_is}
use Rattle.frame_pool.specs.ListLaws.{set_own}
use Rattle.swapper_kernel.specs.Homes.{Homes, wanted_at}
use Rattle.swapper_kernel.specs.Stands.{Stands}
use Rattle.swapper_kernel.specs.DiffersLaws.{other_sector}
use Rattle.swapper_kernel.specs.Goes.{Swaps}
use Rattle.swapper_kernel.specs.Steps.{Steps}
use Rattle.swapper_kernel.specs.CourseLaws.{steps_none, steps_out}
use Rattle.swapper_kernel.specs.Halts.{IsOther, held_or}
use Rattle.swapper_kernel.proofs.StepLemmas.{step_laws}

-- A frame of the slots, its home and bytes as the pool gives them.
module _ {old new : DiskState} (s : Slots) (i : ℕ) (home : Home) (page : List ℕ) (f : Frame) (has : Has s i f) (at : f.home ≡ home) (dirty : f.dirty ≡ true) (bytes : page ≡ f.bytes) (fits : IsPageBytes page)
    (inside : 0 < home.sector) (moves : Moves old new) where
  pub swaps_ok : RevealsWrite (write.Page home.sector (wanted_at home) page) old new → NamesThere old home.sector (wanted_at home) true → Swaps old s new (slice_set s i (Some (clean f)))
  swaps_ok reveals named = rw (← cleaned_is s i f has) (step_laws.out old new s i f has dirty (rw at inside) (rw (← bytes) fits) (rw (at, ← bytes) reveals) (rw at named) moves)

  pub swaps_failed : RevealsSame old new ⊎ (RevealsWrite (write.Page home.sector (wanted_at home) page) old new × NamesThere old home.sector (wanted_at home) true) → Swaps old s new s
  swaps_failed (inl same) = step_laws.read old new s same moves
  swaps_failed (inr both) = step_laws.written old new s i f has dirty (rw at inside) (rw (← bytes) fits) (rw (at, ← bytes) both.0) (rw at both.1) moves

  pub steps_ok : {come change : Homes} → RevealsWrite (write.Page home.sector (wanted_at home) page) old new → NamesThere old home.sector (wanted_at home) true → Steps come change old s new (slice_set s i (Some (clean f)))
  steps_ok reveals named = steps_out s _ i f (clean f) (record {
    has = has;
    dirty = dirty;
    home = refl;
    bytes = refl;
    reveals = rw (at, ← bytes) reveals;
    named = rw at named;
    is = refl;
  })

  pub steps_failed : {come change : Homes} → RevealsSame old new ⊎ (RevealsWrite (write.Page home.sector (wanted_at home) page) old new × NamesThere old home.sector (wanted_at home) true) → Steps come change old s new s
  steps_failed (inl same) = steps_none s same
  steps_failed (inr both) = steps_out s s i f f (record {
    has = has;
    dirty = dirty;
    home = refl;
    bytes = refl;
    reveals = rw (at, ← bytes) both.0;
    named = rw at both.1;
    is = sym (set_own s i (Some f) has.is);
  })

-- The label there is another than that of a frame's home.
pub frame_other : (s : Slots) (i : ℕ) (f : Frame) (home : Home) (given : Homes) (disk : DiskState) (found : Label) → Has s i f → f.home ≡ home → names found (wanted_at home) ≡ false
    → HasLabel disk home.sector found → IsOther (held_or s given) disk home.sector (wanted_at home) found
frame_other s i f home given disk found has at other there = record { there = there; other = other; reason = inl (record { slot = i; frame = f; has = has; at = at }) }

-- But not where frames and disk stand for a memory.
pub never_other : {disk : DiskState} (s : Slots) (i : ℕ) (f : Frame) (home : Home) (m : List Sector) (found : Label) → Has s i f → f.home ≡ home → Stands disk s m → names found (wanted_at home) ≡ false
    → HasLabel disk home.sector found → ⊥
never_other s i f home m found has at h other there =
    let kept = h.merged.frames i f has in
    let d = other_sector h.sectors m h.merged.labels f.home.sector (kept.label, f.bytes) kept.keeps in
    let here : Some found ≡ Some d.0.0 = sym (there h.sectors h.revealed) ∙ ap (λ (x : Home). option_map (λ (t : Sector). t.0) (slice_get h.sectors x.sector)) (sym at) ∙ ap (option_map (λ (t : Sector). t.0)) d.1 in
    let label : found ≡ kept.label = same_Some found d.0.0 here ∙ d.2 in
    true≢false (sym kept.named ∙ ap (λ (l : Label). names l (wanted_at f.home)) (sym label) ∙ ap (λ (x : Home). names found (wanted_at x)) at ∙ other)

-- slots of which one frame is clean now
module _ (s after : Slots) (i : ℕ) (f : Frame) (has : Has s i f) (is : after ≡ slice_set s i (Some (clean f))) where
  pub clean_now : (h : Frame) → Has after i h → h.dirty ≡ false
  clean_now h at = sym (ap (λ (x : Frame). x.dirty) (has_new s after i (clean f) h (has_below s i f has) is at))

  pub others_now : (j : ℕ) (h : Frame) → j ≢ i → Has s j h → Has after j h
  others_now j h apart at = rw is (has_other s i j (Some (clean f)) h apart at)

  pub homes_now : (j : ℕ) (h : Frame) → Has after j h → (x : Frame) × Has s j x × (x.home ≡ h.home) × (x.bytes ≡ h.bytes)
  homes_now = same_homes s after i f (clean f) has refl refl is

  pub empties_now : (j : ℕ) → IsEmpty after j → IsEmpty s j
  empties_now = empties_same s after i f (clean f) has is
