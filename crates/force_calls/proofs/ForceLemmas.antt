-- One look after the other, each of which writes out what it finds dirty.
use Rattle.std.specs.Prelude.{◌≡◌, ◌≢◌, ◌⊎◌, ◌+◌, ◌<◌, ◌≤◌, ℕ, Bool, true, false, Option, Some, slice_get}
use Rattle.std.proofs.Common.{refl, sym, ◌∙◌, ap, subst, arith, inl, inr}
use Rattle.std.proofs.lemmas.Bool.{cases_eq, false≢true, false_from_ne_true}
use Rattle.std.proofs.lemmas.Option.{same_Some}
use Rattle.labelled_disk.specs.declared.layout.Layout.{Layout}
use Rattle.labelled_disk.specs.State.{DiskState}
use Rattle.frame_pool.specs.Frames.{Frame, Slots, Has, IsWithin, is_kept, clean, cleaned_at}
use Rattle.frame_pool.specs.FrameLaws.{has_set, has_below, cleaned_is}
use Rattle.swapper_kernel.specs.Goes.{Swaps}
use Rattle.swapper_kernel.specs.GoesLaws.{swaps_itself, swaps_then}
use Rattle.swapper_kernel.specs.Homes.{no_home}
use Rattle.swapper_kernel.specs.Steps.{Steps}
use Rattle.swapper_kernel.specs.CourseLaws.{steps_itself, steps_then}
use Rattle.force_calls.specs.declared.marks.Marks.{Marks}
use Rattle.force_calls.specs.Run.{dirty_count, look_at, Stay}
use Rattle.force_calls.specs.Forces.{Forces, is_marked, MarksDirty}
use Rattle.force_calls.proofs.RunLemmas.{within_kept, only_run_itself, only_run_then, stay_then, cleaned_only, cleaned_stay, cleaned_count, dirty_some}

-- nothing was written
pub forces_itself : (id first pages : ℕ) (a : DiskState) (s : Slots) → Forces id first pages a s a s
forces_itself id first pages a s = record {
  stay = λ i f has. (f, has, refl, refl);
  run = only_run_itself id first pages s;
  swaps = swaps_itself a s;
  steps = steps_itself no_home no_home a s;
  cost = omega arith;
}

-- A look was made: what it finds of the run is clean, and what is dirty was so before.
pub record IsLooked (by_page : Bool) (id first pages look : ℕ) (old : DiskState) (before : Slots) (new : DiskState) (after : Slots) : Type 0 where
  pub here : (i : ℕ) (f : Frame) → Has after i f → IsWithin id first pages f.home → look_at by_page first i f.home ≡ look → f.dirty ≡ false
  pub left : (i : ℕ) (f : Frame) → Has after i f → f.dirty ≡ true → Has before i f
  pub cost : new.transfers + dirty_count id first pages after ≤ old.transfers + dirty_count id first pages before

-- the dirty frame of this slot, of the run, was handed to the disk
module _ (id first pages : ℕ) (b c : DiskState) (t u : Slots) (k : ℕ) (f : Frame) (has : Has t k f) (kept : is_kept id first pages (Some f) ≡ true) (dirty : f.dirty ≡ true) (one : c.transfers ≤ b.transfers + 1) where
  -- and is clean now
  pub forces_written : Swaps b t c u → Steps no_home no_home b t c u → u ≡ cleaned_at t k → Forces id first pages b t c u
  forces_written swaps steps is = record {
    stay = cleaned_stay id first pages t u k f has kept is;
    run = cleaned_only id first pages t u k f has kept is;
    swaps = swaps;
    steps = steps;
    cost = let some = dirty_some id first pages t k f has kept dirty in omega (arith, some, one);
  }

  stood : u ≡ cleaned_at t k → (i : ℕ) (g : Frame) → Has u i g → ((i ≡ k) × (◌≡◌ {A = Option Frame} (Some (clean f)) (Some g))) ⊎ ((i ≢ k) × Has t i g)
  stood is i g g_has = has_set t k i (Some (clean f)) g (has_below t k f has) (record { is = ap (λ (l : Slots). slice_get l i) (sym (is ∙ cleaned_is t k f has)) ∙ g_has.is })

  pub looked_written : (by_page : Bool) (look : ℕ) → u ≡ cleaned_at t k → ((i : ℕ) (g : Frame) → Has t i g → IsWithin id first pages g.home → look_at by_page first i g.home ≡ look → g.dirty ≡ true → i ≡ k)
      → IsLooked by_page id first pages look b t c u
  looked_written by_page look is only = record {
    here = λ i g g_has within at. elim (stood is i g g_has) [
      | inl (_, new) ↦ sym (ap (λ (x : Frame). x.dirty) (same_Some (clean f) g new))
      | inr (other, was) ↦ false_from_ne_true g.dirty (λ still. other (only i g was within at still))
    ];
    left = λ i g g_has still. elim (stood is i g g_has) [
      | inl (_, new) ↦ absurd (false≢true (ap (λ (x : Frame). x.dirty) (same_Some (clean f) g new) ∙ still))
      | inr (_, was) ↦ was
    ];
    cost = let fewer = cleaned_count id first pages t u k f has kept dirty is in omega (arith, fewer, one);
  }

  -- or the disk failed
  pub forces_failed : Swaps b t c u → Steps no_home no_home b t c u → u ≡ t → Forces id first pages b t c u
  forces_failed swaps steps same = record {
    stay = subst (λ (s : Slots). Stay t s) (sym same) (λ i g g_has. (g, g_has, refl, refl));
    run = rw same (only_run_itself id first pages t);
    swaps = swaps;
    steps = steps;
    cost = let some = dirty_some id first pages t k f has kept dirty in omega (arith, some, one);
  }

-- The first k looks were made, or may be left out: what they find of the run is clean.
pub record IsForcing (by_page : Bool) (id first pages : ℕ) (a : DiskState) (s : Slots) (place : Layout) (b : DiskState) (t : Slots) (later : Layout) (k : ℕ) : Type 0 where
  pub forces : Forces id first pages a s b t
  pub past : (i : ℕ) (f : Frame) → look_at by_page first i f.home < k → Has t i f → IsWithin id first pages f.home → f.dirty ≡ false
  pub left : (i : ℕ) (f : Frame) → Has t i f → f.dirty ≡ true → Has s i f
  pub same_place : later ≡ place
  pub size : b.sectors ≡ later.sectors
  pub cost : b.transfers + dirty_count id first pages t ≤ a.transfers + dirty_count id first pages s

pub forcing_none : (by_page : Bool) (id first pages : ℕ) (a : DiskState) (s : Slots) (place : Layout) → a.sectors ≡ place.sectors → IsForcing by_page id first pages a s place a s place 0
forcing_none by_page id first pages a s place size = record {
  forces = forces_itself id first pages a s;
  past = λ i f below has within. absurd (omega (arith, below));
  left = λ i f has dirty. has;
  same_place = refl;
  size = size;
  cost = omega arith;
}

-- nothing dirty is found by the look
pub forcing_on : {by_page : Bool} {id first pages : ℕ} {a : DiskState} {s : Slots} {place : Layout} {b : DiskState} {t : Slots} {later : Layout} {k : ℕ}
    → IsForcing by_page id first pages a s place b t later k → ((i : ℕ) (f : Frame) → Has t i f → IsWithin id first pages f.home → look_at by_page first i f.home ≡ k → f.dirty ≡ false)
    → IsForcing by_page id first pages a s place b t later (k + 1)
forcing_on {by_page = by_page} {first = first} {k = k} h here = record {
  forces = h.forces;
  past = λ i f below has within. elim (cases_eq (look_at by_page first i f.home) k) [
    | inl same ↦ here i f has within same
    | inr other ↦ h.past i f (omega (arith, below, other)) has within
  ];
  left = h.left;
  same_place = h.same_place;
  size = h.size;
  cost = h.cost;
}

-- one thing more was done
pub forces_later : {by_page : Bool} {id first pages : ℕ} {a : DiskState} {s : Slots} {place : Layout} {b : DiskState} {t : Slots} {later : Layout} {k : ℕ}
    → IsForcing by_page id first pages a s place b t later k → {c : DiskState} {u : Slots} → Forces id first pages b t c u → Forces id first pages a s c u
forces_later h n = record {
  stay = stay_then h.forces.stay n.stay;
  run = only_run_then h.forces.run n.run;
  swaps = swaps_then h.forces.swaps n.swaps;
  steps = steps_then h.forces.steps n.steps;
  cost = omega (arith, h.cost, n.cost);
}

-- the look was made
pub forcing_more : {by_page : Bool} {id first pages : ℕ} {a : DiskState} {s : Slots} {place : Layout} {b : DiskState} {t : Slots} {later : Layout} {k : ℕ}
    → IsForcing by_page id first pages a s place b t later k → {c : DiskState} {u : Slots} (last : Layout) → Forces id first pages b t c u → IsLooked by_page id first pages k b t c u → last ≡ later
    → IsForcing by_page id first pages a s place c u last (k + 1)
forcing_more {by_page = by_page} {first = first} {k = k} h last n look layout = record {
  forces = forces_later h n;
  past = λ i f below has within. elim (cases_eq (look_at by_page first i f.home) k) [
    | inl same ↦ look.here i f has within same
    | inr other ↦ false_from_ne_true f.dirty (λ dirty. false≢true (sym (h.past i f (omega (arith, below, other)) (look.left i f has dirty) within) ∙ dirty))
  ];
  left = λ i f has dirty. h.left i f (look.left i f has dirty) dirty;
  same_place = layout ∙ h.same_place;
  size = cc (n.swaps.makes.went.sectors, h.size, layout);
  cost = omega (arith, h.cost, look.cost);
}

-- The look found this dirty frame, which was handed to the disk: it is clean now, or the disk failed.
module _ {by_page : Bool} {id first pages : ℕ} {a : DiskState} {s : Slots} {place : Layout} {b : DiskState} {t : Slots} {later : Layout} {k : ℕ} (h : IsForcing by_page id first pages a s place b t later k)
    (slot : ℕ) (f : Frame) (has : Has t slot f) (dirty : f.dirty ≡ true) (within : IsWithin id first pages f.home) {c : DiskState} {u : Slots} (one : c.transfers ≤ b.transfers + 1) (swaps : Swaps b t c u) (steps : Steps no_home no_home b t c u) where
  pub forcing_written : (last : Layout) → u ≡ cleaned_at t slot → last ≡ later
      → ((i : ℕ) (g : Frame) → Has t i g → IsWithin id first pages g.home → look_at by_page first i g.home ≡ k → g.dirty ≡ true → i ≡ slot)
      → IsForcing by_page id first pages a s place c u last (k + 1)
  forcing_written last is layout only =
      let kept = within_kept id first pages f within in
      forcing_more h last (forces_written id first pages b c t u slot f has kept dirty one swaps steps is) (looked_written id first pages b c t u slot f has kept dirty one by_page k is only) layout

  pub forcing_failed : u ≡ t → Forces id first pages a s c u
  forcing_failed same = forces_later h (forces_failed id first pages b c t u slot f has (within_kept id first pages f within) dirty one swaps steps same)

-- A page without a mark is clean, whatever was written since the marks were set.
pub unmarked_clean : (id first pages : ℕ) (s t : Slots) (marks : Marks) (place : ℕ) → MarksDirty id first pages s marks → ((i : ℕ) (f : Frame) → Has t i f → f.dirty ≡ true → Has s i f) → is_marked marks place ≡ false
    → (i : ℕ) (f : Frame) → Has t i f → IsWithin id first pages f.home → look_at true first i f.home ≡ place → f.dirty ≡ false
unmarked_clean id first pages s t marks place marked left none i f has within at =
    false_from_ne_true f.dirty (λ dirty. false≢true (sym none ∙ ap (is_marked marks) (sym at) ∙ marked i f (left i f has dirty) within dirty))
