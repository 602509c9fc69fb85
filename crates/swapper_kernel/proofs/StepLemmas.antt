-- The steps of a swapper.
use Rattle.std.proofs.Common.{◌≡◌, inl, inr, ℕ, zero, suc, ◌<◌, true, false, List, [], ◌∷◌, length, Option, Some, None, refl, sym, ◌∙◌, ap, subst, length-set}
use Rattle.std.specs.Prelude.{slice_get, slice_set, option_map}
use Rattle.std.proofs.lemmas.Option.{same_Some, none-some}
use Rattle.std.proofs.lemmas.Bool.{true≢false}
use Rattle.labelled_disk.specs.declared.label.Label.{Label}
use Rattle.labelled_disk.specs.declared.label.Wanted.{Wanted}
use Rattle.labelled_disk.specs.declared.disk.DiskWrite.{DiskWrite}
use Rattle.labelled_disk.specs.declared.disk.DiskWrite.TheVariants as write
use Rattle.labelled_disk.specs.Label.{names}
use Rattle.labelled_disk.specs.Sectors.{Sector}
use Rattle.labelled_disk.specs.State.{DiskState, Holds, NamesThere}
use Rattle.labelled_disk.specs.Calls.{RevealsSame, RevealsWrite, Moves}
use Rattle.labelled_disk.specs.CrashState.{written, crash_state}
use Rattle.labelled_disk.specs.Permitted.{Permitted, IsPageWrite}
use Rattle.labelled_disk.specs.Runs.{IsWriteInForm}
use Rattle.labelled_disk.proofs.WriteRunLemmas.{appended_one}
use Rattle.frame_pool.specs.declared.home.Home.{Home}
use Rattle.frame_pool.specs.Frames.{Frame, Slots, Has, IsNowhere, frame_at, new_frame, clean, cleaned_at}
use Rattle.frame_pool.specs.FrameLaws.{has_below, has_set, frame_of_has}
use Rattle.swapper_kernel.specs.Homes.{wanted_at}
use Rattle.swapper_kernel.specs.Stands.{Stands}
use Rattle.swapper_kernel.specs.Goes.{IsDirty, Went, Wrote, no_page, Swaps}
use Rattle.swapper_kernel.specs.GoesLaws.{same_syncs, went_itself, wrote_none}
use Rattle.swapper_kernel.specs.StepLaws.{StepLaws}
use Rattle.swapper_kernel.proofs.MoveLemmas.{move_laws, written_there}
use Rattle.swapper_kernel.proofs.BesideLemmas.{label_written, beside_frames}

pub went_by : {a b : DiskState} → Moves a b → Went a b
went_by {a = a} {b = b} m = record { sectors = m.sectors; lent = m.lent; syncs = same_syncs a b m.syncs; faults = m.faults; transfers = m.transfers.later }

pub stands_revealed : {old new : DiskState} {slots : Slots} {m : List Sector} → new.contents ≡ old.contents → Stands old slots m → Stands new slots m
stands_revealed same h = record { sectors = h.sectors; revealed = same ∙ h.revealed; merged = h.merged }

step_read : (old new : DiskState) (slots : Slots) → RevealsSame old new → Moves old new → Swaps old slots new slots
step_read old new slots same moves = record {
  makes = record {
    went = went_by moves;
    dirty = λ id page d. inl d;
    wrote = wrote_none no_page slots same;
    count = refl;
  };
  memory = λ m stands. (m, stands_revealed same.contents stands, refl);
}

module _ (old new : DiskState) (slots : Slots) (i : ℕ) (f : Frame) (has : Has slots i f) (dirty : f.dirty ≡ true) (some : 0 < f.home.sector) (form : IsWriteInForm (write.Page f.home.sector (wanted_at f.home) f.bytes))
    (made : RevealsWrite (write.Page f.home.sector (wanted_at f.home) f.bytes) old new) (named : NamesThere old f.home.sector (wanted_at f.home) true) (moves : Moves old new) where
  named_sector : (o : Option Sector) (w : Wanted) → option_map (λ s. names s.0 w) o ≡ Some true → (s : Sector) × (o ≡ Some s) × (names s.0 w ≡ true)
  named_sector None w e = absurd (none-some true e)
  named_sector (Some s) w e = (s, refl, same_Some (names s.0 w) true e)

  wrote_page : Wrote no_page [] old slots new
  wrote_page = record {
    writes = write.Page f.home.sector (wanted_at f.home) f.bytes ∷ [];
    appended = appended_one (write.Page f.home.sector (wanted_at f.home) f.bytes) made;
    form = λ k w at. one k w at (IsWriteInForm) form;
    permitted = λ d k w revealed at. law d k w revealed at;
    labels = refl;
    of_dirty = λ k sector wanted bytes at. inl (of k sector wanted bytes at);
  }
    where
      one : (k : ℕ) (w : DiskWrite) → slice_get (write.Page f.home.sector (wanted_at f.home) f.bytes ∷ []) k ≡ Some w → (P : DiskWrite → Type 0) → P (write.Page f.home.sector (wanted_at f.home) f.bytes) → P w
      one zero w at P h = subst P (same_Some (write.Page f.home.sector (wanted_at f.home) f.bytes) w at) h
      one (suc k) w at P h = absurd (none-some w at)

      law : (d : List Sector) (k : ℕ) (w : DiskWrite) → old.contents ≡ Some d → slice_get (write.Page f.home.sector (wanted_at f.home) f.bytes ∷ []) k ≡ Some w
          → Permitted (crash_state d (write.Page f.home.sector (wanted_at f.home) f.bytes ∷ []) k) w
      law d zero w revealed at =
          let s = named_sector (slice_get d f.home.sector) (wanted_at f.home) (named d revealed) in
          let permitted : IsPageWrite d f.home.sector (wanted_at f.home) = record { not_root = some; old = s } in
          subst (Permitted d) (same_Some (write.Page f.home.sector (wanted_at f.home) f.bytes) w at) permitted
      law d (suc k) w revealed at = absurd (none-some w at)

      wanted_of : DiskWrite → Wanted
      wanted_of (write.Whole sector label bytes) = record { id = 0; page = 0 }
      wanted_of (write.LabelOnly sector label) = record { id = 0; page = 0 }
      wanted_of (write.Page sector wanted bytes) = wanted

      of : (k sector : ℕ) (wanted : Wanted) (bytes : List ℕ) → slice_get (write.Page f.home.sector (wanted_at f.home) f.bytes ∷ []) k ≡ Some (write.Page sector wanted bytes) → IsDirty slots wanted.id wanted.page
      of zero sector wanted bytes at =
          let same : wanted_at f.home ≡ wanted = ap wanted_of (same_Some (write.Page f.home.sector (wanted_at f.home) f.bytes) (write.Page sector wanted bytes) at) in
          record { slot = i; frame = f; has = has; dirty = dirty; same_id = ap (λ (w : Wanted). w.id) same; same_page = ap (λ (w : Wanted). w.page) same }
      of (suc k) sector wanted bytes at = absurd (none-some (write.Page sector wanted bytes) at)

  stands_written : (m : List Sector) → Stands old slots m → Stands new slots m
  stands_written m h = record {
    sectors = written (write.Page f.home.sector (wanted_at f.home) f.bytes) h.sectors;
    revealed = made.contents ∙ ap (option_map (written (write.Page f.home.sector (wanted_at f.home) f.bytes))) h.revealed;
    merged = (move_laws h.sectors slots m).written_out i f has h.merged;
  }

  step_written : Swaps old slots new slots
  step_written = record {
    makes = record {
      went = went_by moves;
      dirty = λ id page d. inl d;
      wrote = wrote_page;
      count = refl;
    };
    memory = λ m h. (m, stands_written m h, refl);
  }

  step_out : Swaps old slots new (cleaned_at slots i)
  step_out = record {
    makes = record {
      went = went_by moves;
      dirty = λ id page d.
          let now : Has (slice_set slots i (Some (clean f))) d.slot d.frame = record { is = ap (λ (l : Slots). slice_get l d.slot) (sym is) ∙ d.has.is } in
          elim (has_set slots i d.slot (Some (clean f)) d.frame (has_below slots i f has) now) [
            | inl (_, own) ↦ absurd (true≢false (sym d.dirty ∙ ap (λ (g : Frame). g.dirty) (sym (same_Some (clean f) d.frame own))))
            | inr (_, was) ↦ inl (record { slot = d.slot; frame = d.frame; has = was; dirty = d.dirty; same_id = d.same_id; same_page = d.same_page })
          ];
      wrote = wrote_page;
      count = ap (λ (l : Slots). length l) is ∙ length-set slots i (Some (clean f));
    };
    memory = λ m h. (
      m,
      record {
        sectors = written (write.Page f.home.sector (wanted_at f.home) f.bytes) h.sectors;
        revealed = made.contents ∙ ap (option_map (written (write.Page f.home.sector (wanted_at f.home) f.bytes))) h.revealed;
        merged = (move_laws (written (write.Page f.home.sector (wanted_at f.home) f.bytes) h.sectors) slots m).cleaned i f has (written_there h.sectors slots m h.merged i f has)
            ((move_laws h.sectors slots m).written_out i f has h.merged);
      },
      refl,
    );
  }
    where
      is : cleaned_at slots i ≡ slice_set slots i (Some (clean f))
      is = ap (λ (o : Option Frame). slice_set slots i (option_map clean o)) (frame_of_has slots i f has)

step_cleared : (disk : DiskState) (slots : Slots) (i : ℕ) → i < length slots → ((f : Frame) → Has slots i f → f.dirty ≡ false) → Swaps disk slots disk (slice_set slots i None)
step_cleared disk slots i below none = record {
  makes = record {
    went = went_itself disk;
    dirty = λ id page d. elim (has_set slots i d.slot None d.frame below d.has) [
      | inl (_, empty) ↦ absurd (none-some d.frame empty)
      | inr (_, was) ↦ inl (record { slot = d.slot; frame = d.frame; has = was; dirty = d.dirty; same_id = d.same_id; same_page = d.same_page })
    ];
    wrote = wrote_none no_page slots (record { contents = refl; writes = refl });
    count = length-set slots i None;
  };
  memory = λ m h. (m, record { sectors = h.sectors; revealed = h.revealed; merged = (move_laws h.sectors slots m).cleared i below none h.merged }, refl);
}

step_put : (disk : DiskState) (slots : Slots) (i : ℕ) (home : Home) (label : Label) (bytes : List ℕ) → i < length slots → frame_at slots i ≡ None → IsNowhere slots home.id home.page
    → Holds disk home.sector (label, bytes) → names label (record { id = home.id; page = home.page }) ≡ true → Swaps disk slots disk (slice_set slots i (Some (new_frame home bytes)))
step_put disk slots i home label bytes below empty nowhere holds named = record {
  makes = record {
    went = went_itself disk;
    dirty = λ id page d. elim (has_set slots i d.slot (Some (new_frame home bytes)) d.frame below d.has) [
      | inl (_, own) ↦ absurd (true≢false (sym d.dirty ∙ ap (λ (g : Frame). g.dirty) (sym (same_Some (new_frame home bytes) d.frame own))))
      | inr (_, was) ↦ inl (record { slot = d.slot; frame = d.frame; has = was; dirty = d.dirty; same_id = d.same_id; same_page = d.same_page })
    ];
    wrote = wrote_none no_page slots (record { contents = refl; writes = refl });
    count = length-set slots i (Some (new_frame home bytes));
  };
  memory = λ m h. (
    m,
    record {
      sectors = h.sectors;
      revealed = h.revealed;
      merged = (move_laws h.sectors slots m).put i home label bytes below empty nowhere (holds h.sectors h.revealed) named h.merged;
    },
    refl,
  );
}

pub step_laws : StepLaws
step_laws = record { read = step_read; written = step_written; out = step_out; cleared = step_cleared; put = step_put; label_written = label_written; beside_frames = beside_frames }
