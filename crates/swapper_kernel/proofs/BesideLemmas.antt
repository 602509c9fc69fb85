-- Sectors under no frame that get a label.
use Rattle.std.proofs.Common.{◌≡◌, ◌≢◌, inl, inr, ℕ, zero, suc, true, false, not, List, [], ◌∷◌, Option, Some, None, refl, sym, ◌∙◌, ap, subst}
use Rattle.std.specs.Prelude.{slice_get, slice_set, option_map, filter}
use Rattle.std.specs.Option.{option_map_or}
use Rattle.std.proofs.lemmas.Option.{same_Some, none-some}
use Rattle.std.proofs.lemmas.Bool.{true≢false}
use Rattle.labelled_disk.specs.declared.disk.DiskWrite.{DiskWrite}
use Rattle.labelled_disk.specs.declared.disk.DiskWrite.TheVariants as write
use Rattle.labelled_disk.specs.Sectors.{Sector}
use Rattle.labelled_disk.specs.State.{DiskState}
use Rattle.labelled_disk.specs.Calls.{RevealsWrite, Moves}
use Rattle.labelled_disk.specs.CrashState.{written, crash_state}
use Rattle.labelled_disk.specs.Permitted.{Permitted}
use Rattle.labelled_disk.specs.Runs.{IsWriteInForm}
use Rattle.labelled_disk.proofs.WriteRunLemmas.{appended_one}
use Rattle.frame_pool.specs.Frames.{Frame, Slots, Has}
use Rattle.swapper_kernel.specs.Stands.{IsMerged}
use Rattle.swapper_kernel.specs.GoesLaws.{same_syncs}
use Rattle.swapper_kernel.specs.Goes.{Goes, Makes, Wrote, no_page, is_page_write}
use Rattle.swapper_kernel.specs.StepLaws.{IsLabelled}
use Rattle.swapper_kernel.proofs.MoveLemmas.{move_laws}

is_alone : (w : DiskWrite) (k : ℕ) → IsLabelled w k → filter (λ x. not (is_page_write x)) (w ∷ []) ≡ w ∷ []
is_alone (write.Whole sector label page) k is = refl
is_alone (write.LabelOnly sector label) k is = refl
is_alone (write.Page sector wanted page) k is = absurd is

no_page_write : (w : DiskWrite) (k : ℕ) → IsLabelled w k → is_page_write w ≡ false
no_page_write (write.Whole sector label page) k is = refl
no_page_write (write.LabelOnly sector label) k is = refl
no_page_write (write.Page sector wanted page) k is = absurd is

merged_labelled : (w : DiskWrite) (k : ℕ) (sectors : List Sector) (slots : Slots) (m : List Sector) (s : Sector) → IsLabelled w k → slice_get sectors k ≡ Some s
    → ((i : ℕ) (f : Frame) → Has slots i f → f.home.sector ≢ k) → IsMerged sectors slots m → IsMerged (written w sectors) slots (written w m)
merged_labelled (write.Whole sector label page) k sectors slots m s is was free h =
    (move_laws sectors slots m).relabelled sector s (label, page) (ap (slice_get sectors) is ∙ was) (λ i f has at. free i f has (at ∙ is)) h
merged_labelled (write.LabelOnly sector label) k sectors slots m s is was free h =
    let here : slice_get sectors sector ≡ Some s = ap (slice_get sectors) is ∙ was in
    let also : slice_get m sector ≡ Some s = h.clean sector (λ i f has dirty at. free i f has (at ∙ is)) ∙ here in
    let at_disk : written (write.LabelOnly sector label) sectors ≡ slice_set sectors sector (label, s.1) = ap (λ (o : Option Sector). option_map_or (λ (old : Sector). slice_set sectors sector (label, old.1)) o sectors) here in
    let at_memory : written (write.LabelOnly sector label) m ≡ slice_set m sector (label, s.1) = ap (λ (o : Option Sector). option_map_or (λ (old : Sector). slice_set m sector (label, old.1)) o m) also in
    rw (at_disk, at_memory) ((move_laws sectors slots m).relabelled sector s (label, s.1) here (λ i f has at. free i f has (at ∙ is)) h)
merged_labelled (write.Page sector wanted page) k sectors slots m s is was free h = absurd is

module _ (old new : DiskState) (slots : Slots) (w : DiskWrite) (sector : ℕ) (is : IsLabelled w sector) (form : IsWriteInForm w) (made : RevealsWrite w old new) (moves : Moves old new) where
  one : (k : ℕ) (x : DiskWrite) → slice_get (w ∷ []) k ≡ Some x → (P : DiskWrite → Type 0) → P w → P x
  one zero x at P h = subst P (same_Some w x at) h
  one (suc k) x at P h = absurd (none-some x at)

  -- whatever stands in frames, one label was written
  pub label_written : ((d : List Sector) → old.contents ≡ Some d → Permitted d w) → Makes no_page (w ∷ []) old slots new slots
  label_written permitted = record {
    went = record { sectors = moves.sectors; lent = moves.lent; syncs = same_syncs old new moves.syncs; faults = moves.faults; transfers = moves.transfers.later };
    dirty = λ id page d. inl d;
    wrote = record {
      writes = w ∷ [];
      appended = appended_one w made;
      form = λ k x at. one k x at IsWriteInForm form;
      permitted = λ d k x revealed at. law d k x revealed at;
      labels = is_alone w sector is;
      of_dirty = λ k place wanted bytes at. absurd (true≢false (one k (write.Page place wanted bytes) at (λ (x : DiskWrite). is_page_write x ≡ false) (no_page_write w sector is)));
    };
    count = refl;
  }
    where
      law : (d : List Sector) (k : ℕ) (x : DiskWrite) → old.contents ≡ Some d → slice_get (w ∷ []) k ≡ Some x → Permitted (crash_state d (w ∷ []) k) x
      law d zero x revealed at = subst (Permitted d) (same_Some w x at) (permitted d revealed)
      law d (suc k) x revealed at = absurd (none-some x at)

pub beside_frames : (old new : DiskState) (slots : Slots) (w : DiskWrite) (sector : ℕ) → IsLabelled w sector → IsWriteInForm w → RevealsWrite w old new → Moves old new
    → ((d : List Sector) → old.contents ≡ Some d → Permitted d w × ((s : Sector) × (slice_get d sector ≡ Some s)))
    → ((i : ℕ) (f : Frame) → Has slots i f → f.home.sector ≢ sector) → Goes (λ m n. n ≡ written w m) no_page (w ∷ []) old slots new slots
beside_frames old new slots w sector is form made moves permitted free = record {
  makes = label_written old new slots w sector is form made moves (λ d revealed. (permitted d revealed).0);
  memory = λ m h.
      let there = (permitted h.sectors h.revealed).1 in (
        written w m,
        record {
          sectors = written w h.sectors;
          revealed = made.contents ∙ ap (option_map (written w)) h.revealed;
          merged = merged_labelled w sector h.sectors slots m there.0 is there.1 free h.merged;
        },
        refl,
      );
}
