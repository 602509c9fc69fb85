-- A page that was read under its label, and one that was written under it.
use Rattle.std.proofs.Common.{◌≡◌, ◌⊎◌, inl, inr, ℕ, zero, suc, ◌<◌, Bool, true, false, List, [], ◌∷◌, length, get_or, Option, Some, None, refl, sym, ◌∙◌, ap, subst}
use Rattle.std.specs.Prelude.{slice_get, slice_set, option_map, if◌then◌else◌, All}
use Rattle.std.specs.Option.{option_map_or}
use Rattle.std.proofs.lemmas.Bool.{true≢false}
use Rattle.std.proofs.lemmas.List.Elements.{All-from_get_or}
use Rattle.std.proofs.lemmas.Option.{same_Some, none-some}
use Rattle.labelled_disk.specs.declared.label.Label.{Label}
use Rattle.labelled_disk.specs.declared.label.Wanted.{Wanted}
use Rattle.labelled_disk.specs.declared.disk.DiskWrite.{DiskWrite}
use Rattle.labelled_disk.specs.declared.disk.DiskWrite.TheVariants as write
use Rattle.labelled_disk.specs.Label.{names}
use Rattle.labelled_disk.specs.Sectors.{Sector}
use Rattle.labelled_disk.specs.State.{DiskState, Holds, NamesThere}
use Rattle.labelled_disk.specs.Calls.{RevealsSame, RevealsWrite}
use Rattle.labelled_disk.specs.CrashState.{written, crash_state}
use Rattle.labelled_disk.specs.Permitted.{Permitted, IsPageWrite}
use Rattle.labelled_disk.specs.Runs.{IsWriteInForm}
use Rattle.labelled_disk.proofs.WriteRunLemmas.{appended_one}
use Rattle.frame_pool.specs.Frames.{Slots}
use Rattle.swapper_kernel.specs.Goes.{IsDirty, Makes, Went, this_page}
use Rattle.swapper_kernel.specs.Stands.{Stands}
use Rattle.swapper_kernel.proofs.MoveLemmas.{move_laws}
use Rattle.label_calls.specs.Bytes.{MayWritePage, PutsPage, ReadsPage, WritesPage}
use Rattle.label_calls.specs.Labels.{IsUncovered, ones_of}

-- the bytes that the disk has under a label that names the page
pub was_read : (sector : ℕ) (wanted : Wanted) (bytes : List ℕ) (slots : Slots) (disk : DiskState) (found : Label) → Holds disk sector (found, bytes) → names found wanted ≡ true → ReadsPage sector wanted bytes disk slots
was_read sector wanted bytes slots disk found holds named = record {
  on_disk = λ d revealed. record { label = found; here = holds d revealed; named = named };
  in_memory = λ free m stands. record { label = found; here = stands.merged.clean sector (λ i f has dirty. free i f has) ∙ holds stands.sectors stands.revealed; named = named };
}

-- a label that doesn't name the page is no other in the memory
pub not_named : (wanted : Wanted) (found : Label) → names found wanted ≡ false → ones_of wanted found → ⊥
not_named wanted found other named = true≢false (sym named ∙ other)

-- the sector of a label that names the page
pub named_sector : (o : Option Sector) (wanted : Wanted) → option_map (λ s. names s.0 wanted) o ≡ Some true → (s : Sector) × (o ≡ Some s) × (names s.0 wanted ≡ true)
named_sector None wanted is = absurd (none-some true is)
named_sector (Some s) wanted is = (s, refl, same_Some (names s.0 wanted) true is)

abbrev wanted_of : DiskWrite → Wanted
wanted_of (write.Whole sector label bytes) = record { id = 0; page = 0 }
wanted_of (write.LabelOnly sector label) = record { id = 0; page = 0 }
wanted_of (write.Page sector wanted bytes) = wanted

-- the bytes of an array are a page
pub page_form : (bytes : List ℕ) → length bytes ≡ 512 → ((k : ℕ) → get_or bytes k 0 < 256) → (length bytes ≡ 512) × All (λ b. b < 256) bytes
page_form bytes long fits = (long, All-from_get_or (λ b. b < 256) bytes 0 (λ k below. fits k))

-- what a write of a page makes of sectors of which one has a label that names it
pub put_is : (sector : ℕ) (wanted : Wanted) (bytes : List ℕ) (d : List Sector) (s : Sector) → slice_get d sector ≡ Some s → names s.0 wanted ≡ true
    → written (write.Page sector wanted bytes) d ≡ slice_set d sector (s.0, bytes)
put_is sector wanted bytes d s here named =
    ap (λ (o : Option Sector). option_map_or (λ (old : Sector). if names old.0 wanted then slice_set d sector (old.0, bytes) else d) o d) here
    ∙ ap (λ (b : Bool). if b then slice_set d sector (s.0, bytes) else d) named

module _ (sector : ℕ) (wanted : Wanted) (bytes : List ℕ) (old new : DiskState) (slots : Slots) (some : 0 < sector) (form : IsWriteInForm (write.Page sector wanted bytes))
    (made : RevealsWrite (write.Page sector wanted bytes) old new) (named : NamesThere old sector wanted true) (went : Went old new) where
  abbrev w : DiskWrite
  w = write.Page sector wanted bytes

  one : (k : ℕ) (x : DiskWrite) → slice_get (write.Page sector wanted bytes ∷ []) k ≡ Some x → (P : DiskWrite → Type 0) → P (write.Page sector wanted bytes) → P x
  one zero x at P h = subst P (same_Some (write.Page sector wanted bytes) x at) h
  one (suc k) x at P h = absurd (none-some x at)

  law : (d : List Sector) (k : ℕ) (x : DiskWrite) → old.contents ≡ Some d → slice_get (write.Page sector wanted bytes ∷ []) k ≡ Some x → Permitted (crash_state d (write.Page sector wanted bytes ∷ []) k) x
  law d zero x revealed at =
      let permitted : IsPageWrite d sector wanted = record { not_root = some; old = named_sector (slice_get d sector) wanted (named d revealed) } in
      subst (Permitted d) (same_Some (write.Page sector wanted bytes) x at) permitted
  law d (suc k) x revealed at = absurd (none-some x at)

  makes : Makes (this_page wanted.id wanted.page) [] old slots new slots
  makes = record {
    went = went;
    dirty = λ id page is. inl is;
    wrote = record {
      writes = write.Page sector wanted bytes ∷ [];
      appended = appended_one (write.Page sector wanted bytes) made;
      form = λ k x at. one k x at IsWriteInForm form;
      permitted = law;
      labels = refl;
      of_dirty = λ k place named_page page_bytes at. one k (write.Page place named_page page_bytes) at (λ (x : DiskWrite). IsDirty slots (wanted_of x).id (wanted_of x).page ⊎ this_page wanted.id wanted.page (wanted_of x).id (wanted_of x).page) (inr (refl, refl));
    };
    count = refl;
  }

  merged : IsUncovered slots sector → (m : List Sector) → (h : Stands old slots m) → (n : List Sector) × Stands new slots n × PutsPage sector wanted bytes m n
  merged free m h =
      let s = named_sector (slice_get h.sectors sector) wanted (named h.sectors h.revealed) in
      let here = h.merged.clean sector (λ i f has dirty. free i f has) ∙ s.1 in (
        slice_set m sector (s.0.0, bytes),
        record {
          sectors = slice_set h.sectors sector (s.0.0, bytes);
          revealed = made.contents ∙ ap (option_map (written (write.Page sector wanted bytes))) h.revealed ∙ ap (λ (l : List Sector). Some l) (put_is sector wanted bytes h.sectors s.0 s.1 s.2);
          merged = (move_laws h.sectors slots m).relabelled sector s.0 (s.0.0, bytes) s.1 (λ i f has. free i f has) h.merged;
        },
        (s.0, here, s.2, refl),
      )

  pub was_written : WritesPage sector wanted bytes old slots new
  was_written = record {
    named = λ d revealed. named_sector (slice_get d sector) wanted (named d revealed);
    appended = appended_one (write.Page sector wanted bytes) made;
    makes = makes;
    goes = λ free. record { makes = makes; memory = merged free };
  }

-- it was written, or nothing was
pub may_write : (sector : ℕ) (wanted : Wanted) (bytes : List ℕ) (old new : DiskState) (slots : Slots) → 0 < sector → IsWriteInForm (write.Page sector wanted bytes) → Went old new
    → RevealsSame old new ⊎ (RevealsWrite (write.Page sector wanted bytes) old new × NamesThere old sector wanted true) → MayWritePage sector wanted bytes old slots new
may_write sector wanted bytes old new slots some form went (inl nothing) = inl nothing
may_write sector wanted bytes old new slots some form went (inr (made, named)) = inr (was_written sector wanted bytes old new slots some form made named went)
