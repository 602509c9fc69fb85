-- Label writes mixed with writes of page bytes.
use Rattle.std.proofs.Common.{◌≡◌, ◌≢◌, inl, inr, ℕ, zero, suc, ◌+◌, ◌-◌, ◌<◌, ◌≤◌, Bool, true, false, List, [], ◌∷◌, map, length, take, Option, Some, None, refl, sym, ◌∙◌, ap, subst, arith, length-set, eqb}
use Rattle.std.specs.Prelude.{slice_get, slice_set, option_map, if◌then◌else◌}
use Rattle.std.specs.Option.{option_map_or}
use Rattle.std.proofs.lemmas.Option.{same_Some, none-some, slice_get_within}
use Rattle.std.proofs.lemmas.Bool.{eqb-true, eqb-false}
use Rattle.std.proofs.lemmas.List.{length-map}
use Rattle.labelled_disk.specs.declared.label.Label.{Label}
use Rattle.labelled_disk.specs.declared.label.Wanted.{Wanted}
use Rattle.labelled_disk.specs.declared.disk.DiskWrite.{DiskWrite}
use Rattle.labelled_disk.specs.declared.disk.DiskWrite.TheVariants as write
use Rattle.labelled_disk.specs.Label.{names, leader_page}
use Rattle.labelled_disk.specs.Sectors.{Sector}
use Rattle.labelled_disk.specs.CrashState.{crash_state, written}
use Rattle.labelled_disk.specs.Layout.{data_sectors, first_data}
use Rattle.labelled_disk.specs.File.{Page, byte, size}
use Rattle.labelled_disk.specs.FilesOn.{is_of, is_page, page_at, pages_from}
use Rattle.labelled_disk.specs.Right.{IsWhole}
use Rattle.labelled_disk.specs.Runs.{sector_of}
use Rattle.labelled_disk.proofs.Finds.{get_set_same, get_set_other, find_alone, IsAlone}
use Rattle.labelled_disk.proofs.Pages.{pages_each}
use Rattle.labelled_disk.proofs.SectorWrites as w
use Rattle.labelled_disk.proofs.WriteLemmas as laws
use Rattle.label_laws.specs.Mixed.{labels, label_writes, page_after, LabelsByLabelWrites, SectorStays, LastPageStands, LastPageShows, PageStands, PageStays}
use Rattle.label_laws.proofs.FileLemmas.{page_written}

-- the labels after a sector was replaced
pub labels_set : (d : List Sector) (i : ℕ) (t : Sector) → labels (slice_set d i t) ≡ slice_set (labels d) i t.0
labels_set [] i t = refl
labels_set (s ∷ d) zero t = refl
labels_set (s ∷ d) (suc i) t = ap (λ (l : List Label). s.0 ∷ l) (labels_set d i t)

-- a label for itself
labels_same : (d : List Sector) (i : ℕ) (s : Sector) (page : List ℕ) → slice_get d i ≡ Some s → labels (slice_set d i (s.0, page)) ≡ labels d
labels_same [] i s page here = refl
labels_same (x ∷ d) zero s page here = ap (λ (o : Option Sector). option_map_or (λ (u : Sector). u.0 ∷ labels d) o []) (sym here)
labels_same (x ∷ d) (suc i) s page here = ap (λ (l : List Label). x.0 ∷ l) (labels_same d i s page here)

past_set : (xs : List Label) (ys : List Sector) (i : ℕ) (l : Label) → xs ≡ labels ys → slice_get ys i ≡ None → slice_set xs i l ≡ labels ys
past_set xs ys i l same none = ap (λ (zs : List Label). slice_set zs i l) same ∙ out ys i none
  where
    out : (ys : List Sector) (i : ℕ) → slice_get ys i ≡ None → slice_set (labels ys) i l ≡ labels ys
    out [] i none = refl
    out (y ∷ ys) zero none = absurd (none-some y (sym none))
    out (y ∷ ys) (suc i) none = ap (λ (zs : List Label). y.0 ∷ zs) (out ys i none)

-- the labels after a write that gives one
pub labels_whole : (d : List Sector) (i : ℕ) (label : Label) (page : List ℕ) → labels (written (write.Whole i label page) d) ≡ slice_set (labels d) i label
labels_whole d i label page = labels_set d i (label, page)

pub labels_only : (d : List Sector) (i : ℕ) (label : Label) → labels (written (write.LabelOnly i label) d) ≡ slice_set (labels d) i label
labels_only d i label = either (slice_get d i) refl
  where
    either : (o : Option Sector) → slice_get d i ≡ o → labels (option_map_or (λ old. slice_set d i (label, old.1)) o d) ≡ slice_set (labels d) i label
    either None e = sym (past_set (labels d) d i label refl e)
    either (Some s) e = labels_set d i (label, s.1)

pub labels_page : (d : List Sector) (i : ℕ) (wanted : Wanted) (page : List ℕ) → labels (written (write.Page i wanted page) d) ≡ labels d
labels_page d i wanted page = either (slice_get d i) refl
  where
    choice : (b : Bool) (s : Sector) → slice_get d i ≡ Some s → labels (if b then slice_set d i (s.0, page) else d) ≡ labels d
    choice true s e = labels_same d i s page e
    choice false s e = refl

    either : (o : Option Sector) → slice_get d i ≡ o → labels (option_map_or (λ old. if names old.0 wanted then slice_set d i (old.0, page) else d) o d) ≡ labels d
    either None e = refl
    either (Some s) e = choice (names s.0 wanted) s e

-- two disks with the same labels, written alike
pub mixed : (d e : List Sector) (writes : List DiskWrite) (k : ℕ) → labels d ≡ labels e → labels (crash_state d writes k) ≡ labels (crash_state e (label_writes writes) (length (label_writes (take k writes))))
mixed d e writes zero same = same
mixed d e [] (suc k) same = same
mixed d e (write.Whole i label page ∷ writes) (suc k) same =
    mixed (written (write.Whole i label page) d) (written (write.Whole i label page) e) writes k
    (labels_whole d i label page ∙ ap (λ (l : List Label). slice_set l i label) same ∙ sym (labels_whole e i label page))
mixed d e (write.LabelOnly i label ∷ writes) (suc k) same =
    mixed (written (write.LabelOnly i label) d) (written (write.LabelOnly i label) e) writes k
    (labels_only d i label ∙ ap (λ (l : List Label). slice_set l i label) same ∙ sym (labels_only e i label))
mixed d e (write.Page i wanted page ∷ writes) (suc k) same =
    mixed (written (write.Page i wanted page) d) e writes k (labels_page d i wanted page ∙ same)

pub labels_by_label_writes : LabelsByLabelWrites
labels_by_label_writes d writes k = mixed d d writes k refl

-- another sector is written
pub written_other : (d : List Sector) (one : DiskWrite) (j : ℕ) → sector_of one ≢ j → slice_get (written one d) j ≡ slice_get d j
written_other d (write.Whole sector label page) j apart = get_set_other d sector j (label, page) (λ e. apart (sym e))
written_other d (write.LabelOnly sector label) j apart = either (slice_get d sector)
  where
    either : (o : Option Sector) → slice_get (option_map_or (λ old. slice_set d sector (label, old.1)) o d) j ≡ slice_get d j
    either None = refl
    either (Some s) = get_set_other d sector j (label, s.1) (λ e. apart (sym e))
written_other d (write.Page sector wanted page) j apart = either (slice_get d sector)
  where
    choice : (b : Bool) (s : Sector) → slice_get (if b then slice_set d sector (s.0, page) else d) j ≡ slice_get d j
    choice true s = get_set_other d sector j (s.0, page) (λ e. apart (sym e))
    choice false s = refl

    either : (o : Option Sector) → slice_get (option_map_or (λ old. if names old.0 wanted then slice_set d sector (old.0, page) else d) o d) j ≡ slice_get d j
    either None = refl
    either (Some s) = choice (names s.0 wanted) s

pub sector_stays : SectorStays
sector_stays d writes zero i all = refl
sector_stays d [] (suc k) i all = refl
sector_stays d (one ∷ writes) (suc k) i all = sector_stays (written one d) writes k i all.1 ∙ written_other d one i all.0

-- no write makes a disk longer
pub written_long : (d : List Sector) (one : DiskWrite) → length (written one d) ≡ length d
written_long d (write.Whole sector label page) = length-set d sector (label, page)
written_long d (write.LabelOnly sector label) =
    sym (length-map (written (write.LabelOnly sector label) d) (λ (s : Sector). s.0)) ∙ ap (λ (l : List Label). length l) (labels_only d sector label)
    ∙ length-set (labels d) sector label ∙ length-map d (λ (s : Sector). s.0)
written_long d (write.Page sector wanted page) =
    sym (length-map (written (write.Page sector wanted page) d) (λ (s : Sector). s.0)) ∙ ap (λ (l : List Label). length l) (labels_page d sector wanted page) ∙ length-map d (λ (s : Sector). s.0)

pub crash_state_long : (d : List Sector) (writes : List DiskWrite) (k : ℕ) → length (crash_state d writes k) ≡ length d
crash_state_long d writes zero = refl
crash_state_long d [] (suc k) = refl
crash_state_long d (one ∷ writes) (suc k) = crash_state_long (written one d) writes k ∙ written_long d one

pub last_page_stands : LastPageStands
last_page_stands d writes zero i s permitted here leaves = here
last_page_stands d [] (suc k) i s permitted here leaves = here
last_page_stands d (write.Whole sector label page ∷ writes) (suc k) i s permitted here leaves =
    last_page_stands (written (write.Whole sector label page) d) writes k i s permitted.1 (written_other d (write.Whole sector label page) i (leaves.0 refl) ∙ here) leaves.1
last_page_stands d (write.LabelOnly sector label ∷ writes) (suc k) i s permitted here leaves =
    last_page_stands (written (write.LabelOnly sector label) d) writes k i s permitted.1 (written_other d (write.LabelOnly sector label) i (leaves.0 refl) ∙ here) leaves.1
last_page_stands d (write.Page sector wanted page ∷ writes) (suc k) i s permitted here leaves =
    last_page_stands (written (write.Page sector wanted page) d) writes k i (s.0, if eqb sector i then page else s.1) permitted.1 (now (eqb sector i) refl) leaves.1
  where
    now : (b : Bool) → eqb sector i ≡ b → slice_get (written (write.Page sector wanted page) d) i ≡ Some (s.0, if b then page else s.1)
    now false e = written_other d (write.Page sector wanted page) i (eqb-false sector i e) ∙ here
    now true e =
        let place : sector ≡ i = eqb-true sector i e in
        let old : Sector = permitted.0.old.0 in
        let same : old ≡ s = same_Some old s (sym permitted.0.old.1 ∙ ap (λ (j : ℕ). slice_get d j) place ∙ here) in
        ap (λ (e : List Sector). slice_get e i)
        (page_written d sector old wanted page permitted.0.old.1 ∙ ap (λ (b : Bool). if b then slice_set d sector (old.0, page) else d) permitted.0.old.2)
        ∙ ap (λ (j : ℕ). slice_get (slice_set d sector (old.0, page)) j) (sym place)
        ∙ get_set_same d sector (old.0, page) (slice_get_within d sector old permitted.0.old.1)
        ∙ ap (λ (u : Sector). Some (u.0, page)) same

module _ (with_temporary : Bool) (serial counter : ℕ) where
  pub page_stands : PageStands with_temporary serial counter
  page_stands d i s id p f right holds is middle file =
      let here = laws.data_get with_temporary serial counter d i s holds.is_data holds.here in
      let same : f.id ≡ id = laws.file_id_is with_temporary serial counter d id f file in
      let whole : IsWhole (data_sectors d) f = laws.of_file with_temporary serial counter (IsWhole (data_sectors d)) d right.whole_files id f file in
      let of : is_of f.id s ≡ true = ap (λ (n : ℕ). is_of n s) same ∙ w.page_of with_temporary id p s is in
      let number : s.0.page ≡ p = w.page_number with_temporary id p s is in
      let alone : IsAlone (is_page id p) (data_sectors d) (i - first_data (length d)) =
      λ j t at passes. whole.once j (i - first_data (length d)) t s at here (ap (λ (n : ℕ). is_of n t) same ∙ w.page_of with_temporary id p t passes) of (w.page_number with_temporary id p t passes ∙ sym number) in
      let found : page_at (data_sectors d) id p ≡ Some (map byte s.1) =
      ap (λ (o : Option Sector). option_map (λ (u : Sector). map byte u.1) o) (find_alone (is_page id p) (data_sectors d) (i - first_data (length d)) s here is alone) in
      let pages : f.pages ≡ pages_from (page_at (data_sectors d) id) 0 leader_page = w.file_pages with_temporary (data_sectors d) id f file in
      let low : p < size f = elim (whole.no_other (i - first_data (length d)) s here of) [ inl h ↦ absurd (middle (sym number ∙ h)) | inr h ↦ omega (arith, h, number) ] in
      let z : 0 + p ≡ p = omega arith in
      ap (λ (l : List Page). slice_get l p) pages
      ∙ pages_each (page_at (data_sectors d) id) 0 leader_page p (omega (arith, low, ap (λ (l : List Page). length l) pages))
      ∙ ap (page_at (data_sectors d) id) z ∙ found

  pub page_stays : PageStays with_temporary serial counter
  page_stays d writes k i s id p g holds is middle apart right file =
      page_stands (crash_state d writes k) i s id p g right
      (record { is_data = subst (λ (n : ℕ). first_data n ≤ i) (sym (crash_state_long d writes k)) holds.is_data; here = sector_stays d writes k i apart ∙ holds.here })
      is middle file

  pub last_page_shows : LastPageShows with_temporary serial counter
  last_page_shows d writes k i s id p g holds is middle permitted leaves right file =
      page_stands (crash_state d writes k) i (s.0, page_after i s.1 (take k writes)) id p g right
      (record { is_data = subst (λ (n : ℕ). first_data n ≤ i) (sym (crash_state_long d writes k)) holds.is_data; here = last_page_stands d writes k i s permitted holds.here leaves })
      is middle file
