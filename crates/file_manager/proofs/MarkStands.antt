-- A mark on a leader's label: the memory with that label stands, whatever frames are over the sector.
use Rattle.std.proofs.Common.{◌≡◌, ◌≢◌, ◌⊎◌, inl, inr, ℕ, zero, suc, ◌<◌, true, List, [], ◌∷◌, Option, Some, refl, sym, ◌∙◌, ap, arith, bit_or}
use Rattle.std.specs.Prelude.{slice_get, slice_set, option_map}
use Rattle.std.specs.Option.{option_map_or}
use Rattle.std.proofs.lemmas.Bool.{cases_eq}
use Rattle.std.proofs.lemmas.Bool.Decides.{nat_tests}
use Rattle.std.proofs.lemmas.Option.{same_Some, slice_get_within}
use Rattle.labelled_disk.specs.declared.label.Label.{Label}
use Rattle.labelled_disk.specs.declared.label.Wanted.{Wanted}
use Rattle.labelled_disk.specs.declared.disk.DiskWrite.TheVariants.{LabelOnly}
use Rattle.labelled_disk.specs.Label.{names}
use Rattle.labelled_disk.specs.CrashState.{written}
use Rattle.labelled_disk.specs.Sectors.{Sector}
use Rattle.labelled_disk.specs.State.{DiskState}
use Rattle.labelled_disk.specs.WriteRuns.{Appended, after_writes}
use Rattle.labelled_disk.proofs.Finds.{get_set_same, get_set_other}
use Rattle.frame_pool.specs.Frames.{Frame, Slots}
use Rattle.swapper_kernel.specs.DiffersLaws.{names_id, other_sector}
use Rattle.swapper_kernel.specs.Homes.{wanted_at}
use Rattle.swapper_kernel.specs.Stands.{IsHome, IsClean, IsMerged, Stands, labels_of}
use Rattle.label_calls.specs.declared.page.Mark.{Mark}
use Rattle.label_calls.specs.declared.page.Mark.TheVariants.{Permanent, Immutable}
use Rattle.label_calls.specs.Labels.{HasOne, with_mark, ones_of}

-- ---- The label with a mark more names the page that the label named.

-- its flags are still few
still_few : (flags : ℕ) → flags < 4 → (bit_or flags 1 < 4) × (bit_or flags 2 < 4)
still_few zero low = (omega arith, omega arith)
still_few (suc zero) low = (omega arith, omega arith)
still_few (suc (suc zero)) low = (omega arith, omega arith)
still_few (suc (suc (suc zero))) low = (omega arith, omega arith)
still_few (suc (suc (suc (suc n)))) low = absurd (omega (arith, low))

-- as those of each label that names a page are
flags_few : (l : Label) (w : Wanted) → names l w ≡ true → l.flags < 4
flags_few l w named = grind (arith, nat_tests)

-- other flags leave the page
other_flags : (l : Label) (w : Wanted) (flags : ℕ) → names l w ≡ true → flags < 4 → names (record l { flags = flags }) w ≡ true
other_flags l w flags named low = grind (arith, nat_tests)

-- so each mark does
pub mark_names : (mark : Mark) (l : Label) (w : Wanted) → names l w ≡ true → names (with_mark mark l) w ≡ true
mark_names Permanent l w named = other_flags l w (bit_or l.flags 1) named (still_few l.flags (flags_few l w named)).0
mark_names Immutable l w named = other_flags l w (bit_or l.flags 2) named (still_few l.flags (flags_few l w named)).1

-- ---- A sector that gets another label.

-- among the labels
set_label : (xs : List Sector) (i : ℕ) (s : Sector) → labels_of (slice_set xs i s) ≡ slice_set (labels_of xs) i s.0
set_label [] i s = refl
set_label (x ∷ xs) zero s = refl
set_label (x ∷ xs) (suc i) s = ap (λ (ls : List Label). x.0 ∷ ls) (set_label xs i s)

-- by the write
pub label_written : (xs : List Sector) (i : ℕ) (s : Sector) (l : Label) → slice_get xs i ≡ Some s → written (LabelOnly i l) xs ≡ slice_set xs i (l, s.1)
label_written xs i s l here = ap (λ (o : Option Sector). option_map_or (λ (old : Sector). slice_set xs i (l, old.1)) o xs) here

-- Both the disk and the memory get the label: a frame over the sector is of a page that this label names too.
pub merged_labelled : (d : List Sector) (s : Slots) (m : List Sector) (sector : ℕ) (x y : Sector) (l : Label) → IsMerged d s m → slice_get m sector ≡ Some x → slice_get d sector ≡ Some y
    → ((w : Wanted) → names x.0 w ≡ true → names l w ≡ true) → IsMerged (slice_set d sector (l, y.1)) s (slice_set m sector (l, x.1))
merged_labelled d s m sector x y l merged here there also = record {
  labels = set_label m sector (l, x.1) ∙ ap (λ (ls : List Label). slice_set ls sector l) merged.labels ∙ sym (set_label d sector (l, y.1));
  frames = λ i f has. framed f (merged.frames i f has) (cases_eq f.home.sector sector);
  clean = λ k clean. cleaned k clean (cases_eq k sector);
}
  where
    now : slice_get (slice_set m sector (l, x.1)) sector ≡ Some (l, x.1)
    now = get_set_same m sector (l, x.1) (slice_get_within m sector x here)

    framed : (f : Frame) → IsHome m f → (f.home.sector ≡ sector) ⊎ (f.home.sector ≢ sector) → IsHome (slice_set m sector (l, x.1)) f
    framed f home (inl same) =
        let one : (home.label, f.bytes) ≡ x = same_Some {A = Sector} (home.label, f.bytes) x (sym home.keeps ∙ ap (slice_get m) same ∙ here) in
        record {
          label = l;
          keeps = ap (slice_get (slice_set m sector (l, x.1))) same ∙ now ∙ ap (λ (t : Sector). Some (l, t.1)) (sym one);
          named = also (wanted_at f.home) (ap (λ (t : Sector). names t.0 (wanted_at f.home)) (sym one) ∙ home.named);
        }
    framed f home (inr apart) = record { label = home.label; keeps = get_set_other m sector f.home.sector (l, x.1) apart ∙ home.keeps; named = home.named }

    cleaned : (k : ℕ) → IsClean s k → (k ≡ sector) ⊎ (k ≢ sector) → slice_get (slice_set m sector (l, x.1)) k ≡ slice_get (slice_set d sector (l, y.1)) k
    cleaned k clean (inl same) =
        let one : x ≡ y = same_Some x y (sym here ∙ ap (slice_get m) (sym same) ∙ merged.clean k clean ∙ ap (slice_get d) same ∙ there) in
        ap (slice_get (slice_set m sector (l, x.1))) same ∙ now ∙ ap (λ (t : Sector). Some (l, t.1)) one
        ∙ sym (get_set_same d sector (l, y.1) (slice_get_within d sector y there)) ∙ ap (slice_get (slice_set d sector (l, y.1))) (sym same)
    cleaned k clean (inr apart) = get_set_other m sector k (l, x.1) apart ∙ merged.clean k clean ∙ sym (get_set_other d sector k (l, y.1) apart)

-- The memory in which the sector has the label with a mark more; all others are as they were.
abbrev pub marked_stands : (a b : DiskState) (s : Slots) (m : List Sector) (w : Wanted) (sector : ℕ) (mark : Mark) (label : Label) → Appended (LabelOnly sector (with_mark mark label) ∷ []) a b
    → ((d : List Sector) → a.contents ≡ Some d → HasOne (λ l. (l ≡ label) × ones_of w l) d sector) → Stands a s m
    → (n : List Sector) × Stands b s n × ((k : ℕ) → k ≢ sector → slice_get n k ≡ slice_get m k)
marked_stands a b s m w sector mark label appended found stands =
    let d = stands.sectors in
    let y = found d stands.revealed in
    let x = other_sector m d (sym stands.merged.labels) sector y.0 y.1 in
    let same : x.0.0 ≡ label = x.2 ∙ y.2.0 in
    let l : Label = with_mark mark label in (
      slice_set m sector (l, x.0.1),
      record {
        sectors = slice_set d sector (l, y.0.1);
        revealed = appended.contents ∙ ap (option_map (after_writes (LabelOnly sector l ∷ []))) stands.revealed ∙ ap (λ (q : List Sector). Some q) (label_written d sector y.0 l y.1);
        merged = merged_labelled d s m sector x.0 y.0 l stands.merged x.1 y.1 (λ v named. mark_names mark label v (ap (λ (t : Label). names t v) (sym same) ∙ named));
      },
      λ k apart. get_set_other m sector k (l, x.0.1) apart,
    )

-- the sector's label has the identifier of the page, before and after it
pub marked_ids : (a b : DiskState) (s : Slots) (m : List Sector) (w : Wanted) (sector : ℕ) (mark : Mark) (label : Label) (appended : Appended (LabelOnly sector (with_mark mark label) ∷ []) a b)
    (found : (d : List Sector) → a.contents ≡ Some d → HasOne (λ l. (l ≡ label) × ones_of w l) d sector) (stands : Stands a s m)
    → ((t : Sector) → slice_get (marked_stands a b s m w sector mark label appended found stands).0 sector ≡ Some t → t.0.id ≡ w.id) × ((t : Sector) → slice_get m sector ≡ Some t → t.0.id ≡ w.id)
marked_ids a b s m w sector mark label appended found stands =
    let d = stands.sectors in
    let y = found d stands.revealed in
    let x = other_sector m d (sym stands.merged.labels) sector y.0 y.1 in
    let same : x.0.0 ≡ label = x.2 ∙ y.2.0 in
    let l : Label = with_mark mark label in
    let own : names label w ≡ true = ap (λ (t : Label). names t w) (sym y.2.0) ∙ y.2.1 in (
      λ t here.
          let now = get_set_same m sector (l, x.0.1) (slice_get_within m sector x.0 x.1) in
          ap (λ (q : Sector). q.0.id) (same_Some {A = Sector} t (l, x.0.1) (sym here ∙ now)) ∙ names_id l w (mark_names mark label w own),
      λ t here. ap (λ (q : Sector). q.0.id) (same_Some {A = Sector} t x.0 (sym here ∙ x.1)) ∙ ap (λ (q : Label). q.id) same ∙ names_id label w own,
    )
