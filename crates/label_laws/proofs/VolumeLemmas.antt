-- Label writes mixed with writes of page bytes, on a volume.
use Rattle.std.proofs.Common.{◌≡◌, ℕ, zero, suc, ◌<◌, ◌≤◌, Bool, List, [], ◌∷◌, length, Option, refl, sym, ◌∙◌, ap, arith}
use Rattle.std.specs.Prelude.{slice_get, option_map}
use Rattle.std.specs.List.{AllByRecursion}
use Rattle.std.proofs.lemmas.Option.{slice_get-map}
use Rattle.std.proofs.lemmas.List.{length-map}
use Rattle.labelled_disk.specs.declared.label.Label.{Label}
use Rattle.labelled_disk.specs.declared.label.Wanted.{Wanted}
use Rattle.labelled_disk.specs.declared.disk.DiskWrite.{DiskWrite}
use Rattle.labelled_disk.specs.declared.disk.DiskWrite.TheVariants as write
use Rattle.labelled_disk.specs.Sectors.{Sector}
use Rattle.labelled_disk.specs.CrashState.{crash_state, written}
use Rattle.labelled_disk.specs.Layout.{first_data}
use Rattle.labelled_disk.specs.File.{File}
use Rattle.labelled_disk.specs.Right.{FilesRight}
use Rattle.labelled_disk.specs.Root.{RightFor, serial_of, counter_of}
use Rattle.labelled_disk.specs.WriteLaws.{Changed}
use Rattle.labelled_disk.proofs.WriteLemmas as laws
use Rattle.labelled_disk.proofs.RootLemmas.{right_still}
use Rattle.label_laws.specs.Mixed.{labels, label_writes}
use Rattle.label_laws.specs.MixedVolumes.{LeavesLow, ShapeChanged, label_count, MixedLaws}
use Rattle.label_laws.specs.Shape.{bare_file}
use Rattle.label_laws.proofs.MixedLemmas.{labels_page, written_other, crash_state_long}
use Rattle.label_laws.proofs.ShapeLemmas.{right_alike, mixed_shapes}

-- the label of a sector, by all labels
same_label : (d e : List Sector) (i : ℕ) → slice_get (labels e) i ≡ slice_get (labels d) i → option_map (λ s. s.0) (slice_get e i) ≡ option_map (λ s. s.0) (slice_get d i)
same_label d e i same = sym (slice_get-map (λ (s : Sector). s.0) e i) ∙ same ∙ slice_get-map (λ (s : Sector). s.0) d i

label_by : (d e : List Sector) (i : ℕ) → slice_get e i ≡ slice_get d i → slice_get (labels e) i ≡ slice_get (labels d) i
label_by d e i same = slice_get-map (λ (s : Sector). s.0) e i ∙ ap (λ (o : Option Sector). option_map (λ s. s.0) o) same ∙ sym (slice_get-map (λ (s : Sector). s.0) d i)

pub long_by : (d e : List Sector) → labels e ≡ labels d → length e ≡ length d
long_by d e same = sym (length-map e (λ (s : Sector). s.0)) ∙ ap (λ (l : List Label). length l) same ∙ length-map d (λ (s : Sector). s.0)

-- a write that leaves root and maps
root_left : (first : ℕ) (d : List Sector) (one : DiskWrite) → 0 < first → LeavesLow first one → slice_get (written one d) 0 ≡ slice_get d 0
root_left first d (write.Whole sector label page) some leaves = written_other d (write.Whole sector label page) 0 (λ e. omega (arith, e, some, leaves))
root_left first d (write.LabelOnly sector label) some leaves = written_other d (write.LabelOnly sector label) 0 (λ e. omega (arith, e, some, leaves))
root_left first d (write.Page sector wanted page) some leaves = written_other d (write.Page sector wanted page) 0 (λ e. omega (arith, e, leaves))

label_left : (first : ℕ) (d : List Sector) (one : DiskWrite) (i : ℕ) → i < first → LeavesLow first one → slice_get (labels (written one d)) i ≡ slice_get (labels d) i
label_left first d (write.Whole sector label page) i low leaves =
    label_by d (written (write.Whole sector label page) d) i (written_other d (write.Whole sector label page) i (λ e. omega (arith, e, low, leaves)))
label_left first d (write.LabelOnly sector label) i low leaves =
    label_by d (written (write.LabelOnly sector label) d) i (written_other d (write.LabelOnly sector label) i (λ e. omega (arith, e, low, leaves)))
label_left first d (write.Page sector wanted page) i low leaves = ap (λ (l : List Label). slice_get l i) (labels_page d sector wanted page)

roots_left : (first : ℕ) (d : List Sector) (writes : List DiskWrite) (k : ℕ) → 0 < first → AllByRecursion (LeavesLow first) writes → slice_get (crash_state d writes k) 0 ≡ slice_get d 0
roots_left first d writes zero some all = refl
roots_left first d [] (suc k) some all = refl
roots_left first d (one ∷ writes) (suc k) some all = roots_left first (written one d) writes k some all.1 ∙ root_left first d one some all.0

labels_left : (first : ℕ) (d : List Sector) (writes : List DiskWrite) (k i : ℕ) → i < first → AllByRecursion (LeavesLow first) writes
    → slice_get (labels (crash_state d writes k)) i ≡ slice_get (labels d) i
labels_left first d writes zero i low all = refl
labels_left first d [] (suc k) i low all = refl
labels_left first d (one ∷ writes) (suc k) i low all = labels_left first (written one d) writes k i low all.1 ∙ label_left first d one i low all.0

pub fewer_labels : (writes : List DiskWrite) (k : ℕ) → label_count writes k ≤ length (label_writes writes)
fewer_labels writes zero = omega arith
fewer_labels [] (suc k) = omega arith
fewer_labels (write.Whole sector label page ∷ writes) (suc k) = omega (arith, fewer_labels writes k)
fewer_labels (write.LabelOnly sector label ∷ writes) (suc k) = omega (arith, fewer_labels writes k)
fewer_labels (write.Page sector wanted page ∷ writes) (suc k) = fewer_labels writes k

module _ (with_temporary : Bool) where
  labels_right : (d e : List Sector) → labels e ≡ labels d → slice_get e 0 ≡ slice_get d 0 → RightFor with_temporary d → RightFor with_temporary e
  labels_right d e same root right =
      right_still with_temporary d e (long_by d e same) root (λ i high low. same_label d e i (ap (λ (l : List Label). slice_get l i) same))
      (right_alike with_temporary d e same (serial_of d) (counter_of d) right.files) right

  page_right : (d : List Sector) (sector : ℕ) (wanted : Wanted) (page : List ℕ) → 0 < sector → RightFor with_temporary d → RightFor with_temporary (written (write.Page sector wanted page) d)
  page_right d sector wanted page above right =
      labels_right d (written (write.Page sector wanted page) d) (labels_page d sector wanted page) (written_other d (write.Page sector wanted page) 0 (λ e. omega (arith, e, above))) right

  runs_right : (d : List Sector) (writes : List DiskWrite) (k : ℕ) → RightFor with_temporary d → AllByRecursion (LeavesLow (first_data (length d))) writes
      → FilesRight with_temporary (serial_of d) (counter_of d) (crash_state d writes k) → RightFor with_temporary (crash_state d writes k)
  runs_right d writes k right all files =
      right_still with_temporary d (crash_state d writes k) (crash_state_long d writes k)
      (roots_left (first_data (length d)) d writes k (laws.first_positive with_temporary 0 0 (length d)) all)
      (λ i high low. same_label d (crash_state d writes k) i (labels_left (first_data (length d)) d writes k i low all))
      files right

  pub changes : (serial counter : ℕ) (d : List Sector) (writes : List DiskWrite) (k id : ℕ) (now : Option File)
      → Changed with_temporary serial counter d (crash_state d (label_writes writes) (label_count writes k)) id now → ShapeChanged with_temporary serial counter d (crash_state d writes k) id now
  changes serial counter d writes k id now change =
      let alike = mixed_shapes with_temporary d writes k in
      record {
        file = alike.shapes id ∙ ap (λ (o : Option File). option_map bare_file o) change.file;
        others = λ other apart. alike.shapes other ∙ ap (λ (o : Option File). option_map bare_file o) (change.others other apart);
        right = alike.right serial counter change.right;
      }

  pub mixed_laws : MixedLaws with_temporary
  mixed_laws = record { labels_right = labels_right; page_right = page_right; runs_right = runs_right; changes = changes; fewer = fewer_labels }
