-- A disk on which all unneeded sectors are freed.
use Rattle.std.proofs.Common.{◌≡◌, ◌≢◌, ℕ, zero, suc, true, false, List, [], ◌∷◌, length, take, refl, sym, ◌∙◌, ap, subst, arith}
use Rattle.std.specs.Prelude.{slice_get}
use Rattle.std.specs.List.{AllByRecursion}
use Rattle.std.proofs.lemmas.Bool.{true≢false}
use Rattle.labelled_disk.specs.declared.disk.DiskWrite.{DiskWrite}
use Rattle.labelled_disk.specs.FilesOn.{files_on, files_by}
use Rattle.labelled_disk.specs.Layout.{data_sectors}
use Rattle.labelled_disk.specs.Lowest.{is_needed}
use Rattle.labelled_disk.specs.CrashState.{crash_state}
use Rattle.labelled_disk.specs.Root.{LabelsRight}
use Rattle.labelled_disk.specs.Runs.{freeing, sector_of}
use Rattle.labelled_disk.specs.Sectors.{Sector}
use Rattle.labelled_disk.specs.WriteRuns.{after_writes}
use Rattle.labelled_disk.proofs.WriteLemmas as writes
use Rattle.labelled_disk.proofs.WriteRunLemmas.{crash_state-end}
use Rattle.label_laws.specs.Counts.{needs_place, unneeded_sectors}
use Rattle.label_laws.specs.Unneeded.{IsUnneeded, AreFreeOrNeeded, FreedCrashStates, FreedStayRight}
use Rattle.label_laws.proofs.CountLemmas.{list_laws}
use Rattle.label_laws.proofs.MixedLemmas.{sector_stays}
use Rattle.scavenger.proofs.LowLemmas.{IsLow}
use Rattle.scavenger.proofs.CrashStateLemmas.{AtEach}

-- The files and the root are the same, and labels stay right.
pub record IsSameVolume (d e : List Sector) : Type 0 where
  pub sectors : length e ≡ length d
  pub files : files_on e ≡ files_on d
  pub root : slice_get e 0 ≡ slice_get d 0
  pub right : LabelsRight d → LabelsRight e

pub same_volume_then : {d e f : List Sector} → IsSameVolume d e → IsSameVolume e f → IsSameVolume d f
same_volume_then one more = record {
  sectors = more.sectors ∙ one.sectors;
  files = more.files ∙ one.files;
  root = more.root ∙ one.root;
  right = λ r. more.right (one.right r);
}

pub low_same_volume : {d e : List Sector} → IsLow d e → IsSameVolume d e
low_same_volume {d} {e} low = record {
  sectors = low.sectors;
  files = ap (λ (xs : List Sector). files_by false xs xs) low.same_data;
  root = low.root;
  right = low.right;
}

length_freeing : (is : List ℕ) → length (freeing is) ≡ length is
length_freeing [] = refl
length_freeing (i ∷ is) = ap (λ (n : ℕ). suc n) (length_freeing is)

-- no write of the first k is made on this sector
freed_elsewhere : (P : ℕ → Type 0) (j : ℕ) → ((i : ℕ) → P i → i ≢ j) → (is : List ℕ) → AllByRecursion P is → (k : ℕ) → AllByRecursion (λ (w : DiskWrite). sector_of w ≢ j) (take k (freeing is))
freed_elsewhere P j apart is all zero = tt
freed_elsewhere P j apart [] all (suc k) = tt
freed_elsewhere P j apart (i ∷ is) all (suc k) = (apart i all.0, freed_elsewhere P j apart is all.1 k)

module _ (crash_states : FreedCrashStates false) (right : FreedStayRight false) (d : List Sector) where
  abbrev is : List ℕ
  is = unneeded_sectors false d

  abbrev pub freed : List Sector
  freed = after_writes (freeing is) d

  each : AllByRecursion (IsUnneeded false d) is
  each = (list_laws false).each d

  pub freed_crash_states : AtEach (IsSameVolume d) d (freeing is)
  freed_crash_states k =
      let same = crash_states d is each k in
      record {
        sectors = same.sectors;
        files = same.files;
        root = sector_stays d (freeing is) k 0 (freed_elsewhere (IsUnneeded false d) 0 (λ i u e. omega (arith, e, u.is_data, writes.first_positive false 0 0 (length d))) is each k);
        right = λ r. right.volume d is each r k;
      }

  at_last : crash_state d (freeing is) (length is) ≡ freed
  at_last = ap (crash_state d (freeing is)) (sym (length_freeing is)) ∙ crash_state-end d (freeing is)

  pub freed_needs : (j : ℕ) → is_needed false (data_sectors freed) j ≡ is_needed false (data_sectors d) j
  freed_needs j = ap (λ (e : List Sector). is_needed false (data_sectors e) j) (sym at_last) ∙ (crash_states d is each (length is)).needed j

  pub free_or_needed : AreFreeOrNeeded false freed
  free_or_needed = subst (AreFreeOrNeeded false) at_last ((list_laws false).freed d)

  -- a sector that a file needs stays
  pub needed_stays : (i : ℕ) → needs_place false d i ≡ true → slice_get freed i ≡ slice_get d i
  needed_stays i needed =
      ap (λ (e : List Sector). slice_get e i) (sym (crash_state-end d (freeing is)))
      ∙ sector_stays d (freeing is) (length (freeing is)) i
      (freed_elsewhere (IsUnneeded false d) i (λ j u e. true≢false (sym needed ∙ ap (needs_place false d) (sym e) ∙ u.unneeded)) is each (length (freeing is)))
