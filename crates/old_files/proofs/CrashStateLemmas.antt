-- Crash states of the first writes of a conversion.
use Rattle.std.proofs.Common.{◌≡◌, ◌≢◌, ◌⊎◌, inl, inr, ℕ, zero, suc, ◌-◌, ◌<◌, ◌≤◌, false, List, [], ◌∷◌, length, Option, Some, refl, sym, ◌∙◌, ap, subst, arith, take, length-set}
use Rattle.std.specs.Prelude.{slice_get, slice_set, fold}
use Rattle.std.specs.Option.{option_map_or}
use Rattle.std.specs.List.{AllByRecursion}
use Rattle.std.proofs.lemmas.Bool.{cases_eq}
use Rattle.std.proofs.lemmas.Option.{slice_get_within}
use Rattle.labelled_disk.specs.declared.disk.DiskWrite.{DiskWrite}
use Rattle.labelled_disk.specs.declared.disk.DiskWrite.TheVariants.{Whole, LabelOnly, Page}
use Rattle.labelled_disk.specs.Sectors.{Sector}
use Rattle.labelled_disk.specs.Layout.{data_sectors, first_data}
use Rattle.labelled_disk.specs.CrashState.{crash_state, written}
use Rattle.labelled_disk.proofs.Finds.{get_set_same, get_set_other}
use Rattle.labelled_disk.proofs.WriteLemmas as laws
use Rattle.old_files.specs.OldFiles.{is_old_needed}
use Rattle.old_files.specs.Laws.{IsNoPage, OnlyUnneeded}
use Rattle.old_files.specs.Arranging.{IsSpare, IsSpareWrite, SpareCrashStates}
use Rattle.old_files.proofs.StayLemmas.{old_files_stay, get_some}

-- what holds of each crash state, but for the files
pub record Stays (d e : List Sector) : Type 0 where
  pub sectors : length e ≡ length d
  pub low : (i : ℕ) → i < first_data (length d) → slice_get e i ≡ slice_get d i
  pub only : OnlyUnneeded (data_sectors d) (data_sectors e)

pub begins : (d : List Sector) → Stays d d
begins d = record { sectors = refl; low = λ i l. refl; only = record { same_length = refl; each = λ i. inl refl } }

-- one sector more, as the data sectors show it
pub sets_only : (d e : List Sector) (i : ℕ) (t : Sector) → IsSpare d i → IsNoPage t → length e ≡ length d → OnlyUnneeded (data_sectors d) (data_sectors e)
    → (length (slice_set e i t) ≡ length d) × OnlyUnneeded (data_sectors d) (data_sectors (slice_set e i t))
sets_only d e i t spare none long only_now = (
  length-set e i t ∙ long,
  record {
    same_length = ap (λ (l : List Sector). length l) data_is ∙ length-set (data_sectors e) (i - first_data (length e)) t ∙ only_now.same_length;
    each = λ j. by j (cases_eq j (i - first_data (length d)));
  },
)
  where
    data_is : data_sectors (slice_set e i t) ≡ slice_set (data_sectors e) (i - first_data (length e)) t
    data_is = laws.data_set false 0 0 e i t (subst (λ (n : ℕ). first_data n ≤ i) (sym long) spare.is_data)

    place : i - first_data (length e) ≡ i - first_data (length d)
    place = ap (λ (n : ℕ). i - first_data n) long

    here : (x : Sector) → slice_get e i ≡ Some x → i - first_data (length e) < length (data_sectors e)
    here x at = within (data_sectors e) (i - first_data (length e)) x (laws.data_get false 0 0 e i x (subst (λ (n : ℕ). first_data n ≤ i) (sym long) spare.is_data) at)
      where
        within : (xs : List Sector) (k : ℕ) (x : Sector) → slice_get xs k ≡ Some x → k < length xs
        within xs k x at = slice_get_within xs k x at

    by : (j : ℕ) → (j ≡ i - first_data (length d)) ⊎ (j ≢ i - first_data (length d))
        → (slice_get (data_sectors (slice_set e i t)) j ≡ slice_get (data_sectors d) j) ⊎ ((is_old_needed (data_sectors d) j ≡ false) × (u : Sector) × (slice_get (data_sectors (slice_set e i t)) j ≡ Some u) × IsNoPage u)
    by j (inl is) =
        let x = get_some e i (omega (arith, spare.within, long)) in
        inr (
          ap (is_old_needed (data_sectors d)) is ∙ spare.spare,
          t,
          ap (λ (l : List Sector). slice_get l j) data_is ∙ ap (λ (k : ℕ). slice_get (slice_set (data_sectors e) (i - first_data (length e)) t) k) (is ∙ sym place)
              ∙ get_set_same (data_sectors e) (i - first_data (length e)) t (here x.0 x.1),
          none,
        )
    by j (inr apart) = other (only_now.each j)
      where
        kept : slice_get (data_sectors (slice_set e i t)) j ≡ slice_get (data_sectors e) j
        kept = ap (λ (l : List Sector). slice_get l j) data_is ∙ get_set_other (data_sectors e) (i - first_data (length e)) j t (λ is. apart (is ∙ place))

        other : (slice_get (data_sectors e) j ≡ slice_get (data_sectors d) j) ⊎ ((is_old_needed (data_sectors d) j ≡ false) × (u : Sector) × (slice_get (data_sectors e) j ≡ Some u) × IsNoPage u)
            → (slice_get (data_sectors (slice_set e i t)) j ≡ slice_get (data_sectors d) j) ⊎ ((is_old_needed (data_sectors d) j ≡ false) × (u : Sector) × (slice_get (data_sectors (slice_set e i t)) j ≡ Some u) × IsNoPage u)
        other (inl same) = inl (kept ∙ same)
        other (inr how) = inr (how.0, how.1, kept ∙ how.2, how.3)

-- one sector more
sets : (d e : List Sector) (i : ℕ) (t : Sector) → IsSpare d i → IsNoPage t → Stays d e → Stays d (slice_set e i t)
sets d e i t spare none now = let s = sets_only d e i t spare none now.sectors now.only in record {
  sectors = s.0;
  low = λ j l. get_set_other e i j t (λ is. absurd (omega (arith, is, l, spare.is_data))) ∙ now.low j l;
  only = s.1;
}

pub one : (d e : List Sector) (write : DiskWrite) → IsSpareWrite d write → Stays d e → Stays d (written write e)
one d e (Whole i label page) may now = sets d e i (label, page) may.0 may.1 now
one d e (LabelOnly i label) may now =
    let x = get_some e i (omega (arith, may.0.within, now.sectors)) in
    subst (λ (o : Option Sector). Stays d (option_map_or (λ old. slice_set e i (label, old.1)) o e)) (sym x.1) (sets d e i (label, x.0.1) may.0 (may.1 x.0.1) now)
one d e (Page i wanted page) may now = absurd may

all : (d e : List Sector) (writes : List DiskWrite) → AllByRecursion (IsSpareWrite d) writes → (k : ℕ) → Stays d e → Stays d (fold (λ now write. written write now) e (take k writes))
all d e writes may zero now = now
all d e [] may (suc k) now = now
all d e (write ∷ writes) may (suc k) now = all d (written write e) writes may.1 k (one d e write may.0 now)

pub spare_crash_states : SpareCrashStates
spare_crash_states d writes may k =
    let now = all d d writes may k (begins d) in
    record { sectors = now.sectors; files = old_files_stay d (crash_state d writes k) now.sectors now.only; low = now.low; only = now.only }
