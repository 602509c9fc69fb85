-- Crash states of a conversion.
use Rattle.std.proofs.Common.{◌≡◌, ◌⊎◌, inl, inr, ℕ, zero, suc, ◌<◌, ◌≤◌, false, List, [], ◌∷◌, ◌++◌, length, Option, refl, sym, ◌∙◌, ap, subst, arith, take, length-set}
use Rattle.std.specs.Prelude.{slice_get, slice_set, fold}
use Rattle.std.specs.Option.{option_map_or}
use Rattle.std.specs.List.{AllByRecursion}
use Rattle.labelled_disk.specs.declared.disk.DiskWrite.{DiskWrite}
use Rattle.labelled_disk.specs.declared.disk.DiskWrite.TheVariants.{Whole, LabelOnly, Page}
use Rattle.labelled_disk.specs.Sectors.{Sector}
use Rattle.labelled_disk.specs.Layout.{data_sectors, first_data}
use Rattle.labelled_disk.specs.CrashState.{crash_state, written}
use Rattle.labelled_disk.specs.WriteRuns.{after_writes}
use Rattle.labelled_disk.proofs.Finds.{get_set_other}
use Rattle.labelled_disk.proofs.WriteLemmas as laws
use Rattle.old_files.specs.Laws.{OnlyUnneeded}
use Rattle.old_files.specs.Arranging.{IsSpareWrite}
use Rattle.old_files.specs.Conversion.{IsMapWrite, CrashStatesBeforeRoot, RootIsOverwritten}
use Rattle.old_files.proofs.StayLemmas.{old_files_stay, get_some}
use Rattle.old_files.proofs.CrashStateLemmas.{sets_only}

-- what holds of each crash state
record Now (d e : List Sector) : Type 0 where
  sectors : length e ≡ length d
  root : slice_get e 0 ≡ slice_get d 0
  only : OnlyUnneeded (data_sectors d) (data_sectors e)

-- a write to a map
mapped : (d e : List Sector) (write : DiskWrite) → IsMapWrite d write → Now d e → Now d (written write e)
mapped d e (Whole i label page) may now = record {
  sectors = length-set e i (label, page) ∙ now.sectors;
  root = get_set_other e i 0 (label, page) (λ is. absurd (omega (arith, is, may.0))) ∙ now.root;
  only = subst (λ (l : List Sector). OnlyUnneeded (data_sectors d) l) (sym (laws.data_past false 0 0 e i (label, page) (subst (λ (n : ℕ). i < first_data n) (sym now.sectors) may.1))) now.only;
}
mapped d e (LabelOnly i label) may now = absurd may
mapped d e (Page i wanted page) may now = absurd may

-- a write to a sector that no old file needs
blameless : (d e : List Sector) (write : DiskWrite) → IsSpareWrite d write → Now d e → Now d (written write e)
blameless d e (Whole i label page) may now =
    let root = get_set_other e i 0 (label, page) (λ is. absurd (omega (arith, is, may.0.is_data, laws.first_positive false 0 0 (length d)))) ∙ now.root in
    let s = sets_only d e i (label, page) may.0 may.1 now.sectors now.only in
    record { sectors = s.0; root = root; only = s.1 }
blameless d e (LabelOnly i label) may now =
    let x = get_some e i (omega (arith, may.0.within, now.sectors)) in
    let root = get_set_other e i 0 (label, x.0.1) (λ is. absurd (omega (arith, is, may.0.is_data, laws.first_positive false 0 0 (length d)))) ∙ now.root in
    let s = sets_only d e i (label, x.0.1) may.0 (may.1 x.0.1) now.sectors now.only in
    subst (λ (o : Option Sector). Now d (option_map_or (λ old. slice_set e i (label, old.1)) o e)) (sym x.1) (record { sectors = s.0; root = root; only = s.1 })
blameless d e (Page i wanted page) may now = absurd may

all : (d e : List Sector) (writes : List DiskWrite) → AllByRecursion (λ w. IsSpareWrite d w ⊎ IsMapWrite d w) writes → (k : ℕ) → Now d e → Now d (fold (λ now write. written write now) e (take k writes))
all d e writes may zero now = now
all d e [] may (suc k) now = now
all d e (write ∷ writes) may (suc k) now = all d (written write e) writes may.1 k (by may.0)
  where
    by : IsSpareWrite d write ⊎ IsMapWrite d write → Now d (written write e)
    by (inl a) = blameless d e write a now
    by (inr b) = mapped d e write b now

take_prefix : (writes : List DiskWrite) (last : DiskWrite) (k : ℕ) → k ≤ length writes → take k (writes ++ last ∷ []) ≡ take k writes
take_prefix writes last zero l = refl
take_prefix [] last (suc k) l = absurd (omega arith)
take_prefix (write ∷ writes) last (suc k) l = ap (λ (rest : List DiskWrite). write ∷ rest) (take_prefix writes last k (omega arith))

pub crash_states_before_root : CrashStatesBeforeRoot
crash_states_before_root d writes last may k below =
    let now = subst (λ (ws : List DiskWrite). Now d (fold (λ now write. written write now) d ws)) (sym (take_prefix writes last k below))
    (all d d writes may k (record { sectors = refl; root = refl; only = record { same_length = refl; each = λ i. inl refl } })) in
    record { sectors = now.sectors; root = now.root; files = old_files_stay d (crash_state d (writes ++ last ∷ []) k) now.sectors now.only }

-- Sector 0 is overwritten in the end.

set_apart : (xs : List Sector) (i : ℕ) (s t : Sector) → 0 < i → slice_set (slice_set xs 0 s) i t ≡ slice_set (slice_set xs i t) 0 s
set_apart [] i s t l = refl
set_apart (x ∷ xs) zero s t l = absurd (omega arith)
set_apart (x ∷ xs) (suc i) s t l = refl

set_twice : (xs : List Sector) (s t : Sector) → slice_set (slice_set xs 0 s) 0 t ≡ slice_set xs 0 t
set_twice [] s t = refl
set_twice (x ∷ xs) s t = refl

pub root_is_overwritten : RootIsOverwritten
root_is_overwritten d writes label page t may = go d writes may
  where
    go : (e : List Sector) (writes : List DiskWrite) → AllByRecursion (IsMapWrite d) writes → after_writes (writes ++ Whole 0 label page ∷ []) (slice_set e 0 t) ≡ after_writes (writes ++ Whole 0 label page ∷ []) e
    go e [] may = set_twice e t (label, page)
    go e (Whole i l p ∷ writes) may =
        ap (λ (x : List Sector). after_writes (writes ++ Whole 0 label page ∷ []) x) (set_apart e i t (l, p) may.0.0) ∙ go (slice_set e i (l, p)) writes may.1
    go e (LabelOnly i l ∷ writes) may = absurd may.0
    go e (Page i w p ∷ writes) may = absurd may.0
