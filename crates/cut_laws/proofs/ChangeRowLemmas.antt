-- Changes of files with syncs between them, of calls in a row.
use Rattle.std.proofs.Common.{◌≡◌, ◌⊎◌, inl, inr, ℕ, suc, ◌+◌, ◌-◌, ◌<◌, ◌≤◌, Bool, false, List, ◌++◌, length, Some, sym, ◌∙◌, subst, arith}
use Rattle.std.specs.Prelude.{slice_get, Contains}
use Rattle.std.proofs.lemmas.Bool.{true≢false}
use Rattle.std.proofs.lemmas.List.{length-append}
use Rattle.std.proofs.lemmas.Option.{same_Some}
use Rattle.labelled_disk.specs.declared.disk.DiskWrite.{DiskWrite}
use Rattle.labelled_disk.specs.declared.disk.DiskWrite.TheVariants.{Whole, LabelOnly, Page}
use Rattle.labelled_disk.specs.CrashState.{crash_state}
use Rattle.labelled_disk.specs.Sectors.{Sector}
use Rattle.labelled_disk.specs.WriteRuns.{after_writes}
use Rattle.labelled_disk.proofs.WriteRunLemmas.{crash_state-earlier, crash_state-later}
use Rattle.label_laws.specs.Cleared.{IsAfterClearing, IsCleared}
use Rattle.cut_laws.specs.ChangesApart.{IsLabelled, IsMark, IsQuiet, IsResize}
use Rattle.cut_laws.specs.ChangeRows.{ApartAreChangesApart, ApartLater, ApartThen, ApartWhetherFailed, AreApart, IsChangeApart, ResizesCleared}
use Rattle.cut_laws.proofs.ApartRowLemmas.{place_in}

pub apart_are_changes_apart : (all : Bool) → ApartAreChangesApart all
apart_are_changes_apart all syncs made d writes failed apart k write here = elim (apart k write here) [
  | inl quiet ↦ inl quiet
  | inr (inl mark) ↦ inr (inl mark)
  | inr (inr (inl goes)) ↦ inr (inr (inl (goes.0, goes.1, elim goes.2 [ inl has ↦ inl has | inr ended ↦ inr ended.1 ])))
  | inr (inr (inr r)) ↦ inr (inr (inr (r.0, r.1, r.2, r.3, λ other at. subst (IsResize all r.0 (crash_state d writes k)) (same_Some write other (sym here ∙ at)) r.4, r.6)))
]

module _ (all : Bool) (syncs : List ℕ) (made : ℕ) (d : List Sector) (first next : List DiskWrite) (failed : Bool) (one : AreApart all syncs made d first false) (more : AreApart all syncs (made + length first) (after_writes first d) next failed) where
  abbrev both : List DiskWrite
  both = first ++ next

  -- a write of the first row
  early_at : (P : List Sector → Type 0) (k : ℕ) → k < length first → P (crash_state d first k) → P (crash_state d both k)
  early_at P k below = subst P (sym (crash_state-earlier d first next k (omega (arith, below))))

  inside : (k : ℕ) (write : DiskWrite) → k < length first → slice_get both k ≡ Some write → slice_get first k ≡ Some write
  inside k write below at = elim (place_in first next k write at) [
    | inl (low, here) ↦ here
    | inr (j, after, here) ↦ absurd (omega (arith, below, after))
  ]

  early_clearing : (since k : ℕ) (write : DiskWrite) → k < length first → IsAfterClearing d first since k write → IsAfterClearing d both since k write
  early_clearing since k (Whole sector label page) below cleared = λ j past by.
      early_at (λ x. (t : Sector) × (slice_get x sector ≡ Some t) × IsCleared t) j (omega (arith, by, below)) (cleared j past by)
  early_clearing since k (LabelOnly sector label) below none = λ j i fresh page past by at. none j i fresh page past by (inside j (Whole i fresh page) (omega (arith, by, below)) at)
  early_clearing since k (Page sector wanted page) below any = tt

  early_resizes : (k : ℕ) (write : DiskWrite) → k < length first → ResizesCleared all syncs made d first k write → ResizesCleared all syncs made d both k write
  early_resizes k write below r = (
    r.0,
    r.1,
    r.2,
    r.3,
    early_at (λ x. IsResize all r.0 x write) k below r.4,
    early_clearing r.1 k write below r.5,
    λ i w past by at.
        let low : i < length first = omega (arith, by, below) in
        early_at (λ x. IsQuiet all x w ⊎ IsResize all r.0 x w) i low (r.6 i w past by (inside i w low at)),
  )

  early_apart : (k : ℕ) (write : DiskWrite) → k < length first → slice_get first k ≡ Some write → IsChangeApart all syncs made d both failed k write
  early_apart k write below here = elim (one k write here) [
    | inl quiet ↦ inl (early_at (λ x. IsQuiet all x write) k below quiet)
    | inr (inl mark) ↦ inr (inl (mark.0, mark.1, early_at (λ x. IsMark all mark.1 x write) k below mark.2))
    | inr (inr (inl goes)) ↦
        inr (inr (inl (
          goes.0,
          (goes.1.0, early_at (λ x. IsLabelled all goes.1.0 x write) k below goes.1.1),
          elim goes.2 [ inl has ↦ inl has | inr ended ↦ absurd (true≢false (sym ended.0)) ],
        )))
    | inr (inr (inr resizes)) ↦ inr (inr (inr (early_resizes k write below resizes)))
  ]

  -- one of the second
  late_at : (P : List Sector → Type 0) (j : ℕ) → P (crash_state (after_writes first d) next j) → P (crash_state d both (length first + j))
  late_at P j = subst P (sym (crash_state-later d first next j))

  moved : (j : ℕ) → Contains syncs (made + length first + j) → Contains syncs (made + (length first + j))
  moved j has = subst (Contains syncs) (let z : made + length first + j ≡ made + (length first + j) = omega arith in z) has

  past_first : (j : ℕ) (write : DiskWrite) → slice_get both (length first + j) ≡ Some write → slice_get next j ≡ Some write
  past_first j write at = elim (place_in first next (length first + j) write at) [
    | inl (low, here) ↦ absurd (omega (arith, low))
    | inr (n, after, here) ↦ subst (λ (i : ℕ). slice_get next i ≡ Some write) (let z : n ≡ j = omega (arith, after) in z) here
  ]

  -- a moment of the second row, counted from its begin
  from_next : (P : ℕ → Type 0) (n : ℕ) → length first ≤ n → P (length first + (n - length first)) → P n
  from_next P n past = subst P (let z : length first + (n - length first) ≡ n = omega (arith, past) in z)

  late_clearing : (since j : ℕ) (write : DiskWrite) → IsAfterClearing (after_writes first d) next since j write → IsAfterClearing d both (length first + since) (length first + j) write
  late_clearing since j (Whole sector label page) cleared = λ n past by.
      from_next (λ i. (t : Sector) × (slice_get (crash_state d both i) sector ≡ Some t) × IsCleared t) n (omega (arith, past))
      (late_at (λ x. (t : Sector) × (slice_get x sector ≡ Some t) × IsCleared t) (n - length first) (cleared (n - length first) (omega (arith, past)) (omega (arith, by, past))))
  late_clearing since j (LabelOnly sector label) none = λ n i fresh page past by at.
      none (n - length first) i fresh page (omega (arith, past)) (omega (arith, by, past))
      (past_first (n - length first) (Whole i fresh page) (subst (λ (m : ℕ). slice_get both m ≡ Some (Whole i fresh page)) (let z : n ≡ length first + (n - length first) = omega (arith, past) in z) at))
  late_clearing since j (Page sector wanted page) any = tt

  late_resizes : (j : ℕ) (write : DiskWrite) → ResizesCleared all syncs (made + length first) (after_writes first d) next j write → ResizesCleared all syncs made d both (length first + j) write
  late_resizes j write r = (
    r.0,
    length first + r.1,
    let low = r.2 in omega (arith, low),
    moved r.1 r.3,
    late_at (λ x. IsResize all r.0 x write) j r.4,
    late_clearing r.1 j write r.5,
    λ i w past by at. elim (place_in first next i w at) [
      | inl (low, here) ↦ absurd (omega (arith, low, past))
      | inr (n, after, here) ↦
          subst (λ (i : ℕ). IsQuiet all (crash_state d both i) w ⊎ IsResize all r.0 (crash_state d both i) w) (sym after)
          (late_at (λ x. IsQuiet all x w ⊎ IsResize all r.0 x w) n (r.6 n w (omega (arith, past, after)) (omega (arith, by, after)) here))
    ],
  )

  late_apart : (j : ℕ) (write : DiskWrite) → slice_get next j ≡ Some write → IsChangeApart all syncs made d both failed (length first + j) write
  late_apart j write here = elim (more j write here) [
    | inl quiet ↦ inl (late_at (λ x. IsQuiet all x write) j quiet)
    | inr (inl mark) ↦ inr (inl (moved j mark.0, mark.1, late_at (λ x. IsMark all mark.1 x write) j mark.2))
    | inr (inr (inl goes)) ↦
        inr (inr (inl (
          moved j goes.0,
          (goes.1.0, late_at (λ x. IsLabelled all goes.1.0 x write) j goes.1.1),
          elim goes.2 [
            | inl has ↦ inl (subst (Contains syncs) (let z : made + length first + suc j ≡ made + suc (length first + j) = omega arith in z) has)
            | inr ended ↦ inr (ended.0, let last = ended.1 in let long : length both ≡ length first + length next = length-append first next in omega (arith, last, long))
          ],
        )))
    | inr (inr (inr resizes)) ↦ inr (inr (inr (late_resizes j write resizes)))
  ]

  both_apart : AreApart all syncs made d both failed
  both_apart k write at = elim (place_in first next k write at) [
    | inl (below, here) ↦ early_apart k write below here
    | inr (j, past, here) ↦ subst (λ (n : ℕ). IsChangeApart all syncs made d both failed n write) (sym past) (late_apart j write here)
  ]

pub apart_then : (all : Bool) → ApartThen all
apart_then all syncs made d first next failed one more = both_apart all syncs made d first next failed one more

pub apart_later : (all : Bool) → ApartLater all
apart_later all syncs later made d writes failed more apart k write here = elim (apart k write here) [
  | inl quiet ↦ inl quiet
  | inr (inl mark) ↦ inr (inl (more (made + k) mark.0, mark.1, mark.2))
  | inr (inr (inl goes)) ↦ inr (inr (inl (more (made + k) goes.0, goes.1, elim goes.2 [ inl has ↦ inl (more (made + suc k) has) | inr ended ↦ inr ended ])))
  | inr (inr (inr r)) ↦ inr (inr (inr (r.0, r.1, r.2, more (made + r.1) r.3, r.4, r.5, r.6)))
]

pub apart_whether_failed : (all : Bool) → ApartWhetherFailed all
apart_whether_failed all syncs made d writes failed apart k write here = elim (apart k write here) [
  | inl quiet ↦ inl quiet
  | inr (inl mark) ↦ inr (inl mark)
  | inr (inr (inl goes)) ↦ inr (inr (inl (goes.0, goes.1, elim goes.2 [ inl has ↦ inl has | inr ended ↦ absurd (true≢false (sym ended.0)) ])))
  | inr (inr (inr resizes)) ↦ inr (inr (inr resizes))
]
