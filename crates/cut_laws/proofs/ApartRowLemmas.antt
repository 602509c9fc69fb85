-- Labels with syncs between them, of calls in a row.
use Rattle.std.proofs.Common.{◌≡◌, ◌⊎◌, inl, inr, ℕ, zero, suc, ◌+◌, ◌<◌, Bool, true, false, List, [], ◌∷◌, ◌++◌, length, Some, sym, ◌∙◌, subst, arith}
use Rattle.std.specs.Prelude.{slice_get, Contains}
use Rattle.std.proofs.lemmas.Bool.{true≢false}
use Rattle.std.proofs.lemmas.List.{length-append}
use Rattle.labelled_disk.specs.declared.disk.DiskWrite.{DiskWrite}
use Rattle.labelled_disk.specs.declared.disk.DiskWrite.TheVariants.{Whole, LabelOnly, Page}
use Rattle.labelled_disk.specs.CrashState.{crash_state}
use Rattle.labelled_disk.specs.Sectors.{Sector}
use Rattle.labelled_disk.specs.WriteRuns.{after_writes}
use Rattle.labelled_disk.proofs.WriteRunLemmas.{crash_state-earlier, crash_state-later}
use Rattle.label_laws.specs.Mixed.{gives_label}
use Rattle.cut_laws.specs.LabelsApart.{AreLabelsApart, ArePagesApart, IsAtMostPageOf, IsLabelApart, IsLabelOfPermanent, IsLeaderApart, LabelsApartThen, PagesAreApart}
use Rattle.cut_laws.specs.LeaderWrites.{WritesLeader}

-- a place in two rows
pub place_in : (xs ys : List DiskWrite) (k : ℕ) (x : DiskWrite) → slice_get (xs ++ ys) k ≡ Some x
    → ((k < length xs) × (slice_get xs k ≡ Some x)) ⊎ ((j : ℕ) × (k ≡ length xs + j) × (slice_get ys j ≡ Some x))
place_in [] ys k x is = inr (k, let z : k ≡ 0 + k = omega arith in z, is)
place_in (y ∷ xs) ys zero x is = inl (omega arith, is)
place_in (y ∷ xs) ys (suc k) x is = elim (place_in xs ys k x is) [
  | inl (below, here) ↦ inl (omega (arith, below), here)
  | inr (j, past, here) ↦ inr (j, let z : suc k ≡ suc (length xs) + j = omega (arith, past) in z, here)
]

module _ (d : List Sector) (made : ℕ) (first next : List DiskWrite) (syncs : List ℕ) (failed : Bool) (one : AreLabelsApart syncs made d first false) (more : AreLabelsApart syncs (made + length first) (after_writes first d) next failed) where
  abbrev both : List DiskWrite
  both = first ++ next

  -- a write of the first row
  early : (k : ℕ) → k < length first → crash_state d both k ≡ crash_state d first k
  early k below = crash_state-earlier d first next k (omega (arith, below))

  early_pages : (id k : ℕ) → k < length first → ArePagesApart syncs made d first id k → ArePagesApart syncs made d both id k
  early_pages id k below (since, low, has, most) = (
    since,
    low,
    has,
    λ i write past by at. elim (place_in first next i write at) [
      | inl (inside, here) ↦ subst (λ (x : List Sector). IsAtMostPageOf id x write) (sym (early i inside)) (most i write past by here)
      | inr (j, after, here) ↦ absurd (omega (arith, by, below, after))
    ],
  )

  early_apart : (k : ℕ) (write : DiskWrite) (id : ℕ) → k < length first → slice_get first k ≡ Some write → IsLabelApart syncs made d both failed id k write
  early_apart k write id below here =
      let is = one k write id here in (
        λ leader.
            let apart = is.0 (subst (λ (x : List Sector). WritesLeader id x write) (early k below) leader) in
            (apart.0, λ frees. elim (apart.1 frees) [ inl has ↦ inl has | inr ended ↦ absurd (true≢false (sym ended.0)) ]),
        λ label. elim (is.1 (subst (λ (x : List Sector). IsLabelOfPermanent id x write) (early k below) label)) [
          | inl leader ↦ inl (subst (λ (x : List Sector). WritesLeader id x write) (sym (early k below)) leader)
          | inr pages ↦ inr (early_pages id k below pages)
        ],
      )

  -- one of the second
  late : (j : ℕ) → crash_state d both (length first + j) ≡ crash_state (after_writes first d) next j
  late j = crash_state-later d first next j

  moved : (j : ℕ) → Contains syncs (made + length first + j) → Contains syncs (made + (length first + j))
  moved j has = subst (Contains syncs) (let z : made + length first + j ≡ made + (length first + j) = omega arith in z) has

  late_pages : (id j : ℕ) → ArePagesApart syncs (made + length first) (after_writes first d) next id j → ArePagesApart syncs made d both id (length first + j)
  late_pages id j (since, low, has, most) = (
    length first + since,
    omega (arith, low),
    moved since has,
    λ i write past by at. elim (place_in first next i write at) [
      | inl (inside, here) ↦ absurd (omega (arith, inside, past))
      | inr (n, after, here) ↦
          subst (λ (x : ℕ). IsAtMostPageOf id (crash_state d both x) write) (sym after)
          (subst (λ (x : List Sector). IsAtMostPageOf id x write) (sym (late n)) (most n write (omega (arith, past, after)) (omega (arith, by, after)) here))
    ],
  )

  late_apart : (j : ℕ) (write : DiskWrite) (id : ℕ) → slice_get next j ≡ Some write → IsLabelApart syncs made d both failed id (length first + j) write
  late_apart j write id here =
      let is = more j write id here in (
        λ leader.
            let apart = is.0 (subst (λ (x : List Sector). WritesLeader id x write) (late j) leader) in (
              moved j apart.0,
              λ frees. elim (apart.1 frees) [
                | inl has ↦ inl (subst (Contains syncs) (let z : made + length first + suc j ≡ made + suc (length first + j) = omega arith in z) has)
                | inr ended ↦ inr (ended.0, let last = ended.1 in let long : length both ≡ length first + length next = length-append first next in omega (arith, last, long))
              ],
            ),
        λ label. elim (is.1 (subst (λ (x : List Sector). IsLabelOfPermanent id x write) (late j) label)) [
          | inl leader ↦ inl (subst (λ (x : List Sector). WritesLeader id x write) (sym (late j)) leader)
          | inr pages ↦ inr (late_pages id j pages)
        ],
      )

  apart_then : AreLabelsApart syncs made d both failed
  apart_then k write id at = elim (place_in first next k write at) [
    | inl (below, here) ↦ early_apart k write id below here
    | inr (j, past, here) ↦ subst (λ (n : ℕ). IsLabelApart syncs made d both failed id n write) (sym past) (late_apart j write id here)
  ]

pub labels_then : LabelsApartThen
labels_then d made first next syncs failed one more = apart_then d made first next syncs failed one more

pub pages_apart : PagesAreApart
pages_apart d made writes syncs failed pages k write id at = (
  λ leader. no_leader write leader (pages k write at),
  λ label. absurd (true≢false (sym label.0.0 ∙ pages k write at)),
)
  where
    no_leader : (write : DiskWrite) → WritesLeader id (crash_state d writes k) write → gives_label write ≡ false → IsLeaderApart syncs made d writes failed k write
    no_leader (Whole sector label page) leader none = absurd leader
    no_leader (LabelOnly sector label) leader none = absurd (true≢false none)
    no_leader (Page sector wanted page) leader none = absurd leader
