-- Writes of root and maps, which leave the data sectors.
use Rattle.std.proofs.Common.{◌≡◌, ◌≢◌, ◌⊎◌, inl, inr, ℕ, zero, suc, ◌+◌, ◌-◌, ◌<◌, ◌≤◌, Bool, true, false, List, [], ◌∷◌, ◌++◌, length, map, Option, Some, refl, sym, ◌∙◌, ap, subst, arith, length-set}
use Rattle.std.specs.Prelude.{slice_get, slice_set}
use Rattle.std.specs.List.{AllByRecursion, range_with_len}
use Rattle.std.proofs.lemmas.Bool.{cases_lt, cases_eq, le-leb, lt-leb, and_from, eq-eqb}
use Rattle.std.proofs.lemmas.List.FromFn.{map-range_with_len_more}
use Rattle.labelled_disk.specs.declared.disk.DiskWrite.{DiskWrite}
use Rattle.labelled_disk.specs.declared.disk.DiskWrite.TheVariants.{Whole}
use Rattle.labelled_disk.specs.declared.label.Label.{Label}
use Rattle.labelled_disk.specs.Label.{names, page_label}
use Rattle.labelled_disk.specs.Layout.{data_sectors, first_data}
use Rattle.labelled_disk.specs.CrashState.{written, crash_state}
use Rattle.labelled_disk.specs.Root.{LabelsRight}
use Rattle.labelled_disk.specs.Sectors.{Sector}
use Rattle.labelled_disk.specs.WriteRuns.{after_writes}
use Rattle.labelled_disk.proofs.Finds.{get_set_same, get_set_other}
use Rattle.labelled_disk.proofs.WriteLemmas as laws
use Rattle.labelled_disk.proofs.WriteRunLemmas.{after_writes-append}
use Rattle.label_laws.specs.MapLabels.{map_page, MapRelabelled}
use Rattle.page_tree.specs.Page.{page_at}
use Rattle.scavenger.specs.Orders.{map_writes}
use Rattle.scavenger.proofs.CrashStateLemmas.{AtEach}

-- The data sectors and the root are the same, and labels stay right.
pub record IsLow (d e : List Sector) : Type 0 where
  pub sectors : length e ≡ length d
  pub same_data : data_sectors e ≡ data_sectors d
  pub root : slice_get e 0 ≡ slice_get d 0
  pub right : LabelsRight d → LabelsRight e

pub low_itself : (d : List Sector) → IsLow d d
low_itself d = record { sectors = refl; same_data = refl; root = refl; right = λ r. r }

pub low_then : {d e f : List Sector} → IsLow d e → IsLow e f → IsLow d f
low_then one more = record {
  sectors = more.sectors ∙ one.sectors;
  same_data = more.same_data ∙ one.same_data;
  root = more.root ∙ one.root;
  right = λ r. more.right (one.right r);
}

-- a sector of a map gets the label of its page
pub record IsMapWrite (n : ℕ) (w : DiskWrite) : Type 0 where
  pub place : ℕ
  pub label : Label
  pub page : List ℕ
  pub is : w ≡ Whole place label page
  pub above : 0 < place
  pub below : place < first_data n
  pub named : names label (map_page n place) ≡ true

module _ (relabelled : MapRelabelled false) where
  low_one : (d : List Sector) (w : DiskWrite) → IsMapWrite (length d) w → IsLow d (written w d)
  low_one d w m =
      let t : Sector = (m.label, m.page) in
      subst (λ (v : DiskWrite). IsLow d (written v d)) (sym m.is) (record {
        sectors = length-set d m.place t;
        same_data = laws.data_past false 0 0 d m.place t m.below;
        root = get_set_other d m.place 0 t (λ e. omega (arith, e, m.above));
        right = λ r. (relabelled d m.place t r m.above m.below m.named).right;
      })

  pub low_crash_states : (n : ℕ) (writes : List DiskWrite) → AllByRecursion (IsMapWrite n) writes → (d : List Sector) → length d ≡ n → AtEach (IsLow d) d writes
  low_crash_states n writes all d long zero = low_itself d
  low_crash_states n [] all d long (suc k) = low_itself d
  low_crash_states n (w ∷ writes) all d long (suc k) =
      let one = low_one d w (subst (λ (m : ℕ). IsMapWrite m w) (sym long) all.0) in
      low_then one (low_crash_states n writes all.1 (written w d) (one.sectors ∙ long) k)

-- each element of a list by a function
each_made : {X : Type 0} (P : X → Type 0) (f : ℕ → X) (a n : ℕ) → ((i : ℕ) → a ≤ i → i < a + n → P (f i)) → AllByRecursion P (map f (range_with_len a n))
each_made P f a zero each = tt
each_made P f a (suc n) each = (each a (omega arith) (omega arith), each_made P f (a + 1) n (λ i from below. each i (omega (arith, from)) (omega (arith, below))))

pub labelled_so : (id page : ℕ) → names (page_label id 0 page) (record { id = id; page = page }) ≡ true
labelled_so id page = rw (eq-eqb id id refl, eq-eqb page page refl) refl

-- the writes of a map
pub map_writes_are : (n id first : ℕ) (bytes : List ℕ) (pages : ℕ) → 1 ≤ first → first + pages ≤ first_data n
    → ((i : ℕ) → i < pages → map_page n (first + i) ≡ record { id = id; page = i }) → AllByRecursion (IsMapWrite n) (map_writes id first bytes pages)
map_writes_are n id first bytes pages some within page_is =
    each_made (IsMapWrite n) (λ i. Whole (first + i) (page_label id 0 i) (page_at bytes i)) 0 pages (λ i from below. record {
      place = first + i;
      label = page_label id 0 i;
      page = page_at bytes i;
      is = refl;
      above = omega (arith, some);
      below = omega (arith, within, below);
      named = ap (names (page_label id 0 i)) (page_is i (omega (arith, below))) ∙ labelled_so id i;
    })

-- what stands in the sectors of a map that was written
module _ (id first : ℕ) (bytes : List ℕ) (d : List Sector) where
  abbrev one : ℕ → DiskWrite
  one i = Whole (first + i) (page_label id 0 i) (page_at bytes i)

  abbrev pub map_written : ℕ → List Sector
  map_written n = after_writes (map_writes id first bytes n) d

  more : (n : ℕ) → map_written (suc n) ≡ slice_set (map_written n) (first + n) (page_label id 0 n, page_at bytes n)
  more n =
      let s : suc n ≡ n + 1 = omega arith in
      ap (λ (m : ℕ). map_written m) s
      ∙ ap (λ (ws : List DiskWrite). after_writes ws d) (map-range_with_len_more one 0 n n (omega arith))
      ∙ sym (after_writes-append (map_writes id first bytes n) (one n ∷ []) d)

  pub map_long : (n : ℕ) → length (map_written n) ≡ length d
  map_long zero = refl
  map_long (suc n) = ap (λ (e : List Sector). length e) (more n) ∙ length-set (map_written n) (first + n) (page_label id 0 n, page_at bytes n) ∙ map_long n

  pub map_there : (n k : ℕ) → k < n → first + n ≤ length d → slice_get (map_written n) (first + k) ≡ Some (page_label id 0 k, page_at bytes k)
  map_there zero k low within = absurd (omega (arith, low))
  map_there (suc n) k low within =
      ap (λ (e : List Sector). slice_get e (first + k)) (more n) ∙ either (cases_eq k n) (λ apart. map_there n k (omega (arith, low, apart)) (omega (arith, within)))
    where
      either : (k ≡ n) ⊎ (k ≢ n) → (k ≢ n → slice_get (map_written n) (first + k) ≡ Some (page_label id 0 k, page_at bytes k)) → slice_get (slice_set (map_written n) (first + n) (page_label id 0 n, page_at bytes n)) (first + k) ≡ Some (page_label id 0 k, page_at bytes k)
      either (inl same) before =
          subst (λ (m : ℕ). slice_get (slice_set (map_written n) (first + n) (page_label id 0 n, page_at bytes n)) (first + m) ≡ Some (page_label id 0 m, page_at bytes m)) (sym same)
          (get_set_same (map_written n) (first + n) (page_label id 0 n, page_at bytes n) (omega (arith, within, map_long n)))
      either (inr apart) before =
          get_set_other (map_written n) (first + n) (first + k) (page_label id 0 n, page_at bytes n) (λ e. apart (omega (arith, e)))
          ∙ before apart

  pub map_other : (n j : ℕ) → (j < first) ⊎ (first + n ≤ j) → slice_get (map_written n) j ≡ slice_get d j
  map_other zero j out = refl
  map_other (suc n) j out =
      ap (λ (e : List Sector). slice_get e j) (more n)
      ∙ get_set_other (map_written n) (first + n) j (page_label id 0 n, page_at bytes n) (λ e. apart e out)
      ∙ map_other n j (still out)
    where
      apart : j ≡ first + n → (j < first) ⊎ (first + suc n ≤ j) → ⊥
      apart e (inl l) = omega (arith, e, l)
      apart e (inr l) = omega (arith, e, l)

      still : (j < first) ⊎ (first + suc n ≤ j) → (j < first) ⊎ (first + n ≤ j)
      still (inl l) = inl l
      still (inr l) = inr (omega (arith, l))
