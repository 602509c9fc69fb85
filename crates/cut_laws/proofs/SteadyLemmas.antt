-- Sectors that are the same in each crash state, as far as a test of labels sees, are so in a cut.
use Rattle.std.proofs.Common.{◌≡◌, ◌≢◌, ◌⊎◌, inl, inr, ℕ, ◌+◌, ◌-◌, ◌≤◌, Bool, true, false, ◌&&◌, List, [], map, length, Option, Some, None, refl, sym, ◌∙◌, ap, subst, arith, eqb}
use Rattle.std.specs.Prelude.{slice_get, find, option_map}
use Rattle.std.proofs.lemmas.Bool.{true≢false, ne_eqb}
use Rattle.std.proofs.lemmas.List.{length-drop}
use Rattle.std.proofs.lemmas.Option.{same_Some, none-some}
use Rattle.labelled_disk.specs.declared.label.Label.{Label}
use Rattle.labelled_disk.specs.declared.disk.DiskWrite.{DiskWrite}
use Rattle.labelled_disk.specs.File.{Page, byte}
use Rattle.labelled_disk.specs.FilesOn.{is_of, is_page, leads_file, page_at}
use Rattle.labelled_disk.specs.Label.{is_file}
use Rattle.labelled_disk.specs.Layout.{data_sectors, first_data}
use Rattle.labelled_disk.specs.CrashState.{crash_state}
use Rattle.labelled_disk.specs.Sectors.{Sector}
use Rattle.labelled_disk.proofs.SectorWrites as w
use Rattle.label_laws.proofs.MixedLemmas.{crash_state_long}
use Rattle.cut_laws.specs.Cut.{unit, AtSome, IsCutSince}
use Rattle.cut_laws.specs.Windows.{disk_page}
use Rattle.cut_laws.proofs.UnitLemmas.{same_units, unit-map}
use Rattle.cut_laws.proofs.CrashStateLemmas.{get_some, data_at, at_crash_state}
use Rattle.cut_laws.proofs.PairLemmas.{Pairs, Alike, alike_sym, alike_then, alike_test, alike_passes, lowest, find_lowest, lowest_pair, find_pair}

-- the same sector, or both fail
abbrev pub SameBy : (Label → Bool) → Sector → Sector → Type 0
SameBy test s t = (t ≡ s) ⊎ ((test s.0 ≡ false) × (test t.0 ≡ false))

pub same_then : (test : Label → Bool) (s t u : Sector) → SameBy test s t → SameBy test t u → SameBy test s u
same_then test s t u (inl e) (inl f) = inl (f ∙ e)
same_then test s t u (inl e) (inr f) = inr (ap (λ (v : Sector). test v.0) (sym e) ∙ f.0, f.1)
same_then test s t u (inr e) (inl f) = inr (e.0, ap (λ (v : Sector). test v.0) f ∙ e.1)
same_then test s t u (inr e) (inr f) = inr (e.0, f.1)

pub same_alike : (test : Label → Bool) (s t : Sector) → SameBy test s t → Alike test s.0 t.0
same_alike test s t (inl e) = inl (ap (λ (v : Sector). v.0) (sym e))
same_alike test s t (inr f) = inr f

pub same_passes : (test : Label → Bool) (s t : Sector) → SameBy test s t → test s.0 ≡ true → t ≡ s
same_passes test s t (inl e) passes = e
same_passes test s t (inr f) passes = absurd (true≢false (sym passes ∙ f.0))

-- the data sectors of two disks of one length, sector by sector
pub data_pairs : (R : Sector → Sector → Type 0) (d e : List Sector) → length e ≡ length d
    → ((i : ℕ) (s t : Sector) → first_data (length d) ≤ i → slice_get d i ≡ Some s → slice_get e i ≡ Some t → R s t) → Pairs R (data_sectors d) (data_sectors e)
data_pairs R d e long each = record {
  long = length-drop (first_data (length e)) e ∙ ap (λ (n : ℕ). n - first_data n) long ∙ sym (length-drop (first_data (length d)) d);
  each = λ i s t here there.
      each (first_data (length d) + i) s t (omega arith) (sym (data_at d i) ∙ here) (ap (λ (n : ℕ). slice_get e (first_data n + i)) (sym long) ∙ sym (data_at e i) ∙ there);
}

-- in each crash state alike, as far as the test sees
abbrev pub Steady : (Label → Bool) → List Sector → List DiskWrite → Type 0
Steady test d writes = (i : ℕ) (s : Sector) → first_data (length d) ≤ i → slice_get d i ≡ Some s
    → (k : ℕ) → k ≤ length writes → (t : Sector) → slice_get (crash_state d writes k) i ≡ Some t → Alike test s.0 t.0

abbrev pub Still : (Label → Bool) → List Sector → List DiskWrite → Type 0
Still test d writes = (i : ℕ) (s : Sector) → first_data (length d) ≤ i → slice_get d i ≡ Some s
    → (k : ℕ) → k ≤ length writes → (t : Sector) → slice_get (crash_state d writes k) i ≡ Some t → SameBy test s t

module _ (d : List Sector) (writes : List DiskWrite) (e : List Sector) (cut : IsCutSince d writes e) where
  -- a sector of the cut stood in each crash state
  pub before : (i : ℕ) (t : Sector) (j : ℕ) → slice_get e i ≡ Some t → (s : Sector) × (slice_get (crash_state d writes j) i ≡ Some s)
  before i t j there =
      let one = cut.labels i t there in
      let s = one.3.0 in
      get_some (crash_state d writes j) i (omega (arith, at_crash_state (crash_state d writes one.0) [] 0 i s one.3.1, crash_state_long d writes one.0, crash_state_long d writes j))

  pub steady_cut : (test : Label → Bool) → Steady test d writes → (i : ℕ) (s t : Sector) → first_data (length d) ≤ i → slice_get d i ≡ Some s → slice_get e i ≡ Some t → Alike test s.0 t.0
  steady_cut test steady i s t low here there =
      let one = cut.labels i t there in
      let alike = steady i s low here one.0 one.2 one.3.0 one.3.1 in
      subst (λ (l : Label). Alike test s.0 l) one.3.2 alike

  -- and so in each crash state
  pub steady_pairs : (test : Label → Bool) → Steady test d writes → (j : ℕ) → j ≤ length writes → Pairs (λ s t. Alike test s.0 t.0) (data_sectors (crash_state d writes j)) (data_sectors e)
  steady_pairs test steady j few =
      data_pairs (λ s t. Alike test s.0 t.0) (crash_state d writes j) e (cut.sectors ∙ sym (crash_state_long d writes j)) (λ i s t low here there.
      let low' : first_data (length d) ≤ i = subst (λ (n : ℕ). first_data n ≤ i) (crash_state_long d writes j) low in
      let first = before i t 0 there in
      alike_then test s.0 first.0.0 t.0 (alike_sym test first.0.0 s.0 (steady i first.0 low' first.1 j few s here)) (steady_cut test steady i first.0 t low' first.1 there))

  pub still_cut : (test : Label → Bool) → Still test d writes → (i : ℕ) (s t : Sector) → first_data (length d) ≤ i → slice_get d i ≡ Some s → slice_get e i ≡ Some t → SameBy test s t
  still_cut test still i s t low here there = either (test s.0) refl
    where
      alike : Alike test s.0 t.0
      alike = steady_cut test (λ i s low here k few t there. same_alike test s t (still i s low here k few t there)) i s t low here there

      either : (b : Bool) → test s.0 ≡ b → SameBy test s t
      either false f = inr (f, alike_test test s.0 t.0 alike ∙ f)
      either true f =
          let label : s.0 ≡ t.0 = alike_passes test s.0 t.0 alike f in
          let page : s.1 ≡ t.1 = same_units s.1 t.1 (λ u.
          let one = cut.units i u t there in
          let same : one.3.0 ≡ s = same_passes test s one.3.0 (still i s low here one.0 one.2 one.3.0 one.3.1) f in
          ap (λ (v : Sector). unit u v.1) (sym same) ∙ one.3.2) in
          inl (λ x. (sym label x, sym page x))

  pub still_pairs : (test : Label → Bool) → Still test d writes → Pairs (SameBy test) (data_sectors d) (data_sectors e)
  still_pairs test still = data_pairs (SameBy test) d e cut.sectors (λ i s t low here there. still_cut test still i s t low here there)

  -- the sector of the cut that is a page
  pub found_page : (id p : ℕ) (cells : Page) → disk_page e id p ≡ Some cells → (t : Sector) × (find (is_page id p) (data_sectors e) ≡ Some t) × (map byte t.1 ≡ cells)
  found_page id p cells is = either (find (is_page id p) (data_sectors e)) refl is
    where
      either : (o : Option Sector) → find (is_page id p) (data_sectors e) ≡ o → option_map (λ s. map byte s.1) o ≡ Some cells → (t : Sector) × (find (is_page id p) (data_sectors e) ≡ Some t) × (map byte t.1 ≡ cells)
      either None f h = absurd (none-some cells h)
      either (Some t) f h = (t, f, same_Some (map byte t.1) cells h)

  -- where the same sectors are a page in each crash state, its units are of crash states
  pub steady_units : (id p : ℕ) → Steady (λ l. is_page id p (l, [])) d writes → (u : ℕ) (cells : Page) → disk_page e id p ≡ Some cells
      → AtSome 0 (length writes) (λ j. option_map (unit u) (disk_page (crash_state d writes j) id p) ≡ Some (unit u cells))
  steady_units id p steady u cells is =
      let t = found_page id p cells is in
      let low = lowest (is_page id p) (data_sectors e) t.0 t.1 in
      let one = cut.units (first_data (length e) + low.0) u t.0 (sym (data_at e low.0) ∙ low.1.here) in
      let long : length (crash_state d writes one.0) ≡ length e = crash_state_long d writes one.0 ∙ sym cut.sectors in
      let there = lowest_pair (λ s t. Alike (λ l. is_page id p (l, [])) s.0 t.0) (data_sectors (crash_state d writes one.0)) (data_sectors e) (steady_pairs (λ l. is_page id p (l, [])) steady one.0 one.2)
      (is_page id p) (λ s t alike. alike_test (λ l. is_page id p (l, [])) s.0 t.0 alike) low.0 t.0 low.1 in
      let same : there.0 ≡ one.3.0 = same_Some there.0 one.3.0
      (sym there.1.here ∙ data_at (crash_state d writes one.0) low.0 ∙ ap (λ (n : ℕ). slice_get (crash_state d writes one.0) (first_data n + low.0)) long ∙ one.3.1) in (
        one.0,
        one.1,
        one.2,
        ap (λ (o : Option Sector). option_map (unit u) (option_map (λ s. map byte s.1) o)) (find_lowest (is_page id p) (data_sectors (crash_state d writes one.0)) low.0 there.0 there.1)
            ∙ ap (λ l. Some l) (unit-map byte u there.0.1 ∙ ap (λ (v : Sector). map byte (unit u v.1)) same ∙ ap (λ l. map byte l) one.3.2 ∙ sym (unit-map byte u t.0.1) ∙ ap (unit u) t.2),
      )

-- the page of sectors that are the same
pub page_pairs : (id p : ℕ) (xs ys : List Sector) → Pairs (SameBy (λ l. is_page id p (l, []))) xs ys → page_at ys id p ≡ page_at xs id p
page_pairs id p xs ys pairs =
    either (find_pair (SameBy (λ l. is_page id p (l, []))) xs ys pairs (is_page id p)
    (λ s t same. alike_test (λ l. is_page id p (l, [])) s.0 t.0 (same_alike (λ l. is_page id p (l, [])) s t same)))
  where
    seen : Option Sector → Option Page
    seen o = option_map (λ s. map byte s.1) o

    either : ((find (is_page id p) xs ≡ None) × (find (is_page id p) ys ≡ None))
        ⊎ ((s : Sector) × (t : Sector) × (find (is_page id p) xs ≡ Some s) × (find (is_page id p) ys ≡ Some t) × SameBy (λ l. is_page id p (l, [])) s t × (is_page id p s ≡ true))
        → page_at ys id p ≡ page_at xs id p
    either (inl none) = ap (λ (o : Option Sector). option_map (λ s. map byte s.1) o) (none.1 ∙ sym none.0)
    either (inr two) =
        ap (λ (o : Option Sector). option_map (λ s. map byte s.1) o) (two.3 ∙ ap (λ (v : Sector). Some v) (same_passes (λ l. is_page id p (l, [])) two.0 two.1 two.4 two.5) ∙ sym two.2)

-- tests that are narrower than being of a file
pub not_of-not_page : (id p : ℕ) (l : Label) → is_of id (l, []) ≡ false → is_page id p (l, []) ≡ false
not_of-not_page id p l fails = w.not_of-not_page true id p (l, []) fails

pub not_of-not_leader : (all : Bool) (id : ℕ) (l : Label) → is_of id (l, []) ≡ false → leads_file all id (l, []) ≡ false
not_of-not_leader all id l fails = w.not_of-not_leader all id (l, []) fails

pub other_id : (id : ℕ) (l : Label) → l.id ≢ id → is_of id (l, []) ≡ false
other_id id l apart = either (is_file l)
  where
    either : (b : Bool) → (b && eqb l.id id) ≡ false
    either true = ne_eqb l.id id apart
    either false = refl
