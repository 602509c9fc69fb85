-- Two lists of sectors, sector by sector: the lowest that pass, the leader and the pages of a file.
use Rattle.std.proofs.Common.{◌≡◌, ◌⊎◌, inl, inr, ℕ, zero, suc, ◌+◌, ◌<◌, Bool, true, false, cond, List, [], ◌∷◌, map, length, Option, Some, None, refl, sym, ◌∙◌, ap, subst, arith}
use Rattle.std.specs.Prelude.{slice_get, find, option_map}
use Rattle.std.proofs.lemmas.Bool.{true≢false}
use Rattle.std.proofs.lemmas.Option.{same_Some, none-some, slice_get_within}
use Rattle.labelled_disk.specs.declared.label.Label.{Label}
use Rattle.labelled_disk.specs.File.{Page, byte}
use Rattle.labelled_disk.specs.FilesOn.{is_page, leads_file, leader_among, page_at, pages_from, file_by, file_among}
use Rattle.labelled_disk.specs.Label.{leader_page, is_permanent, is_immutable}
use Rattle.labelled_disk.specs.Lowest.{IsLowest}
use Rattle.labelled_disk.specs.Sectors.{Sector}
use Rattle.labelled_disk.proofs.Finds.{none_passes, find_none}
use Rattle.labelled_disk.proofs.Pages.{pages_more, pages_end, pages_zero}
use Rattle.labelled_disk.proofs.SectorWrites as w
use Rattle.label_laws.specs.Shape.{bare_file}
use Rattle.cut_laws.proofs.CrashStateLemmas.{get_some}

-- what is found is the lowest that passes, and the lowest is found
module _ (test : Sector → Bool) where
  pub lowest : (xs : List Sector) (s : Sector) → find test xs ≡ Some s → (i : ℕ) × IsLowest test xs i s
  lowest [] s is = absurd (none-some s is)
  lowest (x ∷ xs) s is = either (test x) refl is (lowest xs s)
    where
      first : test x ≡ false → (m : (i : ℕ) × IsLowest test xs i s) → (j : ℕ) (u : Sector) → j < suc m.0 → slice_get (x ∷ xs) j ≡ Some u → test u ≡ false
      first t m zero u l at = ap test (sym (same_Some x u at)) ∙ t
      first t m (suc j) u l at = m.1.none_below j u (omega (arith, l)) at

      either : (b : Bool) → test x ≡ b → cond b (Some x) (find test xs) ≡ Some s → (find test xs ≡ Some s → (i : ℕ) × IsLowest test xs i s) → (i : ℕ) × IsLowest test (x ∷ xs) i s
      either true t e more = (0, record { here = e; passes = ap test (sym (same_Some x s e)) ∙ t; none_below = λ j u l. absurd (omega (arith, l)) })
      either false t e more = let m = more e in (suc m.0, record { here = m.1.here; passes = m.1.passes; none_below = first t m })

  pub find_lowest : (xs : List Sector) (i : ℕ) (s : Sector) → IsLowest test xs i s → find test xs ≡ Some s
  find_lowest [] i s low = low.here
  find_lowest (x ∷ xs) zero s low = let e : test x ≡ true = ap test (same_Some x s low.here) ∙ low.passes in rw e low.here
  find_lowest (x ∷ xs) (suc i) s low =
      let e : test x ≡ false = low.none_below 0 x (omega arith) refl in
      rw e (find_lowest xs i s (record { here = low.here; passes = low.passes; none_below = λ j t l at. low.none_below (suc j) t (omega (arith, l)) at }))

-- as many sectors, and R of each two in the same place
pub record Pairs (R : Sector → Sector → Type 0) (xs ys : List Sector) : Type 0 where
  pub long : length ys ≡ length xs
  pub each : (i : ℕ) (s t : Sector) → slice_get xs i ≡ Some s → slice_get ys i ≡ Some t → R s t

-- the same label, or both fail
abbrev pub Alike : (Label → Bool) → Label → Label → Type 0
Alike test l m = (l ≡ m) ⊎ ((test l ≡ false) × (test m ≡ false))

pub alike_sym : (test : Label → Bool) (l m : Label) → Alike test l m → Alike test m l
alike_sym test l m (inl e) = inl (sym e)
alike_sym test l m (inr f) = inr (f.1, f.0)

pub alike_then : (test : Label → Bool) (l m n : Label) → Alike test l m → Alike test m n → Alike test l n
alike_then test l m n (inl e) (inl f) = inl (e ∙ f)
alike_then test l m n (inl e) (inr f) = inr (ap test e ∙ f.0, f.1)
alike_then test l m n (inr e) (inl f) = inr (e.0, ap test (sym f) ∙ e.1)
alike_then test l m n (inr e) (inr f) = inr (e.0, f.1)

pub alike_test : (test : Label → Bool) (l m : Label) → Alike test l m → test m ≡ test l
alike_test test l m (inl e) = ap test (sym e)
alike_test test l m (inr f) = f.1 ∙ sym f.0

-- of one that passes the label is the same
pub alike_passes : (test : Label → Bool) (l m : Label) → Alike test l m → test l ≡ true → l ≡ m
alike_passes test l m (inl e) passes = e
alike_passes test l m (inr f) passes = absurd (true≢false (sym passes ∙ f.0))

-- a test that fails wherever this one does
pub alike_less : (test narrow : Label → Bool) (l m : Label) → ((n : Label) → test n ≡ false → narrow n ≡ false) → Alike test l m → Alike narrow l m
alike_less test narrow l m less (inl e) = inl e
alike_less test narrow l m less (inr f) = inr (less l f.0, less m f.1)

module _ (R : Sector → Sector → Type 0) (xs ys : List Sector) (pairs : Pairs R xs ys) where
  partner : (i : ℕ) (t : Sector) → slice_get ys i ≡ Some t → (s : Sector) × (slice_get xs i ≡ Some s)
  partner i t at = get_some xs i (omega (arith, slice_get_within ys i t at, pairs.long))

  mate : (i : ℕ) (s : Sector) → slice_get xs i ≡ Some s → (t : Sector) × (slice_get ys i ≡ Some t)
  mate i s at = get_some ys i (omega (arith, slice_get_within xs i s at, pairs.long))

  -- the lowest that passes stands in the same place
  pub lowest_pair : (test : Sector → Bool) → ((s t : Sector) → R s t → test t ≡ test s) → (i : ℕ) (t : Sector) → IsLowest test ys i t → (s : Sector) × IsLowest test xs i s
  lowest_pair test same i t low =
      let s = partner i t low.here in (
        s.0,
        record {
          here = s.1;
          passes = sym (same s.0 t (pairs.each i s.0 t s.1 low.here)) ∙ low.passes;
          none_below = λ j u below at. let v = mate j u at in sym (same u v.0 (pairs.each j u v.0 at v.1)) ∙ low.none_below j v.0 below v.1;
        },
      )

  -- and so none passes, or two that go together
  pub find_pair : (test : Sector → Bool) → ((s t : Sector) → R s t → test t ≡ test s)
      → ((find test xs ≡ None) × (find test ys ≡ None)) ⊎ ((s : Sector) × (t : Sector) × (find test xs ≡ Some s) × (find test ys ≡ Some t) × R s t × (test s ≡ true))
  find_pair test same = either (find test ys) refl
    where
      either : (o : Option Sector) → find test ys ≡ o
          → ((find test xs ≡ None) × (find test ys ≡ None)) ⊎ ((s : Sector) × (t : Sector) × (find test xs ≡ Some s) × (find test ys ≡ Some t) × R s t × (test s ≡ true))
      either None e = inl (find_none test xs (λ j u at. let v = mate j u at in sym (same u v.0 (pairs.each j u v.0 at v.1)) ∙ none_passes test ys e j v.0 v.1), e)
      either (Some t) e =
          let l = lowest test ys t e in
          let s = lowest_pair test same l.0 t l.1 in
          inr (s.0, t, find_lowest test xs l.0 s.0 s.1, e, pairs.each l.0 s.0 t s.1.here l.1.here, s.1.passes)

-- the leader rests on the labels of leaders
pub leader_pairs : (all : Bool) (id : ℕ) (xs ys : List Sector) → Pairs (λ s t. Alike (λ l. leads_file all id (l, [])) s.0 t.0) xs ys → leader_among all ys id ≡ leader_among all xs id
leader_pairs all id xs ys pairs =
    either (find_pair (λ s t. Alike (λ l. leads_file all id (l, [])) s.0 t.0) xs ys pairs (leads_file all id) (λ s t alike. alike_test (λ l. leads_file all id (l, [])) s.0 t.0 alike))
  where
    label : Option Sector → Option Label
    label o = option_map (λ s. s.0) o

    either : ((find (leads_file all id) xs ≡ None) × (find (leads_file all id) ys ≡ None))
        ⊎ ((s : Sector) × (t : Sector) × (find (leads_file all id) xs ≡ Some s) × (find (leads_file all id) ys ≡ Some t) × Alike (λ l. leads_file all id (l, [])) s.0 t.0 × (leads_file all id s ≡ true))
        → leader_among all ys id ≡ leader_among all xs id
    either (inl none) = ap (λ (o : Option Sector). option_map (λ s. s.0) o) none.1 ∙ sym (ap (λ (o : Option Sector). option_map (λ s. s.0) o) none.0)
    either (inr two) =
        ap (λ (o : Option Sector). option_map (λ s. s.0) o) two.3
        ∙ ap (λ (l : Label). Some l) (sym (alike_passes (λ l. leads_file all id (l, [])) two.0.0 two.1.0 two.4 two.5))
        ∙ sym (ap (λ (o : Option Sector). option_map (λ s. s.0) o) two.2)

-- some page, or none
pub is_there : {X : Type 0} → Option X → Bool
is_there None = false
is_there (Some x) = true

-- whether a page stands rests on the labels of that page
pub there_pairs : (id k : ℕ) (xs ys : List Sector) → Pairs (λ s t. Alike (λ l. is_page id k (l, [])) s.0 t.0) xs ys → is_there (page_at ys id k) ≡ is_there (page_at xs id k)
unfolding is_there
there_pairs id k xs ys pairs =
    either (find_pair (λ s t. Alike (λ l. is_page id k (l, [])) s.0 t.0) xs ys pairs (is_page id k) (λ s t alike. alike_test (λ l. is_page id k (l, [])) s.0 t.0 alike))
  where
    either : ((find (is_page id k) xs ≡ None) × (find (is_page id k) ys ≡ None))
        ⊎ ((s : Sector) × (t : Sector) × (find (is_page id k) xs ≡ Some s) × (find (is_page id k) ys ≡ Some t) × Alike (λ l. is_page id k (l, [])) s.0 t.0 × (is_page id k s ≡ true))
        → is_there (page_at ys id k) ≡ is_there (page_at xs id k)
    either (inl none) = ap (λ (o : Option Sector). is_there (option_map (λ s. map byte s.1) o)) none.1 ∙ sym (ap (λ (o : Option Sector). is_there (option_map (λ s. map byte s.1) o)) none.0)
    either (inr two) = ap (λ (o : Option Sector). is_there (option_map (λ s. map byte s.1) o)) two.3 ∙ sym (ap (λ (o : Option Sector). is_there (option_map (λ s. map byte s.1) o)) two.2)

-- as many pages follow each other
pub count_pairs : (page other : ℕ → Option Page) (k n : ℕ) → ((j : ℕ) → j < k + n → is_there (other j) ≡ is_there (page j)) → length (pages_from other k n) ≡ length (pages_from page k n)
unfolding is_there
count_pairs page other k zero same = ap (λ (l : List Page). length l) (pages_zero other k ∙ sym (pages_zero page k))
count_pairs page other k (suc n) same = either (page k) refl (other k) refl (count_pairs page other (k + 1) n (λ j low. same j (omega (arith, low)))) (same k (omega arith))
  where
    either : (o : Option Page) → page k ≡ o → (p : Option Page) → other k ≡ p → length (pages_from other (k + 1) n) ≡ length (pages_from page (k + 1) n) → is_there (other k) ≡ is_there (page k)
        → length (pages_from other k (suc n)) ≡ length (pages_from page k (suc n))
    either None e None f more alike = ap (λ (l : List Page). length l) (pages_end other k (suc n) f ∙ sym (pages_end page k (suc n) e))
    either (Some p) e (Some q) f more alike =
        let a = ap (λ (l : List Page). length l) (pages_more other k n q f) in
        let b = ap (λ (l : List Page). length l) (pages_more page k n p e) in
        omega (arith, a, b, more)
    either None e (Some q) f more alike = absurd (true≢false (sym (ap (λ (o : Option Page). is_there o) f) ∙ alike ∙ ap (λ (o : Option Page). is_there o) e))
    either (Some p) e None f more alike = absurd (true≢false (sym (sym (ap (λ (o : Option Page). is_there o) f) ∙ alike ∙ ap (λ (o : Option Page). is_there o) e)))

-- the shape is the leader and the number of pages
pub shape_by_count : (all : Bool) (id : ℕ) (xs ys : List Sector) → leader_among all ys id ≡ leader_among all xs id
    → length (pages_from (page_at ys id) 0 leader_page) ≡ length (pages_from (page_at xs id) 0 leader_page)
    → option_map bare_file (file_among all ys id) ≡ option_map bare_file (file_among all xs id)
shape_by_count all id xs ys leaders counts = ap (λ (o : Option Label). option_map bare_file (option_map (file_by ys) o)) leaders ∙ either (leader_among all xs id) refl
  where
    either : (o : Option Label) → leader_among all xs id ≡ o → option_map bare_file (option_map (file_by ys) o) ≡ option_map bare_file (option_map (file_by xs) o)
    either None e = refl
    either (Some l) e =
        let same : length (pages_from (page_at ys l.id) 0 leader_page) ≡ length (pages_from (page_at xs l.id) 0 leader_page)
        = subst (λ (n : ℕ). length (pages_from (page_at ys n) 0 leader_page) ≡ length (pages_from (page_at xs n) 0 leader_page)) (sym (w.leader_at_id all xs id l e)) counts in
        ap (λ (n : ℕ). Some (record { id = l.id; kind = l.kind; permanent = is_permanent l; immutable = is_immutable l; pages = n })) same
