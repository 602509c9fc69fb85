-- One sector has another page, byte by byte.
use Rattle.std.proofs.Common.{◌≡◌, ◌≢◌, ⊎_elim, ℕ, zero, suc, ◌+◌, ◌<◌, ◌≤◌, Bool, true, false, List, [], ◌∷◌, ◌++◌, map, length, take, drop, Option, Some, refl, sym, ◌∙◌, ap, subst, arith, length-set}
use Rattle.std.specs.Prelude.{slice_get, slice_set, slice_index_or, ◌==◌, if◌then◌else◌}
use Rattle.std.specs.Option.{option_map_or}
use Rattle.std.proofs.lemmas.Option.{same_Some, slice_get_within, get_or_from_slice_get}
use Rattle.std.proofs.lemmas.Bool.{true≢false, cases_eq}
use Rattle.std.proofs.lemmas.List.{length-map, map-set, drop-set-lt}
use Rattle.std.proofs.Math.Seq.{take-suc-set}
use Rattle.labelled_disk.specs.declared.label.Label.{Label}
use Rattle.labelled_disk.specs.Layout.{first_data}
use Rattle.labelled_disk.specs.Sectors.{Sector, IsSector, AreSectors}
use Rattle.labelled_disk.specs.File.{File, Page, Cell, byte, file_at}
use Rattle.labelled_disk.proofs.Finds.{get_set_same, get_set_other}
use Rattle.labelled_disk.proofs.AscendingLemmas.{at_id}
use Rattle.flat_mem.specs.Memory.{overwritten}
use Rattle.frame_pool.specs.ListLaws.{set_own}
use Rattle.flat_machine.specs.declared.space.Space.{Space}
use Rattle.flat_machine.specs.At.{Spot, spot_at}
use Rattle.flat_machine.specs.Next.{next, change_file, with_byte, store_byte, store_bytes}
use Rattle.flat_machine.specs.Settled.{PageAgrees, CellAgrees}
use Rattle.flat_machine.proofs.FileLemmas.{one_id, changed_here, unchanged}
use Rattle.swapper_kernel.specs.Stands.{labels_of}
use Rattle.swapper_kernel.specs.Kinds.{Kind, kind_of, HasKind, SameBut, of_kinds, a_file, files_alone}
use Rattle.swapper_kernel.specs.Differs.{Differs}
use Rattle.session_words.specs.Parts.{Shapes, HasLabel, HasLabels, HasCells, but_none}
use Rattle.swapper_kernel.specs.DiffersLaws.{same_length, label_here, differs_then}
use Rattle.swapper_kernel.proofs.KindLemmas.{kind_is_data}
use Rattle.session_words.proofs.FoundLemmas.{file_not_free}
use Rattle.session_words.proofs.LooseLemmas.{kind_file}
use Rattle.session_words.proofs.ShapeLemmas.{changed_from}

-- One sector has another page.

pub set_labels : (xs : List Sector) (i : ℕ) (s : Sector) (page : List ℕ) → slice_get xs i ≡ Some s → labels_of (slice_set xs i (s.0, page)) ≡ labels_of xs
set_labels [] i s page here = refl
set_labels (x ∷ xs) zero s page here = ap (λ (l : Label). l ∷ labels_of xs) (ap (λ (t : Sector). t.0) (sym (same_Some x s here)))
set_labels (x ∷ xs) (suc i) s page here = ap (λ (ls : List Label). x.0 ∷ ls) (set_labels xs i s page here)

pub set_same_but : (kinds : Kind → Bool) (x : List Sector) (place : ℕ) (s : Sector) (kind : Kind) (page : List ℕ) → HasKind x place s kind → kinds kind ≡ true → SameBut kinds x (slice_set x place (s.0, page))
set_same_but kinds x place s kind page there passes = record {
  labels = set_labels x place s page there.here;
  pages = λ k t here fails. ⊎_elim
      (λ (q : k ≡ place).
      let same : s ≡ t = same_Some s t (sym there.here ∙ ap (slice_get x) (sym q) ∙ here) in
      absurd (true≢false (sym passes ∙ ap kinds (sym there.is) ∙ (λ i. kinds (kind_of (length x) (sym q i) (same i).0)) ∙ fails)))
      (λ (q : k ≢ place). get_set_other x place k (s.0, page) q ∙ here)
      (cases_eq k place);
}

pub same_but_then : (kinds : Kind → Bool) (x y z : List Sector) → SameBut kinds x y → SameBut kinds y z → SameBut kinds x z
same_but_then kinds x y z first next =
    differs_then (of_kinds (length x) kinds) x y z first (subst (λ (n : ℕ). Differs (of_kinds n kinds) y z) (same_length x y first.labels) next)

pub set_sectors : (x : List Sector) (place : ℕ) (t : Sector) → AreSectors x → IsSector t → AreSectors (slice_set x place t)
set_sectors x place t are fits k s here = ⊎_elim
    (λ (q : k ≡ place). subst IsSector (same_Some t s (sym (get_set_same x place t (omega (arith, q, slice_get_within (slice_set x place t) k s here, length-set x place t))) ∙ ap (slice_get (slice_set x place t)) (sym q) ∙ here)) fits)
    (λ (q : k ≢ place). are k s (sym (get_set_other x place k t q) ∙ here))
    (cases_eq k place)

-- an element that is there
some_at : {X : Type 0} (xs : List X) (i : ℕ) → i < length xs → (x : X) × (slice_get xs i ≡ Some x)
some_at [] i below = absurd (omega arith)
some_at (x ∷ xs) zero below = (x, refl)
some_at (x ∷ xs) (suc i) below = some_at xs i (omega arith)

-- Bytes, one by one.

zip_set : (p q : Page) (i : ℕ) (a b : Cell) → PageAgrees p q → CellAgrees a b → PageAgrees (slice_set p i a) (slice_set q i b)
zip_set [] [] i a b all new = tt
zip_set [] (y ∷ q) i a b all new = absurd all
zip_set (x ∷ p) [] i a b all new = absurd all
zip_set (x ∷ p) (y ∷ q) zero a b all new = (new, all.1)
zip_set (x ∷ p) (y ∷ q) (suc i) a b all new = (all.0, zip_set p q i a b all.1 new)

-- a byte more is written over
overwritten_more : (p : List ℕ) (at b : ℕ) (bs : List ℕ) → at < length p → overwritten (slice_set p at b) (at + 1) bs ≡ overwritten p at (b ∷ bs)
overwritten_more p at b bs below =
    let z : at + 1 ≡ suc at = omega arith in
    let y : at + 1 + length bs ≡ at + suc (length bs) = omega arith in
    let rest : drop (at + 1 + length bs) (slice_set p at b) ≡ drop (at + suc (length bs)) p = drop-set-lt (at + 1 + length bs) p at b (omega arith) ∙ ap (λ (n : ℕ). drop n p) y in
    let first : take (at + 1) (slice_set p at b) ≡ take at p ++ b ∷ [] = ap (λ (n : ℕ). take n (slice_set p at b)) z ∙ take-suc-set p at b below in
    (λ i. first i ++ bs ++ rest i) ∙ regroup (take at p) b bs (drop (at + suc (length bs)) p)
  where
    regroup : (xs : List ℕ) (b : ℕ) (bs ys : List ℕ) → (xs ++ b ∷ []) ++ bs ++ ys ≡ xs ++ (b ∷ bs) ++ ys
    regroup [] b bs ys = refl
    regroup (x ∷ xs) b bs ys = ap (λ (l : List ℕ). x ∷ l) (regroup xs b bs ys)

overwritten_none : (p : List ℕ) (at : ℕ) → overwritten p at [] ≡ p
overwritten_none p at = ends p at (at + 0) (omega arith)
  where
    ends : (p : List ℕ) (at end : ℕ) → end ≡ at → take at p ++ [] ++ drop end p ≡ p
    ends p zero zero is = refl
    ends p zero (suc end) is = absurd (omega arith)
    ends [] (suc at) zero is = absurd (omega arith)
    ends [] (suc at) (suc end) is = refl
    ends (x ∷ p) (suc at) zero is = absurd (omega arith)
    ends (x ∷ p) (suc at) (suc end) is = ap (λ (l : List ℕ). x ∷ l) (ends p at end (omega arith))

set_twice : {X : Type 0} (xs : List X) (i : ℕ) (a b : X) → slice_set (slice_set xs i a) i b ≡ slice_set xs i b
set_twice [] i a b = refl
set_twice (x ∷ xs) zero a b = refl
set_twice (x ∷ xs) (suc i) a b = ap (λ (l : _). x ∷ l) (set_twice xs i a b)

-- the place of a byte of a sector's page
abbrev pub spot_of : Sector → ℕ → Spot
spot_of s at = record { file = s.0.id; page = s.0.page; offset = at }

-- the sectors with one byte more
abbrev stored : List Sector → ℕ → Sector → ℕ → ℕ → List Sector
stored x place s at b = slice_set x place (s.0, slice_set s.1 at b)

module _ (shapes : Shapes) (place : ℕ) where
  -- one byte, in a sector of a file and in its cell
  one_byte : (x : List Sector) (s : Sector) (files : List File) (at b : ℕ) → HasLabels (labels_of x) shapes → HasKind x place s a_file → HasCells but_none x files
      → HasCells but_none (slice_set x place (s.0, slice_set s.1 at b)) (change_file s.0.id (with_byte (spot_of s at) b) files)
  one_byte x s files at b labels there cells = record { agrees = agrees }
    where
      long : length (stored x place s at b) ≡ length x
      long = length-set x place (s.0, slice_set s.1 at b)

      -- no other sector has the page
      once : (k : ℕ) (t : Sector) → HasKind x k t a_file → t.0.id ≡ s.0.id → t.0.page ≡ s.0.page → k ≡ place
      once k t has id page = labels.pages.once k place t.0 s.0 (labelled k t has) (labelled place s there) (file_not_free t.0 (kind_file (length x) k t.0 has.is)) id page
        where
          labelled : (k : ℕ) (t : Sector) → HasKind x k t a_file → HasLabel (labels_of x) k t.0
          labelled k t has = record {
            is_data = subst (λ (n : ℕ). first_data n ≤ k) (sym (length-map x (λ s. s.0))) (kind_is_data (length x) k t.0 a_file (λ e. true≢false (ap files_alone e)) (λ e. true≢false (ap files_alone e)) (λ e. true≢false (ap files_alone e)) has.is);
            here = label_here x k t has.here;
          }

      agrees : (k : ℕ) (t : Sector) (f : File) (p : Page) → HasKind (slice_set x place (s.0, slice_set s.1 at b)) k t a_file
          → file_at (change_file s.0.id (with_byte (spot_of s at) b) files) t.0.id ≡ Some f → slice_get f.pages t.0.page ≡ Some p
          → but_none t.0.id t.0.page ≡ false → PageAgrees (map byte t.1) p
      agrees k t f p has found page none =
          let was = changed_from (λ f. if f.id == s.0.id then with_byte (spot_of s at) b f else f) (one_id s.0.id (with_byte (spot_of s at) b) (λ f. refl)) files t.0.id f found in
          let own : was.0.id ≡ t.0.id = at_id files t.0.id was.0 was.1 in
          ⊎_elim (here was own) (there_is was own) (cases_eq k place)
        where
          is_kind : kind_of (length x) k t.0 ≡ a_file
          is_kind = ap (λ (n : ℕ). kind_of n k t.0) (sym long) ∙ has.is

          here : (was : (w : File) × (file_at files t.0.id ≡ Some w) × (f ≡ (if w.id == s.0.id then with_byte (spot_of s at) b w else w))) → was.0.id ≡ t.0.id → k ≡ place → PageAgrees (map byte t.1) p
          here was own q =
              let inside : place < length x = slice_get_within x place s there.here in
              let now : (s.0, slice_set s.1 at b) ≡ t = same_Some {A = Sector} (s.0, slice_set s.1 at b) t (sym (get_set_same x place (s.0, slice_set s.1 at b) inside) ∙ ap (slice_get (stored x place s at b)) (sym q) ∙ has.here) in
              let label : s.0 ≡ t.0 = ap (λ (u : Sector). u.0) now in
              let same : f ≡ with_byte (spot_of s at) b was.0 = was.2 ∙ changed_here s.0.id (with_byte (spot_of s at) b) was.0 (own ∙ ap (λ (l : Label). l.id) (sym label)) in
              let pages : slice_get (slice_set was.0.pages s.0.page (slice_set (slice_index_or was.0.pages s.0.page []) at (byte b))) s.0.page ≡ Some p =
              ap (λ (g : File). slice_get g.pages s.0.page) (sym same) ∙ ap (λ (l : Label). slice_get f.pages l.page) label ∙ page in
              let below : s.0.page < length was.0.pages = omega (arith, slice_get_within _ s.0.page p pages, length-set was.0.pages s.0.page (slice_set (slice_index_or was.0.pages s.0.page []) at (byte b))) in
              let old = some_at was.0.pages s.0.page below in
              let is_old : slice_index_or was.0.pages s.0.page [] ≡ old.0 = get_or_from_slice_get was.0.pages s.0.page old.0 [] old.1 in
              let new : slice_set old.0 at (byte b) ≡ p =
              ap (λ (c : Page). slice_set c at (byte b)) (sym is_old)
              ∙ same_Some _ p (sym (get_set_same was.0.pages s.0.page (slice_set (slice_index_or was.0.pages s.0.page []) at (byte b)) below) ∙ pages) in
              let before = cells.agrees place s was.0 old.0 there (ap (λ (l : Label). file_at files l.id) label ∙ was.1) old.1 refl in
              subst (λ (u : Sector). PageAgrees (map byte u.1) p) now
              (subst (λ (c : Page). PageAgrees (map byte (slice_set s.1 at b)) c) new
              (subst (λ (c : Page). PageAgrees c (slice_set old.0 at (byte b))) (sym (map-set byte s.1 at b)) (zip_set (map byte s.1) old.0 at (byte b) (byte b) before refl)))

          there_is : (was : (w : File) × (file_at files t.0.id ≡ Some w) × (f ≡ (if w.id == s.0.id then with_byte (spot_of s at) b w else w))) → was.0.id ≡ t.0.id → k ≢ place → PageAgrees (map byte t.1) p
          there_is was own apart =
              let old : HasKind x k t a_file = record { here = sym (get_set_other x place k (s.0, slice_set s.1 at b) apart) ∙ has.here; is = is_kind } in
              cells.agrees k t was.0 p old was.1 (⊎_elim
              (λ (q : was.0.id ≡ s.0.id).
              let other : t.0.page ≢ s.0.page = λ r. apart (once k t old (sym own ∙ q) r) in
              sym (get_set_other was.0.pages s.0.page t.0.page (slice_set (slice_index_or was.0.pages s.0.page []) at (byte b)) other)
              ∙ ap (λ (g : File). slice_get g.pages t.0.page) (sym (was.2 ∙ changed_here s.0.id (with_byte (spot_of s at) b) was.0 q)) ∙ page)
              (λ (q : was.0.id ≢ s.0.id). ap (λ (g : File). slice_get g.pages t.0.page) (sym (was.2 ∙ unchanged s.0.id (with_byte (spot_of s at) b) was.0 q)) ∙ page)
              (cases_eq was.0.id s.0.id)) none

  -- a row of bytes
  pub row_of_bytes : (spaces : List Space) (bytes : List ℕ) (address at : ℕ) (x : List Sector) (s : Sector) (files : List File) → HasLabels (labels_of x) shapes → HasKind x place s a_file → HasCells but_none x files
      → ((j : ℕ) → j < length bytes → spot_at spaces (address + j) ≡ Some (spot_of s (at + j))) → at + length bytes ≤ length s.1
      → HasCells but_none (slice_set x place (s.0, overwritten s.1 at bytes)) (store_bytes spaces address bytes files)
  row_of_bytes spaces [] address at x s files labels there cells shown inside =
      let same : (s.0, overwritten s.1 at []) ≡ s = λ i. (s.0, overwritten_none s.1 at i) in
      subst (λ (y : List Sector). HasCells but_none y files) (sym (ap (λ (t : Sector). slice_set x place t) same ∙ set_own x place s there.here)) cells
  row_of_bytes spaces (b ∷ bs) address at x s files labels there cells shown inside =
      let t : Sector = (s.0, slice_set s.1 at b) in
      let here : spot_at spaces address ≡ Some (spot_of s at) =
      (let z : address ≡ address + 0 = omega arith in ap (spot_at spaces) z) ∙ shown 0 (omega arith) ∙ (let z : at + 0 ≡ at = omega arith in ap (λ (n : ℕ). Some (spot_of s n)) z) in
      let one : HasCells but_none (stored x place s at b) (store_byte spaces address b files) =
      subst (λ (o : Option Spot). HasCells but_none (stored x place s at b) (option_map_or (λ spot. change_file spot.file (with_byte spot b) files) o files)) (sym here) (one_byte x s files at b labels there cells) in
      let is : kind_of (length (stored x place s at b)) place s.0 ≡ a_file = ap (λ (n : ℕ). kind_of n place s.0) (length-set x place (s.0, slice_set s.1 at b)) ∙ there.is in
      let rest = row_of_bytes spaces bs (address + 1) (at + 1) (stored x place s at b) t (store_byte spaces address b files)
      (subst (λ (ls : List Label). HasLabels ls shapes) (sym (set_labels x place s (slice_set s.1 at b) there.here)) labels)
      (record { here = get_set_same x place t (slice_get_within x place s there.here); is = is }) one
      (λ j below. (let z : address + 1 + j ≡ address + suc j = omega arith in ap (spot_at spaces) z) ∙ shown (suc j) (omega arith)
      ∙ (let z : at + suc j ≡ at + 1 + j = omega arith in ap (λ (n : ℕ). Some (spot_of s n)) z))
      (omega (arith, inside, length-set s.1 at b)) in
      let page : overwritten (slice_set s.1 at b) (at + 1) bs ≡ overwritten s.1 at (b ∷ bs) = overwritten_more s.1 at b bs (omega (arith, inside)) in
      subst (λ (y : List Sector). HasCells but_none y (store_bytes spaces (address + 1) bs (store_byte spaces address b files)))
      (set_twice x place t (s.0, overwritten (slice_set s.1 at b) (at + 1) bs) ∙ ap (λ (p : List ℕ). slice_set x place (s.0, p)) page) rest
