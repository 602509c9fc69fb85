-- A mark on the leader of a file.
use Rattle.std.proofs.Common.{◌≡◌, ◌≢◌, ◌⊎◌, inl, inr, ℕ, zero, suc, ◌+◌, ◌-◌, ◌<◌, ◌≤◌, true, false, Bool, List, [], ◌∷◌, length, map, Option, Some, None, refl, sym, ◌∙◌, ap, subst, arith, bit_or}
use Rattle.std.specs.Prelude.{slice_get, slice_set, option_map, ◌==◌, ◌&&◌, if◌then◌else◌}
use Rattle.std.specs.Option.{option_map_or}
use Rattle.std.proofs.lemmas.Bool.Decides.{nat_tests}
use Rattle.std.proofs.lemmas.Bool.{cases_eq, cases_lt, and_parts, eqb-true}
use Rattle.std.proofs.lemmas.List.{length-map}
use Rattle.std.proofs.lemmas.Option.{same_Some, none-some, slice_get-map, slice_get_within}
use Rattle.labelled_disk.specs.declared.label.Label.{Label}
use Rattle.labelled_disk.specs.declared.layout.Layout.{Layout}
use Rattle.labelled_disk.specs.declared.disk.DiskWrite.{DiskWrite}
use Rattle.labelled_disk.specs.declared.disk.DiskWrite.TheVariants.{LabelOnly}
use Rattle.labelled_disk.specs.Label.{is_free, names, leader_page}
use Rattle.labelled_disk.specs.Layout.{first_data, vam, vfm}
use Rattle.labelled_disk.specs.CrashState.{written}
use Rattle.labelled_disk.specs.Sectors.{Sector, AreSectors, IsSector}
use Rattle.labelled_disk.specs.State.{DiskState, HasLabel as DiskHasLabel}
use Rattle.labelled_disk.proofs.Finds.{get_set_same, get_set_other}
use Rattle.frame_pool.specs.Frames.{Slots}
use Rattle.file_map.specs.declared.run.Run.{Run}
use Rattle.file_map.specs.Run.{sector_at}
use Rattle.flat_machine.specs.declared.space.Space.{Space}
use Rattle.swapper_kernel.specs.DiffersLaws.{label_here, other_sector, sector_of_label, names_id, names_page}
use Rattle.swapper_kernel.specs.Goes.{Goes, Makes, Pages, Change, no_page}
use Rattle.swapper_kernel.specs.GoesLaws.{makes_then, makes_wider}
use Rattle.swapper_kernel.specs.OnceLaws.{stands_once}
use Rattle.swapper_kernel.specs.Stands.{Stands, labels_of}
use Rattle.session_words.specs.FrameLaws.{is_shown}
use Rattle.session_words.specs.MarkLaws.{Marks, marked_label, pages_of}
use Rattle.session_words.specs.Parts.{Shapes, IsTriple}
use Rattle.session_words.specs.Volume.{volume_page}
use Rattle.session_words.proofs.FrameLemmas.{frame_laws}
use Rattle.filer_kernel.specs.declared.cached.CachedRuns.{CachedRuns}
use Rattle.filer_kernel.specs.Cached.{runs_of}
use Rattle.label_calls.specs.declared.page.Mark.{Mark}
use Rattle.label_calls.specs.declared.page.Mark.TheVariants.{Permanent, Immutable}
use Rattle.label_calls.specs.Labels.{HasOne, MayHaveWritten, Relabels, ones_of, with_mark}
use Rattle.file_manager.specs.Answer.{IsMarked, WritesMark}
use Rattle.file_manager.specs.Book.{AreTrue, IsBookedUpto, BooksUpto, BringsOwn}
use Rattle.file_manager.proofs.BookLemmas.{label_in, leader_reveals}

same_elements : {X : Type 0} (xs ys : List X) → ((i : ℕ) → slice_get xs i ≡ slice_get ys i) → xs ≡ ys
same_elements [] [] same = refl
same_elements [] (y ∷ ys) same = absurd (none-some y (same zero))
same_elements (x ∷ xs) [] same = absurd (none-some x (sym (same zero)))
same_elements {X} (x ∷ xs) (y ∷ ys) same =
    ap (λ (a : X). a ∷ xs) (same_Some x y (same zero)) ∙ ap (λ (l : List X). y ∷ l) (same_elements xs ys (λ i. same (suc i)))

-- a call that led from the one memory that stood to one that stands
goes_at : (P : Change) (pages : Pages) (run : List DiskWrite) (old new : DiskState) (before after : Slots) (x y : List Sector) → Makes pages run old before new after → Stands old before x → Stands new after y → P x y
    → Goes P pages run old before new after
goes_at P pages run old new before after x y makes first next is = record {
  makes = makes;
  memory = λ m stands.
      let same : x ≡ m = same_elements x m (stands_once old before x m first stands) in
      (y, next, subst (λ (l : List Sector). P l y) same is);
}

-- the label of a page of a file, in a sector before the data, is not there
module _ {tables : ℕ} (layout : Layout) (runs : List Run) (shapes : Shapes) (x : List Sector) (b : IsBookedUpto tables layout runs shapes x) (id : ℕ) (some : 16 ≤ id) where
  other_id : (l : Label) (k : ℕ) → slice_get (labels_of x) k ≡ Some l → k < first_data (length (labels_of x)) → l.id ≢ id
  unfolding first_data
  other_id l k here below same = elim (place k (vam (length (labels_of x))) (vfm (length (labels_of x))) below) [
    | inl first ↦
        let r = label_in _ _ b.root_label in
        let at : l ≡ r.0 = same_Some l r.0 (sym here ∙ ap (slice_get (labels_of x)) first ∙ r.1) in
        let four : l.id ≡ 4 = names_id l (record { id = 4; page = 0 }) (ap (λ (m : Label). names m (record { id = 4; page = 0 })) at ∙ r.2) in
        absurd (omega (arith, four, same, some))
    | inr (inl (j, inside, at)) ↦
        let m = label_in _ _ (b.map_labels.allocation j inside) in
        let is : l ≡ m.0 = same_Some l m.0 (sym here ∙ ap (slice_get (labels_of x)) at ∙ m.1) in
        let one : l.id ≡ 1 = names_id l (record { id = 1; page = j }) (ap (λ (n : Label). names n (record { id = 1; page = j })) is ∙ m.2) in
        absurd (omega (arith, one, same, some))
    | inr (inr (j, inside, at)) ↦
        let m = label_in _ _ (b.map_labels.file_map j inside) in
        let is : l ≡ m.0 = same_Some l m.0 (sym here ∙ ap (slice_get (labels_of x)) at ∙ m.1) in
        let two : l.id ≡ 2 = names_id l (record { id = 2; page = j }) (ap (λ (n : Label). names n (record { id = 2; page = j })) is ∙ m.2) in
        absurd (omega (arith, two, same, some))
  ]
    where
      map_place : (k v f : ℕ) → k < v + f → ((j : ℕ) × (j < v) × (suc k ≡ 1 + j)) ⊎ ((j : ℕ) × (j < f) × (suc k ≡ 1 + v + j))
      map_place k v f below = elim (cases_lt k v) [
        | inl low ↦ inl (k, low, let e : suc k ≡ 1 + k = omega arith in e)
        | inr high ↦ inr (k - v, omega (arith, below, high), let e : suc k ≡ 1 + v + (k - v) = omega (arith, high) in e)
      ]

      place : (k v f : ℕ) → k < 1 + v + f → (k ≡ 0) ⊎ (((j : ℕ) × (j < v) × (k ≡ 1 + j)) ⊎ ((j : ℕ) × (j < f) × (k ≡ 1 + v + j)))
      place zero v f below = inl refl
      place (suc k) v f below = inr (map_place k v f (omega (arith, below)))

-- what a mark does to a label

mark_id : (mark : Mark) (l : Label) → (with_mark mark l).id ≡ l.id
mark_id Permanent l = refl
mark_id Immutable l = refl

mark_page : (mark : Mark) (l : Label) → (with_mark mark l).page ≡ l.page
mark_page Permanent l = refl
mark_page Immutable l = refl

few : (flags : ℕ) → flags < 4 → (bit_or flags 1 < 256) × (bit_or flags 2 < 256)
few zero low = (omega arith, omega arith)
few (suc zero) low = (omega arith, omega arith)
few (suc (suc zero)) low = (omega arith, omega arith)
few (suc (suc (suc zero))) low = (omega arith, omega arith)
few (suc (suc (suc (suc n)))) low = absurd (omega (arith, low))

mark_form : (mark : Mark) (s : Sector) → IsSector s → s.0.flags < 4 → IsSector (with_mark mark s.0, s.1)
mark_form Permanent s h low = record { id_fits = h.id_fits; page_fits = h.page_fits; kind_fits = h.kind_fits; flags_fit = (few s.0.flags low).0; last_fits = h.last_fits; whole_page = h.whole_page; bytes = h.bytes }
mark_form Immutable s h low = record { id_fits = h.id_fits; page_fits = h.page_fits; kind_fits = h.kind_fits; flags_fit = (few s.0.flags low).1; last_fits = h.last_fits; whole_page = h.whole_page; bytes = h.bytes }

either_label : (id : ℕ) (mark : Mark) (l : Label) → (marked_label id (with_mark mark) l ≡ l) ⊎ ((l.id ≡ id) × (l.page ≡ leader_page) × (marked_label id (with_mark mark) l ≡ with_mark mark l))
either_label id mark l = by (l.id == id && l.page == leader_page) refl
  where
    by : (b : Bool) → (l.id == id && l.page == leader_page) ≡ b → ((if b then with_mark mark l else l) ≡ l) ⊎ ((l.id ≡ id) × (l.page ≡ leader_page) × ((if b then with_mark mark l else l) ≡ with_mark mark l))
    by true e = let parts = and_parts (l.id == id) (l.page == leader_page) e in inr (eqb-true l.id id parts.0, eqb-true l.page leader_page parts.1, refl)
    by false e = inl refl

page_stays : (id : ℕ) (mark : Mark) (l : Label) → ((marked_label id (with_mark mark) l).id ≡ l.id) × ((marked_label id (with_mark mark) l).page ≡ l.page)
page_stays id mark l = elim (either_label id mark l) [
  | inl same ↦ (ap (λ (m : Label). m.id) same, ap (λ (m : Label). m.page) same)
  | inr (own, leader, new) ↦ (ap (λ (m : Label). m.id) new ∙ mark_id mark l, ap (λ (m : Label). m.page) new ∙ mark_page mark l)
]

triple_marked : (id : ℕ) (mark : Mark) (labels : List Label) (i p k : ℕ) → IsTriple labels i p k → IsTriple (map (marked_label id (with_mark mark)) labels) i p k
triple_marked id mark labels i p k t =
    let stays = page_stays id mark t.label in
    record {
      label = marked_label id (with_mark mark) t.label;
      there = record {
        is_data = subst (λ (n : ℕ). first_data n ≤ k) (sym (length-map labels (marked_label id (with_mark mark)))) t.there.is_data;
        here = slice_get-map (marked_label id (with_mark mark)) labels k ∙ ap (option_map (marked_label id (with_mark mark))) t.there.here;
      };
      taken = ap (λ (n : ℕ). n == 0) stays.0 ∙ t.taken;
      same_id = stays.0 ∙ t.same_id;
      same_page = stays.1 ∙ t.same_page;
    }

set_pages : (xs : List Sector) (i : ℕ) (s : Sector) (l : Label) → slice_get xs i ≡ Some s → pages_of (slice_set xs i (l, s.1)) ≡ pages_of xs
set_pages [] i s l here = refl
set_pages (x ∷ xs) zero s l here = ap (λ (p : List ℕ). p ∷ pages_of xs) (ap (λ (t : Sector). t.1) (sym (same_Some x s here)))
set_pages (x ∷ xs) (suc i) s l here = ap (λ (ps : List (List ℕ)). x.1 ∷ ps) (set_pages xs i s l here)

low_flags : (l : Label) (id page : ℕ) → names l (record { id = id; page = page }) ≡ true → l.flags < 4
low_flags l id page named = grind (arith, nat_tests)

-- the memory whose leader has a mark more
module _ {tables : ℕ} (layout : Layout) (runs : List Run) (shapes : Shapes) (x : List Sector) (b : IsBookedUpto tables layout runs shapes x) (id : ℕ) (some : 16 ≤ id) (mark : Mark)
    (sector : ℕ) (s : Sector) (here : slice_get x sector ≡ Some s) (t : IsTriple (labels_of x) id leader_page sector) where
  is_label : t.label ≡ s.0
  is_label = same_Some t.label s.0 (sym t.there.here ∙ label_here x sector s here)

  pub leader_named : names s.0 (record { id = id; page = leader_page }) ≡ true
  leader_named =
      let reveals = leader_reveals layout runs shapes x b id sector some t in
      let same : reveals.label ≡ s.0 = same_Some reveals.label s.0 (sym reveals.here ∙ label_here x sector s here) in
      ap (λ (l : Label). names l (record { id = id; page = leader_page })) (sym same) ∙ reveals.named

  leader_marked : marked_label id (with_mark mark) s.0 ≡ with_mark mark s.0
  leader_marked =
      let own : s.0.id ≡ id = ap (λ (l : Label). l.id) (sym is_label) ∙ t.same_id in
      let leader : s.0.page ≡ leader_page = ap (λ (l : Label). l.page) (sym is_label) ∙ t.same_page in
      let both : (s.0.id == id && s.0.page == leader_page) ≡ true = grind (arith, nat_tests) in
      ap (λ (c : Bool). if c then with_mark mark s.0 else s.0) both

  other_stays : (k : ℕ) → k ≢ sector → (l : Label) → slice_get (labels_of x) k ≡ Some l → marked_label id (with_mark mark) l ≡ l
  other_stays k apart l there = elim (either_label id mark l) [
    | inl same ↦ same
    | inr (own, leader, new) ↦ absurd (elim (cases_lt k (first_data (length (labels_of x)))) [
      | inl low ↦ other_id layout runs shapes x b id some l k there low own
      | inr high ↦
          let taken : is_free l ≡ false = grind (arith, nat_tests) in
          apart (b.labels.pages.once k sector l t.label (record { is_data = high; here = there }) t.there taken (own ∙ sym t.same_id) (leader ∙ sym t.same_page))
    ])
  ]

  labels_marked : labels_of (slice_set x sector (with_mark mark s.0, s.1)) ≡ map (marked_label id (with_mark mark)) (labels_of x)
  labels_marked = same_elements (labels_of (slice_set x sector (with_mark mark s.0, s.1))) (map (marked_label id (with_mark mark)) (labels_of x)) (λ k. either k (cases_eq k sector))
    where
      there : slice_get (labels_of (slice_set x sector (with_mark mark s.0, s.1))) sector ≡ slice_get (map (marked_label id (with_mark mark)) (labels_of x)) sector
      there =
          label_here (slice_set x sector (with_mark mark s.0, s.1)) sector (with_mark mark s.0, s.1) (get_set_same x sector (with_mark mark s.0, s.1) (slice_get_within x sector s here))
          ∙ sym (slice_get-map (marked_label id (with_mark mark)) (labels_of x) sector ∙ ap (option_map (marked_label id (with_mark mark))) (label_here x sector s here) ∙ ap (λ (l : Label). Some l) leader_marked)

      stays : (k : ℕ) → k ≢ sector → (o : Option Label) → slice_get (labels_of x) k ≡ o → slice_get (labels_of x) k ≡ slice_get (map (marked_label id (with_mark mark)) (labels_of x)) k
      stays k apart None e = e ∙ sym (slice_get-map (marked_label id (with_mark mark)) (labels_of x) k ∙ ap (option_map (marked_label id (with_mark mark))) e)
      stays k apart (Some l) e = e ∙ sym (slice_get-map (marked_label id (with_mark mark)) (labels_of x) k ∙ ap (option_map (marked_label id (with_mark mark))) e ∙ ap (λ (m : Label). Some m) (other_stays k apart l e))

      either : (k : ℕ) → (k ≡ sector) ⊎ (k ≢ sector) → slice_get (labels_of (slice_set x sector (with_mark mark s.0, s.1))) k ≡ slice_get (map (marked_label id (with_mark mark)) (labels_of x)) k
      either k (inl is) = subst (λ (j : ℕ). slice_get (labels_of (slice_set x sector (with_mark mark s.0, s.1))) j ≡ slice_get (map (marked_label id (with_mark mark)) (labels_of x)) j) (sym is) there
      either k (inr apart) =
          slice_get-map (λ (u : Sector). u.0) (slice_set x sector (with_mark mark s.0, s.1)) k ∙ ap (option_map (λ (u : Sector). u.0)) (get_set_other x sector k (with_mark mark s.0, s.1) apart)
          ∙ sym (slice_get-map (λ (u : Sector). u.0) x k) ∙ stays k apart (slice_get (labels_of x) k) refl

  in_form : AreSectors (slice_set x sector (with_mark mark s.0, s.1))
  in_form k u there = either (cases_eq k sector)
    where
      either : (k ≡ sector) ⊎ (k ≢ sector) → IsSector u
      either (inl is) =
          let same : (with_mark mark s.0, s.1) ≡ u = same_Some {A = Sector} (with_mark mark s.0, s.1) u (sym (get_set_same x sector (with_mark mark s.0, s.1) (slice_get_within x sector s here)) ∙ ap (slice_get (slice_set x sector (with_mark mark s.0, s.1))) (sym is) ∙ there) in
          subst IsSector same (mark_form mark s (b.sectors sector s here) (low_flags s.0 id leader_page leader_named))
      either (inr apart) = b.sectors k u (sym (get_set_other x sector k (with_mark mark s.0, s.1) apart) ∙ there)

  pub marks_written : Marks id (with_mark mark) x (written (LabelOnly sector (with_mark mark s.0)) x)
  marks_written =
      let is : written (LabelOnly sector (with_mark mark s.0)) x ≡ slice_set x sector (with_mark mark s.0, s.1) = ap (λ (o : Option Sector). option_map_or (λ (old : Sector). slice_set x sector (with_mark mark s.0, old.1)) o x) here in
      subst (Marks id (with_mark mark) x) (sym is) (record { labels = labels_marked; pages = set_pages x sector s (with_mark mark s.0) here; sectors = in_form })

-- A mark that was written in the sector of the leader, after a search.
pub marked_after : {tables : ℕ} (layout : Layout) (old mid new : DiskState) (before between after : Slots) (kept runs : CachedRuns) (shapes : Shapes) (spaces : List Space) (x : List Sector) (id sector : ℕ) (mark : Mark) → 16 ≤ id
    → BooksUpto tables old before layout kept shapes spaces x → BooksUpto tables mid between layout runs shapes spaces x → Makes volume_page [] old before mid between → BringsOwn before between
    → IsTriple (labels_of x) id leader_page sector → is_shown spaces id leader_page ≡ false → after ≡ between
    → (label : Label) × Relabels (λ l. (l ≡ label) × ones_of (record { id = id; page = leader_page }) l) sector (LabelOnly sector (with_mark mark label)) mid between new
    → IsMarked id (with_mark mark) x old before layout new after runs
marked_after layout old mid new before between after kept runs shapes spaces x id sector mark some books now first brings t hidden frames (label, made) =
    let b = now.booked in
    let reveals = leader_reveals layout (runs_of layout.sectors runs) shapes x b id sector some t in
    let u = sector_of_label x sector reveals.label reveals.here in
    let on_disk = other_sector now.stands.sectors x now.stands.merged.labels sector u.0 u.1 in
    let found = made.found now.stands.sectors now.stands.revealed in
    let one : found.0 ≡ on_disk.0 = same_Some found.0 on_disk.0 (sym found.1 ∙ on_disk.1) in
    let same : label ≡ u.0.0 = sym found.2.0 ∙ ap (λ (s : Sector). s.0) one ∙ on_disk.2 in
    after_that u.0 u.1 (subst (λ (l : Label). Relabels (λ m. (m ≡ l) × ones_of (record { id = id; page = leader_page }) m) sector (LabelOnly sector (with_mark mark l)) mid between new) same made)
  where
    after_that : (s : Sector) → slice_get x sector ≡ Some s → Relabels (λ m. (m ≡ s.0) × ones_of (record { id = id; page = leader_page }) m) sector (LabelOnly sector (with_mark mark s.0)) mid between new
        → IsMarked id (with_mark mark) x old before layout new after runs
    after_that s here relabels =
        let b = now.booked in
        let kept_runs = runs_of layout.sectors runs in
        let named = leader_named layout kept_runs shapes x b id some mark sector s here t in
        let own : s.0.id ≡ id = names_id s.0 (record { id = id; page = leader_page }) named in
        let leader : s.0.page ≡ leader_page = names_page s.0 (record { id = id; page = leader_page }) named in
        let unseen : is_shown spaces s.0.id s.0.page ≡ false = (λ j. is_shown spaces (own j) (leader j)) ∙ hidden in
        let high : 16 ≤ s.0.id = omega (arith, own, some) in
        let free = frame_laws.none_over now.stands.sectors between x spaces sector s now.stands.merged now.frames here unseen (inr high) in
        let later = (relabels.goes free).memory x now.stands in
        let marks : Marks id (with_mark mark) x later.0 = subst (Marks id (with_mark mark) x) (sym later.2) (marks_written layout kept_runs shapes x b id some mark sector s here t) in
        let made : Makes volume_page (LabelOnly sector (with_mark mark s.0) ∷ []) old before new between = makes_then first (makes_wider volume_page (λ i p no. absurd no) relabels.makes) in
        let true_then : (m : List Sector) → Stands new between m → AreTrue (labels_of m) kept_runs = λ m stands k r at page has.
        let is : later.0 ≡ m = same_elements later.0 m (stands_once new between later.0 m later.1 stands) in
        let labels : map (marked_label id (with_mark mark)) (labels_of x) ≡ labels_of m = sym marks.labels ∙ ap labels_of is in
        subst (λ (l : List Label). IsTriple l r.id page (sector_at r page)) labels (triple_marked id mark (labels_of x) r.id page (sector_at r page) (b.kept k r at page has)) in
        subst (λ (q : Slots). IsMarked id (with_mark mark) x old before layout new q runs) (sym frames)
        (record {
          leader = sector;
          s = s;
          here = here;
          named = named;
          leads = record {
            goes = goes_at (Marks id (with_mark mark)) volume_page (LabelOnly sector (with_mark mark s.0) ∷ []) old new before between x later.0 made books.stands later.1 marks;
            brings = brings;
            true_runs = true_then;
          };
        })

-- a search, and what a mark that stopped wrote
pub stopped_makes : (old mid new : DiskState) (before between after : Slots) (sector : ℕ) (mark : Mark) → Makes volume_page [] old before mid between → after ≡ between
    → Makes no_page [] mid between new after ⊎ ((label : Label) × DiskHasLabel mid sector label × MayHaveWritten (LabelOnly sector (with_mark mark label)) mid between new) → WritesMark mark old before new after
stopped_makes old mid new before between after sector mark first frames (inl none) = inl (makes_then first (makes_wider volume_page (λ i p no. absurd no) none))
stopped_makes old mid new before between after sector mark first frames (inr (label, _, inl none)) =
    inl (subst (λ (q : Slots). Makes volume_page [] old before new q) (sym frames) (makes_then first (makes_wider volume_page (λ i p no. absurd no) none)))
stopped_makes old mid new before between after sector mark first frames (inr (label, _, inr made)) =
    inr (sector, label, subst (λ (q : Slots). Makes volume_page (LabelOnly sector (with_mark mark label) ∷ []) old before new q) (sym frames) (makes_then first (makes_wider volume_page (λ i p no. absurd no) made)))

-- the disk has as many sectors
pub marked_sectors : (mark : Mark) (old new : DiskState) (before after : Slots) → WritesMark mark old before new after → new.sectors ≡ old.sectors
marked_sectors mark old new before after (inl none) = none.went.sectors
marked_sectors mark old new before after (inr made) = made.2.went.sectors

-- the leader of a file has a label that names it
pub leader_one : {tables : ℕ} (layout : Layout) (runs : List Run) (shapes : Shapes) (x : List Sector) (b : IsBookedUpto tables layout runs shapes x) (id sector : ℕ) → 16 ≤ id → IsTriple (labels_of x) id leader_page sector → HasOne (ones_of (record { id = id; page = leader_page })) x sector
leader_one layout runs shapes x b id sector some t =
    let reveals = leader_reveals layout runs shapes x b id sector some t in
    let u = sector_of_label x sector reveals.label reveals.here in
    (u.0, u.1, ap (λ (l : Label). names l (record { id = id; page = leader_page })) u.2 ∙ reveals.named)
