-- What the labels and maps of a memory of files say to the filer.
use Rattle.std.proofs.Common.{◌≡◌, ℕ, ◌+◌, ◌<◌, ◌≤◌, true, false, Bool, ◌&&◌, ◌||◌, ◌≢◌, List, [], ◌∷◌, length, Some, None, Option, inl, inr, refl, sym, ◌∙◌, ap, subst, arith}
use Rattle.std.specs.Prelude.{slice_get, slice_set, IsSomeAnd, IsTrue, ◌==◌, nat_lt}
use Rattle.std.proofs.lemmas.Option.{same_Some}
use Rattle.std.proofs.lemmas.List.{length-map}
use Rattle.std.proofs.lemmas.Bool.{true≢false, ne_eqb}
use Rattle.std.proofs.lemmas.Bool.Decides.{nat_tests}
use Rattle.labelled_disk.specs.declared.label.Label.{Label}
use Rattle.labelled_disk.specs.declared.layout.Layout.{Layout}
use Rattle.labelled_disk.specs.Label.{is_free, names, leader_page, page_label}
use Rattle.labelled_disk.proofs.Finds.{get_set_other}
use Rattle.labelled_disk.specs.Layout.{vam, vfm}
use Rattle.labelled_disk.specs.Sectors.{Sector}
use Rattle.labelled_disk.specs.State.{DiskState}
use Rattle.frame_pool.specs.declared.home.Home.{Home}
use Rattle.frame_pool.specs.Frames.{Slots}
use Rattle.file_map.specs.declared.run.Run.{Run}
use Rattle.file_map.specs.Run.{holds, sector_at, IsRun}
use Rattle.file_map.specs.FileMap.{Triples, IsNowhere}
use Rattle.file_map.specs.InSectors.{map_bytes}
use Rattle.flat_machine.specs.declared.space.Space.{Space}
use Rattle.swapper_kernel.specs.declared.manager.Manager.{Manager}
use Rattle.swapper_kernel.specs.declared.manager.Manager.TheVariants.{AllocationMap, FileMap}
use Rattle.swapper_kernel.specs.Homes.{IsLayout, AreNamed, Brings, IsNamed}
use Rattle.swapper_kernel.specs.Maps.{IsMapHome}
use Rattle.swapper_kernel.specs.Stands.{Stands, labels_of}
use Rattle.swapper_kernel.specs.DiffersLaws.{sector_of_label}
use Rattle.session_words.specs.Parts.{Shape, Shapes, HasMapLabels, HasTriples, IsLeader, IsTriple, is_owned_upto}
use Rattle.session_words.specs.GrowLaws.{AreFree, grown_labels}
use Rattle.session_words.proofs.LooseLemmas.{names_id}
use Rattle.session_words.specs.FrameLaws.{HasFrames}
use Rattle.session_words.proofs.FrameLemmas.{frame_laws}
use Rattle.session_words.proofs.ShownLemmas.{shown_laws}
use Rattle.filer_kernel.specs.declared.cached.CachedRuns.{CachedRuns}
use Rattle.filer_kernel.specs.Cached.{runs_of}
use Rattle.filer_kernel.specs.Triples.{MapIs, AreOf}
use Rattle.filer_kernel.specs.PlaceLaws.{data_first}
use Rattle.file_manager.specs.Book.{AreTrue, IsBookedUpto, BooksUpto, BringsOwn}

module _ {tables : ℕ} (layout : Layout) (runs : List Run) (shapes : Shapes) (x : List Sector) (is : IsLayout layout) (booked : IsBookedUpto tables layout runs shapes x) where
  -- the map is one that the filer finds
  pub map_is : MapIs layout booked.named x
  map_is =
      let shows = (shown_laws.bytes layout x (map_bytes x) is booked.long booked.sectors).1 refl in
      record { bytes = map_bytes x; shows = shows; names = (shown_laws.names layout x (map_bytes x) booked.named is booked.long booked.sectors shows).1 booked.map }

  -- the runs that are kept are the map's
  pub kept_are : AreOf booked.named runs
  kept_are k r at page has = booked.triples.all r.id page (sector_at r page) (booked.kept k r at page has)

-- runs of the map are true
pub true_by_map : (labels : List Label) (named : Triples) (runs : List Run) → HasTriples named labels → AreOf named runs → AreTrue labels runs
true_by_map labels named runs triples of k r at page has = triples.only r.id page (sector_at r page) (of k r at page has)

-- a label that is revealed of an option
pub label_in : (o : Option Label) (P : Label → Type 0) → IsSomeAnd o P → (l : Label) × (o ≡ Some l) × P l
label_in (Some l) P is = (l, refl, is)
label_in None P is = absurd is

module _ (layout : Layout) (x : List Sector) (is : IsLayout layout) (long : length x ≡ layout.sectors) (labels : HasMapLabels (labels_of x)) where
  count : length (labels_of x) ≡ layout.sectors
  count = length-map x _ ∙ long

  parts : (layout.vam ≡ vam layout.sectors) × (layout.vfm ≡ vfm layout.sectors)
  parts = (ap (λ (l : Layout). l.vam) is.1, ap (λ (l : Layout). l.vfm) is.1)

  -- the labels of the file map's sectors name its pages
  pub map_named : AreNamed x (IsMapHome FileMap layout)
  map_named home (page, below, same) =
      let here : page < vfm (length (labels_of x)) = subst (λ (n : ℕ). page < n) (parts.1 ∙ ap vfm (sym count)) below in
      let l = label_in _ _ (labels.file_map page here) in
      let place : 1 + vam (length (labels_of x)) + page ≡ 1 + layout.vam + page = ap (λ (n : ℕ). 1 + n + page) (ap vam count ∙ sym parts.0) in
      let s = sector_of_label x (1 + layout.vam + page) l.0 (ap (slice_get (labels_of x)) (sym place) ∙ l.1) in
      subst (IsNamed x) (sym same) (record { sector = s.0; here = s.1; named = ap (λ (label : Label). names label (record { id = 2; page = page })) s.2 ∙ l.2 })

-- only pages of the volume's own came, so each frame's page is known
pub known_after : (before after : Slots) (spaces : List Space) → BringsOwn before after → HasFrames before spaces → HasFrames after spaces
known_after before after spaces brings frames = frame_laws.brought before after spaces (record { homes = λ home held. elim (brings.homes home held) [ inl was ↦ inl was | inr own ↦ inr (inl own) ] }) frames

-- pages of a map are the volume's own
pub own_maps : (which : Manager) (layout : Layout) (before after : Slots) → Brings (IsMapHome which layout) before after → BringsOwn before after
own_maps AllocationMap layout before after brings = record {
  homes = λ home held. elim (brings.homes home held) [
    | inl was ↦ inl was
    | inr (page, below, same) ↦ inr (subst (λ (h : Home). (1 ≤ h.id) × (h.id ≤ 3)) (sym same) (omega arith, omega arith))
  ];
}
own_maps FileMap layout before after brings = record {
  homes = λ home held. elim (brings.homes home held) [
    | inl was ↦ inl was
    | inr (page, below, same) ↦ inr (subst (λ (h : Home). (1 ≤ h.id) × (h.id ≤ 3)) (sym same) (omega arith, omega arith))
  ];
}

-- where the memory stands still, with runs that are the map's, the book is as it was
pub books_stay : {tables : ℕ} (layout : Layout) (old new : DiskState) (before after : Slots) (kept runs : CachedRuns) (shapes : Shapes) (spaces : List Space) (x : List Sector) (books : BooksUpto tables old before layout kept shapes spaces x)
    → Stands new after x → BringsOwn before after → AreOf books.booked.named (runs_of layout.sectors runs) → BooksUpto tables new after layout runs shapes spaces x
books_stay layout old new before after kept runs shapes spaces x books stands brings of =
    let b = books.booked in
    record {
      stands = stands;
      booked = record {
        sectors = b.sectors;
        long = b.long;
        files = b.files;
        root_label = b.root_label;
        map_labels = b.map_labels;
        labels = b.labels;
        bits = b.bits;
        named = b.named;
        map = b.map;
        triples = b.triples;
        kept = true_by_map (labels_of x) b.named (runs_of layout.sectors runs) b.triples of;
      };
      frames = known_after before after spaces brings books.frames;
    }

held_within : (r : Run) (id page : ℕ) → holds r id page ≡ true → (r.first ≤ page) × (page < r.first + r.pages)
held_within r id page has = (grind (arith, nat_tests), grind (arith, nat_tests))

-- a file's leader is one of the pages that labels name
pub leader_owned : (tables : ℕ) (shapes : Shapes) (id : ℕ) (f : Shape) → shapes id ≡ Some f → is_owned_upto tables shapes id leader_page ≡ true
leader_owned tables shapes id f is = rw is (or_true (id == 3 && nat_lt leader_page tables))
  where
    or_true : (b : Bool) → (b || true) ≡ true
    or_true true = refl
    or_true false = refl

-- where no sector is named for a file's leader, there is no such file
pub no_leader : {tables : ℕ} (layout : Layout) (runs : List Run) (shapes : Shapes) (x : List Sector) (b : IsBookedUpto tables layout runs shapes x) (id : ℕ) → IsNowhere b.named id leader_page → shapes id ≡ None
no_leader {tables = tables} layout runs shapes x b id nowhere = either (shapes id) refl
  where
    either : (o : Option Shape) → shapes id ≡ o → o ≡ None
    either None is = refl
    either (Some f) is =
        let owned : is_owned_upto tables shapes id leader_page ≡ true = leader_owned tables shapes id f is in
        let place = b.labels.pages.all id leader_page owned in
        let named = b.triples.all id leader_page place.place (record { label = place.label; there = place.there; taken = place.taken; same_id = place.same_id; same_page = place.same_page }) in
        absurd (true≢false (sym named ∙ nowhere place.place))

-- the sectors of a run are data sectors
pub run_place : (layout : Layout) (r : Run) (id page : ℕ) → IsLayout layout → IsRun layout.sectors r → holds r id page ≡ true → (layout.first ≤ sector_at r page) × (sector_at r page < layout.sectors)
run_place layout r id page is form has =
    let from = form.from_data in
    let inside = form.inside in
    let first = data_first layout is in
    let within : (r.first ≤ page) × (page < r.first + r.pages) = held_within r id page has in
    (omega (arith, from, first, within), omega (arith, inside, within))

-- the leader that is found reveals the file's type and marks
pub record LeaderReveals (labels : List Label) (shapes : Shapes) (id sector : ℕ) : Type 0 where
  pub label : Label
  pub here : slice_get labels sector ≡ Some label
  pub shape : Shape
  pub is_shape : shapes id ≡ Some shape
  pub reveals : IsLeader label shape
  pub named : names label (record { id = id; page = leader_page }) ≡ true

pub owned_shape : (tables : ℕ) (shapes : Shapes) (id page : ℕ) → 16 ≤ id → is_owned_upto tables shapes id page ≡ true → (f : Shape) × (shapes id ≡ Some f)
owned_shape tables shapes id page some owned = either (shapes id) refl
  where
    either : (o : Option Shape) → shapes id ≡ o → (f : Shape) × (shapes id ≡ Some f)
    either (Some f) is = (f, is)
    either None is =
        let small : (id == 3) ≡ false = grind (arith, nat_tests) in
        let none : is_owned_upto tables shapes id page ≡ false = rw (small, is) refl in
        absurd (true≢false (sym owned ∙ none))

pub leader_reveals : {tables : ℕ} (layout : Layout) (runs : List Run) (shapes : Shapes) (x : List Sector) (b : IsBookedUpto tables layout runs shapes x) (id sector : ℕ) → 16 ≤ id → IsTriple (labels_of x) id leader_page sector
    → LeaderReveals (labels_of x) shapes id sector
leader_reveals {tables = tables} layout runs shapes x b id sector some triple =
    let owned = b.labels.pages.only sector triple.label triple.there triple.taken in
    let own : is_owned_upto tables shapes id leader_page ≡ true = (λ j. is_owned_upto tables shapes (sym triple.same_id j) (sym triple.same_page j)) ∙ owned.is in
    let f = owned_shape tables shapes id leader_page some own in
    record {
      label = triple.label;
      here = triple.there.here;
      shape = f.0;
      is_shape = f.1;
      reveals = b.labels.leaders.reveal sector triple.label f.0 triple.there (ap shapes triple.same_id ∙ f.1) triple.same_page;
      named = (λ j. names triple.label (record { id = sym triple.same_id j; page = sym triple.same_page j })) ∙ owned.named;
    }

-- a sector that isn't free keeps its label while free ones get labels
pub root_grown : (id kind page : ℕ) (is : List ℕ) (labels : List Label) (l : Label) → AreFree id kind page is labels → is_free l ≡ false → slice_get labels 0 ≡ Some l → slice_get (grown_labels id kind page is labels) 0 ≡ Some l
root_grown id kind page [] labels l free taken here = here
root_grown id kind page (i ∷ is) labels l free taken here =
    let apart : 0 ≢ i = λ q. let same : l ≡ free.0.label = same_Some l free.0.label (sym here ∙ ap (slice_get labels) q ∙ free.0.there.here) in absurd (true≢false (sym (ap is_free same ∙ free.0.free) ∙ taken)) in
    root_grown id kind (page + 1) is (slice_set labels i (page_label id kind page)) l free.1 taken (get_set_other labels i 0 (page_label id kind page) apart ∙ here)

pub root_label_grown : (id kind page : ℕ) (is : List ℕ) (labels : List Label) → AreFree id kind page is labels → IsSomeAnd (slice_get labels 0) (λ l. IsTrue (names l (record { id = 4; page = 0 })))
    → IsSomeAnd (slice_get (grown_labels id kind page is labels) 0) (λ l. IsTrue (names l (record { id = 4; page = 0 })))
root_label_grown id kind page is labels free root =
    let r = label_in (slice_get labels 0) (λ l. IsTrue (names l (record { id = 4; page = 0 }))) root in
    let four : r.0.id ≡ 4 = names_id r.0 (record { id = 4; page = 0 }) r.2 in
    let stays = root_grown id kind page is labels r.0 free (ne_eqb r.0.id 0 (omega (arith, four))) r.1 in
    subst (λ (o : Option Label). IsSomeAnd o (λ l. IsTrue (names l (record { id = 4; page = 0 })))) (sym stays) r.2
