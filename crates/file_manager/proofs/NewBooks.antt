-- The root of the volume was written, and the file map was cut of a file that it hasn't: files and maps are as they were.
use Rattle.std.proofs.Common.{◌≡◌, ◌≢◌, inl, ℕ, ◌+◌, ◌-◌, ◌*◌, ◌<◌, ◌≤◌, Bool, true, false, not, ◌&&◌, List, length, filter, None, refl, sym, ◌∙◌, ap, subst, arith, length-set}
use Rattle.std.specs.Prelude.{slice_get, slice_set, ◌==◌, nat_le, IsSomeAnd, IsTrue}
use Rattle.std.proofs.lemmas.Option.{none-some}
use Rattle.std.proofs.lemmas.Bool.{ne_eqb}
use Rattle.std.proofs.lemmas.List.{length-map, map-set}
use Rattle.labelled_disk.specs.declared.label.Label.{Label}
use Rattle.labelled_disk.specs.declared.layout.Layout.{Layout}
use Rattle.labelled_disk.specs.Label.{names, root_label}
use Rattle.labelled_disk.specs.Layout.{vam}
use Rattle.labelled_disk.specs.Sectors.{Sector, AreSectors}
use Rattle.labelled_disk.specs.State.{DiskState}
use Rattle.labelled_disk.proofs.Finds.{get_set_same, get_set_other}
use Rattle.frame_pool.specs.declared.home.Home.{Home}
use Rattle.frame_pool.specs.Frames.{Slots}
use Rattle.file_map.specs.declared.run.Run.{Run}
use Rattle.file_map.specs.Run.{sector_at}
use Rattle.file_map.specs.FileMap.{without_from}
use Rattle.file_map.specs.InSectors.{MapNames}
use Rattle.flat_machine.specs.declared.space.Space.{Space}
use Rattle.swapper_kernel.specs.declared.manager.Manager.TheVariants.{AllocationMap, FileMap}
use Rattle.swapper_kernel.specs.DiffersLaws.{same_length}
use Rattle.swapper_kernel.specs.Homes.{IsLayout, AreNamed}
use Rattle.swapper_kernel.specs.Maps.{IsMapHome}
use Rattle.swapper_kernel.specs.Stands.{Stands, labels_of}
use Rattle.swapper_kernel.specs.Window.{Beside, Shows}
use Rattle.filer_kernel.specs.declared.cached.CachedRuns.{CachedRuns}
use Rattle.filer_kernel.specs.Becomes.{Becomes}
use Rattle.filer_kernel.specs.Cached.{runs_of}
use Rattle.filer_kernel.specs.Triples.{MapIs, AreOf}
use Rattle.filer_kernel.proofs.LawLemmas.{are_of_fewer}
use Rattle.session_words.specs.Parts.{Shapes, HasLabels, HasMapLabels, MarksFit, HasTriples, is_owned, is_marked}
use Rattle.session_words.proofs.BitLemmas.{bits_alike}
use Rattle.session_words.proofs.FoundLemmas.{owner}
use Rattle.session_words.proofs.RootLabelLemmas.{labels_then, map_labels_then, bits_then, triples_then}
use Rattle.session_words.proofs.ShownLemmas.{shown_laws}
use Rattle.file_manager.specs.Book.{Books}
use Rattle.file_manager.specs.Making.{MayCreate, free_count}
use Rattle.file_manager.proofs.BookLemmas.{true_by_map, known_after, kept_are}
use Rattle.file_manager.proofs.FreedRun.{map_brings}
use Rattle.file_manager.proofs.GrowSteps.{renamed}
use Rattle.file_manager.proofs.RunStages.{shows_still, beside_map, maps_named, vam_is, in_bits, are_shown, shown_bits, mark_is, map_is}
use Rattle.file_manager.proofs.UpLemmas.{count_same}

pub not_cut : (b c d : Bool) → (d ≡ true → b ≡ false) → d ≡ (d && not (b && c))
not_cut b c false apart = refl
not_cut b c true apart = sym (ap (λ (a : Bool). not (a && c)) (apart refl))

module _ (layout : Layout) (is : IsLayout layout) (kept : CachedRuns) (shapes : Shapes) (spaces : List Space) (x : List Sector) (d0 : DiskState) (s0 : Slots) (books : Books d0 s0 layout kept shapes spaces x) (page : List ℕ) where
  runs : List Run
  runs = runs_of layout.sectors kept

  -- with this page as its root
  abbrev pub rooted : List Sector
  rooted = slice_set x 0 (root_label, page)

  labels_rooted : labels_of (slice_set x 0 (root_label, page)) ≡ slice_set (labels_of x) 0 root_label
  labels_rooted = map-set (λ (s : Sector). s.0) x 0 (root_label, page)

  pub after : (k : ℕ) → k ≢ 0 → slice_get (slice_set x 0 (root_label, page)) k ≡ slice_get x k
  after k other = get_set_other x 0 k (root_label, page) other

  -- the map is as it was
  pub map_rooted : MapIs layout books.booked.named (slice_set x 0 (root_label, page))
  map_rooted =
      let was = map_is layout is (runs_of layout.sectors kept) shapes x books.booked books.booked.named books.booked.map in
      record {
        bytes = was.bytes;
        shows = shows_still FileMap layout x (slice_set x 0 (root_label, page)) was.bytes (λ k s below here. (s, after (1 + layout.vam + k) (λ e. omega (arith, e)) ∙ here, refl)) was.shows;
        names = was.names;
      }

  pub named_rooted : AreNamed (slice_set x 0 (root_label, page)) (IsMapHome FileMap layout)
  named_rooted home (p, below, at) =
      let was = maps_named layout is (runs_of layout.sectors kept) shapes x books.booked FileMap home (p, below, at) in
      let place : home.sector ≡ 1 + layout.vam + p = ap (λ (h : Home). h.sector) at in
      record { sector = was.sector; here = after home.sector (λ e. omega (arith, e, place)) ∙ was.here; named = was.named }

  module _ (id : ℕ) (high : 16 ≤ id) (none : shapes id ≡ None) (d1 : DiskState) (d2 : DiskState) (s2 : Slots) (l2 : Layout) (beside : Beside FileMap d1 s0 layout d2 s2 l2) (last : CachedRuns)
      (cut : Becomes FileMap layout (slice_set x 0 (root_label, page)) (MapIs layout (without_from books.booked.named id 0)) d2 s2)
      (forgotten : runs_of layout.sectors last ≡ filter (λ r. not (r.id == id)) (runs_of layout.sectors kept)) (in_form : (y : List Sector) → Stands d2 s2 y → AreSectors y) where
    pub labels_cut : labels_of cut.memory ≡ slice_set (labels_of x) 0 root_label
    labels_cut = cut.differs.labels ∙ labels_rooted

    pub long_cut : length cut.memory ≡ length x
    long_cut = same_length (slice_set x 0 (root_label, page)) cut.memory cut.differs.labels ∙ length-set x 0 (root_label, page)

    -- no page of the file is named
    nothing : (i p s : ℕ) → books.booked.named i p s ≡ true → i ≢ id
    nothing i p s named same =
        let t = books.booked.triples.only i p s named in
        let owned = (books.booked.labels.pages.only s t.label t.there t.taken).is in
        let own : is_owned shapes id p ≡ true = (λ j. is_owned shapes (sym (t.same_id ∙ same) j) (sym t.same_page j)) ∙ owned in
        let o = owner shapes id p (λ q. omega (arith, q, high)) own in
        none-some o.0 (sym none ∙ o.1)

    names_same : (i p s : ℕ) → books.booked.named i p s ≡ without_from books.booked.named id 0 i p s
    names_same i p s = not_cut (i == id) (nat_le 0 p) (books.booked.named i p s) (λ named. ne_eqb i id (nothing i p s named))

    pub map_cut : MapNames cut.memory books.booked.named
    map_cut =
        let now : MapNames cut.memory (without_from books.booked.named id 0) = (shown_laws.names layout cut.memory cut.is.bytes (without_from books.booked.named id 0) is (long_cut ∙ books.booked.long) (in_form cut.memory cut.stands) cut.is.shows).0 cut.is.names in
        renamed cut.memory (without_from books.booked.named id 0) books.booked.named names_same now

    -- the bits are as they were
    shows_cut : Shows AllocationMap cut.memory layout (shown_bits layout is (runs_of layout.sectors kept) shapes x books.booked)
    shows_cut = shows_still AllocationMap layout x cut.memory (shown_bits layout is (runs_of layout.sectors kept) shapes x books.booked) (λ k s below here.
        (s, cut.differs.pages (1 + k) s (after (1 + k) (λ e. omega (arith, e)) ∙ here) (beside_map FileMap layout (1 + k) s.0 (inl (omega (arith, below)))), refl))
        (are_shown layout is (runs_of layout.sectors kept) shapes x books.booked)

    pub mark_cut : (k : ℕ) → k < 4096 * layout.vam → is_marked cut.memory k ≡ is_marked x k
    mark_cut k below = sym (shown_laws.bits layout cut.memory (shown_bits layout is (runs_of layout.sectors kept) shapes x books.booked) k shows_cut below) ∙ mark_is layout is (runs_of layout.sectors kept) shapes x books.booked k below

    kept_cut : AreOf books.booked.named (runs_of layout.sectors last)
    kept_cut k r at p has =
        let fewer = subst (AreOf (without_from books.booked.named id 0)) (sym forgotten) (are_of_fewer books.booked.named (runs_of layout.sectors kept) id 0 (kept_are layout (runs_of layout.sectors kept) shapes x is books.booked)) in
        names_same r.id p (sector_at r p) ∙ fewer k r at p has

    pub books_cut : Books d2 s2 layout last shapes spaces cut.memory
    books_cut =
        let b = books.booked in
        let long : length (slice_set (labels_of x) 0 root_label) ≡ length x = length-set (labels_of x) 0 root_label ∙ length-map x (λ s. s.0) in
        let some : 1 ≤ length (slice_set (labels_of x) 0 root_label) = let size = b.long in let least = is.0.0 in omega (arith, long, size, least) in
        let triples : HasTriples b.named (labels_of cut.memory) = subst (HasTriples b.named) (sym labels_cut) (triples_then (labels_of x) root_label b.named b.triples) in
        record {
          stands = cut.stands;
          booked = record {
            sectors = in_form cut.memory cut.stands;
            long = long_cut ∙ b.long;
            files = b.files;
            root_label = subst (λ (l : List Label). IsSomeAnd (slice_get l 0) (λ m. IsTrue (names m (record { id = 4; page = 0 })))) (sym labels_cut)
                (subst (λ o. IsSomeAnd o (λ m. IsTrue (names m (record { id = 4; page = 0 })))) (sym (get_set_same (labels_of x) 0 root_label (let one = some in let same = length-set (labels_of x) 0 root_label in omega (arith, one, same)))) refl);
            map_labels = subst HasMapLabels (sym labels_cut) (map_labels_then (labels_of x) root_label b.map_labels);
            labels = subst (λ (l : List Label). HasLabels l shapes) (sym labels_cut) (labels_then (labels_of x) root_label 96 shapes b.labels);
            bits = subst (MarksFit (is_marked cut.memory)) (sym labels_cut) (bits_alike (slice_set (labels_of x) 0 root_label) (is_marked x) (is_marked cut.memory) some
                (λ k below. mark_cut k (subst (λ (v : ℕ). k < 4096 * v) (sym (vam_is layout is (runs_of layout.sectors kept) shapes x b)) (subst (λ (n : ℕ). k < 4096 * vam n) long below))) (bits_then (labels_of x) root_label (is_marked x) b.bits));
            named = b.named;
            map = map_cut;
            triples = triples;
            kept = true_by_map (labels_of cut.memory) b.named (runs_of layout.sectors last) triples kept_cut;
          };
          frames = known_after s0 s2 spaces (map_brings beside) books.frames;
        }

    pub free_cut : free_count layout cut.memory ≡ free_count layout x
    free_cut = count_same (λ k. not (is_marked cut.memory k)) (λ k. not (is_marked x k)) layout.first (layout.sectors - layout.first) (λ k above below.
        ap not (mark_cut k (in_bits layout is (runs_of layout.sectors kept) shapes x books.booked k (omega (arith, above, below)))))

    pub may_cut : (pages : ℕ) → MayCreate d0 s0 layout kept shapes spaces id pages x → MayCreate d2 s2 layout last shapes spaces id pages cut.memory
    may_cut pages may = record {
      books = books_cut;
      hidden = may.hidden;
      are = may.are;
      none = may.none;
      enough = let free = free_cut in let enough = may.enough in omega (arith, free, enough);
    }
