-- The file map was cut of a file that it hasn't, as before the pages of the space tables are made: files and maps are as they were.
use Rattle.std.proofs.Common.{◌≡◌, ◌≢◌, inl, ℕ, ◌+◌, ◌-◌, ◌*◌, ◌^◌, ◌<◌, ◌≤◌, true, not, List, [], ◌∷◌, length, filter, refl, sym, ◌∙◌, ap, subst, arith}
use Rattle.std.specs.Prelude.{slice_get, nat_le, ◌==◌, IsSomeAnd, IsTrue}
use Rattle.std.proofs.lemmas.Bool.{ne_eqb, true≢false}
use Rattle.std.proofs.lemmas.List.{length-map}
use Rattle.labelled_disk.specs.declared.label.Label.{Label}
use Rattle.labelled_disk.specs.declared.layout.Layout.{Layout}
use Rattle.labelled_disk.specs.Label.{names, leader_page}
use Rattle.labelled_disk.specs.Layout.{vam}
use Rattle.labelled_disk.specs.Sectors.{Sector, AreSectors}
use Rattle.labelled_disk.specs.State.{DiskState}
use Rattle.frame_pool.specs.Frames.{Slots}
use Rattle.file_map.specs.declared.run.Run.{Run}
use Rattle.file_map.specs.Run.{sector_at}
use Rattle.file_map.specs.FileMap.{without_from}
use Rattle.file_map.specs.InSectors.{MapNames}
use Rattle.flat_machine.specs.declared.space.Space.{Space}
use Rattle.swapper_kernel.specs.declared.manager.Manager.TheVariants.{AllocationMap, FileMap}
use Rattle.swapper_kernel.specs.DiffersLaws.{same_length}
use Rattle.swapper_kernel.specs.GoesLaws.{makes_then}
use Rattle.swapper_kernel.specs.HaltLaws.{brings_then}
use Rattle.swapper_kernel.specs.Homes.{IsLayout}
use Rattle.swapper_kernel.specs.Kinds.{kind_of, maps_alone}
use Rattle.swapper_kernel.specs.Stands.{Stands, labels_of}
use Rattle.swapper_kernel.specs.Window.{Beside, Shows}
use Rattle.filer_kernel.specs.declared.cached.CachedRuns.{CachedRuns}
use Rattle.filer_kernel.specs.Becomes.{Becomes}
use Rattle.filer_kernel.specs.Cached.{runs_of}
use Rattle.filer_kernel.specs.Triples.{MapIs, AreOf}
use Rattle.filer_kernel.proofs.LawLemmas.{are_of_fewer}
use Rattle.session_words.specs.GrowLaws.{AreFree, grown_labels}
use Rattle.session_words.specs.OpenLaws.{TablesMade}
use Rattle.session_words.specs.Parts.{Shapes, HasLabelsUpto, HasMapLabels, MarksFit, HasTriples, is_owned_upto, is_marked}
use Rattle.session_words.proofs.BitLemmas.{bits_alike}
use Rattle.session_words.proofs.ShownLemmas.{shown_laws}
use Rattle.file_manager.specs.Book.{BooksUpto}
use Rattle.file_manager.specs.Making.{LedAndGrown, MakesAll, MakesSome, free_count}
use Rattle.file_manager.specs.Tables.{MayBegin, BegunBy}
use Rattle.file_manager.proofs.BookLemmas.{true_by_map, known_after}
use Rattle.file_manager.proofs.FreedRun.{map_brings, map_makes}
use Rattle.file_manager.proofs.FreesLemmas.{no_map}
use Rattle.file_manager.proofs.GrowSteps.{marks_alike, renamed}
use Rattle.filer_kernel.specs.MapOnce.{named_once}
use Rattle.file_manager.proofs.NewBooks.{not_cut}
use Rattle.file_manager.proofs.RunLeads.{one_memory}
use Rattle.file_manager.proofs.RunStages.{shows_still, beside_map, vam_is, vfm_is, in_bits, are_shown, shown_bits, mark_is}
use Rattle.file_manager.proofs.TablesMade.{no_shape, unowned_from}
use Rattle.file_manager.proofs.UpLemmas.{count_same}

module _ {tables : ℕ} (layout : Layout) (is : IsLayout layout) (kept : CachedRuns) (shapes : Shapes) (spaces : List Space) (x : List Sector) (d0 : DiskState) (s0 : Slots) (books : BooksUpto tables d0 s0 layout kept shapes spaces x)
    (id : ℕ) (nothing : (i p s : ℕ) → books.booked.named i p s ≡ true → i ≢ id) (d2 : DiskState) (s2 : Slots) (l2 : Layout) (beside : Beside FileMap d0 s0 layout d2 s2 l2) (last : CachedRuns)
    (cut : Becomes FileMap layout x (MapIs layout (without_from books.booked.named id 0)) d2 s2)
    (forgotten : runs_of layout.sectors last ≡ filter (λ r. not (r.id == id)) (runs_of layout.sectors kept)) (in_form : (y : List Sector) → Stands d2 s2 y → AreSectors y) where
  abbrev runs : List Run
  runs = runs_of layout.sectors kept

  labels_cut : labels_of cut.memory ≡ labels_of x
  labels_cut = cut.differs.labels

  long_cut : length cut.memory ≡ length x
  long_cut = same_length x cut.memory labels_cut

  names_same : (i p s : ℕ) → books.booked.named i p s ≡ without_from books.booked.named id 0 i p s
  names_same i p s = not_cut (i == id) (nat_le 0 p) (books.booked.named i p s) (λ named. ne_eqb i id (nothing i p s named))

  -- the map names the same
  map_cut : MapNames cut.memory books.booked.named
  map_cut =
      let now : MapNames cut.memory (without_from books.booked.named id 0) = (shown_laws.names layout cut.memory cut.is.bytes (without_from books.booked.named id 0) is (long_cut ∙ books.booked.long) (in_form cut.memory cut.stands) cut.is.shows).0 cut.is.names in
      renamed cut.memory (without_from books.booked.named id 0) books.booked.named names_same now

  -- the bits are as they were
  shows_cut : Shows AllocationMap cut.memory layout (shown_bits layout is runs shapes x books.booked)
  shows_cut = shows_still AllocationMap layout x cut.memory (shown_bits layout is runs shapes x books.booked)
      (λ k s below here. (s, cut.differs.pages (1 + k) s here (beside_map FileMap layout (1 + k) s.0 (inl (omega (arith, below)))), refl)) (are_shown layout is runs shapes x books.booked)

  mark_cut : (k : ℕ) → k < 4096 * layout.vam → is_marked cut.memory k ≡ is_marked x k
  mark_cut k below = sym (shown_laws.bits layout cut.memory (shown_bits layout is runs shapes x books.booked) k shows_cut below) ∙ mark_is layout is runs shapes x books.booked k below

  kept_cut : AreOf books.booked.named (runs_of layout.sectors last)
  kept_cut k r at p has =
      let were : AreOf books.booked.named runs = λ j q here page holds. books.booked.triples.all q.id page (sector_at q page) (books.booked.kept j q here page holds) in
      let fewer = subst (AreOf (without_from books.booked.named id 0)) (sym forgotten) (are_of_fewer books.booked.named runs id 0 were) in
      names_same r.id p (sector_at r p) ∙ fewer k r at p has

  pub books_cut : BooksUpto tables d2 s2 layout last shapes spaces cut.memory
  books_cut =
      let b = books.booked in
      let some : 1 ≤ length (labels_of x) = let long = length-map x (λ s. s.0) in let size = b.long in let least = is.0.0 in omega (arith, long, size, least) in
      let triples : HasTriples b.named (labels_of cut.memory) = subst (HasTriples b.named) (sym labels_cut) b.triples in
      record {
        stands = cut.stands;
        booked = record {
          sectors = in_form cut.memory cut.stands;
          long = long_cut ∙ b.long;
          files = b.files;
          root_label = subst (λ (l : List Label). IsSomeAnd (slice_get l 0) (λ m. IsTrue (names m (record { id = 4; page = 0 })))) (sym labels_cut) b.root_label;
          map_labels = subst HasMapLabels (sym labels_cut) b.map_labels;
          labels = subst (λ (l : List Label). HasLabelsUpto tables l shapes) (sym labels_cut) b.labels;
          bits = subst (MarksFit (is_marked cut.memory)) (sym labels_cut) (bits_alike (labels_of x) (is_marked x) (is_marked cut.memory) some
              (λ k below. mark_cut k (subst (λ (v : ℕ). k < 4096 * v) (sym (vam_is layout is runs shapes x b)) (subst (λ (n : ℕ). k < 4096 * vam n) (length-map x (λ s. s.0)) below))) b.bits);
          named = b.named;
          map = map_cut;
          triples = triples;
          kept = true_by_map (labels_of cut.memory) b.named (runs_of layout.sectors last) triples kept_cut;
        };
        frames = known_after s0 s2 spaces (map_brings beside) books.frames;
      }

  pub free_cut : free_count layout cut.memory ≡ free_count layout x
  free_cut = count_same (λ k. not (is_marked cut.memory k)) (λ k. not (is_marked x k)) layout.first (layout.sectors - layout.first) (λ k above below.
      ap not (mark_cut k (in_bits layout is runs shapes x books.booked k (omega (arith, above, below)))))

  -- the pages of the tables, made after that, were made of the memory before
  pub tables_after : (sectors : List ℕ) (y : List Sector) → TablesMade sectors cut.memory y → TablesMade sectors x y
  tables_after sectors y made =
      let few : length x < 2 ^ 32 = let size = books.booked.long in let most = is.0.1 in omega (arith, size, most) in
      record {
        count = made.count;
        grown = record {
          free = subst (AreFree 3 0 0 sectors) labels_cut made.grown.free;
          labels = made.grown.labels ∙ ap (grown_labels 3 0 0 sectors) labels_cut;
          pages = λ k s here none unmapped.
              let now = cut.differs.pages k s here (no_map FileMap (length x) layout (vam_is layout is runs shapes x books.booked) (vfm_is layout is runs shapes x books.booked) k s.0 unmapped) in
              made.grown.pages k s now none (ap (λ (n : ℕ). maps_alone (kind_of n k s.0)) long_cut ∙ unmapped);
          fresh = made.grown.fresh;
          sectors = made.grown.sectors;
        };
        bits = λ k below.
            made.bits k (subst (λ (n : ℕ). k < 4096 * vam n) (sym long_cut) below)
            ∙ marks_alike sectors (is_marked cut.memory) (is_marked x) k (mark_cut k (subst (λ (v : ℕ). k < 4096 * v) (sym (vam_is layout is runs shapes x books.booked)) below));
        triples = λ named names.
            made.triples named (renamed cut.memory books.booked.named named (named_once x books.booked.named named few books.booked.map names) map_cut);
      }

  -- and so were the leader and the pages of a file
  pub file_after : (kind leader : ℕ) (sectors : List ℕ) (y : List Sector) → LedAndGrown id kind leader sectors cut.memory y → LedAndGrown id kind leader sectors x y
  file_after kind leader sectors y made =
      let few : length x < 2 ^ 32 = let size = books.booked.long in let most = is.0.1 in omega (arith, size, most) in
      record {
        middle = made.middle;
        led = record {
          grown = record {
            free = subst (AreFree id kind leader_page (leader ∷ [])) labels_cut made.led.grown.free;
            labels = made.led.grown.labels ∙ ap (grown_labels id kind leader_page (leader ∷ [])) labels_cut;
            pages = λ k s here none unmapped.
                let now = cut.differs.pages k s here (no_map FileMap (length x) layout (vam_is layout is runs shapes x books.booked) (vfm_is layout is runs shapes x books.booked) k s.0 unmapped) in
                made.led.grown.pages k s now none (ap (λ (n : ℕ). maps_alone (kind_of n k s.0)) long_cut ∙ unmapped);
            fresh = made.led.grown.fresh;
            sectors = made.led.grown.sectors;
          };
          bits = λ k below.
              made.led.bits k (subst (λ (n : ℕ). k < 4096 * vam n) (sym long_cut) below)
              ∙ marks_alike (leader ∷ []) (is_marked cut.memory) (is_marked x) k (mark_cut k (subst (λ (v : ℕ). k < 4096 * v) (sym (vam_is layout is runs shapes x books.booked)) below));
          triples = λ named names.
              made.led.triples named (renamed cut.memory books.booked.named named (named_once x books.booked.named named few books.booked.map names) map_cut);
        };
        grown = made.grown;
      }

module _ (layout : Layout) (is : IsLayout layout) (kept : CachedRuns) (shapes : Shapes) (spaces : List Space) (x : List Sector) (d0 : DiskState) (s0 : Slots) (may : MayBegin d0 s0 layout kept shapes spaces x) where
  -- no page of the tables is named
  no_table : (i p s : ℕ) → may.books.booked.named i p s ≡ true → i ≢ 3
  no_table i p s named same =
      let b = may.books.booked in
      let t = b.triples.only i p s named in
      let owned = (b.labels.pages.only s t.label t.there t.taken).is in
      let own : is_owned_upto 0 shapes 3 p ≡ true = (λ j. is_owned_upto 0 shapes (sym (t.same_id ∙ same) j) (sym t.same_page j)) ∙ owned in
      true≢false (sym own ∙ unowned_from 0 shapes p (no_shape shapes b.files) (omega arith))

  module _ (d2 : DiskState) (s2 : Slots) (l2 : Layout) (beside : Beside FileMap d0 s0 layout d2 s2 l2) (last : CachedRuns) (cut : Becomes FileMap layout x (MapIs layout (without_from may.books.booked.named 3 0)) d2 s2)
      (forgotten : runs_of layout.sectors last ≡ filter (λ r. not (r.id == 3)) (runs_of layout.sectors kept)) (in_form : (y : List Sector) → Stands d2 s2 y → AreSectors y) where
    -- they may be made still
    pub may_begin_cut : MayBegin d2 s2 layout last shapes spaces cut.memory
    may_begin_cut = record {
      books = books_cut layout is kept shapes spaces x d0 s0 may.books 3 no_table d2 s2 l2 beside last cut forgotten in_form;
      hidden = may.hidden;
      enough =
          let free = free_cut layout is kept shapes spaces x d0 s0 may.books 3 no_table d2 s2 l2 beside last cut forgotten in_form in
          let enough = may.enough in
          omega (arith, free, enough);
    }

    -- and where they are, that is so from before the cut
    pub begun_after : (d3 : DiskState) (s3 : Slots) (runs : CachedRuns) → BegunBy d2 s2 layout d3 s3 runs → BegunBy d0 s0 layout d3 s3 runs
    begun_after d3 s3 runs begun = record {
      sectors = begun.sectors;
      leads = record {
        goes = record {
          makes = makes_then (map_makes beside) begun.leads.goes.makes;
          memory = λ m stood.
              let now = begun.leads.goes.memory cut.memory cut.stands in (
                now.0,
                now.1,
                subst (λ (z : List Sector). TablesMade begun.sectors z now.0) (one_memory d0 s0 x m may.books.stands stood)
                    (tables_after layout is kept shapes spaces x d0 s0 may.books 3 no_table d2 s2 l2 beside last cut forgotten in_form begun.sectors now.0 now.2),
              );
        };
        brings = brings_then (map_brings beside) begun.leads.brings;
        true_runs = begun.leads.true_runs;
      };
    }

-- over any contents
module _ {l0 l2 : Layout} {a b : DiskState} {s t : Slots} (beside : Beside FileMap a s l0 b t l2) where
  -- a stop at the file map
  pub tables_unmade : MakesSome 3 0 0 96 a s b t
  tables_unmade = record { sectors = []; few = omega arith; count = 0; makes = map_makes beside }

  -- after it
  pub tables_some_after : {c : DiskState} {u : Slots} → MakesSome 3 0 0 96 b t c u → MakesSome 3 0 0 96 a s c u
  tables_some_after h = record { sectors = h.sectors; few = h.few; count = h.count; makes = makes_then (map_makes beside) h.makes }

  pub tables_made_after : {c : DiskState} {u : Slots} → MakesAll 3 0 0 96 b t c u → MakesAll 3 0 0 96 a s c u
  tables_made_after h = record { sectors = h.sectors; long = h.long; makes = makes_then (map_makes beside) h.makes }
