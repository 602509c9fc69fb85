-- What a run that is made leads to.
use Rattle.std.proofs.Common.{◌≡◌, ◌≢◌, ◌⊎◌, inl, inr, ℕ, ◌+◌, ◌*◌, ◌^◌, ◌<◌, ◌≤◌, Bool, true, false, ◌||◌, List, [], ◌∷◌, ◌++◌, length, take, Some, refl, sym, ◌∙◌, ap, subst, arith}
use Rattle.std.specs.Prelude.{slice_get, ◌&&◌, ◌==◌}
use Rattle.std.proofs.lemmas.Option.{same_Some, slice_get_within}
use Rattle.std.proofs.lemmas.Bool.{true≢false}
use Rattle.std.proofs.lemmas.List.{length-map}
use Rattle.std.proofs.lemmas.List.FromFn.{length-range_with_len}
use Rattle.labelled_disk.specs.declared.disk.DiskWrite.{DiskWrite}
use Rattle.labelled_disk.specs.declared.label.Label.{Label}
use Rattle.labelled_disk.specs.declared.layout.Layout.{Layout}
use Rattle.labelled_disk.specs.Label.{is_free}
use Rattle.labelled_disk.specs.Layout.{first_data, vam}
use Rattle.labelled_disk.specs.Runs.{growth, zero_bytes}
use Rattle.labelled_disk.specs.Sectors.{Sector, AreSectors}
use Rattle.labelled_disk.specs.State.{DiskState}
use Rattle.labelled_disk.specs.WriteRuns.{after_writes}
use Rattle.frame_pool.specs.declared.home.Home.{Home}
use Rattle.frame_pool.specs.Frames.{Slots}
use Rattle.alloc_map.specs.Runs.{IsDataRun}
use Rattle.file_map.specs.declared.run.Run.{Run}
use Rattle.file_map.specs.Run.{IsRun, holds, sector_at}
use Rattle.file_map.specs.FileMap.{Triples, with_run}
use Rattle.file_map.specs.InSectors.{MapNames}
use Rattle.swapper_kernel.specs.declared.manager.Manager.{Manager}
use Rattle.swapper_kernel.specs.declared.manager.Manager.TheVariants.{AllocationMap, FileMap}
use Rattle.swapper_kernel.specs.Maps.{id_of, IsMapHome}
use Rattle.swapper_kernel.specs.Homes.{IsLayout, AreNamed}
use Rattle.swapper_kernel.specs.Stands.{Stands, labels_of}
use Rattle.swapper_kernel.specs.Kinds.{Kind, kind_of, maps_alone, the_root, the_allocation_map, the_file_map, the_tables, a_file, unused}
use Rattle.swapper_kernel.specs.DiffersLaws.{label_here, sector_of_label, same_length}
use Rattle.swapper_kernel.specs.Goes.{Makes, this_page}
use Rattle.swapper_kernel.specs.GoesLaws.{makes_then, makes_wider}
use Rattle.swapper_kernel.specs.HaltLaws.{brings_then, brings_wider}
use Rattle.swapper_kernel.specs.OnceLaws.{stands_once}
use Rattle.swapper_kernel.specs.Window.{Shows, Beside}
use Rattle.label_calls.specs.Labels.{free_ones}
use Rattle.label_calls.specs.Clearing.{NamedCleared, RelabelsCleared}
use Rattle.label_calls.specs.Runs.{AreOfFile, AreUncovered, HaveOnes}
use Rattle.filer_kernel.specs.declared.cached.CachedRuns.{CachedRuns}
use Rattle.filer_kernel.specs.Cached.{runs_of}
use Rattle.filer_kernel.specs.Becomes.{Becomes}
use Rattle.filer_kernel.specs.Marks.{BitsAre, marked, IsFreeRun}
use Rattle.filer_kernel.specs.Triples.{MapIs}
use Rattle.filer_kernel.specs.PlaceLaws.{data_first}
use Rattle.filer_kernel.proofs.MapLemmas.{same_elements}
use Rattle.session_words.proofs.FoundLemmas.{above_reserved}
use Rattle.flat_machine.specs.declared.space.Space.{Space}
use Rattle.session_words.specs.Parts.{Shapes, IsTriple, is_marked}
use Rattle.session_words.specs.FrameLaws.{HasFrames, IsKnown}
use Rattle.session_words.specs.GrowLaws.{IsFree, AreFree, Grows, grown_labels, grown_marks, grown_names}
use Rattle.session_words.specs.ShownLaws.{map_alone}
use Rattle.session_words.specs.Volume.{volume_page}
use Rattle.session_words.proofs.KnownLemmas.{frames_brought}
use Rattle.session_words.proofs.ShownLemmas.{shown_laws}
use Rattle.file_manager.specs.Book.{BooksUpto, AreTrue, BringsOwn, Leads}
use Rattle.file_manager.specs.Making.{ShowsNoFree, MakesSome, sectors_of}
use Rattle.filer_kernel.specs.MapOnce.{named_once}
use Rattle.file_manager.proofs.ClearedRun.{volume_makes}
use Rattle.file_manager.proofs.RowLemmas.{in_row, row_marks, row_names, row_free, growth_labels, growth_elsewhere, growth_fresh}
use Rattle.file_manager.proofs.GrowSteps.{marks_alike, renamed, data_no_map, long_grown}
use Rattle.file_manager.proofs.RunStages.{there_is, uncovered, shows_still, beside_map, maps_named, vam_is, marks_shown, mark_is, free_by_mark, map_is}

-- one memory stands on disk and frames
pub one_memory : (d : DiskState) (s : Slots) (m n : List Sector) → Stands d s m → Stands d s n → m ≡ n
one_memory d s m n a b = same_elements m n (stands_once d s m n a b)

neither : (which : Manager) (kind : Kind) → maps_alone kind ≡ false → map_alone which kind ≡ false
neither AllocationMap the_root e = refl
neither AllocationMap the_allocation_map e = absurd (true≢false e)
neither AllocationMap the_file_map e = refl
neither AllocationMap the_tables e = refl
neither AllocationMap a_file e = refl
neither AllocationMap unused e = refl
neither FileMap the_root e = refl
neither FileMap the_allocation_map e = refl
neither FileMap the_file_map e = absurd (true≢false e)
neither FileMap the_tables e = refl
neither FileMap a_file e = refl
neither FileMap unused e = refl

-- the pages of a map are the volume's own
map_is_own : (which : Manager) (layout : Layout) (home : Home) → IsMapHome which layout home → (1 ≤ home.id) × (home.id ≤ 3)
map_is_own AllocationMap layout home (page, below, at) = let own : home.id ≡ 1 = ap (λ (h : Home). h.id) at in (omega (arith, own), omega (arith, own))
map_is_own FileMap layout home (page, below, at) = let own : home.id ≡ 2 = ap (λ (h : Home). h.id) at in (omega (arith, own), omega (arith, own))

pub map_brings : {which : Manager} {layout later : Layout} {a b : DiskState} {s t : Slots} → Beside which a s layout b t later → BringsOwn s t
map_brings {which = which} {layout = layout} beside = brings_wider (λ home. (1 ≤ home.id) × (home.id ≤ 3)) (map_is_own which layout) beside.brings

map_volume : (which : Manager) (id page : ℕ) → id ≡ id_of which → id < 4
map_volume AllocationMap id page is = omega (arith, is)
map_volume FileMap id page is = omega (arith, is)

pub map_makes : {which : Manager} {layout later : Layout} {a b : DiskState} {s t : Slots} → Beside which a s layout b t later → Makes volume_page [] a s b t
map_makes {which = which} beside = makes_wider volume_page (map_volume which) beside.goes.makes

pub own_known : (s t : Slots) (spaces : List Space) → BringsOwn s t → HasFrames s spaces → HasFrames t spaces
own_known s t spaces brings frames = frames_brought s t spaces (brings_wider (λ home. IsKnown spaces home.id home.page) (λ home own. inl own) brings) frames

pub append_none : (xs : List DiskWrite) → xs ++ [] ≡ xs
append_none [] = refl
append_none (x ∷ xs) = ap (λ (l : List DiskWrite). x ∷ l) (append_none xs)

-- over any contents: a run is taken, labelled, and added
pub run_makes : {layout l1 l3 : Layout} {run : List DiskWrite} {a b c d : DiskState} {s t u : Slots} → Beside AllocationMap a s layout b t l1 → Makes (this_page 0 0) run b t c t → Beside FileMap c t layout d u l3 → Makes volume_page run a s d u
run_makes {run = run} {a = a} {d = d} {s = s} {u = u} first middle last =
    subst (λ (ws : List DiskWrite). Makes volume_page ws a s d u) (append_none run)
    (makes_then (map_makes first) (makes_then (volume_makes middle) (map_makes last)))

module _ {tables : ℕ} (layout : Layout) (is : IsLayout layout) (kept : CachedRuns) (shapes : Shapes) (spaces : List Space) (x : List Sector) (d0 : DiskState) (s0 : Slots)
    (books : BooksUpto tables d0 s0 layout kept shapes spaces x) (hidden : ShowsNoFree spaces) (run : Run) (most : ℕ) (d1 : DiskState) (s1 : Slots) (l1 : Layout)
    (beside : Beside AllocationMap d0 s0 layout d1 s1 l1) (form : IsDataRun layout.first layout.sectors most (run.sector, run.pages))
    (run_free : IsFreeRun layout (marks_shown layout is (runs_of layout.sectors kept) shapes x books.booked) most (run.sector, run.pages))
    (taken : Becomes AllocationMap layout x (BitsAre layout (marked true run.sector run.pages (marks_shown layout is (runs_of layout.sectors kept) shapes x books.booked))) d1 s1) where
  free : (k : ℕ) → k < run.pages → IsFree (labels_of x) (run.sector + k)
  free k below =
      let above = form.above in let inside = form.inside in
      free_by_mark layout is (runs_of layout.sectors kept) shapes x books.booked (run.sector + k) (omega (arith, above)) (omega (arith, inside, below)) (run_free.free (run.sector + k) (omega arith) (omega (arith, below)))

  -- the run was free
  pub row_was_free : (kind : ℕ) → AreFree run.id kind run.first (sectors_of run) (labels_of x)
  row_was_free kind = row_free run.id kind run.first run.sector run.pages (labels_of x) free

  free_taken : (k : ℕ) → k < run.pages → IsFree (labels_of taken.memory) (run.sector + k)
  free_taken k below = subst (λ (l : List Label). IsFree l (run.sector + k)) (sym taken.differs.labels) (free k below)

  long_taken : length taken.memory ≡ length x
  long_taken = same_length x taken.memory taken.differs.labels

  pub none_over : AreUncovered s1 run.sector run.pages
  none_over k below = uncovered d1 s1 spaces taken.memory taken.stands (own_known s0 s1 spaces (map_brings beside) books.frames) hidden (run.sector + k) (free_taken k below)

  pub ones_free : HaveOnes (λ k. free_ones) taken.memory run.sector run.pages
  ones_free k below =
      let f = free_taken k below in
      let s = sector_of_label taken.memory (run.sector + k) f.label f.there.here in
      (s.0, s.1, ap is_free s.2 ∙ f.free)

  module _ (kind : ℕ) (d2 : DiskState) (made : RelabelsCleared run.sector run.pages (growth run.id kind run.first (sectors_of run)) d1 s1 d2) where
    pub labelled : (n : List Sector) × Stands d2 s1 n × (n ≡ after_writes (growth run.id kind run.first (sectors_of run)) taken.memory)
    labelled = (made.goes none_over).memory taken.memory taken.stands

    -- sectors of root and maps are none of the run's
    low_apart : (k : ℕ) → k < layout.first → (j : ℕ) → slice_get (sectors_of run) j ≢ Some k
    low_apart k low j at = let r = in_row run.sector run.pages j k at in let same = r.1 in let above = form.above in omega (arith, low, same, above)

    labelled_low : (k : ℕ) → ((j : ℕ) → slice_get (sectors_of run) j ≢ Some k) → slice_get labelled.0 k ≡ slice_get taken.memory k
    labelled_low k none = ap (λ (l : List Sector). slice_get l k) labelled.2 ∙ growth_elsewhere run.id kind run.first (sectors_of run) taken.memory k none

    labels_then : labels_of labelled.0 ≡ grown_labels run.id kind run.first (sectors_of run) (labels_of x)
    labels_then =
        ap (λ (l : List Sector). labels_of l) labelled.2 ∙ growth_labels run.id kind run.first (sectors_of run) taken.memory
        ∙ ap (grown_labels run.id kind run.first (sectors_of run)) taken.differs.labels

    first_then : layout.first ≡ 1 + layout.vam + layout.vfm
    first_then = ap (λ (l : Layout). l.first) is.1 ∙ sym (ap (λ (l : Layout). 1 + l.vam + l.vfm) is.1)

    -- a sector of the file map is as it was
    map_stays : (k : ℕ) (s : Sector) → k < layout.vfm → slice_get x (1 + layout.vam + k) ≡ Some s → slice_get labelled.0 (1 + layout.vam + k) ≡ Some s
    map_stays k s below here =
        labelled_low (1 + layout.vam + k) (low_apart (1 + layout.vam + k) (let f = first_then in omega (arith, f, below)))
        ∙ taken.differs.pages (1 + layout.vam + k) s here (beside_map AllocationMap layout (1 + layout.vam + k) s.0 (inr (omega arith)))

    pub map_then : MapIs layout books.booked.named labelled.0
    map_then =
        let was = map_is layout is (runs_of layout.sectors kept) shapes x books.booked books.booked.named books.booked.map in
        record {
          bytes = was.bytes;
          shows = shows_still FileMap layout x labelled.0 was.bytes (λ k s below here. (s, map_stays k s below here, refl)) was.shows;
          names = was.names;
        }

    pub named_then : AreNamed labelled.0 (IsMapHome FileMap layout)
    named_then home (page, below, at) =
        let was = maps_named layout is (runs_of layout.sectors kept) shapes x books.booked FileMap home (page, below, at) in
        let place : home.sector ≡ 1 + layout.vam + page = ap (λ (h : Home). h.sector) at in
        record {
          sector = was.sector;
          here = ap (slice_get labelled.0) place ∙ map_stays page was.sector below (ap (slice_get x) (sym place) ∙ was.here);
          named = was.named;
        }

    module _ (d3 : DiskState) (s3 : Slots) (l3 : Layout) (after : CachedRuns) (same_runs : after ≡ kept) (beside_map_then : Beside FileMap d2 s1 layout d3 s3 l3)
        (added : Becomes FileMap layout labelled.0 (MapIs layout (with_run books.booked.named run)) d3 s3) (in_form : (y : List Sector) → Stands d3 s3 y → AreSectors y) where
      -- a data sector of the run is as it was labelled
      row_data : (j k : ℕ) → slice_get (sectors_of run) j ≡ Some k → layout.first ≤ k
      row_data j k at = let r = in_row run.sector run.pages j k at in let same = r.1 in let above = form.above in omega (arith, same, above)

      labels_now : labels_of added.memory ≡ grown_labels run.id kind run.first (sectors_of run) (labels_of x)
      labels_now = added.differs.labels ∙ labels_then

      long_now : length added.memory ≡ length x
      long_now = long_grown run.id kind run.first (sectors_of run) x added.memory labels_now

      long_labelled : length labelled.0 ≡ length x
      long_labelled = long_grown run.id kind run.first (sectors_of run) x labelled.0 labels_then

      size_now : length added.memory ≡ layout.sectors
      size_now = long_now ∙ books.booked.long

      -- what is of neither map nor the run stays
      pages_stay : (k : ℕ) (s : Sector) → slice_get x k ≡ Some s → ((j : ℕ) → slice_get (sectors_of run) j ≢ Some k) → maps_alone (kind_of (length x) k s.0) ≡ false → slice_get added.memory k ≡ Some s
      pages_stay k s here none other =
          let first : slice_get taken.memory k ≡ Some s = (shown_laws.kinds AllocationMap layout x taken.memory is books.booked.long taken.differs).pages k s here (neither AllocationMap (kind_of (length x) k s.0) other) in
          let second : slice_get labelled.0 k ≡ Some s = labelled_low k none ∙ first in
          (shown_laws.kinds FileMap layout labelled.0 added.memory is (long_labelled ∙ books.booked.long) added.differs).pages k s second
          (neither FileMap (kind_of (length labelled.0) k s.0) (ap (λ (n : ℕ). maps_alone (kind_of n k s.0)) long_labelled ∙ other))

      fresh_now : (j k : ℕ) (s : Sector) → slice_get (sectors_of run) j ≡ Some k → slice_get added.memory k ≡ Some s → s.1 ≡ zero_bytes
      fresh_now j k s at here =
          let within = slice_get_within added.memory k s here in
          let t = there_is labelled.0 k (omega (arith, within, long_now, long_labelled)) in
          let same : t.0 ≡ s = same_Some t.0 s (sym (added.differs.pages k t.0 t.1 (beside_map FileMap layout k t.0.0 (inr (let f = first_then in let above = row_data j k at in omega (arith, f, above))))) ∙ here) in
          ap (λ (u : Sector). u.1) (sym same) ∙ growth_fresh run.id kind run.first (sectors_of run) taken.memory j k t.0 at (ap (λ (l : List Sector). slice_get l k) (sym labelled.2) ∙ t.1)

      -- the allocation map shows what it showed when the run was taken
      bits_show : Shows AllocationMap added.memory layout taken.is.bytes
      bits_show = shows_still AllocationMap layout taken.memory added.memory taken.is.bytes (λ k s below here.
          let second : slice_get labelled.0 (1 + k) ≡ Some s = labelled_low (1 + k) (low_apart (1 + k) (let f = first_then in omega (arith, f, below))) ∙ here in
          (s, added.differs.pages (1 + k) s second (beside_map FileMap layout (1 + k) s.0 (inl (omega (arith, below)))), refl)) taken.is.shows

      bits_now : (k : ℕ) → k < 4096 * vam (length x) → is_marked added.memory k ≡ grown_marks (sectors_of run) (is_marked x) k
      bits_now k below =
          let booked = books.booked in
          let marks = marks_shown layout is (runs_of layout.sectors kept) shapes x booked in
          let inside : k < 4096 * layout.vam = subst (λ (v : ℕ). k < 4096 * v) (sym (vam_is layout is (runs_of layout.sectors kept) shapes x booked)) below in
          sym (shown_laws.bits layout added.memory taken.is.bytes k bits_show inside) ∙ sym (taken.is.are k) ∙ sym (row_marks run.sector run.pages marks k)
          ∙ marks_alike (sectors_of run) marks (is_marked x) k (mark_is layout is (runs_of layout.sectors kept) shapes x booked k inside)

      triples_now : (named : Triples) → MapNames x named → MapNames added.memory (grown_names run.id run.first (sectors_of run) named)
      triples_now named names =
          let booked = books.booked in
          let few : length x < 2 ^ 32 = let n = booked.long in let most = is.0.1 in omega (arith, n, most) in
          let now : MapNames added.memory (with_run booked.named run) = (shown_laws.names layout added.memory added.is.bytes (with_run booked.named run) is size_now (in_form added.memory added.stands) added.is.shows).0 added.is.names in
          renamed added.memory (with_run booked.named run) (grown_names run.id run.first (sectors_of run) named) (λ i p s.
          row_names run.id run.first run.sector run.pages named i p s ∙ ap (λ (b : Bool). b || (holds run i p && (s == sector_at run p))) (named_once x booked.named named few booked.map names i p s)) now

      pub run_grows : Grows run.id kind run.first (sectors_of run) x added.memory
      run_grows = record {
        grown = record {
          free = row_free run.id kind run.first run.sector run.pages (labels_of x) free;
          labels = labels_now;
          pages = pages_stay;
          fresh = fresh_now;
          sectors = in_form added.memory added.stands;
        };
        bits = bits_now;
        triples = triples_now;
      }

      -- what is of a page that had a sector is so still
      triples_stay : (id page sector : ℕ) → IsTriple (labels_of x) id page sector → IsTriple (labels_of added.memory) id page sector
      triples_stay id page sector t =
          let booked = books.booked in
          let s = sector_of_label x sector t.label t.there.here in
          let is_data : first_data (length x) ≤ sector = subst (λ (n : ℕ). first_data n ≤ sector) (length-map x (λ s. s.0)) t.there.is_data in
          let apart : (j : ℕ) → slice_get (sectors_of run) j ≢ Some sector = λ j at.
          let r = in_row run.sector run.pages j sector at in
          let f = free j r.0 in
          let same : f.label ≡ t.label = same_Some f.label t.label (sym f.there.here ∙ ap (slice_get (labels_of x)) (sym r.1) ∙ t.there.here) in
          true≢false (sym f.free ∙ ap is_free same ∙ t.taken) in
          let now = pages_stay sector s.0 s.1 apart (data_no_map (length x) sector s.0.0 is_data) in
          record {
            label = t.label;
            there = record {
              is_data = subst (λ (n : ℕ). first_data n ≤ sector) (sym (length-map added.memory (λ s. s.0) ∙ long_now)) is_data;
              here = label_here added.memory sector s.0 now ∙ ap (λ (l : Label). Some l) s.2;
            };
            taken = t.taken;
            same_id = t.same_id;
            same_page = t.same_page;
          }

      pub run_leads : Leads (Grows run.id kind run.first (sectors_of run)) (growth run.id kind run.first (sectors_of run)) d0 s0 layout d3 s3 after
      run_leads = record {
        goes = record {
          makes = run_makes beside made.makes beside_map_then;
          memory = λ m stands. (added.memory, added.stands, subst (λ (z : List Sector). Grows run.id kind run.first (sectors_of run) z added.memory) (one_memory d0 s0 x m books.stands stands) run_grows);
        };
        brings = brings_then (map_brings beside) (map_brings beside_map_then);
        true_runs = λ m stands.
            subst (λ (z : List Sector). AreTrue (labels_of z) (runs_of layout.sectors after)) (one_memory d3 s3 added.memory m added.stands stands)
            (subst (λ (c : CachedRuns). AreTrue (labels_of added.memory) (runs_of layout.sectors c)) (sym same_runs)
            (λ k r here page has. triples_stay r.id page (sector_at r page) (books.booked.kept k r here page has)));
      }

-- all of a list
pub take_all : (xs : List DiskWrite) → take (length xs) xs ≡ xs
take_all [] = refl
take_all (x ∷ xs) = ap (λ (l : List DiskWrite). x ∷ l) (take_all xs)

module _ {layout l1 : Layout} {a b c : DiskState} {s t u : Slots} (run : Run) (kind : ℕ) (first : Beside AllocationMap a s layout b t l1) (same : u ≡ t) where
  -- the run was labelled
  pub labelled_makes : RelabelsCleared run.sector run.pages (growth run.id kind run.first (sectors_of run)) b t c → Makes volume_page (growth run.id kind run.first (sectors_of run)) a s c u
  labelled_makes made = subst (Makes volume_page (growth run.id kind run.first (sectors_of run)) a s c) (sym same) (makes_then (map_makes first) (volume_makes made.makes))

  -- and added
  pub added_makes : {d : DiskState} {v : Slots} {l2 l3 : Layout} → RelabelsCleared run.sector run.pages (growth run.id kind run.first (sectors_of run)) b t c → Beside FileMap c u l2 d v l3 → Makes volume_page (growth run.id kind run.first (sectors_of run)) a s d v
  added_makes {d = d} {v = v} made last = subst (λ (ws : List DiskWrite). Makes volume_page ws a s d v) (append_none (growth run.id kind run.first (sectors_of run))) (makes_then (labelled_makes made) (map_makes last))

  -- the first labels
  pub some_labelled : (some : NamedCleared (λ k. run.sector + k) (λ k. free_ones) (growth run.id kind run.first (sectors_of run)) b t c) → Makes volume_page (take some.count (growth run.id kind run.first (sectors_of run))) a s c u
  some_labelled some = subst (Makes volume_page (take some.count (growth run.id kind run.first (sectors_of run))) a s c) (sym same) (makes_then (map_makes first) (volume_makes some.makes))

  -- a stop among the labels
  pub stopped_labels : (most : ℕ) → run.pages ≤ most → NamedCleared (λ k. run.sector + k) (λ k. free_ones) (growth run.id kind run.first (sectors_of run)) b t c → MakesSome run.id kind run.first most a s c u
  stopped_labels most few some = record {
    sectors = sectors_of run;
    few = let long = length-range_with_len run.sector run.pages in omega (arith, long, few);
    count = some.count;
    makes = some_labelled some;
  }

  -- a stop after them
  pub stopped_after : {d : DiskState} {v : Slots} {l2 l3 : Layout} (most : ℕ) → run.pages ≤ most → RelabelsCleared run.sector run.pages (growth run.id kind run.first (sectors_of run)) b t c → Beside FileMap c u l2 d v l3 → MakesSome run.id kind run.first most a s d v
  stopped_after {d = d} {v = v} most few made last = record {
    sectors = sectors_of run;
    few = let long = length-range_with_len run.sector run.pages in omega (arith, long, few);
    count = length (growth run.id kind run.first (sectors_of run));
    makes = subst (λ (ws : List DiskWrite). Makes volume_page ws a s d v) (sym (take_all (growth run.id kind run.first (sectors_of run)))) (added_makes made last);
  }

-- pages of the space tables or of a file
pub above_maps : (id kind page pages : ℕ) → AreOfFile id kind page pages → (id ≡ 3) ⊎ (16 ≤ id)
above_maps id kind page pages (inl tables) = inl tables.0
above_maps id kind page pages (inr file) = inr (above_reserved id file)

pub fewer_of_file : (id kind page most pages : ℕ) → pages ≤ most → AreOfFile id kind page most → AreOfFile id kind page pages
fewer_of_file id kind page most pages few (inl tables) = let within = tables.2 in inl (tables.0, tables.1, omega (arith, few, within))
fewer_of_file id kind page most pages few (inr file) = inr file

-- a run of data sectors for the next pages
pub run_in_form : (layout : Layout) (id page most : ℕ) (taken : ℕ × ℕ) → IsLayout layout → IsDataRun layout.first layout.sectors most taken → (id ≡ 3) ⊎ (16 ≤ id) → id < 2 ^ 64 → page + most ≤ 2 ^ 32
    → IsRun layout.sectors (record { id = id; first = page; pages = taken.1; sector = taken.0 })
run_in_form layout id page most taken is form of_file fits numbers =
    let few = form.few in
    let above = form.above in
    let first = data_first layout is in
    record {
      of_file = of_file;
      id_fits = fits;
      some = form.some;
      pages_fit = omega (arith, few, numbers);
      from_data = omega (arith, above, first);
      inside = form.inside;
    }
