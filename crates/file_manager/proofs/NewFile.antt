-- A file that was created, with the root before.
use Rattle.std.proofs.Common.{◌≡◌, ◌≢◌, inl, inr, ℕ, zero, suc, ◌+◌, ◌*◌, ◌^◌, ◌<◌, ◌≤◌, Bool, false, not, ◌&&◌, ◌||◌, List, [], ◌∷◌, length, filter, Some, None, sym, ◌∙◌, ap, subst, arith}
use Rattle.std.specs.Prelude.{slice_get, slice_set, ◌==◌}
use Rattle.std.proofs.lemmas.Option.{same_Some, none-some}
use Rattle.std.proofs.lemmas.List.{length-map}
use Rattle.labelled_disk.specs.declared.label.Label.{Label}
use Rattle.labelled_disk.specs.declared.layout.Layout.{Layout}
use Rattle.labelled_disk.specs.Label.{leader_page, root_label, page_label}
use Rattle.labelled_disk.specs.Layout.{capacity, first_data, vam}
use Rattle.labelled_disk.specs.CrashState.{written}
use Rattle.labelled_disk.specs.Sectors.{Sector, AreSectors}
use Rattle.labelled_disk.specs.State.{DiskState}
use Rattle.labelled_disk.proofs.Finds.{get_set_same}
use Rattle.labelled_disk.proofs.WriteLemmas.{first_positive}
use Rattle.frame_pool.specs.Frames.{Slots}
use Rattle.file_map.specs.FileMap.{Triples, without_from}
use Rattle.file_map.specs.InSectors.{MapNames}
use Rattle.flat_machine.specs.declared.space.Space.{Space}
use Rattle.label_calls.specs.Labels.{MayHaveWritten}
use Rattle.swapper_kernel.specs.declared.manager.Manager.TheVariants.{FileMap}
use Rattle.swapper_kernel.specs.Goes.{Goes, Makes, no_page}
use Rattle.swapper_kernel.specs.GoesLaws.{makes_then, makes_wider}
use Rattle.swapper_kernel.specs.HaltLaws.{brings_then}
use Rattle.swapper_kernel.specs.Homes.{IsLayout}
use Rattle.swapper_kernel.specs.Kinds.{kind_of, maps_alone}
use Rattle.swapper_kernel.specs.Stands.{Stands, labels_of}
use Rattle.swapper_kernel.specs.Window.{Beside}
use Rattle.swapper_kernel.proofs.KindLemmas.{root_kind}
use Rattle.filer_kernel.specs.declared.cached.CachedRuns.{CachedRuns}
use Rattle.filer_kernel.specs.Becomes.{Becomes}
use Rattle.filer_kernel.specs.Cached.{runs_of}
use Rattle.filer_kernel.specs.Triples.{MapIs}
use Rattle.session_words.specs.CreateLaws.{LeaderMade, Creates}
use Rattle.session_words.specs.GrowLaws.{IsFree, grown_marks, grown_names}
use Rattle.session_words.specs.Parts.{Shapes, HasRoot, is_marked}
use Rattle.session_words.specs.Volume.{volume_page}
use Rattle.session_words.proofs.RootLabelLemmas.{free_before}
use Rattle.volume_root.specs.declared.root.Root.{Root}
use Rattle.volume_root.specs.RootPage.{root_bytes, root_write}
use Rattle.file_manager.specs.Book.{Books}
use Rattle.file_manager.specs.Creating.{next_id, counted, CreatedAs, NewMade, NewSome}
use Rattle.file_manager.specs.Making.{LedAndGrown, CreatedBy, CreatesAll, CreatesSome}
use Rattle.file_manager.proofs.FreedRun.{one_memory, map_makes, map_brings}
use Rattle.file_manager.proofs.FreesLemmas.{no_map}
use Rattle.file_manager.proofs.GrowSteps.{marks_alike, renamed, long_grown}
use Rattle.filer_kernel.specs.MapOnce.{named_once}
use Rattle.file_manager.proofs.NewBooks.{after, labels_cut, long_cut, map_cut, mark_cut}
use Rattle.file_manager.proofs.RunStages.{beside_map, vam_is, vfm_is}

module _ (layout : Layout) (is : IsLayout layout) (kept : CachedRuns) (shapes : Shapes) (spaces : List Space) (x : List Sector) (d0 : DiskState) (s0 : Slots) (books : Books d0 s0 layout kept shapes spaces x) (root : Root)
    (high : 16 ≤ next_id root) (none : shapes (next_id root) ≡ None) (d1 : DiskState) (d2 : DiskState) (s2 : Slots) (l2 : Layout) (beside : Beside FileMap d1 s0 layout d2 s2 l2) (last : CachedRuns)
    (cut : Becomes FileMap layout (slice_set x 0 (root_label, root_bytes (counted root))) (MapIs layout (without_from books.booked.named (next_id root) 0)) d2 s2)
    (forgotten : runs_of layout.sectors last ≡ filter (λ r. not (r.id == next_id root)) (runs_of layout.sectors kept)) (in_form : (y : List Sector) → Stands d2 s2 y → AreSectors y)
    (has : HasRoot layout.sectors (Some (root_label, root_bytes (counted root))) root.serial (root.counter + 1) (capacity layout.sectors))
    (kind leader : ℕ) (sectors : List ℕ) (y : List Sector) (made : LedAndGrown (next_id root) kind leader sectors cut.memory y) where
  id : ℕ
  id = next_id root

  page : List ℕ
  page = root_bytes (counted root)

  labels_then : labels_of cut.memory ≡ slice_set (labels_of x) 0 root_label
  labels_then = labels_cut layout is kept shapes spaces x d0 s0 books (root_bytes (counted root)) (next_id root) high none d1 d2 s2 l2 beside last cut forgotten in_form

  long_then : length cut.memory ≡ length x
  long_then = long_cut layout is kept shapes spaces x d0 s0 books (root_bytes (counted root)) (next_id root) high none d1 d2 s2 l2 beside last cut forgotten in_form

  long_middle : length made.middle ≡ length x
  long_middle = long_grown (next_id root) kind leader_page (leader ∷ []) cut.memory made.middle made.led.grown.labels ∙ long_then

  free : IsFree (labels_of x) leader
  free = free_before (labels_of x) root_label leader (subst (λ (l : List Label). IsFree l leader) labels_then made.led.grown.free.0)

  leader_data : first_data (length x) ≤ leader
  leader_data = subst (λ (n : ℕ). first_data n ≤ leader) (length-map x (λ s. s.0)) free.there.is_data

  none_is : (k : ℕ) → k ≢ leader → (j : ℕ) → slice_get (leader ∷ []) j ≢ Some k
  none_is k other zero at = other (sym (same_Some leader k at))
  none_is k other (suc j) at = none-some k at

  pages_then : (k : ℕ) (s : Sector) → slice_get x k ≡ Some s → k ≢ 0 → k ≢ leader → maps_alone (kind_of (length x) k s.0) ≡ false → slice_get made.middle k ≡ Some s
  pages_then k s here other apart unmapped =
      let runs = runs_of layout.sectors kept in
      let rooted = after layout is kept shapes spaces x d0 s0 books (root_bytes (counted root)) k other ∙ here in
      let now = cut.differs.pages k s rooted (no_map FileMap (length x) layout (vam_is layout is runs shapes x books.booked) (vfm_is layout is runs shapes x books.booked) k s.0 unmapped) in
      made.led.grown.pages k s now (none_is k apart) (ap (λ (n : ℕ). maps_alone (kind_of n k s.0)) long_then ∙ unmapped)

  root_there : slice_get made.middle 0 ≡ Some (root_label, root_bytes (counted root))
  root_there =
      let some : 0 < length x = let size = books.booked.long in let least = is.0.0 in omega (arith, size, least) in
      let rooted = get_set_same x 0 (root_label, root_bytes (counted root)) some in
      let now = cut.differs.pages 0 (root_label, root_bytes (counted root)) rooted (beside_map FileMap layout 0 root_label (inl (omega arith))) in
      let low = first_positive false 0 0 (length x) in
      let above = leader_data in
      made.led.grown.pages 0 (root_label, root_bytes (counted root)) now (none_is 0 (λ e. omega (arith, e, low, above))) (ap maps_alone (root_kind (length cut.memory) root_label))

  root_then : HasRoot (length made.middle) (slice_get made.middle 0) root.serial (root.counter + 1) (capacity layout.sectors)
  root_then = subst (λ (n : ℕ). HasRoot n (slice_get made.middle 0) root.serial (root.counter + 1) (capacity layout.sectors)) (sym (long_middle ∙ books.booked.long))
      (subst (λ o. HasRoot layout.sectors o root.serial (root.counter + 1) (capacity layout.sectors)) (sym root_there) has)

  led : LeaderMade root.serial (root.counter + 1) (capacity layout.sectors) (next_id root) kind leader x made.middle
  led = record {
    free = free;
    labels = made.led.grown.labels ∙ ap (λ (l : List Label). slice_set l leader (page_label (next_id root) kind leader_page)) labels_then;
    pages = pages_then;
    root = root_then;
    sectors = made.led.grown.sectors;
  }

  bits_then : (k : ℕ) → k < 4096 * vam (length x) → is_marked y k ≡ grown_marks (leader ∷ sectors) (is_marked x) k
  bits_then k below =
      let runs = runs_of layout.sectors kept in
      let was : is_marked cut.memory k ≡ is_marked x k = mark_cut layout is kept shapes spaces x d0 s0 books (root_bytes (counted root)) (next_id root) high none d1 d2 s2 l2 beside last cut forgotten in_form k
      (subst (λ (v : ℕ). k < 4096 * v) (sym (vam_is layout is runs shapes x books.booked)) below) in
      made.grown.bits k (subst (λ (n : ℕ). k < 4096 * vam n) (sym long_middle) below)
      ∙ marks_alike sectors (is_marked made.middle) (λ k. k == leader || is_marked x k) k
      (made.led.bits k (subst (λ (n : ℕ). k < 4096 * vam n) (sym long_then) below) ∙ ap (λ (b : Bool). k == leader || b) was)

  triples_then : (named : Triples) → MapNames x named → MapNames y (grown_names (next_id root) 0 sectors (λ j q k. (j == next_id root && q == leader_page && k == leader) || named j q k))
  triples_then named names =
      let few : length x < 2 ^ 32 = let size = books.booked.long in let most = is.0.1 in omega (arith, size, most) in
      let now : MapNames cut.memory named = renamed cut.memory books.booked.named named (named_once x books.booked.named named few books.booked.map names)
      (map_cut layout is kept shapes spaces x d0 s0 books (root_bytes (counted root)) (next_id root) high none d1 d2 s2 l2 beside last cut forgotten in_form) in
      made.grown.triples (λ j q k. (j == next_id root && q == leader_page && k == leader) || named j q k) (made.led.triples named now)

  pub creates : Creates root.serial (root.counter + 1) (capacity layout.sectors) (next_id root) kind leader sectors x y
  creates = record { middle = made.middle; led = led; grown = made.grown.grown; bits = bits_then; triples = triples_then }

module _ (layout : Layout) (is : IsLayout layout) (kept : CachedRuns) (shapes : Shapes) (spaces : List Space) (x : List Sector) (d0 : DiskState) (s0 : Slots) (books : Books d0 s0 layout kept shapes spaces x) (root : Root)
    (high : 16 ≤ next_id root) (none : shapes (next_id root) ≡ None) (d1 : DiskState) (first : Goes (λ m n. n ≡ written (root_write (counted root)) m) no_page (root_write (counted root) ∷ []) d0 s0 d1 s0)
    (d2 : DiskState) (s2 : Slots) (l2 : Layout) (beside : Beside FileMap d1 s0 layout d2 s2 l2) (last : CachedRuns)
    (cut : Becomes FileMap layout (slice_set x 0 (root_label, root_bytes (counted root))) (MapIs layout (without_from books.booked.named (next_id root) 0)) d2 s2)
    (forgotten : runs_of layout.sectors last ≡ filter (λ r. not (r.id == next_id root)) (runs_of layout.sectors kept)) (in_form : (y : List Sector) → Stands d2 s2 y → AreSectors y)
    (has : HasRoot layout.sectors (Some (root_label, root_bytes (counted root))) root.serial (root.counter + 1) (capacity layout.sectors)) where
  -- the file was made then
  pub created_as : (kind pages : ℕ) (d3 : DiskState) (s3 : Slots) (runs : CachedRuns) → CreatedBy (next_id root) kind pages d2 s2 layout d3 s3 runs → CreatedAs root kind pages d0 s0 layout d3 s3 runs
  created_as kind pages d3 s3 runs made = record {
    leader = made.leader;
    sectors = made.sectors;
    long = made.long;
    leads = record {
      goes = record {
        makes = makes_then (makes_wider volume_page (λ id page n. absurd n) first.makes) (makes_then (map_makes beside) made.leads.goes.makes);
        memory = λ m stood.
            let now = made.leads.goes.memory cut.memory cut.stands in (
              now.0,
              now.1,
              subst (λ (z : List Sector). Creates root.serial (root.counter + 1) (capacity layout.sectors) (next_id root) kind made.leader made.sectors z now.0) (one_memory d0 s0 x m books.stands stood)
                  (creates layout is kept shapes spaces x d0 s0 books root high none d1 d2 s2 l2 beside last cut forgotten in_form has kind made.leader made.sectors now.0 now.2),
            );
      };
      brings = brings_then (map_brings beside) made.leads.brings;
      true_runs = made.leads.true_runs;
    };
  }

-- over any contents
module _ {a b : DiskState} {s : Slots} (root : Root) (kind pages : ℕ) where
  -- a stop at the root
  pub root_stops : MayHaveWritten (root_write (counted root)) a s b → NewSome root kind pages a s b s
  root_stops (inl nothing) = record { leader = 0; sectors = []; few = omega arith; count = 0; makes = makes_wider volume_page (λ id page n. absurd n) nothing }
  root_stops (inr made) = record { leader = 0; sectors = []; few = omega arith; count = 1; makes = makes_wider volume_page (λ id page n. absurd n) made }

  module _ (first : Makes no_page (root_write (counted root) ∷ []) a s b s) {c : DiskState} {t : Slots} {layout l2 : Layout} (beside : Beside FileMap b s layout c t l2) where
    pub began : Makes volume_page (root_write (counted root) ∷ []) a s c t
    began = makes_then (makes_wider volume_page (λ id page n. absurd n) first) (map_makes beside)

    -- at the file map
    pub map_stop : NewSome root kind pages a s c t
    map_stop = record { leader = 0; sectors = []; few = omega arith; count = 1; makes = began }

    -- at the leader or the pages
    pub file_stops : {d : DiskState} {u : Slots} → CreatesSome (next_id root) kind pages c t d u → NewSome root kind pages a s d u
    file_stops some = record { leader = some.leader; sectors = some.sectors; few = some.few; count = suc some.count; makes = makes_then began some.makes }

    pub new_made : {d : DiskState} {u : Slots} → CreatesAll (next_id root) kind pages c t d u → NewMade root kind pages a s d u
    new_made all = record { leader = all.leader; sectors = all.sectors; long = all.long; makes = makes_then began all.makes }

-- what all of it costs
pub new_cost : (t0 t1 t2 t3 pages v r : ℕ) → t1 ≤ t0 + 1 → t2 ≤ t1 + r → t3 ≤ t2 + (8 * v + 100 + pages * (8 * v + 100)) → t3 ≤ t0 + (1 + r + (pages + 1) * (8 * v + 100))
new_cost t0 t1 t2 t3 pages v r one two three = omega (arith, one, two, three)
