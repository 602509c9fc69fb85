-- What a growth that stopped has written.
use Rattle.std.proofs.Common.{◌≡◌, ◌≢◌, ℕ, ◌+◌, ◌-◌, ◌<◌, ◌≤◌, Bool, true, false, List, [], ◌∷◌, ◌++◌, length, take, refl, sym, ◌∙◌, ap, subst, arith}
use Rattle.std.specs.Prelude.{slice_get, slice_set}
use Rattle.std.specs.List.{AllByRecursion}
use Rattle.std.proofs.lemmas.Bool.{true≢false, ne_eqb}
use Rattle.std.proofs.lemmas.Bool.Decides.{nat_tests}
use Rattle.std.proofs.lemmas.List.{length-append, length-map}
use Rattle.std.proofs.lemmas.List.FromFn.{length-range_with_len}
use Rattle.std.proofs.lemmas.Option.{same_Some, slice_get_within}
use Rattle.std.proofs.Common.{length-set}
use Rattle.labelled_disk.specs.declared.disk.DiskWrite.{DiskWrite}
use Rattle.labelled_disk.specs.declared.label.Label.{Label}
use Rattle.labelled_disk.specs.declared.layout.Layout.{Layout}
use Rattle.labelled_disk.specs.Label.{is_free, is_file, leader_page, page_label}
use Rattle.labelled_disk.specs.Layout.{first_data}
use Rattle.labelled_disk.specs.Runs.{growth, AreUnused, IsUnused}
use Rattle.labelled_disk.specs.Sectors.{Sector}
use Rattle.labelled_disk.specs.State.{DiskState}
use Rattle.labelled_disk.proofs.Finds.{get_set_same, get_set_other}
use Rattle.label_laws.specs.PermittedOrders.{AreApart}
use Rattle.frame_pool.specs.Frames.{Slots}
use Rattle.file_map.specs.declared.run.Run.{Run}
use Rattle.flat_machine.specs.declared.space.Space.{Space}
use Rattle.swapper_kernel.specs.declared.manager.Manager.TheVariants.{AllocationMap, FileMap}
use Rattle.swapper_kernel.specs.DiffersLaws.{sector_of_label}
use Rattle.swapper_kernel.specs.Homes.{IsLayout}
use Rattle.swapper_kernel.specs.Stands.{labels_of}
use Rattle.swapper_kernel.specs.Goes.{Makes}
use Rattle.swapper_kernel.specs.GoesLaws.{makes_then}
use Rattle.swapper_kernel.specs.Window.{Beside}
use Rattle.label_calls.specs.Clearing.{NamedCleared, RelabelsCleared}
use Rattle.label_calls.specs.Labels.{free_ones}
use Rattle.filer_kernel.specs.declared.cached.CachedRuns.{CachedRuns}
use Rattle.session_words.specs.Parts.{Shape, Shapes}
use Rattle.session_words.specs.GrowLaws.{IsFree, AreFree, Grows, grown_labels}
use Rattle.session_words.specs.Volume.{volume_page}
use Rattle.file_manager.specs.Book.{BooksUpto, Leads}
use Rattle.file_manager.specs.Broken.{GrewSome}
use Rattle.file_manager.specs.Making.{AreUnownedUpto, ShowsNoFree, MayGrowUpto, free_count, sectors_of}
use Rattle.file_manager.proofs.GrowSteps.{free_append, growth_append}
use Rattle.file_manager.proofs.RunLeads.{map_makes, added_makes, some_labelled, take_all}
use Rattle.file_manager.proofs.UpLemmas.{after, books_then, unowned_then, some_then}
use Rattle.file_manager.proofs.UpTo.{IsUpTo, take_past}

-- before the labels
pub none_grew : {layout l1 : Layout} {a b : DiskState} {s t : Slots} {id kind page most : ℕ} {x : List Sector} → Beside AllocationMap a s layout b t l1 → GrewSome id kind page most x a s b t
none_grew beside = record { sectors = []; few = omega arith; free = tt; count = 0; makes = map_makes beside }

module _ {layout l1 : Layout} {a b c : DiskState} {s t u : Slots} {most : ℕ} {x : List Sector} (run : Run) (kind : ℕ) (first : Beside AllocationMap a s layout b t l1) (same : u ≡ t)
    (few : run.pages ≤ most) (free : AreFree run.id kind run.first (sectors_of run) (labels_of x)) where
  -- among them
  pub labels_grew : NamedCleared (λ k. run.sector + k) (λ k. free_ones) (growth run.id kind run.first (sectors_of run)) b t c → GrewSome run.id kind run.first most x a s c u
  labels_grew some = record {
    sectors = sectors_of run;
    few = let long = length-range_with_len run.sector run.pages in omega (arith, long, few);
    free = free;
    count = some.count;
    makes = some_labelled run kind first same some;
  }

  -- after them
  pub all_grew : {d : DiskState} {v : Slots} {l2 l3 : Layout} → RelabelsCleared run.sector run.pages (growth run.id kind run.first (sectors_of run)) b t c → Beside FileMap c u l2 d v l3 → GrewSome run.id kind run.first most x a s d v
  all_grew {d = d} {v = v} made last = record {
    sectors = sectors_of run;
    few = let long = length-range_with_len run.sector run.pages in omega (arith, long, few);
    free = free;
    count = length (growth run.id kind run.first (sectors_of run));
    makes = subst (λ (ws : List DiskWrite). Makes volume_page ws a s d v) (sym (take_all (growth run.id kind run.first (sectors_of run)))) (added_makes run kind first same made last);
  }

reached : (from size n page : ℕ) → size ≡ from → n ≡ page - from → from ≤ page → size + n ≡ page
reached from size n page same long above = omega (arith, same, long, above)

few_more : (n a b from page end : ℕ) → n ≡ a + b → a ≡ page - from → b ≤ end - page → from ≤ page → page < end → n ≤ end - from
few_more n a b from page end sum long few above below = omega (arith, sum, long, few, above, below)

-- after pages that were made
module _ {clears : Bool} (id kind from end page : ℕ) (d0 : DiskState) (s0 : Slots) (layout : Layout) (is_layout : IsLayout layout) (kept : CachedRuns) (d : DiskState) (s : Slots) (later : Layout) (runs : CachedRuns)
    (up : IsUpTo clears id kind from end page d0 s0 layout kept d s later runs) (short : end < leader_page) where
  pub up_broken : (d2 : DiskState) (s2 : Slots) → page < end
      → ((tables : ℕ) (x : List Sector) (shapes : Shapes) (spaces : List Space) → BooksUpto tables d s later runs shapes spaces x → ShowsNoFree spaces → AreUnownedUpto tables shapes id page (end - page) → 1 ≤ free_count later x → GrewSome id kind page (end - page) x d s d2 s2)
      → (tables : ℕ) (x : List Sector) (shapes : Shapes) (spaces : List Space) (f : Shape) → MayGrowUpto tables d0 s0 layout kept shapes spaces id f end x → f.size ≡ from → GrewSome id kind from (end - from) x d0 s0 d2 s2
  up_broken d2 s2 below broken tables x shapes spaces f may size =
      let above = up.above in
      let g = up.revealed tables x shapes spaces f may size in
      let long = g.long in
      let at : f.size + length g.sectors ≡ page = reached from f.size (length g.sectors) page size long above in
      let so_far : from + length g.sectors ≡ page = reached from from (length g.sectors) page refl long above in
      let leads = subst (λ (n : ℕ). Leads (Grows id kind n g.sectors) (growth id kind n g.sectors) d0 s0 layout d s kept) (sym size) g.leads in
      let y = after layout is_layout kept shapes spaces x d0 s0 id kind f end may short g.sectors page at up.below d s leads in
      let books = books_then layout is_layout kept shapes spaces x d0 s0 id kind f end may short g.sectors page at up.below d s leads in
      let unowned = unowned_then layout is_layout kept shapes spaces x d0 s0 id kind f end may short g.sectors page at up.below d s leads in
      let some = some_then layout is_layout kept shapes spaces x d0 s0 id kind f end may short g.sectors page at up.below d s leads below in
      let rest = (rw (up.same_layout, up.same_runs) at broken) tables y.0 _ spaces books may.hidden unowned some in
      let first_free : AreFree id kind from g.sectors (labels_of x) = subst (λ (n : ℕ). AreFree id kind n g.sectors (labels_of x)) size y.2.grown.free in
      let labels : labels_of y.0 ≡ grown_labels id kind from g.sectors (labels_of x) = subst (λ (n : ℕ). labels_of y.0 ≡ grown_labels id kind n g.sectors (labels_of x)) size y.2.grown.labels in
      record {
        sectors = g.sectors ++ rest.sectors;
        few = few_more _ (length g.sectors) (length rest.sectors) from page end (length-append g.sectors rest.sectors) long rest.few above below;
        free = free_append id kind from g.sectors rest.sectors (labels_of x) first_free
            (subst (λ (n : ℕ). AreFree id kind n rest.sectors (grown_labels id kind from g.sectors (labels_of x))) (sym so_far) (subst (AreFree id kind page rest.sectors) labels rest.free));
        count = length (growth id kind from g.sectors) + rest.count;
        makes = subst (λ (ws : List DiskWrite). Makes volume_page ws d0 s0 d2 s2)
            (sym (ap (take (length (growth id kind from g.sectors) + rest.count)) (growth_append id kind from g.sectors rest.sectors) ∙ take_past (growth id kind from g.sectors) (growth id kind (from + length g.sectors) rest.sectors) rest.count))
            (makes_then g.leads.goes.makes (subst (λ (n : ℕ). Makes volume_page (take rest.count (growth id kind n rest.sectors)) d s d2 s2) (sym so_far) rest.makes));
      }

-- ---- Sectors that were free in turn.

-- one that is free after another label was free before, and is another
free_back : (labels : List Label) (i j : ℕ) (l : Label) → IsFree labels i → is_free l ≡ false → IsFree (slice_set labels i l) j → (j ≢ i) × IsFree labels j
free_back labels i j l first taken next = (
  other,
  record {
    label = next.label;
    there = record { is_data = subst (λ (n : ℕ). first_data n ≤ j) (length-set labels i l) next.there.is_data; here = sym (get_set_other labels i j l other) ∙ next.there.here };
    free = next.free;
  },
)
  where
    other : j ≢ i
    other same =
        let here : next.label ≡ l = same_Some next.label l (sym next.there.here ∙ ap (slice_get (slice_set labels i l)) same ∙ get_set_same labels i l (slice_get_within labels i first.label first.there.here)) in
        true≢false (sym next.free ∙ ap is_free here ∙ taken)

-- different ones that are all free after another label were so before, and are others
pub all_back : (labels : List Label) (i : ℕ) (l : Label) (is : List ℕ) → IsFree labels i → is_free l ≡ false → AreApart (IsFree (slice_set labels i l)) is → AllByRecursion (λ j. j ≢ i) is × AreApart (IsFree labels) is
all_back labels i l [] first taken rest = (tt, tt)
all_back labels i l (j ∷ is) first taken rest =
    let one = free_back labels i j l first taken rest.0 in
    let more = all_back labels i l is first taken rest.2 in
    ((one.0, more.0), (one.1, rest.1, more.1))

-- sectors that are free in turn are different ones that are all free at first
pub free_first : (id kind page : ℕ) (is : List ℕ) (labels : List Label) → 16 ≤ id → AreFree id kind page is labels → AreApart (IsFree labels) is
free_first id kind page [] labels high free = tt
free_first id kind page (i ∷ is) labels high free =
    let taken : is_free (page_label id kind page) ≡ false = ne_eqb id 0 (omega (arith, high)) in
    let rest = free_first id kind (page + 1) is (slice_set labels i (page_label id kind page)) high free.1 in
    let back = all_back labels i (page_label id kind page) is free.0 taken rest in
    (free.0, back.0, back.1)

-- such sectors are no file's
pub unused_first : (d : List Sector) (is : List ℕ) → AreApart (IsFree (labels_of d)) is → AreUnused d is
unused_first d [] free = tt
unused_first d (i ∷ is) free = (one, free.1, unused_first d is free.2)
  where
    no_file : (l : Label) → is_free l ≡ true → is_file l ≡ false
    no_file l none = grind (arith, nat_tests)

    one : IsUnused d i
    one =
        let s = sector_of_label d i free.0.label free.0.there.here in
        record {
          s = s.0;
          there = record { is_data = subst (λ (n : ℕ). first_data n ≤ i) (length-map d (λ s. s.0)) free.0.there.is_data; here = s.1 };
          unused = ap is_file s.2 ∙ no_file free.0.label free.0.free;
        }

pub free_are_unused : (id kind page : ℕ) (is : List ℕ) (d : List Sector) → 16 ≤ id → AreFree id kind page is (labels_of d) → AreUnused d is
free_are_unused id kind page is d high free = unused_first d is (free_first id kind page is (labels_of d) high free)
