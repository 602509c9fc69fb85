-- The pages of the space tables, made run by run.
use Rattle.std.proofs.Common.{◌≡◌, inl, inr, ℕ, suc, ◌+◌, ◌-◌, ◌*◌, ◌<◌, ◌≤◌, Bool, true, false, ◌&&◌, ◌||◌, List, [], ◌∷◌, ◌++◌, length, Option, Some, None, refl, sym, ◌∙◌, ap, subst, arith}
use Rattle.std.specs.Prelude.{slice_get, slice_set, nat_lt, ◌==◌, IsTrue, IsSomeAnd}
use Rattle.std.specs.Option.{option_map_or}
use Rattle.std.proofs.lemmas.Option.{none-some}
use Rattle.std.proofs.lemmas.Bool.{eq-eqb, ne_eqb, false≢true}
use Rattle.std.proofs.lemmas.List.{length-map}
use Rattle.labelled_disk.specs.declared.disk.DiskWrite.{DiskWrite}
use Rattle.labelled_disk.specs.declared.evidence.Halt.{Halt}
use Rattle.labelled_disk.specs.declared.evidence.Halt.TheVariants as halt
use Rattle.labelled_disk.specs.declared.label.Label.{Label}
use Rattle.labelled_disk.specs.declared.layout.Layout.{Layout}
use Rattle.labelled_disk.specs.Label.{names, leader_page, page_label}
use Rattle.labelled_disk.specs.Layout.{vam}
use Rattle.labelled_disk.specs.Runs.{growth}
use Rattle.labelled_disk.specs.Sectors.{Sector}
use Rattle.labelled_disk.specs.State.{DiskState}
use Rattle.frame_pool.specs.Frames.{Slots}
use Rattle.file_map.specs.declared.run.Run.{Run}
use Rattle.file_map.specs.FileMap.{Triples}
use Rattle.flat_machine.specs.declared.space.Space.{Space}
use Rattle.swapper_kernel.specs.Homes.{IsLayout, Brings}
use Rattle.swapper_kernel.specs.Stands.{Stands, labels_of}
use Rattle.swapper_kernel.specs.Goes.{Goes, Makes}
use Rattle.swapper_kernel.specs.GoesLaws.{goes_then, goes_wider, makes_nothing}
use Rattle.swapper_kernel.specs.HaltLaws.{brings_itself, brings_then}
use Rattle.filer_kernel.specs.declared.cached.CachedRuns.{CachedRuns}
use Rattle.filer_kernel.specs.Cached.{runs_of}
use Rattle.filer_kernel.specs.Marks.{Marks, BitsAre}
use Rattle.session_words.specs.Found.{AreShapes}
use Rattle.session_words.specs.Parts.{Shape, Shapes, is_owned_upto, is_marked, HasPages, HasLeaders, HasMapLabels, MarksFit, HasTriples}
use Rattle.session_words.specs.PlaceLaws.{IsMade}
use Rattle.session_words.specs.GrowLaws.{AreFree, Grows, grown_labels, grown_marks, grown_names}
use Rattle.session_words.specs.StartLaws.{table_label}
use Rattle.session_words.specs.OpenLaws.{TablesMade}
use Rattle.session_words.specs.Volume.{volume_page}
use Rattle.session_words.proofs.BitLemmas.{bits_alike}
use Rattle.session_words.proofs.BookLemmas.{bits_set, triples_made}
use Rattle.session_words.proofs.GrownLemmas.{page_label_named, grown_long, map_labels_grown}
use Rattle.session_words.proofs.PlaceLemmas.{label_set}
use Rattle.session_words.proofs.StartLemmas.{start_laws}
use Rattle.file_manager.specs.Book.{BooksUpto, Leads, AreTrue}
use Rattle.file_manager.specs.Making.{AreUnownedUpto, ShowsNoFree, GrownBy, MakesAll, IsRunFor, free_count, sectors_of}
use Rattle.file_manager.specs.Tables.{MayBegin, BegunBy}
use Rattle.file_manager.specs.Grounds.{IsMapsHome, MakesFor}
use Rattle.file_manager.proofs.BookLemmas.{root_label_grown}
use Rattle.file_manager.proofs.GrowSteps.{growth_append, grows_then, grows_none, long_grown}
use Rattle.file_manager.proofs.KeptUpTo.{RunKeeps}
use Rattle.file_manager.proofs.RunLeads.{one_memory, own_known}
use Rattle.file_manager.proofs.TabledUpTo.{RunRevealed, RevealedUpTo, revealed_more, revealed_none}
use Rattle.file_manager.proofs.UpLemmas.{free_left, longer}
use Rattle.file_manager.proofs.UpTo.{IsUpTo, up_none, up_more}

-- no file has the identifier of the space tables
pub no_shape : (shapes : Shapes) → AreShapes shapes → shapes 3 ≡ None
no_shape shapes are = either (shapes 3) refl
  where
    either : (o : Option Shape) → shapes 3 ≡ o → o ≡ None
    either None e = refl
    either (Some f) e = absurd (false≢true (are.given 3 f e))

-- so no page of them is owned but the first so many
pub unowned_from : (n : ℕ) (shapes : Shapes) (page : ℕ) → shapes 3 ≡ None → n ≤ page → is_owned_upto n shapes 3 page ≡ false
unowned_from n shapes page none above =
    ap (λ (b : Bool). b || option_map_or (λ (f : Shape). page == leader_page || nat_lt page f.size) (shapes 3) false) (let a : nat_lt page n ≡ false = grind (arith, above) in a)
    ∙ ap (λ (o : Option Shape). option_map_or (λ (f : Shape). page == leader_page || nat_lt page f.size) o false) none

-- labels, bits and triples together
record IsTabled (n : ℕ) (shapes : Shapes) (labels : List Label) (marks : ℕ → Bool) (named : Triples) : Type 0 where
  pages : HasPages labels (is_owned_upto n shapes)
  leaders : HasLeaders labels shapes
  bits : MarksFit marks labels
  triples : HasTriples named labels

-- page by page
tabled_then : (is : List ℕ) (n : ℕ) (shapes : Shapes) (labels : List Label) (marks : ℕ → Bool) (named : Triples) → shapes 3 ≡ None → AreFree 3 0 n is labels → IsTabled n shapes labels marks named
    → IsTabled (n + length is) shapes (grown_labels 3 0 n is labels) (grown_marks is marks) (grown_names 3 n is named)
tabled_then [] n shapes labels marks named none free h = let same : n ≡ n + 0 = omega arith in subst (λ (k : ℕ). IsTabled k shapes labels marks named) same h
tabled_then (i ∷ is) n shapes labels marks named none free h =
    let made : IsMade labels i (table_label n) (is_owned_upto n shapes) = record {
      old = free.0.label;
      there = free.0.there;
      free = free.0.free;
      taken = refl;
      named = page_label_named 3 0 n;
      fresh = unowned_from n shapes n none (omega arith);
    } in
    let one : IsTabled (n + 1) shapes (slice_set labels i (page_label 3 0 n)) (λ k. k == i || marks k) (λ j p s. (j == 3 && p == n && s == i) || named j p s) = record {
      pages = subst (λ (k : ℕ). HasPages (slice_set labels i (page_label 3 0 n)) (is_owned_upto k shapes)) (let z : suc n ≡ n + 1 = omega arith in z) (start_laws.table labels i n shapes h.pages made);
      leaders = record {
        reveal = λ k l f has found leader. elim (label_set labels i free.0.label (page_label 3 0 n) free.0.there k l has) [
          | inl (at, same) ↦ absurd (none-some f (sym none ∙ ap (λ (x : Label). shapes x.id) same ∙ found))
          | inr (other, was) ↦ h.leaders.reveal k l f was found leader
        ];
      };
      bits = bits_set labels marks (λ k. k == i || marks k) i (page_label 3 0 n) free.0.label h.bits free.0.there
          (ap (λ (b : Bool). b || marks i) (eq-eqb i i refl))
          (λ k below other. ap (λ (b : Bool). b || marks k) (ne_eqb k i other));
      triples = triples_made labels named (λ j p s. (j == 3 && p == n && s == i) || named j p s) i free.0.label (page_label 3 0 n) h.triples free.0.there free.0.free refl (λ j p s. refl);
    } in
    subst (λ (k : ℕ). IsTabled k shapes (grown_labels 3 0 n (i ∷ is) labels) (grown_marks (i ∷ is) marks) (grown_names 3 n (i ∷ is) named)) (let z : n + 1 + length is ≡ n + suc (length is) = omega arith in z)
    (tabled_then is (n + 1) shapes (slice_set labels i (page_label 3 0 n)) (λ k. k == i || marks k) (λ j p s. (j == 3 && p == n && s == i) || named j p s) none free.1 one)

module _ (layout : Layout) (is_layout : IsLayout layout) (kept : CachedRuns) (shapes : Shapes) (spaces : List Space) (x : List Sector) (d0 : DiskState) (s0 : Slots)
    (may : MayBegin d0 s0 layout kept shapes spaces x) (is : List ℕ) (page : ℕ) (reached : length is ≡ page) (within : page ≤ 96) (d : DiskState) (s : Slots)
    (leads : Leads (Grows 3 0 0 is) (growth 3 0 0 is) d0 s0 layout d s kept) where
  -- the memory that is made
  pub after : (y : List Sector) × Stands d s y × Grows 3 0 0 is x y
  after = leads.goes.memory x may.books.stands

  none : shapes 3 ≡ None
  none = no_shape shapes may.books.booked.files

  so_far : 0 + length is ≡ page
  so_far = omega (arith, reached)

  tabled : IsTabled page shapes (grown_labels 3 0 0 is (labels_of x)) (grown_marks is (is_marked x)) (grown_names 3 0 is may.books.booked.named)
  tabled =
      let b = may.books.booked in
      subst (λ (k : ℕ). IsTabled k shapes (grown_labels 3 0 0 is (labels_of x)) (grown_marks is (is_marked x)) (grown_names 3 0 is b.named)) so_far
      (tabled_then is 0 shapes (labels_of x) (is_marked x) b.named none after.2.grown.free (record { pages = b.labels.pages; leaders = b.labels.leaders; bits = b.bits; triples = b.triples }))

  long_labels : length (grown_labels 3 0 0 is (labels_of x)) ≡ length x
  long_labels = grown_long 3 0 0 is (labels_of x) ∙ length-map x (λ s. s.0)

  pub books_then : BooksUpto page d s layout kept shapes spaces after.0
  books_then =
      let booked = may.books.booked in
      let some : 1 ≤ length (grown_labels 3 0 0 is (labels_of x)) = let a = long_labels in let b = booked.long in let c = is_layout.0.0 in omega (arith, a, b, c) in
      record {
        stands = after.1;
        booked = record {
          sectors = after.2.grown.sectors;
          long = long_grown 3 0 0 is x after.0 after.2.grown.labels ∙ booked.long;
          files = booked.files;
          root_label = subst (λ (l : List Label). IsSomeAnd (slice_get l 0) (λ m. IsTrue (names m (record { id = 4; page = 0 })))) (sym after.2.grown.labels)
              (root_label_grown 3 0 0 is (labels_of x) after.2.grown.free booked.root_label);
          map_labels = subst HasMapLabels (sym after.2.grown.labels) (map_labels_grown 3 0 0 is (labels_of x) after.2.grown.free booked.map_labels);
          labels = record {
            pages = subst (λ (l : List Label). HasPages l (is_owned_upto page shapes)) (sym after.2.grown.labels) tabled.pages;
            leaders = subst (λ (l : List Label). HasLeaders l shapes) (sym after.2.grown.labels) tabled.leaders;
          };
          bits = subst (MarksFit (is_marked after.0)) (sym after.2.grown.labels) (bits_alike (grown_labels 3 0 0 is (labels_of x)) (grown_marks is (is_marked x)) (is_marked after.0) some
              (λ k below. after.2.bits k (subst (λ (n : ℕ). k < 4096 * vam n) long_labels below)) tabled.bits);
          named = grown_names 3 0 is booked.named;
          map = after.2.triples booked.named booked.map;
          triples = subst (HasTriples (grown_names 3 0 is booked.named)) (sym after.2.grown.labels) tabled.triples;
          kept = leads.true_runs after.0 after.1;
        };
        frames = own_known s0 s spaces leads.brings may.books.frames;
      }

  pub unowned_then : AreUnownedUpto page shapes 3 page (96 - page)
  unowned_then p above below = unowned_from page shapes p none above

  pub some_then : page < 96 → 1 ≤ free_count layout after.0
  some_then below =
      let falls = free_left layout is_layout kept shapes spaces x d0 s0 may.books 3 0 0 is (omega arith) after.0 after.2 in
      let enough = may.enough in
      omega (arith, falls, enough, reached, below)

  -- a run more
  pub run_then : (run : Run) (d2 : DiskState) (s2 : Slots) → Leads (Grows 3 0 page (sectors_of run)) (growth 3 0 page (sectors_of run)) d s layout d2 s2 kept
      → Leads (Grows 3 0 0 (is ++ sectors_of run)) (growth 3 0 0 (is ++ sectors_of run)) d0 s0 layout d2 s2 kept
  run_then run d2 s2 next =
      let here = subst (λ (n : ℕ). Leads (Grows 3 0 n (sectors_of run)) (growth 3 0 n (sectors_of run)) d s layout d2 s2 kept) (sym so_far) next in
      record {
        goes = subst (λ (ws : List DiskWrite). Goes (Grows 3 0 0 (is ++ sectors_of run)) volume_page ws d0 s0 d2 s2) (sym (growth_append 3 0 0 is (sectors_of run)))
            (goes_then (Grows 3 0 0 is) (Grows 3 0 (0 + length is) (sectors_of run)) (Grows 3 0 0 (is ++ sectors_of run)) (λ m n o g h. grows_then 3 0 0 is (sectors_of run) m n o g h) leads.goes here.goes);
        brings = brings_then leads.brings here.brings;
        true_runs = here.true_runs;
      }

-- The pages below this one are made: as in a growth over any contents, with bytes that are revealed, and where they may be made.
pub record AreTablesUpTo (page : ℕ) (d0 : DiskState) (s0 : Slots) (layout : Layout) (kept : CachedRuns) (d : DiskState) (s : Slots) (later : Layout) (runs : CachedRuns) : Type 0 where
  pub up : IsUpTo false 3 0 0 96 page d0 s0 layout kept d s later runs
  pub revealed : RevealedUpTo page d0 s0 layout kept d s later runs
  pub begun : (x : List Sector) (shapes : Shapes) (spaces : List Space) → MayBegin d0 s0 layout kept shapes spaces x → GrownBy 3 0 0 page d0 s0 layout d s kept

-- no page yet
pub tables_none : (d0 : DiskState) (s0 : Slots) (layout : Layout) (kept : CachedRuns) → d0.sectors ≡ layout.sectors → AreTablesUpTo 0 d0 s0 layout kept d0 s0 layout kept
tables_none d0 s0 layout kept size = record {
  up = up_none 3 0 0 96 d0 s0 layout kept (omega arith) size;
  revealed = revealed_none d0 s0 layout kept;
  begun = λ x shapes spaces may. record {
    sectors = [];
    long = refl;
    leads = record {
      goes = record { makes = makes_nothing volume_page d0 s0; memory = λ m stands. (m, stands, subst (λ (z : List Sector). Grows 3 0 0 [] z z) (one_memory d0 s0 x m may.books.stands stands) (grows_none 3 0 0 x may.books.booked.sectors)) };
      brings = brings_itself (λ home. (1 ≤ home.id) × (home.id ≤ 3)) s0;
      true_runs = λ m stands. subst (λ (z : List Sector). AreTrue (labels_of z) (runs_of layout.sectors kept)) (one_memory d0 s0 x m may.books.stands stands) may.books.booked.kept;
    };
  };
}

-- what a run asks of a revealed memory, and what it makes of it
abbrev pub Asks : ℕ → DiskState → Slots → Layout → CachedRuns → Type 0 → Type 0
Asks page d s layout runs P = (tables : ℕ) (x : List Sector) (shapes : Shapes) (spaces : List Space) → BooksUpto tables d s layout runs shapes spaces x → ShowsNoFree spaces → AreUnownedUpto tables shapes 3 page (96 - page) → 1 ≤ free_count layout x → P

module _ (page : ℕ) (d0 : DiskState) (s0 : Slots) (layout : Layout) (is_layout : IsLayout layout) (kept : CachedRuns) (d : DiskState) (s : Slots) (later : Layout) (runs : CachedRuns)
    (h : AreTablesUpTo page d0 s0 layout kept d s later runs) (below : page < 96) where
  -- what a run asks is there
  asked : (P : Type 0) → Asks page d s later runs P → (x : List Sector) (shapes : Shapes) (spaces : List Space) → MayBegin d0 s0 layout kept shapes spaces x → P
  asked P asks x shapes spaces may =
      let g = h.begun x shapes spaces may in
      let y = after layout is_layout kept shapes spaces x d0 s0 may g.sectors page g.long h.up.below d s g.leads in
      let books = books_then layout is_layout kept shapes spaces x d0 s0 may g.sectors page g.long h.up.below d s g.leads in
      let unowned = unowned_then layout is_layout kept shapes spaces x d0 s0 may g.sectors page g.long h.up.below d s g.leads in
      let some = some_then layout is_layout kept shapes spaces x d0 s0 may g.sectors page g.long h.up.below d s g.leads below in
      (rw (h.up.same_layout, h.up.same_runs) at asks) page y.0 shapes spaces books may.hidden unowned some

  -- a run more
  pub tables_more : (run : Run) (d2 : DiskState) (s2 : Slots) (l2 : Layout) (r2 : CachedRuns) → IsRunFor later.sectors 3 page (96 - page) run → Makes volume_page (growth 3 0 page (sectors_of run)) d s d2 s2
      → Asks page d s later runs (Leads (Grows 3 0 page (sectors_of run)) (growth 3 0 page (sectors_of run)) d s later d2 s2 r2)
      → l2 ≡ later → r2 ≡ runs → d2.transfers ≤ d.transfers + (8 * later.vam + 2 * run.pages + 98) → Brings (IsMapsHome later) s s2 → MakesFor later 3 (λ p. (page ≤ p) × (p < page + run.pages)) d s d2 s2
      → (run.pages < 96 - page → (m : List Sector) (marks : Marks) → Stands d s m → BitsAre later marks m → run.sector + run.pages < later.sectors → marks (run.sector + run.pages) ≡ true)
      → RunKeeps 3 page (96 - page) run d s later runs d2 s2 l2 r2 → RunRevealed page (96 - page) run d s later runs d2 s2 l2 r2 → AreTablesUpTo (page + run.pages) d0 s0 layout kept d2 s2 l2 r2
  tables_more run d2 s2 l2 r2 for_it makes made same_layout same_runs cost come takes longest keeps revealed = record {
    up = up_more 3 0 0 96 page d0 s0 layout is_layout kept d s later runs h.up (omega arith) run d2 s2 l2 r2 below for_it makes made same_layout same_runs cost come takes longest keeps (λ clear. absurd (false≢true clear));
    revealed = revealed_more kept runs r2 run for_it.same_id for_it.same_first below h.revealed revealed;
    begun = λ x shapes spaces may.
        let g = h.begun x shapes spaces may in
        let here = asked (Leads (Grows 3 0 page (sectors_of run)) (growth 3 0 page (sectors_of run)) d s later d2 s2 r2) made x shapes spaces may in
        let next = subst (λ (l : Layout). Leads (Grows 3 0 page (sectors_of run)) (growth 3 0 page (sectors_of run)) d s l d2 s2 kept) h.up.same_layout
        (subst (λ (r : CachedRuns). Leads (Grows 3 0 page (sectors_of run)) (growth 3 0 page (sectors_of run)) d s later d2 s2 r) (same_runs ∙ h.up.same_runs) here) in
        record {
          sectors = g.sectors ++ sectors_of run;
          long = let n = longer g.sectors run 0 page (let l = g.long in omega (arith, l)) in omega (arith, n);
          leads = run_then layout is_layout kept shapes spaces x d0 s0 may g.sectors page g.long h.up.below d s g.leads run d2 s2 next;
        };
  }

  -- a halt of the next run
  pub tables_sound : (e : Halt) → Asks page d s later runs (e ≡ halt.Disk) → (x : List Sector) (shapes : Shapes) (spaces : List Space) → MayBegin d0 s0 layout kept shapes spaces x → e ≡ halt.Disk
  tables_sound e sound x shapes spaces may = asked (e ≡ halt.Disk) sound x shapes spaces may

-- all pages are made
pub tables_all : (page : ℕ) (d0 : DiskState) (s0 : Slots) (layout : Layout) (kept : CachedRuns) (d : DiskState) (s : Slots) (later : Layout) (runs : CachedRuns) → page ≡ 96 → AreTablesUpTo page d0 s0 layout kept d s later runs
    → (x : List Sector) (shapes : Shapes) (spaces : List Space) → MayBegin d0 s0 layout kept shapes spaces x → BegunBy d0 s0 layout d s runs
tables_all page d0 s0 layout kept d s later runs all h x shapes spaces may =
    let g = h.begun x shapes spaces may in
    subst (λ (r : CachedRuns). BegunBy d0 s0 layout d s r) (sym h.up.same_runs)
    (record {
      sectors = g.sectors;
      leads = record {
        goes = goes_wider (Grows 3 0 0 g.sectors) (TablesMade g.sectors) volume_page (λ m n made. record { count = g.long ∙ all; grown = made.grown; bits = made.bits; triples = made.triples }) (λ id page own. own) g.leads.goes;
        brings = g.leads.brings;
        true_runs = g.leads.true_runs;
      };
    })

pub tables_made : (page : ℕ) (d0 : DiskState) (s0 : Slots) (layout : Layout) (kept : CachedRuns) (d : DiskState) (s : Slots) (later : Layout) (runs : CachedRuns) → page ≡ 96 → AreTablesUpTo page d0 s0 layout kept d s later runs
    → MakesAll 3 0 0 96 d0 s0 d s
tables_made page d0 s0 layout kept d s later runs all h = subst (λ (n : ℕ). MakesAll 3 0 0 n d0 s0 d s) (let z : page - 0 ≡ 96 = omega (arith, all) in z) h.up.makes

pub tables_cost : (page : ℕ) (d0 : DiskState) (s0 : Slots) (layout : Layout) (kept : CachedRuns) (d : DiskState) (s : Slots) (later : Layout) (runs : CachedRuns) → page ≡ 96 → AreTablesUpTo page d0 s0 layout kept d s later runs
    → d.transfers ≤ d0.transfers + 96 * (8 * layout.vam + 100)
tables_cost page d0 s0 layout kept d s later runs all h = subst (λ (n : ℕ). d.transfers ≤ d0.transfers + n * (8 * layout.vam + 100)) (let z : page - 0 ≡ 96 = omega (arith, all) in z) h.up.cost
