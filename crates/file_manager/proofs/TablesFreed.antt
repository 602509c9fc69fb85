-- The pages of the space tables are freed: their frames are given up, then their labels and sectors, and the file map's runs.
use Rattle.std.proofs.Common.{◌≡◌, ◌≢◌, inl, inr, ℕ, zero, suc, ◌+◌, ◌-◌, ◌<◌, ◌≤◌, Bool, true, false, not, ◌&&◌, ◌||◌, List, [], ◌∷◌, ◌++◌, length, Option, Some, None, refl, sym, ◌∙◌, ap, subst, arith}
use Rattle.std.specs.Prelude.{slice_get, nat_le, nat_lt, ◌==◌, filter, if◌then◌else◌, IsTrue, IsSomeAnd}
use Rattle.std.specs.Option.{option_map_or}
use Rattle.std.proofs.lemmas.Option.{same_Some, none-some}
use Rattle.std.proofs.lemmas.Bool.{ne_eqb, eqb-true, true≢false, false≢true, ltb-true, cases_lt}
use Rattle.std.proofs.lemmas.Bool.Decides.{nat_tests}
use Rattle.std.proofs.lemmas.List.{length-map}
use Rattle.labelled_disk.specs.declared.disk.DiskWrite.{DiskWrite}
use Rattle.labelled_disk.specs.declared.label.Label.{Label}
use Rattle.labelled_disk.specs.declared.layout.Layout.{Layout}
use Rattle.labelled_disk.specs.Label.{is_file, names, leader_page}
use Rattle.labelled_disk.specs.Layout.{first_data, vam, vfm}
use Rattle.labelled_disk.specs.Runs.{freeing}
use Rattle.labelled_disk.specs.Sectors.{Sector, AreSectors}
use Rattle.labelled_disk.specs.State.{DiskState}
use Rattle.frame_pool.specs.Frames.{Frame, Slots, Has, IsWithin}
use Rattle.file_map.specs.declared.run.Run.{Run}
use Rattle.file_map.specs.Run.{sector_at}
use Rattle.file_map.specs.FileMap.{without_from}
use Rattle.flat_machine.specs.declared.space.Space.{Space}
use Rattle.swapper_kernel.specs.declared.manager.Manager.TheVariants.{AllocationMap, FileMap}
use Rattle.swapper_kernel.specs.Differs.{Differs, of_run}
use Rattle.swapper_kernel.specs.DiffersLaws.{label_here, sector_of_label, same_length, names_id, names_page}
use Rattle.swapper_kernel.specs.Goes.{Goes, Makes, no_page}
use Rattle.swapper_kernel.specs.GoesLaws.{makes_then, makes_wider}
use Rattle.swapper_kernel.specs.HaltLaws.{brings_then}
use Rattle.swapper_kernel.specs.Homes.{IsLayout, wanted_at}
use Rattle.swapper_kernel.specs.Kinds.{kind_of, SameBut, tables_alone, the_tables, a_file, unused}
use Rattle.swapper_kernel.specs.Stands.{Stands, labels_of}
use Rattle.swapper_kernel.specs.Window.{Beside}
use Rattle.swapper_kernel.proofs.KindLemmas.{allocation_kind, data_kind}
use Rattle.filer_kernel.specs.declared.cached.CachedRuns.{CachedRuns}
use Rattle.filer_kernel.specs.Becomes.{Becomes}
use Rattle.filer_kernel.specs.Cached.{runs_of}
use Rattle.filer_kernel.specs.Marks.{Marks, BitsAre}
use Rattle.filer_kernel.specs.Triples.{MapIs}
use Rattle.session_words.specs.Found.{AreShapes}
use Rattle.session_words.specs.FreeLaws.{Frees, AreOfFiles}
use Rattle.session_words.specs.KindLaws.{Stays}
use Rattle.session_words.specs.Parts.{Shape, Shapes, is_owned}
use Rattle.session_words.specs.Volume.{volume_page}
use Rattle.session_words.proofs.StayLemmas.{stays}
use Rattle.file_manager.specs.Book.{IsBooked, Books, BringsOwn, AreTrue}
use Rattle.file_manager.specs.Freeing.{IsHidden, FreesSectors, AreNamedUp, MayFree, Freed, FreedSome, MakesFree, MakesSomeFree}
use Rattle.file_manager.specs.Tables.{of_tables, AreTablePages, EndedBy, EndedSome}
use Rattle.file_manager.proofs.AllFreed.{up_at}
use Rattle.file_manager.proofs.BookLemmas.{label_in}
use Rattle.file_manager.proofs.FreedRun.{map_brings, map_makes, one_memory}
use Rattle.file_manager.proofs.FreesLemmas.{kept_label, pages_are_gone, triple_stays}
use Rattle.file_manager.proofs.MayBeFreed.{may_be_freed}
use Rattle.file_manager.proofs.RunStages.{there_is, shows_still}
use Rattle.file_manager.proofs.TablesMade.{no_shape}

-- a label of root or maps names a page of another identifier
of_another : (r l : Label) (id page : ℕ) → Some r ≡ Some l → names r (record { id = id; page = page }) ≡ true → id ≢ 3 → l.id ≢ 3
of_another r l id page same named other three = other (sym (names_id r (record { id = id; page = page }) named) ∙ ap (λ (m : Label). m.id) (same_Some r l same) ∙ three)

-- so a page of the space tables stands in a data sector
data_of_tables : (layout : Layout) (runs : List Run) (shapes : Shapes) (x : List Sector) (booked : IsBooked layout runs shapes x) (k : ℕ) (l : Label) → slice_get (labels_of x) k ≡ Some l → l.id ≡ 3 → first_data (length x) ≤ k
unfolding first_data
data_of_tables layout runs shapes x booked k l here three = elim (cases_lt k 1) [
  | inl root ↦
      let zero_is : k ≡ 0 = omega (arith, root) in
      let r = label_in (slice_get (labels_of x) 0) (λ l. IsTrue (names l (record { id = 4; page = 0 }))) booked.root_label in
      absurd (of_another r.0 l 4 0 (sym r.1 ∙ ap (slice_get (labels_of x)) (sym zero_is) ∙ here) r.2 (λ q. omega (arith, q)) three)
  | inr some ↦ elim (cases_lt k (1 + vam (length x))) [
    | inl inside ↦
        let below : k - 1 < vam (length (labels_of x)) = subst (λ (n : ℕ). k - 1 < vam n) (sym long) (omega (arith, some, inside)) in
        let r = label_in (slice_get (labels_of x) (1 + (k - 1))) (λ l. IsTrue (names l (record { id = 1; page = k - 1 }))) (booked.map_labels.allocation (k - 1) below) in
        let place : 1 + (k - 1) ≡ k = omega (arith, some) in
        absurd (of_another r.0 l 1 (k - 1) (sym r.1 ∙ ap (slice_get (labels_of x)) place ∙ here) r.2 (λ q. omega (arith, q)) three)
    | inr past ↦ elim (cases_lt k (1 + vam (length x) + vfm (length x))) [
      | inl low ↦
          let p : ℕ = k - (1 + vam (length x)) in
          let below : p < vfm (length (labels_of x)) = subst (λ (n : ℕ). p < vfm n) (sym long) (omega (arith, past, low)) in
          let r = label_in (slice_get (labels_of x) (1 + vam (length (labels_of x)) + p)) (λ l. IsTrue (names l (record { id = 2; page = p }))) (booked.map_labels.file_map p below) in
          let place : 1 + vam (length (labels_of x)) + p ≡ k = ap (λ (n : ℕ). 1 + vam n + p) long ∙ (let z : 1 + vam (length x) + p ≡ k = omega (arith, past) in z) in
          absurd (of_another r.0 l 2 p (sym r.1 ∙ ap (slice_get (labels_of x)) place ∙ here) r.2 (λ q. omega (arith, q)) three)
      | inr above ↦ omega (arith, above)
    ]
  ]
]
  where
    long : length (labels_of x) ≡ length x
    long = length-map x (λ s. s.0)

-- the pages of the space tables are those below 96
table_below : (shapes : Shapes) (page : ℕ) → AreShapes shapes → is_owned shapes 3 page ≡ true → page < 96
table_below shapes page are owned =
    either (nat_lt page 96) refl (sym (ap (λ (o : Option Shape). (3 == 3 && nat_lt page 96) || option_map_or (λ (f : Shape). page == leader_page || nat_lt page f.size) o false) (no_shape shapes are)) ∙ owned)
  where
    either : (b : Bool) → nat_lt page 96 ≡ b → (b || false) ≡ true → page < 96
    either true e is = ltb-true page 96 e
    either false e is = absurd (false≢true is)

table_owned : (shapes : Shapes) (page : ℕ) → page < 96 → is_owned shapes 3 page ≡ true
table_owned shapes page below = let x : nat_lt page 96 ≡ true = grind (arith, nat_tests) in ap (λ (b : Bool). b || option_map_or (λ (f : Shape). page == leader_page || nat_lt page f.size) (shapes 3) false) x

-- a label of another identifier is none of the run's
not_of_run : (k : ℕ) (l : Label) → (l.id == 3) ≡ false → of_run 3 0 96 k l ≡ false
not_of_run k l other = rw other refl

-- a list without some of its elements
in_filtered : (test : Run → Bool) (xs : List Run) (k : ℕ) (r : Run) → slice_get (filter test xs) k ≡ Some r → ((j : ℕ) × (slice_get xs j ≡ Some r)) × (test r ≡ true)
in_filtered test [] k r at = absurd (none-some r at)
in_filtered test (x ∷ xs) k r at = either (test x) refl k at (in_filtered test xs)
  where
    either : (b : Bool) → test x ≡ b → (k : ℕ) → slice_get (if b then x ∷ filter test xs else filter test xs) k ≡ Some r
        → ((k : ℕ) (r : Run) → slice_get (filter test xs) k ≡ Some r → ((j : ℕ) × (slice_get xs j ≡ Some r)) × (test r ≡ true)) → ((j : ℕ) × (slice_get (x ∷ xs) j ≡ Some r)) × (test r ≡ true)
    either true e zero at rest = let same : x ≡ r = same_Some x r at in ((0, at), ap test (sym same) ∙ e)
    either true e (suc k) at rest = let found = rest k r at in ((suc found.0.0, found.0.1), found.1)
    either false e k at rest = let found = rest k r at in ((suc found.0.0, found.0.1), found.1)

-- the frames of the tables' pages were given up
module _ (layout : Layout) (is : IsLayout layout) (kept : CachedRuns) (shapes : Shapes) (spaces : List Space) (x : List Sector) (d0 : DiskState) (s0 : Slots) (books : Books d0 s0 layout kept shapes spaces x)
    (d1 : DiskState) (s1 : Slots) (gone : (i : ℕ) (f : Frame) → Has s1 i f → IsWithin 3 0 96 f.home → ⊥) (left : (i : ℕ) (f : Frame) → Has s1 i f → Has s0 i f)
    (goes : Goes (Differs (of_run 3 0 96)) no_page [] d0 s0 d1 s1) (form : (m : List Sector) → Stands d1 s1 m → AreSectors m) where
  abbrev runs : List Run
  runs = runs_of layout.sectors kept

  pub bare : (m : List Sector) × Stands d1 s1 m × Differs (of_run 3 0 96) x m
  bare = goes.memory x books.stands

  long_bare : length bare.0 ≡ length x
  long_bare = same_length x bare.0 bare.2.labels

  same_but : SameBut tables_alone x bare.0
  same_but = record {
    labels = bare.2.labels;
    pages = λ k s here other. bare.2.pages k s here (either k s here (s.0.id == 3) refl other);
  }
    where
      either : (k : ℕ) (s : Sector) → slice_get x k ≡ Some s → (b : Bool) → (s.0.id == 3) ≡ b → tables_alone (kind_of (length x) k s.0) ≡ false → of_run 3 0 96 k s.0 ≡ false
      either k s here false e other = not_of_run k s.0 e
      either k s here true e other =
          let above = data_of_tables layout runs shapes x books.booked k s.0 (label_here x k s here) (eqb-true s.0.id 3 e) in
          let table = ap tables_alone (data_kind (length x) k s.0 above) ∙ ap (λ (b : Bool). tables_alone (if b then the_tables else (if is_file s.0 then a_file else unused))) e in
          absurd (true≢false (sym table ∙ other))

  stay : Stays (λ pages. None) x bare.0 tables_alone same_but
  stay = stays (λ pages. None) x bare.0 tables_alone same_but

  pub books_bare : Books d1 s1 layout kept shapes spaces bare.0
  books_bare =
      let b = books.booked in
      record {
        stands = bare.1;
        booked = record {
          sectors = form bare.0 bare.1;
          long = long_bare ∙ b.long;
          files = b.files;
          root_label = subst (λ (l : List Label). IsSomeAnd (slice_get l 0) (λ m. IsTrue (names m (record { id = 4; page = 0 })))) (sym bare.2.labels) b.root_label;
          map_labels = stay.map_labels b.map_labels;
          labels = stay.labels shapes b.labels;
          bits = stay.bits refl b.bits;
          named = b.named;
          map = stay.map b.named refl b.map;
          triples = stay.triples b.named b.triples;
          kept = subst (λ (l : List Label). AreTrue l runs) (sym bare.2.labels) b.kept;
        };
        frames = record { known = λ id page there. books.frames.known id page (record { slot = there.slot; frame = there.frame; has = left there.slot there.frame there.has; same_id = there.same_id; same_page = there.same_page }) };
      }

  -- so no frame has a page of them
  hidden : IsHidden s1 spaces 3
  hidden = inr (λ page there.
      let home = bare.1.merged.frames there.slot there.frame there.has in
      let label = label_here bare.0 there.frame.home.sector (home.label, there.frame.bytes) home.keeps in
      let three : home.label.id ≡ 3 = names_id home.label (wanted_at there.frame.home) home.named ∙ there.same_id in
      let number : home.label.page ≡ there.frame.home.page = names_page home.label (wanted_at there.frame.home) home.named in
      let above = data_of_tables layout runs shapes bare.0 books_bare.booked there.frame.home.sector home.label label three in
      let owned = books_bare.booked.labels.pages.only there.frame.home.sector home.label
      (record { is_data = subst (λ (n : ℕ). first_data n ≤ there.frame.home.sector) (sym (length-map bare.0 (λ s. s.0))) above; here = label }) (ne_eqb home.label.id 0 (omega (arith, three))) in
      let below : there.frame.home.page < 96 = table_below shapes there.frame.home.page books.booked.files ((λ i. is_owned shapes (sym three i) (sym number i)) ∙ owned.is) in
      gone there.slot there.frame there.has (there.same_id, omega arith, omega (arith, below)))

  -- and they may be freed
  pub tables_may : MayFree d1 s1 layout kept books.booked.named spaces 3 0 96 bare.0
  unfolding books_bare
  tables_may = may_be_freed d1 s1 layout kept shapes spaces bare.0 is books_bare 3 hidden 0 96 (λ page above below. table_owned shapes page below)

  -- sectors that the file map names had the pages
  table_pages : (d : List Sector) → labels_of d ≡ labels_of x → (sectors : List ℕ) (page : ℕ) → AreNamedUp books.booked.named 3 page sectors → AreTablePages d page sectors
  table_pages d same [] page up = tt
  table_pages d same (i ∷ sectors) page up =
      let t = books.booked.triples.only 3 page i up.0 in
      let o = books.booked.labels.pages.only i t.label t.there t.taken in
      let s = sector_of_label d i t.label (ap (λ (l : List Label). slice_get l i) same ∙ t.there.here) in
      let named : names t.label (record { id = 3; page = page }) ≡ true = (λ j. names t.label (record { id = sym t.same_id j; page = sym t.same_page j })) ∙ o.named in
      let long : length (labels_of x) ≡ length d = ap (λ (l : List Label). length l) (sym same) ∙ length-map d (λ s. s.0) in (
        record {
          s = s.0;
          there = record { is_data = subst (λ (n : ℕ). first_data n ≤ i) long t.there.is_data; here = s.1 };
          passes = ap (λ (l : Label). names l (record { id = 3; page = page })) s.2 ∙ named;
        },
        table_pages d same sectors (page + 1) up.1,
      )

  -- some of them were freed
  pub tables_some : (d2 : DiskState) (s2 : Slots) → FreedSome books.booked.named 3 0 96 d1 s1 d2 s2 → EndedSome x d0 s0 d2 s2
  tables_some d2 s2 h = record {
    sectors = h.sectors;
    were = λ d same. table_pages d same h.sectors 0 h.up;
    makes = makes_then (makes_wider volume_page (λ id page none. absurd none) goes.makes) h.makes;
  }

  -- all of them were, and the file map may have been searched
  pub tables_all : (d2 d3 : DiskState) (s2 s3 : Slots) (later : CachedRuns) (l2 l3 : Layout) → Freed layout books.booked.named spaces 3 0 96 96 d1 s1 d2 s2 later → Beside FileMap d2 s2 l2 d3 s3 l3 → EndedSome x d0 s0 d3 s3
  tables_all d2 d3 s2 s3 later l2 l3 h beside = record {
    sectors = h.sectors;
    were = λ d same. table_pages d same h.sectors 0 h.up;
    makes = subst (λ (ws : List DiskWrite). Makes volume_page ws d0 s0 d3 s3) (no_more (freeing h.sectors))
        (makes_then (makes_wider volume_page (λ id page none. absurd none) goes.makes) (makes_then h.goes.makes (map_makes beside)));
  }
    where
      no_more : (xs : List DiskWrite) → xs ++ [] ≡ xs
      no_more [] = refl
      no_more (x ∷ xs) = ap (λ (l : List DiskWrite). x ∷ l) (no_more xs)

  module _ (d2 : DiskState) (s2 : Slots) (later : CachedRuns) (h : Freed layout books.booked.named spaces 3 0 96 96 d1 s1 d2 s2 later) where
    only : (j k : ℕ) → slice_get h.sectors j ≡ Some k → (id : ℕ) × (page : ℕ) × (of_tables id page ≡ true) × (books.booked.named id page k ≡ true)
    only j k at = let u = up_at books.booked.named 3 0 h.sectors h.up j k at in (3, 0 + j, refl, u.1)

    all : (id page k : ℕ) → of_tables id page ≡ true → books.booked.named id page k ≡ true → (j : ℕ) × (slice_get h.sectors j ≡ Some k)
    all id page k of is_named =
        let three : id ≡ 3 = eqb-true id 3 of in
        let t = books.booked.triples.only id page k is_named in
        let owned = (books.booked.labels.pages.only k t.label t.there t.taken).is in
        let below : page < 96 = table_below shapes page books.booked.files ((λ i. is_owned shapes (sym (t.same_id ∙ three) i) (sym t.same_page i)) ∙ owned) in
        let long = h.long in
        let s = there_is h.sectors page (omega (arith, long, below)) in
        let u = up_at books.booked.named 3 0 h.sectors h.up page s.0 s.1 in
        let v = books.booked.triples.only 3 (0 + page) s.0 u.1 in
        let pages : v.label.page ≡ t.label.page = v.same_page ∙ (let z : 0 + page ≡ page = omega arith in z) ∙ sym t.same_page in
        let same : s.0 ≡ k = books.booked.labels.pages.once s.0 k v.label t.label v.there t.there v.taken (v.same_id ∙ sym three ∙ sym t.same_id) pages in
        (page, s.1 ∙ ap (λ (n : ℕ). Some n) same)

    reserved : AreOfFiles of_tables
    reserved id page of = inl (eqb-true id 3 of)

    bits_bare : (marks : Marks) → BitsAre layout marks x → BitsAre layout marks bare.0
    bits_bare marks bits = record {
      bytes = bits.bytes;
      shows = shows_still AllocationMap layout x bare.0 bits.bytes (λ k s below here.
          (s, same_but.pages (1 + k) s here (ap tables_alone (allocation_kind (length x) (1 + k) s.0 (omega arith) (let v = vams in omega (arith, v, below)))), refl)) bits.shows;
      are = bits.are;
    }
      where
        vams : layout.vam ≡ vam (length x)
        vams = ap (λ (l : Layout). l.vam) is.1 ∙ ap vam (sym books.booked.long)

    frees_bare : FreesSectors layout h.sectors bare.0 h.memory
    frees_bare = let now = h.goes.memory bare.0 bare.1 in subst (FreesSectors layout h.sectors bare.0) (one_memory d2 s2 now.0 h.memory now.1 h.rest.stands) now.2

    frees : FreesSectors layout h.sectors x h.memory
    frees =
        let f = frees_bare in
        record {
          long = f.long ∙ long_bare;
          freed = λ j k at below. f.freed j k at (let l = long_bare in omega (arith, l, below));
          labels = λ k none. f.labels k none ∙ ap (λ (l : List Label). slice_get l k) bare.2.labels;
          pages = λ k s here none other.
              let stays_there = kept_label layout is runs shapes x books.booked of_tables reserved h.sectors only all k s.0 (label_here x k s here) none in
              f.pages k s (bare.2.pages k s here (not_of_run k s.0 stays_there)) none other;
          bits = λ marks bits. f.bits marks (bits_bare marks bits);
        }

    -- the sectors had the pages
    were : (d : List Sector) → labels_of d ≡ labels_of x → AreTablePages d 0 h.sectors
    were d same = table_pages d same h.sectors 0 h.up

    -- the file map names them no more
    module _ (d3 : DiskState) (s3 : Slots) (l2 l3 : Layout) (last : CachedRuns) (beside : Beside FileMap d2 s2 l2 d3 s3 l3)
        (cut : Becomes FileMap layout h.memory (MapIs layout (without_from books.booked.named 3 0)) d3 s3) (fewer : runs_of layout.sectors last ≡ filter (λ r. not (r.id == 3)) (runs_of layout.sectors later))
        (in_form : (m : List Sector) → Stands d3 s3 m → AreSectors m) where
      are : (id page sector : ℕ) → without_from books.booked.named 3 0 id page sector ≡ (not (of_tables id page) && books.booked.named id page sector)
      are id page sector = let first : nat_le 0 page ≡ true = grind (arith, nat_tests) in rw first (either (id == 3) (books.booked.named id page sector))
        where
          either : (a b : Bool) → (b && not (a && true)) ≡ (not a && b)
          either true true = refl
          either true false = refl
          either false true = refl
          either false false = refl

      gone_now : Frees of_tables x cut.memory
      gone_now = pages_are_gone layout is runs shapes x books.booked of_tables reserved h.sectors only all h.memory cut.memory frees cut.differs (without_from books.booked.named 3 0) cut.is are (in_form cut.memory cut.stands)

      true_now : AreTrue (labels_of cut.memory) (runs_of layout.sectors last)
      true_now k r at page has =
          let f = in_filtered (λ r. not (r.id == 3)) (runs_of layout.sectors later) k r (sym (ap (λ (l : List Run). slice_get l k) fewer) ∙ at) in
          let t = books.booked.triples.only r.id page (sector_at r page) (h.rest.kept f.0.0 r f.0.1 page has) in
          triple_stays layout is runs shapes x books.booked of_tables reserved h.sectors only all h.memory cut.memory frees cut.differs (without_from books.booked.named 3 0) cut.is are (in_form cut.memory cut.stands)
          r.id page (sector_at r page) (flip (r.id == 3) f.1) t
        where
          flip : (b : Bool) → not b ≡ true → b ≡ false
          flip false e = refl
          flip true e = absurd (false≢true e)

      pub tables_ended : EndedBy x d0 s0 layout d3 s3 last
      tables_ended = record {
        sectors = h.sectors;
        long = h.long;
        were = were;
        leads = record {
          goes = record {
            makes = subst (λ (ws : List DiskWrite). Makes volume_page ws d0 s0 d3 s3) (append_none (freeing h.sectors))
                (makes_then (makes_wider volume_page (λ id page none. absurd none) goes.makes) (makes_then h.goes.makes (map_makes beside)));
            memory = λ m stands. (cut.memory, cut.stands, subst (λ (z : List Sector). Frees of_tables z cut.memory) (one_memory d0 s0 x m books.stands stands) gone_now);
          };
          brings = brings_then (brings_then brings_bare h.brings) (map_brings beside);
          true_runs = λ m stands. subst (λ (z : List Sector). AreTrue (labels_of z) (runs_of layout.sectors last)) (one_memory d3 s3 cut.memory m cut.stands stands) true_now;
        };
      }
        where
          append_none : (xs : List DiskWrite) → xs ++ [] ≡ xs
          append_none [] = refl
          append_none (x ∷ xs) = ap (λ (l : List DiskWrite). x ∷ l) (append_none xs)

          brings_bare : BringsOwn s0 s1
          brings_bare = record { homes = λ home held. inl (record { slot = held.slot; frame = held.frame; has = left held.slot held.frame held.has; at = held.at }) }

-- over any contents
pub forgot_freed : {d0 d1 d2 : DiskState} {s0 s1 s2 : Slots} → Goes (Differs (of_run 3 0 96)) no_page [] d0 s0 d1 s1 → MakesFree 96 d1 s1 d2 s2 → MakesFree 96 d0 s0 d2 s2
forgot_freed goes h = record { sectors = h.sectors; long = h.long; makes = makes_then (makes_wider volume_page (λ id page none. absurd none) goes.makes) h.makes }

pub forgot_some : {d0 d1 d2 : DiskState} {s0 s1 s2 : Slots} → Goes (Differs (of_run 3 0 96)) no_page [] d0 s0 d1 s1 → MakesSomeFree d1 s1 d2 s2 → MakesSomeFree d0 s0 d2 s2
forgot_some goes h = record { sectors = h.sectors; makes = makes_then (makes_wider volume_page (λ id page none. absurd none) goes.makes) h.makes }

pub freed_cut : {l2 l3 : Layout} {a b c : DiskState} {s t u : Slots} → MakesFree 96 a s b t → Beside FileMap b t l2 c u l3 → MakesFree 96 a s c u
freed_cut {a = a} {c = c} {s = s} {u = u} h beside = record {
  sectors = h.sectors;
  long = h.long;
  makes = subst (λ (ws : List DiskWrite). Makes volume_page ws a s c u) (append_none (freeing h.sectors)) (makes_then h.makes (map_makes beside));
}
  where
    append_none : (xs : List DiskWrite) → xs ++ [] ≡ xs
    append_none [] = refl
    append_none (x ∷ xs) = ap (λ (l : List DiskWrite). x ∷ l) (append_none xs)
