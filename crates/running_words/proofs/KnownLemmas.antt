-- What a core knows of the memory, by the machine that it stands for.
use Rattle.std.proofs.Common.{◌≡◌, ◌⊎◌, inl, inr, ℕ, ◌+◌, ◌-◌, ◌*◌, ◌<◌, ◌≤◌, Bool, true, false, ◌||◌, List, length, Option, Some, None, refl, sym, ◌∙◌, ap, subst, arith}
use Rattle.std.specs.Prelude.{slice_get, option_map, IsSomeAnd, IsTrue, nat_lt, ◌==◌, if◌then◌else◌}
use Rattle.std.specs.Option.{option_map_or}
use Rattle.std.specs.List.{concat}
use Rattle.std.proofs.lemmas.Bool.{cases_eq, cases_lt, ne_eqb, eq-eqb, ltb-true}
use Rattle.std.proofs.lemmas.Bool.Decides.{nat_tests}
use Rattle.std.proofs.lemmas.List.{length-map}
use Rattle.std.proofs.lemmas.Option.{same_Some, slice_get_within}
use Rattle.labelled_disk.specs.declared.label.Label.{Label}
use Rattle.labelled_disk.specs.declared.label.Wanted.{Wanted}
use Rattle.labelled_disk.specs.declared.layout.Layout.{Layout}
use Rattle.labelled_disk.specs.File.{File, file_at, size}
use Rattle.labelled_disk.specs.Label.{is_file, names, leader_page}
use Rattle.labelled_disk.specs.Layout.{first_data, vam, vfm}
use Rattle.labelled_disk.specs.Sectors.{Sector}
use Rattle.labelled_disk.specs.State.{DiskState}
use Rattle.flat_mem.specs.Memory.{part}
use Rattle.frame_pool.specs.declared.home.Home.{Home}
use Rattle.frame_pool.specs.Frames.{Slots}
use Rattle.file_map.specs.declared.run.Run.{Run}
use Rattle.file_map.specs.FileMap.{Triples}
use Rattle.file_map.specs.InSectors.{MapNames, map_bytes}
use Rattle.file_map.specs.Run.{sector_at}
use Rattle.flat_machine.specs.declared.space.FilePage.{FilePage}
use Rattle.flat_machine.specs.At.{shown_at}
use Rattle.flat_machine.specs.Machine.{Machine}
use Rattle.flat_machine.proofs.MoreLaws.{shown_is_there}
use Rattle.swap_units.specs.declared.interval.Interval.{Interval}
use Rattle.swapper_kernel.specs.DiffersLaws.{label_here, names_id, names_page, sector_of_label}
use Rattle.swapper_kernel.specs.Homes.{IsLayout, wanted_at}
use Rattle.swapper_kernel.specs.Kinds.{HasKind, the_tables, a_file, unused}
use Rattle.swapper_kernel.specs.Stands.{IsHome, Stands, labels_of}
use Rattle.swapper_kernel.proofs.KindLemmas.{data_kind}
use Rattle.filer_kernel.specs.PlaceLaws.{data_first}
use Rattle.filer_kernel.specs.Tables.{AreOverTables, IsTablePage}
use Rattle.filer_kernel.specs.Triples.{MapIs, AreOf}
use Rattle.session_words.specs.Found.{AreShapes}
use Rattle.session_words.specs.Parts.{Shape, HasLabel, IsOwned, HasTables, TablesMeaning, is_marked, is_owned, shape_of, shapes_of}
use Rattle.session_words.specs.StandsFor.{IsForBy}
use Rattle.session_words.proofs.FoundLemmas.{above_reserved, owned_by}
use Rattle.session_words.proofs.SettledLemmas.{machine_shapes}
use Rattle.session_words.proofs.ShownLemmas.{shown_laws}
use Rattle.file_manager.specs.Book.{AreTrue}
use Rattle.file_manager.specs.declared.volume.Volume.{Volume}
use Rattle.file_manager.proofs.BookLemmas.{map_named}
use Rattle.fault_core.specs.Revealed.{IsStored, IsTabled, Known, Revealed}
use Rattle.filer_kernel.specs.View.{View}
use Rattle.running_words.specs.Running.{IsRunning, exactly}
use Rattle.running_words.specs.RunningLaws.{IsWhole}
use Rattle.running_words.specs.Session.{IsSession}
use Rattle.running_words.proofs.JoinedLemmas.{AreWhole, joined_length, part_joined, only_pages}

or_false : (b : Bool) → (b || false) ≡ b
or_false true = refl
or_false false = refl

file_in : (o : Option File) (P : File → Type 0) → IsSomeAnd o P → (f : File) × (o ≡ Some f) × P f
file_in (Some f) P is = (f, refl, is)
file_in None P is = absurd is

-- what stands before the data sectors
before_first : (n first k : ℕ) → first ≡ first_data n → (first ≤ k) ⊎ (k ≡ 0) ⊎ ((j : ℕ) × (j < vam n) × (k ≡ 1 + j)) ⊎ ((j : ℕ) × (j < vfm n) × (k ≡ 1 + vam n + j))
unfolding first_data
before_first n first k is = elim (cases_lt k first) [
  | inr from ↦ inl from
  | inl before ↦ elim (cases_eq k 0) [
    | inl root ↦ inr (inl root)
    | inr after ↦ elim (cases_lt k (1 + vam n)) [
      | inl low ↦ inr (inr (inl (k - 1, omega (arith, low, after), omega (arith, after))))
      | inr high ↦ inr (inr (inr (k - 1 - vam n, omega (arith, high, before, is), omega (arith, high))))
    ]
  ]
]

-- one of the pages of the space tables, in its sector
record TablePage (layout : Layout) (named : Triples) (x : List Sector) (k : ℕ) : Type 0 where
  pub place : ℕ
  pub s : Sector
  pub kind : HasKind x place s the_tables
  pub number : s.0.page ≡ k
  pub found : named 3 k place ≡ true
  pub named_so : names s.0 (record { id = 3; page = k }) ≡ true

module _ (spaces_of : TablesMeaning) (layout : Layout) (x : List Sector) (named : Triples) (m : Machine) (is : IsLayout layout) (long : length x ≡ layout.sectors) (f : IsForBy spaces_of (is_marked x) named x m) where
  pub map_known : MapNames x named → MapIs layout named x
  map_known map =
      let shows = (shown_laws.bytes layout x (map_bytes x) is long f.sectors).1 refl in
      record { bytes = map_bytes x; shows = shows; names = (shown_laws.names layout x (map_bytes x) named is long f.sectors shows).1 map }

  label_count : length (labels_of x) ≡ length x
  label_count = length-map x (λ s. s.0)

  first_is : layout.first ≡ first_data (length (labels_of x))
  first_is = data_first layout is ∙ ap first_data (sym long ∙ sym label_count)

  -- a sector that is no data sector is that of the root, or of a map
  before_data : (k : ℕ) → (layout.first ≤ k) ⊎ (k ≡ 0) ⊎ ((j : ℕ) × (j < vam (length (labels_of x))) × (k ≡ 1 + j)) ⊎ ((j : ℕ) × (j < vfm (length (labels_of x))) × (k ≡ 1 + vam (length (labels_of x)) + j))
  before_data k = before_first (length (labels_of x)) layout.first k first_is

  -- the label that stands at a place is the sector's
  label_is : (k : ℕ) (s : Sector) → slice_get x k ≡ Some s → {place : ℕ} → k ≡ place → (w : Wanted) → IsSomeAnd (slice_get (labels_of x) place) (λ l. IsTrue (names l w)) → names s.0 w ≡ true
  label_is k s here at w is = subst (λ (o : Option Label). IsSomeAnd o (λ l. IsTrue (names l w))) (ap (slice_get (labels_of x)) (sym at) ∙ label_here x k s here) is

  data_label : (k : ℕ) (s : Sector) → layout.first ≤ k → slice_get x k ≡ Some s → HasLabel (labels_of x) k s.0
  data_label k s from here = record { is_data = subst (λ (n : ℕ). n ≤ k) first_is from; here = label_here x k s here }

  are : AreShapes (shapes_of m.files)
  are = machine_shapes m f.machine (length x) (slice_get x 0) f.root

  -- no file has the identifier of the space tables
  none_three : shapes_of m.files 3 ≡ None
  none_three = either (shapes_of m.files 3) refl
    where
      either : (o : Option Shape) → shapes_of m.files 3 ≡ o → o ≡ None
      either None e = refl
      either (Some g) e = let low : 16 ≤ 3 = above_reserved 3 (are.given 3 g e) in absurd (omega (arith, low))

  low_page : (page : ℕ) → is_owned (shapes_of m.files) 3 page ≡ true → page < 96
  low_page page owned =
      let plain : nat_lt page 96 ≡ true =
      sym (ap (λ (o : Option Shape). nat_lt page 96 || option_map_or (λ (g : Shape). page == leader_page || nat_lt page g.size) o false) none_three ∙ or_false (nat_lt page 96)) ∙ owned in
      ltb-true page 96 plain

  owned_page : (page : ℕ) → page < 96 → is_owned (shapes_of m.files) 3 page ≡ true
  owned_page page below = let a : nat_lt page 96 ≡ true = grind (arith, nat_tests, below) in rw a refl

  -- a data sector with the identifier of the space tables has the label of one of their pages
  own_label : (k : ℕ) (s : Sector) → layout.first ≤ k → slice_get x k ≡ Some s → s.0.id ≡ 3 → IsOwned (is_owned (shapes_of m.files)) s.0
  own_label k s from here three = f.labels.pages.only k s.0 (data_label k s from here) (ne_eqb s.0.id 0 (omega (arith, three)))

  -- and is where the file map has that page
  own_place : (k : ℕ) (s : Sector) → layout.first ≤ k → slice_get x k ≡ Some s → s.0.id ≡ 3 → named 3 s.0.page k ≡ true
  own_place k s from here three = f.triples.all 3 s.0.page k (record { label = s.0; there = data_label k s from here; taken = ne_eqb s.0.id 0 (omega (arith, three)); same_id = three; same_page = refl })

  pub tabled : IsTabled layout named x
  tabled k s from here three =
      (low_page s.0.page (ap (λ (i : ℕ). is_owned (shapes_of m.files) i s.0.page) (sym three) ∙ (own_label k s from here three).is), own_place k s from here three)

  -- no other sector has such a label
  three_on_data : (k : ℕ) (s : Sector) → slice_get x k ≡ Some s → s.0.id ≡ 3 → layout.first ≤ k
  three_on_data k s here three = elim (before_data k) [
    | inl from ↦ from
    | inr (inl root) ↦
        let four : s.0.id ≡ 4 = names_id s.0 (record { id = 4; page = 0 }) (subst (λ (o : Option Sector). IsSomeAnd o (λ t. IsTrue (names t.0 (record { id = 4; page = 0 })))) (ap (slice_get x) (sym root) ∙ here) f.root.valid.label) in
        absurd (omega (arith, three, four))
    | inr (inr (inl (j, below, at))) ↦
        let one : s.0.id ≡ 1 = names_id s.0 (record { id = 1; page = j }) (label_is k s here at (record { id = 1; page = j }) (f.map_labels.allocation j below)) in
        absurd (omega (arith, three, one))
    | inr (inr (inr (j, below, at))) ↦
        let two : s.0.id ≡ 2 = names_id s.0 (record { id = 2; page = j }) (label_is k s here at (record { id = 2; page = j }) (f.map_labels.file_map j below)) in
        absurd (omega (arith, three, two))
  ]

  -- so frames of their pages are where the file map has them
  pub frames_over : (disk : DiskState) (slots : Slots) → Stands disk slots x → AreOverTables slots named
  frames_over disk slots stands home held three below =
      let at : IsHome x held.frame = stands.merged.frames held.slot held.frame held.has in
      let s : Sector = (at.label, held.frame.bytes) in
      let here : slice_get x home.sector ≡ Some s = ap (λ (h : Home). slice_get x h.sector) (sym held.at) ∙ at.keeps in
      let own : names at.label (wanted_at home) ≡ true = ap (λ (h : Home). names at.label (wanted_at h)) (sym held.at) ∙ at.named in
      let id : at.label.id ≡ 3 = names_id at.label (wanted_at home) own ∙ three in
      ap (λ (page : ℕ). named 3 page home.sector) (sym (names_page at.label (wanted_at home) own)) ∙ own_place home.sector s (three_on_data home.sector s here id) here id

  table_page : (k : ℕ) → k < 96 → TablePage layout named x k
  table_page k below =
      let p = f.labels.pages.all 3 k (owned_page k below) in
      let t = sector_of_label x p.place p.label p.there.here in
      let s : Sector = t.0 in
      let three : s.0.id ≡ 3 = ap (λ (l : Label). l.id) t.2 ∙ p.same_id in
      let number : s.0.page ≡ k = ap (λ (l : Label). l.page) t.2 ∙ p.same_page in
      let from : first_data (length x) ≤ p.place = subst (λ (n : ℕ). first_data n ≤ p.place) label_count p.there.is_data in
      let here : layout.first ≤ p.place = subst (λ (n : ℕ). n ≤ p.place) (sym first_is) p.there.is_data in
      let named_own : names s.0 (record { id = 3; page = s.0.page }) ≡ true = ap (λ (i : ℕ). names s.0 (record { id = i; page = s.0.page })) (sym three) ∙ (own_label p.place s here t.1 three).named in
      record {
        place = p.place;
        s = s;
        kind = record { here = t.1; is = data_kind (length x) p.place s.0 from ∙ ap (λ (b : Bool). if b then the_tables else (if is_file s.0 then a_file else unused)) (eq-eqb s.0.id 3 three) };
        number = number;
        found = f.triples.all 3 k p.place (record { label = p.label; there = p.there; taken = p.taken; same_id = p.same_id; same_page = p.same_page });
        named_so = ap (λ (i : ℕ). names s.0 (record { id = 3; page = i })) (sym number) ∙ named_own;
      }

  module _ (pages : List (List ℕ)) (tables : HasTables spaces_of x m.spaces) (same : tables.pages ≡ pages) where
    there : (k : ℕ) → k < 96 → (t : TablePage layout named x k) → slice_get pages k ≡ Some t.s.1
    there k below t = ap (λ (ps : List (List ℕ)). slice_get ps k) (sym same) ∙ ap (slice_get tables.pages) (sym t.number) ∙ tables.each t.place t.s t.kind

    pages_count : length pages ≡ 96
    pages_count = ap length (sym same) ∙ tables.count

    pages_whole : AreWhole pages
    pages_whole k p here =
        let below : k < 96 = omega (arith, slice_get_within pages k p here, pages_count) in
        let t = table_page k below in
        let one : t.s.1 ≡ p = same_Some t.s.1 p (sym (there k below t) ∙ here) in
        sym (ap length one) ∙ (f.sectors t.place t.s t.kind.here).whole_page

    pub joined_count : length (concat pages) ≡ 512 * 96
    joined_count = joined_length pages pages_whole ∙ ap (λ (n : ℕ). 512 * n) pages_count

    pub page_known : (k : ℕ) → k < 96 → IsTablePage layout named x k (part (concat pages) (512 * k) 512)
    page_known k below =
        let t = table_page k below in
        let bytes : part (concat pages) (512 * k) 512 ≡ t.s.1 = part_joined pages pages_whole k t.s.1 (there k below t) in
        record {
          sector = t.place;
          label = t.s.0;
          found = t.found;
          keeps = t.kind.here ∙ (λ i. Some (t.s.0, sym bytes i));
          named_so = t.named_so;
        }

  -- a page of a file has its sector
  pub page_stored : (page : FilePage) (g : File) → file_at m.files page.file ≡ Some g → page.page < size g → IsStored named x page
  page_stored page g found below =
      let shape : shapes_of m.files page.file ≡ Some (shape_of g) = ap (λ (o : Option File). option_map shape_of o) found in
      let p = f.labels.pages.all page.file page.page (owned_by 96 (shapes_of m.files) page.file page.page (shape_of g) shape (inr below)) in
      let t = sector_of_label x p.place p.label p.there.here in
      let owned = f.labels.pages.only p.place p.label p.there p.taken in
      record {
        sector = p.place;
        found = f.triples.all page.file page.page p.place (record { label = p.label; there = p.there; taken = p.taken; same_id = p.same_id; same_page = p.same_page });
        is_named = record { sector = t.0; here = t.1; named = (λ i. names (t.2 i) (record { id = sym p.same_id i; page = sym p.same_page i })) ∙ owned.named };
        of_file = are.given page.file (shape_of g) shape;
      }

  pub shown_stored : (p : ℕ) (page : FilePage) → shown_at m.spaces p ≡ Some page → IsStored named x page
  shown_stored p page shown =
      let g = file_in (file_at m.files page.file) (λ (h : File). page.page < size h) (shown_is_there m f.machine p page shown) in
      page_stored page g.0 g.1 g.2

  pub runs_known : (runs : List Run) → AreTrue (labels_of x) runs → AreOf named runs
  runs_known runs kept k r here page has = f.triples.all r.id page (sector_at r page) (kept k r here page has)

-- what a session says of the memory, whatever the pages of its tables mean
pub session_known : (spaces_of : TablesMeaning) (v : View) (volume : Volume) (m : Machine) → IsWhole v → (s : IsSession spaces_of v.disk v.slots v.layout v.runs volume m) (pages : List (List ℕ)) → s.stands.is.by.tables.pages ≡ pages
    → Known v s.stands.memory s.stands.is.named (concat pages)
session_known spaces_of v volume m whole s pages same =
    let x : List Sector = s.stands.memory in
    let named : Triples = s.stands.is.named in
    let k = s.kept x s.stands.stands in
    let f = s.stands.is.by in
    record {
      stands = s.stands.stands;
      size = whole.size;
      long = k.long;
      sectors = f.sectors;
      map = map_known spaces_of v.layout x named m whole.layout k.long f s.stands.is.map;
      map_labels = map_named v.layout x whole.layout k.long f.map_labels;
      runs = runs_known spaces_of v.layout x named m whole.layout k.long f _ k.true_runs;
      tabled = tabled spaces_of v.layout x named m whole.layout k.long f;
      count = joined_count spaces_of v.layout x named m whole.layout k.long f pages f.tables same;
      page = page_known spaces_of v.layout x named m whole.layout k.long f pages f.tables same;
      held = frames_over spaces_of v.layout x named m whole.layout k.long f v.disk v.slots s.stands.stands;
    }

pub known : (v : View) (kept : List Interval) (count : ℕ) (volume : Volume) (m : Machine) → IsWhole v → (r : IsRunning v kept count volume m)
    → Revealed v kept count r.session.stands.memory r.session.stands.is.named m.spaces
known v kept count volume m whole r =
    let s = r.session in
    let x : List Sector = s.stands.memory in
    let spaces_of : TablesMeaning = exactly r.pages m.spaces in
    let f = s.stands.is.by in
    record {
      bytes = concat r.pages;
      known = session_known spaces_of v volume m whole s r.pages (only_pages r.pages f.tables.pages m.spaces m.spaces f.tables.revealed);
      tables = r.tables;
      cached = r.cached;
      stored = shown_stored spaces_of v.layout x s.stands.is.named m whole.layout (s.kept x s.stands.stands).long f;
    }
