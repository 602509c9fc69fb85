-- What files have, the pages of the space tables and what is free are all data sectors of a session's memory.
use Rattle.std.proofs.Common.{◌≡◌, ◌≢◌, ◌⊎◌, inl, inr, ⊎_elim, ℕ, zero, suc, ◌+◌, ◌-◌, ◌<◌, ◌≤◌, Bool, true, false, not, ◌&&◌, ◌||◌, List, length, Option, Some, None, refl, sym, ◌∙◌, ap, subst, arith, eqb}
use Rattle.std.specs.Prelude.{slice_get, count_by, nat_lt, ◌==◌}
use Rattle.std.specs.Option.{option_map_or}
use Rattle.std.specs.List.{range_with_len}
use Rattle.std.proofs.lemmas.Bool.{and_from, and_left, and_right, or_left, cases_eq, cases_lt, eqb-true, eq-eqb, ne_eqb, lt-ltb, le-ltb, true≢false}
use Rattle.std.proofs.lemmas.Option.{slice_get_within}
use Rattle.std.proofs.lemmas.List.{length-drop, length-map}
use Rattle.std.proofs.lemmas.List.FromFn.{length-range_with_len}
use Rattle.labelled_disk.specs.declared.label.Label.{Label}
use Rattle.labelled_disk.specs.declared.layout.Layout.{Layout}
use Rattle.labelled_disk.specs.Label.{is_file, is_file_id, is_free, leader_page}
use Rattle.labelled_disk.specs.File.{File, size, total_room}
use Rattle.labelled_disk.specs.FilesOn.{files_among, file_among, leads_file, is_page}
use Rattle.labelled_disk.specs.Layout.{data_sectors, first_data, vam, vfm, capacity}
use Rattle.labelled_disk.specs.Lowest.{is_needed, is_first}
use Rattle.labelled_disk.specs.Sectors.{Sector}
use Rattle.labelled_disk.specs.State.{DiskState}
use Rattle.labelled_disk.proofs.LowestLemmas as lowest
use Rattle.labelled_disk.proofs.WriteLemmas.{get_drop}
use Rattle.file_map.specs.FileMap.{Triples}
use Rattle.frame_pool.specs.Frames.{Slots}
use Rattle.flat_machine.specs.Machine.{Machine, used}
use Rattle.swapper_kernel.specs.Homes.{IsLayout}
use Rattle.swapper_kernel.specs.Stands.{labels_of}
use Rattle.filer_kernel.specs.declared.cached.CachedRuns.{CachedRuns}
use Rattle.session_words.specs.Found.{AreShapes}
use Rattle.session_words.specs.Parts.{Shape, shapes_of, HasLabel, TablesMeaning, is_marked, is_owned_upto}
use Rattle.session_words.specs.StandsFor.{IsForBy, IsSettled}
use Rattle.session_words.proofs.FoundLemmas.{data_label, file_of, file_found, file_missing, file_label, owner_upto}
use Rattle.session_words.proofs.SettledLemmas.{Reveals, zipped, same_rooms, right_all, machine_shapes}
use Rattle.label_laws.specs.Counts.{needs_place}
use Rattle.label_laws.proofs.CountLemmas.{files_count, pages_counted, rooms}
use Rattle.file_manager.specs.declared.volume.Volume.{Volume}
use Rattle.file_manager.specs.Making.{free_count}
use Rattle.file_manager.proofs.RunStages.{all_counted, there_is}
use Rattle.running_words.specs.Session.{IsSession}
use Rattle.pilot_engine.proofs.RangeCounts.{same_counted, none_counted, split_counted, one_more, placed}
use Rattle.pilot_engine.proofs.StartCount.{room_beside}

-- one of the first so many pages of the space tables
abbrev table_label : ℕ → Label → Bool
table_label k l = eqb l.id 3 && nat_lt l.page k

abbrev leads_some : Label → Bool
leads_some l = eqb l.page leader_page

or_nothing : (b c : Bool) → c ≡ false → (b || c) ≡ true → b ≡ true
or_nothing true c none is = refl
or_nothing false c none is = absurd (true≢false (sym is ∙ none))

-- a marked sector is one of the tables, or needed
two_kinds : (m t n x y z : Bool) → m ≡ x → t ≡ y → n ≡ z → (x && y) ≡ y → (x && not y) ≡ z → ((m && t) ≡ t) × ((m && not t) ≡ n)
two_kinds m t n x y z a b c tables files = (
  ap (λ (u : Bool). u && t) a ∙ ap (λ (u : Bool). x && u) b ∙ tables ∙ sym b,
  ap (λ (u : Bool). u && not t) a ∙ ap (λ (u : Bool). x && not u) b ∙ files ∙ sym c,
)

module _ (spaces_of : TablesMeaning) (named : Triples) (d : List Sector) (m : Machine) (by : IsForBy spaces_of (is_marked d) named d m) where
  abbrev start : ℕ
  start = first_data (length d)

  abbrev many : ℕ
  many = length (data_sectors d)

  as_settled : IsSettled d m
  as_settled = record {
    table_pages = 96;
    machine = by.machine;
    sectors = by.sectors;
    root = by.root;
    map_labels = by.map_labels;
    labels = by.labels;
    cells = record { agrees = λ k s f p kind file page firm. by.cells.agrees k s f p kind file page refl };
  }

  are : AreShapes (shapes_of m.files)
  are = machine_shapes m by.machine (length d) (slice_get d 0) by.root

  -- what a label says, by its place
  abbrev label_at : (Label → Bool) → ℕ → Bool
  label_at test k = option_map_or test (slice_get (labels_of d) k) false

  revealed_at : (test : Label → Bool) (k : ℕ) (l : Label) → slice_get (labels_of d) k ≡ Some l → label_at test k ≡ test l
  revealed_at test k l here = ap (λ (o : Option Label). option_map_or test o false) here

  sizes : (length (labels_of d) ≡ length d) × (many ≡ length d - start)
  sizes = (length-map d (λ s. s.0), length-drop start d)

  has_label : (k : ℕ) → start ≤ k → k < start + many → (l : Label) × HasLabel (labels_of d) k l
  has_label k low high =
      let long = sizes.0 in
      let size = sizes.1 in
      let l = there_is (labels_of d) k (omega (arith, long, size, low, high)) in
      (l.0, record { is_data = subst (λ (n : ℕ). first_data n ≤ k) (sym long) low; here = l.1 })

  -- The pages of the space tables.

  table_owned : (k : ℕ) → k < 96 → is_owned_upto 96 (shapes_of m.files) 3 k ≡ true
  table_owned k below = or_left (nat_lt k 96) (option_map_or (λ (f : Shape). k == leader_page || nat_lt k f.size) (shapes_of m.files 3) false) (lt-ltb k 96 below)

  tables_counted : (k : ℕ) → k ≤ 96 → count_by (label_at (table_label k)) (range_with_len start many) ≡ k
  tables_counted zero few =
      same_counted (label_at (table_label 0)) (λ n. false) start many
      (λ n low high. let l = has_label n low high in revealed_at (table_label 0) n l.0 l.1.here ∙ and_right (eqb l.0.id 3) (nat_lt l.0.page 0) (le-ltb l.0.page 0 (omega arith)))
      ∙ none_counted start many
  tables_counted (suc k) few =
      let p = by.labels.pages.all 3 k (table_owned k (omega (arith, few))) in
      let long = sizes.0 in
      let size = sizes.1 in
      let within = slice_get_within (labels_of d) p.place p.label p.there.here in
      let low : start ≤ p.place = subst (λ (n : ℕ). first_data n ≤ p.place) long p.there.is_data in
      let number = p.same_page in
      let more = one_more (label_at (table_label (suc k))) (label_at (table_label k)) start many p.place low (omega (arith, long, size, within, low))
      (revealed_at (table_label (suc k)) p.place p.label p.there.here ∙ and_from (eqb p.label.id 3) (nat_lt p.label.page (suc k)) (eq-eqb p.label.id 3 p.same_id) (lt-ltb p.label.page (suc k) (omega (arith, number))))
      (revealed_at (table_label k) p.place p.label p.there.here ∙ and_right (eqb p.label.id 3) (nat_lt p.label.page k) (le-ltb p.label.page k (omega (arith, number))))
      (λ n above below apart.
      let l = has_label n above below in
      revealed_at (table_label (suc k)) n l.0 l.1.here
      ∙ others l.0 (cases_eq l.0.id 3) (λ three page. apart (sym (by.labels.pages.once p.place n p.label l.0 p.there l.1 p.taken (p.same_id ∙ sym three) (p.same_page ∙ sym page)))) (cases_eq l.0.page k)
      ∙ sym (revealed_at (table_label k) n l.0 l.1.here)) in
      let rest = tables_counted k (omega (arith, few)) in
      omega (arith, more, rest)
    where
      others : (l : Label) → (l.id ≡ 3) ⊎ (l.id ≢ 3) → (l.id ≡ 3 → l.page ≡ k → ⊥) → (l.page ≡ k) ⊎ (l.page ≢ k) → table_label (suc k) l ≡ table_label k l
      others l (inr other) apart which = and_left (eqb l.id 3) (nat_lt l.page (suc k)) (ne_eqb l.id 3 other) ∙ sym (and_left (eqb l.id 3) (nat_lt l.page k) (ne_eqb l.id 3 other))
      others l (inl three) apart (inl page) = absurd (apart three page)
      others l (inl three) apart (inr other) = ap (λ (b : Bool). eqb l.id 3 && b) (⊎_elim
          (λ (low : l.page < k). lt-ltb l.page (suc k) (omega (arith, low)) ∙ sym (lt-ltb l.page k low))
          (λ (high : k ≤ l.page). le-ltb l.page (suc k) (omega (arith, high, other)) ∙ sym (le-ltb l.page k high))
          (cases_lt l.page k))

  -- The sectors that files need.

  no_shape : (id : ℕ) → is_file_id id ≡ false → shapes_of m.files id ≡ None
  no_shape id other = either (shapes_of m.files id) refl
    where
      either : (o : Option Shape) → shapes_of m.files id ≡ o → shapes_of m.files id ≡ None
      either None e = e
      either (Some f) e = absurd (true≢false (sym (are.given id f e) ∙ other))

  unneeded : (j : ℕ) (s : Sector) → slice_get (data_sectors d) j ≡ Some s → is_file_id s.0.id ≡ false → is_needed true (data_sectors d) j ≡ false
  unneeded j s here other =
      ap (λ (o : Option Sector). option_map_or (λ s. option_map_or (λ (f : File). is_first (leads_file true s.0.id) (data_sectors d) j || (nat_lt s.0.page (size f) && is_first (is_page s.0.id s.0.page) (data_sectors d) j)) (file_among true (data_sectors d) s.0.id) false) o false) here
      ∙ ap (λ (o : Option File). option_map_or (λ (f : File). is_first (leads_file true s.0.id) (data_sectors d) j || (nat_lt s.0.page (size f) && is_first (is_page s.0.id s.0.page) (data_sectors d) j)) o false)
      (file_missing 96 d (shapes_of m.files) by.labels are s.0.id (no_shape s.0.id other))

  needed : (j : ℕ) (s : Sector) → slice_get (data_sectors d) j ≡ Some s → is_file s.0 ≡ true → is_needed true (data_sectors d) j ≡ true
  needed j s here file =
      let f = file_of 96 d (shapes_of m.files) by.labels are j s here file in
      let x = file_found 96 d (shapes_of m.files) by.labels are s.0.id f.0 f.1 in
      lowest.right_are_needed true m.serial m.counter d j s x.0 (right_all d m as_settled) here file x.1.found

  by_kind : (k : ℕ) → start ≤ k → k < start + many
      → ((is_marked d k && label_at (table_label 96) k) ≡ label_at (table_label 96) k) × ((is_marked d k && not (label_at (table_label 96) k)) ≡ needs_place true d k)
  by_kind k low high = either (is_free s.0) refl (cases_eq s.0.id 3)
    where
      found : (s : Sector) × (slice_get d k ≡ Some s)
      found = let long = sizes.0 in let size = sizes.1 in there_is d k (omega (arith, size, low, high))

      s : Sector
      s = found.0

      label : HasLabel (labels_of d) k s.0
      label = data_label 96 d (shapes_of m.files) by.labels are k s low found.1

      here : slice_get (data_sectors d) (k - start) ≡ Some s
      here = let z : start + (k - start) ≡ k = omega (arith, low) in get_drop start d (k - start) ∙ ap (slice_get d) z ∙ found.1

      mark : is_marked d k ≡ not (is_free s.0)
      mark = by.bits.bits k s.0 label

      table : label_at (table_label 96) k ≡ table_label 96 s.0
      table = revealed_at (table_label 96) k s.0 label.here

      either : (b : Bool) → is_free s.0 ≡ b → (s.0.id ≡ 3) ⊎ (s.0.id ≢ 3)
          → ((is_marked d k && label_at (table_label 96) k) ≡ label_at (table_label 96) k) × ((is_marked d k && not (label_at (table_label 96) k)) ≡ needs_place true d k)
      either true free which =
          let none : s.0.id ≡ 0 = eqb-true s.0.id 0 free in
          two_kinds (is_marked d k) (label_at (table_label 96) k) (needs_place true d k) false false false (mark ∙ ap not free)
          (table ∙ and_left (eqb s.0.id 3) (nat_lt s.0.page 96) (ne_eqb s.0.id 3 (omega (arith, none)))) (unneeded (k - start) s here (ap is_file_id none)) refl refl
      either false taken (inl three) =
          let own = by.labels.pages.only k s.0 label taken in
          two_kinds (is_marked d k) (label_at (table_label 96) k) (needs_place true d k) true true false (mark ∙ ap not taken)
          (table ∙ or_nothing (table_label 96 s.0) (option_map_or (λ (f : Shape). s.0.page == leader_page || nat_lt s.0.page f.size) (shapes_of m.files s.0.id) false)
          (ap (λ (o : Option Shape). option_map_or (λ (f : Shape). s.0.page == leader_page || nat_lt s.0.page f.size) o false) (no_shape s.0.id (ap is_file_id three))) own.is)
          (unneeded (k - start) s here (ap is_file_id three)) refl refl
      either false taken (inr other) =
          let own = by.labels.pages.only k s.0 label taken in
          let f = owner_upto 96 (shapes_of m.files) s.0.id s.0.page other own.is in
          two_kinds (is_marked d k) (label_at (table_label 96) k) (needs_place true d k) true false true (mark ∙ ap not taken)
          (table ∙ and_left (eqb s.0.id 3) (nat_lt s.0.page 96) (ne_eqb s.0.id 3 other)) (needed (k - start) s here (file_label s.0 (are.given s.0.id f.0 f.1) own.named)) refl refl

  needs_counted : count_by (needs_place true d) (range_with_len start many) ≡ total_room m.files
  needs_counted =
      let split = split_counted (needs_place true d) (label_at leads_some) (range_with_len start many) in
      let label : (j : ℕ) (s : Sector) → slice_get (data_sectors d) j ≡ Some s → label_at leads_some (start + j) ≡ leads_some s.0 =
      λ j s here. revealed_at leads_some (start + j) s.0 (data_label 96 d (shapes_of m.files) by.labels are (start + j) s (omega arith) (sym (get_drop start d j) ∙ here)).here in
      let leaders = placed (λ n. needs_place true d n && label_at leads_some n) (λ n s. needs_place true d n && leads_some s.0) start (data_sectors d)
      (λ j s here. ap (λ (b : Bool). needs_place true d (start + j) && b) (label j s here)) in
      let pages = placed (λ n. needs_place true d n && not (label_at leads_some n)) (λ n s. needs_place true d n && not (leads_some s.0)) start (data_sectors d)
      (λ j s here. ap (λ (b : Bool). needs_place true d (start + j) && not b) (label j s here)) in
      let files = files_count true d in
      let sizes = pages_counted true d in
      let room = rooms (files_among true d) in
      let same = same_rooms (Reveals d m as_settled) (λ f g t. ap (λ (s : Shape). s.size) t.same_shape) (files_among true d) m.files (zipped d m as_settled) in
      omega (arith, split, leaders, pages, files, sizes, room, same)

  -- what files have, the 96 pages and what is free are all data sectors
  pub all_data : total_room m.files + 96 + count_by (λ k. not (is_marked d k)) (range_with_len start many) ≡ many
  all_data =
      let all = all_counted (is_marked d) (range_with_len start many) in
      let size = length-range_with_len start many in
      let split = split_counted (is_marked d) (label_at (table_label 96)) (range_with_len start many) in
      let tables = same_counted (λ k. is_marked d k && label_at (table_label 96) k) (label_at (table_label 96)) start many (λ k low high. (by_kind k low high).0) in
      let files = same_counted (λ k. is_marked d k && not (label_at (table_label 96) k)) (needs_place true d) start many (λ k low high. (by_kind k low high).1) in
      let pages = tables_counted 96 (omega arith) in
      let needs = needs_counted in
      omega (arith, all, size, split, tables, files, pages, needs)

  -- on a volume of this layout
  module _ (layout : Layout) (is : IsLayout layout) (long : length d ≡ layout.sectors) where
    first_same : layout.first ≡ first_data (length d)
    unfolding first_data
    first_same = ap (λ (l : Layout). l.first) is.1 ∙ ap (λ (n : ℕ). 1 + vam n + vfm n) (sym long)

    pub room_left : layout.capacity ≡ total_room m.files + free_count layout d
    room_left =
        let first = first_same in
        let length = sizes.1 in
        let size : layout.sectors - layout.first ≡ many = omega (arith, first, long, length) in
        let free : free_count layout d ≡ count_by (λ k. not (is_marked d k)) (range_with_len start many) =
        ap (λ (a : ℕ). count_by (λ k. not (is_marked d k)) (range_with_len a (layout.sectors - layout.first))) first
        ∙ ap (λ (n : ℕ). count_by (λ k. not (is_marked d k)) (range_with_len start n)) size in
        let beside = room_beside layout.sectors is.0.0 in
        let least = beside.0 in
        let most = beside.1 in
        let prefix : layout.first ≡ 1 + vam layout.sectors + vfm layout.sectors = ap (λ (l : Layout). l.first) is.1 in
        let room : layout.capacity ≡ capacity layout.sectors = ap (λ (l : Layout). l.capacity) is.1 in
        let all = all_data in
        omega (arith, size, free, least, most, prefix, room, all)

pub room : (spaces_of : TablesMeaning) (disk : DiskState) (slots : Slots) (layout : Layout) (runs : CachedRuns) (volume : Volume) (m : Machine) → IsLayout layout
    → (s : IsSession spaces_of disk slots layout runs volume m) → layout.capacity ≡ used m + free_count layout s.stands.memory
room spaces_of disk slots layout runs volume m is s =
    room_left spaces_of s.stands.is.named s.stands.memory m s.stands.is.by layout is (s.kept s.stands.memory s.stands.stands).long
