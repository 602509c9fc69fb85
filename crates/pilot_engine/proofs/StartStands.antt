-- The session that a start on a sound volume begins.
use Rattle.std.proofs.Common.{◌≡◌, ◌⊎◌, inl, inr, ℕ, zero, suc, ◌+◌, ◌-◌, ◌<◌, ◌≤◌, Bool, true, false, not, List, [], ◌∷◌, length, replicate, Option, Some, None, refl, sym, ◌∙◌, ap, subst, arith, min, length-set}
use Rattle.std.specs.Prelude.{slice_get, slice_set, nat_lt, ◌||◌, ◌==◌}
use Rattle.std.specs.Option.{option_map_or}
use Rattle.std.proofs.lemmas.Option.{same_Some, none-some, slice_get_within}
use Rattle.std.proofs.lemmas.Bool.{true≢false, cases_eq, ne_eqb}
use Rattle.std.proofs.lemmas.List.{length-map, length-replicate}
use Rattle.labelled_disk.specs.declared.label.Label.{Label}
use Rattle.labelled_disk.specs.declared.layout.Layout.{Layout}
use Rattle.labelled_disk.specs.Label.{leader_page, page_label}
use Rattle.labelled_disk.specs.Layout.{first_data}
use Rattle.labelled_disk.specs.CrashState.{written}
use Rattle.labelled_disk.specs.Root.{root_page}
use Rattle.labelled_disk.specs.Runs.{zero_bytes}
use Rattle.labelled_disk.specs.Sectors.{Sector, AreSectors}
use Rattle.labelled_disk.specs.State.{DiskState}
use Rattle.labelled_disk.specs.FilesOn.{files_on}
use Rattle.labelled_disk.proofs.Finds.{get_set_same, get_set_other}
use Rattle.frame_pool.specs.Frames.{Slots}
use Rattle.file_map.specs.declared.run.Run.{Run}
use Rattle.flat_machine.specs.Space.{root}
use Rattle.flat_machine.specs.Start.{start}
use Rattle.swapper_kernel.specs.declared.manager.Manager.TheVariants.{AllocationMap}
use Rattle.swapper_kernel.specs.DiffersLaws.{label_here, differs_itself}
use Rattle.swapper_kernel.specs.FormLaws.{memory_in_form}
use Rattle.swapper_kernel.specs.Homes.{IsLayout, AreNamed}
use Rattle.swapper_kernel.specs.Maps.{IsMapHome}
use Rattle.swapper_kernel.specs.Kinds.{HasKind, the_tables, of_kinds, tables_alone}
use Rattle.swapper_kernel.specs.Stands.{Stands, labels_of}
use Rattle.swapper_kernel.specs.Window.{Beside}
use Rattle.filer_kernel.specs.declared.cached.CachedRuns.{CachedRuns}
use Rattle.filer_kernel.specs.Cached.{runs_of}
use Rattle.filer_kernel.specs.Marks.{Marks, BitsAre, free_sectors}
use Rattle.session_words.specs.Found.{AreShapes}
use Rattle.session_words.specs.GrowLaws.{grown_labels}
use Rattle.session_words.specs.Parts.{Shape, Shapes, shapes_of, HasTables, HasLabelsUpto, is_owned_upto, is_marked, is_loose, DirtyAreLoose}
use Rattle.session_words.specs.OpenLaws.{CanOpen, FlagCleared, TablesMade}
use Rattle.session_words.specs.StandsFor.{IsFor}
use Rattle.session_words.proofs.CallLemmas.{kind_tables}
use Rattle.session_words.proofs.GrownLemmas.{grown_long}
use Rattle.swapper_kernel.proofs.KindLemmas.{kind_is_data}
use Rattle.session_words.proofs.OpenLemmas.{opened_laws}
use Rattle.session_words.proofs.SoundLemmas.{sound_laws}
use Rattle.volume_root.specs.declared.root.Root.{Root}
use Rattle.volume_root.specs.Flag.{with_flag}
use Rattle.volume_root.specs.RootPage.{root_in, root_write}
use Rattle.volume_root.specs.Sound.{Sound}
use Rattle.file_manager.specs.declared.volume.Volume.{Volume}
use Rattle.file_manager.specs.Book.{IsBookedUpto}
use Rattle.file_manager.specs.Making.{free_count}
use Rattle.file_manager.specs.Tables.{MayBegin, BegunBy}
use Rattle.file_manager.proofs.BookLemmas.{known_after}
use Rattle.file_manager.proofs.FreedRun.{map_brings}
use Rattle.file_manager.proofs.OpenedBooks.{opened_is_booked}
use Rattle.file_manager.proofs.RunLeads.{one_memory}
use Rattle.file_manager.proofs.RunStages.{marks_shown, bits_shown, mark_is, in_bits, maps_named}
use Rattle.file_manager.proofs.UpLemmas.{count_same}
use Rattle.file_manager.proofs.TablesMade.{no_shape}
use Rattle.pilot_engine.specs.Opening.{root_alone, in_use, IsBare}
use Rattle.running_words.specs.Session.{IsSession}
use Rattle.pilot_engine.proofs.StartCount.{room_for_tables, used_by_files}

-- where no frame is, the memory is what the disk reveals
pub bare_stands : (disk : DiskState) (slots : Slots) (d : List Sector) → IsBare slots → disk.contents ≡ Some d → Stands disk slots d
bare_stands disk slots d bare revealed = record {
  sectors = d;
  revealed = revealed;
  merged = record { labels = refl; frames = λ i f has. absurd (bare i f has); clean = λ k clean. refl };
}

-- a label that a growth left was made in it, or was there before
grown_from : (is : List ℕ) (page : ℕ) (labels : List Label) (k : ℕ) (l : Label) → slice_get (grown_labels 3 0 page is labels) k ≡ Some l
    → ((j : ℕ) × (slice_get is j ≡ Some k) × (l.page ≡ page + j)) ⊎ (slice_get labels k ≡ Some l)
grown_from [] page labels k l here = inr here
grown_from (i ∷ is) page labels k l here = elim (grown_from is (page + 1) (slice_set labels i (page_label 3 0 page)) k l here) [
  | inl (j, at, number) ↦ inl (suc j, at, omega (arith, number))
  | inr was ↦ elim (cases_eq k i) [
    | inl same ↦
        let within = slice_get_within (slice_set labels i (page_label 3 0 page)) k l was in
        let inside : i < length labels = let long = length-set labels i (page_label 3 0 page) in omega (arith, within, long, same) in
        let own : page_label 3 0 page ≡ l = same_Some (page_label 3 0 page) l (sym (get_set_same labels i (page_label 3 0 page) inside) ∙ ap (slice_get (slice_set labels i (page_label 3 0 page))) (sym same) ∙ was) in
        let number : l.page ≡ page = sym (ap (λ (x : Label). x.page) own) in
        inl (0, ap (λ (n : ℕ). Some n) (sym same), omega (arith, number))
    | inr other ↦ inr (sym (get_set_other labels i k (page_label 3 0 page) other) ∙ was)
  ]
]

at_each : {X : Type 0} (n : ℕ) (x : X) (k : ℕ) → k < n → slice_get (replicate n x) k ≡ Some x
at_each zero x k below = absurd (omega (arith, below))
at_each (suc n) x zero below = refl
at_each (suc n) x (suc k) below = at_each n x k (omega (arith, below))

-- no label is that of a page of the space tables, where there is none of them
none_owned : (shapes : Shapes) (page : ℕ) → shapes 3 ≡ None → is_owned_upto 0 shapes 3 page ≡ false
none_owned shapes page none =
    ap (λ (b : Bool). b || option_map_or (λ (f : Shape). page == leader_page || nat_lt page f.size) (shapes 3) false) (let a : nat_lt page 0 ≡ false = grind arith in a)
    ∙ ap (λ (o : Option Shape). option_map_or (λ (f : Shape). page == leader_page || nat_lt page f.size) o false) none

-- pages of zeros mean the root alone
tables_zero : (shapes : Shapes) (x z : List Sector) (is : List ℕ) → AreShapes shapes → HasLabelsUpto 0 (labels_of x) shapes → TablesMade is x z → HasTables root_alone z (root ∷ [])
tables_zero shapes x z is are labels made = record {
  pages = replicate 96 zero_bytes;
  revealed = refl;
  count = length-replicate 96 zero_bytes;
  each = each;
}
  where
    long : length z ≡ length x
    long = sym (length-map z (λ s. s.0)) ∙ ap (λ (l : List Label). length l) made.grown.labels ∙ grown_long 3 0 0 is (labels_of x) ∙ length-map x (λ s. s.0)

    each : (k : ℕ) (s : Sector) → HasKind z k s the_tables → slice_get (replicate 96 zero_bytes) s.0.page ≡ Some s.1
    each k s has = elim (grown_from is 0 (labels_of x) k s.0 (ap (λ (l : List Label). slice_get l k) (sym made.grown.labels) ∙ label_here z k s has.here)) [
      | inl (j, at, number) ↦
          let below = slice_get_within is j k at in
          let few = made.count in
          at_each 96 zero_bytes s.0.page (omega (arith, below, few, number)) ∙ ap (λ (b : List ℕ). Some b) (sym (made.grown.fresh j k s at has.here))
      | inr was ↦
          let three : s.0.id ≡ 3 = kind_tables (length z) k s.0 has.is in
          let beyond : first_data (length z) ≤ k = kind_is_data (length z) k s.0 the_tables (λ e. true≢false (ap tables_alone e)) (λ e. true≢false (ap tables_alone e)) (λ e. true≢false (ap tables_alone e)) has.is in
          let owned = labels.pages.only k s.0 (record { is_data = subst (λ (n : ℕ). first_data n ≤ k) (long ∙ sym (length-map x (λ s. s.0))) beyond; here = was }) (ne_eqb s.0.id 0 (λ e. omega (arith, e, three))) in
          absurd (true≢false (sym owned.is ∙ ap (λ (n : ℕ). is_owned_upto 0 shapes n s.0.page) three ∙ none_owned shapes s.0.page (no_shape shapes are)))
    ]

module _ (d : List Sector) (sectors : AreSectors d) (sound : Sound d) (layout : Layout) (is_layout : IsLayout layout) (long : length d ≡ layout.sectors) (own : Root) (same_root : own ≡ root_in (root_page d))
    (slots : Slots) (bare : IsBare slots) (kept : CachedRuns) (no_runs : runs_of layout.sectors kept ≡ []) (d1 : DiskState) (in_form : (e : List Sector) → d1.contents ≡ Some e → AreSectors e)
    (made : (n : List Sector) × Stands d1 slots n × (n ≡ written (root_write (in_use own)) d)) where
  can_open : CanOpen d
  can_open = sound_laws.opens d sectors sound

  -- the volume with its flag cleared
  abbrev pub opened : List Sector
  opened = with_flag false d

  cleared : FlagCleared d opened
  cleared = sound_laws.cleared d can_open

  pub opened_stands : Stands d1 slots opened
  opened_stands = subst (Stands d1 slots) (made.2 ∙ ap (λ (r : Root). written (root_write (in_use r)) d) same_root) made.1

  opened_long : length opened ≡ layout.sectors
  opened_long = cleared.long ∙ long

  opened_form : AreSectors opened
  opened_form = memory_in_form d1 slots opened opened_stands (in_form opened_stands.sectors opened_stands.revealed) (λ i f has. absurd (bare i f has))

  pub opened_book : IsBookedUpto 0 layout (runs_of layout.sectors kept) (shapes_of (files_on d)) opened
  opened_book =
      opened_is_booked d opened can_open cleared layout (runs_of layout.sectors kept) opened_form opened_long (λ k r here. absurd (none-some r (ap (λ (l : List Run). slice_get l k) (sym no_runs) ∙ here)))

  -- its bits, as the filer finds them
  abbrev pub marks : Marks
  marks = marks_shown layout is_layout (runs_of layout.sectors kept) (shapes_of (files_on d)) opened opened_book

  pub bits : BitsAre layout marks opened
  bits = bits_shown layout is_layout (runs_of layout.sectors kept) (shapes_of (files_on d)) opened opened_book

  pub map_named : AreNamed opened (IsMapHome AllocationMap layout)
  map_named = maps_named layout is_layout (runs_of layout.sectors kept) (shapes_of (files_on d)) opened opened_book AllocationMap

  pub free_are : (free : ℕ) → free ≡ free_sectors layout marks → free ≡ free_count layout opened
  free_are free is =
      is ∙ count_same (λ k. not (marks k)) (λ k. not (is_marked opened k)) layout.first (layout.sectors - layout.first) (λ k above below.
      ap not (mark_is layout is_layout (runs_of layout.sectors kept) (shapes_of (files_on d)) opened opened_book k (in_bits layout is_layout (runs_of layout.sectors kept) (shapes_of (files_on d)) opened opened_book k (omega (arith, above, below)))))

  module _ (d2 : DiskState) (s2 : Slots) (later : Layout) (beside : Beside AllocationMap d1 slots layout d2 s2 later) (stands : Stands d2 s2 opened) where
    -- the pages of the space tables may be made
    pub may_begin : MayBegin d2 s2 layout kept (shapes_of (files_on d)) (root ∷ []) opened
    may_begin = record {
      books = record {
        stands = stands;
        booked = opened_book;
        frames = known_after slots s2 (root ∷ []) (map_brings beside) (record { known = λ id page there. absurd (bare there.slot there.frame there.has) });
      };
      hidden = λ page. refl;
      enough = room_for_tables layout is_layout d opened can_open cleared opened_long;
    }

    module _ (d3 : DiskState) (s3 : Slots) (runs : CachedRuns) (begun : BegunBy d2 s2 layout d3 s3 runs) where
      abbrev after : (z : List Sector) × Stands d3 s3 z × TablesMade begun.sectors opened z
      after = begun.leads.goes.memory opened stands

      abbrev memory : List Sector
      memory = after.0

      is_for : IsFor root_alone memory (start d)
      is_for =
          let t = after.2 in
          opened_laws root_alone d opened memory memory begun.sectors can_open cleared t (record {
            same = differs_itself (of_kinds (length memory) tables_alone) memory;
            sectors = t.grown.sectors;
            tables = tables_zero (shapes_of (files_on d)) opened memory begun.sectors opened_book.files opened_book.labels t;
          })

      memory_long : length memory ≡ layout.sectors
      memory_long = same_count ∙ opened_long
        where
          same_count : length memory ≡ length opened
          same_count = sym (length-map memory (λ s. s.0)) ∙ ap (λ (l : List Label). length l) after.2.grown.labels ∙ grown_long 3 0 0 begun.sectors (labels_of opened) ∙ length-map opened (λ s. s.0)

      -- no frame before was dirty, and pages of the volume's own alone became so
      loose : DirtyAreLoose s3 []
      loose id page dirty = elim (begun.leads.goes.makes.dirty id page dirty) [
        | inl was ↦ elim (beside.goes.makes.dirty id page was) [
          | inl first ↦ absurd (bare first.slot first.frame first.has)
          | inr map ↦ of_own id page (let one : id ≡ 1 = map in omega (arith, one))
        ]
        | inr own ↦ of_own id page own
      ]
        where
          of_own : (id page : ℕ) → id < 4 → is_loose [] id page ≡ true
          of_own id page below = let a : nat_lt id 4 ≡ true = grind (arith, below) in rw a refl

      pub session_begun : (volume : Volume) (now : Layout) → now ≡ layout → volume.root ≡ in_use own → (free : ℕ) → free ≡ free_count layout opened → volume.used ≡ min ((layout.sectors - layout.first) - free) layout.capacity
          → IsSession root_alone d3 s3 now runs volume (start d)
      session_begun volume now same root_is free counted is_used =
          let numbers : volume.root ≡ in_use (root_in (root_page d)) = root_is ∙ ap in_use same_root in
          subst (λ (l : Layout). IsSession root_alone d3 s3 l runs volume (start d)) (sym same) (record {
            stands = record {
              memory = memory;
              stands = after.1;
              is = is_for;
              dirty = loose;
              frames = known_after s2 s3 (root ∷ []) begun.leads.brings may_begin.books.frames;
            };
            kept = λ y there. record { long = ap (λ (l : List Sector). length l) (one_memory d3 s3 y memory there after.1) ∙ memory_long; true_runs = begun.leads.true_runs y there };
            same_serial = ap (λ (r : Root). r.serial) numbers;
            same_counter = ap (λ (r : Root). r.counter) numbers;
            same_used = used_by_files layout is_layout d opened can_open cleared opened_long free volume.used counted is_used;
          })
