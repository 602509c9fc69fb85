-- A pair is started on two volumes that were closed.
use Rattle.std.proofs.Common.{◌≡◌, ◌⊎◌, inl, inr, ℕ, zero, suc, ◌+◌, ◌-◌, ◌/◌, ◌%◌, ◌≤◌, Bool, true, false, not, cond, List, [], ◌∷◌, length, replicate, Option, Some, None, Result, Ok, Err, refl, sym, ◌∙◌, ap, subst, arith, min}
use Rattle.std.specs.Prelude.{slice_get, count_by, if◌then◌else◌, nat_le}
use Rattle.std.specs.List.{AllByRecursion, range_with_len}
use Rattle.std.specs.Option.{option_map_or}
use Rattle.std.proofs.lemmas.Bool.{le-leb, leb-true, true≢false}
use Rattle.std.proofs.lemmas.List.{length-drop, length-map}
use Rattle.std.proofs.lemmas.List.FromFn.{length-range_with_len}
use Rattle.std.proofs.lemmas.Option.{none-some, same_Some}
use Rattle.labelled_disk.specs.declared.layout.Layout.{Layout}
use Rattle.labelled_disk.specs.declared.layout.RootFault.{RootFault}
use Rattle.labelled_disk.specs.declared.layout.RootFault.TheVariants as fault
use Rattle.labelled_disk.specs.Calls.{OnlyReads, ReadsAtMost, RevealsSame}
use Rattle.labelled_disk.specs.CrashState.{written}
use Rattle.labelled_disk.specs.File.{total_room}
use Rattle.labelled_disk.specs.FilesOn.{files_on}
use Rattle.labelled_disk.specs.Label.{is_free}
use Rattle.labelled_disk.specs.Lowest.{is_needed}
use Rattle.labelled_disk.specs.Layout.{IsCount, capacity, data_sectors, first_data, vam, vfm}
use Rattle.labelled_disk.specs.Root.{counter_of, page_in, root_page, serial_of}
use Rattle.labelled_disk.specs.Sectors.{AreSectors, Sector}
use Rattle.labelled_disk.specs.State.{DiskState}
use Rattle.labelled_disk.proofs.WriteLemmas.{get_drop}
use Rattle.alloc_map.specs.Bits.{is_used}
use Rattle.frame_pool.specs.Frames.{Frame, Slots}
use Rattle.swapper_kernel.specs.declared.manager.Manager.TheVariants.{AllocationMap}
use Rattle.swapper_kernel.specs.DiffersLaws.{label_here}
use Rattle.swapper_kernel.specs.FormLaws.{memory_in_form}
use Rattle.swapper_kernel.specs.Goes.{Change, Goes, IsDirty, Makes, Swaps, Went, no_page}
use Rattle.swapper_kernel.specs.GoesLaws.{goes_swapping, makes_then, makes_wider, same_syncs, swaps_itself, wrote_none}
use Rattle.labelled_disk.specs.declared.disk.DiskWrite.{DiskWrite}
use Rattle.swapper_kernel.specs.Homes.{AreNamed, IsLayout}
use Rattle.swapper_kernel.specs.Maps.{IsMapHome}
use Rattle.swapper_kernel.specs.Stands.{Stands, labels_of}
use Rattle.swapper_kernel.specs.Window.{Beside}
use Rattle.filer_kernel.specs.declared.cached.CachedRuns.{CachedRuns}
use Rattle.filer_kernel.specs.Cached.{runs_of}
use Rattle.filer_kernel.specs.Marks.{BitsAre, Marks, free_sectors}
use Rattle.filer_kernel.specs.View.{View}
use Rattle.file_map.specs.declared.run.Run.{Run}
use Rattle.label_laws.specs.Counts.{places}
use Rattle.label_laws.proofs.TakenLemmas.{taken_by_files}
use Rattle.label_calls.specs.Labels.{MayHaveWritten}
use Rattle.session_words.specs.FrameLaws.{HasFrames}
use Rattle.session_words.specs.Volume.{volume_page}
use Rattle.session_words.specs.OpenLaws.{CanOpen, FlagCleared}
use Rattle.session_words.specs.Parts.{HasRoot, is_marked, shapes_of}
use Rattle.session_words.proofs.SoundLemmas.{sound_laws}
use Rattle.volume_root.specs.declared.root.Root.{Root}
use Rattle.volume_root.specs.Flag.{FlagLaws, IsRefused, with_flag}
use Rattle.volume_root.specs.RootPage.{IsUnlessFault, IsValidRoot, Test, first_of, judged, root_in, root_write, tests}
use Rattle.volume_root.specs.Sound.{Sound}
use Rattle.volume_root.proofs.FlagLemmas.{flag_keeps_volume, sound_is_opened}
use Rattle.file_manager.specs.Book.{AreTrue, IsBookedUpto}
use Rattle.file_manager.specs.Making.{free_count}
use Rattle.file_manager.proofs.BookLemmas.{known_after}
use Rattle.file_manager.proofs.FreedRun.{map_brings}
use Rattle.file_manager.proofs.OpenedBooks.{opened_is_booked}
use Rattle.file_manager.proofs.RunStages.{all_counted, bits_shown, count_more, in_bits, maps_named, mark_is, marks_shown, there_is}
use Rattle.file_manager.proofs.UpLemmas.{count_same}
use Rattle.file_manager.specs.declared.volume.Volume.{Volume}
use Rattle.volume_pair.specs.Ends.{IsAccepted, IsBare, IsEarly, IsOutside, IsRightRefusal, IsStarted, IsWritten, IsWrittenOwn, in_use, pair_of}
use Rattle.volume_pair.specs.declared.fault.PairStart.{PairStart}
use Rattle.volume_pair.specs.declared.fault.PairStart.TheVariants as start
use Rattle.volume_pair.specs.Owned.{no_file}
use Rattle.volume_pair.specs.Pairs.{IsPaired}
use Rattle.volume_pair.specs.Sides.{AreClean, IsSide}
use Rattle.volume_pair.proofs.OwnedLemmas.{IsOfRoot, each_none, each_then, each_wider, own_each, write_wider}
use Rattle.volume_pair.proofs.SideLemmas.{is_booked}

-- ---- No frame is there.

-- empty slots have no frame
pub bare_slots : (n : ℕ) (slots : Slots) → slots ≡ replicate n None → IsBare slots
bare_slots n slots same i f has = none_there n i (sym (ap (λ (l : Slots). slice_get l i) same) ∙ has.is)
  where
    none_there : (n i : ℕ) → ◌≡◌ {A = Option (Option Frame)} (slice_get (replicate n None) i) (Some (Some f)) → ⊥
    none_there zero i e = none-some (Some f) e
    none_there (suc n) zero e = none-some f (same_Some None (Some f) e)
    none_there (suc n) (suc i) e = none_there n i e

-- where no frame is, the memory is what the disk reveals
pub bare_stands : (disk : DiskState) (slots : Slots) (d : List Sector) → IsBare slots → disk.contents ≡ Some d → Stands disk slots d
bare_stands disk slots d bare revealed = record {
  sectors = d;
  revealed = revealed;
  merged = record { labels = refl; frames = λ i f has. absurd (bare i f has); clean = λ k clean. refl };
}

pub bare_frames : (slots : Slots) → IsBare slots → HasFrames slots []
bare_frames slots bare = record { known = λ id page there. absurd (bare there.slot there.frame there.has) }

pub no_runs_true : (d : List Sector) (runs : List Run) → runs ≡ [] → AreTrue (labels_of d) runs
no_runs_true d runs none k r here = absurd (none-some r (ap (λ (l : List Run). slice_get l k) (sym none) ∙ here))

-- the root is written, and then is on the medium
pub goes_synced : (P : Change) (ws : List DiskWrite) {a b c : DiskState} {s t u : Slots} → Goes P no_page ws a s b s → Swaps b t c u → t ≡ s → u ≡ s → Goes P no_page ws a s c s
goes_synced P ws {a = a} {b = b} {c = c} {s = s} {t = t} {u = u} goes swaps before after =
    goes_swapping P no_page ws (swaps_itself a s) goes (subst (λ (v : Slots). Swaps b s c v) after (subst (λ (v : Slots). Swaps b v c u) before swaps))

-- the volume in use
pub made_in_use : (root : Root) {a b : DiskState} (slots : Slots) (d : List Sector) → IsBare slots → a.contents ≡ Some d → Goes (λ m n. n ≡ written (root_write root) m) no_page (root_write root ∷ []) a slots b slots
    → (n : List Sector) × Stands b slots n × (n ≡ written (root_write root) d)
made_in_use root {a = a} slots d bare revealed goes = goes.memory d (bare_stands a slots d bare revealed)

-- ---- The root that was read.

-- a number of sectors can hold a volume, or it can't
count_or_not : (n : ℕ) → IsCount n ⊎ (¬ IsCount n)
count_or_not n = either (nat_le 256 n) refl (nat_le n 1048576) refl
  where
    either : (p : Bool) → nat_le 256 n ≡ p → (q : Bool) → nat_le n 1048576 ≡ q → IsCount n ⊎ (¬ IsCount n)
    either true a true b = inl (leb-true 256 n a, leb-true n 1048576 b)
    either false a q b = inr (λ c. true≢false (sym (le-leb 256 n c.0) ∙ a))
    either true a false b = inr (λ c. true≢false (sym (le-leb n 1048576 c.1) ∙ b))

-- the disk failed, or the answer is the right one
unless : (why : RootFault) (right : Result Root RootFault) → IsUnlessFault (Err why) right → (why ≡ fault.Disk) ⊎ (◌≡◌ {A = Result Root RootFault} (Err why) right)
unless fault.Disk right is = inl refl
unless (fault.NotVolume x) right is = inr is
unless fault.Unclean right is = inr is
unless (fault.Version x) right is = inr is
unless (fault.BadCount x) right is = inr is

abbrev fault_in : Result Root RootFault → RootFault
fault_in (Ok r) = fault.Disk
fault_in (Err why) = why

module _ (d : List Sector) (n : ℕ) (long : length d ≡ n) (result : Result Root RootFault) (none : ¬ IsCount n → result ≡ Err (fault.BadCount n))
    (given : IsCount n → (s : Sector) → slice_get d 0 ≡ Some s → IsUnlessFault result (judged true (length d) s)) where
  -- what a volume is refused for is right
  pub right_so : (found : RootFault) → result ≡ Err found → (found ≡ fault.Disk) ⊎ IsRefused d found
  right_so found is = elim (count_or_not n) [
    | inl count ↦
        let first = there_is d 0 (let c = count.0 in omega (arith, long, c)) in
        let answer = subst (λ (r : Result Root RootFault). IsUnlessFault r (judged true (length d) first.0)) is (given count first.0 first.1) in
        elim (unless found (judged true (length d) first.0) answer) [
          | inl disk ↦ inl disk
          | inr right ↦ inr (inr (subst IsCount (sym long) count, first.0, first.1, sym right))
        ]
    | inr never ↦ inr (inl (subst (λ (m : ℕ). ¬ IsCount m) (sym long) never, ap fault_in (sym is ∙ none never) ∙ ap fault.BadCount (sym long)))
  ]

  -- a root that is read is the one that stands there
  pub root_there : (root : Root) → result ≡ Ok root → IsCount n → root ≡ root_in (root_page d)
  root_there root is count =
      let first = there_is d 0 (let c = count.0 in omega (arith, long, c)) in
      let answer : Ok root ≡ judged true (length d) first.0 = subst (λ (r : Result Root RootFault). IsUnlessFault r (judged true (length d) first.0)) is (given count first.0 first.1) in
      either first.0 root (first_of (tests true (length d) first.0.0 first.0.1)) answer ∙ ap (λ (o : Option Sector). root_in (page_in o)) (sym first.1)
    where
      either : (s : Sector) (root : Root) (t : Test) → Ok root ≡ option_map_or (λ (why : RootFault). Err why) t (Ok (root_in s.1)) → root ≡ root_in s.1
      either s root None e = cc e
      either s root (Some why) e = absurd (cc e)

  -- and the volume is not refused
  pub accepted_there : (root : Root) → result ≡ Ok root → IsCount n → IsAccepted d
  accepted_there root is count why refused =
      let first = there_is d 0 (let c = count.0 in omega (arith, long, c)) in
      let answer : Ok root ≡ judged true (length d) first.0 = subst (λ (r : Result Root RootFault). IsUnlessFault r (judged true (length d) first.0)) is (given count first.0 first.1) in
      either first.0 first.1 answer refused
    where
      either : (s : Sector) → slice_get d 0 ≡ Some s → Ok root ≡ judged true (length d) s → IsRefused d why → ⊥
      either s here answer (inl bad) = bad.0 (subst IsCount (sym long) count)
      either s here answer (inr (fits, t, at, other)) =
          let same : t ≡ s = same_Some t s (sym at ∙ here) in
          let both : ◌≡◌ {A = Result Root RootFault} (Ok root) (Err why) = answer ∙ ap (judged true (length d)) (sym same) ∙ other in
          absurd (cc both)

-- ---- As many data sectors are marked as the files have.

-- as many as sectors pass that have these numbers
placed : (p : ℕ → Bool) (test : ℕ → Sector → Bool) (i : ℕ) (xs : List Sector) → ((j : ℕ) (s : Sector) → slice_get xs j ≡ Some s → p (i + j) ≡ test (i + j) s)
    → count_by p (range_with_len i (length xs)) ≡ length (places test i xs)
placed p test i [] same = refl
placed p test i (x ∷ xs) same =
    let first : i + 0 ≡ i = omega arith in
    let rest = placed p test (i + 1) xs (λ j s here. (let next : i + 1 + j ≡ i + suc j = omega arith in ap p next ∙ same (suc j) s here ∙ ap (λ (n : ℕ). test n s) (sym next))) in
    count_more p i (range_with_len (i + 1) (length xs))
    ∙ ap (λ (b : Bool). cond b 1 0 + count_by p (range_with_len (i + 1) (length xs))) (ap p (sym first) ∙ same 0 x refl ∙ ap (λ (n : ℕ). test n x) first) ∙ step (test i x) rest
  where
    step : (b : Bool) → count_by p (range_with_len (i + 1) (length xs)) ≡ length (places test (i + 1) xs)
        → cond b 1 0 + count_by p (range_with_len (i + 1) (length xs)) ≡ length (if b then i ∷ places test (i + 1) xs else places test (i + 1) xs)
    step true rest = omega (arith, rest)
    step false rest = omega (arith, rest)

-- there is room beside what files may have
room_beside : (n : ℕ) → 256 ≤ n → (1 + vam n + vfm n + 96 ≤ n) × (capacity n ≡ n - (1 + vam n + vfm n) - 96)
room_beside n least = (omega (arith, least), omega arith)

module _ (layout : Layout) (is : IsLayout layout) (d x : List Sector) (o : CanOpen d) (c : FlagCleared d x) (long : length x ≡ layout.sectors) where
  marks_same : (i : ℕ) → is_marked x i ≡ is_marked d i
  marks_same i = ap (λ (o : Option Sector). is_used (page_in o) (i % 4096)) (c.others (1 + i / 4096) (λ e. omega (arith, e)))

  first_same : layout.first ≡ first_data (length d)
  unfolding first_data
  first_same = ap (λ (l : Layout). l.first) is.1 ∙ ap (λ (n : ℕ). 1 + vam n + vfm n) (sym long ∙ c.long)

  marked_by_files : count_by (is_marked x) (range_with_len layout.first (layout.sectors - layout.first)) ≡ total_room (files_on d)
  marked_by_files =
      let first : ℕ = first_data (length d) in
      let size : layout.sectors - layout.first ≡ length (data_sectors d) = (let a = first_same in let b = long in let l = c.long in let z : layout.sectors - layout.first ≡ length d - first_data (length d) = omega (arith, a, b, l) in z) ∙ sym (length-drop (first_data (length d)) d) in
      let label : (j : ℕ) (s : Sector) → slice_get (data_sectors d) j ≡ Some s → is_marked x (first_data (length d) + j) ≡ not (is_free s.0) = λ j s here. marks_same (first_data (length d) + j)
      ∙ o.bits.bits (first_data (length d) + j) s.0 (record { is_data = subst (λ (n : ℕ). first_data n ≤ first_data (length d) + j) (sym (length-map d (λ s. s.0))) (omega arith); here = label_here d (first_data (length d) + j) s (sym (get_drop (first_data (length d)) d j) ∙ here) }) in
      ap (λ (a : ℕ). count_by (is_marked x) (range_with_len a (layout.sectors - layout.first))) first_same
      ∙ ap (λ (n : ℕ). count_by (is_marked x) (range_with_len (first_data (length d)) n)) size
      ∙ placed (is_marked x) (λ n s. not (is_free s.0)) (first_data (length d)) (data_sectors d) label
      ∙ taken_by_files false d o.free_or_needed

  -- what is free and what files have are all data sectors
  pub free_and_files : total_room (files_on d) + free_count layout x ≡ layout.sectors - layout.first
  free_and_files =
      let all = all_counted (is_marked x) (range_with_len layout.first (layout.sectors - layout.first)) in
      let size = length-range_with_len layout.first (layout.sectors - layout.first) in
      let files = marked_by_files in
      omega (arith, all, size, files)

  pub parts : (layout.first + 96 ≤ layout.sectors) × (layout.capacity ≡ layout.sectors - layout.first - 96) × (total_room (files_on d) ≤ layout.capacity)
  parts =
      let r = room_beside layout.sectors is.0.0 in
      let beside = r.0 in
      let room = r.1 in
      let first : layout.first ≡ 1 + vam layout.sectors + vfm layout.sectors = ap (λ (l : Layout). l.first) is.1 in
      let most : layout.capacity ≡ capacity layout.sectors = ap (λ (l : Layout). l.capacity) is.1 in
      let fits : total_room (files_on d) ≤ capacity layout.sectors = subst (λ (n : ℕ). total_room (files_on d) ≤ capacity n) (sym c.long ∙ long) o.right.files.room in
      (omega (arith, beside, first), omega (arith, room, first, most), omega (arith, fits, most))

  -- the files have the data sectors that are not free
  pub used_by_files : (free used : ℕ) → free ≡ free_count layout x → used ≡ min ((layout.sectors - layout.first) - free) layout.capacity → used ≡ total_room (files_on d)
  used_by_files free used is_free is_used = let all = free_and_files in let p = parts in let e = p.2 in omega (arith, all, e, is_free, is_used)

-- ---- The volume in use.

module _ (d : List Sector) (sectors : AreSectors d) (sound : Sound d) (layout : Layout) (is_layout : IsLayout layout) (long : length d ≡ layout.sectors) (own : Root) (same_root : own ≡ root_in (root_page d))
    (slots : Slots) (bare : IsBare slots) (kept : CachedRuns) (no_runs : runs_of layout.sectors kept ≡ []) (d1 : DiskState) (in_form : (e : List Sector) → d1.contents ≡ Some e → AreSectors e)
    (made : (n : List Sector) × Stands d1 slots n × (n ≡ written (root_write (in_use own)) d)) where
  can_open : CanOpen d
  can_open = sound_laws.opens d sectors sound

  -- the volume with its flag cleared
  abbrev pub opened : List Sector
  opened = with_flag false d

  cleared : FlagCleared d opened
  cleared = sound_laws.cleared d can_open

  flags : FlagLaws d
  flags = flag_keeps_volume d sectors sound.labels.has_root

  pub opened_stands : Stands d1 slots opened
  opened_stands = subst (Stands d1 slots) (made.2 ∙ ap (λ (r : Root). written (root_write (in_use r)) d) same_root) made.1

  opened_long : length opened ≡ layout.sectors
  opened_long = cleared.long ∙ long

  opened_form : AreSectors opened
  opened_form = memory_in_form d1 slots opened opened_stands (in_form opened_stands.sectors opened_stands.revealed) (λ i f has. absurd (bare i f has))

  -- it can be opened still
  still_opens : CanOpen opened
  still_opens =
      let files = flags.files false in
      record {
        sectors = opened_form;
        right = flags.right false sound.labels;
        free_or_needed = subst (λ (all : List Sector). (i : ℕ) (s : Sector) → slice_get all i ≡ Some s → (is_free s.0 ≡ true) ⊎ (is_needed false all i ≡ true)) (sym (flags.same_data false)) sound.free_or_needed;
        bits = booked.bits;
        named = booked.named;
        map = booked.map;
        triples = booked.triples;
      }
    where
      booked : IsBookedUpto 0 layout [] (shapes_of (files_on d)) opened
      booked = opened_is_booked d opened can_open cleared layout [] opened_form opened_long (λ k r here. absurd (none-some r here))

  abbrev book : IsBookedUpto 0 layout (runs_of layout.sectors kept) (shapes_of (files_on opened)) opened
  book = is_booked opened still_opens layout (runs_of layout.sectors kept) opened_long (no_runs_true opened (runs_of layout.sectors kept) no_runs)

  -- its bits, as the filer finds them
  pub marks : Marks
  marks = marks_shown layout is_layout (runs_of layout.sectors kept) (shapes_of (files_on opened)) opened book

  pub bits : BitsAre layout marks opened
  unfolding marks
  bits = bits_shown layout is_layout (runs_of layout.sectors kept) (shapes_of (files_on opened)) opened book

  pub map_named : AreNamed opened (IsMapHome AllocationMap layout)
  map_named = maps_named layout is_layout (runs_of layout.sectors kept) (shapes_of (files_on opened)) opened book AllocationMap

  free_are : (free : ℕ) → free ≡ free_sectors layout marks → free ≡ free_count layout opened
  unfolding marks
  free_are free is =
      is ∙ count_same (λ k. not (marks k)) (λ k. not (is_marked opened k)) layout.first (layout.sectors - layout.first) (λ k above below.
      ap not (mark_is layout is_layout (runs_of layout.sectors kept) (shapes_of (files_on opened)) opened book k (in_bits layout is_layout (runs_of layout.sectors kept) (shapes_of (files_on opened)) opened book k (omega (arith, above, below)))))

  -- once the free sectors are counted, the volume is in use
  pub is_started : (w : View) → Beside AllocationMap d1 slots layout w.disk w.slots w.layout → Stands w.disk w.slots opened → w.runs ≡ kept → (volume : Volume) (free : ℕ) → free ≡ free_sectors layout marks
      → volume.used ≡ min ((layout.sectors - layout.first) - free) layout.capacity → IsStarted d w volume
  is_started w beside stands runs volume free counted is_used = record {
    side = record {
      stands = stands;
      long = opened_long ∙ ap (λ (l : Layout). l.sectors) (sym beside.layout);
      can_open = still_opens;
      files_are = flags.files false;
      frames = known_after slots w.slots [] (map_brings beside) (bare_frames slots bare);
      kept = no_runs_true opened (runs_of w.layout.sectors w.runs) ((λ i. runs_of (ap (λ (l : Layout). l.sectors) beside.layout i) (runs i)) ∙ no_runs);
    };
    root = cleared.root_open;
    used = used_by_files layout is_layout d opened can_open cleared opened_long free volume.used (free_are free counted) is_used;
  }

-- a closed volume that is looked at
pub first_side : (v : View) (d : List Sector) → AreSectors d → Sound d → length d ≡ v.layout.sectors → IsBare v.slots → runs_of v.layout.sectors v.runs ≡ [] → v.disk.contents ≡ Some d → IsSide v (files_on d) d
first_side v d sectors sound long bare no_runs revealed = record {
  stands = bare_stands v.disk v.slots d bare revealed;
  long = long;
  can_open = sound_laws.opens d sectors sound;
  files_are = refl;
  frames = bare_frames v.slots bare;
  kept = no_runs_true d (runs_of v.layout.sectors v.runs) no_runs;
}

-- both volumes stand for their lists
pub paired : (from to : View) (volume : Volume) (d e : List Sector) (root : Root) (layout : Layout) → IsSide from (files_on d) d → IsStarted e to volume → root ≡ root_in (root_page e) → volume.root ≡ in_use root → volume.layout ≡ layout → IsLayout layout → layout.sectors ≡ length e
    → IsPaired from to volume (pair_of d e)
paired from to volume d e root layout first started root_is now laid accepted long =
    let numbers : volume.root ≡ in_use (root_in (root_page e)) = now ∙ ap in_use root_is in
    let serial : volume.root.serial ≡ serial_of e = ap (λ (r : Root). r.serial) numbers in
    let counter : volume.root.counter ≡ counter_of e = ap (λ (r : Root). r.counter) numbers in
    let x = with_flag false e in
    record {
      first = d;
      second = x;
      from_is = first;
      to_is = started.side;
      root = subst (λ (n : ℕ). HasRoot (length x) (slice_get x 0) n volume.root.counter (capacity (length e))) (sym serial) (subst (λ (n : ℕ). HasRoot (length x) (slice_get x 0) (serial_of e) n (capacity (length e))) (sym counter) started.root);
      serial = sym serial;
      used = started.used;
      capacity = ap (λ (l : Layout). l.capacity) (laid ∙ accepted.1) ∙ ap capacity long;
    }

-- what is refused before the second volume is in use comes from a disk
pub outside_from : (d : List Sector) → AreSectors d → Sound d → (w : RootFault) → (w ≡ fault.Disk) ⊎ IsRefused d w → w ≡ fault.Disk
outside_from d sectors sound w (inl disk) = disk
outside_from d sectors sound w (inr refused) = absurd (sound_is_opened d sectors sound w refused)

-- ---- What was written.

pub root_own : {ws : List DiskWrite} (v w : View) → AllByRecursion IsOfRoot ws → Makes no_page ws v.disk v.slots w.disk v.slots → w.slots ≡ v.slots → IsWrittenOwn v w
root_own {ws = ws} v w of makes frames =
    let own = makes_wider volume_page (λ id page none. absurd none) (subst (λ (s : Slots). Makes no_page ws v.disk v.slots w.disk s) (sym frames) makes) in
    record { labels = ws; makes = own; own = own_each own.wrote of }

pub may_own : (v w : View) (root : Root) → MayHaveWritten (root_write root) v.disk v.slots w.disk → w.slots ≡ v.slots → IsWrittenOwn v w
may_own v w root (inl none) frames = root_own v w tt none frames
may_own v w root (inr made) frames = root_own v w (refl, tt) made frames

went_read : {a b : DiskState} → OnlyReads a b → Went a b
went_read {a = a} {b = b} h = record { sectors = h.sectors; lent = h.lent; syncs = same_syncs a b h.syncs; faults = h.faults; transfers = h.transfers }

-- nothing was written
pub reads_written : {n : ℕ} {a b : DiskState} → ReadsAtMost n a b → IsWritten [] a b
reads_written h =
    let same : RevealsSame _ _ = record { contents = h.only.contents; writes = h.only.writes } in
    record { labels = []; went = went_read h.only; wrote = wrote_none volume_page [] same; own = each_none same }

-- or what was written after that, where no frame was there
pub read_then : {n : ℕ} {a : DiskState} (v w : View) → ReadsAtMost n a v.disk → IsBare v.slots → IsWrittenOwn v w → IsWritten [] a w.disk
read_then {a = a} v w reads bare own = record {
  labels = own.labels;
  went = all.went;
  wrote = record {
    writes = all.wrote.writes;
    appended = all.wrote.appended;
    form = all.wrote.form;
    permitted = all.wrote.permitted;
    labels = all.wrote.labels;
    of_dirty = λ k sector wanted bytes at. elim (all.wrote.of_dirty k sector wanted bytes at) [ inl was ↦ absurd (bare was.slot was.frame was.has) | inr page ↦ inr page ];
  };
  own = each_then (each_none (record { contents = reads.only.contents; writes = reads.only.writes }))
      (each_wider (write_wider (IsDirty v.slots) (IsDirty []) no_file no_file (λ id page is. absurd (bare is.slot is.frame is.has)) (λ id none. none)) own.own);
}
  where
    first : Makes volume_page [] a v.slots v.disk v.slots
    first = record { went = went_read reads.only; dirty = λ id page is. inl is; wrote = wrote_none volume_page v.slots (record { contents = reads.only.contents; writes = reads.only.writes }); count = refl }

    all : Makes volume_page own.labels a v.slots w.disk w.slots
    all = makes_then first own.makes

-- ---- Why no pair starts.

pub early_outside : (d e : List Sector) → AreSectors d → AreSectors e → Sound d → Sound e → (f : PairStart) → IsEarly f → IsRightRefusal d e f → IsOutside f
early_outside d e first second sound also (start.From w) early right = outside_from d first sound w right
early_outside d e first second sound also (start.To w) early right = outside_from e second also w right
early_outside d e first second sound also start.NoMemory early right = tt
early_outside d e first second sound also (start.Halt h) early right = absurd early

pub bare_clean : (slots : Slots) → IsBare slots → AreClean slots
bare_clean slots bare id page dirty = bare dirty.slot dirty.frame dirty.has

pub in_use_valid : (n : ℕ) (r : Root) → IsValidRoot n r → IsValidRoot n (in_use r)
in_use_valid n r valid = record { version = valid.version; accepted = valid.accepted; count = valid.count; serial = valid.serial; counter = valid.counter }
