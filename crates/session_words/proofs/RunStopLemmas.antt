-- In each crash state of a call that writes labels, the disk reveals the settled files of a machine.
use Rattle.std.proofs.Common.{◌≡◌, ◌≢◌, ℕ, zero, suc, ◌+◌, ◌≤◌, Bool, true, false, not, List, [], ◌∷◌, length, Option, Some, None, refl, sym, ◌∙◌, ap, subst, arith}
use Rattle.std.specs.Prelude.{slice_get, option_map, nat_lt, nat_le, ◌==◌, if◌then◌else◌}
use Rattle.std.specs.Option.{option_map_or}
use Rattle.std.specs.List.{AllByRecursion}
use Rattle.std.proofs.lemmas.Option.{none-some, same_Some}
use Rattle.std.proofs.lemmas.Bool.{and_parts, eq-eqb, ne_eqb}
use Rattle.labelled_disk.specs.declared.label.Label.{Label}
use Rattle.labelled_disk.specs.declared.disk.DiskWrite.{DiskWrite}
use Rattle.labelled_disk.specs.declared.disk.DiskWrite.TheVariants.{LabelOnly}
use Rattle.labelled_disk.specs.Layout.{first_data}
use Rattle.labelled_disk.specs.Sectors.{Sector}
use Rattle.labelled_disk.specs.CrashState.{crash_state, written}
use Rattle.labelled_disk.specs.State.{DiskState}
use Rattle.labelled_disk.specs.File.{File, file_at, size, total_room}
use Rattle.labelled_disk.specs.FilesOn.{disk_file, files_among, files_on, is_page, leads_file}
use Rattle.labelled_disk.specs.Right.{FilesRight}
use Rattle.labelled_disk.specs.Ascending.{AreAscending, BothBy}
use Rattle.labelled_disk.specs.Root.{LabelsRight, serial_of, counter_of}
use Rattle.labelled_disk.specs.Runs.{growth, freeing, sector_of, AreUnused, IsAt, ArePagesDown, ArePagesUp, lengthened, shortened}
use Rattle.labelled_disk.specs.WriteLaws.{HasData, Changed}
use Rattle.labelled_disk.specs.RootLaws.{StaysRight}
use Rattle.labelled_disk.specs.Label.{is_file}
use Rattle.labelled_disk.proofs.RunLemmas as run
use Rattle.labelled_disk.proofs.SectorWrites as w
use Rattle.labelled_disk.proofs.WriteLemmas as laws
use Rattle.labelled_disk.proofs.AscendingLemmas.{at_id, each_at, same_by_look_up}
use Rattle.frame_pool.specs.Frames.{Slots}
use Rattle.flat_machine.specs.declared.space.FilePage.{FilePage}
use Rattle.flat_machine.specs.Machine.{Machine, IsFileId, used}
use Rattle.flat_machine.specs.Next.{change_file, without_file}
use Rattle.flat_machine.specs.Settled.{Agrees, settled}
use Rattle.flat_machine.proofs.FileLemmas.{look_up_changed, one_id, changed_here, unchanged}
use Rattle.flat_machine.proofs.Lists.{ascending_map, ascending_filter}
use Rattle.label_laws.specs.Marks.{permanent_label, immutable_label}
use Rattle.label_laws.specs.Shape as shapes
use Rattle.label_laws.specs.MixedVolumes.{label_count}
use Rattle.label_laws.proofs.PermittedLemmas.{crash_states_are_sectors}
use Rattle.label_laws.proofs.MarkLemmas.{marks_of_files}
use Rattle.label_laws.proofs.PageLemmas.{pages_by_sectors}
use Rattle.label_laws.proofs.ShapeLemmas.{labels_give_shape, same_by_pages}
use Rattle.label_laws.proofs.PermanentLemmas.{permanent_right}
use Rattle.swapper_kernel.specs.Goes.{Wrote}
use Rattle.session_words.specs.Volume.{volume_page}
use Rattle.swapper_kernel.specs.Differs.{Differs}
use Rattle.session_words.specs.Parts.{DirtyAreLoose, Shape, is_loose_at}
use Rattle.session_words.specs.StandsFor.{RevealsSettled}
use Rattle.session_words.specs.RunStops.{Begins, with_change, deleted_after, changed_after, RunStops}
use Rattle.session_words.proofs.FoundLemmas.{above_reserved, file_id_of}
use Rattle.session_words.proofs.FilesLemmas.{at_without}
use Rattle.session_words.proofs.SettledLemmas.{Reveals, both, right_all, zipped, same_rooms, settled_is_revealed}
use Rattle.session_words.proofs.StandLemmas.{Stands, AllStand, changed_stand, settled_stand, settled_any, settled_ascending, revealed_but_loose, lengthened_stands, shortened_stands, permanent_stands, immutable_stands}
use Rattle.session_words.proofs.CrashStateLemmas.{crash_states_are_like, few_labels}
use Rattle.session_words.proofs.StopLemmas.{loose_agree, loose_right}

growth_long : (id kind page : ℕ) (is : List ℕ) → length (growth id kind page is) ≡ length is
growth_long id kind page [] = refl
growth_long id kind page (i ∷ is) = ap suc (growth_long id kind (page + 1) is)

freeing_long : (is : List ℕ) → length (freeing is) ≡ length is
freeing_long [] = refl
freeing_long (i ∷ is) = ap suc (freeing_long is)

-- the writes are on data sectors
unused_data : (d : List Sector) (id kind page : ℕ) (is : List ℕ) → AreUnused d is → AllByRecursion (λ one. first_data (length d) ≤ sector_of one) (growth id kind page is)
unused_data d id kind page [] unused = tt
unused_data d id kind page (i ∷ is) unused = (unused.0.there.is_data, unused_data d id kind (page + 1) is unused.2)

down_data : (d : List Sector) (id n : ℕ) (is : List ℕ) → ArePagesDown d id n is → AllByRecursion (λ one. first_data (length d) ≤ sector_of one) (freeing is)
down_data d id n [] pages = tt
down_data d id zero (i ∷ is) pages = absurd pages
down_data d id (suc n) (i ∷ is) pages = (pages.0.there.is_data, down_data d id n is pages.1)

up_data : (d : List Sector) (id n : ℕ) (is : List ℕ) → ArePagesUp d id n is → AllByRecursion (λ one. first_data (length d) ≤ sector_of one) (freeing is)
up_data d id n [] pages = tt
up_data d id n (i ∷ is) pages = (pages.1.there.is_data, up_data d id (n + 1) is pages.2)

-- A call that began on a settled disk.
module _ (m : Machine) (order : List DiskWrite) (old new : DiskState) (before : Slots) (d : List Sector) (wrote : Wrote volume_page order old before new) (b : Begins before old d m) where
  -- the labels are right for all files
  right_here : FilesRight true (serial_of d) (counter_of d) d
  right_here =
      subst (λ (s : ℕ). FilesRight true s (counter_of d) d) (sym b.settled_disk.root.has_serial)
      (subst (λ (c : ℕ). FilesRight true m.serial c d) (sym b.settled_disk.root.has_counter) (right_all d m b.settled_disk))

  labels_here : LabelsRight d
  labels_here = (settled_is_revealed d m b.settled_disk).right

  high : (id : ℕ) (f : File) → file_at m.files id ≡ Some f → 16 ≤ id
  high id f found = let given = (each_at (λ w. IsFileId m.serial m.counter w.id) m.files b.settled_disk.machine.ids_given id f found).above_reserved in omega (arith, given, at_id m.files id f found)

  -- the file on the disk
  on_disk : (id : ℕ) (f : File) → file_at m.files id ≡ Some f → (g : File) × (disk_file true d id ≡ Some g) × Reveals d m b.settled_disk g f
  on_disk id f found = by (disk_file true d id) refl (subst (λ (o : Option File). BothBy (Reveals d m b.settled_disk) (disk_file true d id) o) found (both d m b.settled_disk id))
    where
      by : (o : Option File) → disk_file true d id ≡ o → BothBy (Reveals d m b.settled_disk) o (Some f) → (g : File) × (disk_file true d id ≡ Some g) × Reveals d m b.settled_disk g f
      by None e h = absurd h
      by (Some g) e h = (g, e, h)

  stands_here : (id : ℕ) (f g : File) → file_at m.files id ≡ Some f → disk_file true d id ≡ Some g → Stands m.unforced g f
  stands_here id f g found there =
      subst (λ (o : Option File). BothBy (Stands m.unforced) (Some g) o) found
      (subst (λ (o : Option File). BothBy (Stands m.unforced) o (file_at m.files id)) there (settled_stand d m b.settled_disk id))

  room_here : total_room (files_among true d) ≡ used m
  room_here = same_rooms (Reveals d m b.settled_disk) (λ f g t. ap (λ (s : Shape). s.size) t.same_shape) (files_among true d) m.files (zipped d m b.settled_disk)

  -- in a crash state that differs from one of the order's in loose pages alone
  at_crash_state : (e : List Sector) (later : Machine) (k : ℕ) → crash_state d order (label_count wrote.writes k) ≡ e → later.unforced ≡ m.unforced → FilesRight true (serial_of d) (counter_of d) e → LabelsRight e → AreAscending later.files
      → ((id : ℕ) (f : File) → file_at later.files id ≡ Some f → 16 ≤ id) → AllStand later.unforced e later.files → RevealsSettled (crash_state d wrote.writes k) later
  at_crash_state e later k is same right labels rise above all =
      revealed_but_loose (serial_of d) (counter_of d) e (crash_state d wrote.writes k) later right labels rise above all
      (subst (λ (u : List FilePage). Differs (is_loose_at u) e (crash_state d wrote.writes k)) (sym same)
      (subst (λ (x : List Sector). Differs (is_loose_at m.unforced) x (crash_state d wrote.writes k)) is (crash_states_are_like m.unforced order old new before d wrote b.dirty b.revealed k)))
      (crash_states_are_sectors d wrote.writes k b.settled_disk.sectors wrote.form)

  -- after a change of one file, on the disk and in the machine
  after_change : (id : ℕ) (f : File) (c : File → File) (k : ℕ) (g : File) → ((w : File) → (c w).id ≡ w.id) → file_at m.files id ≡ Some f → AllByRecursion (λ one. first_data (length d) ≤ sector_of one) order
      → Changed true (serial_of d) (counter_of d) d (crash_state d order (label_count wrote.writes k)) id (Some g) → Stands m.unforced g (c f)
      → RevealsSettled (crash_state d wrote.writes k) (with_change id c m)
  after_change id f c k g ids found low changed stands =
      at_crash_state (crash_state d order (label_count wrote.writes k)) (with_change id c m) k refl refl changed.right
      (run.data_runs false d order (label_count wrote.writes k) labels_here low (permanent_right (serial_of d) (counter_of d) (crash_state d order (label_count wrote.writes k)) changed.right))
      (ascending_map (λ w. w.id) (λ w. if w.id == id then c w else w) (one_id id c ids) m.files b.settled_disk.machine.ids_rise)
      (λ i w at. above i w (file_at m.files i) refl (sym (look_up_changed (λ w. if w.id == id then c w else w) (one_id id c ids) m.files i) ∙ at))
      (changed_stand m.unforced (serial_of d) (counter_of d) d (crash_state d order (label_count wrote.writes k)) m.files (change_file id c m.files) id (Some g) (settled_stand d m b.settled_disk) changed
      (λ other apart. look_up_changed (λ w. if w.id == id then c w else w) (one_id id c ids) m.files other ∙ others other apart (file_at m.files other) refl)
      (subst (λ (o : Option File). BothBy (Stands m.unforced) (Some g) o) (sym here) stands))
    where
      here : file_at (change_file id c m.files) id ≡ Some (c f)
      here =
          look_up_changed (λ w. if w.id == id then c w else w) (one_id id c ids) m.files id ∙ ap (option_map (λ w. if w.id == id then c w else w)) found
          ∙ ap (λ (w : File). Some w) (changed_here id c f (at_id m.files id f found))

      others : (i : ℕ) → i ≢ id → (o : Option File) → file_at m.files i ≡ o → option_map (λ w. if w.id == id then c w else w) o ≡ o
      others i apart None e = refl
      others i apart (Some w) e = ap (λ (v : File). Some v) (unchanged id c w (λ q. apart (sym (at_id m.files i w e) ∙ q)))

      above : (i : ℕ) (w : File) (o : Option File) → file_at m.files i ≡ o → option_map (λ w. if w.id == id then c w else w) o ≡ Some w → 16 ≤ i
      above i w None e is = absurd (none-some w is)
      above i w (Some v) e is = high i v e

  -- where no label was written yet
  at_start : (k : ℕ) → label_count wrote.writes k ≡ 0 → RevealsSettled (crash_state d wrote.writes k) m
  at_start k none =
      at_crash_state d m k (ap (crash_state d order) none) refl right_here labels_here b.settled_disk.machine.ids_rise high (settled_stand d m b.settled_disk)

  after_deletion : (id j k : ℕ) → label_count wrote.writes k ≡ suc j → AllByRecursion (λ one. first_data (length d) ≤ sector_of one) order
      → Changed true (serial_of d) (counter_of d) d (crash_state d order (suc j)) id None → RevealsSettled (crash_state d wrote.writes k) (record m { files = without_file id m.files })
  after_deletion id j k count low changed =
      at_crash_state (crash_state d order (suc j)) (record m { files = without_file id m.files }) k (ap (crash_state d order) count) refl changed.right
      (run.data_runs false d order (suc j) labels_here low (permanent_right (serial_of d) (counter_of d) (crash_state d order (suc j)) changed.right))
      (ascending_filter (λ f. f.id) (λ f. not (f.id == id)) m.files b.settled_disk.machine.ids_rise)
      (λ i w at. above i w (i == id) (sym (at_without id m.files i) ∙ at))
      (changed_stand m.unforced (serial_of d) (counter_of d) d (crash_state d order (suc j)) m.files (without_file id m.files) id None (settled_stand d m b.settled_disk) changed
      (λ other apart. at_without id m.files other ∙ ap (λ (x : Bool). if x then None else file_at m.files other) (ne_eqb other id apart))
      (subst (λ (o : Option File). BothBy (Stands m.unforced) None o) (sym (at_without id m.files id ∙ ap (λ (x : Bool). if x then None else file_at m.files id) (eq-eqb id id refl))) tt))
    where
      above : (i : ℕ) (w : File) (x : Bool) → (if x then None else file_at m.files i) ≡ Some w → 16 ≤ i
      above i w true is = absurd (none-some w is)
      above i w false is = high i w is

-- a file is deleted
delete_stop : (m : Machine) (id leader : ℕ) (f : File) (is : List ℕ) (old new : DiskState) (before : Slots) (d : List Sector) (wrote : Wrote volume_page (freeing (leader ∷ is)) old before new) → Begins before old d m
    → file_at m.files id ≡ Some f → IsAt (leads_file true id) d leader → ArePagesUp d id 0 is → (k n : ℕ) → label_count wrote.writes k ≡ n → RevealsSettled (crash_state d wrote.writes k) (deleted_after id n m)
delete_stop m id leader f is old new before d wrote b found led pages k zero count = at_start m (freeing (leader ∷ is)) old new before d wrote b k count
delete_stop m id leader f is old new before d wrote b found led pages k (suc j) count =
    let g = on_disk m (freeing (leader ∷ is)) old new before d wrote b id f found in
    let few = few_labels (freeing (leader ∷ is)) old new before wrote k in
    after_deletion m (freeing (leader ∷ is)) old new before d wrote b id j k count (led.there.is_data, up_data d id 0 is pages)
    (run.deletion_crash_states true (serial_of d) (counter_of d) d id leader g.0 is (right_here m (freeing (leader ∷ is)) old new before d wrote b) g.1 led pages j (omega (arith, few, count, freeing_long is)))

-- a leader is marked
mark_stop : (m : Machine) (id leader : ℕ) (f : File) (s : Sector) (mark : Label) (c : File → File) (old new : DiskState) (before : Slots) (d : List Sector) (wrote : Wrote volume_page (LabelOnly leader mark ∷ []) old before new) → Begins before old d m
    → ((w : File) → (c w).id ≡ w.id) → ((g : File) → Stands m.unforced g f → Stands m.unforced (c g) (c f)) → file_at m.files id ≡ Some f → HasData d leader s
    → ((g : File) → disk_file true d id ≡ Some g → Changed true (serial_of d) (counter_of d) d (written (LabelOnly leader mark) d) id (Some (c g)))
    → (k n : ℕ) → label_count wrote.writes k ≡ n → RevealsSettled (crash_state d wrote.writes k) (changed_after id c n m)
mark_stop m id leader f s mark c old new before d wrote b ids stands found there changed k zero count = at_start m (LabelOnly leader mark ∷ []) old new before d wrote b k count
mark_stop m id leader f s mark c old new before d wrote b ids stands found there changed k (suc j) count =
    let g = on_disk m (LabelOnly leader mark ∷ []) old new before d wrote b id f found in
    let few = few_labels (LabelOnly leader mark ∷ []) old new before wrote k in
    let single : label_count wrote.writes k ≡ 1 = omega (arith, few, count) in
    after_change m (LabelOnly leader mark ∷ []) old new before d wrote b id f c k (c g.0) ids found (there.is_data, tt)
    (subst (λ (n : ℕ). Changed true (serial_of d) (counter_of d) d (crash_state d (LabelOnly leader mark ∷ []) n) id (Some (c g.0))) (sym single) (changed g.0 g.1))
    (stands g.0 (stands_here m (LabelOnly leader mark ∷ []) old new before d wrote b id f g.0 found g.1))

-- label writes that keep the permanent files
quiet_stop : (m : Machine) (order : List DiskWrite) (old new : DiskState) (before : Slots) (d : List Sector) (wrote : Wrote volume_page order old before new) → Begins before old d m
    → ((k : ℕ) → k ≤ length order → StaysRight false d (crash_state d order k)) → (k : ℕ) → RevealsSettled (crash_state d wrote.writes k) m
quiet_stop m order old new before d wrote b stays k =
    let kept = stays (label_count wrote.writes k) (few_labels order old new before wrote k) in
    let differs = crash_states_are_like m.unforced order old new before d wrote b.dirty b.revealed k in
    record {
      agrees = loose_agree m.unforced (crash_state d order (label_count wrote.writes k)) (crash_state d wrote.writes k) (settled m) differs (crash_states_are_sectors d wrote.writes k b.settled_disk.sectors wrote.form)
          (settled_ascending m.unforced m.files b.settled_disk.machine.ids_rise)
          (settled_any m.unforced m.files b.settled_disk.machine.ids_rise (λ id f found. high m order old new before d wrote b id f found))
          (subst (λ (fs : List File). Agrees fs (settled m)) (sym kept.files) (settled_is_revealed d m b.settled_disk).agrees);
      right = loose_right m.unforced (crash_state d order (label_count wrote.writes k)) (crash_state d wrote.writes k) differs kept.right;
    }

-- where no page of a file is loose, the files are the same
files_same : (d e : List Sector) → Differs (is_loose_at []) d e → files_on e ≡ files_on d
files_same d e differs =
    same_by_look_up (files_on e) (files_on d) (laws.files_on_rise false 0 0 e) (laws.files_on_rise false 0 0 d)
    (λ id. laws.look_up false 0 0 e id ∙ either id (disk_file false e id) refl (disk_file false d id) refl ((labels_give_shape false d e differs.labels).shapes id) ∙ sym (laws.look_up false 0 0 d id))
  where
    firm : (id p i : ℕ) (s : Sector) → is_page id p s ≡ true → is_loose_at [] i s.0 ≡ false
    firm id p i s is =
        let file = (and_parts (is_file s.0) (s.0.id == id) (w.page_of false id p s is)).0 in
        let above = above_reserved s.0.id (file_id_of s.0 file) in
        let a : nat_lt s.0.id 4 ≡ false = grind arith in
        let b : nat_le 16 s.0.id ≡ true = grind arith in
        rw (a, b) refl

    either : (id : ℕ) (o : Option File) → disk_file false e id ≡ o → (q : Option File) → disk_file false d id ≡ q → option_map shapes.bare_file o ≡ option_map shapes.bare_file q → o ≡ q
    either id None a None b same = refl
    either id None a (Some f) b same = absurd (none-some (shapes.bare_file f) same)
    either id (Some g) a None b same = absurd (none-some (shapes.bare_file g) (sym same))
    either id (Some g) a (Some f) b same =
        ap (λ (x : File). Some x)
        (same_by_pages f g (same_Some (shapes.bare_file g) (shapes.bare_file f) same)
        (λ p low. sym (ap (λ (o : Option File). option_map_or (λ (x : File). slice_get x.pages p) o None) a)
        ∙ pages_by_sectors false d e id p differs.labels (λ i s there is. differs.pages i s there.here (firm id p i s is))
        ∙ ap (λ (o : Option File). option_map_or (λ (x : File). slice_get x.pages p) o None) b))

start_stop : (order : List DiskWrite) (old new : DiskState) (before : Slots) (d : List Sector) (wrote : Wrote volume_page order old before new) → DirtyAreLoose before [] → old.contents ≡ Some d
    → ((k : ℕ) → k ≤ length order → StaysRight false d (crash_state d order k)) → (k : ℕ) → StaysRight false d (crash_state d wrote.writes k)
start_stop order old new before d wrote dirty revealed stays k =
    let kept = stays (label_count wrote.writes k) (few_labels order old new before wrote k) in
    let differs = crash_states_are_like [] order old new before d wrote dirty revealed k in
    record {
      files = files_same (crash_state d order (label_count wrote.writes k)) (crash_state d wrote.writes k) differs ∙ kept.files;
      right = loose_right [] (crash_state d order (label_count wrote.writes k)) (crash_state d wrote.writes k) differs kept.right;
    }

pub run_stops : RunStops
run_stops = record {
  growth_stops = λ m id f is old new before d wrote b found unused room k.
      let order = growth id f.kind (size f) is in
      let g = on_disk m order old new before d wrote b id f found in
      let few = few_labels order old new before wrote k in
      let sizes : size f ≡ size g.0 = ap (λ (s : Shape). s.size) (sym g.2.same_shape) in
      let rooms = room_here m order old new before d wrote b in
      after_change m order old new before d wrote b id f (lengthened (label_count wrote.writes k)) k (lengthened (label_count wrote.writes k) g.0) (λ w. refl) found (unused_data d id f.kind (size f) is unused)
      (subst (λ (n : ℕ). Changed true (serial_of d) (counter_of d) d (crash_state d (growth id f.kind n is) (label_count wrote.writes k)) id (Some (lengthened (label_count wrote.writes k) g.0))) (sym sizes)
      (run.growth_crash_states true (serial_of d) (counter_of d) d id f.kind g.0 is (right_here m order old new before d wrote b) g.1 unused (omega (arith, room, rooms, b.settled_disk.root.has_room)) (label_count wrote.writes k)
      (omega (arith, few, growth_long id f.kind (size f) is))))
      (lengthened_stands m.unforced (label_count wrote.writes k) g.0 f (stands_here m order old new before d wrote b id f g.0 found g.1));
  shrinking_stops = λ m id f is old new before d wrote b found pages k.
      let order = freeing is in
      let g = on_disk m order old new before d wrote b id f found in
      let few = few_labels order old new before wrote k in
      let sizes : size f ≡ size g.0 = ap (λ (s : Shape). s.size) (sym g.2.same_shape) in
      after_change m order old new before d wrote b id f (shortened (label_count wrote.writes k)) k (shortened (label_count wrote.writes k) g.0) (λ w. refl) found (down_data d id (size f) is pages)
      (run.shrinking_crash_states true (serial_of d) (counter_of d) d id g.0 is (right_here m order old new before d wrote b) g.1 (subst (λ (n : ℕ). ArePagesDown d id n is) sizes pages) (label_count wrote.writes k)
      (omega (arith, few, freeing_long is)))
      (shortened_stands m.unforced (label_count wrote.writes k) g.0 f (stands_here m order old new before d wrote b id f g.0 found g.1));
  deletion_stops = λ m id leader f is old new before d wrote b found led pages k. delete_stop m id leader f is old new before d wrote b found led pages k (label_count wrote.writes k) refl;
  permanent_stops = λ m id leader f s old new before d wrote b found there led k.
      mark_stop m id leader f s (permanent_label s.0) (λ f. record f { permanent = true }) old new before d wrote b (λ w. refl) (λ g h. permanent_stands m.unforced g f h) found there
      (λ g is. (marks_of_files true (serial_of d) (counter_of d) d leader s id g (right_here m (LabelOnly leader (permanent_label s.0) ∷ []) old new before d wrote b) there led is).permanent)
      k (label_count wrote.writes k) refl;
  immutable_stops = λ m id leader f s old new before d wrote b found there led k.
      mark_stop m id leader f s (immutable_label s.0) (λ f. record f { immutable = true }) old new before d wrote b (λ w. refl) (λ g h. immutable_stands m.unforced g f h) found there
      (λ g is. (marks_of_files true (serial_of d) (counter_of d) d leader s id g (right_here m (LabelOnly leader (immutable_label s.0) ∷ []) old new before d wrote b) there led is).immutable)
      k (label_count wrote.writes k) refl;
  quiet_stops = quiet_stop;
  start_stops = start_stop;
}
