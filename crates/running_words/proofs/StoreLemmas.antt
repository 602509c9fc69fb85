-- Each crash state of a store reveals the settled files of the machine after it: the cells of the pages that it touches are any in these.
use Rattle.std.proofs.Common.{◌≡◌, ◌≢◌, inl, inr, ℕ, zero, suc, ◌+◌, ◌/◌, ◌%◌, ◌<◌, ◌≤◌, Bool, true, false, List, [], ◌∷◌, length, Option, Some, None, refl, sym, ◌∙◌, ap, subst, arith}
use Rattle.std.specs.Prelude.{slice_get, slice_set, slice_index_or, option_map, ◌==◌, if◌then◌else◌}
use Rattle.std.specs.Option.{option_map_or}
use Rattle.std.proofs.lemmas.Bool.{eqb-true, true≢false}
use Rattle.std.proofs.lemmas.Option.{none-some, same_Some}
use Rattle.labelled_disk.specs.declared.disk.DiskWrite.{DiskWrite}
use Rattle.labelled_disk.specs.declared.disk.DiskWrite.TheVariants as write
use Rattle.labelled_disk.specs.declared.label.Wanted.{Wanted}
use Rattle.labelled_disk.specs.File.{File, Page, byte, file_at}
use Rattle.labelled_disk.specs.CrashState.{crash_state}
use Rattle.labelled_disk.specs.Sectors.{Sector}
use Rattle.labelled_disk.proofs.Finds.{get_set_other}
use Rattle.labelled_disk.proofs.AscendingLemmas.{at_id}
use Rattle.frame_pool.specs.Frames.{Frame, Slots}
use Rattle.flat_machine.specs.declared.call.Call.TheVariants.{Store}
use Rattle.flat_machine.specs.declared.space.FilePage.{FilePage}
use Rattle.flat_machine.specs.declared.space.Space.{Space}
use Rattle.flat_machine.specs.At.{Spot, pages_of, shown_at}
use Rattle.flat_machine.specs.Form.{IsTyped}
use Rattle.flat_machine.specs.IsMachine.{IsMachine}
use Rattle.flat_machine.specs.Laws.{IsOneOf}
use Rattle.flat_machine.specs.Machine.{Machine}
use Rattle.flat_machine.specs.Next.{change, change_file, store_byte, store_bytes, with_byte}
use Rattle.flat_machine.specs.Refusal.{refusal}
use Rattle.flat_machine.specs.Settled.{is_unforced}
use Rattle.flat_machine.proofs.FileLemmas.{one_id}
use Rattle.flat_machine.proofs.NextLemmas.{next_keeps_machine}
use Rattle.flat_machine.proofs.StoreLemmas.{unrefused}
use Rattle.flat_machine.proofs.UnitLemmas.{reference_touches}
use Rattle.swapper_kernel.specs.Goes.{IsDirty, Makes, Wrote}
use Rattle.swapper_kernel.specs.Homes.{home_at}
use Rattle.swapper_kernel.specs.Stands.{labels_of}
use Rattle.session_words.specs.CellLaws.{IsTouchedOrOwn}
use Rattle.session_words.specs.Parts.{DirtyAreLoose, HasLabelsUpto, Shapes, is_loose}
use Rattle.session_words.specs.StandsFor.{IsSettled, RevealsSettled}
use Rattle.session_words.specs.Volume.{volume_page}
use Rattle.session_words.proofs.LooseLemmas.{stands_is_settled, volume_loose}
use Rattle.session_words.proofs.ShapeLemmas.{changed_from, stored_shapes}
use Rattle.session_words.proofs.UnforcedLemmas.{loose_more, loose_unforced, pages_stay, pages_there, shown_high}
use Rattle.swap_units.specs.declared.interval.Interval.{Interval}
use Rattle.file_manager.specs.declared.volume.Volume.{Volume}
use Rattle.filer_kernel.specs.View.{View}
use Rattle.running_words.specs.Running.{IsRunning, exactly}
use Rattle.running_words.specs.Session.{AreInForm}
use Rattle.running_words.specs.Stages.{Passes}
use Rattle.running_words.proofs.FlagLemmas.{flag_open}
use Rattle.running_words.proofs.RootLemmas.{numbers_stay}
use Rattle.running_words.proofs.StageLemmas.{quiet_at}

-- ---- A page that no address shows keeps its cells.

-- the page of a file before a change of a byte
record PageBefore (files : List File) (id page : ℕ) (p : Page) : Type 0 where
  pub was : File
  pub found : file_at files id ≡ Some was
  pub here : slice_get was.pages page ≡ Some p

byte_before : (files : List File) (spot : Spot) (b id page : ℕ) (f : File) (p : Page) → (spot.file ≡ id → page ≢ spot.page) → file_at (change_file spot.file (with_byte spot b) files) id ≡ Some f
    → slice_get f.pages page ≡ Some p → PageBefore files id page p
byte_before files spot b id page f p apart found here =
    let was = changed_from (λ g. if g.id == spot.file then with_byte spot b g else g) (one_id spot.file (with_byte spot b) (λ g. refl)) files id f found in
    record { was = was.0; found = was.1; here = by was.0 (at_id files id was.0 was.1) (was.0.id == spot.file) refl (ap (λ (g : File). slice_get g.pages page) (sym was.2) ∙ here) }
  where
    by : (g : File) → g.id ≡ id → (same : Bool) → (g.id == spot.file) ≡ same → slice_get (if g.id == spot.file then with_byte spot b g else g).pages page ≡ Some p → slice_get g.pages page ≡ Some p
    by g own true e now =
        let same : spot.file ≡ id = sym (eqb-true g.id spot.file e) ∙ own in
        let stored : slice_get (slice_set g.pages spot.page (slice_set (slice_index_or g.pages spot.page []) spot.offset (byte b))) page ≡ Some p =
        ap (λ (t : Bool). slice_get (if t then with_byte spot b g else g).pages page) (sym e) ∙ now in
        sym (get_set_other g.pages spot.page page _ (apart same)) ∙ stored
    by g own false e now = ap (λ (t : Bool). slice_get (if t then with_byte spot b g else g).pages page) (sym e) ∙ now

module _ (spaces : List Space) (id page : ℕ) (p : Page) where
  one_before : (address b : ℕ) (files : List File) (f : File) → shown_at spaces (address / 512) ≢ Some (record { file = id; page = page }) → file_at (store_byte spaces address b files) id ≡ Some f
      → slice_get f.pages page ≡ Some p → PageBefore files id page p
  one_before address b files f apart found here = by (shown_at spaces (address / 512)) refl found
    where
      by : (o : Option FilePage) → shown_at spaces (address / 512) ≡ o
          → file_at (option_map_or (λ spot. change_file spot.file (with_byte spot b) files) (option_map (λ u. record { file = u.file; page = u.page; offset = address % 512 }) o) files) id ≡ Some f → PageBefore files id page p
      by None e now = record { was = f; found = now; here = here }
      by (Some u) e now =
          byte_before files (record { file = u.file; page = u.page; offset = address % 512 }) b id page f p
          (λ same other. apart (e ∙ (λ i. Some (record { file = same i; page = sym other i })))) now here

  all_before : (bytes : List ℕ) (address : ℕ) (files : List File) (f : File) → ((j : ℕ) → j < length bytes → shown_at spaces ((address + j) / 512) ≢ Some (record { file = id; page = page }))
      → file_at (store_bytes spaces address bytes files) id ≡ Some f → slice_get f.pages page ≡ Some p → PageBefore files id page p
  all_before [] address files f apart found here = record { was = f; found = found; here = here }
  all_before (b ∷ bs) address files f apart found here =
      let rest = all_before bs (address + 1) (store_byte spaces address b files) f
      (λ j below. let z : address + 1 + j ≡ address + suc j = omega arith in subst (λ (n : ℕ). shown_at spaces (n / 512) ≢ Some (record { file = id; page = page })) (sym z) (apart (suc j) (omega (arith, below)))) found here in
      let z : address + 0 ≡ address = omega arith in
      one_before address b files rest.was (subst (λ (n : ℕ). shown_at spaces (n / 512) ≢ Some (record { file = id; page = page })) z (apart zero (omega arith))) rest.found rest.here

index_of : (ps : List ℕ) (page : ℕ) → IsOneOf ps page → (k : ℕ) × (slice_get ps k ≡ Some page)
index_of [] page one = absurd one
index_of (p ∷ ps) page (inl same) = (zero, ap (λ (n : ℕ). Some n) same)
index_of (p ∷ ps) page (inr more) = let k = index_of ps page more in (suc k.0, k.1)

-- ---- The disk before a store has all of the machine after it but what is unforced then.

module _ (m : Machine) (address : ℕ) (bytes : List ℕ) (typed : IsTyped (Store address bytes)) (few : length bytes ≤ 512) (accepted : refusal m (Store address bytes) ≡ None) (machine : IsMachine m) where
  abbrev later : Machine
  later = change m (Store address bytes)

  later_machine : IsMachine later
  later_machine = subst IsMachine (unrefused m (Store address bytes) accepted) (next_keeps_machine m (Store address bytes) typed machine)

  still_firm : (id page : ℕ) → is_unforced later.unforced id page ≡ false → is_unforced m.unforced id page ≡ false
  still_firm id page firm = by (is_unforced m.unforced id page) refl
    where
      by : (b : Bool) → is_unforced m.unforced id page ≡ b → is_unforced m.unforced id page ≡ false
      by false e = e
      by true e = absurd (true≢false (sym (pages_stay m.spaces (pages_of address (length bytes)) m.unforced id page e) ∙ firm))

  not_shown : (id page : ℕ) → is_unforced later.unforced id page ≡ false → (j : ℕ) → j < length bytes → shown_at m.spaces ((address + j) / 512) ≢ Some (record { file = id; page = page })
  not_shown id page firm j below shown =
      let k = index_of (pages_of address (length bytes)) ((address + j) / 512) ((reference_touches address (length bytes) (omega (arith, below)) few).each j below) in
      true≢false (sym (pages_there m.spaces (pages_of address (length bytes)) m.unforced k.0 ((address + j) / 512) (record { file = id; page = page }) k.1 shown) ∙ firm)

  settled_later : (d : List Sector) → IsSettled d m → IsSettled d later
  settled_later d h = record {
    table_pages = h.table_pages;
    machine = later_machine;
    sectors = h.sectors;
    root = h.root;
    map_labels = h.map_labels;
    labels = subst (λ (s : Shapes). HasLabelsUpto h.table_pages (labels_of d) s) (sym (stored_shapes m.spaces bytes address m.files)) h.labels;
    cells = record {
      agrees = λ k s f p has found page firm.
          let was = all_before m.spaces s.0.id s.0.page p bytes address m.files f (not_shown s.0.id s.0.page firm) found page in
          h.cells.agrees k s was.was p has was.found was.here (still_firm s.0.id s.0.page firm);
    };
  }

  loose_later : (id page : ℕ) → is_loose m.unforced id page ≡ true → is_loose later.unforced id page ≡ true
  loose_later = loose_more m.unforced later.unforced (pages_stay m.spaces (pages_of address (length bytes)) m.unforced)

  touched_loose : (id page : ℕ) → IsTouchedOrOwn m.spaces address (length bytes) id page → is_loose later.unforced id page ≡ true
  touched_loose id page touched = elim touched [
    | inl t ↦ loose_unforced later.unforced id page (shown_high m machine t.virtual (record { file = id; page = page }) t.shown)
        (pages_there m.spaces (pages_of address (length bytes)) m.unforced t.k t.virtual (record { file = id; page = page }) t.touched t.shown)
    | inr own ↦ volume_loose later.unforced id page own
  ]

-- ---- The pages of some writes, as dirty frames.

abbrev frames_of : List DiskWrite → Slots
frames_of [] = []
frames_of (write.Whole sector label page ∷ ws) = None ∷ frames_of ws
frames_of (write.LabelOnly sector label ∷ ws) = None ∷ frames_of ws
frames_of (write.Page sector wanted page ∷ ws) = Some (record { home = home_at sector wanted; dirty = true; bytes = page }) ∷ frames_of ws

written_frame : (ws : List DiskWrite) (k sector : ℕ) (wanted : Wanted) (bytes : List ℕ) → slice_get ws k ≡ Some (write.Page sector wanted bytes)
    → slice_get (frames_of ws) k ≡ Some (Some (record { home = home_at sector wanted; dirty = true; bytes = bytes }))
written_frame [] k sector wanted bytes here = absurd (none-some _ here)
written_frame (w ∷ ws) zero sector wanted bytes here = subst (λ (v : DiskWrite). slice_get (frames_of (v ∷ ws)) zero ≡ Some (Some (record { home = home_at sector wanted; dirty = true; bytes = bytes }))) (sym (same_Some w _ here)) refl
written_frame (write.Whole i label page ∷ ws) (suc k) sector wanted bytes here = written_frame ws k sector wanted bytes here
written_frame (write.LabelOnly i label ∷ ws) (suc k) sector wanted bytes here = written_frame ws k sector wanted bytes here
written_frame (write.Page i other page ∷ ws) (suc k) sector wanted bytes here = written_frame ws k sector wanted bytes here

written_dirty : (ws : List DiskWrite) (k sector : ℕ) (wanted : Wanted) (bytes : List ℕ) → slice_get ws k ≡ Some (write.Page sector wanted bytes) → IsDirty (frames_of ws) wanted.id wanted.page
written_dirty ws k sector wanted bytes here = record { slot = k; frame = _; has = record { is = written_frame ws k sector wanted bytes here }; dirty = refl; same_id = refl; same_page = refl }

frame_written : (ws : List DiskWrite) (k : ℕ) (f : Frame) → slice_get (frames_of ws) k ≡ Some (Some f)
    → (sector : ℕ) × (wanted : Wanted) × (bytes : List ℕ) × (slice_get ws k ≡ Some (write.Page sector wanted bytes)) × (f.home.id ≡ wanted.id) × (f.home.page ≡ wanted.page)
frame_written [] k f has = absurd (none-some _ has)
frame_written (write.Whole sector label page ∷ ws) zero f has = absurd (none-some f (same_Some None (Some f) has))
frame_written (write.LabelOnly sector label ∷ ws) zero f has = absurd (none-some f (same_Some None (Some f) has))
frame_written (write.Page sector wanted page ∷ ws) zero f has =
    let same : ◌≡◌ {A = Frame} (record { home = home_at sector wanted; dirty = true; bytes = page }) f = same_Some _ f (same_Some (Some _) (Some f) has) in
    (sector, wanted, page, refl, ap (λ (g : Frame). g.home.id) (sym same), ap (λ (g : Frame). g.home.page) (sym same))
frame_written (write.Whole sector label page ∷ ws) (suc k) f has = frame_written ws k f has
frame_written (write.LabelOnly sector label ∷ ws) (suc k) f has = frame_written ws k f has
frame_written (write.Page sector wanted page ∷ ws) (suc k) f has = frame_written ws k f has

-- ---- The crash states.

pub store_passes : (address : ℕ) (bytes : List ℕ) (v w : View) (kept : List Interval) (count : ℕ) (volume : Volume) (m : Machine) → AreInForm v.disk → IsTyped (Store address bytes) → length bytes ≤ 512
    → refusal m (Store address bytes) ≡ None → IsRunning v kept count volume m → Makes (IsTouchedOrOwn m.spaces address (length bytes)) [] v.disk v.slots w.disk w.slots → Passes m (Store address bytes) v.disk w.disk
store_passes address bytes v w kept count volume m form typed few accepted r makes =
    let s = r.session.stands in
    let n : Machine = change m (Store address bytes) in
    let ws : List DiskWrite = makes.wrote.writes in
    let loose : (k sector : ℕ) (wanted : Wanted) (page : List ℕ) → slice_get ws k ≡ Some (write.Page sector wanted page) → is_loose n.unforced wanted.id wanted.page ≡ true =
    λ k sector wanted page here. elim (makes.wrote.of_dirty k sector wanted page here) [
      | inl was ↦ loose_later m address bytes typed few accepted s.is.by.machine wanted.id wanted.page (s.dirty wanted.id wanted.page was)
      | inr own ↦ touched_loose m address bytes typed few accepted s.is.by.machine wanted.id wanted.page own
    ] in
    let all_loose : DirtyAreLoose (frames_of ws) n.unforced = λ id page dirty.
    let f = frame_written ws dirty.slot dirty.frame dirty.has.is in
    (λ i. is_loose n.unforced ((sym dirty.same_id ∙ f.4) i) ((sym dirty.same_page ∙ f.5) i)) ∙ loose dirty.slot f.0 f.1 f.2 f.3 in
    let wrote : Wrote volume_page [] v.disk (frames_of ws) w.disk = record {
      writes = ws;
      appended = makes.wrote.appended;
      form = makes.wrote.form;
      permitted = makes.wrote.permitted;
      labels = makes.wrote.labels;
      of_dirty = λ k sector wanted page here. inl (written_dirty ws k sector wanted page here);
    } in
    record {
      writes = ws;
      appended = makes.wrote.appended;
      steps = λ k. 1;
      rise = λ j k le. omega arith;
      within = λ k. omega arith;
      reveals = λ d k revealed.
          let settled_now : IsSettled d m = stands_is_settled (exactly r.pages m.spaces) v.disk v.slots m d s revealed (form d revealed) in
          subst (λ (x : Machine). RevealsSettled (crash_state d ws k) x) (sym (unrefused m (Store address bytes) accepted))
          (quiet_at n v.disk w.disk (frames_of ws) d wrote (settled_later m address bytes typed few accepted s.is.by.machine d settled_now) all_loose revealed k);
      open_flag = λ d k revealed. flag_open wrote tt d k revealed (stands_is_settled (exactly r.pages m.spaces) v.disk v.slots m d s revealed (form d revealed)).root.open_flag;
      numbers = numbers_stay (exactly r.pages m.spaces) v.disk w.disk v.slots m (Store address bytes) s form wrote tt;
    }
