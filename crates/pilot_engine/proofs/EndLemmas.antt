-- A volume whose temporary files and tables are gone, its maps written, and its root.
use Rattle.std.proofs.Common.{◌≡◌, ◌≢◌, ◌⊎◌, inl, inr, ℕ, ◌<◌, ◌≤◌, Bool, true, false, not, ◌||◌, List, [], ◌∷◌, length, map, Option, Some, None, refl, sym, ◌∙◌, ap, subst, arith}
use Rattle.std.specs.Prelude.{slice_get, option_map, ◌==◌, if◌then◌else◌}
use Rattle.std.specs.Option.{option_map_or}
use Rattle.std.proofs.lemmas.Option.{slice_get-map, same_Some, none-some}
use Rattle.std.proofs.lemmas.Bool.{eq-eqb, true≢false, cases_eq}
use Rattle.labelled_disk.specs.declared.label.Label.{Label}
use Rattle.labelled_disk.specs.declared.layout.Layout.{Layout}
use Rattle.labelled_disk.specs.Calls.{RevealsWrite}
use Rattle.labelled_disk.specs.File.{File, file_at}
use Rattle.labelled_disk.specs.Label.{is_free}
use Rattle.labelled_disk.specs.Layout.{first_data, capacity}
use Rattle.labelled_disk.specs.Lowest.{is_needed}
use Rattle.labelled_disk.specs.CrashState.{written}
use Rattle.labelled_disk.specs.Root.{root_page, short_at, number_at}
use Rattle.labelled_disk.specs.Sectors.{Sector, free_label}
use Rattle.labelled_disk.specs.State.{DiskState}
use Rattle.labelled_disk.proofs.WriteLemmas.{first_positive}
use Rattle.alloc_map.specs.Bits.{is_used}
use Rattle.volume_root.specs.declared.root.Root.{Root}
use Rattle.volume_root.specs.Flag.{FlagLaws, root_with, with_flag}
use Rattle.volume_root.specs.RootPage.{IsValidRoot, root_write}
use Rattle.volume_root.specs.Sound.{HasBits, Sound}
use Rattle.volume_root.proofs.FlagLemmas.{flag_keeps_volume}
use Rattle.frame_pool.specs.Frames.{Frame, Slots, Has, IsWithin}
use Rattle.flat_machine.specs.declared.call.Call.TheVariants.{Close}
use Rattle.flat_machine.specs.declared.space.Space.{Space}
use Rattle.flat_machine.specs.Settled.{settled, Agrees}
use Rattle.flat_machine.specs.Space.{root}
use Rattle.flat_machine.specs.Machine.{Machine}
use Rattle.flat_machine.specs.Next.{next}
use Rattle.swapper_kernel.specs.declared.manager.Manager.{Manager}
use Rattle.swapper_kernel.specs.declared.manager.Manager.TheVariants.{AllocationMap, FileMap}
use Rattle.swapper_kernel.specs.DiffersLaws.{label_here, names_id}
use Rattle.swapper_kernel.specs.FlushLaws.{stands_flushed}
use Rattle.swapper_kernel.specs.Goes.{IsDirty, Swaps}
use Rattle.swapper_kernel.specs.GoesLaws.{swaps_stands}
use Rattle.swapper_kernel.specs.Homes.{ArePlaced, wanted_at}
use Rattle.swapper_kernel.specs.Maps.{id_of, pages_of}
use Rattle.swapper_kernel.specs.Stands.{Stands, labels_of}
use Rattle.filer_kernel.specs.declared.cached.CachedRuns.{CachedRuns}
use Rattle.label_laws.specs.SoundParts.{IsSoundButFlag}
use Rattle.session_words.specs.CloseLaws.{is_closing, IsClosed}
use Rattle.session_words.specs.FrameLaws.{HasFrames, is_shown}
use Rattle.session_words.specs.FreeLaws.{Frees, free_where}
use Rattle.session_words.specs.Parts.{HasRoot, TablesMeaning}
use Rattle.session_words.specs.StandsFor.{RevealsSettled}
use Rattle.session_words.proofs.CloseLemmas.{closed_law}
use Rattle.session_words.proofs.KnownLemmas.{frames_brought}
use Rattle.session_words.proofs.SoundLemmas.{sound_laws}
use Rattle.file_manager.specs.declared.volume.Volume.{Volume}
use Rattle.file_manager.specs.Tables.{EndedBy, of_tables}
use Rattle.pilot_engine.specs.Closing.{AreWritten, HasShut, IsEmptied, IsOpenStop, IsReady, IsShut, IsStop, Shed, RevealsShut, closed_root}
use Rattle.running_words.proofs.SessionLemmas.{known_brought}

-- no window shows a page where there is no space but the root
pub none_shown : (spaces : List Space) → spaces ≡ root ∷ [] → (id page : ℕ) → is_shown spaces id page ≡ false
none_shown spaces alone id page = rw alone refl

-- no label of the space tables is left
no_table : (x y : List Sector) → labels_of y ≡ map (free_where of_tables) (labels_of x) → (k : ℕ) (l : Label) → slice_get (labels_of y) k ≡ Some l → l.id ≢ 3
no_table x y freed k l here three = was (slice_get (labels_of x) k) (sym (ap (λ (ls : List Label). slice_get ls k) freed ∙ slice_get-map (free_where of_tables) (labels_of x) k) ∙ here)
  where
    of : (old : Label) (b : Bool) → (old.id == 3) ≡ b → (if b then free_label else old) ≡ l → ⊥
    of old true e is = let z : 0 ≡ 3 = ap (λ (w : Label). w.id) is ∙ three in omega (arith, z)
    of old false e is = true≢false (sym (eq-eqb old.id 3 (ap (λ (w : Label). w.id) is ∙ three)) ∙ e)

    was : (o : Option Label) → option_map (free_where of_tables) o ≡ Some l → ⊥
    was None is = none-some l is
    was (Some old) is = of old (old.id == 3) refl (same_Some (free_where of_tables old) l is)

module _ (spaces_of : TablesMeaning) (old new : DiskState) (before after : Slots) (layout : Layout) (runs later : CachedRuns) (volume : Volume) (m : Machine) (h : Shed spaces_of (λ id. Unit {0}) m old before layout runs volume)
    (ended : EndedBy h.stands.session.stands.memory old before layout new after later) where
  abbrev x : List Sector
  x = h.stands.session.stands.memory

  after_tables : (y : List Sector) × Stands new after y × Frees of_tables x y
  after_tables = ended.leads.goes.memory x h.stands.session.stands.stands

  -- with no temporary file left, a close frees the tables alone
  closing_alike : (id page : ℕ) → of_tables id page ≡ is_closing h.left.files id page
  closing_alike id page = by (id == 3) (file_at h.left.files id) refl
    where
      by : (b : Bool) (o : Option File) → file_at h.left.files id ≡ o → b ≡ (b || option_map_or (λ f. not f.permanent) o false)
      by true o e = refl
      by false None e = refl
      by false (Some f) e = sym (ap not (h.permanent id f tt e))

  after_close : next h.left Close ≡ next m Close
  after_close = ap (λ (w : Machine). next w Close) h.sheds.rest ∙ ap (λ (fs : List File). record m { files = fs; spaces = root ∷ []; unforced = [] }) h.sheds.permanent

  -- the volume can be opened, with the files of the machine after its close
  closed : IsClosed m after_tables.0
  closed =
      let y = after_tables.0 in
      let c = closed_law spaces_of x y h.left h.stands.session.stands.is (subst (λ (gone : ℕ → ℕ → Bool). Frees gone x y) (λ i id page. closing_alike id page i) after_tables.2) in
      record {
        can_open = c.can_open;
        root = subst (λ (w : Machine). HasRoot (length y) (slice_get y 0) w.serial w.counter w.capacity) h.sheds.rest c.root;
        revealed = subst (λ (w : Machine). RevealsSettled y w) after_close c.revealed;
      }

  maps_have_frames : (i : ℕ) (f : Frame) → Has after i f → (f.home.id ≡ 1) ⊎ (f.home.id ≡ 2)
  maps_have_frames i f has =
      let y = after_tables in
      let frames : HasFrames after h.left.spaces = frames_brought before after h.left.spaces (known_brought spaces_of h.left before after ended.leads.brings) h.stands.session.stands.frames in
      let home = y.1.merged.frames i f has in
      let three : f.home.id ≢ 3 = λ q. no_table x y.0 y.2.labels f.home.sector home.label (label_here y.0 f.home.sector (home.label, f.bytes) home.keeps) (names_id home.label (wanted_at f.home) home.named ∙ q) in
      elim (frames.known f.home.id f.home.page (record { slot = i; frame = f; has = has; same_id = refl; same_page = refl })) [
        | inl (some, few) ↦ elim (cases_eq f.home.id 1) [
          | inl one ↦ inl one
          | inr other ↦ inr (omega (arith, some, few, three, other))
        ]
        | inr shown ↦ absurd (true≢false (sym shown ∙ none_shown h.left.spaces h.stands.alone f.home.id f.home.page))
      ]

  pub emptied : (r : Root) → r ≡ volume.root → IsEmptied m r new after
  emptied r same = record {
    memory = after_tables.0;
    stands = after_tables.1;
    closed = closed;
    maps_alone = maps_have_frames;
    same_serial = ap (λ (w : Root). w.serial) same ∙ h.stands.session.same_serial ∙ ap (λ (w : Machine). w.serial) h.sheds.rest;
    same_counter = ap (λ (w : Root). w.counter) same ∙ h.stands.session.same_counter ∙ ap (λ (w : Machine). w.counter) h.sheds.rest;
  }

-- once both maps are written, the disk has all
pub made_ready : (m : Machine) (r : Root) (old new : DiskState) (before after : Slots) → IsEmptied m r old before → Swaps old before new after → AreWritten after → IsReady m r new
made_ready m r old new before after e swaps forced = record {
  sectors = e.memory;
  revealed = subst (λ (d : List Sector). new.contents ≡ Some d) (sym same) stands.revealed;
  closed = e.closed;
  same_serial = e.same_serial;
  same_counter = e.same_counter;
}
  where
    stands : Stands new after e.memory
    stands = swaps_stands swaps e.memory e.stands

    none : (id page : ℕ) → (id ≡ 1) ⊎ (id ≡ 2) → IsDirty after id page → ⊥
    none id page (inl one) dirty = forced AllocationMap page (subst (λ (k : ℕ). IsDirty after k page) one dirty)
    none id page (inr two) dirty = forced FileMap page (subst (λ (k : ℕ). IsDirty after k page) two dirty)

    had : (id page : ℕ) → IsDirty before id page ⊎ ⊥ → (id ≡ 1) ⊎ (id ≡ 2)
    had id page (inl was) = elim (e.maps_alone was.slot was.frame was.has) [ inl one ↦ inl (sym was.same_id ∙ one) | inr two ↦ inr (sym was.same_id ∙ two) ]
    had id page (inr none) = absurd none

    clean : (i : ℕ) (f : Frame) → Has after i f → f.dirty ≡ false
    clean i f has = by f.dirty refl
      where
        by : (b : Bool) → f.dirty ≡ b → f.dirty ≡ false
        by false is = is
        by true is =
            let dirty : IsDirty after f.home.id f.home.page = record { slot = i; frame = f; has = has; dirty = is; same_id = refl; same_page = refl } in
            absurd (none f.home.id f.home.page (had f.home.id f.home.page (swaps.makes.dirty f.home.id f.home.page dirty)) dirty)

    same : e.memory ≡ stands.sectors
    same = stands_flushed new after e.memory stands.sectors stands.revealed stands clean

module _ (m : Machine) (r : Root) (y : List Sector) (closed : IsClosed m y) (serial : r.serial ≡ m.serial) (counter : r.counter ≡ m.counter) (valid : IsValidRoot (length y) r) where
  laws : FlagLaws y
  laws = flag_keeps_volume y closed.can_open.sectors closed.can_open.right.has_root

  -- the root is that of the sectors
  same_root : root_with true y ≡ closed_root r
  same_root =
      let is = closed.can_open.right.has_root in
      let version : short_at (root_page y) 8 ≡ r.version = is.version ∙ sym valid.version in
      let count : number_at (root_page y) 12 ≡ r.sectors = is.count ∙ sym valid.count in
      let serials : number_at (root_page y) 16 ≡ r.serial = closed.root.has_serial ∙ sym serial in
      let counters : number_at (root_page y) 20 ≡ r.counter = closed.root.has_counter ∙ sym counter in
      λ i. record { version = version i; clean = true; sectors = count i; serial = serials i; counter = counters i }

  but_flag : IsSoundButFlag y
  but_flag = sound_laws.but_flag y closed.can_open

  bits : HasBits (with_flag true y)
  bits = record {
    low = λ i below. ap (λ (bytes : List ℕ). is_used bytes i) (laws.map true) ∙ but_flag.bits.low i (subst (λ (n : ℕ). i < first_data n) (laws.sectors true) below);
    by_label = λ i s there.
        let positive = first_positive false 0 0 (length y) in
        let above : first_data (length y) ≤ i = subst (λ (n : ℕ). first_data n ≤ i) (laws.sectors true) there.is_data in
        ap (λ (bytes : List ℕ). is_used bytes i) (laws.map true)
        ∙ but_flag.bits.by_label i s (record { is_data = above; here = sym (laws.others true i (λ z. omega (arith, above, z, positive))) ∙ there.here });
    past = λ i above. ap (λ (bytes : List ℕ). is_used bytes i) (laws.map true) ∙ but_flag.bits.past i (subst (λ (n : ℕ). n ≤ i) (laws.sectors true) above);
  }

  sound : Sound (with_flag true y)
  sound = record {
    labels = laws.right true but_flag.labels;
    clean = laws.flag true;
    free_or_needed = subst (λ (all : List Sector). (i : ℕ) (s : Sector) → slice_get all i ≡ Some s → (is_free s.0 ≡ true) ⊎ (is_needed false all i ≡ true)) (sym (laws.same_data true)) but_flag.free_or_needed;
    bits = bits;
    file_map = laws.file_map true but_flag.file_map;
  }

  pub shut : IsShut m (written (root_write (closed_root r)) y)
  shut = subst (λ (w : Root). IsShut m (written (root_write w) y)) same_root (record {
    sound = sound;
    same_serial = laws.has_serial true ∙ closed.root.has_serial;
    same_counter = laws.has_counter true ∙ closed.root.has_counter;
    same_room = ap capacity (laws.sectors true) ∙ closed.root.has_room;
    revealed = record {
      agrees = subst (λ (fs : List File). Agrees fs (settled (next m Close))) (sym (laws.files true)) closed.revealed.agrees;
      right = laws.right true closed.revealed.right;
    };
  })

  -- and a stop there reveals the settled files
  pub shut_stop : IsOpenStop m y → IsStop m (written (root_write (closed_root r)) y)
  shut_stop stop = subst (λ (w : Root). IsStop m (written (root_write w) y)) same_root (record {
    revealed = record { agrees = subst (λ (fs : List File). Agrees fs (settled m)) (sym (laws.files true)) stop.revealed.agrees; right = laws.right true stop.revealed.right };
    same_serial = laws.has_serial true ∙ closed.root.has_serial;
    same_counter = laws.has_counter true ∙ closed.root.has_counter;
    honest = λ set. sound;
  })

-- the root is written, and the volume is closed
pub reveals_shut : (m : Machine) (r : Root) (old new : DiskState) → (ready : IsReady m r old) → IsValidRoot (length ready.sectors) r → RevealsWrite (root_write (closed_root r)) old new → RevealsShut m new
reveals_shut m r old new ready valid wrote = record {
  sectors = written (root_write (closed_root r)) ready.sectors;
  revealed = wrote.contents ∙ ap (option_map (written (root_write (closed_root r)))) ready.revealed;
  shut = shut m r ready.sectors ready.closed ready.same_serial ready.same_counter valid;
}

-- no page of a map is dirty once each of its run is clean
pub map_clean : (which : Manager) (slots : Slots) (layout now : Layout) (id pages : ℕ) → ArePlaced slots now → now ≡ layout → id ≡ id_of which → pages ≡ pages_of which layout
    → ((i : ℕ) (f : Frame) → Has slots i f → IsWithin id 0 pages f.home → f.dirty ≡ false) → (page : ℕ) → IsDirty slots (id_of which) page → ⊥
map_clean which slots layout now id pages placed same of_map many clean page dirty =
    let at = ((placed dirty.slot dirty.frame dirty.has).of_map which dirty.same_id).0 in
    let below : dirty.frame.home.page < pages_of which layout = subst (λ (l : Layout). dirty.frame.home.page < pages_of which l) same at in
    true≢false (sym dirty.dirty ∙ clean dirty.slot dirty.frame dirty.has (dirty.same_id ∙ sym of_map, omega arith, omega (arith, below, many)))

-- no page of either map is, once the second one was written as well
pub both_clean : (mid new : DiskState) (between after : Slots) → ((page : ℕ) → IsDirty between 1 page → ⊥) → Swaps mid between new after → ((page : ℕ) → IsDirty after 2 page → ⊥) → AreWritten after
both_clean mid new between after first swaps second AllocationMap page dirty = elim (swaps.makes.dirty 1 page dirty) [ inl was ↦ first page was | inr none ↦ absurd none ]
both_clean mid new between after first swaps second FileMap page dirty = second page dirty

pub closed_valid : (n : ℕ) (r : Root) → IsValidRoot n r → IsValidRoot n (closed_root r)
closed_valid n r valid = record { version = valid.version; accepted = valid.accepted; count = valid.count; serial = valid.serial; counter = valid.counter }

pub valid_at : (n now : ℕ) (r : Root) → now ≡ n → IsValidRoot n r → IsValidRoot now r
valid_at n now r same valid = subst (λ (k : ℕ). IsValidRoot k r) (sym same) valid

-- the root is written by a volume that is still the same, and the disk has settled
pub has_shut : (m : Machine) (v now : Volume) (mid last new : DiskState) → now ≡ v → IsReady m v.root mid → (IsReady m now.root mid → RevealsShut m last) → new.contents ≡ last.contents → new.synced ≡ true → HasShut m new
has_shut m v now mid last new same ready made revealed synced =
    let t = made (subst (λ (w : Volume). IsReady m w.root mid) (sym same) ready) in
    record { reveals = record { sectors = t.sectors; revealed = revealed ∙ t.revealed; shut = t.shut }; synced = synced }
