-- The second volume is closed: its maps are written, and then its root.
use Rattle.std.proofs.Common.{◌≡◌, ◌⊎◌, inl, inr, ℕ, zero, suc, ◌+◌, ◌<◌, ◌≤◌, ◌^◌, Bool, true, false, List, [], ◌∷◌, ◌++◌, length, Some, refl, sym, ◌∙◌, ap, subst, arith}
use Rattle.std.specs.Prelude.{slice_get, option_map}
use Rattle.std.specs.List.{AllByRecursion}
use Rattle.std.proofs.lemmas.Option.{none-some, same_Some}
use Rattle.std.proofs.lemmas.Bool.{ne_eqb, true≢false}
use Rattle.std.proofs.lemmas.List.{length-map}
use Rattle.labelled_disk.specs.declared.disk.DiskWrite.{DiskWrite}
use Rattle.labelled_disk.specs.declared.disk.DiskWrite.TheVariants as write
use Rattle.labelled_disk.specs.declared.label.Wanted.{Wanted}
use Rattle.labelled_disk.specs.declared.layout.Layout.{Layout}
use Rattle.labelled_disk.specs.declared.evidence.Halt.{Halt}
use Rattle.labelled_disk.specs.declared.evidence.Halt.TheVariants as halt
use Rattle.labelled_disk.specs.Calls.{Moves, RevealsSame, RevealsWrite, Rose}
use Rattle.labelled_disk.specs.CrashState.{crash_state, written}
use Rattle.labelled_disk.specs.File.{File}
use Rattle.labelled_disk.specs.Label.{is_free, root_label}
use Rattle.labelled_disk.specs.Layout.{first_data, vam, vfm}
use Rattle.labelled_disk.specs.Permitted.{Permitted}
use Rattle.labelled_disk.specs.Root.{IsRoot, number_at, root_page, short_at}
use Rattle.labelled_disk.specs.Runs.{IsWriteInForm}
use Rattle.labelled_disk.specs.Sectors.{Sector}
use Rattle.labelled_disk.specs.State.{DiskState}
use Rattle.labelled_disk.proofs.WriteRunLemmas.{appended_none, appended_one}
use Rattle.frame_pool.specs.Frames.{Frame, Has, IsWithin, Slots}
use Rattle.swapper_kernel.specs.declared.manager.Manager.{Manager}
use Rattle.swapper_kernel.specs.declared.manager.Manager.TheVariants.{AllocationMap, FileMap}
use Rattle.swapper_kernel.specs.FlushLaws.{stands_flushed}
use Rattle.swapper_kernel.specs.Goes.{IsDirty, Makes, Swaps, Went, no_page}
use Rattle.swapper_kernel.specs.GoesLaws.{makes_then, makes_wider, same_syncs, swaps_stands}
use Rattle.swapper_kernel.specs.DiffersLaws.{label_here, names_id}
use Rattle.swapper_kernel.specs.Homes.{ArePlaced, IsLayout, wanted_at}
use Rattle.swapper_kernel.specs.Maps.{id_of, pages_of}
use Rattle.swapper_kernel.specs.Stands.{IsMerged, Stands, labels_of}
use Rattle.filer_kernel.specs.Evidence.{ShowsEvidence}
use Rattle.filer_kernel.specs.View.{SwapsOnly, View}
use Rattle.label_laws.proofs.SoundLemmas.{sound_when_closed}
use Rattle.session_words.specs.Parts.{HasLabel, HasRoot, is_owned_upto, shapes_of}
use Rattle.session_words.specs.Volume.{volume_page}
use Rattle.session_words.proofs.SoundLemmas.{sound_laws}
use Rattle.volume_root.specs.declared.root.Root.{Root}
use Rattle.volume_root.specs.Flag.{FlagLaws, root_with, with_flag}
use Rattle.volume_root.specs.RootPage.{IsValidRoot, root_bytes, root_write}
use Rattle.volume_root.specs.Sound.{Sound}
use Rattle.volume_root.proofs.FlagLemmas.{flag_keeps_volume}
use Rattle.volume_root.proofs.WrittenLemmas.{is_root}
use Rattle.file_manager.proofs.RootForm.{root_in_form}
use Rattle.file_manager.proofs.TablesMade.{no_shape, unowned_from}
use Rattle.pair_machine.specs.Pair.{Pair}
use Rattle.volume_pair.specs.Ends.{AreWritten, HasClosed, HasVolume, IsWritten, IsWrittenOwn, closed_root}
use Rattle.volume_pair.specs.Sides.{IsSide, ShowsWhy}
use Rattle.volume_pair.proofs.OwnedLemmas.{IsOfRoot, own_each, own_each_then}
use Rattle.volume_pair.proofs.SideLemmas.{side_books}

-- ---- What was written.

pub written_on : (v w : View) → IsWrittenOwn v w → IsWritten v.slots v.disk w.disk
written_on v w h = record { labels = h.labels; went = h.makes.went; wrote = h.makes.wrote; own = h.own }

pub swaps_own : (v w : View) → SwapsOnly v w → IsWrittenOwn v w
swaps_own v w swaps = let makes = makes_wider volume_page (λ id page none. absurd none) swaps.makes in record { labels = []; makes = makes; own = own_each makes.wrote tt }

pub own_then : {u v w : View} → IsWrittenOwn u v → IsWrittenOwn v w → IsWrittenOwn u w
own_then h k = record { labels = h.labels ++ k.labels; makes = makes_then h.makes k.makes; own = own_each_then h.makes.dirty h.own k.own }

-- The root of the closed volume is written, and nothing else.
module _ (old new : DiskState) (slots : Slots) (n : ℕ) (root : Root) (valid : IsValidRoot n (closed_root root)) (serial : root.serial < 2 ^ 32) (counter : root.counter < 2 ^ 32)
    (whole : (d : List Sector) → old.contents ≡ Some d → length d ≡ n) (moves : Moves old new) where
  went : Went old new
  went = record { sectors = moves.sectors; lent = moves.lent; syncs = same_syncs old new moves.syncs; faults = moves.faults; transfers = moves.transfers.later }

  form : (k : ℕ) (w : DiskWrite) → slice_get (root_write (closed_root root) ∷ []) k ≡ Some w → IsWriteInForm w
  form zero w here = subst IsWriteInForm (same_Some (root_write (closed_root root)) w here) (root_in_form (closed_root root))
  form (suc k) w here = absurd (none-some w here)

  permitted : (d : List Sector) (k : ℕ) (w : DiskWrite) → old.contents ≡ Some d → slice_get (root_write (closed_root root) ∷ []) k ≡ Some w → Permitted (crash_state d (root_write (closed_root root) ∷ []) k) w
  permitted d zero w revealed here = subst (Permitted d) (same_Some (root_write (closed_root root)) w here) (inl (record {
    place = refl;
    root_label = refl;
    valid = subst (λ (m : ℕ). IsRoot m (Some (root_label, root_bytes (closed_root root)))) (sym (whole d revealed)) (is_root n (closed_root root) valid serial counter);
  }))
  permitted d (suc k) w revealed here = absurd (none-some w here)

  of_none : (k sector : ℕ) (wanted : Wanted) (bytes : List ℕ) → slice_get (root_write (closed_root root) ∷ []) k ≡ Some (write.Page sector wanted bytes) → IsDirty slots wanted.id wanted.page ⊎ volume_page wanted.id wanted.page
  of_none zero sector wanted bytes here = absurd (cc here)
  of_none (suc k) sector wanted bytes here = absurd (none-some (write.Page sector wanted bytes) here)

  pub root_made : RevealsWrite (root_write (closed_root root)) old new → Makes volume_page (root_write (closed_root root) ∷ []) old slots new slots
  root_made made = record {
    went = went;
    dirty = λ id page is. inl is;
    wrote = record {
      writes = root_write (closed_root root) ∷ [];
      appended = appended_one (root_write (closed_root root)) made;
      form = form;
      permitted = permitted;
      labels = refl;
      of_dirty = of_none;
    };
    count = refl;
  }

  none_made : RevealsSame old new → Makes volume_page [] old slots new slots
  none_made same = record {
    went = went;
    dirty = λ id page is. inl is;
    wrote = record {
      writes = [];
      appended = appended_none same;
      form = λ k w here. absurd (none-some w here);
      permitted = λ d k w revealed here. absurd (none-some w here);
      labels = refl;
      of_dirty = λ k sector wanted bytes here. absurd (none-some (write.Page sector wanted bytes) here);
    };
    count = refl;
  }

  -- so it is, or nothing is written
  pub root_either : RevealsSame old new ⊎ RevealsWrite (root_write (closed_root root)) old new → (labels : List DiskWrite) × Makes volume_page labels old slots new slots × AllByRecursion IsOfRoot labels
  root_either (inl same) = ([], none_made same, tt)
  root_either (inr made) = (root_write (closed_root root) ∷ [], root_made made, (refl, tt))

-- ---- The maps are written.

-- no page of a map is dirty once each of its run is clean
pub map_clean : (which : Manager) (slots : Slots) (layout now : Layout) (id pages : ℕ) → ArePlaced slots now → now ≡ layout → id ≡ id_of which → pages ≡ pages_of which layout
    → ((i : ℕ) (f : Frame) → Has slots i f → IsWithin id 0 pages f.home → f.dirty ≡ false) → (page : ℕ) → IsDirty slots (id_of which) page → ⊥
map_clean which slots layout now id pages placed same of_map many clean page dirty =
    let at = ((placed dirty.slot dirty.frame dirty.has).of_map which dirty.same_id).0 in
    let below : dirty.frame.home.page < pages_of which layout = subst (λ (l : Layout). dirty.frame.home.page < pages_of which l) same at in
    true≢false (sym dirty.dirty ∙ clean dirty.slot dirty.frame dirty.has (dirty.same_id ∙ sym of_map, omega arith, omega (arith, below, many)))

-- no page of either map is, once the second one was written as well
pub both_clean : (mid new : DiskState) (between after : Slots) → ((page : ℕ) → IsDirty between 1 page → ⊥) → Swaps mid between new after → ((page : ℕ) → IsDirty after 2 page → ⊥) → AreWritten after
both_clean mid new between after first swaps second AllocationMap page dirty = elim (swaps.makes.dirty 1 page dirty) [ inl was ↦ first page was | inr none ↦ absurd none ]
both_clean mid new between after first swaps second FileMap page dirty = second page dirty

-- ---- What the disk has then.

-- no frame is of a page of the space tables, of which the volume has none
pub no_tables : (v : View) (fs : List File) (y : List Sector) → IsSide v fs y → ArePlaced v.slots v.layout → IsLayout v.layout → (page : ℕ) → IsDirty v.slots 3 page → ⊥
unfolding first_data
no_tables v fs y side placed accepted page dirty =
    let f = dirty.frame in
    let home = side.stands.merged.frames dirty.slot f dirty.has in
    let books = side_books v fs y side in
    let three : home.label.id ≡ 3 = names_id home.label (wanted_at f.home) home.named ∙ dirty.same_id in
    let at = (placed dirty.slot f dirty.has).of_file (λ which same. apart which (sym dirty.same_id ∙ same)) in
    let first : v.layout.first ≡ first_data (length (labels_of y)) = ap (λ (l : Layout). l.first) accepted.1 ∙ first_is v.layout.sectors ∙ ap first_data (sym side.long ∙ sym (length-map y (λ s. s.0))) in
    let above = at.0 in
    let there : HasLabel (labels_of y) f.home.sector home.label = record { is_data = omega (arith, first, above); here = label_here y f.home.sector (home.label, f.bytes) home.keeps } in
    let taken : is_free home.label ≡ false = ne_eqb home.label.id 0 (λ e. omega (arith, e, three)) in
    let owned = books.booked.labels.pages.only f.home.sector home.label there taken in
    let own : is_owned_upto 0 (shapes_of fs) 3 home.label.page ≡ true = ap (λ (n : ℕ). is_owned_upto 0 (shapes_of fs) n home.label.page) (sym three) ∙ owned.is in
    true≢false (sym own ∙ unowned_from 0 (shapes_of fs) home.label.page (no_shape (shapes_of fs) books.booked.files) (omega arith))
  where
    apart : (which : Manager) → 3 ≡ id_of which → ⊥
    apart AllocationMap same = omega (arith, same)
    apart FileMap same = omega (arith, same)

    first_is : (n : ℕ) → 1 + vam n + vfm n ≡ first_data n
    first_is n = refl

module _ (v w : View) (p : Pair) (root : Root) (y : List Sector) (side : IsSide v p.to y) (has_root : HasRoot (length y) (slice_get y 0) root.serial root.counter p.capacity) (swaps : SwapsOnly v w) (forced : AreWritten w.slots)
    (tables : (page : ℕ) → IsDirty v.slots 3 page → ⊥) where
  -- no page of a file, nor of the space tables, is dirty
  pub volume_written : HasVolume p root w.disk
  volume_written = record {
    sectors = y;
    revealed = subst (λ (d : List Sector). w.disk.contents ≡ Some d) (sym same) stands.revealed;
    can_open = side.can_open;
    files = side.files_are;
    has_root = has_root;
  }
    where
      stands : Stands w.disk w.slots y
      stands = swaps_stands swaps y side.stands

      of_map : (id page : ℕ) → IsDirty v.slots id page → (id ≡ 1) ⊎ ((id ≡ 2) ⊎ (id ≡ 3))
      of_map id page dirty = elim (side.frames.known id page (record { slot = dirty.slot; frame = dirty.frame; has = dirty.has; same_id = dirty.same_id; same_page = dirty.same_page })) [
        | inl (some, few) ↦ low id some few
        | inr shown ↦ absurd (true≢false (sym shown))
      ]
        where
          low : (id : ℕ) → 1 ≤ id → id ≤ 3 → (id ≡ 1) ⊎ ((id ≡ 2) ⊎ (id ≡ 3))
          low zero some few = absurd (omega (arith, some))
          low (suc zero) some few = inl refl
          low (suc (suc zero)) some few = inr (inl refl)
          low (suc (suc (suc zero))) some few = inr (inr refl)
          low (suc (suc (suc (suc n)))) some few = absurd (omega (arith, few))

      none : (id page : ℕ) → IsDirty w.slots id page → ⊥
      none id page dirty = elim (swaps.makes.dirty id page dirty) [
        | inr no_one ↦ absurd no_one
        | inl was ↦ elim (of_map id page was) [
          | inl one ↦ forced AllocationMap page (subst (λ (k : ℕ). IsDirty w.slots k page) one dirty)
          | inr (inl two) ↦ forced FileMap page (subst (λ (k : ℕ). IsDirty w.slots k page) two dirty)
          | inr (inr three) ↦ tables page (subst (λ (k : ℕ). IsDirty v.slots k page) three was)
        ]
      ]

      clean : (i : ℕ) (f : Frame) → Has w.slots i f → f.dirty ≡ false
      clean i f has = by f.dirty refl
        where
          by : (b : Bool) → f.dirty ≡ b → f.dirty ≡ false
          by false is = is
          by true is = absurd (none f.home.id f.home.page (record { slot = i; frame = f; has = has; dirty = is; same_id = refl; same_page = refl }))

      same : y ≡ stands.sectors
      same = stands_flushed w.disk w.slots y stands.sectors stands.revealed stands clean

-- the root is written, and the volume is closed
module _ (p : Pair) (root : Root) (old : DiskState) (h : HasVolume p root old) (valid : IsValidRoot (length h.sectors) root) where
  laws : FlagLaws h.sectors
  laws = flag_keeps_volume h.sectors h.can_open.sectors h.can_open.right.has_root

  -- the root is that of the sectors
  same_root : root_with true h.sectors ≡ closed_root root
  same_root =
      let is = h.can_open.right.has_root in
      let version : short_at (root_page h.sectors) 8 ≡ root.version = is.version ∙ sym valid.version in
      let count : number_at (root_page h.sectors) 12 ≡ root.sectors = is.count ∙ sym valid.count in
      let serials : number_at (root_page h.sectors) 16 ≡ root.serial = h.has_root.has_serial in
      let counters : number_at (root_page h.sectors) 20 ≡ root.counter = h.has_root.has_counter in
      λ i. record { version = version i; clean = true; sectors = count i; serial = serials i; counter = counters i }

  pub has_closed : (last new : DiskState) → RevealsWrite (root_write (closed_root root)) old last → new.contents ≡ last.contents → new.synced ≡ true → HasClosed p root new
  has_closed last new wrote same synced = record {
    sectors = with_flag true h.sectors;
    revealed = same ∙ wrote.contents ∙ ap (option_map (written (root_write (closed_root root)))) h.revealed ∙ ap (λ (r : Root). Some (written (root_write r) h.sectors)) (sym same_root);
    sound = sound;
    files = laws.files true ∙ h.files;
    same_serial = laws.has_serial true ∙ h.has_root.has_serial;
    same_counter = laws.has_counter true ∙ h.has_root.has_counter;
    synced = synced;
  }
    where
      sound : Sound (with_flag true h.sectors)
      sound = (sound_when_closed h.sectors (sound_laws.but_flag h.sectors h.can_open)).by_flag h.can_open.sectors

-- ---- Calls that change nothing.

-- the disk reveals what it did, and the frames are the same
pub swaps_same : {a b : DiskState} {s t : Slots} → RevealsSame a b → Makes no_page [] a s b t → t ≡ s → Swaps a s b t
swaps_same {a = a} {b = b} {s = s} {t = t} same makes frames = record {
  makes = makes;
  memory = λ m stands. (m, record { sectors = stands.sectors; revealed = same.contents ∙ stands.revealed; merged = subst (λ (u : Slots). IsMerged stands.sectors u m) (sym frames) stands.merged }, refl);
}

-- a fault of the disk that was counted
pub fault_why : {v w : View} (e : Halt) → e ≡ halt.Disk → Rose v.disk.faults w.disk.faults → ShowsWhy v w e
fault_why {w = w} e is rose = record { counted = λ same. rose; evidence_seen = subst (ShowsEvidence w.disk) (sym is) tt }

pub closed_valid : (n : ℕ) (r : Root) → IsValidRoot n r → IsValidRoot n (closed_root r)
closed_valid n r valid = record { version = valid.version; accepted = valid.accepted; count = valid.count; serial = valid.serial; counter = valid.counter }

pub valid_at : (n now : ℕ) (r : Root) → now ≡ n → IsValidRoot n r → IsValidRoot now r
valid_at n now r same valid = subst (λ (k : ℕ). IsValidRoot k r) (sym same) valid
