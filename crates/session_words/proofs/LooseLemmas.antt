-- Memories and disks that differ in loose pages.
use Rattle.std.proofs.Common.{◌≡◌, ◌≢◌, inl, inr, ⊎_elim, ℕ, zero, suc, ◌≤◌, Bool, true, false, ◌&&◌, not, List, [], ◌∷◌, length, Option, Some, None, refl, sym, ◌∙◌, ap, subst, arith}
use Rattle.std.specs.Prelude.{slice_get, slice_set, nat_lt, nat_le, ◌==◌, if◌then◌else◌, filter, IsTrue, IsSomeAnd}
use Rattle.std.specs.Option.{option_map_or}
use Rattle.std.proofs.lemmas.Option.{same_Some}
use Rattle.std.proofs.lemmas.Bool.{and_parts, eqb-true, true≢false, false≢true, cases_eq}
use Rattle.labelled_disk.specs.declared.label.Label.{Label}
use Rattle.labelled_disk.specs.declared.label.Wanted.{Wanted}
use Rattle.labelled_disk.specs.declared.disk.DiskWrite.{DiskWrite}
use Rattle.labelled_disk.specs.declared.disk.DiskWrite.TheVariants as write
use Rattle.labelled_disk.specs.Label.{is_file, names}
use Rattle.labelled_disk.specs.Sectors.{Sector}
use Rattle.labelled_disk.specs.State.{DiskState}
use Rattle.labelled_disk.specs.CrashState.{written, crash_state}
use Rattle.labelled_disk.specs.Runs.{IsWriteInForm}
use Rattle.labelled_disk.proofs.Finds.{get_set_other}
use Rattle.labelled_disk.proofs.RunLemmas.{sectors_stay}
use Rattle.frame_pool.specs.Frames.{Slots}
use Rattle.flat_machine.specs.declared.space.FilePage.{FilePage}
use Rattle.flat_machine.specs.Machine.{Machine}
use Rattle.flat_machine.specs.Settled.{is_unforced}
use Rattle.swapper_kernel.specs.Stands.{labels_of, IsMerged}
use Rattle.swapper_kernel.specs.Homes.{wanted_at}
use Rattle.swapper_kernel.specs.Goes.{Goes, Same, is_page_write, Change, Pages}
use Rattle.session_words.specs.Volume.{volume_page}
use Rattle.swapper_kernel.specs.Kinds.{kind_of, the_tables, a_file, unused, files_alone}
use Rattle.swapper_kernel.specs.Differs.{Differs}
use Rattle.session_words.specs.Parts.{HasRoot, HasLabelsUpto, HasMapLabels, TablesMeaning, is_loose, is_loose_at, DirtyAreLoose, shapes_of}
use Rattle.session_words.specs.FrameLaws.{HasFrames}
use Rattle.session_words.specs.StandsFor.{IsFor, StandsFor, IsSettled}
use Rattle.session_words.specs.SettledLaws.{LooseMayDiffer, LooseWritten, StandsIsSettled, SwapStands, SwapCrashStates}
use Rattle.swapper_kernel.specs.DiffersLaws.{same_length, same_back, same_place, differs_itself}
use Rattle.swapper_kernel.proofs.KindLemmas.{data_kind, kind_is_data}
use Rattle.session_words.proofs.FoundLemmas.{above_reserved, file_id_of}
use Rattle.session_words.proofs.KnownLemmas.{frames_brought}

-- the label that names a page is that of the page
pub names_id : (l : Label) (w : Wanted) → names l w ≡ true → l.id ≡ w.id
names_id l w named =
    let a = and_parts ((l.id == w.id) && (l.page == w.page) && nat_lt l.flags 4) (l.last == 0) named in
    let b = and_parts ((l.id == w.id) && (l.page == w.page)) (nat_lt l.flags 4) a.0 in
    eqb-true l.id w.id (and_parts (l.id == w.id) (l.page == w.page) b.0).0

pub names_page : (l : Label) (w : Wanted) → names l w ≡ true → l.page ≡ w.page
names_page l w named =
    let a = and_parts ((l.id == w.id) && (l.page == w.page) && nat_lt l.flags 4) (l.last == 0) named in
    let b = and_parts ((l.id == w.id) && (l.page == w.page)) (nat_lt l.flags 4) a.0 in
    eqb-true l.page w.page (and_parts (l.id == w.id) (l.page == w.page) b.0).1

-- a sector of a file has a file's label
pub kind_file : (n k : ℕ) (l : Label) → kind_of n k l ≡ a_file → is_file l ≡ true
kind_file n k l is = either (l.id == 3) (is_file l) refl (sym (data_kind n k l (kind_is_data n k l a_file (λ e. true≢false (ap files_alone e)) (λ e. true≢false (ap files_alone e)) (λ e. true≢false (ap files_alone e)) is)) ∙ is)
  where
    either : (a b : Bool) → is_file l ≡ b → (if a then the_tables else (if b then a_file else unused)) ≡ a_file → is_file l ≡ true
    either true b e h = absurd (false≢true (ap files_alone h))
    either false true e h = e
    either false false e h = absurd (false≢true (ap files_alone h))

-- a forced page of a file isn't loose
firm_page : (unforced : List FilePage) (id page : ℕ) → 16 ≤ id → is_unforced unforced id page ≡ false → is_loose unforced id page ≡ false
firm_page unforced id page high firm =
    let a : nat_lt id 4 ≡ false = grind arith in
    let b : nat_le 16 id ≡ true = grind arith in
    rw (a, b, firm) refl

-- a page of a map or of the space tables is loose
pub volume_loose : (unforced : List FilePage) (id page : ℕ) → volume_page id page → is_loose unforced id page ≡ true
volume_loose unforced id page low = let a : nat_lt id 4 ≡ true = grind arith in rw a refl

-- the root isn't loose
pub firm_root : (unforced : List FilePage) (id page : ℕ) → id ≡ 4 → is_loose unforced id page ≡ false
firm_root unforced id page four =
    let a : nat_lt id 4 ≡ false = grind arith in
    let b : nat_le 16 id ≡ false = grind arith in
    rw (a, b) refl

pub loose_may_differ : LooseMayDiffer
loose_may_differ d e m h differs are =
    let long : length e ≡ length d = same_length d e differs.labels in
    let place : slice_get e 0 ≡ slice_get d 0 = same_place (is_loose_at m.unforced) d e differs 0 (λ s here. firm_root m.unforced s.0.id s.0.page
    (names_id s.0 (record { id = 4; page = 0 }) (subst (λ (o : Option Sector). IsSomeAnd o (λ t. IsTrue (names t.0 (record { id = 4; page = 0 })))) here h.root.valid.label))) in
    record {
      machine = h.machine;
      sectors = are;
      root = subst (λ (o : Option Sector). HasRoot (length e) o m.serial m.counter m.capacity) (sym place) (subst (λ (n : ℕ). HasRoot n (slice_get d 0) m.serial m.counter m.capacity) (sym long) h.root);
      map_labels = subst HasMapLabels (sym differs.labels) h.map_labels;
      table_pages = h.table_pages;
      labels = subst (λ (l : List Label). HasLabelsUpto h.table_pages l (shapes_of m.files)) (sym differs.labels) h.labels;
      cells = record {
        agrees = λ k t f p has at page firm.
            let is : kind_of (length d) k t.0 ≡ a_file = ap (λ (n : ℕ). kind_of n k t.0) (sym long) ∙ has.is in
            let high = above_reserved t.0.id (file_id_of t.0 (kind_file (length d) k t.0 is)) in
            h.cells.agrees k t f p (record { here = same_back (is_loose_at m.unforced) d e differs k t has.here (firm_page m.unforced t.0.id t.0.page high firm); is = is }) at page firm;
      };
    }

-- Bytes are written to a page that passes.

pub page_differs : (test : ℕ → Label → Bool) (d : List Sector) (sector : ℕ) (wanted : Wanted) (bytes : List ℕ)
    → ((l : Label) → names l wanted ≡ true → test sector l ≡ true) → Differs test d (written (write.Page sector wanted bytes) d)
page_differs test d sector wanted bytes passes = either (slice_get d sector) refl
  where
    goes_to : List Sector → Type 0
    goes_to e = Differs test d e

    there : (old : Sector) → slice_get d sector ≡ Some old → (b : Bool) → names old.0 wanted ≡ b → Differs test d (if b then slice_set d sector (old.0, bytes) else d)
    there old e false n = differs_itself test d
    there old e true n = record {
      labels = same_labels d sector old e;
      pages = λ k s here fails. ⊎_elim
          (λ (q : k ≡ sector).
          let same : old ≡ s = same_Some old s (sym e ∙ ap (slice_get d) (sym q) ∙ here) in
          absurd (true≢false (sym (passes old.0 n) ∙ ap (λ (t : Sector). test sector t.0) same ∙ ap (λ (i : ℕ). test i s.0) (sym q) ∙ fails)))
          (λ (q : k ≢ sector). get_set_other d sector k (old.0, bytes) q ∙ here)
          (cases_eq k sector);
    }
      where
        same_labels : (xs : List Sector) (i : ℕ) (s : Sector) → slice_get xs i ≡ Some s → labels_of (slice_set xs i (s.0, bytes)) ≡ labels_of xs
        same_labels [] i s here = refl
        same_labels (x ∷ xs) zero s here = ap (λ (l : Label). l ∷ labels_of xs) (ap (λ (t : Sector). t.0) (sym (same_Some x s here)))
        same_labels (x ∷ xs) (suc i) s here = ap (λ (ls : List Label). x.0 ∷ ls) (same_labels xs i s here)

    either : (o : Option Sector) → slice_get d sector ≡ o → Differs test d (written (write.Page sector wanted bytes) d)
    either None e = subst (λ (o : Option Sector). Differs test d (option_map_or (λ old. if names old.0 wanted then slice_set d sector (old.0, bytes) else d) o d)) (sym e) (differs_itself test d)
    either (Some old) e = subst (λ (o : Option Sector). Differs test d (option_map_or (λ old. if names old.0 wanted then slice_set d sector (old.0, bytes) else d) o d)) (sym e)
        (there old e (names old.0 wanted) refl)

-- a label that names a loose page is loose
pub loose_label : (unforced : List FilePage) (wanted : Wanted) (l : Label) → is_loose unforced wanted.id wanted.page ≡ true → names l wanted ≡ true → is_loose unforced l.id l.page ≡ true
loose_label unforced wanted l loose named = (λ i. is_loose unforced (names_id l wanted named i) (names_page l wanted named i)) ∙ loose

pub loose_written : LooseWritten
loose_written d m sector wanted bytes h loose form =
    loose_may_differ d (written (write.Page sector wanted bytes) d) m h (page_differs (is_loose_at m.unforced) d sector wanted bytes (λ l named. loose_label m.unforced wanted l loose named))
    (sectors_stay d (write.Page sector wanted bytes) h.sectors form)

-- A memory and the disk under it.

pub merged_differs : (unforced : List FilePage) (sectors : List Sector) (slots : Slots) (memory : List Sector) → IsMerged sectors slots memory → DirtyAreLoose slots unforced
    → Differs (is_loose_at unforced) memory sectors
merged_differs unforced sectors slots memory merged loose = record {
  labels = sym merged.labels;
  pages = λ k s here fails. sym (merged.clean k (λ i f has dirty at.
      let home = merged.frames i f has in
      let same : home.label ≡ s.0 = ap (λ (t : Sector). t.0) (same_Some {A = Sector} (home.label, f.bytes) s (sym home.keeps ∙ ap (slice_get memory) at ∙ here)) in
      let named : names s.0 (wanted_at f.home) ≡ true = ap (λ (l : Label). names l (wanted_at f.home)) (sym same) ∙ home.named in
      let passes = loose f.home.id f.home.page (record { slot = i; frame = f; has = has; dirty = dirty; same_id = refl; same_page = refl }) in
      true≢false (sym (loose_label unforced (wanted_at f.home) s.0 passes named) ∙ fails))) ∙ here;
}

-- where nothing is left out, less may be
for_is_settled : (spaces_of : TablesMeaning) (memory : List Sector) (m : Machine) → IsFor spaces_of memory m → IsSettled memory m
for_is_settled spaces_of memory m h = record {
  machine = h.by.machine;
  sectors = h.by.sectors;
  root = h.by.root;
  map_labels = h.by.map_labels;
  table_pages = 96;
  labels = h.by.labels;
  cells = record { agrees = λ k s f p has at page firm. h.by.cells.agrees k s f p has at page refl };
}

module _ (spaces_of : TablesMeaning) where
  pub stands_is_settled : StandsIsSettled spaces_of
  stands_is_settled disk slots m d h revealed are =
      let same : h.stands.sectors ≡ d = same_Some h.stands.sectors d (sym h.stands.revealed ∙ revealed) in
      loose_may_differ h.memory d m (for_is_settled spaces_of h.memory m h.is)
      (subst (λ (x : List Sector). Differs (is_loose_at m.unforced) h.memory x) same (merged_differs m.unforced h.stands.sectors slots h.memory h.stands.merged h.dirty)) are

  -- a call that changes the memory so that it stands for another machine
  pub goes_stands : (P : Change) (pages : Pages) (run : List DiskWrite) (old new : DiskState) (before after : Slots) (m n : Machine) → (HasFrames before m.spaces → HasFrames after n.spaces)
      → ((x y : List Sector) → P x y → IsFor spaces_of x m → IsFor spaces_of y n)
      → ((id page : ℕ) → is_loose m.unforced id page ≡ true → is_loose n.unforced id page ≡ true) → ((id page : ℕ) → pages id page → is_loose n.unforced id page ≡ true)
      → Goes P pages run old before new after → StandsFor spaces_of old before m → StandsFor spaces_of new after n
  goes_stands P pages run old new before after m n kept changes more loose goes h =
      let x = goes.memory h.memory h.stands in
      record {
        memory = x.0;
        stands = x.1;
        is = changes h.memory x.0 x.2 h.is;
        dirty = λ id page is. elim (goes.makes.dirty id page is) [ inl was ↦ more id page (h.dirty id page was) | inr new ↦ loose id page new ];
        frames = kept h.frames;
      }

  pub swap_stands : SwapStands spaces_of
  swap_stands old new before after m swaps known h =
      goes_stands Same volume_page [] old new before after m m (frames_brought before after m.spaces known) (λ x y same is. subst (λ (z : List Sector). IsFor spaces_of z m) (sym same) is) (λ id page is. is) (λ id page own. volume_loose m.unforced id page own) swaps h

-- a run of writes to loose pages
module _ (m : Machine) where
  each_loose : (ws : List DiskWrite) (d : List Sector) → IsSettled d m → ((k : ℕ) (w : DiskWrite) → slice_get ws k ≡ Some w → IsWriteInForm w)
      → filter (λ w. not (is_page_write w)) ws ≡ []
      → ((k sector : ℕ) (wanted : Wanted) (bytes : List ℕ) → slice_get ws k ≡ Some (write.Page sector wanted bytes) → is_loose m.unforced wanted.id wanted.page ≡ true)
      → (k : ℕ) → IsSettled (crash_state d ws k) m
  each_loose ws d h form none loose zero = h
  each_loose [] d h form none loose (suc k) = h
  each_loose (write.Whole sector label bytes ∷ ws) d h form none loose (suc k) = absurd (no_more none)
    where
      no_more : ◌≡◌ {A = List DiskWrite} (write.Whole sector label bytes ∷ filter (λ w. not (is_page_write w)) ws) [] → ⊥
      no_more e = cc
  each_loose (write.LabelOnly sector label ∷ ws) d h form none loose (suc k) = absurd (no_more none)
    where
      no_more : ◌≡◌ {A = List DiskWrite} (write.LabelOnly sector label ∷ filter (λ w. not (is_page_write w)) ws) [] → ⊥
      no_more e = cc
  each_loose (write.Page sector wanted bytes ∷ ws) d h form none loose (suc k) =
      each_loose ws (written (write.Page sector wanted bytes) d) (loose_written d m sector wanted bytes h (loose 0 sector wanted bytes refl) (form 0 (write.Page sector wanted bytes) refl))
      (λ j w at. form (suc j) w at) none (λ j s v b at. loose (suc j) s v b at) k

pub swap_crash_states : (spaces_of : TablesMeaning) → SwapCrashStates spaces_of
swap_crash_states spaces_of old new before after m d swaps h revealed are k below =
    each_loose m swaps.makes.wrote.writes d (stands_is_settled spaces_of old before m d h revealed are) swaps.makes.wrote.form swaps.makes.wrote.labels
    (λ j sector wanted bytes at. elim (swaps.makes.wrote.of_dirty j sector wanted bytes at) [ inl was ↦ h.dirty wanted.id wanted.page was | inr own ↦ volume_loose m.unforced wanted.id wanted.page own ]) k
