-- Writes that keep the permanent files: of pages of the volume's own, and of a file that is temporary still.
use Rattle.std.proofs.Common.{◌≡◌, ◌≢◌, inl, inr, ℕ, zero, suc, ◌+◌, ◌-◌, ◌<◌, ◌≤◌, Bool, true, false, not, ◌||◌, List, [], ◌∷◌, length, Option, Some, None, refl, sym, ◌∙◌, ap, subst, arith}
use Rattle.std.specs.Prelude.{slice_get, option_map, filter, nat_lt, nat_le, ◌==◌, IsTrue, IsSomeAnd}
use Rattle.std.specs.Option.{option_map_or}
use Rattle.std.proofs.lemmas.Bool.{and_parts, cases_lt, eq-eqb, eqb-true, ne_eqb, or_from, or_left, or_parts, or_right, true≢false}
use Rattle.std.proofs.lemmas.Option.{none-some, same_Some}
use Rattle.labelled_disk.specs.declared.disk.DiskWrite.{DiskWrite}
use Rattle.labelled_disk.specs.declared.disk.DiskWrite.TheVariants as write
use Rattle.labelled_disk.specs.declared.label.Label.{Label}
use Rattle.labelled_disk.specs.declared.label.Wanted.{Wanted}
use Rattle.labelled_disk.specs.CrashState.{crash_state, written}
use Rattle.labelled_disk.specs.File.{File}
use Rattle.labelled_disk.specs.FilesOn.{disk_file, files_on, is_page}
use Rattle.labelled_disk.specs.Label.{is_file, names}
use Rattle.labelled_disk.specs.Layout.{first_data, vam, vfm}
use Rattle.labelled_disk.specs.Root.{LabelsRight, number_at, page_in, short_at}
use Rattle.labelled_disk.specs.Sectors.{Sector}
use Rattle.labelled_disk.specs.State.{DiskState}
use Rattle.labelled_disk.proofs.AscendingLemmas.{same_by_look_up}
use Rattle.labelled_disk.proofs.SectorWrites as w
use Rattle.labelled_disk.proofs.WriteLemmas as laws
use Rattle.label_laws.specs.MixedVolumes.{label_count}
use Rattle.label_laws.specs.Shape as shapes
use Rattle.label_laws.proofs.FileLemmas.{reserved_have_none}
use Rattle.label_laws.proofs.PageLemmas.{pages_by_sectors}
use Rattle.label_laws.proofs.ShapeLemmas.{labels_give_shape, same_by_pages}
use Rattle.label_laws.proofs.VolumeLemmas.{mixed_laws}
use Rattle.frame_pool.specs.Frames.{Slots}
use Rattle.swapper_kernel.specs.Differs.{Differs}
use Rattle.swapper_kernel.specs.DiffersLaws.{differs_itself, differs_then, differs_wider, same_place}
use Rattle.swapper_kernel.specs.Goes.{Wrote, is_page_write}
use Rattle.session_words.specs.FrameLaws.{HasFrames}
use Rattle.session_words.specs.Parts.{DirtyAreLoose, HasRoot, is_loose, is_loose_at}
use Rattle.session_words.specs.Volume.{volume_page}
use Rattle.session_words.proofs.CrashStateLemmas.{crash_states_are_like, few_labels}
use Rattle.session_words.proofs.FoundLemmas.{above_reserved, file_id_of}
use Rattle.session_words.proofs.LooseLemmas.{firm_root, names_id, names_page, page_differs, volume_loose}
use Rattle.volume_pair.specs.CrashStates.{HasFilesInUse, KeepsVolume}
use Rattle.volume_pair.specs.Sides.{with_own}

-- ---- The same volume.

pub volume_itself : (d : List Sector) → LabelsRight d → KeepsVolume d d
volume_itself d right = record { stays = record { files = refl; right = right }; root = refl }

pub volume_then : {d e f : List Sector} → KeepsVolume d e → KeepsVolume e f → KeepsVolume d f
volume_then h k = record { stays = record { files = k.stays.files ∙ h.stays.files; right = k.stays.right }; root = k.root ∙ h.root }

-- a volume in use, with these files
pub keeps_in_use : (x e : List Sector) (fs : List File) (n serial counter room : ℕ) → files_on x ≡ fs → HasRoot n (slice_get x 0) serial counter room → KeepsVolume x e → HasFilesInUse fs serial counter e
keeps_in_use x e fs n serial counter room files root k = (
  record {
    files_are = k.stays.files ∙ files;
    right = k.stays.right;
    same_serial = ap (λ (o : Option Sector). number_at (page_in o) 16) k.root ∙ root.has_serial;
    same_counter = ap (λ (o : Option Sector). number_at (page_in o) 20) k.root ∙ root.has_counter;
  },
  ap (λ (o : Option Sector). short_at (page_in o) 10) k.root ∙ root.open_flag,
)

-- ---- Pages of the volume's own, and of a file that is not there for all.

-- the label is of such a page
abbrev pub own_at : ℕ → ℕ → Label → Bool
own_at id place l = is_loose [] l.id l.page || (l.id == id)

module _ (id : ℕ) (d e : List Sector) (other : id ≢ 4) (differs : Differs (own_at id) d e) (right : LabelsRight d) (none : disk_file false d id ≡ None) where
  same_root : slice_get e 0 ≡ slice_get d 0
  same_root = same_place (own_at id) d e differs 0 (λ s here.
      let four : s.0.id ≡ 4 = names_id s.0 (record { id = 4; page = 0 }) (subst (λ (o : Option Sector). IsSomeAnd o (λ t. IsTrue (names t.0 (record { id = 4; page = 0 })))) here right.has_root.label) in
      or_from (is_loose [] s.0.id s.0.page) (s.0.id == id) (firm_root [] s.0.id s.0.page four) (ne_eqb s.0.id id (λ q. other (sym q ∙ four))))

  firm : (j p i : ℕ) (s : Sector) → j ≢ id → is_page j p s ≡ true → own_at id i s.0 ≡ false
  firm j p i s apart is =
      let parts = and_parts (is_file s.0) (s.0.id == j) (w.page_of false j p s is) in
      let above = above_reserved s.0.id (file_id_of s.0 parts.0) in
      let own = eqb-true s.0.id j parts.1 in
      let a : nat_lt s.0.id 4 ≡ false = grind arith in
      let b : nat_le 16 s.0.id ≡ true = grind arith in
      let c : (s.0.id == id) ≡ false = ne_eqb s.0.id id (λ q. apart (sym own ∙ q)) in
      rw (a, b, c) refl

  same_files : files_on e ≡ files_on d
  same_files =
      same_by_look_up (files_on e) (files_on d) (laws.files_on_rise false 0 0 e) (laws.files_on_rise false 0 0 d)
      (λ j. laws.look_up false 0 0 e j ∙ either j (disk_file false e j) refl (disk_file false d j) refl ((labels_give_shape false d e differs.labels).shapes j) ∙ sym (laws.look_up false 0 0 d j))
    where
      either : (j : ℕ) (o : Option File) → disk_file false e j ≡ o → (q : Option File) → disk_file false d j ≡ q → option_map shapes.bare_file o ≡ option_map shapes.bare_file q → o ≡ q
      either j None a None b same = refl
      either j None a (Some f) b same = absurd (none-some (shapes.bare_file f) same)
      either j (Some g) a None b same = absurd (none-some (shapes.bare_file g) (sym same))
      either j (Some g) a (Some f) b same =
          ap (λ (x : File). Some x)
          (same_by_pages f g (same_Some (shapes.bare_file g) (shapes.bare_file f) same)
          (λ p low. sym (ap (λ (o : Option File). option_map_or (λ (x : File). slice_get x.pages p) o None) a)
          ∙ pages_by_sectors false d e j p differs.labels (λ i s there is. differs.pages i s there.here (firm j p i s (λ q. none-some f (sym none ∙ ap (disk_file false d) (sym q) ∙ b)) is))
          ∙ ap (λ (o : Option File). option_map_or (λ (x : File). slice_get x.pages p) o None) b))

  pub own_keeps : KeepsVolume d e
  own_keeps = record {
    stays = record { files = same_files; right = (mixed_laws false).labels_right d e differs.labels same_root right };
    root = same_root;
  }

-- no file has the identifier 0
pub none_is_zero : (d : List Sector) → disk_file false d 0 ≡ None
none_is_zero d = reserved_have_none false d 0 refl

-- pages of the volume's own alone
pub loose_keeps : (d e : List Sector) → Differs (is_loose_at []) d e → LabelsRight d → KeepsVolume d e
loose_keeps d e differs right =
    own_keeps 0 d e (λ q. omega (arith, q)) (differs_wider (is_loose_at []) (own_at 0) d e (λ k s here firm. (or_parts (is_loose [] s.0.id s.0.page) (s.0.id == 0) firm).0) differs) right (none_is_zero d)

-- ---- Writes of such pages.

-- the label that names such a page is of it
own_label : (id place : ℕ) (wanted : Wanted) (l : Label) → (is_loose [] wanted.id wanted.page || (wanted.id == id)) ≡ true → names l wanted ≡ true → own_at id place l ≡ true
own_label id place wanted l own named = (λ i. is_loose [] (names_id l wanted named i) (names_page l wanted named i) || (names_id l wanted named i == id)) ∙ own

module _ (id : ℕ) where
  each_own : (ws : List DiskWrite) (d b : List Sector) → Differs (own_at id) d b → filter (λ w. not (is_page_write w)) ws ≡ []
      → ((k sector : ℕ) (wanted : Wanted) (bytes : List ℕ) → slice_get ws k ≡ Some (write.Page sector wanted bytes) → (is_loose [] wanted.id wanted.page || (wanted.id == id)) ≡ true) → (k : ℕ) → Differs (own_at id) d (crash_state b ws k)
  each_own ws d b like none own zero = like
  each_own [] d b like none own (suc k) = like
  each_own (write.Whole sector label bytes ∷ ws) d b like none own (suc k) = absurd (no_more none)
    where
      no_more : ◌≡◌ {A = List DiskWrite} (write.Whole sector label bytes ∷ filter (λ w. not (is_page_write w)) ws) [] → ⊥
      no_more e = cc
  each_own (write.LabelOnly sector label ∷ ws) d b like none own (suc k) = absurd (no_more none)
    where
      no_more : ◌≡◌ {A = List DiskWrite} (write.LabelOnly sector label ∷ filter (λ w. not (is_page_write w)) ws) [] → ⊥
      no_more e = cc
  each_own (write.Page sector wanted bytes ∷ ws) d b like none own (suc k) =
      each_own ws d (written (write.Page sector wanted bytes) b)
      (differs_then (own_at id) d b (written (write.Page sector wanted bytes) b) like (page_differs (own_at id) b sector wanted bytes (λ l named. own_label id sector wanted l (own 0 sector wanted bytes refl) named))) none
      (λ j s v c at. own (suc j) s v c at) k

pub pages_keep : (id : ℕ) → id ≢ 4 → (old new : DiskState) (before : Slots) (d : List Sector) (wrote : Wrote (with_own id) [] old before new) → DirtyAreLoose before [] → LabelsRight d → disk_file false d id ≡ None → (k : ℕ) → KeepsVolume d (crash_state d wrote.writes k)
pages_keep id other old new before d wrote loose right none k =
    own_keeps id d (crash_state d wrote.writes k) other (each_own id wrote.writes d d (differs_itself (own_at id) d) wrote.labels own k) right none
  where
    own : (j sector : ℕ) (wanted : Wanted) (bytes : List ℕ) → slice_get wrote.writes j ≡ Some (write.Page sector wanted bytes) → (is_loose [] wanted.id wanted.page || (wanted.id == id)) ≡ true
    own j sector wanted bytes at = elim (wrote.of_dirty j sector wanted bytes at) [
      | inl was ↦ or_left (is_loose [] wanted.id wanted.page) (wanted.id == id) (loose wanted.id wanted.page was)
      | inr (inl low) ↦ or_left (is_loose [] wanted.id wanted.page) (wanted.id == id) (volume_loose [] wanted.id wanted.page low)
      | inr (inr same) ↦ or_right (is_loose [] wanted.id wanted.page) (wanted.id == id) (eq-eqb wanted.id id same)
    ]

-- writes of labels that keep them, with pages of the volume's own between
pub run_keeps : (run : List DiskWrite) (old new : DiskState) (before : Slots) (d : List Sector) (wrote : Wrote volume_page run old before new) → DirtyAreLoose before [] → old.contents ≡ Some d → ((j : ℕ) → j ≤ length run → KeepsVolume d (crash_state d run j))
    → (k : ℕ) → KeepsVolume d (crash_state d wrote.writes k)
run_keeps run old new before d wrote loose revealed keeps k =
    let first = keeps (label_count wrote.writes k) (few_labels run old new before wrote k) in
    volume_then first (loose_keeps (crash_state d run (label_count wrote.writes k)) (crash_state d wrote.writes k) (crash_states_are_like [] run old new before d wrote loose revealed k) first.stays.right)

-- ---- Frames.

-- frames of the volume's own pages alone
pub frames_loose : (slots : Slots) → HasFrames slots [] → DirtyAreLoose slots []
frames_loose slots frames id page dirty = elim (frames.known id page (record { slot = dirty.slot; frame = dirty.frame; has = dirty.has; same_id = dirty.same_id; same_page = dirty.same_page })) [
  | inl (some, few) ↦ volume_loose [] id page (omega (arith, few))
  | inr shown ↦ absurd (true≢false (sym shown))
]

-- ---- Where the sectors of files are.

-- a sector with the label of a file is a data sector
pub data_of : (d : List Sector) → LabelsRight d → (k : ℕ) (s : Sector) → slice_get d k ≡ Some s → 16 ≤ s.0.id → first_data (length d) ≤ k
unfolding first_data
data_of d right k s here high = elim (cases_lt k (1 + vam (length d) + vfm (length d))) [
  | inr past ↦ past
  | inl low ↦ absurd (by k here low)
]
  where
    named : (i : ℕ) (t : Sector) (v : Wanted) → slice_get d i ≡ Some t → IsSomeAnd (slice_get d i) (λ u. IsTrue (names u.0 v)) → t.0.id ≡ v.id
    named i t v at is = names_id t.0 v (subst (λ (o : Option Sector). IsSomeAnd o (λ u. IsTrue (names u.0 v))) at is)

    by : (i : ℕ) → slice_get d i ≡ Some s → i < 1 + vam (length d) + vfm (length d) → ⊥
    by zero at low = let four = named 0 s (record { id = 4; page = 0 }) at right.has_root.label in omega (arith, four, high)
    by (suc i) at low = elim (cases_lt i (vam (length d))) [
      | inl first ↦ let place : 1 + i ≡ suc i = omega arith in let one = named (1 + i) s (record { id = 1; page = i }) (ap (slice_get d) place ∙ at) (right.has_maps.allocation i first) in omega (arith, one, high)
      | inr rest ↦
          let place : suc i ≡ 1 + vam (length d) + (i - vam (length d)) = omega (arith, rest) in
          let two = named (1 + vam (length d) + (i - vam (length d))) s (record { id = 2; page = i - vam (length d) }) (ap (slice_get d) (sym place) ∙ at) (right.has_maps.file_map (i - vam (length d)) (omega (arith, rest, low))) in
          omega (arith, two, high)
    ]
