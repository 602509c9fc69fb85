-- What spares a file, byte by byte, from the start of a run to its end.
use Rattle.std.proofs.Common.{◌≡◌, ◌≢◌, ◌⊎◌, inl, inr, ℕ, zero, suc, ◌<◌, ◌≤◌, Bool, true, false, List, [], ◌∷◌, length, take, Option, Some, None, refl, sym, ◌∙◌, ap, subst, arith}
use Rattle.std.specs.Prelude.{slice_get, slice_set, if◌then◌else◌}
use Rattle.std.specs.List.{list_any}
use Rattle.std.specs.Option.{option_map_or}
use Rattle.std.proofs.lemmas.Bool.{cases_eq, eq-eqb, eqb-true, ne_eqb}
use Rattle.std.proofs.lemmas.Option.{none-some, same_Some}
use Rattle.labelled_disk.specs.declared.disk.DiskWrite.{DiskWrite}
use Rattle.labelled_disk.specs.declared.disk.DiskWrite.TheVariants as write
use Rattle.labelled_disk.specs.declared.label.Label.{Label}
use Rattle.labelled_disk.specs.declared.label.Wanted.{Wanted}
use Rattle.labelled_disk.specs.CrashState.{crash_state, written}
use Rattle.labelled_disk.specs.Label.{is_free, names}
use Rattle.labelled_disk.specs.Permitted.{Permitted}
use Rattle.labelled_disk.specs.Root.{root_page}
use Rattle.labelled_disk.specs.Runs.{growth}
use Rattle.labelled_disk.specs.Sectors.{Sector}
use Rattle.labelled_disk.specs.State.{DiskState}
use Rattle.frame_pool.specs.Frames.{Slots}
use Rattle.flat_machine.specs.After.{TraceLine}
use Rattle.swapper_kernel.specs.DiffersLaws.{names_id}
use Rattle.file_map.specs.FileMap.{Triples}
use Rattle.file_map.specs.InSectors.{MapNames}
use Rattle.swapper_kernel.specs.Goes.{IsDirty, Makes, Pages, Went, Wrote}
use Rattle.swapper_kernel.specs.GoesLaws.{makes_then, makes_wider}
use Rattle.session_words.specs.Volume.{volume_page}
use Rattle.volume_root.specs.declared.root.Root.{Root}
use Rattle.volume_root.specs.RootPage.{root_in, root_write}
use Rattle.file_manager.specs.Creating.{IsMonotone, next_id}
use Rattle.pilot_engine.specs.Opening.{WroteFirst, in_use}
use Rattle.pilot_engine.specs.Sparing.{HasSameLabels, IsLasting, Spares, SparesAll, label_for}
use Rattle.pilot_engine.proofs.SparedCalls.{for_growth, for_take, spares_all, spares_with, with_growth, with_take}
use Rattle.pilot_engine.proofs.SparingLemmas.{no_label, own_label, spares_then}
use Rattle.pilot_engine.specs.Writing.{Written}
use Rattle.pilot_top.specs.Parts.{PartMay}
use Rattle.pilot_top.specs.Sparing.{HasSameSectors, IsPermanentFile, OfShown, PartMakes, RunSpares, Spared, SparesInParts, names_file, other_file, sector_for}
use Rattle.pilot_top.proofs.LineParts.{same_list, start_wrote}
use Rattle.pilot_top.proofs.PartSpareLemmas.{spares_longer, spares_none, spares_started}
use Rattle.pilot_top.proofs.SparedLineLemmas.{own_other}

-- ---- The bytes.

pub no_sector : (id : ℕ) (s : Sector) → s.0.id ≢ id → sector_for id (Some s) ≡ None
no_sector id s other = ap (λ (b : Bool). if b then Some s else None) (ne_eqb s.0.id id other)

pub own_sector : (id : ℕ) (s : Sector) → s.0.id ≡ id → sector_for id (Some s) ≡ Some s
own_sector id s own = ap (λ (b : Bool). if b then Some s else None) (eq-eqb s.0.id id own)

get_other : {X : Type 0} → (xs : List X) (i k : ℕ) (a : X) → k ≢ i → slice_get (slice_set xs i a) k ≡ slice_get xs k
get_other [] i k a other = refl
get_other (x ∷ xs) zero zero a other = absurd (other refl)
get_other (x ∷ xs) zero (suc k) a other = refl
get_other (x ∷ xs) (suc i) zero a other = refl
get_other (x ∷ xs) (suc i) (suc k) a other = get_other xs i k a (omega arith)

get_set : {X : Type 0} → (xs : List X) (i : ℕ) (s a : X) → slice_get xs i ≡ Some s → slice_get (slice_set xs i a) i ≡ Some a
get_set [] i s a there = absurd (none-some s there)
get_set (x ∷ xs) zero s a there = refl
get_set (x ∷ xs) (suc i) s a there = get_set xs i s a there

-- one sector is another
changed : (id : ℕ) (d : List Sector) (sector : ℕ) (s t : Sector) → slice_get d sector ≡ Some s → (0 < sector → sector_for id (Some t) ≡ sector_for id (Some s)) → HasSameSectors id d (slice_set d sector t)
changed id d sector s t there same i above = elim (cases_eq i sector) [
  | inl here ↦ subst (λ (j : ℕ). sector_for id (slice_get (slice_set d sector t) j) ≡ sector_for id (slice_get d j)) (sym here)
      (ap (sector_for id) (get_set d sector s t there) ∙ same (subst (λ (j : ℕ). 0 < j) here above) ∙ ap (sector_for id) (sym there))
  | inr other ↦ ap (sector_for id) (get_other d sector i t other)
]

outside : (id : ℕ) (d : List Sector) (t : Sector) → HasSameSectors id d (slice_set d 0 t)
outside id d t i above = ap (sector_for id) (get_other d 0 i t (omega (arith, above)))

-- where the labels say the same of the file, and so do the bytes, the sectors do
same_part : (id : ℕ) (s t : Sector) → label_for id (Some t) ≡ label_for id (Some s) → (s.0.id ≡ id → t.1 ≡ s.1) → sector_for id (Some t) ≡ sector_for id (Some s)
same_part id s t labels bytes = elim (cases_eq s.0.id id) [
  | inr other ↦ elim (cases_eq t.0.id id) [
    | inr none ↦ no_sector id t none ∙ sym (no_sector id s other)
    | inl own ↦ absurd (none-some t.0 (sym (no_label id s other) ∙ sym labels ∙ own_label id t own))
  ]
  | inl own ↦ elim (cases_eq t.0.id id) [
    | inr none ↦ absurd (none-some s.0 (sym (no_label id t none) ∙ labels ∙ own_label id s own))
    | inl too ↦
        let label : t.0 ≡ s.0 = same_Some t.0 s.0 (sym (own_label id t too) ∙ labels ∙ own_label id s own) in
        own_sector id t too ∙ ap (λ (x : Sector). Some x) (λ i. (label i, bytes own i)) ∙ sym (own_sector id s own)
  ]
]

-- a page that is written is another file's
abbrev pub IsOtherPage : ℕ → DiskWrite → Type 0
IsOtherPage id (write.Whole sector label page) = Unit {0}
IsOtherPage id (write.LabelOnly sector label) = Unit {0}
IsOtherPage id (write.Page sector wanted page) = wanted.id ≢ id

free_id : (l : Label) → is_free l ≡ true → l.id ≡ 0
free_id l free = eqb-true l.id 0 free

here_now : (id : ℕ) (d : List Sector) (sector : ℕ) (s t : Sector) → slice_get d sector ≡ Some s → HasSameLabels id d (slice_set d sector t) → 0 < sector → label_for id (Some t) ≡ label_for id (Some s)
here_now id d sector s t there same above = ap (label_for id) (sym (get_set d sector s t there)) ∙ same sector above ∙ ap (label_for id) there

by_names : (id : ℕ) (d : List Sector) (sector : ℕ) (s : Sector) (wanted : Wanted) (bytes : List ℕ) (b : Bool) → slice_get d sector ≡ Some s → names s.0 wanted ≡ true → wanted.id ≢ id → HasSameSectors id d (if b then slice_set d sector (s.0, bytes) else d)
by_names id d sector s wanted bytes true there named other =
    let apart = λ (own : s.0.id ≡ id). other (sym (names_id s.0 wanted named) ∙ own) in
    changed id d sector s (s.0, bytes) there (λ above. no_sector id (s.0, bytes) apart ∙ sym (no_sector id s apart))
by_names id d sector s wanted bytes false there named other = λ i above. refl

-- one write that leaves the labels
pub write_same : (id : ℕ) → 16 ≤ id → (d : List Sector) (w : DiskWrite) → Permitted d w → IsOtherPage id w → HasSameLabels id d (written w d) → HasSameSectors id d (written w d)
write_same id client d (write.Whole sector label page) (inl root) other labels = subst (λ (k : ℕ). HasSameSectors id d (slice_set d k (label, page))) (sym root.place) (outside id d (label, page))
write_same id client d (write.Whole sector label page) (inr fresh) other labels =
    let s = fresh.old.0 in
    let was : s.0.id ≡ 0 = free_id s.0 fresh.old.2 in
    changed id d sector s (label, page) fresh.old.1.here
    (λ above. same_part id s (label, page) (here_now id d sector s (label, page) fresh.old.1.here labels above) (λ own. absurd (let z : 0 ≡ id = sym was ∙ own in omega (arith, client, z))))
write_same id client d (write.LabelOnly sector label) permitted other labels =
    let s = permitted.old.0 in
    let there = permitted.old.1.here in
    let now : HasSameLabels id d (slice_set d sector (label, s.1)) = subst (λ (o : Option Sector). HasSameLabels id d (option_map_or (λ old. slice_set d sector (label, old.1)) o d)) there labels in
    subst (λ (o : Option Sector). HasSameSectors id d (option_map_or (λ old. slice_set d sector (label, old.1)) o d)) (sym there)
    (changed id d sector s (label, s.1) there (λ above. same_part id s (label, s.1) (here_now id d sector s (label, s.1) there now above) (λ own. refl)))
write_same id client d (write.Page sector wanted bytes) permitted other labels =
    let s = permitted.old.0 in
    subst (λ (o : Option Sector). HasSameSectors id d (option_map_or (λ old. if names old.0 wanted then slice_set d sector (old.0, bytes) else d) o d)) (sym permitted.old.1)
    (by_names id d sector s wanted bytes (names s.0 wanted) permitted.old.1 permitted.old.2 other)

pub sectors_then : (id : ℕ) (c d e : List Sector) → HasSameSectors id c d → HasSameSectors id d e → HasSameSectors id c e
sectors_then id c d e one more i above = more i above ∙ one i above

-- writes in a row
row_same : (id : ℕ) → 16 ≤ id → (d : List Sector) (ws : List DiskWrite) → ((k : ℕ) (w : DiskWrite) → slice_get ws k ≡ Some w → Permitted (crash_state d ws k) w × IsOtherPage id w)
    → ((k : ℕ) → HasSameLabels id d (crash_state d ws k)) → (k : ℕ) → HasSameSectors id d (crash_state d ws k)
row_same id client d ws each labels zero = λ i above. refl
row_same id client d [] each labels (suc k) = λ i above. refl
row_same id client d (w ∷ ws) each labels (suc k) =
    let first = each 0 w refl in
    let mid : List Sector = written w d in
    let now : HasSameLabels id d mid = first_labels ws (labels 1) in
    sectors_then id d mid (crash_state mid ws k) (write_same id client d w first.0 first.1 now)
    (row_same id client mid ws (λ j v at. each (suc j) v at) (λ j i above. labels (suc j) i above ∙ sym (now i above)) k)
  where
    first_labels : (vs : List DiskWrite) → HasSameLabels id d (crash_state (written w d) vs 0) → HasSameLabels id d (written w d)
    first_labels vs is = is

-- ---- A whole run.

-- pages of other files alone are written
other_pages : (id : ℕ) {pages : Pages} → ((file page : ℕ) → pages file page → other_file id file page) → {run : List DiskWrite} {a b : DiskState} {s : Slots} (wrote : Wrote pages run a s b) → ((page : ℕ) → IsDirty s id page → ⊥) → (k : ℕ) (w : DiskWrite) → slice_get wrote.writes k ≡ Some w → IsOtherPage id w
other_pages id others wrote clean k (write.Whole sector label page) at = tt
other_pages id others wrote clean k (write.LabelOnly sector label) at = tt
other_pages id others {s = s} wrote clean k (write.Page sector wanted page) at = λ is. elim (wrote.of_dirty k sector wanted page at) [
  | inl dirty ↦ clean wanted.page (subst (λ (n : ℕ). IsDirty s n wanted.page) is dirty)
  | inr own ↦ others wanted.id wanted.page own is
]

same_bytes : (id : ℕ) → 16 ≤ id → {pages : Pages} → ((file page : ℕ) → pages file page → other_file id file page) → (d : List Sector) (earlier : List DiskWrite) {run : List DiskWrite} {a c : DiskState} {s : Slots} (all : Spares id a c)
    (wrote : Wrote pages run a s c) → ((page : ℕ) → IsDirty s id page → ⊥)
    → a.contents ≡ Some d → a.writes ≡ Some earlier → IsLasting id d → (k : ℕ) → HasSameSectors id d (crash_state d all.writes k)
same_bytes id client others d earlier all wrote clean revealed made lasting =
    let same = same_list earlier wrote.writes all.writes made wrote.appended all.appended in
    subst (λ (ws : List DiskWrite). (k : ℕ) → HasSameSectors id d (crash_state d ws k)) same
    (row_same id client d wrote.writes (λ k w at. (wrote.permitted d k w revealed at, other_pages id others wrote clean k w at))
    (subst (λ (ws : List DiskWrite). (k : ℕ) → HasSameLabels id d (crash_state d ws k)) (sym same) (all.same d earlier revealed made lasting)))

start_spares : {a b : DiskState} → WroteFirst a b → SparesAll a b
start_spares wrote =
    let run = root_write (in_use wrote.root) ∷ growth 3 0 0 wrote.sectors in
    spares_all 3 (omega arith) (spares_with 3 (for_take 3 wrote.count run (inl refl, for_growth 3 0 0 wrote.sectors)) (with_take wrote.count run (with_growth 3 0 0 wrote.sectors)) wrote.wrote)

pub none_dirty : (id page : ℕ) → IsDirty [] id page → ⊥
none_dirty id page dirty = none-some _ dirty.has.is

-- a start, whatever frames there are
start_makes : {a b : DiskState} (s : Slots) (wrote : WroteFirst a b) → Makes volume_page (take wrote.count (root_write (in_use wrote.root) ∷ growth 3 0 0 wrote.sectors)) a s b s
start_makes s wrote = record {
  went = wrote.went;
  dirty = λ id page is. inl is;
  wrote = record {
    writes = wrote.wrote.writes;
    appended = wrote.wrote.appended;
    form = wrote.wrote.form;
    permitted = wrote.wrote.permitted;
    labels = wrote.wrote.labels;
    of_dirty = λ k sector wanted bytes at. elim (wrote.wrote.of_dirty k sector wanted bytes at) [
      | inl dirty ↦ absurd (none_dirty wanted.id wanted.page dirty)
      | inr own ↦ inr own
    ];
  };
  count = refl;
}

-- what a start wrote is part 0
start_makes_part : (limit : ℕ) (lines : List TraceLine) (hid : ℕ → Type 0) {a b : DiskState} → WroteFirst a b → Written (PartMakes limit lines [] hid 0) a b
start_makes_part limit lines hid {a = a} {b = b} wrote = record {
  writes = wrote.wrote.writes;
  appended = wrote.wrote.appended;
  each = λ d earlier k w revealed made at.
      let first = start_wrote lines wrote in
      let same : first.writes ≡ wrote.wrote.writes = same_list earlier first.writes wrote.wrote.writes made first.appended wrote.wrote.appended in
      (subst (λ (ws : List DiskWrite). slice_get ws k ≡ Some w → PartMay lines 0 (crash_state d ws k) w) same (first.each d earlier k w revealed made) at, shown k w at);
}
  where
    shown : (k : ℕ) (w : DiskWrite) → slice_get wrote.wrote.writes k ≡ Some w → OfShown limit lines [] hid 0 w
    shown k (write.Whole sector label bytes) at = tt
    shown k (write.LabelOnly sector label) at = tt
    shown k (write.Page sector wanted bytes) at = (λ none. own, λ id client low none is. elim own [ inl dirty ↦ inl dirty | inr page ↦ inr (own_other id client wanted.id wanted.page page) ])
      where
        own : IsDirty [] wanted.id wanted.page ⊎ volume_page wanted.id wanted.page
        own = wrote.wrote.of_dirty k sector wanted bytes at

-- the start alone, and a whole run
pub start_in_parts : (limit : ℕ) (lines : List TraceLine) (hid : ℕ → Type 0) {a b : DiskState} → WroteFirst a b → SparesInParts limit lines (suc (length lines)) a [] b hid
start_in_parts limit lines hid {b = b} wrote =
    spares_started limit limit lines (suc (length lines)) [] hid hid (omega arith) (λ id page dirty. absurd (none_dirty id page dirty)) (λ id is. is) (start_makes_part limit lines hid wrote) (start_spares wrote)
    (spares_longer limit [] lines lines (suc (length lines)) refl (omega arith) (spares_none limit b [] hid))

pub run_in_parts : (limit : ℕ) (root : Root) (lines : List TraceLine) (s : Slots) (some hid : ℕ → Type 0) {a b c : DiskState} → limit ≤ next_id root → WroteFirst a b → ((id page : ℕ) → IsDirty s id page → volume_page id page) → ((id : ℕ) → some id → hid id)
    → RunSpares root lines b s c hid → SparesInParts limit lines (suc (length lines)) a [] c some
run_in_parts limit root lines s some hid low wrote clean too run =
    spares_started (next_id root) limit lines (suc (length lines)) s some hid low clean too (start_makes_part limit lines some wrote) (start_spares wrote) run.in_parts

-- no session started
pub start_spared : (id : ℕ) (lines : List TraceLine) (d : List Sector) (earlier : List DiskWrite) {a b : DiskState} → WroteFirst a b → IsPermanentFile id d → a.contents ≡ Some d → a.writes ≡ Some earlier → Spared id lines d a b
start_spared id lines d earlier wrote file revealed made =
    let all = start_spares wrote id file.client in
    record {
      writes = all.writes;
      appended = all.appended;
      labels = all.same d earlier revealed made file.lasting;
      sectors = λ none. same_bytes id file.client (own_other id file.client) d earlier all wrote.wrote (none_dirty id) revealed made file.lasting;
      hidden = λ named map none. same_bytes id file.client (own_other id file.client) d earlier all wrote.wrote (none_dirty id) revealed made file.lasting;
    }

-- a session started, with this root, and was ended or stopped
pub run_spared : (id : ℕ) (lines : List TraceLine) (d : List Sector) (earlier : List DiskWrite) (root : Root) (s : Slots) {a b c : DiskState} {hid : ℕ → Type 0} → WroteFirst a b → ((i page : ℕ) → IsDirty s i page → volume_page i page) → Went b c
    → RunSpares root lines b s c hid → ((named : Triples) → MapNames d named → hid id) → IsMonotone (root_in (root_page d)) root → IsPermanentFile id d → list_any (names_file id) lines ≡ false → a.contents ≡ Some d → a.writes ≡ Some earlier → Spared id lines d a c
run_spared id lines d earlier root s wrote clean went run hid later file untouched revealed made =
    let low = file.given in
    let up = later.0 in
    let all = spares_then (start_spares wrote id file.client) (run.spares id file.client (omega (arith, low, up)) untouched) in
    record {
      writes = all.writes;
      appended = all.appended;
      labels = all.same d earlier revealed made file.lasting;
      sectors = λ none.
          let rest = run.quiet none in
          let client = file.client in
          same_bytes id file.client (own_other id file.client) d earlier all (makes_then (start_makes s wrote) (rest_makes went rest.1)).wrote (λ page dirty. let own = clean id page dirty in omega (arith, own, client)) revealed made file.lasting;
      hidden = λ named map none.
          let client = file.client in
          let rest = run.apart id client (omega (arith, low, up)) none (hid named map) in
          same_bytes id client (λ i page other. other) d earlier all (makes_then (makes_wider (other_file id) (own_other id client) (start_makes s wrote)) (rest_makes went rest.1)).wrote
          (λ page dirty. let own = clean id page dirty in omega (arith, own, client)) revealed made file.lasting;
    }
  where
    rest_makes : {pages : Pages} {run : List DiskWrite} {x y : DiskState} {t : Slots} → Went x y → Wrote pages run x t y → Makes pages run x t y t
    rest_makes gone made_so = record { went = gone; dirty = λ i page is. inl is; wrote = made_so; count = refl }
