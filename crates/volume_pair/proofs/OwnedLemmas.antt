-- Whose sectors are written, by calls in a row.
use Rattle.std.proofs.Common.{◌≡◌, ◌≢◌, ◌⊎◌, inl, inr, ℕ, zero, suc, ◌+◌, ◌<◌, ◌≤◌, Bool, true, false, not, List, [], ◌∷◌, ◌++◌, length, take, Option, Some, refl, sym, ◌∙◌, ap, subst, arith}
use Rattle.std.specs.Prelude.{filter, option_map, slice_get}
use Rattle.std.specs.List.{AllByRecursion}
use Rattle.std.proofs.lemmas.Bool.{true≢false}
use Rattle.std.proofs.lemmas.List.{append_cancel_left}
use Rattle.std.proofs.lemmas.Option.{none-some, same_Some}
use Rattle.labelled_disk.specs.declared.disk.DiskWrite.{DiskWrite}
use Rattle.labelled_disk.specs.declared.disk.DiskWrite.TheVariants as write
use Rattle.labelled_disk.specs.declared.label.Label.{Label}
use Rattle.labelled_disk.specs.Calls.{RevealsSame}
use Rattle.labelled_disk.specs.CrashState.{crash_state}
use Rattle.labelled_disk.specs.Label.{page_label}
use Rattle.labelled_disk.specs.Layout.{first_data}
use Rattle.labelled_disk.specs.Permitted.{Permitted}
use Rattle.labelled_disk.specs.Runs.{creation, growth, sector_of}
use Rattle.labelled_disk.specs.Sectors.{Sector}
use Rattle.labelled_disk.specs.State.{DiskState}
use Rattle.labelled_disk.specs.WriteRuns.{Appended, after_writes}
use Rattle.labelled_disk.proofs.WriteLemmas.{first_positive}
use Rattle.labelled_disk.proofs.WriteRunLemmas.{appended_none, appended_then, crash_state-earlier, crash_state-later}
use Rattle.label_laws.proofs.MixedLemmas.{sector_stays}
use Rattle.frame_pool.specs.Frames.{Slots}
use Rattle.swapper_kernel.specs.Goes.{IsDirty, Makes, Pages, Wrote, is_page_write, no_page}
use Rattle.label_calls.specs.Own.{RelabelsOwn}
use Rattle.label_calls.specs.OwnLaws.{place_in, revealed_after}
use Rattle.filer_kernel.specs.View.{MakesOnly, View}
use Rattle.session_words.specs.Volume.{volume_page}
use Rattle.volume_pair.specs.Owned.{EachWrite, Files, IsBesideRoot, IsWriteFor, RevealsWrites, WritesFor, no_file, this_file}
use Rattle.volume_pair.specs.Sides.{IsLookedAt, with_own}

-- ---- Each write.

pub each_wider : {P Q : List Sector → DiskWrite → Type 0} {a b : DiskState} → ((d : List Sector) (w : DiskWrite) → P d w → Q d w) → EachWrite P a b → EachWrite Q a b
each_wider wider h = record { writes = h.writes; appended = h.appended; each = λ d k w revealed at. wider (crash_state d h.writes k) w (h.each d k w revealed at) }

-- of one call and then another
pub each_then : {P : List Sector → DiskWrite → Type 0} {a b c : DiskState} → EachWrite P a b → EachWrite P b c → EachWrite P a c
each_then {P = P} h k = record {
  writes = h.writes ++ k.writes;
  appended = appended_then h.writes k.writes h.appended k.appended;
  each = λ d i w revealed at. elim (place_in h.writes k.writes i w at) [
    | inl (below, here) ↦ subst (λ (now : List Sector). P now w) (sym (crash_state-earlier d h.writes k.writes i (omega (arith, below)))) (h.each d i w revealed here)
    | inr (j, past, here) ↦ subst (λ (now : List Sector). P now w) (sym (ap (crash_state d (h.writes ++ k.writes)) past ∙ crash_state-later d h.writes k.writes j))
        (k.each (after_writes h.writes d) j w (h.appended.contents ∙ ap (option_map (after_writes h.writes)) revealed) here)
  ];
}

-- a disk that reveals its writes still does
pub reveals_still : {P : List Sector → DiskWrite → Type 0} {a b : DiskState} → EachWrite P a b → RevealsWrites a → RevealsWrites b
reveals_still h (before, is) = (before ++ h.writes, revealed_after h.writes before h.appended is)

-- the sector of the root is that of before
pub root_stays : {a b : DiskState} → EachWrite IsBesideRoot a b → (d e : List Sector) → a.contents ≡ Some d → b.contents ≡ Some e → slice_get e 0 ≡ slice_get d 0
root_stays h d e revealed now =
    let last : after_writes h.writes d ≡ e = same_Some (after_writes h.writes d) e (sym (h.appended.contents ∙ ap (option_map (after_writes h.writes)) revealed) ∙ now) in
    ap (λ (l : List Sector). slice_get l 0) (sym last) ∙ stays d h.writes (λ k w at. h.each d k w revealed at)
  where
    all : (P : DiskWrite → Type 0) (ws : List DiskWrite) → ((k : ℕ) (w : DiskWrite) → slice_get ws k ≡ Some w → P w) → AllByRecursion P ws
    all P [] each = tt
    all P (w ∷ ws) each = (each 0 w refl, all P ws (λ k v at. each (suc k) v at))

    take_all : (ws : List DiskWrite) → take (length ws) ws ≡ ws
    take_all [] = refl
    take_all (w ∷ ws) = ap (λ (l : List DiskWrite). w ∷ l) (take_all ws)

    stays : (d : List Sector) (ws : List DiskWrite) → ((k : ℕ) (w : DiskWrite) → slice_get ws k ≡ Some w → sector_of w ≢ 0) → slice_get (after_writes ws d) 0 ≡ slice_get d 0
    stays d ws each =
        let every = all (λ w. sector_of w ≢ 0) ws each in
        subst (λ (l : List DiskWrite). slice_get (after_writes l d) 0 ≡ slice_get d 0) (take_all ws) (sector_stays d ws (length ws) 0 (subst (λ (l : List DiskWrite). AllByRecursion (λ w. sector_of w ≢ 0) l) (sym (take_all ws)) every))

-- ---- Calls that say what they wrote.

-- a label with its page is one of a file of these; one without is not asked
abbrev pub IsLabelOf : Files → DiskWrite → Type 0
IsLabelOf files (write.Whole sector label bytes) = (16 ≤ label.id) × files label.id
IsLabelOf files (write.LabelOnly sector label) = Unit {0}
IsLabelOf files (write.Page sector wanted bytes) = Unit {0}

-- what holds of the labels holds of the writes of labels among all writes
among : (P : DiskWrite → Type 0) (ws : List DiskWrite) → AllByRecursion P (filter (λ w. not (is_page_write w)) ws) → (k : ℕ) (w : DiskWrite) → slice_get ws k ≡ Some w → is_page_write w ≡ false → P w
among P [] all k w at label = absurd (none-some w at)
among P (write.Whole sector l bytes ∷ ws) all zero w at label = subst P (same_Some (write.Whole sector l bytes) w at) all.0
among P (write.Whole sector l bytes ∷ ws) all (suc k) w at label = among P ws all.1 k w at label
among P (write.LabelOnly sector l ∷ ws) all zero w at label = subst P (same_Some (write.LabelOnly sector l) w at) all.0
among P (write.LabelOnly sector l ∷ ws) all (suc k) w at label = among P ws all.1 k w at label
among P (write.Page sector wanted bytes ∷ ws) all zero w at label = absurd (true≢false (ap is_page_write (same_Some (write.Page sector wanted bytes) w at) ∙ label))
among P (write.Page sector wanted bytes ∷ ws) all (suc k) w at label = among P ws all k w at label

data_positive : (d : List Sector) (i : ℕ) → first_data (length d) ≤ i → i ≢ 0
data_positive d i above e = let low = first_positive false 0 0 (length d) in omega (arith, low, above, e)

module _ {pages : Pages} {run : List DiskWrite} (v w : View) (files : Files) (few : (id page : ℕ) → pages id page → (id < 4) ⊎ files id) (labels : AllByRecursion (IsLabelOf files) run) (makes : MakesOnly pages run v w) where
  own_labels : AllByRecursion (IsLabelOf files) (filter (λ x. not (is_page_write x)) makes.wrote.writes)
  own_labels = subst (λ (l : List DiskWrite). AllByRecursion (IsLabelOf files) l) (sym makes.wrote.labels) labels

  pub beside_root : EachWrite IsBesideRoot v.disk w.disk
  beside_root = record {
    writes = makes.wrote.writes;
    appended = makes.wrote.appended;
    each = λ d k x revealed at. by (crash_state d makes.wrote.writes k) x (among (IsLabelOf files) makes.wrote.writes own_labels k x at) (makes.wrote.permitted d k x revealed at);
  }
    where
      by : (d : List Sector) (x : DiskWrite) → (is_page_write x ≡ false → IsLabelOf files x) → Permitted d x → sector_of x ≢ 0
      by d (write.Whole sector label bytes) of (inl root) = λ e. let high = (of refl).0 in let four = ap (λ (l : Label). l.id) root.root_label in omega (arith, high, four)
      by d (write.Whole sector label bytes) of (inr fresh) = data_positive d sector fresh.old.1.is_data
      by d (write.LabelOnly sector label) of permitted = data_positive d sector permitted.old.1.is_data
      by d (write.Page sector wanted bytes) of permitted = λ e. let some = permitted.not_root in omega (arith, some, e)

  own_writes : ((d : List Sector) (k sector : ℕ) (label : Label) → v.disk.contents ≡ Some d → slice_get makes.wrote.writes k ≡ Some (write.LabelOnly sector label) → (s : Sector) → slice_get (crash_state d makes.wrote.writes k) sector ≡ Some s → files s.0.id)
      → EachWrite (IsWriteFor (IsDirty v.slots) files) v.disk w.disk
  own_writes over = record {
    writes = makes.wrote.writes;
    appended = makes.wrote.appended;
    each = λ d k x revealed at. by d k x revealed at (among (IsLabelOf files) makes.wrote.writes own_labels k x at);
  }
    where
      by : (d : List Sector) (k : ℕ) (x : DiskWrite) → v.disk.contents ≡ Some d → slice_get makes.wrote.writes k ≡ Some x → (is_page_write x ≡ false → IsLabelOf files x) → IsWriteFor (IsDirty v.slots) files (crash_state d makes.wrote.writes k) x
      by d k (write.Whole sector label bytes) revealed at of = inr (of refl).1
      by d k (write.LabelOnly sector label) revealed at of = λ s here. over d k sector label revealed at s here
      by d k (write.Page sector wanted bytes) revealed at of = elim (makes.wrote.of_dirty k sector wanted bytes at) [ inl was ↦ inl was | inr page ↦ inr (few wanted.id wanted.page page) ]

  -- labels without pages were written over those of these files
  pub writes_for : (RevealsWrites v.disk → (d : List Sector) (k sector : ℕ) (label : Label) → v.disk.contents ≡ Some d → slice_get makes.wrote.writes k ≡ Some (write.LabelOnly sector label) → (s : Sector) → slice_get (crash_state d makes.wrote.writes k) sector ≡ Some s → files s.0.id)
      → WritesFor files v w
  writes_for over = record {
    beside = beside_root;
    own = λ told. own_writes (over told);
    dirty = λ id page is. elim (makes.dirty id page is) [ inl was ↦ inl was | inr new ↦ inr (few id page new) ];
  }

-- of one file, as calls on it say
pub writes_file : {pages : Pages} {run : List DiskWrite} (file : ℕ) (v w : View) → ((id page : ℕ) → pages id page → with_own file id page) → AllByRecursion (IsLabelOf (this_file file)) run → MakesOnly pages run v w → RelabelsOwn file v.disk w.disk → WritesFor (this_file file) v w
writes_file file v w few labels makes own =
    writes_for v w (this_file file) few labels makes
    (λ told d k sector label revealed at s here. own.own d told.0 makes.wrote.writes revealed told.1 (revealed_after makes.wrote.writes told.0 makes.wrote.appended told.1) k sector label at s here)

none_alone : (ws : List DiskWrite) → filter (λ x. not (is_page_write x)) ws ≡ [] → (k sector : ℕ) (label : Label) → slice_get ws k ≡ Some (write.LabelOnly sector label) → ⊥
none_alone ws none k sector label at = among (λ x. ⊥) ws (subst (λ (l : List DiskWrite). AllByRecursion (λ x. ⊥) l) (sym none) tt) k (write.LabelOnly sector label) at refl

-- no label was written
module _ {pages : Pages} (v w : View) (files : Files) (few : (id page : ℕ) → pages id page → (id < 4) ⊎ files id) (makes : MakesOnly pages [] v w) where
  pub writes_pages : WritesFor files v w
  writes_pages = writes_for v w files few tt makes (λ told d k sector label revealed at s here. absurd (none_alone makes.wrote.writes makes.wrote.labels k sector label at))

pub writes_none : (files : Files) {v w : View} → IsLookedAt v w → WritesFor files v w
writes_none files {v = v} {w = w} h = writes_pages v w files (λ id page none. absurd none) h.makes

-- a file's sectors are given to it alone
pub growth_of : (file kind page : ℕ) (is : List ℕ) → 16 ≤ file → AllByRecursion (IsLabelOf (this_file file)) (growth file kind page is)
growth_of file kind page [] high = tt
growth_of file kind page (i ∷ is) high = ((high, refl), growth_of file kind (page + 1) is high)

pub creation_of : (file kind leader : ℕ) (is : List ℕ) → 16 ≤ file → AllByRecursion (IsLabelOf (this_file file)) (creation file kind leader is)
creation_of file kind leader is high = ((high, refl), growth_of file kind 0 is high)

pub first_of : (P : DiskWrite → Type 0) (n : ℕ) (ws : List DiskWrite) → AllByRecursion P ws → AllByRecursion P (take n ws)
first_of P zero ws all = tt
first_of P (suc n) [] all = tt
first_of P (suc n) (w ∷ ws) all = (all.0, first_of P n ws all.1)

-- ---- Calls in a row.

-- what is said of files, and of pages that are dirty, is so of more
pub write_wider : (dirty more : Pages) (files wide : Files) → ((id page : ℕ) → dirty id page → more id page ⊎ ((id < 4) ⊎ wide id)) → ((id : ℕ) → files id → wide id) → (d : List Sector) (w : DiskWrite) → IsWriteFor dirty files d w → IsWriteFor more wide d w
write_wider dirty more files wide pages wider d (write.Whole sector label bytes) (inl root) = inl root
write_wider dirty more files wide pages wider d (write.Whole sector label bytes) (inr own) = inr (wider label.id own)
write_wider dirty more files wide pages wider d (write.LabelOnly sector label) own = λ s here. wider s.0.id (own s here)
write_wider dirty more files wide pages wider d (write.Page sector wanted bytes) (inl was) = pages wanted.id wanted.page was
write_wider dirty more files wide pages wider d (write.Page sector wanted bytes) (inr (inl volume)) = inr (inl volume)
write_wider dirty more files wide pages wider d (write.Page sector wanted bytes) (inr (inr own)) = inr (inr (wider wanted.id own))

pub writes_wider : {files : Files} (wide : Files) {v w : View} → ((id : ℕ) → files id → wide id) → WritesFor files v w → WritesFor wide v w
writes_wider {files = files} wide {v = v} wider h = record {
  beside = h.beside;
  own = λ told. each_wider (write_wider (IsDirty v.slots) (IsDirty v.slots) files wide (λ id page was. inl was) wider) (h.own told);
  dirty = λ id page is. elim (h.dirty id page is) [ inl was ↦ inl was | inr (inl volume) ↦ inr (inl volume) | inr (inr own) ↦ inr (inr (wider id own)) ];
}

pub writes_then : {files : Files} {u v w : View} → WritesFor files u v → WritesFor files v w → WritesFor files u w
writes_then {files = files} {u = u} {v = v} h k = record {
  beside = each_then h.beside k.beside;
  own = λ told. each_then (h.own told) (each_wider (write_wider (IsDirty v.slots) (IsDirty u.slots) files files h.dirty (λ id own. own)) (k.own (reveals_still h.beside told)));
  dirty = λ id page is. elim (k.dirty id page is) [ inl was ↦ h.dirty id page was | inr new ↦ inr new ];
}

-- ---- What is of the volume's own.

-- a label that is written is the root's
abbrev pub IsOfRoot : DiskWrite → Type 0
IsOfRoot (write.Whole sector label bytes) = sector ≡ 0
IsOfRoot (write.LabelOnly sector label) = ⊥
IsOfRoot (write.Page sector wanted bytes) = Unit {0}

pub own_each : {labels : List DiskWrite} {a b : DiskState} {slots : Slots} (wrote : Wrote volume_page labels a slots b) → AllByRecursion IsOfRoot labels → EachWrite (IsWriteFor (IsDirty slots) no_file) a b
own_each {slots = slots} wrote all = record {
  writes = wrote.writes;
  appended = wrote.appended;
  each = λ d k x revealed at. by d k x at (among IsOfRoot wrote.writes (subst (λ (l : List DiskWrite). AllByRecursion IsOfRoot l) (sym wrote.labels) all) k x at);
}
  where
    by : (d : List Sector) (k : ℕ) (x : DiskWrite) → slice_get wrote.writes k ≡ Some x → (is_page_write x ≡ false → IsOfRoot x) → IsWriteFor (IsDirty slots) no_file (crash_state d wrote.writes k) x
    by d k (write.Whole sector label bytes) at of = inl (of refl)
    by d k (write.LabelOnly sector label) at of = absurd (of refl)
    by d k (write.Page sector wanted bytes) at of = elim (wrote.of_dirty k sector wanted bytes at) [ inl was ↦ inl was | inr volume ↦ inr (inl volume) ]

pub own_each_then : {a b c : DiskState} {s t : Slots} → ((id page : ℕ) → IsDirty t id page → IsDirty s id page ⊎ volume_page id page) → EachWrite (IsWriteFor (IsDirty s) no_file) a b → EachWrite (IsWriteFor (IsDirty t) no_file) b c → EachWrite (IsWriteFor (IsDirty s) no_file) a c
own_each_then {s = s} {t = t} dirty h k =
    each_then h (each_wider (write_wider (IsDirty t) (IsDirty s) no_file no_file (λ id page is. elim (dirty id page is) [ inl was ↦ inl was | inr volume ↦ inr (inl volume) ]) (λ id none. none)) k)

-- nothing was written
pub each_none : {P : List Sector → DiskWrite → Type 0} {a b : DiskState} → RevealsSame a b → EachWrite P a b
each_none same = record { writes = []; appended = appended_none same; each = λ d k w revealed at. absurd (none-some w at) }
