-- What calls say of the labels that they wrote, and which files that spares.
use Rattle.std.proofs.Common.{◌≡◌, ◌≢◌, ◌⊎◌, inl, inr, ℕ, zero, suc, ◌+◌, ◌<◌, ◌≤◌, Bool, true, false, List, [], ◌∷◌, ◌++◌, take, Option, Some, None, refl, sym, ◌∙◌, ap, subst, arith}
use Rattle.std.specs.Prelude.{filter, not, option_map, slice_get}
use Rattle.std.proofs.lemmas.Bool.{cases_eq, true≢false}
use Rattle.std.proofs.lemmas.Option.{none-some, same_Some}
use Rattle.labelled_disk.specs.declared.disk.DiskWrite.{DiskWrite}
use Rattle.labelled_disk.specs.declared.disk.DiskWrite.TheVariants as write
use Rattle.labelled_disk.specs.declared.label.Label.{Label}
use Rattle.labelled_disk.specs.CrashState.{crash_state}
use Rattle.labelled_disk.specs.Label.{is_permanent, leader_page}
use Rattle.labelled_disk.specs.Runs.{creation, freeing, growth}
use Rattle.labelled_disk.specs.Sectors.{Sector}
use Rattle.labelled_disk.specs.State.{DiskState, HasLabel}
use Rattle.frame_pool.specs.Frames.{Frame, Has, Slots}
use Rattle.swapper_kernel.specs.Goes.{IsDirty, Makes, Pages, Wrote, is_page_write}
use Rattle.session_words.specs.Volume.{volume_page}
use Rattle.label_calls.specs.Own.{RelabelsOwn}
use Rattle.labelled_disk.specs.Calls.{RevealsSame, RevealsWrite}
use Rattle.labelled_disk.proofs.WriteRunLemmas.{appended_one}
use Rattle.pilot_engine.specs.Labels.{WritesPagesAlone}
use Rattle.pilot_engine.specs.Sparing.{Spares, SparesAll, SparesBut}
use Rattle.pilot_engine.proofs.SparingLemmas.{LeavesFile, root_leaves, row_leaves, spares_same, spares_then}

-- ---- Labels that are written with their pages.

-- those among some writes are of this file, or the root's
abbrev pub AreFor : ℕ → List DiskWrite → Type 0
AreFor named [] = Unit {0}
AreFor named (write.Whole sector label page ∷ ws) = ((sector ≡ 0) ⊎ (label.id ≡ named)) × AreFor named ws
AreFor named (write.LabelOnly sector label ∷ ws) = AreFor named ws
AreFor named (write.Page sector wanted page ∷ ws) = AreFor named ws

for_labels : (named : ℕ) (ws : List DiskWrite) → AreFor named (filter (λ w. not (is_page_write w)) ws) → AreFor named ws
for_labels named [] are = tt
for_labels named (write.Whole sector label page ∷ ws) are = (are.0, for_labels named ws are.1)
for_labels named (write.LabelOnly sector label ∷ ws) are = for_labels named ws are
for_labels named (write.Page sector wanted page ∷ ws) are = for_labels named ws are

pub for_take : (named n : ℕ) (ws : List DiskWrite) → AreFor named ws → AreFor named (take n ws)
for_take named zero ws are = tt
for_take named (suc n) [] are = tt
for_take named (suc n) (write.Whole sector label page ∷ ws) are = (are.0, for_take named n ws are.1)
for_take named (suc n) (write.LabelOnly sector label ∷ ws) are = for_take named n ws are
for_take named (suc n) (write.Page sector wanted page ∷ ws) are = for_take named n ws are

pub for_growth : (named kind page : ℕ) (is : List ℕ) → AreFor named (growth named kind page is)
for_growth named kind page [] = tt
for_growth named kind page (i ∷ is) = (inr refl, for_growth named kind (page + 1) is)

pub for_creation : (named kind leader : ℕ) (is : List ℕ) → AreFor named (creation named kind leader is)
for_creation named kind leader is = (inr refl, for_growth named kind 0 is)

pub for_freeing : (named : ℕ) (is : List ℕ) → AreFor named (freeing is)
for_freeing named [] = tt
for_freeing named (i ∷ is) = for_freeing named is

-- one of them
for_one : (named : ℕ) (ws : List DiskWrite) → AreFor named ws → (k sector : ℕ) (label : Label) (page : List ℕ) → slice_get ws k ≡ Some (write.Whole sector label page) → (sector ≡ 0) ⊎ (label.id ≡ named)
for_one named [] are k sector label page at = absurd (none-some _ at)
for_one named (write.Whole s l b ∷ ws) are zero sector label page at =
    let same = same_Some (write.Whole s l b) (write.Whole sector label page) at in
    let place : s ≡ sector = cc same in
    let is : l ≡ label = cc same in
    subst (λ (n : ℕ). (n ≡ 0) ⊎ (label.id ≡ named)) place (subst (λ (x : Label). (s ≡ 0) ⊎ (x.id ≡ named)) is are.0)
for_one named (write.Whole s l b ∷ ws) are (suc k) sector label page at = for_one named ws are.1 k sector label page at
for_one named (write.LabelOnly s l ∷ ws) are zero sector label page at = let same = same_Some (write.LabelOnly s l) (write.Whole sector label page) at in absurd (cc same)
for_one named (write.LabelOnly s l ∷ ws) are (suc k) sector label page at = for_one named ws are k sector label page at
for_one named (write.Page s w b ∷ ws) are zero sector label page at = let same = same_Some (write.Page s w b) (write.Whole sector label page) at in absurd (cc same)
for_one named (write.Page s w b ∷ ws) are (suc k) sector label page at = for_one named ws are k sector label page at

-- ---- Calls.

-- each label that was written alone stands over one of this file
abbrev pub IsOver : ℕ → DiskState → List DiskWrite → Type 0
IsOver named old ws = (d : List Sector) (earlier : List DiskWrite) → old.contents ≡ Some d → old.writes ≡ Some earlier
    → (k sector : ℕ) (label : Label) → slice_get ws k ≡ Some (write.LabelOnly sector label) → (s : Sector) → slice_get (crash_state d ws k) sector ≡ Some s → s.0.id ≡ named

pub over_own : (named : ℕ) {pages : Pages} {run : List DiskWrite} {a b : DiskState} {s : Slots} (wrote : Wrote pages run a s b) → RelabelsOwn named a b → IsOver named a wrote.writes
over_own named wrote own d earlier revealed made k sector label at s here =
    own.own d earlier wrote.writes revealed made (wrote.appended.revealed ∙ ap (option_map (λ (l : List DiskWrite). l ++ wrote.writes)) made) k sector label at s here

-- labels of this file alone, and the root
pub spares_wrote : (named : ℕ) {pages : Pages} {run : List DiskWrite} {a b : DiskState} {s : Slots} (wrote : Wrote pages run a s b) → AreFor named run → IsOver named a wrote.writes → SparesBut named a b
spares_wrote named {a = a} wrote are over id client other = record {
  writes = wrote.writes;
  appended = wrote.appended;
  same = λ d earlier revealed made lasts. row_leaves id client d wrote.writes (λ k w at. (wrote.permitted d k w revealed at, leaves d earlier revealed made k w at));
}
  where
    all : AreFor named wrote.writes
    all = for_labels named wrote.writes (subst (AreFor named) (sym wrote.labels) are)

    leaves : (d : List Sector) (earlier : List DiskWrite) → a.contents ≡ Some d → a.writes ≡ Some earlier → (k : ℕ) (w : DiskWrite) → slice_get wrote.writes k ≡ Some w → LeavesFile id (crash_state d wrote.writes k) w
    leaves d earlier revealed made k (write.Whole sector label page) at = elim (for_one named wrote.writes all k sector label page at) [
      | inl root ↦ inl root
      | inr own ↦ inr (λ is. other (sym own ∙ is))
    ]
    leaves d earlier revealed made k (write.LabelOnly sector label) at = λ s here is. other (sym (over d earlier revealed made k sector label at s here) ∙ is)
    leaves d earlier revealed made k (write.Page sector wanted page) at = tt

pub spares_own : (named : ℕ) {pages : Pages} {run : List DiskWrite} {a b : DiskState} {s t : Slots} → AreFor named run → Makes pages run a s b t → RelabelsOwn named a b → SparesBut named a b
spares_own named are makes own = spares_wrote named makes.wrote are (over_own named makes.wrote own)

-- ---- No label alone.

abbrev pub AreWith : List DiskWrite → Type 0
AreWith [] = Unit {0}
AreWith (write.Whole sector label page ∷ ws) = AreWith ws
AreWith (write.LabelOnly sector label ∷ ws) = ⊥
AreWith (write.Page sector wanted page ∷ ws) = AreWith ws

with_labels : (ws : List DiskWrite) → AreWith (filter (λ w. not (is_page_write w)) ws) → AreWith ws
with_labels [] are = tt
with_labels (write.Whole sector label page ∷ ws) are = with_labels ws are
with_labels (write.LabelOnly sector label ∷ ws) are = absurd are
with_labels (write.Page sector wanted page ∷ ws) are = with_labels ws are

pub with_take : (n : ℕ) (ws : List DiskWrite) → AreWith ws → AreWith (take n ws)
with_take zero ws are = tt
with_take (suc n) [] are = tt
with_take (suc n) (write.Whole sector label page ∷ ws) are = with_take n ws are
with_take (suc n) (write.LabelOnly sector label ∷ ws) are = absurd are
with_take (suc n) (write.Page sector wanted page ∷ ws) are = with_take n ws are

pub with_growth : (named kind page : ℕ) (is : List ℕ) → AreWith (growth named kind page is)
with_growth named kind page [] = tt
with_growth named kind page (i ∷ is) = with_growth named kind (page + 1) is

none_alone : (ws : List DiskWrite) → AreWith ws → (k sector : ℕ) (label : Label) → slice_get ws k ≡ Some (write.LabelOnly sector label) → ⊥
none_alone [] are k sector label at = none-some _ at
none_alone (write.Whole s l b ∷ ws) are zero sector label at = let same = same_Some (write.Whole s l b) (write.LabelOnly sector label) at in absurd (cc same)
none_alone (write.Whole s l b ∷ ws) are (suc k) sector label at = none_alone ws are k sector label at
none_alone (write.LabelOnly s l ∷ ws) are k sector label at = are
none_alone (write.Page s w b ∷ ws) are zero sector label at = let same = same_Some (write.Page s w b) (write.LabelOnly sector label) at in absurd (cc same)
none_alone (write.Page s w b ∷ ws) are (suc k) sector label at = none_alone ws are k sector label at

pub spares_with : (named : ℕ) {pages : Pages} {run : List DiskWrite} {a b : DiskState} {s : Slots} → AreFor named run → AreWith run → Wrote pages run a s b → SparesBut named a b
spares_with named are whole wrote =
    spares_wrote named wrote are (λ d earlier revealed made k sector label at s here. absurd (none_alone wrote.writes (with_labels wrote.writes (subst AreWith (sym wrote.labels) whole)) k sector label at))

-- no client's file
pub spares_all : (named : ℕ) → named < 16 → {a b : DiskState} → SparesBut named a b → SparesAll a b
spares_all named low but id client = but id client (λ is. omega (arith, low, client, is))

-- no label at all
pub spares_quiet : {pages : Pages} {a b : DiskState} {s t : Slots} → Makes pages [] a s b t → SparesAll a b
spares_quiet makes = spares_all 0 (omega arith) (spares_with 0 tt tt makes.wrote)

-- ---- Two calls.

pub all_then : {a b c : DiskState} → SparesAll a b → SparesAll b c → SparesAll a c
all_then one more id client = spares_then (one id client) (more id client)

pub but_then : {named : ℕ} {a b c : DiskState} → SparesBut named a b → SparesBut named b c → SparesBut named a c
but_then one more id client other = spares_then (one id client other) (more id client other)

pub all_but : {named : ℕ} {a b : DiskState} → SparesAll a b → SparesBut named a b
all_but all id client other = all id client

-- ---- A file that is temporary.

-- a leader of this file that is not permanent stands on the disk, after the root
pub record IsTemporaryOn (disk : DiskState) (named : ℕ) : Type 0 where
  pub sector : ℕ
  pub after_root : 0 < sector
  pub label : Label
  pub there : HasLabel disk sector label
  pub own : label.id ≡ named
  pub leads : label.page ≡ leader_page
  pub temporary : is_permanent label ≡ false

label_there : (o : Option Sector) (l : Label) → option_map (λ s. s.0) o ≡ Some l → (s : Sector) × (o ≡ Some s) × (s.0 ≡ l)
label_there None l is = absurd (none-some l is)
label_there (Some s) l is = (s, refl, same_Some s.0 l is)

-- so its labels may go
pub spares_temporary : (named : ℕ) {pages : Pages} {run : List DiskWrite} {a b : DiskState} {s t : Slots} → IsTemporaryOn a named → Makes pages run a s b t → SparesBut named a b → SparesAll a b
spares_temporary named found makes but id client = elim (cases_eq named id) [
  | inr other ↦ but id client other
  | inl same ↦ record {
    writes = makes.wrote.writes;
    appended = makes.wrote.appended;
    same = λ d earlier revealed made lasts k.
        let at = label_there (slice_get d found.sector) found.label (found.there d revealed) in
        absurd (true≢false (sym (lasts found.sector at.0 found.after_root at.1 (ap (λ (l : Label). l.id) at.2 ∙ found.own ∙ same) (ap (λ (l : Label). l.page) at.2 ∙ found.leads)) ∙ ap is_permanent at.2 ∙ found.temporary));
  }
]

-- ---- Page bytes alone, and a root.

page_leaves : (id : ℕ) (d : List Sector) (w : DiskWrite) → is_page_write w ≡ true → LeavesFile id d w
page_leaves id d (write.Whole sector label page) is = absurd (true≢false (sym is))
page_leaves id d (write.LabelOnly sector label) is = absurd (true≢false (sym is))
page_leaves id d (write.Page sector wanted page) is = tt

pub spares_alone : {pages : Pages} {run : List DiskWrite} {a b : DiskState} {s t : Slots} → Makes pages run a s b t → WritesPagesAlone a b → SparesAll a b
spares_alone makes alone id client =
    let wrote = makes.wrote in
    record {
      writes = wrote.writes;
      appended = wrote.appended;
      same = λ d earlier revealed made lasts. row_leaves id client d wrote.writes (λ k w at. (
        wrote.permitted d k w revealed at,
        page_leaves id (crash_state d wrote.writes k) w (alone.pages earlier wrote.writes made (wrote.appended.revealed ∙ ap (option_map (λ (l : List DiskWrite). l ++ wrote.writes)) made) k w at),
      ));
    }

pub spares_itself : (disk : DiskState) → SparesAll disk disk
spares_itself disk id client = spares_same id (record { contents = refl; writes = refl })

pub spares_root : (label : Label) (page : List ℕ) {a b : DiskState} → RevealsSame a b ⊎ RevealsWrite (write.Whole 0 label page) a b → SparesAll a b
spares_root label page (inl same) id client = spares_same id same
spares_root label page (inr made) id client = record {
  writes = write.Whole 0 label page ∷ [];
  appended = appended_one (write.Whole 0 label page) made;
  same = λ d earlier revealed made_so lasts k. root_leaves id label page d k;
}

-- ---- Frames of a session that starts.

pub clean_start : {run : List DiskWrite} {a b : DiskState} {s t : Slots} → ((i : ℕ) (f : Frame) → Has s i f → ⊥) → Makes volume_page run a s b t → (id page : ℕ) → IsDirty t id page → volume_page id page
clean_start bare makes id page dirty = elim (makes.dirty id page dirty) [
  | inl was ↦ absurd (bare was.slot was.frame was.has)
  | inr own ↦ own
]
