-- Which page a call reports as missing: one of the space tables, or one of the file that it is about.
use Rattle.std.proofs.Common.{◌≡◌, ◌⊎◌, inl, inr, ℕ, List, Result, Ok, Err}
use Rattle.std.specs.Prelude.{IfErr}
use Rattle.labelled_disk.specs.declared.evidence.Evidence.TheVariants.{Mismatch, Malformed, Missing}
use Rattle.labelled_disk.specs.declared.evidence.Halt.{Halt}
use Rattle.labelled_disk.specs.declared.evidence.Halt.TheVariants as halt
use Rattle.labelled_disk.specs.declared.layout.Layout.{Layout}
use Rattle.labelled_disk.specs.State.{DiskState}
use Rattle.frame_pool.specs.Frames.{Slots}
use Rattle.file_map.specs.declared.run.Run.{Run}
use Rattle.swapper_kernel.specs.Goes.{Pages}
use Rattle.filer_kernel.specs.Causes.{MapHalts}
use Rattle.file_manager.specs.Grounds.{CutFileHalts, IsPageOf}
use Rattle.fault_core.specs.Lack.{MissesPage}
use Rattle.fault_core.proofs.LackLemmas.{misses_wider}
use Rattle.fault_core.specs.Reach.{Reaches}
use Rattle.fault_core.specs.ReachLaws.{reach_misses}
use Rattle.filer_kernel.specs.View.{View, kept_by}
use Rattle.space_calls.specs.Halts.{After, BreaksSight, SightHalts, LookHalts, NamedHalts, OnFileHalts, OnNamedHalts}
use Rattle.pilot_engine.specs.Halting.{MarkHalts, NewFileHalts, RemoveHalts, SizeHalts}

-- pages of the file alone
abbrev pub pages_of : ℕ → Pages
pages_of file id page = id ≡ file

-- a halt of one kind reveals none but these as missing
abbrev pub Misses : (View → View → Halt → Type 0) → Pages → Type 0
Misses P pages = (v w : View) (e : Halt) → P v w e → MissesPage pages e

-- ---- Calls on files.

-- a search of the map reveals none, nor does a look at a file
pub search_misses : (pages : Pages) (layout : Layout) (old : DiskState) (before : Slots) (new : DiskState) (e : Halt) → MapHalts layout old before new e → MissesPage pages e
search_misses pages layout old before new halt.Disk h = tt
search_misses pages layout old before new (halt.Damaged (Mismatch sector wanted found)) h = tt
search_misses pages layout old before new (halt.Damaged (Malformed structure page)) h = tt
search_misses pages layout old before new (halt.Damaged (Missing missing page)) h = absurd h

pub look_misses : (pages : Pages) (id : ℕ) → Misses (LookHalts id) pages
look_misses pages id v w halt.Disk h = tt
look_misses pages id v w (halt.Damaged (Mismatch sector wanted found)) h = tt
look_misses pages id v w (halt.Damaged (Malformed structure page)) h = tt
look_misses pages id v w (halt.Damaged (Missing missing page)) h = elim h [ inl map ↦ absurd map | inr none ↦ absurd none.other ]

-- where pages of a file are made, one of the space tables alone may be missing
pub new_misses : (pages : Pages) (id : ℕ) (wanted : ℕ → Type 0) → Misses (NewFileHalts id wanted) pages
new_misses pages id wanted v w halt.Disk h = tt
new_misses pages id wanted v w (halt.Damaged (Mismatch sector label found)) h = tt
new_misses pages id wanted v w (halt.Damaged (Malformed structure page)) h = tt
new_misses pages id wanted v w (halt.Damaged (Missing missing page)) h = inl h.0

-- ---- Which page of the file.

-- its leader, or one below the size that the map reveals
abbrev pub own_pages : Layout → DiskState → Slots → ℕ → Pages
own_pages layout disk slots file id page = (id ≡ file) × IsPageOf layout disk slots file page

-- a halt of one kind reveals none but these of this file as missing
abbrev pub MissesOwn : (View → View → Halt → Type 0) → ℕ → Type 0
MissesOwn P file = (v w : View) (e : Halt) → P v w e → MissesPage (own_pages v.layout v.disk v.slots file) e

-- so it reveals pages of the file alone
own_alone : (P : View → View → Halt → Type 0) (file : ℕ) → MissesOwn P file → Misses P (pages_of file)
own_alone P file misses v w e h = misses_wider (own_pages v.layout v.disk v.slots file) (pages_of file) (λ id page own. own.0) e (misses v w e h)

-- where the leader is looked for, it may be missing
pub mark_misses_own : (id : ℕ) → MissesOwn (MarkHalts id) id
mark_misses_own id v w halt.Disk h = tt
mark_misses_own id v w (halt.Damaged (Mismatch sector wanted found)) h = tt
mark_misses_own id v w (halt.Damaged (Malformed structure page)) h = tt
mark_misses_own id v w (halt.Damaged (Missing missing page)) h = inr (h.0, inl h.1)

pub mark_misses : (id : ℕ) → Misses (MarkHalts id) (pages_of id)
mark_misses id = own_alone (MarkHalts id) id (mark_misses_own id)

-- where pages of the file are freed, one of them may be
pub cut_misses : (given : Type 0) (layout : Layout) (kept : List Run) (id from : ℕ) (pages : ℕ → Type 0) (old : DiskState) (before : Slots) (new : DiskState) (e : Halt) → CutFileHalts given layout kept id from pages old before new e → MissesPage (λ file page. (file ≡ id) × pages page) e
cut_misses given layout kept id from pages old before new halt.Disk h = tt
cut_misses given layout kept id from pages old before new (halt.Damaged (Mismatch sector wanted found)) h = tt
cut_misses given layout kept id from pages old before new (halt.Damaged (Malformed structure page)) h = tt
cut_misses given layout kept id from pages old before new (halt.Damaged (Missing missing page)) h = elim h [ inl free ↦ inr (free.0, free.1) | inr out ↦ absurd out ]

-- of the space tables
pub tables_lack : (freed : ℕ → Type 0) (pages : Pages) (e : Halt) → MissesPage (λ file page. (file ≡ 3) × freed page) e → MissesPage pages e
tables_lack freed pages halt.Disk h = tt
tables_lack freed pages (halt.Damaged (Mismatch sector wanted found)) h = tt
tables_lack freed pages (halt.Damaged (Malformed structure page)) h = tt
tables_lack freed pages (halt.Damaged (Missing missing page)) h = elim h [ inl three ↦ inl three | inr own ↦ inl own.0 ]

pub remove_misses_own : (id : ℕ) → MissesOwn (RemoveHalts id) id
remove_misses_own id v w e h = cut_misses _ v.layout (kept_by v) id 0 _ v.disk v.slots w.disk e h

pub remove_misses : (id : ℕ) → Misses (RemoveHalts id) (pages_of id)
remove_misses id = own_alone (RemoveHalts id) id (remove_misses_own id)

pub size_misses_own : (id pages : ℕ) → MissesOwn (SizeHalts id pages) id
size_misses_own id pages v w halt.Disk h = tt
size_misses_own id pages v w (halt.Damaged (Mismatch sector wanted found)) h = tt
size_misses_own id pages v w (halt.Damaged (Malformed structure page)) h = tt
size_misses_own id pages v w (halt.Damaged (Missing missing page)) h = elim h [
  | inl leader ↦ inr (leader.0, inl leader.1)
  | inr (inl made) ↦ inl made.0
  | inr (inr (inl free)) ↦ inr (free.0, inr free.1.1)
  | inr (inr (inr (inl out))) ↦ absurd out
  | inr (inr (inr (inr back))) ↦ absurd back
]

pub size_misses : (id pages : ℕ) → Misses (SizeHalts id pages) (pages_of id)
size_misses id pages = own_alone (SizeHalts id pages) id (size_misses_own id pages)

-- ---- In a row.

pub after_misses : (leaves : View → View → Type 0) (P : View → View → Halt → Type 0) (pages : Pages) → Misses P pages → Misses (After leaves P) pages
after_misses leaves P pages misses v w e (u, left, halts) = misses u w e halts

pub either_misses : (P Q : View → View → Halt → Type 0) (pages : Pages) → Misses P pages → Misses Q pages → Misses (λ v w e. P v w e ⊎ Q v w e) pages
either_misses P Q pages first next v w e (inl h) = first v w e h
either_misses P Q pages first next v w e (inr h) = next v w e h

pub sight_misses : (pages : Pages) (count : ℕ) → Misses (SightHalts count) pages
sight_misses pages count v w e h = reach_misses (BreaksSight v count) v w pages e h

pub named_misses : (pages : Pages) (id count : ℕ) → Misses (NamedHalts id count) pages
named_misses pages id count = either_misses (SightHalts count) (After Reaches (LookHalts id)) pages (sight_misses pages count) (after_misses Reaches (LookHalts id) pages (look_misses pages id))

pub on_file_misses : (id : ℕ) (P : View → View → Halt → Type 0) (pages : Pages) → Misses P pages → Misses (OnFileHalts id P) pages
on_file_misses id P pages misses = either_misses (LookHalts id) (After Reaches P) pages (look_misses pages id) (after_misses Reaches P pages misses)

pub on_named_misses : (id count : ℕ) (P : View → View → Halt → Type 0) (pages : Pages) → Misses P pages → Misses (OnNamedHalts id count P) pages
on_named_misses id count P pages misses = either_misses (SightHalts count) (After Reaches (OnFileHalts id P)) pages (sight_misses pages count) (after_misses Reaches (OnFileHalts id P) pages (on_file_misses id P pages misses))

-- ---- Where a call fails.

pub fails_missing_page : {X : Type 0} (P : View → View → Halt → Type 0) (pages : Pages) → Misses P pages → (v w : View) (r : Result X Halt) → IfErr r (P v w) → IfErr r (MissesPage pages)
fails_missing_page P pages misses v w (Ok x) halts = tt
fails_missing_page P pages misses v w (Err e) halts = misses v w e halts
