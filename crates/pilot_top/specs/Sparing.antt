-- Files that no line of a trace touches, whatever the maps of the volume say.
use Rattle.std.specs.Prelude.{◌≡◌, ◌≢◌, ◌⊎◌, ◌==◌, ◌<◌, ◌≤◌, ℕ, zero, suc, Bool, true, false, if◌then◌else◌, List, length, take, Option, Some, None, slice_get}
use Rattle.std.specs.List.{list_any}
use Rattle.std.specs.Option.{option_map_or}
use Rattle.labelled_disk.specs.declared.disk.Disk.{Ghosts}
use Rattle.labelled_disk.specs.declared.disk.DiskWrite.{DiskWrite}
use Rattle.labelled_disk.specs.declared.disk.DiskWrite.TheVariants.{Whole, LabelOnly, Page}
use Rattle.labelled_disk.specs.CrashState.{crash_state}
use Rattle.labelled_disk.specs.Root.{root_page}
use Rattle.labelled_disk.specs.Sectors.{Sector}
use Rattle.labelled_disk.specs.State.{DiskState}
use Rattle.labelled_disk.specs.WriteRuns.{Appended}
use Rattle.frame_pool.specs.Frames.{Slots}
use Rattle.flat_machine.specs.declared.call.Call.TheVariants.{Map, Store}
use Rattle.flat_machine.specs.After.{TraceLine}
use Rattle.file_map.specs.FileMap.{Triples}
use Rattle.file_map.specs.InSectors.{MapNames}
use Rattle.swapper_kernel.specs.Goes.{IsDirty, Makes, Pages, Wrote}
use Rattle.session_words.specs.Volume.{volume_page}
use Rattle.volume_root.specs.declared.root.Root.{Root}
use Rattle.volume_root.specs.RootPage.{root_in}
use Rattle.file_manager.specs.Creating.{next_id}
use Rattle.file_manager.specs.Reasons.{InitialState, IsNotOlder, KeepsOn}
use Rattle.space_calls.specs.Sees.{SeesFiles}
use Rattle.pilot_engine.specs.Sparing.{HasSameLabels, IsLasting, Spares}
use Rattle.pilot_engine.specs.Stepping.{relabels}
use Rattle.pilot_engine.specs.declared.session.Session.{Session}
use Rattle.pilot_top.specs.Parts.{InParts, LineWrote, PartMay}

-- the line deletes this file, gives it another size, or marks it
abbrev pub names_file : ℕ → TraceLine → Bool
names_file id None = false
names_file id (Some c) = option_map_or (λ n. n == id) (relabels c) false

-- the line stores bytes
abbrev pub stores : TraceLine → Bool
stores None = false
stores (Some (Store address bytes)) = true
stores (Some other) = false

-- the line shows this file in a window
abbrev pub maps_file : ℕ → TraceLine → Bool
maps_file id None = false
maps_file id (Some (Map space file page writable)) = file == id
maps_file id (Some other) = false

-- a client's file: the volume gave its identifier out, and no leader of it is a temporary one's
pub record IsPermanentFile (id : ℕ) (d : List Sector) : Type 0 where
  pub client : 16 ≤ id
  pub given : id < next_id (root_in (root_page d))
  pub lasting : IsLasting id d

-- the sector, where its label names this file
abbrev pub sector_for : ℕ → Option Sector → Option Sector
sector_for id None = None
sector_for id (Some s) = if s.0.id == id then Some s else None

-- each sector after the root has the label and the bytes of the file that it had, or none as before
abbrev pub HasSameSectors : ℕ → List Sector → List Sector → Type 0
HasSameSectors id d e = (i : ℕ) → 0 < i → sector_for id (slice_get e i) ≡ sector_for id (slice_get d i)

-- Writes were made, and in each crash state of them the file has the labels that it had on these sectors: none is lost, and no other sector
-- has one. It has its bytes too where no line of the trace stores any; and where the file map was in form, and no line shows the file in a
-- window.
pub record Spared (id : ℕ) (lines : List TraceLine) (d : List Sector) (old new : DiskState) : Type 0 where
  pub writes : List DiskWrite
  pub appended : Appended writes old new
  pub labels : (k : ℕ) → HasSameLabels id d (crash_state d writes k)
  pub sectors : list_any stores lines ≡ false → (k : ℕ) → HasSameSectors id d (crash_state d writes k)
  pub hidden : (named : Triples) → MapNames d named → list_any (maps_file id) lines ≡ false → (k : ℕ) → HasSameSectors id d (crash_state d writes k)

-- a page of another file
abbrev pub other_file : ℕ → Pages
other_file id file page = file ≢ id

module _ {D A : Type 0} {G : Ghosts D} where
  -- The session keeps to an initial state, whose file map was in form; it sees the space tables, and no window shows the file.
  pub record Hides (s : Session D A G) (id : ℕ) : Type 0 where
    pub initial_state : InitialState
    pub keeps : KeepsOn initial_state s.core.filer
    pub not_older : IsNotOlder initial_state s.volume.root
    pub hidden : SeesFiles (other_file id) s.core

-- What a line wrote, in a session whose volume has this root: it spares the files that it does not name, unless it gives a new file their
-- identifier; and one that stores nothing makes no page of a client's dirty. A file that was hidden before it, and that it does not show in a
-- window, is hidden after it, and no page of that became dirty.
pub record LineDone (root : Root) (line : TraceLine) (old : DiskState) (before : Slots) (new : DiskState) (after : Slots) (hid hides : ℕ → Type 0) : Type 0 where
  pub wrote : LineWrote line old new
  pub spares : (id : ℕ) → 16 ≤ id → next_id root ≢ id → names_file id line ≡ false → Spares id old new
  pub quiet : stores line ≡ false → (run : List DiskWrite) × Makes volume_page run old before new after
  pub apart : (id : ℕ) → 16 ≤ id → next_id root ≢ id → maps_file id line ≡ false → hid id → hides id × ((run : List DiskWrite) × Makes (other_file id) run old before new after)

-- Part by part.

-- the line of this part names the file; start and end do not
abbrev pub part_names : ℕ → List TraceLine → ℕ → Bool
part_names id lines zero = false
part_names id lines (suc j) = option_map_or (names_file id) (slice_get lines j) false

-- A part begins after j of the writes, and of those from there to the first k none is of a part that names the file.
pub record IsUnnamed (id : ℕ) (lines : List TraceLine) (part : ℕ → ℕ) (j k : ℕ) : Type 0 where
  pub begins : (n : ℕ) → n < j → part n < part j
  pub unnamed : (n : ℕ) → j ≤ n → n < k → part_names id lines (part n) ≡ false

-- no line is so, up to that of each of the first k writes
abbrev pub NoneUpTo : (TraceLine → Bool) → List TraceLine → (ℕ → ℕ) → ℕ → Type 0
NoneUpTo is lines part k = (n : ℕ) → n < k → list_any is (take (part n) lines) ≡ false

-- A write of a page's bytes in this part. Where no line so far stored bytes, it is one of the volume's own, or was dirty before. And where
-- none showed this file in a window, which was hidden before, it is another file's, or was dirty before.
abbrev pub OfShown : ℕ → List TraceLine → Slots → (ℕ → Type 0) → ℕ → DiskWrite → Type 0
OfShown limit lines before hid part (Whole sector label page) = Unit {0}
OfShown limit lines before hid part (LabelOnly sector label) = Unit {0}
OfShown limit lines before hid part (Page sector wanted page) =
    (list_any stores (take part lines) ≡ false → IsDirty before wanted.id wanted.page ⊎ volume_page wanted.id wanted.page)
    × ((id : ℕ) → 16 ≤ id → id < limit → list_any (maps_file id) (take part lines) ≡ false → hid id → IsDirty before wanted.id wanted.page ⊎ other_file id wanted.id wanted.page)

-- what a part may write, where these pages were dirty and these files were hidden before
abbrev pub PartMakes : ℕ → List TraceLine → Slots → (ℕ → Type 0) → ℕ → List Sector → DiskWrite → Type 0
PartMakes limit lines before hid part d w = PartMay lines part d w × OfShown limit lines before hid part w

-- where no part names the file, its labels stay, if its leaders are all permanent
abbrev pub KeepsUnnamed : ℕ → List TraceLine → (ℕ → ℕ) → List DiskWrite → DiskState → Type 0
KeepsUnnamed id lines part writes old = (d : List Sector) (earlier : List DiskWrite) (j k : ℕ) → old.contents ≡ Some d → old.writes ≡ Some earlier
    → IsUnnamed id lines part j k → IsLasting id (crash_state d writes j) → j ≤ k → k ≤ length writes → HasSameLabels id (crash_state d writes j) (crash_state d writes k)

-- Each write belongs to a part, up to this one, and spares the files that this part does not name. These are files whose identifier is below
-- the limit.
pub record SparesInParts (limit : ℕ) (lines : List TraceLine) (last : ℕ) (old : DiskState) (before : Slots) (new : DiskState) (hid : ℕ → Type 0) : Type 0 where
  pub parts : InParts (PartMakes limit lines before hid) last old new
  pub keeps : (id : ℕ) → 16 ≤ id → id < limit → KeepsUnnamed id lines parts.part parts.writes old

-- so it is of all lines of a trace, from a session's start to its end
pub record RunSpares (root : Root) (lines : List TraceLine) (old : DiskState) (before : Slots) (new : DiskState) (hid : ℕ → Type 0) : Type 0 where
  pub spares : (id : ℕ) → 16 ≤ id → id < next_id root → list_any (names_file id) lines ≡ false → Spares id old new
  pub quiet : list_any stores lines ≡ false → (run : List DiskWrite) × Wrote volume_page run old before new
  pub apart : (id : ℕ) → 16 ≤ id → id < next_id root → list_any (maps_file id) lines ≡ false → hid id → (run : List DiskWrite) × Wrote (other_file id) run old before new
  pub in_parts : SparesInParts (next_id root) lines (suc (length lines)) old before new hid
