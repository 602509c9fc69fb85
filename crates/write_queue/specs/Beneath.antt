-- What one call of a queue does to the disk beneath, and to what waits.
use Rattle.std.specs.Prelude.{◌≡◌, ◌⊎◌, ℕ, ◌+◌, ◌-◌, ◌^◌, ◌<◌, ◌≤◌, min, ◌==◌, if◌then◌else◌, length, List, [], ◌∷◌, ◌++◌, map, Some, None, false, Result, Ok, Err, OnOk, OnErr}
use Rattle.labelled_disk.specs.declared.disk.DiskError.{DiskError}
use Rattle.labelled_disk.specs.declared.disk.DiskError.TheVariants.{Wrong}
use Rattle.labelled_disk.specs.declared.disk.DiskWrite.{DiskWrite}
use Rattle.labelled_disk.specs.declared.label.Label.{Label}
use Rattle.labelled_disk.specs.declared.label.Wanted.{Wanted}
use Rattle.labelled_disk.specs.Calls.{Reads, RevealsSame, RevealsWrite}
use Rattle.labelled_disk.specs.Label.{names}
use Rattle.labelled_disk.specs.State.{HasLabel}
use Rattle.labelled_disk.specs.WriteRuns.{Appended}
use Rattle.write_queue.specs.declared.entry.Entry.{Entry}
use Rattle.write_queue.specs.Entries.{waiting_at, page_write}
use Rattle.write_queue.specs.Sweeps.{IsFirst, IsLess, Sweeps, head_after}
use Rattle.write_queue.specs.View.{View, Tally}

-- no label was met that had changed
abbrev pub MetNone : View → View → Type 0
MetNone old new = (new.own ≡ old.own) × (new.changed ≡ old.changed)

-- A label was met beneath that doesn't name the page that waits, still, for its sector; it was counted, and is revealed.
pub record MetOther (before : ℕ) (new : View) : Type 0 where
  pub entry : Entry
  pub found : Label
  pub waits : waiting_at new.waiting entry.sector ≡ Some entry
  pub stands : HasLabel new.beneath entry.sector found
  pub other : names found entry.wanted ≡ false
  pub counted : new.own ≡ min (before + 1) (2 ^ 64 - 1)
  pub revealed : new.changed ≡ Some (entry.sector, entry.wanted, found)

-- a changed label is met only where the call is not answered with Ok
abbrev pub Meets : View → Result (Unit {0}) DiskError → View → Type 0
Meets old result new = OnOk result (MetNone old new) × OnErr result (MetNone old new ⊎ MetOther old.own new)

-- A page that waits is read with the label that was kept, and nothing comes of it beneath; another sector is read
-- beneath.
pub record ReadsOne (sector : ℕ) (page : List ℕ) (old : View) (result : Result Label DiskError) (new : View) : Type 0
  where
    pub waits : (e : Entry) → waiting_at old.waiting sector ≡ Some e
        → (result ≡ Ok e.label) × (page ≡ e.page) × (new.beneath ≡ old.beneath)
    pub free : waiting_at old.waiting sector ≡ None → Reads old.beneath sector page result new.beneath
    pub waiting : new.waiting ≡ old.waiting
    pub head : new.head ≡ old.head
    pub met : MetNone old new
    pub few : new.beneath.transfers ≤ old.beneath.transfers + 1

-- The disk beneath reveals of these pages more; or of these and of the next page of the sweep, which waits still.
abbrev pub StopsAfter : List Entry → View → View → Type 0
StopsAfter swept old new = Appended (map page_write swept) old.beneath new.beneath
    ⊎ ((next : Entry) × IsFirst new.head new.waiting next
    × Appended (map page_write swept ++ page_write next ∷ []) old.beneath new.beneath)

-- All that waited is written out in a sweep, or a prefix of it.
pub record Empties (old : View) (result : Result (Unit {0}) DiskError) (new : View) : Type 0 where
  pub swept : List Entry
  pub sweeps : Sweeps old.head old.waiting swept new.waiting
  pub head : new.head ≡ head_after old.head swept
  pub all : OnOk result ((new.waiting ≡ []) × Appended (map page_write swept) old.beneath new.beneath)
  pub part : OnErr result (StopsAfter swept old new)
  pub met : Meets old result new

-- All that waited is written out in a sweep, and then this write is made, once; or a prefix of that.
pub record PassesOn (write : DiskWrite) (old : View) (result : Result (Unit {0}) DiskError) (new : View) : Type 0 where
  pub swept : List Entry
  pub sweeps : Sweeps old.head old.waiting swept new.waiting
  pub head : new.head ≡ head_after old.head swept
  pub all : OnOk result ((new.waiting ≡ []) × Appended (map page_write swept ++ write ∷ []) old.beneath new.beneath)
  pub part : OnErr result (StopsAfter swept old new
      ⊎ ((new.waiting ≡ []) × Appended (map page_write swept ++ write ∷ []) old.beneath new.beneath))
  pub met : Meets old result new

-- nothing was written out
pub record IsStill (old : View) (rest : List Entry) (new : View) : Type 0 where
  pub waiting : rest ≡ old.waiting
  pub head : new.head ≡ old.head
  pub same : RevealsSame old.beneath new.beneath

-- there was no room, and the first page of the sweep was written out
pub record FirstOut (old : View) (rest : List Entry) (new : View) : Type 0 where
  pub full : length old.waiting ≡ old.room
  pub first : Entry
  pub is_first : IsFirst old.head old.waiting first
  pub less : IsLess old.waiting first rest
  pub head : new.head ≡ first.sector
  pub wrote : RevealsWrite (page_write first) old.beneath new.beneath

-- The page waits for its sector. Beside it waits what waited before; but where there was no room, all but the first
-- of the sweep.
pub record Taken (sector : ℕ) (wanted : Wanted) (page : List ℕ) (old new : View) : Type 0 where
  pub entry : Entry
  pub in_sector : entry.sector ≡ sector
  pub as_wanted : entry.wanted ≡ wanted
  pub has_page : entry.page ≡ page
  pub rest : List Entry
  pub put : (k : ℕ) → waiting_at new.waiting k ≡ (if entry.sector == k then Some entry else waiting_at rest k)
  pub made : (IsStill old rest new × (waiting_at old.waiting sector ≡ None → length old.waiting < old.room))
      ⊎ (FirstOut old rest new × (waiting_at old.waiting sector ≡ None))

-- What waits is as it was. Nothing was written beneath; or, where there was no room, the first page of the sweep,
-- which waits still.
pub record LeftOut (old new : View) : Type 0 where
  pub waiting : new.waiting ≡ old.waiting
  pub head : new.head ≡ old.head
  pub beneath : RevealsSame old.beneath new.beneath
      ⊎ ((first : Entry) × (length old.waiting ≡ old.room) × IsFirst old.head old.waiting first
      × RevealsWrite (page_write first) old.beneath new.beneath)

-- A page is let wait, or it isn't. The label that was kept decides on a sector for which a page waits, and nothing
-- moves beneath.
pub record TakesIn (sector : ℕ) (wanted : Wanted) (page : List ℕ) (old : View) (result : Result (Unit {0}) DiskError)
    (new : View) : Type 0 where
  pub taken : OnOk result (Taken sector wanted page old new)
  pub left : OnErr result (LeftOut old new)
  pub waits : (e : Entry) → waiting_at old.waiting sector ≡ Some e
      → (result ≡ (if names e.label wanted then Ok tt else Err (Wrong e.label))) × (new.beneath ≡ old.beneath)
  pub met : Meets old result new
  pub few : new.beneath.transfers ≤ old.beneath.transfers + 2

-- a call that names a sector was counted
pub record CountsCall (old new : Tally) : Type 0 where
  pub begun : new.begun ≡ old.begun
  pub transfers : new.transfers ≡ min (old.transfers + 1) (2 ^ 64 - 1)
  pub no_sync : new.no_sync ≡ old.no_sync

-- a call of `sync` was counted, where it did not answer Ok
pub record CountsSync (old : Tally) (result : Result (Unit {0}) DiskError) (new : Tally) : Type 0 where
  pub begun : new.begun ≡ old.begun
  pub transfers : new.transfers ≡ old.transfers
  pub settled : OnOk result (new.no_sync ≡ old.no_sync)
  pub no_sync : OnErr result (new.no_sync ≡ min (old.no_sync + 1) (2 ^ 64 - 1))
