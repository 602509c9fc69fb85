-- What the queue's own functions reveal one another.
use Rattle.std.specs.Prelude.{◌≡◌, ◌⊎◌, ℕ, ◌+◌, ◌<◌, ◌≤◌, length, List, [], ◌∷◌, ◌++◌, map, slice_get, Some, None, Result, OnOk, OnErr}
use Rattle.labelled_disk.specs.declared.disk.DiskError.{DiskError}
use Rattle.labelled_disk.specs.declared.label.Label.{Label}
use Rattle.labelled_disk.specs.Calls.{RevealsSame, RevealsWrite, Moves}
use Rattle.labelled_disk.specs.State.{DiskState, HasLabel}
use Rattle.labelled_disk.specs.WriteRuns.{Appended}
use Rattle.write_queue.specs.declared.entry.Entry.{Entry}
use Rattle.write_queue.specs.Beneath.{IsStill, FirstOut, LeftOut, Meets}
use Rattle.write_queue.specs.Entries.{waiting_at, page_write}
use Rattle.write_queue.specs.Sweeps.{sweep_key, IsFirst, IsLess, Sweeps, head_after}
use Rattle.write_queue.specs.View.{View}

-- the first page of the sweep from a head on is at this index
pub record HasFirst (head : ℕ) (es : List Entry) (place : ℕ) : Type 0 where
  pub below : place < length es
  pub least : (e : Entry) (k : ℕ) (f : Entry) → slice_get es place ≡ Some e → slice_get es k ≡ Some f
      → sweep_key head e.sector ≤ sweep_key head f.sector

-- The first page of the sweep was written beneath, or it waits still; then nothing was written, or that page was.
pub record WritesOut (head : ℕ) (es : List Entry) (old : DiskState) (result : Result (Unit {0}) DiskError)
    (new : DiskState) (left : List Entry) (later : ℕ) : Type 0 where
  pub first : Entry
  pub is_first : IsFirst head es first
  pub out : OnOk result (RevealsWrite (page_write first) old new × IsLess es first left × (later ≡ first.sector)
      × (length left + 1 ≡ length es))
  pub stays : OnErr result ((left ≡ es) × (later ≡ head) × (RevealsSame old new ⊎ RevealsWrite (page_write first) old new))
  pub moves : Moves old new

-- All that waited was written beneath, or some of it and one fault came; then the next page of the sweep may have
-- been written, and waits still.
pub record Sweeping (head : ℕ) (es : List Entry) (old : DiskState) (result : Result (Unit {0}) DiskError)
    (new : DiskState) (left : List Entry) (later : ℕ) : Type 0 where
  pub swept : List Entry
  pub sweeps : Sweeps head es swept left
  pub ends : later ≡ head_after head swept
  pub all : OnOk result ((left ≡ []) × Appended (map page_write swept) old new
      × (new.transfers ≤ old.transfers + length swept))
  pub part : OnErr result ((next : Entry) × IsFirst later left next
      × (Appended (map page_write swept) old new ⊎ Appended (map page_write swept ++ page_write next ∷ []) old new)
      × (new.transfers ≤ old.transfers + length swept + 1))
  pub sectors : new.sectors ≡ old.sectors
  pub lent : new.lent ≡ old.lent
  pub later_transfers : old.transfers ≤ new.transfers
  pub faults : old.faults ≤ new.faults

-- the labels that stood stand
abbrev pub LabelsStay : DiskState → DiskState → Type 0
LabelsStay old new = (k : ℕ) (l : Label) → HasLabel old k l → HasLabel new k l

-- a page may have been written beneath, and no other waits than before
pub record MakesRoom (old : DiskState) (es : List Entry) (new : DiskState) (left : List Entry) : Type 0 where
  pub labels : LabelsStay old new
  pub free : (k : ℕ) → waiting_at es k ≡ None → waiting_at left k ≡ None
  pub sectors : new.sectors ≡ old.sectors
  pub lent : new.lent ≡ old.lent

-- There was room, or the first page of the sweep was written out; or nothing waits less.
pub record RoomMade (old : View) (result : Result (Unit {0}) DiskError) (new : View) : Type 0 where
  pub made : OnOk result ((IsStill old new.waiting new × (length old.waiting < old.room))
      ⊎ FirstOut old new.waiting new)
  pub left : OnErr result (LeftOut old new)
  pub met : Meets old result new
