-- The syncs around the marks of a copy.
use Rattle.std.proofs.Common.{◌≡◌, inl, inr, ℕ, Bool, true, false, List, length, Result, Ok, Err}
use Rattle.labelled_disk.specs.Runs.{creation}
use Rattle.labelled_disk.specs.State.{DiskState}
use Rattle.frame_pool.specs.Frames.{Slots}
use Rattle.swapper_kernel.specs.Goes.{KeepsSyncs}
use Rattle.filer_kernel.specs.View.{View}
use Rattle.label_calls.specs.OwnLaws.{creation_whole, first_whole}
use Rattle.label_calls.specs.Synced.{SyncedThere, SyncsAround}
use Rattle.label_calls.specs.SyncedLaws.{WroteSynced, around_after, kept_at, quiet_synced, syncs_around, whole_synced, wrote_synced}
use Rattle.label_calls.specs.declared.page.Mark.{Mark}
use Rattle.file_manager.specs.Answer.{WritesMark}
use Rattle.file_manager.specs.Making.{CreatesAll, CreatesSome}
use Rattle.volume_pair.specs.declared.fault.PairHalt.{PairHalt}
use Rattle.volume_pair.specs.Sides.{IsLookedAt, IsWrittenFor, SyncsSecond}

-- a leader got a mark, or nothing was written
pub marked_around : {failed : Bool} (mark : Mark) {a b : DiskState} {s t : Slots} → WritesMark mark a s b t → SyncsAround failed a b → WroteSynced failed a b
marked_around mark (inl nothing) around = wrote_synced nothing around
marked_around mark (inr made) around = wrote_synced made.2 around

-- a file was made, or some of it
pub all_around : (file kind pages : ℕ) (v w : View) → CreatesAll file kind pages v.disk v.slots w.disk w.slots → WroteSynced false v.disk w.disk
all_around file kind pages v w h = whole_synced false (creation_whole file kind h.leader h.sectors) h.makes

pub some_around : (file kind pages : ℕ) (v w : View) → CreatesSome file kind pages v.disk v.slots w.disk w.slots → WroteSynced true v.disk w.disk
some_around file kind pages v w h = whole_synced true (first_whole h.count (creation file kind h.leader h.sectors) (creation_whole file kind h.leader h.sectors)) h.makes

-- what calls wrote in a row
pub written_around : {failed : Bool} {file : ℕ} (v w : View) → IsWrittenFor file v w → SyncsAround failed v.disk w.disk → WroteSynced failed v.disk w.disk
written_around v w writes around = wrote_synced writes.makes around

-- nothing was written
pub looked_around : {T : Type 0} (result : Result T PairHalt) {v w : View} → IsLookedAt v w → SyncsSecond result v.disk w.disk
looked_around (Ok x) looked = syncs_around (quiet_synced false looked.makes)
looked_around (Err e) looked = syncs_around (quiet_synced true looked.makes)

pub looked_first : {failed : Bool} {file : ℕ} (u v w : View) → IsLookedAt u v → IsWrittenFor file v w → SyncsAround failed v.disk w.disk → SyncsAround failed u.disk w.disk
looked_first u v w looked writes around = around_after (quiet_synced false looked.makes) (written_around v w writes around)

-- a sync is there after further calls
pub there_still : (a b c : DiskState) → KeepsSyncs a b → KeepsSyncs b c → SyncedThere a b → SyncedThere a c
there_still a b c kept later there earlier before syncs was had has =
    let between = kept before had in
    kept_at b c (length earlier) between.0 syncs later between.1 has (there earlier before between.0 was had between.1)
