-- A file that is to be copied.
use Rattle.std.specs.Prelude.{◌≡◌, ◌≢◌, ◌⊎◌, ◌+◌, ◌/◌, ◌^◌, ◌≤◌, ◌==◌, nat_lt, if◌then◌else◌, ℕ, true, false, List, Option, Some, None, Result, Ok, Err}
use Rattle.std.specs.Option.{option_map_or}
use Rattle.labelled_disk.specs.File.{File, file_at, size}
use Rattle.filer_kernel.specs.View.{View}
use Rattle.file_manager.specs.declared.attributes.Attributes.{Attributes}
use Rattle.file_manager.specs.declared.volume.Volume.{Volume}
use Rattle.pair_machine.specs.declared.call.PairCall.{PairCall}
use Rattle.pair_machine.specs.declared.call.PairCall.TheVariants.{Copy, Compare}
use Rattle.pair_machine.specs.declared.call.PairRefusal.{PairRefusal}
use Rattle.pair_machine.specs.declared.call.PairRefusal.TheVariants as why
use Rattle.pair_machine.specs.declared.call.PairReply.{PairReply}
use Rattle.pair_machine.specs.declared.call.PairReply.TheVariants as reply
use Rattle.pair_machine.specs.Pair.{AllowsPair, Pair, next_pair}
use Rattle.volume_pair.specs.Pairs.{IsPaired}
use Rattle.volume_pair.specs.Sides.{IsLookedAt}

-- the list has the file, which is immutable and of this size and type; or why it is not copied
abbrev pub IsOriginal : List File → ℕ → Result Attributes PairRefusal → Type 0
IsOriginal fs id (Ok a) = (f : File) × (file_at fs id ≡ Some f) × (f.immutable ≡ true) × (size f ≡ a.pages) × (f.kind ≡ a.kind)
IsOriginal fs id (Err w) =
    ((file_at fs id ≡ None) × (w ≡ why.File)) ⊎ ((f : File) × (file_at fs id ≡ Some f) × (f.immutable ≡ false) × (w ≡ why.Mutable))

-- a file is copied once it is immutable
abbrev pub judged : Attributes → Result Attributes PairRefusal
judged a = if a.immutable then Ok a else Err why.Mutable

-- why the volume takes no file of so many pages under this identifier, which no file of it has
abbrev pub room_refusal : Volume → ℕ → ℕ → Option PairRefusal
room_refusal volume id pages =
    if id / 2 ^ 32 == volume.root.serial then Some why.Serial
    else (if nat_lt volume.layout.capacity (volume.used + pages + 1) then Some why.Full else None)

-- or the list has it
abbrev pub refusal_in : List File → Volume → ℕ → ℕ → Option PairRefusal
refusal_in gs volume id pages = option_map_or (λ g. Some why.Exists) (file_at gs id) (room_refusal volume id pages)

-- the volume gives out no such identifiers, and has room for a file of so many pages
pub record Takes (volume : Volume) (id pages : ℕ) : Type 0 where
  pub other : id / 2 ^ 32 ≢ volume.root.serial
  pub room : volume.used + pages + 1 ≤ volume.layout.capacity

-- root and layout are those of before
pub record KeepsNumbers (old new : Volume) : Type 0 where
  pub root : new.root ≡ old.root
  pub layout : new.layout ≡ old.layout

-- the file that a call names
abbrev pub id_of : PairCall → ℕ
id_of (Copy id) = id
id_of (Compare id) = id

-- Once it is answered that a copy was made, all that was written is on the medium. Where it is answered that none was, the volume
-- was only looked at.
pub record LeavesSecond (v w : View) (r : PairReply) : Type 0 where
  pub on_medium : r ≡ reply.Done → w.disk.synced ≡ true
  pub looked : r ≢ reply.Done → IsLookedAt v w

-- The reply is one that the pair allows, and both sides stand for the two lists after the call.
pub record RepliesPair (p : Pair) (call : PairCall) (new_from new_to : View) (volume : Volume) (r : PairReply) : Type 0 where
  pub allowed : AllowsPair p call r
  pub stands : IsPaired new_from new_to volume (next_pair p call)
