-- Two volumes, of which the second gets copies of files of the first: the machine of a pair.
use Rattle.std.specs.Prelude.{◌≡◌, ◌≢◌, ℕ, ◌+◌, ◌/◌, ◌^◌, ◌<◌, ◌≤◌, true, not, ◌==◌, nat_lt, if◌then◌else◌, List, Option, Some, None, slice_get}
use Rattle.std.specs.List.{AllByRecursion}
use Rattle.std.specs.Option.{option_map_or}
use Rattle.labelled_disk.specs.File.{File, file_at, size, total_room}
use Rattle.labelled_disk.specs.FilesOn.{put_file}
use Rattle.labelled_disk.specs.Ascending.{AreAscending}
use Rattle.pair_machine.specs.declared.call.PairCall.{PairCall}
use Rattle.pair_machine.specs.declared.call.PairCall.TheVariants.{Copy, Compare}
use Rattle.pair_machine.specs.declared.call.PairRefusal.{PairRefusal}
use Rattle.pair_machine.specs.declared.call.PairRefusal.TheVariants as why
use Rattle.pair_machine.specs.declared.call.PairReply.{PairReply}
use Rattle.pair_machine.specs.declared.call.PairReply.TheVariants as reply

-- the permanent files of both, and the serial and the capacity of the second
pub record Pair : Type 0 where
  pub from : List File
  pub to : List File
  pub serial : ℕ
  pub capacity : ℕ

-- why a file of the first is not copied: it is mutable, the second has one of the identifier or gives such out, or it
-- has no room
abbrev pub copy_refusal : Pair → File → Option PairRefusal
copy_refusal p f =
    if not f.immutable then Some why.Mutable
    else (option_map_or (λ g. Some why.Exists)
    (file_at p.to f.id)
    (if f.id / 2 ^ 32 == p.serial then Some why.Serial
    else (if nat_lt p.capacity (total_room p.to + size f + 1) then Some why.Full else None)))

-- why a call is refused, if it is
abbrev pub pair_refusal : Pair → PairCall → Option PairRefusal
pair_refusal p (Copy id) = option_map_or (copy_refusal p) (file_at p.from id) (Some why.File)
pair_refusal p (Compare id) =
    option_map_or (λ f. option_map_or (λ g. None) (file_at p.to id) (Some why.File)) (file_at p.from id) (Some why.File)

-- the second has the file of the first
abbrev pub with_copy : Pair → ℕ → Pair
with_copy p id = option_map_or (λ f. record p { to = put_file f p.to }) (file_at p.from id) p

-- a copy that is not refused adds the file, and nothing else changes anything
abbrev pub next_pair : Pair → PairCall → Pair
next_pair p (Copy id) = option_map_or (λ w. p) (pair_refusal p (Copy id)) (with_copy p id)
next_pair p (Compare id) = p

-- this is the lowest page that one of them misses, or that has other cells in the other
pub record IsFirstDifference (f g : File) (page : ℕ) : Type 0 where
  pub differs : slice_get f.pages page ≢ slice_get g.pages page
  pub below : (k : ℕ) → k < page → slice_get f.pages k ≡ slice_get g.pages k

-- the reply to two files that are compared
abbrev pub Compares : File → File → PairReply → Type 0
Compares f g reply.Same = f.pages ≡ g.pages
Compares f g (reply.Differs page) = IsFirstDifference f g page
Compares f g other = ⊥

-- the reply to a call that is not refused
abbrev pub Replies : Pair → PairCall → PairReply → Type 0
Replies p (Copy id) r = r ≡ reply.Done
Replies p (Compare id) r =
    (f : File) × (g : File) × (file_at p.from id ≡ Some f) × (file_at p.to id ≡ Some g) × Compares f g r

-- the reply is the refusal, if there is one
abbrev pub IsRefusedOr : Option PairRefusal → PairReply → Type 0 → Type 0
IsRefusedOr None r otherwise = otherwise
IsRefusedOr (Some w) r otherwise = r ≡ reply.Refused w

-- the pair allows this reply to the call
abbrev pub AllowsPair : Pair → PairCall → PairReply → Type 0
AllowsPair p c r = IsRefusedOr (pair_refusal p c) r (Replies p c r)

-- Both lists are in ascending identifiers, all files are permanent, and the second volume has room for its own.
pub record IsPair (p : Pair) : Type 0 where
  pub from_ascends : AreAscending p.from
  pub to_ascends : AreAscending p.to
  pub from_permanent : AllByRecursion (λ f. f.permanent ≡ true) p.from
  pub to_permanent : AllByRecursion (λ f. f.permanent ≡ true) p.to
  pub room : total_room p.to ≤ p.capacity
