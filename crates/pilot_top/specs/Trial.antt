-- A trial: drawn calls on a new volume, and what is revealed of their replies.
use Rattle.std.specs.Prelude.{◌≡◌, ◌⊎◌, ℕ, Bool, true, false, ◌%◌, ◌^◌, List, [], ◌∷◌, ◌++◌, codes, filter, flat_map, fold, length, map, sum_by, Some, None}
use Rattle.std.specs.Fmt.{decimal}
use Rattle.std.specs.List.{range_with_len}
use Rattle.labelled_disk.specs.FilesOn.{files_on}
use Rattle.labelled_disk.specs.Layout.{capacity}
use Rattle.labelled_disk.specs.Sectors.{Sector}
use Rattle.labelled_disk.specs.State.{DiskState}
use Rattle.labelled_disk.specs.WriteRuns.{Appended}
use Rattle.flat_machine.specs.declared.call.Call.{Call}
use Rattle.flat_machine.specs.declared.call.Call.TheVariants.{Create, MakeSpace, Map}
use Rattle.flat_machine.specs.declared.call.Reply.{Reply}
use Rattle.flat_machine.specs.declared.call.Reply.TheVariants as reply
use Rattle.flat_machine.specs.After.{AllowsAll}
use Rattle.flat_machine.specs.Machine.{Machine}
use Rattle.flat_machine.specs.Next.{next}
use Rattle.flat_machine.specs.Start.{opened}
use Rattle.trace_maker.specs.Calls.{call_of}
use Rattle.volume_root.specs.Format.{PartMade, format_writes}
use Rattle.volume_root.specs.Sound.{Sound}
use Rattle.pilot_top.specs.CrashStates.{Lawfully}

-- The calls.

-- four files of 16 pages, four spaces of 16 pages, and a writable window of each space on its file, from its first page on
abbrev pub first_calls : List Call
first_calls =
    Create 16 0 ∷ Create 16 0 ∷ Create 16 0 ∷ Create 16 0
    ∷ MakeSpace 0 16 None ∷ MakeSpace 0 16 None ∷ MakeSpace 0 16 None ∷ MakeSpace 0 16 None
    ∷ Map 1 4294967297 0 true ∷ Map 2 4294967298 0 true ∷ Map 3 4294967299 0 true ∷ Map 4 4294967300 0 true ∷ []

-- so many calls that this seed draws
abbrev pub drawn_calls : ℕ → ℕ → List Call
drawn_calls seed calls = map (call_of seed) (range_with_len 0 calls)

-- The replies.

-- the machine of an empty volume of so many sectors, with serial 1 and counter 1
abbrev pub empty_volume : ℕ → Machine
empty_volume sectors = opened 1 1 (capacity sectors)

-- the machine after these calls
abbrev pub after_calls : Machine → List Call → Machine
after_calls m calls = fold next m calls

-- These are the replies to calls in a row, each allowed where its call stands; and what is said of the machine after the calls
-- is so.
pub record HasAnswered (m : Machine) (calls : List Call) (replies : List Reply) (now : Machine → Type 0) : Type 0 where
  pub count : length replies ≡ length calls
  pub allowed : AllowsAll m (map Some calls) replies
  pub stands : now (after_calls m calls)

-- A trial that begins with this machine gets these replies to its drawn calls: the machine allows each of them where it stands,
-- after allowed replies to the first calls.
pub record IsTrialOf (m : Machine) (seed calls : ℕ) (replies : List Reply) : Type 0 where
  pub before : List Reply
  pub before_count : length before ≡ length first_calls
  pub count : length replies ≡ calls
  pub allowed : AllowsAll m (map Some (first_calls ++ drawn_calls seed calls)) (before ++ replies)

-- a trial on a new volume of so many sectors
abbrev pub IsTrial : ℕ → ℕ → ℕ → List Reply → Type 0
IsTrial sectors seed calls replies = IsTrialOf (empty_volume sectors) seed calls replies

-- the call was refused
abbrev pub is_refused : Reply → Bool
is_refused (reply.Refused why) = true
is_refused other = false

-- the bytes that the call gave
abbrev pub bytes_in : Reply → List ℕ
bytes_in (reply.Bytes bytes) = bytes
bytes_in other = []

-- all bytes that the calls gave
abbrev pub bytes_given : List Reply → List ℕ
bytes_given replies = flat_map bytes_in replies

-- the line about these replies: how many calls there were, how many were refused, how many bytes were loaded, and their sum
-- modulo 2 ^ 32
abbrev pub trial_line : ℕ → List Reply → List ℕ
trial_line calls replies =
    codes "trial calls " ++ decimal calls ++ codes " errors " ++ decimal (length (filter is_refused replies))
    ++ codes " loaded " ++ decimal (length (bytes_given replies)) ++ codes " sum " ++ decimal (sum_by (λ b. b) (bytes_given replies) % 2 ^ 32) ++ codes "\n"

-- The volume that is left.

-- the disk reveals a sound volume without a file, and all of it is on the medium
pub record HasNoFile (disk : DiskState) : Type 0 where
  pub sectors : List Sector
  pub revealed : disk.contents ≡ Some sectors
  pub sound : Sound sectors
  pub no_files : files_on sectors ≡ []
  pub synced : disk.synced ≡ true

-- Over any contents: of the writes that make the volume some first ones were made, and no others; or all of them, and after
-- them permitted ones.
abbrev pub TriesLawfully : DiskState → DiskState → Type 0
TriesLawfully old new =
    PartMade (format_writes old.sectors 1 1) old new ⊎ ((made : DiskState) × Appended (format_writes old.sectors 1 1) old made × Lawfully made new)
