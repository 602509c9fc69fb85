-- Which machines a call leads over, and what a stop among its writes leaves.
use Rattle.std.specs.Prelude.{◌≡◌, ◌⊎◌, ℕ, zero, suc, ◌+◌, ◌-◌, ◌≤◌, nat_lt, if◌then◌else◌, List, Some, is_none}
use Rattle.labelled_disk.specs.declared.disk.DiskWrite.{DiskWrite}
use Rattle.std.specs.Option.{option_map_or}
use Rattle.labelled_disk.specs.File.{File, size, file_at}
use Rattle.labelled_disk.specs.CrashState.{crash_state}
use Rattle.labelled_disk.specs.Root.{counter_of, root_page, serial_of, short_at}
use Rattle.labelled_disk.specs.Runs.{lengthened, shortened}
use Rattle.labelled_disk.specs.Sectors.{Sector}
use Rattle.labelled_disk.specs.State.{DiskState}
use Rattle.labelled_disk.specs.WriteRuns.{Appended}
use Rattle.flat_machine.specs.declared.call.Call.{Call}
use Rattle.flat_machine.specs.declared.call.Call.TheVariants.{SetSize}
use Rattle.flat_machine.specs.declared.call.Call.TheVariants as call
use Rattle.flat_machine.specs.Machine.{Machine}
use Rattle.flat_machine.specs.Next.{next, change_file}
use Rattle.flat_machine.specs.Refusal.{refusal}
use Rattle.session_words.specs.StandsFor.{RevealsSettled}
use Rattle.session_words.specs.Volume.{volume_page}
use Rattle.swapper_kernel.specs.Goes.{Pages}

-- the file after k steps towards so many pages
abbrev pub towards : ℕ → ℕ → File → File
towards pages k f = if nat_lt pages (size f) then shortened k f else lengthened k f

-- the machine after k steps of a call: one that gives a file another size goes page by page, any other is whole or absent;
-- one that is refused has no step
abbrev pub stage : Machine → Call → ℕ → Machine
stage m call zero = m
stage m (SetSize id pages) (suc k) = if is_none (refusal m (SetSize id pages)) then record m { files = change_file id (towards pages (suc k)) m.files } else m
stage m call (suc k) = next m call

-- how many steps a call has at most
abbrev pub last_step : Machine → Call → ℕ
last_step m (SetSize id pages) = if is_none (refusal m (SetSize id pages)) then option_map_or (λ f. (pages - size f) + (size f - pages)) (file_at m.files id) 0 else 0
last_step m call = 1

-- the root has the machine's serial, and the counter of before the call or of after it
pub record HasNumbers (m : Machine) (call : Call) (d : List Sector) : Type 0 where
  pub same_serial : serial_of d ≡ m.serial
  pub counter : (counter_of d ≡ m.counter) ⊎ (counter_of d ≡ (next m call).counter)

-- In each crash state of the writes the disk reveals the settled files of the machine after some steps of the call, and with
-- each write there are as many steps or more. The clean flag is not set, and the root has the machine's numbers.
pub record Passes (m : Machine) (call : Call) (old new : DiskState) : Type 0 where
  pub writes : List DiskWrite
  pub appended : Appended writes old new
  pub steps : ℕ → ℕ
  pub rise : (j k : ℕ) → j ≤ k → steps j ≤ steps k
  pub within : (k : ℕ) → steps k ≤ last_step m call
  pub reveals : (d : List Sector) (k : ℕ) → old.contents ≡ Some d → RevealsSettled (crash_state d writes k) (stage m call (steps k))
  pub open_flag : (d : List Sector) (k : ℕ) → old.contents ≡ Some d → short_at (root_page (crash_state d writes k)) 10 ≡ 0
  pub numbers : (d : List Sector) (k : ℕ) → old.contents ≡ Some d → HasNumbers m call (crash_state d writes k)

-- a page of the volume's own, or of a client's file
abbrev pub client_or_own : Pages
client_or_own id page = volume_page id page ⊎ (16 ≤ id)

-- the pages that a call may make dirty
abbrev pub may_dirty : Call → Pages
may_dirty (call.Store address bytes) = client_or_own
may_dirty other = volume_page
