-- How the answers of a conversion accord with how its root is judged, and with the room that there is.
use Rattle.std.specs.Prelude.{◌≡◌, ◌≢◌, ◌⊎◌, ◌<◌, ◌≤◌, ℕ, List, length, slice_get, Some, Result, Ok, Err, OnOk}
use Rattle.labelled_disk.specs.declared.layout.RootFault.{RootFault}
use Rattle.labelled_disk.specs.declared.layout.RootFault.TheVariants as fault
use Rattle.labelled_disk.specs.Calls.{OnlyReads}
use Rattle.labelled_disk.specs.File.{total_room}
use Rattle.labelled_disk.specs.Layout.{capacity}
use Rattle.labelled_disk.specs.Sectors.{Sector}
use Rattle.labelled_disk.specs.State.{DiskState}
use Rattle.volume_root.specs.declared.root.Root.{Root}
use Rattle.volume_root.specs.OldRoot.{IsOldCount, judged_old}
use Rattle.old_files.specs.OldFiles.{files_old}
use Rattle.volume_convert.specs.declared.fault.ConvertFault.{ConvertFault}
use Rattle.volume_convert.specs.declared.fault.ConvertFault.TheVariants as why

-- A refusal is this refusal; where the root is accepted, none comes. Where the disk failed, nothing is said.
abbrev pub AccordsOld : {T : Type 0} → Result T ConvertFault → Result Root RootFault → Type 0
AccordsOld (Ok x) right = (root : Root) × (right ≡ Ok root)
AccordsOld (Err (why.Root fault)) right = right ≡ Err fault
AccordsOld (Err why.NoMemory) right = (root : Root) × (right ≡ Ok root)
AccordsOld (Err (why.Unfit wanted capacity)) right = (root : Root) × (right ≡ Ok root)
AccordsOld (Err why.Disk) right = Unit {0}

-- The root is refused exactly as an old root is judged: by the disk's count of sectors, and then by what stands in
-- sector 0.
pub record JudgesRoot {T : Type 0} (disk : DiskState) (result : Result T ConvertFault) : Type 0 where
  pub count : ¬ IsOldCount disk.sectors → result ≡ Err (why.Root (fault.BadCount disk.sectors))
  pub bad_count : (n : ℕ) → result ≡ Err (why.Root (fault.BadCount n)) → ¬ IsOldCount disk.sectors × (n ≡ disk.sectors)
  pub judged : IsOldCount disk.sectors → (d : List Sector) → disk.contents ≡ Some d → (s : Sector)
      → slice_get d 0 ≡ Some s → AccordsOld result (judged_old (length d) s)

-- Files and pages are too many exactly where they are more than there is room for.
pub record JudgesRoom {T : Type 0} (disk : DiskState) (result : Result T ConvertFault) : Type 0 where
  pub wants : (wanted room : ℕ) → result ≡ Err (why.Unfit wanted room)
      → (room ≡ capacity disk.sectors) × (room < wanted)
  pub unfit : (wanted room : ℕ) → result ≡ Err (why.Unfit wanted room) → (d : List Sector) → disk.contents ≡ Some d
      → wanted ≡ total_room (files_old d)
  pub fits : (d : List Sector) → disk.contents ≡ Some d → OnOk result (total_room (files_old d) ≤ capacity (length d))

-- The root is refused, or the files have no room; nothing is written but where it answers Ok or the disk failed.
pub record Refuses {T : Type 0} (old new : DiskState) (result : Result T ConvertFault) : Type 0 where
  pub root : JudgesRoot old result
  pub room : JudgesRoom old result
  pub unwritten : (fault : ConvertFault) → result ≡ Err fault → fault ≢ why.Disk → OnlyReads old new

-- these sectors have no old volume, and this is why
abbrev pub IsNoOldVolume : List Sector → RootFault → Type 0
IsNoOldVolume d why =
    ((¬ IsOldCount (length d)) × (why ≡ fault.BadCount (length d)))
    ⊎ (IsOldCount (length d) × (s : Sector) × (slice_get d 0 ≡ Some s) × (judged_old (length d) s ≡ Err why))

-- the old files have no room
abbrev pub HasNoRoom : List Sector → Type 0
HasNoRoom d = capacity (length d) < total_room (files_old d)

-- whatever else fails, nothing is written where there is no old volume, or its files have no room
abbrev pub LeavesOthers : DiskState → DiskState → Type 0
LeavesOthers old new = (d : List Sector) → old.contents ≡ Some d
    → ((why : RootFault) × IsNoOldVolume d why) ⊎ HasNoRoom d → OnlyReads old new
