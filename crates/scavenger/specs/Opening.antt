-- How the root of a volume that is to be restored is judged.
use Rattle.std.specs.Prelude.{◌≡◌, ℕ, List, length, slice_get, false, Some, Result, Ok, Err}
use Rattle.labelled_disk.specs.declared.layout.RootFault.{RootFault}
use Rattle.labelled_disk.specs.declared.layout.RootFault.TheVariants as fault
use Rattle.labelled_disk.specs.Layout.{IsCount}
use Rattle.labelled_disk.specs.Sectors.{Sector}
use Rattle.labelled_disk.specs.State.{DiskState}
use Rattle.volume_root.specs.declared.root.Root.{Root}
use Rattle.volume_root.specs.RootPage.{judged}
use Rattle.scavenger.specs.declared.fault.ScavengeFault.{ScavengeFault}
use Rattle.scavenger.specs.declared.fault.ScavengeFault.TheVariants as why

-- The answer fits how the root is judged: a refusal is this refusal, and where the root is accepted no other comes than one
-- since it is out of memory. Where the disk failed, nothing is said.
abbrev pub Accords : {T : Type 0} → Result T ScavengeFault → Result Root RootFault → Type 0
Accords (Ok x) right = (root : Root) × (right ≡ Ok root)
Accords (Err (why.Root fault)) right = right ≡ Err fault
Accords (Err why.NoMemory) right = (root : Root) × (right ≡ Ok root)
Accords (Err why.Disk) right = Unit {0}

-- the root is refused exactly as it is judged: by the disk's count of sectors, and then by what stands in sector 0
pub record JudgesRoot {T : Type 0} (disk : DiskState) (result : Result T ScavengeFault) : Type 0 where
  pub count : ¬ IsCount disk.sectors → result ≡ Err (why.Root (fault.BadCount disk.sectors))
  pub bad_count : (n : ℕ) → result ≡ Err (why.Root (fault.BadCount n)) → ¬ IsCount disk.sectors × (n ≡ disk.sectors)
  pub judged : IsCount disk.sectors → (g : List Sector) → disk.contents ≡ Some g → (s : Sector)
      → slice_get g 0 ≡ Some s → Accords result (judged false (length g) s)

-- the disk failed, or there was no memory
abbrev pub IsDiskOrMemory : ScavengeFault → Type 0
IsDiskOrMemory (why.Root fault) = ⊥
IsDiskOrMemory why.Disk = Unit {0}
IsDiskOrMemory why.NoMemory = Unit {0}
