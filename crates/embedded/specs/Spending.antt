-- What calls in a row do to the disk of an engine: no fault of it is lost, and so many sectors are moved at most.
use Rattle.std.specs.Prelude.{◌≡◌, ◌⊎◌, ◌≤◌, ◌<◌, ◌+◌, ◌*◌, ℕ, Option, Some, None}
use Rattle.labelled_disk.specs.Calls.{Rose}
use Rattle.labelled_disk.specs.State.{DiskState}
use Rattle.labelled_disk.specs.declared.disk.Disk.{Ghosts}
use Rattle.flat_machine.specs.Machine.{Machine}
use Rattle.running_words.specs.Bound.{other_bound}
use Rattle.embedded.specs.declared.engine.Engine.{Engine}
use Rattle.embedded.specs.Engine.{Between, IsClosed, StandsFor, disk_of}
use Rattle.embedded.specs.Later.{Later}

-- the same disk later; one that was let go of stays so
abbrev pub IsLater : Option DiskState → Option DiskState → Type 0
IsLater (Some old) (Some new) = Later old new
IsLater (Some old) None = ⊥
IsLater None (Some new) = ⊥
IsLater None None = Unit {0}

-- a disk moved as many sectors since as so many calls may, and so many loads and stores of up to a page
abbrev pub MovedFew : ℕ → ℕ → Option DiskState → Option DiskState → Type 0
MovedFew calls pieces (Some old) (Some new) = new.transfers ≤ old.transfers + (calls * other_bound old.sectors + 1680 * pieces)
MovedFew calls pieces (Some old) None = Unit {0}
MovedFew calls pieces None new = Unit {0}

module _ {D A : Type 0} {G : Ghosts D} where
  -- its disk counted a fault
  abbrev pub HasFailed : Engine D A G → Engine D A G → Type 0
  HasFailed old new = Between (λ before after. Rose before.faults after.faults) old new

  -- it has no session, or one that stands for a machine
  abbrev pub IsKnown : Engine D A G → Type 0
  IsKnown e = IsClosed e ⊎ ((m : Machine) × StandsFor e m)

  -- From the one to the other no fault of the disk was lost. Where the one is known, so is the other, and so many calls, and
  -- so many loads and stores of up to a page, may move as many sectors as were moved.
  pub record Spends (calls pieces : ℕ) (old new : Engine D A G) : Type 0 where
    pub later : IsLater (disk_of old) (disk_of new)
    pub cost : IsKnown old → IsKnown new × MovedFew calls pieces (disk_of old) (disk_of new)

  -- the same of loads or stores of so many bytes in a row: one for each page that they fill, or begin
  abbrev pub SpendsOn : ℕ → Engine D A G → Engine D A G → Type 0
  SpendsOn bytes old new = (pieces : ℕ) × (512 * pieces ≤ bytes + 511) × Spends 0 pieces old new
