-- How a session begins, and why none does.
use Rattle.std.specs.Prelude.{◌≡◌, ◌⊎◌, ◌≤◌, ℕ, List, Some}
use Rattle.labelled_disk.specs.declared.disk.Disk.{Ghosts}
use Rattle.labelled_disk.specs.Sectors.{Sector}
use Rattle.pilot_engine.specs.declared.fault.StartFault.{StartFault}
use Rattle.pilot_engine.specs.declared.fault.StartFault.TheVariants.{Root as NoRoot, NoMemory, Halt as Halted}
use Rattle.scavenger.specs.declared.fault.ScavengeFault.{ScavengeFault}
use Rattle.scavenger.specs.declared.fault.ScavengeFault.TheVariants as scavenging
use Rattle.labelled_disk.specs.declared.evidence.Halt.TheVariants as halt
use Rattle.embedded.specs.declared.code.Code.{Code}
use Rattle.embedded.specs.declared.code.Code.TheVariants as code
use Rattle.embedded.specs.declared.engine.Engine.{Engine}
use Rattle.embedded.specs.Engine.{OfDisk}

-- a session may have so many frames
abbrev pub IsFrames : ℕ → Type 0
IsFrames frames = (24 ≤ frames) × (frames ≤ 4096)

-- the code of a start that failed
abbrev pub code_of : StartFault → Code
code_of (NoRoot why) = code.Root why
code_of NoMemory = code.NoMemory
code_of (Halted why) = code.Halted why

-- the code of a restoration that failed
abbrev pub restoration_code : ScavengeFault → Code
restoration_code (scavenging.Root why) = code.Root why
restoration_code scavenging.Disk = code.Halted halt.Disk
restoration_code scavenging.NoMemory = code.NoMemory

module _ {D A : Type 0} {G : Ghosts D} where
  -- its disk reveals that it has these sectors
  abbrev pub Reveals : List Sector → Engine D A G → Type 0
  Reveals d e = OfDisk (λ disk. disk.contents ≡ Some d) e
