-- The machine that a core and a volume stand for, with its spaces.
use Rattle.std.specs.Prelude.{◌≡◌, ℕ, if◌then◌else◌, nat_eq, List, Some, None}
use Rattle.std.specs.List.{concat}
use lib.Pointwise.{pointwise}
use Rattle.labelled_disk.specs.declared.disk.Disk.{Ghosts}
use Rattle.flat_machine.specs.declared.call.Call.{Call}
use Rattle.flat_machine.specs.declared.call.Reply.{Reply}
use Rattle.flat_machine.specs.declared.space.Space.{Space}
use Rattle.flat_machine.specs.Machine.{Machine}
use Rattle.flat_machine.specs.Allows.{Allows}
use Rattle.flat_machine.specs.Next.{next}
use Rattle.swap_units.specs.declared.interval.Interval.{Interval}
use Rattle.space_tables.specs.Stored.{RevealSpaces}
use Rattle.session_words.specs.Parts.{TablesMeaning}
use Rattle.file_manager.specs.declared.volume.Volume.{Volume}
use Rattle.fault_core.specs.declared.core_over.Core.{Core}
use Rattle.fault_core.specs.Core.{kept, state}
use Rattle.fault_core.specs.Kept.{IsKept}
use Rattle.fault_core.specs.Revealed.{IsIntervalOf}
use Rattle.filer_kernel.specs.View.{View}
use Rattle.running_words.specs.Session.{IsSession}

-- these very pages of the space tables mean these spaces
abbrev pub exactly : List (List ℕ) → List Space → TablesMeaning
exactly pages spaces others = if pointwise (pointwise nat_eq) others pages then Some spaces else None

-- What is seen of a core, and a volume, stand for a machine. The pages of the space tables are those of its spaces, with so
-- many intervals, and the intervals that are kept are among them.
pub record IsRunning (v : View) (kept : List Interval) (count : ℕ) (volume : Volume) (m : Machine) : Type 0 where
  pub pages : List (List ℕ)
  pub tables : RevealSpaces (λ b. b ≡ concat pages) count m.spaces
  pub session : IsSession (exactly pages m.spaces) v.disk v.slots v.layout v.runs volume m
  pub cached : (x : Interval) → IsKept kept x → IsIntervalOf m.spaces x

module _ {D A : Type 0} {G : Ghosts D} where
  -- a core and a volume stand for a machine
  abbrev pub Runs : Core D A G → Volume → Machine → Type 0
  Runs c volume m = IsRunning (state c) (kept c) c.intervals volume m

  -- the machine allows the reply, and core and volume stand for the machine after the call
  pub record Carried (m : Machine) (call : Call) (core : Core D A G) (volume : Volume) (reply : Reply) : Type 0 where
    pub allowed : Allows m call reply
    pub runs : Runs core volume (next m call)
