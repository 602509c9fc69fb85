-- How a call on spaces ends: what it wrote and moved, and how it fails.
use Rattle.std.specs.Prelude.{◌≡◌, [], List, Result, Err, IfErr}
use Rattle.labelled_disk.specs.declared.disk.Disk.{Ghosts}
use Rattle.labelled_disk.specs.declared.evidence.Halt.{Halt}
use Rattle.labelled_disk.specs.declared.evidence.Halt.TheVariants as halt
use Rattle.labelled_disk.specs.Calls.{RevealsSame, Rose}
use Rattle.labelled_disk.specs.Sectors.{Sector}
use Rattle.file_map.specs.FileMap.{Triples}
use Rattle.flat_machine.specs.declared.space.Space.{Space}
use Rattle.swapper_kernel.specs.Goes.{Pages}
use Rattle.session_words.specs.Volume.{volume_page}
use Rattle.filer_kernel.specs.Evidence.{ShowsEvidence}
use Rattle.filer_kernel.specs.View.{MakesOnly, View}
use Rattle.fault_core.specs.declared.core_over.Core.{Core}
use Rattle.fault_core.specs.Core.{Knows, kept, state}
use Rattle.fault_core.specs.Lack.{MissesPage, Sees}
use Rattle.fault_core.specs.NeverBlames.{NeverBlamesTables}
use Rattle.fault_core.specs.Reach.{BringsOwn, Reaches}
use Rattle.running_words.specs.Moving.{Moves}
use Rattle.running_words.specs.Session.{WroteIn}
use Rattle.space_calls.specs.Sees.{SeesOn, StillSees}

-- ---- What was written.

-- The writes were permitted, and no page but these became dirty; the maps stay.
pub record MovesOver (pages : Pages) (v w : View) : Type 0 where
  pub wrote : WroteIn pages v.disk v.slots w.disk w.slots
  pub moves : Moves v w

-- No page but the volume's own became dirty, the maps stay, and pages of the maps and of the space tables alone came into frames.
pub record MovesOwn (v w : View) : Type 0 where
  pub wrote : WroteIn volume_page v.disk v.slots w.disk w.slots
  pub moves : Moves v w
  pub came : BringsOwn v.slots w.slots

-- The same, and no label was written.
pub record MakesOwn (v w : View) : Type 0 where
  pub makes : MakesOnly volume_page [] v w
  pub moves : Moves v w
  pub came : BringsOwn v.slots w.slots

module _ {D A : Type 0} {G : Ghosts D} where
  -- The disk was waited for: it reveals the same, and all else is as it was.
  pub record WaitsFor (old new : Core D A G) : Type 0 where
    pub reaches : Reaches (state old) (state new)
    pub same : RevealsSame (state old).disk (state new).disk
    pub frames : (state new).slots ≡ (state old).slots
    pub layout : (state new).layout ≡ (state old).layout
    pub runs : (state new).runs ≡ (state old).runs
    pub kept : kept new ≡ kept old
    pub intervals : new.intervals ≡ old.intervals
    pub known : (m : List Sector) (named : Triples) (ss : List Space) → Knows old m named ss → Knows new m named ss
    pub still : StillSees old new

  -- ---- How it fails, over any contents.

  -- The halt has this cause. It is a fault of the disk only where one was counted, and its evidence of damage is so of the disk; where the
  -- space tables are revealed, it blames none of their pages.
  pub record HaltsBy {T : Type 0} (why : Halt → Type 0) (old new : Core D A G) (result : Result T Halt) : Type 0 where
    pub cause : IfErr result why
    pub counted : result ≡ Err halt.Disk → Rose (state old).disk.faults (state new).disk.faults
    pub evidence_seen : IfErr result (ShowsEvidence (state new).disk)
    pub right : SeesOn old → IfErr result NeverBlamesTables

  -- The same of a call that brings pages of clients in: by the spaces that the tables reveal, only these may be the ones without a sector.
  pub record HaltsToBring {T : Type 0} (why : Halt → Type 0) (pages : List Space → Pages) (old new : Core D A G) (result : Result T Halt) : Type 0 where
    pub cause : IfErr result why
    pub missing : (ss : List Space) → Sees (state old) (kept old) old.intervals ss → IfErr result (MissesPage (pages ss))
    pub counted : result ≡ Err halt.Disk → Rose (state old).disk.faults (state new).disk.faults
    pub evidence_seen : IfErr result (ShowsEvidence (state new).disk)
    pub right : SeesOn old → IfErr result NeverBlamesTables
