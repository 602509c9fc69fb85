-- Why a run reveals that a volume is damaged: from what stood when it began, and what it gave and gave up.
use Rattle.std.specs.Prelude.{List, length}
use Rattle.labelled_disk.specs.declared.disk.Disk.{Ghosts}
use Rattle.labelled_disk.specs.declared.disk.DiskWrite.{DiskWrite}
use Rattle.labelled_disk.specs.declared.evidence.Evidence.{Evidence}
use Rattle.labelled_disk.specs.declared.evidence.Halt.TheVariants.{Damaged}
use Rattle.labelled_disk.specs.Layout.{layout_of}
use Rattle.labelled_disk.specs.Sectors.{Sector}
use Rattle.labelled_disk.specs.State.{DiskState}
use Rattle.file_map.specs.FileMap.{Triples}
use Rattle.file_manager.specs.Reasons.{HasReason, IsNotOlder, KeepsOn, InitialState}
use Rattle.pilot_engine.specs.declared.session.Session.{Session}
use Rattle.pilot_engine.specs.Reasons.{FromStart, IsBegun, IsBlameless, SeesHome}
use Rattle.fault_core.specs.Core.{state}

-- Where the disk revealed at the start its sectors and the writes that were made, and its file map was in form, a label that is revealed has
-- its reason in the layout, in what both maps said then, or in what the run gave and gave up, after its first write, which is a
-- root's. Of the file map page 0 alone is reported as broken, where more pages are or were at home than it may have records. A page of a
-- file is reported as missing that nothing of all this makes be at home, though it is one of what the file is or was; of the space tables
-- page 0 alone, where each data sector is used. No page of the space tables is reported as broken.
abbrev pub FromInitialState : DiskState → DiskState → Evidence → Type 0
FromInitialState before after evidence =
    (d : List Sector) (named : Triples) (ws : List DiskWrite) → IsBegun d named ws before
    → FromStart d named ws (λ o. HasReason o (layout_of (length d)) after evidence × IsBlameless o after (Damaged evidence))

module _ {D A : Type 0} {G : Ghosts D} where
  -- of a session: whichever initial state its filer kept to, the volume's root being ahead of it, the evidence has its reason in that; and where
  -- the session saw the space tables, and the pages that its windows show were there, it is none that this rules out
  abbrev pub FromEachInitialState : Session D A G → DiskState → Evidence → Type 0
  FromEachInitialState session after evidence =
      (o : InitialState) → KeepsOn o session.core.filer → IsNotOlder o session.volume.root
      → HasReason o (state session.core).layout after evidence × (SeesHome o session.core → IsBlameless o after (Damaged evidence))
