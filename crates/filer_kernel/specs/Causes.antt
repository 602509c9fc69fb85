-- Why a call that searches the file map stops the session.
use Rattle.std.specs.Prelude.{◌≡◌, ◌⊎◌, ℕ, true, List}
use Rattle.labelled_disk.specs.declared.layout.Layout.{Layout}
use Rattle.labelled_disk.specs.declared.evidence.Evidence.{Evidence}
use Rattle.labelled_disk.specs.declared.evidence.Evidence.TheVariants.{Mismatch, Malformed, Missing}
use Rattle.labelled_disk.specs.declared.structure.Structure.TheVariants as structures
use Rattle.labelled_disk.specs.Structure.{IsOfFileMap}
use Rattle.labelled_disk.specs.declared.evidence.Halt.{Halt}
use Rattle.labelled_disk.specs.declared.evidence.Halt.TheVariants.{Disk, Damaged}
use Rattle.labelled_disk.specs.State.{DiskState}
use Rattle.frame_pool.specs.declared.home.Home.{Home}
use Rattle.frame_pool.specs.Frames.{Slots}
use Rattle.page_tree.specs.Page.{page_at, count_in}
use Rattle.file_map.specs.declared.run.Run.{Run}
use Rattle.file_map.specs.Run.{IsRun, holds, sector_at, run_bytes}
use Rattle.file_map.specs.FileMap.{most_records}
use Rattle.file_map.specs.Entries.{Sight, Entry, Stops}
use Rattle.file_map.specs.Cause.{IsBroken, IsMost}
use Rattle.file_map.specs.Map.{ShownBy}
use Rattle.swapper_kernel.specs.declared.manager.Manager.TheVariants.{FileMap}
use Rattle.swapper_kernel.specs.Maps.{IsMapHome}
use Rattle.swapper_kernel.specs.Halts.{IsOther, HasCause, held_or}
use Rattle.swapper_kernel.specs.Window.{Reveals, Beside}
use Rattle.filer_kernel.specs.Triples.{IsOneOf}

-- what the pages of the file map show, whatever their form is
abbrev pub MapShows : Layout → DiskState → Slots → Sight → Type 0
MapShows layout disk slots sight = ShownBy (Reveals FileMap disk slots layout) layout.vfm sight

-- the run is one of these, which were kept, or a record of the map that was read
abbrev pub IsGiven : Layout → DiskState → Slots → List Run → Run → Type 0
IsGiven layout disk slots kept r = IsOneOf r kept ⊎ ((page : ℕ) × MapShows layout disk slots (Entry page (run_bytes r)))

-- the home is that which such a run gives to its page; it is a run of the volume, as each that is found
pub record IsRunHome (layout : Layout) (disk : DiskState) (slots : Slots) (kept : List Run) (home : Home) : Type 0 where
  pub run : Run
  pub given : IsGiven layout disk slots kept run
  pub form : IsRun layout.sectors run
  pub has : holds run home.id home.page ≡ true
  pub at : home.sector ≡ sector_at run home.page

-- the evidence is a label, another than that of a home of the map or of a frame; or a page of the map that breaks its form
abbrev pub MapEvidence : Layout → DiskState → Slots → Evidence → Type 0
MapEvidence layout disk slots (Mismatch sector wanted found) = IsOther (held_or slots (IsMapHome FileMap layout)) disk sector wanted found
MapEvidence layout disk slots (Malformed structure page) = IsOfFileMap structure × IsBroken layout.sectors (MapShows layout disk slots) page
MapEvidence layout disk slots (Missing id page) = ⊥

-- the halt is a fault of the disk, or a label that is another: no page breaks its form, and none is missing
abbrev pub IsFaultOrMismatch : Halt → Type 0
IsFaultOrMismatch Disk = Unit {0}
IsFaultOrMismatch (Damaged (Mismatch sector wanted found)) = Unit {0}
IsFaultOrMismatch (Damaged (Malformed structure page)) = ⊥
IsFaultOrMismatch (Damaged (Missing id page)) = ⊥

-- the halt of a call that searches the map
abbrev pub MapHalts : Layout → DiskState → Slots → DiskState → Halt → Type 0
MapHalts layout old before new halt = HasCause (MapEvidence layout old before) old new halt

-- the bytes of the map count so many records
abbrev pub MapCounts : Layout → DiskState → Slots → ℕ → Type 0
MapCounts layout disk slots n = (b : List ℕ) × Reveals FileMap disk slots layout b × (n ≡ count_in (page_at b 0))

-- such evidence, or a page of the map where no record can be put in, or the map has as many records as it may
abbrev pub AddEvidence : Layout → DiskState → Slots → Evidence → Type 0
AddEvidence layout disk slots (Mismatch sector wanted found) = IsOther (held_or slots (IsMapHome FileMap layout)) disk sector wanted found
AddEvidence layout disk slots (Malformed structure page) = IsOfFileMap structure × ((IsBroken layout.sectors (MapShows layout disk slots) page ⊎ MapShows layout disk slots (Stops page)) ⊎ ((page ≡ 0) × IsMost layout.sectors (MapCounts layout disk slots)))
AddEvidence layout disk slots (Missing id page) = ⊥

-- the halt of a call that adds to the map
abbrev pub AddHalts : Layout → DiskState → Slots → DiskState → Halt → Type 0
AddHalts layout old before new halt = HasCause (AddEvidence layout old before) old new halt

-- the halt is a fault of the disk, or a label that is another; or the map counts as many records as it may
abbrev pub IsFaultOrMost : Layout → DiskState → Slots → Halt → Type 0
IsFaultOrMost layout disk slots halt = IsFaultOrMismatch halt ⊎ ((halt ≡ Damaged (Malformed structures.FileMap 0)) × MapCounts layout disk slots (most_records layout.sectors))

-- as disk and frames were at some time between two others, this page of the map broke its form
pub record IsBrokenBetween (layout : Layout) (old : DiskState) (before : Slots) (new : DiskState) (after : Slots) (page : ℕ) : Type 0 where
  pub disk : DiskState
  pub slots : Slots
  pub since : Beside FileMap old before layout disk slots layout
  pub until : Beside FileMap disk slots layout new after layout
  pub broken : IsBroken layout.sectors (MapShows layout disk slots) page

-- the evidence is a label, as in a search; or a page of the map that broke its form at some time in the call
abbrev pub CutEvidence : Layout → DiskState → Slots → DiskState → Slots → Evidence → Type 0
CutEvidence layout old before new after (Mismatch sector wanted found) = IsOther (held_or before (IsMapHome FileMap layout)) old sector wanted found
CutEvidence layout old before new after (Malformed structure page) = IsOfFileMap structure × IsBrokenBetween layout old before new after page
CutEvidence layout old before new after (Missing id page) = ⊥

-- the halt of a call that cuts a file in the map
abbrev pub CutHalts : Layout → DiskState → Slots → DiskState → Slots → Halt → Type 0
CutHalts layout old before new after halt = HasCause (CutEvidence layout old before new after) old new halt
