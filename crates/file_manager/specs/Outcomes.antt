-- How calls on files end.
use Rattle.std.specs.Prelude.{◌≡◌, ℕ, ◌+◌, ◌-◌, ◌*◌, ◌≤◌, ◌<◌, true, false, List, Result, OnOk, MatchResult, min}
use Rattle.labelled_disk.specs.declared.evidence.Halt.{Halt}
use Rattle.labelled_disk.specs.declared.evidence.Halt.TheVariants as halt
use Rattle.labelled_disk.specs.Calls.{Rose}
use Rattle.labelled_disk.specs.Sectors.{Sector}
use Rattle.labelled_disk.specs.State.{DiskState}
use Rattle.file_map.specs.FileMap.{most_records}
use Rattle.flat_machine.specs.declared.space.Space.{Space}
use Rattle.filer_kernel.specs.Evidence.{ShowsEvidence}
use Rattle.filer_kernel.specs.View.{View}
use Rattle.session_words.specs.FrameLaws.{is_shown}
use Rattle.session_words.specs.Parts.{Shape, Shapes}
use Rattle.file_manager.specs.declared.volume.Volume.{Volume}
use Rattle.file_manager.specs.Broken.{GrewSome}
use Rattle.file_manager.specs.Deleting.{DeletedBy, DeletesFirst}
use Rattle.file_manager.specs.Making.{MayGrow, GrownBy}
use Rattle.file_manager.specs.Shrinking.{MayShrink, ShrunkBy, ShrunkSome}
use Rattle.file_manager.specs.Synced.{LabelsAfterSync, LabelsAreSynced}

-- The halt has this cause, and is a fault of the disk only where the disk counted one. Where something is given, its evidence of
-- damage is so of the disk.
pub record FailsIf (given : Type 0) (why : Halt → Type 0) (v w : View) (e : Halt) : Type 0 where
  pub cause : why e
  pub counted : e ≡ halt.Disk → Rose v.disk.faults w.disk.faults
  pub evidence_seen : given → ShowsEvidence w.disk e

-- A file of so many pages is deleted: its sectors are used no more, and the transfers are bounded by its pages. Where no window
-- shows it, its labels were freed, and an error comes of the disk alone, after the first of them at most.
pub record Deletes {T : Type 0} (result : Result T Halt) (id size : ℕ) (spaces : List Space) (memory : List Sector) (old new : Volume) (v w : View) : Type 0 where
  pub used : OnOk result (new.used ≡ old.used - (size + 1))
  pub cost : w.disk.transfers ≤ v.disk.transfers + (14 + (1 + size) * (16 + 4 * v.layout.vam) + 2 * (1 + 51 * most_records v.layout.sectors))
  pub deleted : ((page : ℕ) → is_shown spaces id page ≡ false)
      → MatchResult result (λ _. DeletedBy id size memory v.disk v.slots v.layout w.disk w.slots w.runs)
      (λ e. (e ≡ halt.Disk) × DeletesFirst id memory v.disk v.slots w.disk w.slots)
  pub cost_sized : ((page : ℕ) → is_shown spaces id page ≡ false)
      → w.disk.transfers ≤ v.disk.transfers + (14 + (1 + size) * (16 + 4 * v.layout.vam) + 2 * (1 + 51 * (size + 2)))

-- A file of this shape gets so many pages. Where it may grow or shrink so, it did, and an error comes of the disk alone, with some of
-- the labels written. The transfers are bounded by the pages that come or go. Labels of a permanent one follow a sync, and where it
-- gets fewer pages they are on the medium.
pub record ResizesFile {T : Type 0} (result : Result T Halt) (id pages : ℕ) (f : Shape) (shapes : Shapes) (spaces : List Space) (memory : List Sector) (old new : Volume) (v w : View) : Type 0 where
  pub grown : MayGrow v.disk v.slots v.layout v.runs shapes spaces id f pages memory → f.size ≤ pages
      → MatchResult result
      (λ _. GrownBy id f.kind f.size (pages - f.size) v.disk v.slots v.layout w.disk w.slots w.runs
      × (new ≡ record old { used = min (old.used + (pages - f.size)) old.layout.capacity }))
      (λ e. (e ≡ halt.Disk) × GrewSome id f.kind f.size (pages - f.size) memory v.disk v.slots w.disk w.slots)
  pub shrunk : MayShrink v.disk v.slots v.layout v.runs shapes spaces id f pages memory
      → MatchResult result
      (λ _. ShrunkBy id pages f.size memory v.disk v.slots v.layout w.disk w.slots w.runs × (new ≡ record old { used = old.used - (f.size - pages) }))
      (λ e. (e ≡ halt.Disk) × ShrunkSome id pages f.size memory v.disk v.slots w.disk w.slots)
  pub cost : w.disk.transfers ≤ v.disk.transfers + (129 + ((pages - f.size) + (f.size - pages)) * (8 * v.layout.vam + 101) + 102 * most_records v.layout.sectors)
  pub after_sync : f.permanent ≡ true → LabelsAfterSync v.disk w.disk
  pub synced : f.permanent ≡ true → pages < f.size → OnOk result (LabelsAreSynced v.disk w.disk)
