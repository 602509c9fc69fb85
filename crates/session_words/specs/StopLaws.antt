-- A stop among the writes of a call that writes labels too.
use Rattle.std.specs.Prelude.{◌≡◌, ℕ, ◌≤◌, true, List, length, Some, slice_get}
use Rattle.labelled_disk.specs.declared.disk.DiskWrite.{DiskWrite}
use Rattle.labelled_disk.specs.Sectors.{Sector, AreSectors}
use Rattle.labelled_disk.specs.State.{DiskState}
use Rattle.labelled_disk.specs.CrashState.{crash_state}
use Rattle.labelled_disk.specs.File.{File, Page, any_page, file_at}
use Rattle.labelled_disk.specs.FilesOn.{files_on}
use Rattle.labelled_disk.specs.Ascending.{AreAscending}
use Rattle.labelled_disk.specs.Root.{LabelsRight}
use Rattle.frame_pool.specs.Frames.{Slots}
use Rattle.flat_machine.specs.declared.space.FilePage.{FilePage}
use Rattle.flat_machine.specs.Settled.{Agrees}
use Rattle.label_laws.specs.MixedVolumes.{label_count}
use Rattle.swapper_kernel.specs.Goes.{Wrote}
use Rattle.session_words.specs.Volume.{volume_page}
use Rattle.swapper_kernel.specs.Differs.{Differs}
use Rattle.session_words.specs.Parts.{DirtyAreLoose, is_loose, is_loose_at}

-- each crash state of a call's writes is one of its label writes alone, that of as many, but for the bytes of loose pages
abbrev pub CrashStatesAreLike : Type 0
CrashStatesAreLike = (unforced : List FilePage) (run : List DiskWrite) (old new : DiskState) (before : Slots) (d : List Sector) (wrote : Wrote volume_page run old before new) → DirtyAreLoose before unforced
    → old.contents ≡ Some d → (k : ℕ) → Differs (is_loose_at unforced) (crash_state d run (label_count wrote.writes k)) (crash_state d wrote.writes k)

-- and there are no more of them than the run has
abbrev pub FewLabels : Type 0
FewLabels = (run : List DiskWrite) (old new : DiskState) (before : Slots) (wrote : Wrote volume_page run old before new) (k : ℕ) → label_count wrote.writes k ≤ length run

-- the cells of unforced pages are any
abbrev pub AreAnyWhereUnforced : List FilePage → List File → Type 0
AreAnyWhereUnforced unforced gs = (id k : ℕ) (g : File) (q : Page) → file_at gs id ≡ Some g → slice_get g.pages k ≡ Some q → is_loose unforced id k ≡ true → q ≡ any_page

-- whatever bytes stand in loose pages, the files agree with those whose cells are any there
abbrev pub LooseAgree : Type 0
LooseAgree = (unforced : List FilePage) (d e : List Sector) (gs : List File) → Differs (is_loose_at unforced) d e → AreSectors e → AreAscending gs → AreAnyWhereUnforced unforced gs
    → Agrees (files_on d) gs → Agrees (files_on e) gs

-- whatever bytes stand in loose pages, labels that are right stay so
abbrev pub LooseRight : Type 0
LooseRight = (unforced : List FilePage) (d e : List Sector) → Differs (is_loose_at unforced) d e → LabelsRight d → LabelsRight e

pub record StopLaws : Type 0 where
  pub crash_states : CrashStatesAreLike
  pub few : FewLabels
  pub agree : LooseAgree
  pub right : LooseRight
