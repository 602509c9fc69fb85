-- A call that gives a file another size leads to the machine after it.
use Rattle.std.specs.Prelude.{◌≡◌, ℕ, ◌+◌, ◌≤◌, List, length, Some, None}
use Rattle.labelled_disk.specs.declared.disk.DiskWrite.{DiskWrite}
use Rattle.labelled_disk.specs.File.{File, file_at, size}
use Rattle.labelled_disk.specs.State.{DiskState}
use Rattle.frame_pool.specs.Frames.{Slots}
use Rattle.flat_machine.specs.declared.call.Call.TheVariants.{SetSize}
use Rattle.flat_machine.specs.Machine.{Machine}
use Rattle.flat_machine.specs.Refusal.{refusal}
use Rattle.flat_machine.specs.Next.{next}
use Rattle.swapper_kernel.specs.Goes.{Goes}
use Rattle.session_words.specs.Volume.{volume_page}
use Rattle.session_words.specs.Parts.{TablesMeaning}
use Rattle.session_words.specs.FrameLaws.{BringsKnown}
use Rattle.session_words.specs.StandsFor.{StandsFor}
use Rattle.session_words.specs.GrowLaws.{Grows}
use Rattle.session_words.specs.FreeLaws.{Frees, cut_pages}

pub record SizeLaws (spaces_of : TablesMeaning) : Type 0 where
  -- pages more
  pub lengthens : (id pages : ℕ) (f : File) (is : List ℕ) (run : List DiskWrite) (old new : DiskState) (before after : Slots) (m : Machine) → refusal m (SetSize id pages) ≡ None
      → file_at m.files id ≡ Some f → size f + length is ≡ pages → Goes (Grows id f.kind (size f) is) volume_page run old before new after
      → BringsKnown m.spaces before after → StandsFor spaces_of old before m → StandsFor spaces_of new after (next m (SetSize id pages))
  -- pages fewer
  pub shortens : (id pages : ℕ) (f : File) (run : List DiskWrite) (old new : DiskState) (before after : Slots) (m : Machine) → refusal m (SetSize id pages) ≡ None
      → file_at m.files id ≡ Some f → pages ≤ size f → Goes (Frees (cut_pages id pages)) volume_page run old before new after
      → BringsKnown m.spaces before after → StandsFor spaces_of old before m → StandsFor spaces_of new after (next m (SetSize id pages))
