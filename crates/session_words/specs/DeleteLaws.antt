-- A deletion leads to the machine after it: all pages of the file go, and its leader.
use Rattle.std.specs.Prelude.{◌≡◌, ℕ, Bool, ◌==◌, List, None}
use Rattle.labelled_disk.specs.declared.disk.DiskWrite.{DiskWrite}
use Rattle.labelled_disk.specs.State.{DiskState}
use Rattle.frame_pool.specs.Frames.{Slots}
use Rattle.flat_machine.specs.declared.call.Call.TheVariants.{Delete}
use Rattle.flat_machine.specs.Machine.{Machine}
use Rattle.flat_machine.specs.Refusal.{refusal}
use Rattle.flat_machine.specs.Next.{next}
use Rattle.swapper_kernel.specs.Goes.{Goes}
use Rattle.session_words.specs.Volume.{volume_page}
use Rattle.session_words.specs.Parts.{TablesMeaning}
use Rattle.session_words.specs.FreeLaws.{Frees}
use Rattle.session_words.specs.FrameLaws.{BringsKnown}
use Rattle.session_words.specs.StandsFor.{StandsFor}

-- the pages of one file, and its leader
abbrev pub all_pages : ℕ → ℕ → ℕ → Bool
all_pages id i p = i == id

abbrev pub DeleteStands : TablesMeaning → Type 0
DeleteStands spaces_of = (id : ℕ) (run : List DiskWrite) (old new : DiskState) (before after : Slots) (m : Machine) → refusal m (Delete id) ≡ None
    → Goes (Frees (all_pages id)) volume_page run old before new after
    → BringsKnown m.spaces before after → StandsFor spaces_of old before m → StandsFor spaces_of new after (next m (Delete id))
