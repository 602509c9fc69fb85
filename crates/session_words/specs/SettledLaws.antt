-- What a disk reveals of the machine that it and the frames over it stand for: the settled files, at every crash state.
use Rattle.std.specs.Prelude.{◌≡◌, ℕ, ◌≤◌, true, List, length, Some}
use Rattle.labelled_disk.specs.declared.label.Wanted.{Wanted}
use Rattle.labelled_disk.specs.declared.disk.DiskWrite.TheVariants as write
use Rattle.labelled_disk.specs.Sectors.{Sector, AreSectors}
use Rattle.labelled_disk.specs.State.{DiskState}
use Rattle.labelled_disk.specs.CrashState.{written, crash_state}
use Rattle.labelled_disk.specs.Runs.{IsWriteInForm}
use Rattle.frame_pool.specs.Frames.{Slots}
use Rattle.flat_machine.specs.Machine.{Machine}
use Rattle.session_words.specs.Volume.{Searches}
use Rattle.swapper_kernel.specs.Differs.{Differs}
use Rattle.session_words.specs.Parts.{TablesMeaning, is_loose, is_loose_at}
use Rattle.session_words.specs.FrameLaws.{BringsKnown}
use Rattle.session_words.specs.StandsFor.{StandsFor, IsSettled, RevealsSettled}

-- a disk that has all of a machine but what is unforced reveals its settled files
abbrev pub SettledIsRevealed : Type 0
SettledIsRevealed = (d : List Sector) (m : Machine) → IsSettled d m → RevealsSettled d m

-- whatever bytes stand in loose pages
abbrev pub LooseMayDiffer : Type 0
LooseMayDiffer = (d e : List Sector) (m : Machine) → IsSettled d m → Differs (is_loose_at m.unforced) d e → AreSectors e → IsSettled e m

-- bytes may be written to a loose page
abbrev pub LooseWritten : Type 0
LooseWritten = (d : List Sector) (m : Machine) (sector : ℕ) (wanted : Wanted) (bytes : List ℕ) → IsSettled d m → is_loose m.unforced wanted.id wanted.page ≡ true
    → IsWriteInForm (write.Page sector wanted bytes) → IsSettled (written (write.Page sector wanted bytes) d) m

module _ (spaces_of : TablesMeaning) where
  -- the disk, without its frames, reveals the settled files of the machine that both stand for
  abbrev pub StandsIsSettled : Type 0
  StandsIsSettled = (disk : DiskState) (slots : Slots) (m : Machine) (d : List Sector) → StandsFor spaces_of disk slots m → disk.contents ≡ Some d → AreSectors d → IsSettled d m

  -- swapping leaves what both stand for
  abbrev pub SwapStands : Type 0
  SwapStands = (old new : DiskState) (before after : Slots) (m : Machine) → Searches old before new after → BringsKnown m.spaces before after → StandsFor spaces_of old before m → StandsFor spaces_of new after m

  -- and in each crash state of it the disk reveals the settled files
  abbrev pub SwapCrashStates : Type 0
  SwapCrashStates = (old new : DiskState) (before after : Slots) (m : Machine) (d : List Sector) (swaps : Searches old before new after) → StandsFor spaces_of old before m
      → old.contents ≡ Some d → AreSectors d → (k : ℕ) → k ≤ length swaps.makes.wrote.writes → IsSettled (crash_state d swaps.makes.wrote.writes k) m

  -- what a session's calls cite of a stop
  pub record SettledLaws : Type 0 where
    pub revealed : SettledIsRevealed
    pub differ : LooseMayDiffer
    pub written : LooseWritten
    pub stands : StandsIsSettled
    pub swaps : SwapStands
    pub crash_states : SwapCrashStates
