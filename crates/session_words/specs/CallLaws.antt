-- Calls that change the spaces, or what is unforced.
use Rattle.std.specs.Prelude.{◌≡◌, ℕ, true, List, Some, None}
use Rattle.labelled_disk.specs.Sectors.{Sector, AreSectors}
use Rattle.labelled_disk.specs.State.{DiskState}
use Rattle.frame_pool.specs.Frames.{Slots}
use Rattle.flat_machine.specs.declared.space.Space.{Space}
use Rattle.flat_machine.specs.declared.space.FilePage.{FilePage}
use Rattle.flat_machine.specs.declared.call.Call.TheVariants.{ForceOut}
use Rattle.flat_machine.specs.Space.{space_at}
use Rattle.flat_machine.specs.Machine.{Machine}
use Rattle.flat_machine.specs.IsMachine.{IsMachine}
use Rattle.flat_machine.specs.Refusal.{refusal}
use Rattle.flat_machine.specs.Next.{next, is_shown_within}
use Rattle.swapper_kernel.specs.Goes.{IsDirty}
use Rattle.session_words.specs.Volume.{Searches}
use Rattle.swapper_kernel.specs.Kinds.{SameBut, tables_alone}
use Rattle.session_words.specs.Parts.{TablesMeaning, HasTables}
use Rattle.session_words.specs.FrameLaws.{BringsKnown}
use Rattle.session_words.specs.StandsFor.{IsFor, StandsFor}

-- no dirty frame has a page that is shown in the range
abbrev pub IsForced : List Space → Space → Slots → Type 0
IsForced spaces range slots = (id page : ℕ) → is_shown_within spaces range (record { file = id; page = page }) ≡ true → IsDirty slots id page → ⊥

module _ (spaces_of : TablesMeaning) where
  -- only the tables differ, and maybe what they mean: they may have another number of intervals
  abbrev pub OnlyTables : Type 0
  OnlyTables = (before_of : TablesMeaning) (x y : List Sector) (m : Machine) (spaces : List Space) (unforced : List FilePage) → SameBut tables_alone x y → AreSectors y
      → IsMachine (record m { spaces = spaces; unforced = unforced }) → HasTables spaces_of y spaces
      → IsFor before_of x m → IsFor spaces_of y (record m { spaces = spaces; unforced = unforced })

  -- force
  abbrev pub ForceStands : Type 0
  ForceStands = (space : ℕ) (s : Space) (old new : DiskState) (before after : Slots) (m : Machine) → refusal m (ForceOut space) ≡ None → space_at m.spaces space ≡ Some s
      → Searches old before new after → IsForced m.spaces s after → BringsKnown m.spaces before after → StandsFor spaces_of old before m → StandsFor spaces_of new after (next m (ForceOut space))

  pub record CallLaws : Type 0 where
    pub tables : OnlyTables
    pub force : ForceStands
