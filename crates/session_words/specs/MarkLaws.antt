-- A leader gets a mark, and its file is permanent or immutable.
use Rattle.std.specs.Prelude.{◌≡◌, ℕ, ◌&&◌, ◌==◌, if◌then◌else◌, List, map, None}
use Rattle.labelled_disk.specs.declared.disk.DiskWrite.{DiskWrite}
use Rattle.labelled_disk.specs.declared.label.Label.{Label}
use Rattle.labelled_disk.specs.Label.{leader_page}
use Rattle.labelled_disk.specs.Sectors.{Sector, AreSectors}
use Rattle.labelled_disk.specs.State.{DiskState}
use Rattle.frame_pool.specs.Frames.{Slots}
use Rattle.flat_machine.specs.declared.call.Call.TheVariants.{MakePermanent, MakeImmutable}
use Rattle.flat_machine.specs.Machine.{Machine}
use Rattle.flat_machine.specs.Refusal.{refusal}
use Rattle.flat_machine.specs.Next.{next}
use Rattle.label_laws.specs.Marks.{permanent_label, immutable_label}
use Rattle.swapper_kernel.specs.Stands.{labels_of}
use Rattle.swapper_kernel.specs.Goes.{Goes}
use Rattle.session_words.specs.Volume.{volume_page}
use Rattle.session_words.specs.Parts.{TablesMeaning}
use Rattle.session_words.specs.FrameLaws.{BringsKnown}
use Rattle.session_words.specs.StandsFor.{StandsFor}

-- the label, with the mark if it is the leader's of this file
abbrev pub marked_label : ℕ → (Label → Label) → Label → Label
marked_label id mark l = if l.id == id && l.page == leader_page then mark l else l

-- the pages of sectors, in order
abbrev pub pages_of : List Sector → List (List ℕ)
pages_of sectors = map (λ s. s.1) sectors

-- What a mark does to the memory: the leader's label has it, and all other labels and all pages stay.
pub record Marks (id : ℕ) (mark : Label → Label) (m n : List Sector) : Type 0 where
  pub labels : labels_of n ≡ map (marked_label id mark) (labels_of m)
  pub pages : pages_of n ≡ pages_of m
  pub sectors : AreSectors n

pub record MarkLaws (spaces_of : TablesMeaning) : Type 0 where
  pub permanent : (id : ℕ) (run : List DiskWrite) (old new : DiskState) (before after : Slots) (m : Machine) → refusal m (MakePermanent id) ≡ None
      → Goes (Marks id permanent_label) volume_page run old before new after
      → BringsKnown m.spaces before after → StandsFor spaces_of old before m → StandsFor spaces_of new after (next m (MakePermanent id))
  pub immutable : (id : ℕ) (run : List DiskWrite) (old new : DiskState) (before after : Slots) (m : Machine) → refusal m (MakeImmutable id) ≡ None
      → Goes (Marks id immutable_label) volume_page run old before new after
      → BringsKnown m.spaces before after → StandsFor spaces_of old before m → StandsFor spaces_of new after (next m (MakeImmutable id))
