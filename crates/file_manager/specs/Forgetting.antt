-- Frames of a file's pages that are given up: what is left, and what memory it makes.
use Rattle.std.specs.Prelude.{ℕ, Bool, ◌&&◌, ◌==◌, nat_le, []}
use Rattle.labelled_disk.specs.declared.label.Label.{Label}
use Rattle.labelled_disk.specs.declared.layout.Layout.{Layout}
use Rattle.labelled_disk.specs.State.{DiskState}
use Rattle.frame_pool.specs.Frames.{Frame, Slots, Has, IsWithin}
use Rattle.force_calls.specs.Run.{OnlyRun}
use Rattle.swapper_kernel.specs.Differs.{Differs}
use Rattle.swapper_kernel.specs.Goes.{Goes, no_page}

-- whether the sector is one of the data, with a label of this file
abbrev pub on_data_of : Layout → ℕ → ℕ → Label → Bool
on_data_of layout id place label = nat_le layout.first place && (label.id == id)

-- The frames of these pages are given up, dirty or not. Each slot without one of these pages has what it had, and no other
-- frame comes. Only data sectors with labels of their file have other pages in the memory then.
pub record Forgets (id first pages : ℕ) (layout : Layout) (disk : DiskState) (before after : Slots) : Type 0 where
  pub gone : (i : ℕ) (f : Frame) → Has after i f → IsWithin id first pages f.home → ⊥
  pub run : OnlyRun id first pages before after
  pub goes : Goes (Differs (on_data_of layout id)) no_page [] disk before disk after
