-- What is left where dirty frames of a run are written to their homes.
use Rattle.std.specs.Prelude.{◌≡◌, ◌≤◌, ◌+◌, ◌-◌, ℕ, Bool, true, false, slice_index_or}
use Rattle.labelled_disk.specs.State.{DiskState}
use Rattle.frame_pool.specs.Frames.{Frame, Slots, Has, IsWithin}
use Rattle.swapper_kernel.specs.Goes.{Swaps}
use Rattle.swapper_kernel.specs.Homes.{no_home}
use Rattle.swapper_kernel.specs.Steps.{Steps}
use Rattle.force_calls.specs.declared.marks.Marks.{Marks}
use Rattle.force_calls.specs.Run.{dirty_count, OnlyRun, Stay}

-- only frames of the run were written out, each once at most, and each frame stays where it is
pub record Forces (id first pages : ℕ) (old : DiskState) (before : Slots) (new : DiskState) (after : Slots) : Type 0 where
  pub stay : Stay before after
  pub run : OnlyRun id first pages before after
  pub swaps : Swaps old before new after
  pub steps : Steps no_home no_home old before new after
  pub cost : new.transfers ≤ old.transfers + dirty_count id first pages before

-- whether this place has a mark
abbrev pub is_marked : Marks → ℕ → Bool
is_marked marks place = slice_index_or marks.dirty place false

-- each dirty page of the run, counted from the first one on, has a mark
abbrev pub MarksDirty : ℕ → ℕ → ℕ → Slots → Marks → Type 0
MarksDirty id first pages slots marks =
    (i : ℕ) (f : Frame) → Has slots i f → IsWithin id first pages f.home → f.dirty ≡ true → is_marked marks (f.home.page - first) ≡ true
