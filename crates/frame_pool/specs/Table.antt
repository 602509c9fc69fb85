-- The lists that the slots of a table are.
use Rattle.std.specs.Prelude.{List, Option, Some, None, option_map, map}
use Rattle.frame_pool.specs.declared.found.FoundRun.{FoundRun}
use Rattle.frame_pool.specs.declared.table.Slot.{Slot}
use Rattle.frame_pool.specs.declared.table.Kept.{Kept}
use Rattle.frame_pool.specs.Frames.{Frame}
use Rattle.frame_pool.specs.Lists.{Lists, nothing}

-- the frame that is kept
abbrev pub frame_of : Kept → Frame
frame_of kept = record { home = record { sector = kept.sector; id = kept.id; page = kept.page }; dirty = kept.dirty; bytes = kept.bytes }

-- what an empty slot remembers, and what a filled one does
abbrev pub found_of : Option Kept → FoundRun
found_of None = nothing
found_of (Some kept) = record { pages = kept.found_pages; time = kept.found_time }

abbrev pub lists_of : List Slot → Lists
lists_of slots = record {
  frames = map (λ s. option_map frame_of s.kept) slots;
  heads = map (λ s. s.head) slots;
  nexts = map (λ s. s.next) slots;
  orders = map (λ s. s.order) slots;
  positions = map (λ s. s.position) slots;
  founds = map (λ s. found_of s.kept) slots;
}
