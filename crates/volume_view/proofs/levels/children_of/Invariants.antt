use Rattle.std.proofs.Common.{◌≡◌, ◌≤◌, ◌<◌, ℕ, Some, length, take}
use Rattle.std.specs.Prelude.{slice_get}
use Rattle.std.specs.List.{flat_map}
use Rattle.flat_mem.specs.Vec.{vec_mem_bytes}
use Rattle.page_tree.specs.Keys.{Item}
use Rattle.volume_view.specs.Level.{items_of}
use Rattle.volume_view.specs.Walk.{children_in, IsInnerPage}
use Rattle.volume_view.proofs.levels.children_of.Given as goal

-- the pages before this one are inner pages, and their children were read
abbrev pub invariant-loop-j : goal.invariant-loop-j
invariant-loop-j g l = record {
  same : vec_mem_bytes l.map ≡ vec_mem_bytes l.fn.map;
  each : (k : ℕ) (h : Item) → k < l.j → slice_get (items_of l.parents) k ≡ Some h → IsInnerPage (vec_mem_bytes l.fn.map) l.pages l.least h;
  children : items_of l.children.items ≡ flat_map (children_in (vec_mem_bytes l.fn.map)) (take l.j (items_of l.parents));
  few : length l.children.items ≤ l.top;
}
