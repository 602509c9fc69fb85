use Rattle.std.proofs.Common.{◌≡◌, ◌<◌, ℕ, suc, Some, take}
use Rattle.std.specs.Prelude.{slice_get}
use Rattle.std.specs.List.{flat_map}
use Rattle.flat_mem.specs.Vec.{vec_mem_bytes}
use Rattle.page_tree.specs.Keys.{Item}
use Rattle.page_tree.specs.Page.{page_at, record_at}
use Rattle.volume_view.specs.Form.{AreRead}
use Rattle.volume_view.specs.Level.{items_of}
use Rattle.volume_view.specs.Walk.{records_in, IsLeafPage}
use Rattle.volume_view.proofs.leaves.read_leaves.Given as goal

-- the pages before this one are leaves, and their records are read
abbrev pub invariant-loop-j : goal.invariant-loop-j
invariant-loop-j g l = record {
  same : vec_mem_bytes l.map ≡ vec_mem_bytes l.fn.map;
  each : (k : ℕ) (h : Item) → k < l.j → slice_get (items_of l.leaves) k ≡ Some h → IsLeafPage (vec_mem_bytes l.fn.map) l.layout.vfm l.least h;
  keyed : (k : ℕ) (h : Item) → suc k < l.j → slice_get (items_of l.leaves) (suc k) ≡ Some h → h.key ≡ take 12 (record_at 24 (page_at (vec_mem_bytes l.fn.map) h.page) 0);
  read : AreRead l.layout.sectors (flat_map (records_in (vec_mem_bytes l.fn.map)) (take l.j (items_of l.leaves))) l.runs.items;
}
