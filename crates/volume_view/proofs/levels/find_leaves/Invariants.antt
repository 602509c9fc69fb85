use Rattle.std.proofs.Common.{◌≡◌, ◌<◌, ◌++◌, ℕ}
use Rattle.flat_mem.specs.Vec.{vec_mem_bytes}
use Rattle.volume_view.specs.Level.{items_of}
use Rattle.volume_view.specs.Walk.{tops, level_at, pages_used, least_children, AreInner}
use Rattle.volume_view.proofs.levels.find_leaves.Given as goal

-- the levels above this one are inner pages
abbrev pub invariant-loop-depth : goal.invariant-loop-depth
invariant-loop-depth g l = record {
  same : vec_mem_bytes l.map ≡ vec_mem_bytes l.fn.map;
  inner : (s : ℕ) → s < l.depth → AreInner (vec_mem_bytes l.fn.map) l.pages l.header.top (least_children s) (level_at (vec_mem_bytes l.fn.map) (tops l.header.levels l.header.root) s);
  level : items_of l.level.items ≡ level_at (vec_mem_bytes l.fn.map) (tops l.header.levels l.header.root) l.depth;
  used : l.used.items ≡ l.fn.used.items ++ pages_used (vec_mem_bytes l.fn.map) (tops l.header.levels l.header.root) l.depth;
}
