use Rattle.std.proofs.Common.{◌≡◌, ◌++◌, List, ℕ, length}
use Rattle.flat_mem.specs.Vec.{vec_mem_bytes}
use Rattle.volume_view.proofs.FreeLemmas.{IsFollowed}
use Rattle.volume_view.proofs.free_pages.follow_free.Given as goal

-- so many free pages were met
abbrev pub invariant-loop : goal.invariant-loop
invariant-loop g l = record {
  same : vec_mem_bytes l.map ≡ vec_mem_bytes l.fn.map;
  met : List ℕ;
  followed : IsFollowed (vec_mem_bytes l.fn.map) l.pages l.first l.at met;
  used : l.used.items ≡ l.fn.used.items ++ met;
  many : length met ≡ l.counter;
}
