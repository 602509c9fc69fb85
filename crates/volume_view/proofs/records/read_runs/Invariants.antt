use Rattle.std.proofs.Common.{◌≡◌, List, length, take}
use Rattle.flat_mem.specs.Vec.{vec_mem_bytes}
use Rattle.file_map.specs.declared.run.Run.{Run}
use Rattle.volume_view.specs.Records.{AreRunsOfMap, AreAllInForm, last_of}
use Rattle.volume_view.specs.Recorded.{AllStand}
use Rattle.volume_view.proofs.records.read_runs.Given as goal

-- so many runs were read, of a map that has as many
abbrev pub invariant-loop-k : goal.invariant-loop-k
invariant-loop-k g l = record {
  same : vec_mem_bytes l.map ≡ vec_mem_bytes l.fn.map;
  stand : AllStand (vec_mem_bytes l.fn.map) l.runs.items;
  counted : length l.runs.items ≡ l.k;
  form : AreAllInForm l.layout.sectors l.runs.items;
  read : (runs : List Run) → AreRunsOfMap l.layout.sectors (vec_mem_bytes l.fn.map) runs → l.runs.items ≡ take l.k runs;
  last : (runs : List Run) → AreRunsOfMap l.layout.sectors (vec_mem_bytes l.fn.map) runs → l.last ≡ last_of runs l.k;
}
