use Rattle.std.proofs.Common.{◌≡◌, []}
use Rattle.flat_mem.specs.Vec.{vec_mem_bytes}
use Rattle.file_map.specs.FileMap.{Triples}
use Rattle.label_survey.specs.Runs.{all_triples}
use Rattle.volume_view.specs.Names.{NamesIn}
use Rattle.volume_view.specs.Rows.{AreJoined}
use Rattle.volume_view.proofs.RecordedLemmas.{AreRecordedTo}
use Rattle.volume_view.proofs.NameLemmas.{IsUnmappedTo}
use Rattle.volume_view.proofs.unmapped.find_unmapped.Given as goal

-- the labels before this one are looked up
abbrev pub invariant-loop-i : goal.invariant-loop-i
invariant-loop-i g l = record {
  same : vec_mem_bytes l.map ≡ vec_mem_bytes l.fn.map;
  joined : AreJoined l.runs.items;
  recorded : all_triples l.runs.items ≡ [] → AreRecordedTo l.layout.sectors (vec_mem_bytes l.fn.map) l.layout.first l.labels l.i;
  unmapped : (named : Triples) → NamesIn l.layout.sectors (vec_mem_bytes l.fn.map) named → IsUnmappedTo l.layout.first l.labels l.i named (all_triples l.runs.items);
}
