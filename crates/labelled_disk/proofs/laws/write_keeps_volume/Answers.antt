use Rattle.labelled_disk.proofs.RootLemmas as laws
use Rattle.labelled_disk.proofs.laws.write_keeps_volume.Goals as goal

pub returns : goal.returns
returns c with_temporary = record {
  data_written = laws.data_written with_temporary;
  root_written = laws.root_written with_temporary;
  map_written = laws.map_written with_temporary;
  maps_differ = laws.maps_differ with_temporary;
  one_file = laws.one_file_at_most with_temporary;
}
