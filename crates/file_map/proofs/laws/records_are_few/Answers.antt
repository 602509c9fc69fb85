use Rattle.std.proofs.Common.{map, length, sym}
use Rattle.file_map.specs.Run.{run_bytes}
use Rattle.file_map.specs.Shown.{counted_same}
use Rattle.file_map.proofs.Few.{are_few}
use Rattle.file_map.proofs.laws.records_are_few.Goals as goal

pub returns : goal.returns
returns g c = λ named map_is n counted.
    let listed = map_is.listed in
    are_few c.args.map.now.sectors _ named map_is n (counted_same n (length (map run_bytes map_is.runs)) counted.0 listed.bytes (g.met.M.FlatMem.revealed_once _ _ _ counted.1 listed.revealed) counted.2 (sym listed.tree.header.count_is))
