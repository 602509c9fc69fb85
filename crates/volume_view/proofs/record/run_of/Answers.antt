use Rattle.std.proofs.Common.{arith}
use Rattle.file_map.proofs.Records.{bytes_back}
use Rattle.volume_view.proofs.record.run_of.Goals as goal

pub returns-clause-written_back : goal.returns-clause-written_back
returns-clause-written_back c = λ rest.
    bytes_back c.args.bytes.now c.requires (λ k. let fits = c.type_inv.bytes k in omega arith) _ c.from_be_bytes.ensures c.from_be_bytes-2.ensures c.from_be_bytes-3.ensures c.from_be_bytes-4.ensures rest
