use Rattle.std.proofs.Common.{arith}
use Rattle.flat_mem.specs.Vec.{vec_mem_bytes}
use Rattle.scavenger.proofs.LayoutLemmas.{of_layout}
use Rattle.scavenger.proofs.NamingLemmas.{naming_nothing}
use Rattle.scavenger.proofs.names.empty_map.Goals as goal

pub returns-in-Ok : goal.returns-in-Ok
returns-in-Ok g c =
    naming_nothing c.args.layout.now.sectors c.args.layout.now.vfm (vec_mem_bytes c.in-Ok.map) c.requires.counted
    (of_layout c.args.layout.now c.args.layout.now.sectors c.requires.layout).names c.in-Ok.ensures.bytes
