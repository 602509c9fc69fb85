use Rattle.std.proofs.Common.{◌≡◌, ◌<◌, List, length, get_or, true, Some, ap, arith, rules}
use Rattle.labelled_disk.specs.Sectors.{Sector}
use Rattle.labelled_disk.specs.Label.{names}
use Rattle.labelled_disk.proofs.Sectors.{names_there, written-page}
use Rattle.labelled_disk.proofs.memory.MemoryDiskDisk.write_data.Goals as goal

pub returns-clause-writes : goal.returns-clause-writes
returns-clause-writes g c =
    let cells = c.args.self.now.cells.items in
    let below : c.args.sector < length c.args.self.now.cells.items = omega (arith, c.requires) in
    let is : c.index.result.now ≡ get_or c.args.self.now.cells.items c.args.sector c.index.result.now = cc (c.index.ensures, c.moves.ensures.cells) in
    let named : names c.index.result.now.0 c.args.wanted ≡ true = cc (c.names.ensures, c.if-not-names.false) in
    let page = written-page cells c.args.sector c.index.result.now below is c.args.wanted named c.args.page.now in
    record {
      written = record {
        contents = ap (λ (l : List Sector). Some l) (cc (c.put.ensures.cells, c.in_ok-record.ensures.cells, c.moves.ensures.cells, page));
        writes = search rules;
      };
      named = names_there cells c.args.sector c.index.result.now below is c.args.wanted named;
      wrong = tt;
      whole_or_absent = tt;
      cause = tt;
      moves = search rules;
    }
