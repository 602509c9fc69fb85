use Rattle.std.proofs.Common.{rules}
use Rattle.labelled_disk.proofs.Sectors.{each-set, fits}
use Rattle.labelled_disk.specs.Sectors.{IsSector}
use Rattle.labelled_disk.proofs.memory.MemoryDisk.put.Goals as goal

pub invariant_of-self : goal.invariant_of-self
invariant_of-self g c = record {
  few = search rules;
  few_transfers = c.args.self.now.few_transfers;
  room_kept = c.args.self.now.room_kept;
  room_to_sync = c.args.self.now.room_to_sync;
  in_room = c.args.self.now.in_room;
  sync_counts = c.args.self.now.sync_counts;
  in_form = each-set IsSector c.args.self.now.cells.items c.args.sector (c.args.label, c.args.page.now) c.args.self.now.in_form
      (fits c.args.label c.args.page.now (search rules) (search rules) (search rules) (search rules) (search rules) c.told-page c.fits-page);
}
