use Rattle.std.proofs.Common.{◌≡◌, sym, ◌∙◌}
use Rattle.std.proofs.lemmas.Result.{on_ok_weaker}
use Rattle.record_table.specs.Table.{entry}
use Rattle.record_table.proofs.Listed.{revealed_entry}
use Rattle.record_table.proofs.table.RecordTable.nth.Goals as goal

pub returns-clause-entry : goal.returns-clause-entry
returns-clause-entry g c = λ xs h.
    on_ok_weaker c.read_entry.result
    (λ (is : c.read_entry.new.into ≡ entry g.row.E h.bytes c.args.index). is ∙ sym (revealed_entry g.row.E (g.M.FlatMem.reveals c.args.self.now.mem) c.args.self.now.count xs h c.args.index c.requires))
    (c.read_entry.ensures.entry h.bytes h.revealed)
