use Rattle.fault_core.specs.Core.{kept, state}
use Rattle.fault_core.proofs.LendLemmas.{same_facts}
use Rattle.fault_core.proofs.StoreReadyLemmas.{row_disk, row_slots}
use Rattle.fault_core.proofs.core_over.Core.store_ready.Goals as goal

pub returns-clause-left : goal.returns-clause-left
returns-clause-left g c = λ none.
    let now = c.args.self.now in
    rw (c.store_unit.ensures.left none) (same_facts now.filer now.descriptors now.intervals _ now.some _ now.few _ now.formed)

pub returns-clause-slots : goal.returns-clause-slots
returns-clause-slots g c =
    let did = c.store_unit.ensures.stored in
    row_slots (kept c.args.self.now) did.pieces c.args.address (state c.args.self.now) _ did.changed

pub returns-clause-disk : goal.returns-clause-disk
returns-clause-disk g c =
    let did = c.store_unit.ensures.stored in
    row_disk (kept c.args.self.now) did.pieces c.args.address (state c.args.self.now) _ did.changed
