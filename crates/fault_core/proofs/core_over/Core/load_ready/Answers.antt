use Rattle.std.proofs.Common.{arith}
use Rattle.fault_core.proofs.LendLemmas.{same_facts}
use Rattle.fault_core.proofs.ReadyLemmas.{hand_granted}
use Rattle.fault_core.proofs.core_over.Core.load_ready.Goals as goal

pub returns-clause-access : goal.returns-clause-access
returns-clause-access g c = λ m named ss knows k below. hand_granted (c.load_unit.ensures.hand k below).1 (omega arith) knows

pub returns-clause-bytes : goal.returns-clause-bytes
returns-clause-bytes g c = λ m named ss knows. c.load_unit.ensures.bytes c.args.self.now.intervals m named ss knows

pub returns-clause-same : goal.returns-clause-same
returns-clause-same g c =
    let now = c.args.self.now in
    rw c.load_unit.ensures.same (same_facts now.filer now.descriptors now.intervals _ now.some _ now.few _ now.formed)
