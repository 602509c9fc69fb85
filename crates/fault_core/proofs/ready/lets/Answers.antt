use Rattle.std.proofs.Common.{◌∙◌, sym}
use Rattle.fault_core.proofs.ReadyLemmas.{let_writable, writable_mapped, writable_stored}
use Rattle.fault_core.proofs.ready.lets.Goals as goal

pub returns-then-writes-clause-mapped : goal.returns-then-writes-clause-mapped
returns-then-writes-clause-mapped c = λ is. writable_mapped c.args.x.now.mode (sym c.is_writable.ensures ∙ is)

pub returns-then-writes-clause-allowed : goal.returns-then-writes-clause-allowed
returns-then-writes-clause-allowed c = λ is writes. writable_stored c.args.x.now.mode (sym c.is_writable.ensures ∙ is)

pub returns-then-writes-clause-all : goal.returns-then-writes-clause-all
returns-then-writes-clause-all c = λ mapped allowed. c.is_writable.ensures ∙ let_writable c.args.x.now.mode mapped (allowed c.if-writes.true)
