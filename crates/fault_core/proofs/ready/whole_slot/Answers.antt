use Rattle.std.proofs.Common.{rules, ◌≡◌, true, refl}
use Rattle.filer_kernel.specs.View.{view_of}
use Rattle.fault_core.proofs.UnitLemmas.{whole_of_run}
use Rattle.fault_core.proofs.ready.whole_slot.Goals as goal

pub returns-then-not-is_there-clause-whole : goal.returns-then-not-is_there-clause-whole
returns-then-not-is_there-clause-whole g c = λ found. absurd (found refl)

pub returns-clause-slot : goal.returns-clause-slot
returns-clause-slot g c = rw c.is_there.ensures.same at c.slot_at.ensures.slot

pub returns-clause-whole : goal.returns-clause-whole
returns-clause-whole g c = λ found.
    let there : c.is_there.result ≡ true = search rules in
    whole_of_run c.unit_run-first.ensures (view_of c.args.filer.now).slots (c.is_there.ensures.there.0 there)
