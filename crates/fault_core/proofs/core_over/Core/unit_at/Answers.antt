use Rattle.std.proofs.Common.{rules, ◌≡◌, true, false, refl}
use Rattle.swap_units.specs.Mode.{is_mapped}
use Rattle.fault_core.proofs.WholeLemmas.{bare_here}
use Rattle.fault_core.proofs.OutcomeLemmas.{failed_on}
use Rattle.fault_core.proofs.core_over.Core.unit_at.Goals as goal

pub returns-then-not-is_mapped-clause-comes : goal.returns-then-not-is_mapped-clause-comes
returns-then-not-is_mapped-clause-comes g c = record {
  further = search rules;
  shown = search rules;
  bare = λ m named ss knows none.
      let r = c.in-Ok.part in
      let bare : is_mapped r.0.mode ≡ false = search rules in
      (bare_here knows.tables r.0 c.args.page r.1 (c.in-Ok.ensures.comes.interval m named ss knows) c.in-Ok.ensures.comes.part.inside bare, c.in-Ok.ensures.comes.next m named ss knows);
}

pub returns-clause-comes : goal.returns-clause-comes
returns-clause-comes g c = record {
  further = search rules;
  shown = λ m named ss knows some. let mapped : is_mapped c.in-Ok.part.0.mode ≡ true = search rules in record {
    interval = c.in-Ok.part.0;
    projected = c.in-Ok.ensures.comes.interval m named ss knows;
    mapped = mapped;
    first = c.unit_of-first.result.0;
    unit = c.unit_of-first.ensures.pages;
    ends = refl;
  };
  bare = search rules;
}

pub returns-in-Err-clause-fails : goal.returns-in-Err-clause-fails
returns-in-Err-clause-fails g c = failed_on c.in-Err.halt c.in-Err.ensures.fails
