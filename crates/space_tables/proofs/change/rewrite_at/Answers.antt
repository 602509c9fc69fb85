use Rattle.std.proofs.Common.{◌≡◌, refl, sym, ◌∙◌, ap}
use Rattle.std.specs.Prelude.{slice_set}
use Rattle.std.proofs.lemmas.Option.{same_Some, none-some, slice_get_within}
use Rattle.space_tables.specs.Answer.{FromMemory}
use Rattle.space_tables.specs.Stored.{HoldTables}
use Rattle.space_tables.specs.Change.{changed}
use Rattle.space_tables.proofs.Changed.{both, set_same, untouched}
use Rattle.space_tables.proofs.ReadBack.{one_read, none_of}
use Rattle.space_tables.proofs.change.rewrite_at.Goals as goal

pub returns-in_default-clause-changed : goal.returns-in_default-clause-changed
returns-in_default-clause-changed g c = λ b slots before xs x page are there ok h e counts small.
    none-some x (sym c.in_default.is ∙ c.interval_on.ensures.interval b page ∙ one_read b slots before are c.args.index _ x there ok refl)

pub returns-in_default-clause-malformed : goal.returns-in_default-clause-malformed
returns-in_default-clause-malformed g c = λ b count page below. record {
  counted = below;
  on = refl;
  breaks = none_of _ _ (sym c.in_default.is ∙ c.interval_on.ensures.interval b page);
}

pub returns-then-touches-clause-changed : goal.returns-then-touches-clause-changed
returns-then-touches-clause-changed g c = λ b slots before xs x page are there ok h e counts small.
    let same : c.in-Some.old ≡ x = same_Some _ x (sym c.in-Some.is ∙ c.interval_on.ensures.interval b page ∙ one_read b slots before are c.args.index _ x there ok refl) in
    let is : c.changed.result ≡ changed c.args.change.now x = c.changed.ensures counts small ∙ ap (changed c.args.change.now) same in
    both c.put_interval.result (HoldTables (g.M.FlatMem.reveals c.put_interval.new.mem) slots (slice_set xs c.args.index (changed c.args.change.now x))) FromMemory
    (rw is at (c.put_interval.ensures.written slots xs h (slice_get_within xs c.args.index x e))) c.put_interval.ensures.memory

pub returns-else-touches-clause-changed : goal.returns-else-touches-clause-changed
returns-else-touches-clause-changed g c = λ b slots before xs x page are there ok h e counts small.
    let same : c.in-Some.old ≡ x = same_Some _ x (sym c.in-Some.is ∙ c.interval_on.ensures.interval b page ∙ one_read b slots before are c.args.index _ x there ok refl) in
    let is : changed c.args.change.now x ≡ x = rw same at (untouched c.args.change.now c.in-Some.old (sym c.if-touches.ensures)) in
    rw (is, set_same xs c.args.index x e) h

pub returns-else-touches-clause-rest : goal.returns-else-touches-clause-rest
returns-else-touches-clause-rest g c = λ b h. record { bytes = b; revealed = h; rest = λ k after. refl }
