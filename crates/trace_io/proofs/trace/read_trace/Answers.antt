use Rattle.std.proofs.Common.{◌≡◌, ◌++◌, ◌∷◌, [], inl, inr, sym, ◌∙◌, rules, arith}
use Rattle.trace_io.proofs.CourseLemmas.{HasRead-line}
use Rattle.trace_io.proofs.TraceLemmas.{Reads-stop, Reads-last, TakesSomeLines-line}
use Rattle.trace_io.proofs.trace.read_trace.Goals as goal

pub lines-preserved : goal.lines-preserved
lines-preserved g c =
    let i = c.lines.invariant in
    let takes = c.in-Ok.ensures.takes in
    let pushed : c.push.new.self.items ≡ c.lines.items.items ++ c.in-Ok.item ∷ [] = search rules in
    let going = sym c.is_last-last.ensures ∙ c.if-last.false in
    record {
      read = rw pushed (HasRead-line _ _ _ c.lines.lines c.take_item.new.lines _ c.in-Ok.item i.read takes.0 takes.1 going);
      goes_on = elim takes.1.ends [ inl fed ↦ inl fed.1 | inr ended ↦ inr ended.3 ];
      limit = takes.1.limit ∙ i.limit;
      bound = c.take_item.ensures.bound;
      faults = omega (arith, i.faults, c.take_item.ensures.faults);
    }

pub returns-in-Err-clause-reads : goal.returns-in-Err-clause-reads
returns-in-Err-clause-reads g c =
    Reads-stop _ _ _ c.lines.lines c.take_item.new.lines c.lines.items.items c.in-Err.why _ c.lines.invariant.read c.in-Err.ensures.takes c.lines.invariant.limit

pub returns-then-last-clause-reads : goal.returns-then-last-clause-reads
returns-then-last-clause-reads g c =
    let pushed : c.push.new.self.items ≡ c.lines.items.items ++ c.in-Ok.item ∷ [] = search rules in
    Reads-last _ _ _ c.lines.lines c.take_item.new.lines c.lines.items.items _ c.in-Ok.item _ c.lines.invariant.read c.in-Ok.ensures.takes c.lines.invariant.limit
    (sym c.is_last-last.ensures ∙ c.if-last.true) pushed

pub returns-in_default-clause-memory : goal.returns-in_default-clause-memory
returns-in_default-clause-memory g c =
    TakesSomeLines-line _ _ _ c.lines.lines c.take_item.new.lines c.lines.items.items c.in-Ok.item _ c.lines.invariant.read c.in-Ok.ensures.takes.1 c.lines.invariant.limit
