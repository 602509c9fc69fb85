use Rattle.std.proofs.Common.{rules, ◌≡◌, ℕ, suc, ◌+◌, ◌-◌, ◌<◌, length, true, false, Some, sym, ◌∙◌, ap, arith}
use Rattle.std.specs.Prelude.{slice_get, slice_set}
use Rattle.std.specs.List.{remove}
use Rattle.std.proofs.lemmas.List.{length-set}
use Rattle.projection_laws.specs.Edits.{alike, longer, paired}
use Rattle.space_tables.proofs.Rejoined.{paired_alone, paired_apart, paired_alike, at_removed, one_fewer}
use Rattle.space_tables.proofs.Outs.{handed, cause_on}
use Rattle.space_tables.proofs.join.pair.Goals as goal

pub returns-in_default-clause-paired : goal.returns-in_default-clause-paired
returns-in_default-clause-paired g c = λ slots xs h long own next.
    let same : paired xs c.args.index ≡ xs = paired_alone xs c.args.index (next ∙ c.in_default.is) in
    rw same (h, long, own)

pub returns-then-not-alike-clause-paired : goal.returns-then-not-alike-clause-paired
returns-then-not-alike-clause-paired g c = λ slots xs h long own next.
    let apart : alike c.args.i.now c.in-Some.next ≡ false = sym c.alike.ensures ∙ c.if-not-alike.true in
    let same : paired xs c.args.index ≡ xs = paired_apart xs c.args.index c.args.i.now c.in-Some.next own (next ∙ c.in-Some.is) apart in
    rw same (h, long, own)

pub returns-clause-paired : goal.returns-clause-paired
returns-clause-paired g c = λ slots xs h long own next.
    let i = c.args.i.now in
    let j = c.in-Some.next in
    let k = c.args.index in
    let both : alike i j ≡ true = sym c.alike.ensures ∙ c.if-not-alike.false in
    let whole = longer i j in
    let below : k < length xs = omega (arith, c.requires.order.0, long) in
    let set : length (slice_set xs k whole) ≡ c.args.count = length-set xs k whole ∙ long in
    let one = c.in_ok-put_interval.ensures.written slots xs h below in
    let two = c.in_ok-remove.ensures.removed slots (slice_set xs k whole) one set in
    let at : k + 1 ≡ suc k = omega arith in
    let same : remove (slice_set xs k whole) (k + 1) ≡ paired xs k =
    ap (remove (slice_set xs k whole)) at ∙ sym (paired_alike xs k i j own (next ∙ c.in-Some.is) both) in
    let more : k + 1 < c.args.count = search (rules, c.requires.order.1) in
    let fewer : length (remove (slice_set xs k whole) (k + 1)) ≡ c.args.count - 1 = one_fewer (slice_set xs k whole) (k + 1) (omega (arith, set, more)) ∙ ap (λ (n : ℕ). n - 1) set in
    let there : slice_get (remove (slice_set xs k whole) (k + 1)) k ≡ Some whole = ap (λ (n : ℕ). slice_get (remove (slice_set xs k whole) n) k) at ∙ at_removed xs k whole below in
    rw (← same) (two, fewer, there)

pub returns-in_err-put_interval-clause-kept : goal.returns-in_err-put_interval-clause-kept
returns-in_err-put_interval-clause-kept g c = c.put_interval.ensures.kept

pub returns-in_err-put_interval-clause-cause : goal.returns-in_err-put_interval-clause-cause
returns-in_err-put_interval-clause-cause g c = handed _ _ _ _ c.from_residual.ensures.1 c.in_err-put_interval.ensures.cause

pub returns-in_err-put_interval-clause-cost : goal.returns-in_err-put_interval-clause-cost
returns-in_err-put_interval-clause-cost g c = omega (arith, c.put_interval.ensures.cost)

pub returns-in_err-put_interval-clause-paired : goal.returns-in_err-put_interval-clause-paired
returns-in_err-put_interval-clause-paired g c = λ slots xs h long own next. handed _ _ _ _ c.from_residual.ensures.1 tt

pub returns-in_err-put_interval-clause-memory : goal.returns-in_err-put_interval-clause-memory
returns-in_err-put_interval-clause-memory g c = handed _ _ _ _ c.from_residual.ensures.1 c.in_err-put_interval.ensures.memory

pub returns-in_err-put_interval-clause-count : goal.returns-in_err-put_interval-clause-count
returns-in_err-put_interval-clause-count g c = handed _ _ _ _ c.from_residual.ensures.1 tt

pub returns-in_err-put_interval-clause-pages : goal.returns-in_err-put_interval-clause-pages
returns-in_err-put_interval-clause-pages g c = handed _ _ _ _ c.from_residual.ensures.1 tt

pub returns-in_err-remove-clause-kept : goal.returns-in_err-remove-clause-kept
returns-in_err-remove-clause-kept g c = g.met.M.FlatMem.beside_through _ _ _ c.put_interval.ensures.kept c.remove.ensures.kept

pub returns-in_err-remove-clause-cause : goal.returns-in_err-remove-clause-cause
returns-in_err-remove-clause-cause g c = handed _ _ _ _ c.from_residual-in_err-remove.ensures.1 (cause_on g.M.FlatMem g.met.M.FlatMem.beside_itself g.met.M.FlatMem.accounted_wider _ _ _ c.put_interval.ensures.kept c.remove.ensures.kept _ c.in_err-remove.ensures.cause)

pub returns-in_err-remove-clause-cost : goal.returns-in_err-remove-clause-cost
returns-in_err-remove-clause-cost g c = omega (arith, c.put_interval.ensures.cost, c.remove.ensures.cost)

pub returns-in_err-remove-clause-paired : goal.returns-in_err-remove-clause-paired
returns-in_err-remove-clause-paired g c = λ slots xs h long own next. handed _ _ _ _ c.from_residual-in_err-remove.ensures.1 tt

pub returns-in_err-remove-clause-memory : goal.returns-in_err-remove-clause-memory
returns-in_err-remove-clause-memory g c = handed _ _ _ _ c.from_residual-in_err-remove.ensures.1 c.in_err-remove.ensures.memory

pub returns-in_err-remove-clause-count : goal.returns-in_err-remove-clause-count
returns-in_err-remove-clause-count g c = handed _ _ _ _ c.from_residual-in_err-remove.ensures.1 tt

pub returns-in_err-remove-clause-pages : goal.returns-in_err-remove-clause-pages
returns-in_err-remove-clause-pages g c = handed _ _ _ _ c.from_residual-in_err-remove.ensures.1 tt

pub returns-clause-kept : goal.returns-clause-kept
returns-clause-kept g c = g.met.M.FlatMem.beside_through _ _ _ c.put_interval.ensures.kept c.remove.ensures.kept

pub returns-clause-cause : goal.returns-clause-cause
returns-clause-cause g c = tt

pub returns-clause-cost : goal.returns-clause-cost
returns-clause-cost g c = omega (arith, c.put_interval.ensures.cost, c.remove.ensures.cost)

pub returns-clause-memory : goal.returns-clause-memory
returns-clause-memory g c = tt
