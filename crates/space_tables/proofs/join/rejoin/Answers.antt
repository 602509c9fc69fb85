use Rattle.std.proofs.Common.{◌≡◌, ℕ, suc, ◌<◌, length, sym, ◌∙◌, arith}
use Rattle.std.specs.Prelude.{slice_get, slice_set}
use Rattle.std.proofs.lemmas.List.{length-set}
use Rattle.labelled_disk.proofs.Finds.{get_set_same}
use Rattle.projection_laws.specs.Edits.{paired, rejoined}
use Rattle.space_tables.specs.Answer.{FromMemory}
use Rattle.space_tables.specs.Change.{one_before}
use Rattle.space_tables.specs.Stored.{HoldTables}
use Rattle.space_tables.proofs.Passes.{still_hold}
use Rattle.space_tables.proofs.Pieces.{errs_as}
use Rattle.space_tables.proofs.Rejoined.{before_set, before_paired, next_set, rejoined_is, okay_errs}
use Rattle.space_tables.proofs.Outs.{handed, cause_on, no_page, not_refused}
use Rattle.space_tables.specs.Form.{BreaksProjection}
use Rattle.space_tables.proofs.join.rejoin.Goals as goal

pub returns-in_err-next-clause-rejoined : goal.returns-in_err-next-clause-rejoined
returns-in_err-next-clause-rejoined g c = λ slots xs h long ok. let m = c.in_err-next.ensures.next slots xs h long ok in handed _ _ _ _ c.from_residual.ensures.1 m

pub returns-in_err-before-clause-rejoined : goal.returns-in_err-before-clause-rejoined
returns-in_err-before-clause-rejoined g c = λ slots xs h long ok.
    let now = still_hold g.M.FlatMem.reveals c.args.mem.now c.next.new.mem c.next.ensures.looks.unchanged slots xs h in
    let m = c.in_err-before.ensures.previous slots xs now (omega (arith, c.requires.order, long)) ok in handed _ _ _ _ c.from_residual-in_err-before.ensures.1 m

pub returns-clause-rejoined : goal.returns-clause-rejoined
returns-clause-rejoined g c = λ slots xs h long ok.
    let k = c.args.index in
    let new = c.args.new.now in
    let below : k < length xs = omega (arith, c.requires.order, long) in
    let now = still_hold g.M.FlatMem.reveals c.args.mem.now c.next.new.mem c.next.ensures.looks.unchanged slots xs h in
    let last = still_hold g.M.FlatMem.reveals c.next.new.mem c.previous.new.mem c.previous.ensures.looks.unchanged slots xs now in
    let next : slice_get (slice_set xs k new) (suc k) ≡ c.in_ok-next.next = next_set xs k new ∙ sym (c.in_ok-next.ensures.next slots xs h long ok) in
    let before : one_before xs k ≡ c.in_ok-before.before = sym (c.in_ok-before.ensures.previous slots xs now below ok) in
    let one = c.in_ok-put_interval.ensures.written slots xs last below in
    let two = c.in_ok-count.ensures.paired slots (slice_set xs k new) one (length-set xs k new ∙ long) (get_set_same xs k new below) next in
    let three = c.pair_before.ensures.paired slots (paired (slice_set xs k new) k) two.0 two.1 two.2
    (before_paired (slice_set xs k new) k ∙ before_set xs k new ∙ before) in
    okay_errs c.pair_before.result (λ (n : ℕ). HoldTables (g.M.FlatMem.reveals c.pair_before.new.mem) slots (rejoined xs k new) × (length (rejoined xs k new) ≡ n)) FromMemory
    (rw (rejoined_is xs k new below) at three) c.pair_before.ensures.memory

pub pair_before-requires-clause-pages : goal.pair_before-requires-clause-pages
pair_before-requires-clause-pages g c = omega (arith, c.in_ok-before.ensures.pages, c.in_ok-count.ensures.pages, c.in_ok-next.ensures.pages, c.requires.pages)

pub returns-clause-cause : goal.returns-clause-cause
returns-clause-cause g c =
    let near = g.met.M.FlatMem.beside_through _ _ _ c.next.ensures.looks.kept c.previous.ensures.looks.kept in
    let far = g.met.M.FlatMem.beside_through _ _ _ near c.put_interval.ensures.kept in
    let kept = g.met.M.FlatMem.beside_through _ _ _ far c.pair.ensures.kept in
    errs_as c.pair_before.result (g.M.FlatMem.accounted c.pair.new.mem c.pair_before.new.mem) (g.M.FlatMem.accounted c.args.mem.now c.pair_before.new.mem)
    (λ x k. g.met.M.FlatMem.accounted_wider _ _ _ _ x kept c.pair_before.ensures.kept (g.met.M.FlatMem.beside_itself c.pair_before.new.mem) k) c.pair_before.ensures.cause

pub returns-in_err-before-clause-malformed : goal.returns-in_err-before-clause-malformed
returns-in_err-before-clause-malformed g c = λ b revealed. let m = c.in_err-before.ensures.malformed b c.args.count (c.next.ensures.looks.unchanged b revealed) c.requires.order in handed _ _ _ _ c.from_residual-in_err-before.ensures.1 m

pub returns-in_err-next-clause-kept : goal.returns-in_err-next-clause-kept
returns-in_err-next-clause-kept g c = c.next.ensures.looks.kept

pub returns-in_err-next-clause-cause : goal.returns-in_err-next-clause-cause
returns-in_err-next-clause-cause g c = handed _ _ _ _ c.from_residual.ensures.1 c.in_err-next.ensures.looks.cause

pub returns-in_err-next-clause-cost : goal.returns-in_err-next-clause-cost
returns-in_err-next-clause-cost g c = omega (arith, c.next.ensures.looks.cost)

pub returns-in_err-next-clause-count : goal.returns-in_err-next-clause-count
returns-in_err-next-clause-count g c = handed _ _ _ _ c.from_residual.ensures.1 tt

pub returns-in_err-next-clause-refused : goal.returns-in_err-next-clause-refused
returns-in_err-next-clause-refused g c = handed _ _ _ _ c.from_residual.ensures.1 c.in_err-next.ensures.refused

pub returns-in_err-next-clause-malformed : goal.returns-in_err-next-clause-malformed
returns-in_err-next-clause-malformed g c = λ b h. handed _ _ _ _ c.from_residual.ensures.1 (c.in_err-next.ensures.malformed b h)

pub returns-in_err-before-clause-kept : goal.returns-in_err-before-clause-kept
returns-in_err-before-clause-kept g c = g.met.M.FlatMem.beside_through _ _ _ c.next.ensures.looks.kept c.previous.ensures.looks.kept

pub returns-in_err-before-clause-cause : goal.returns-in_err-before-clause-cause
returns-in_err-before-clause-cause g c = handed _ _ _ _ c.from_residual-in_err-before.ensures.1 (cause_on g.M.FlatMem g.met.M.FlatMem.beside_itself g.met.M.FlatMem.accounted_wider _ _ _ c.next.ensures.looks.kept c.previous.ensures.looks.kept _ c.in_err-before.ensures.looks.cause)

pub returns-in_err-before-clause-cost : goal.returns-in_err-before-clause-cost
returns-in_err-before-clause-cost g c = omega (arith, c.next.ensures.looks.cost, c.previous.ensures.looks.cost)

pub returns-in_err-before-clause-count : goal.returns-in_err-before-clause-count
returns-in_err-before-clause-count g c = handed _ _ _ _ c.from_residual-in_err-before.ensures.1 tt

pub returns-in_err-before-clause-refused : goal.returns-in_err-before-clause-refused
returns-in_err-before-clause-refused g c = handed _ _ _ _ c.from_residual-in_err-before.ensures.1 c.in_err-before.ensures.refused

pub returns-in_err-put_interval-clause-kept : goal.returns-in_err-put_interval-clause-kept
returns-in_err-put_interval-clause-kept g c = g.met.M.FlatMem.beside_through _ _ _ (g.met.M.FlatMem.beside_through _ _ _ c.next.ensures.looks.kept c.previous.ensures.looks.kept) c.put_interval.ensures.kept

pub returns-in_err-put_interval-clause-cause : goal.returns-in_err-put_interval-clause-cause
returns-in_err-put_interval-clause-cause g c = handed _ _ _ _ c.from_residual-in_err-put_interval.ensures.1 (cause_on g.M.FlatMem g.met.M.FlatMem.beside_itself g.met.M.FlatMem.accounted_wider _ _ _ (g.met.M.FlatMem.beside_through _ _ _ c.next.ensures.looks.kept c.previous.ensures.looks.kept) c.put_interval.ensures.kept _ c.in_err-put_interval.ensures.cause)

pub returns-in_err-put_interval-clause-cost : goal.returns-in_err-put_interval-clause-cost
returns-in_err-put_interval-clause-cost g c = omega (arith, c.next.ensures.looks.cost, c.previous.ensures.looks.cost, c.put_interval.ensures.cost)

pub returns-in_err-put_interval-clause-count : goal.returns-in_err-put_interval-clause-count
returns-in_err-put_interval-clause-count g c = handed _ _ _ _ c.from_residual-in_err-put_interval.ensures.1 tt

pub returns-in_err-put_interval-clause-refused : goal.returns-in_err-put_interval-clause-refused
returns-in_err-put_interval-clause-refused g c = handed _ _ _ _ c.from_residual-in_err-put_interval.ensures.1 (not_refused _ c.in_err-put_interval.ensures.memory)

pub returns-in_err-put_interval-clause-malformed : goal.returns-in_err-put_interval-clause-malformed
returns-in_err-put_interval-clause-malformed g c = λ b h. handed _ _ _ _ c.from_residual-in_err-put_interval.ensures.1 (no_page (BreaksProjection c.args.count b) _ c.in_err-put_interval.ensures.memory)

pub returns-in_err-put_interval-clause-rejoined : goal.returns-in_err-put_interval-clause-rejoined
returns-in_err-put_interval-clause-rejoined g c = λ slots xs h long ok. handed _ _ _ _ c.from_residual-in_err-put_interval.ensures.1 c.in_err-put_interval.ensures.memory

pub returns-in_err-count-clause-kept : goal.returns-in_err-count-clause-kept
returns-in_err-count-clause-kept g c = g.met.M.FlatMem.beside_through _ _ _ (g.met.M.FlatMem.beside_through _ _ _ (g.met.M.FlatMem.beside_through _ _ _ c.next.ensures.looks.kept c.previous.ensures.looks.kept) c.put_interval.ensures.kept) c.pair.ensures.kept

pub returns-in_err-count-clause-cause : goal.returns-in_err-count-clause-cause
returns-in_err-count-clause-cause g c = handed _ _ _ _ c.from_residual-in_err-count.ensures.1 (cause_on g.M.FlatMem g.met.M.FlatMem.beside_itself g.met.M.FlatMem.accounted_wider _ _ _ (g.met.M.FlatMem.beside_through _ _ _ (g.met.M.FlatMem.beside_through _ _ _ c.next.ensures.looks.kept c.previous.ensures.looks.kept) c.put_interval.ensures.kept) c.pair.ensures.kept _ c.in_err-count.ensures.cause)

pub returns-in_err-count-clause-cost : goal.returns-in_err-count-clause-cost
returns-in_err-count-clause-cost g c = omega (arith, c.next.ensures.looks.cost, c.previous.ensures.looks.cost, c.put_interval.ensures.cost, c.pair.ensures.cost)

pub returns-in_err-count-clause-count : goal.returns-in_err-count-clause-count
returns-in_err-count-clause-count g c = handed _ _ _ _ c.from_residual-in_err-count.ensures.1 tt

pub returns-in_err-count-clause-refused : goal.returns-in_err-count-clause-refused
returns-in_err-count-clause-refused g c = handed _ _ _ _ c.from_residual-in_err-count.ensures.1 (not_refused _ c.in_err-count.ensures.memory)

pub returns-in_err-count-clause-malformed : goal.returns-in_err-count-clause-malformed
returns-in_err-count-clause-malformed g c = λ b h. handed _ _ _ _ c.from_residual-in_err-count.ensures.1 (no_page (BreaksProjection c.args.count b) _ c.in_err-count.ensures.memory)

pub returns-in_err-count-clause-rejoined : goal.returns-in_err-count-clause-rejoined
returns-in_err-count-clause-rejoined g c = λ slots xs h long ok. handed _ _ _ _ c.from_residual-in_err-count.ensures.1 c.in_err-count.ensures.memory

pub returns-clause-kept : goal.returns-clause-kept
returns-clause-kept g c = g.met.M.FlatMem.beside_through _ _ _ (g.met.M.FlatMem.beside_through _ _ _ (g.met.M.FlatMem.beside_through _ _ _ (g.met.M.FlatMem.beside_through _ _ _ c.next.ensures.looks.kept c.previous.ensures.looks.kept) c.put_interval.ensures.kept) c.pair.ensures.kept) c.pair_before.ensures.kept

pub returns-clause-cost : goal.returns-clause-cost
returns-clause-cost g c = omega (arith, c.next.ensures.looks.cost, c.previous.ensures.looks.cost, c.put_interval.ensures.cost, c.pair.ensures.cost, c.pair_before.ensures.cost)
