use Rattle.std.proofs.Common.{map, arith, subst, length, ◌≤◌, ℕ}
use Rattle.std.proofs.lemmas.List.{length-map}
use Rattle.file_map.specs.Run.{run_bytes}
use Rattle.file_map.specs.Entries.{IsPut}
use Rattle.file_map.proofs.Adding.{put_named}
use Rattle.file_map.proofs.Outcomes.{passed, passed_cause, put_cause, add_cause, add_cause_wider}
use Rattle.file_map.proofs.add.put.Goals as goal

pub returns-in_err-extend-clause-added : goal.returns-in_err-extend-clause-added
returns-in_err-extend-clause-added g c = λ named map_is new n counted low room.
    passed _ _ _ _ c.from_residual-in_err-extend.ensures.0 c.from_residual-in_err-extend.ensures.1 (c.in_err-extend.ensures.well named map_is)

pub returns-then-not-may_join-clause-added : goal.returns-then-not-may_join-clause-added
returns-then-not-may_join-clause-added g c = λ named map_is new n counted low room.
    let xs = map run_bytes map_is.runs in
    let count_is = g.met.T.SearchedEntries.counted_once c.args.entries.now n (length xs) counted (g.met.T.SearchedEntries.counted c.args.entries.now xs map_is.listed) in
    let put = subst (λ entry. IsPut 12 (g.T.SearchedEntries.lists c.insert.new.self) xs entry) c.to_bytes.ensures (c.in_ok-insert.ensures.answer xs map_is.listed) in
    put_named c.args.sectors _ _ named map_is c.args.run c.requires.run new (omega (arith, low, count_is, length-map map_is.runs run_bytes)) put

pub returns-clause-added : goal.returns-clause-added
returns-clause-added g c = λ named map_is new n counted low room.
    let xs = map run_bytes map_is.runs in
    let count_is = g.met.T.SearchedEntries.counted_once c.args.entries.now n (length xs) counted (g.met.T.SearchedEntries.counted c.args.entries.now xs map_is.listed) in
    let listed = c.in_ok-extend.ensures.same xs map_is.listed c.if-branch.false in
    let put = subst (λ entry. IsPut 12 (g.T.SearchedEntries.lists c.insert-2.new.self) xs entry) c.to_bytes-2.ensures (c.in_ok-insert-2.ensures.answer xs listed) in
    put_named c.args.sectors _ _ named map_is c.args.run c.requires.run new (omega (arith, low, count_is, length-map map_is.runs run_bytes)) put

pub returns-in_err-insert-clause-cause : goal.returns-in_err-insert-clause-cause
returns-in_err-insert-clause-cause g c =
    passed_cause _ _ _ c.from_residual.ensures.1
    (put_cause c.args.sectors ((n : ℕ) → g.T.SearchedEntries.counts c.args.entries.now n → g.T.SearchedEntries.room c.args.entries.now ≤ n) (g.T.SearchedEntries.shows c.args.entries.now) (g.T.SearchedEntries.accounted c.args.entries.now c.insert.new.self) c.in_err-insert.field-0.0 c.in_err-insert.ensures.cause)

pub returns-in_err-insert-2-clause-cause : goal.returns-in_err-insert-2-clause-cause
returns-in_err-insert-2-clause-cause g c =
    let last = g.met.T.SearchedEntries.beside_itself c.insert-2.new.self in
    let room = g.met.T.SearchedEntries.same_room _ _ c.extend.ensures.kept in
    passed_cause _ _ _ c.from_residual-in_err-insert-2.ensures.1
    (add_cause_wider c.args.sectors ((n : ℕ) → g.T.SearchedEntries.counts c.extend.new.entries n → g.T.SearchedEntries.room c.extend.new.entries ≤ n) ((n : ℕ) → g.T.SearchedEntries.counts c.args.entries.now n → g.T.SearchedEntries.room c.args.entries.now ≤ n)
    (g.T.SearchedEntries.shows c.extend.new.entries) (g.T.SearchedEntries.shows c.args.entries.now) (g.T.SearchedEntries.accounted c.extend.new.entries c.insert-2.new.self) (g.T.SearchedEntries.accounted c.args.entries.now c.insert-2.new.self) _
    (λ is n counted. omega (arith, room, is n (c.in_ok-extend.ensures.same_count c.if-branch.false n counted)))
    (c.in_ok-extend.ensures.same_sights c.if-branch.false)
    (λ e why. g.met.T.SearchedEntries.accounted_wider _ _ _ _ e c.extend.ensures.kept c.insert-2.ensures.kept last why)
    (put_cause c.args.sectors ((n : ℕ) → g.T.SearchedEntries.counts c.extend.new.entries n → g.T.SearchedEntries.room c.extend.new.entries ≤ n) (g.T.SearchedEntries.shows c.extend.new.entries) (g.T.SearchedEntries.accounted c.extend.new.entries c.insert-2.new.self) c.in_err-insert-2.field-0.0 c.in_err-insert-2.ensures.cause))

pub returns-in_err-insert-2-clause-kept : goal.returns-in_err-insert-2-clause-kept
returns-in_err-insert-2-clause-kept g c = g.met.T.SearchedEntries.beside_through _ _ _ c.extend.ensures.kept c.insert-2.ensures.kept

pub returns-clause-kept : goal.returns-clause-kept
returns-clause-kept g c = g.met.T.SearchedEntries.beside_through _ _ _ c.extend.ensures.kept c.insert-2.ensures.kept

pub returns-in_err-insert-clause-cost : goal.returns-in_err-insert-clause-cost
returns-in_err-insert-clause-cost g c = omega (arith, c.insert.ensures.cost)

pub returns-then-not-may_join-clause-cost : goal.returns-then-not-may_join-clause-cost
returns-then-not-may_join-clause-cost g c = omega (arith, c.insert.ensures.cost)

pub returns-in_err-extend-clause-cost : goal.returns-in_err-extend-clause-cost
returns-in_err-extend-clause-cost g c = omega (arith, c.extend.ensures.cost)

pub returns-in_err-insert-2-clause-cost : goal.returns-in_err-insert-2-clause-cost
returns-in_err-insert-2-clause-cost g c = omega (arith, c.extend.ensures.cost, c.insert-2.ensures.cost)

pub returns-clause-cost : goal.returns-clause-cost
returns-clause-cost g c = omega (arith, c.extend.ensures.cost, c.insert-2.ensures.cost)
