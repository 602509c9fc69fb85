use Rattle.std.proofs.Common.{map, arith, length, ◌<◌, ◌≤◌, ℕ}
use Rattle.file_map.specs.Run.{run_bytes}
use Rattle.file_map.specs.FileMap.{most_records, AreNamed, with_run}
use Rattle.file_map.proofs.Edits.{relisted}
use Rattle.file_map.proofs.Outcomes.{full_or, err_weaker, if_not_full}
use Rattle.file_map.proofs.add.add.Goals as goal

pub returns-clause-added : goal.returns-clause-added
returns-clause-added g c = λ named map_is new.
    let xs = map run_bytes map_is.runs in
    let counted = g.met.T.SearchedEntries.counted c.args.entries.now xs map_is.listed in
    let count_is = c.in_ok-count_of.ensures.count (length xs) counted in
    let fewer : length xs < most_records c.args.sectors = omega (arith, c.in_ok-count_of.ensures.few, count_is, c.if-branch-most_of.false, c.most_of.ensures) in
    let same_room = g.met.T.SearchedEntries.same_room _ _ c.count_of.ensures.kept in
    let now = relisted c.args.sectors _ (g.T.SearchedEntries.lists c.count_of.new.entries) named map_is (c.count_of.ensures.same xs map_is.listed) in
    full_or c.put.result (λ _. AreNamed c.args.sectors (g.T.SearchedEntries.lists c.put.new.entries) (with_run named c.args.run)) (g.T.SearchedEntries.counts c.args.entries.now (most_records c.args.sectors)) (AreNamed c.args.sectors (g.T.SearchedEntries.lists c.put.new.entries) named) (c.put.ensures.added named now new (length xs) (c.count_of.ensures.same_count _ counted) fewer (omega (arith, fewer, same_room, c.requires.room)))

pub returns-clause-full_same : goal.returns-clause-full_same
returns-clause-full_same g c = λ b h.
    let revealed = c.count_of.ensures.same_bytes b h in
    let counted = g.met.T.SearchedEntries.counted_revealed c.args.entries.now b h in
    let count_is = c.in_ok-count_of.ensures.count counted.0 counted.1 in
    let fewer : counted.0 < most_records c.args.sectors = omega (arith, c.in_ok-count_of.ensures.few, count_is, c.if-branch-most_of.false, c.most_of.ensures) in
    let same_room = g.met.T.SearchedEntries.same_room _ _ c.count_of.ensures.kept in
    err_weaker c.put.result _ _ c.put.ensures.cause (λ error why. if_not_full c.args.sectors ((n : ℕ) → g.T.SearchedEntries.counts c.count_of.new.entries n → g.T.SearchedEntries.room c.count_of.new.entries ≤ n) (g.T.SearchedEntries.shows c.count_of.new.entries) (g.T.SearchedEntries.accounted c.count_of.new.entries c.put.new.entries) error (g.T.SearchedEntries.revealed c.put.new.entries b)
    (λ full. omega (arith, full counted.0 (c.count_of.ensures.same_count counted.0 counted.1), fewer, same_room, c.requires.room)) why)

pub returns-clause-kept : goal.returns-clause-kept
returns-clause-kept g c = g.met.T.SearchedEntries.beside_through _ _ _ c.count_of.ensures.kept c.put.ensures.kept

pub returns-clause-cost : goal.returns-clause-cost
returns-clause-cost g c = omega (arith, c.count_of.ensures.cost, c.put.ensures.cost)
