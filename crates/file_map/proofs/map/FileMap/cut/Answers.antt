use Rattle.std.proofs.Common.{◌≡◌, ◌⊎◌, ◌+◌, ◌*◌, ◌/◌, ◌≤◌, map, IfErr, subst, sym}
use Rattle.page_tree.specs.PageTree.{tree_memory}
use Rattle.page_tree.specs.Reveals.{RevealsTree}
use Rattle.file_map.specs.Run.{run_bytes}
use Rattle.file_map.specs.FileMap.{most_records}
use Rattle.file_map.specs.Cause.{IsCause, IsToCut}
use Rattle.file_map.specs.Map.{ShownBy}
use Rattle.file_map.proofs.Edits.{relisted}
use Rattle.file_map.proofs.Outcomes.{err_weaker}
use Rattle.file_map.proofs.CutLoop.{cut_spent}
use Rattle.file_map.proofs.map.FileMap.cut.Goals as goal

pub returns-clause-cut : goal.returns-clause-cut
returns-clause-cut g c = λ named map_is.
    let here : (tree_memory c.over-tree.result).now ≡ c.args.self.now.mem = λ i. (c.over-tree.ensures.memory i).now in
    let listed = subst (λ m. RevealsTree 24 12 (g.M.FlatMem.size m / 512) (g.M.FlatMem.reveals m) (map run_bytes map_is.runs)) (sym here) map_is.listed in
    c.cut.ensures.cut named (relisted c.args.self.now.sectors _ _ named map_is listed)

pub returns-clause-cause : goal.returns-clause-cause
returns-clause-cause g c =
    let here : (tree_memory c.over-tree.result).now ≡ c.args.self.now.mem = λ i. (c.over-tree.ensures.memory i).now in
    subst (λ n. IfErr c.cut.result (λ error. (m : g.row.M.Denot) × g.M.FlatMem.beside n m × g.M.FlatMem.beside m (tree_memory c.cut.new.entries).now × IsCause c.args.self.now.sectors ⊥ (ShownBy (g.M.FlatMem.reveals m) (g.M.FlatMem.size m / 512)) (g.M.FlatMem.accounted n (tree_memory c.cut.new.entries).now) error)) here
    (err_weaker c.cut.result _ _ c.cut.ensures.cause (λ error why. ((tree_memory why.0).now, why.1.1, why.2.1, why.3)))

pub returns-clause-cost : goal.returns-clause-cost
returns-clause-cost g c =
    let here : (tree_memory c.over-tree.result).now ≡ c.args.self.now.mem = λ i. (c.over-tree.ensures.memory i).now in
    subst (λ m. g.M.FlatMem.spent (tree_memory c.cut.new.entries).now ≤ g.M.FlatMem.spent m + (1 + most_records c.args.self.now.sectors * (7 + 8 + 36)) * g.M.FlatMem.cost) here
    (cut_spent (most_records c.args.self.now.sectors) g.M.FlatMem.cost _ _ c.cut.ensures.cost)

pub returns-clause-begun : goal.returns-clause-begun
returns-clause-begun g c =
    let here : (tree_memory c.over-tree.result).now ≡ c.args.self.now.mem = λ i. (c.over-tree.ensures.memory i).now in
    subst (λ n. IfErr c.cut.result (λ error. IsCause c.args.self.now.sectors ⊥ (ShownBy (g.M.FlatMem.reveals n) (g.M.FlatMem.size n / 512)) (g.M.FlatMem.accounted n (tree_memory c.cut.new.entries).now) error ⊎ IsToCut c.args.id c.args.from (ShownBy (g.M.FlatMem.reveals n) (g.M.FlatMem.size n / 512)))) here
    c.cut.ensures.begun

pub returns-clause-cost_sized : goal.returns-clause-cost_sized
returns-clause-cost_sized g c = λ named size map_is is.
    let here : (tree_memory c.over-tree.result).now ≡ c.args.self.now.mem = λ i. (c.over-tree.ensures.memory i).now in
    let listed = subst (λ m. RevealsTree 24 12 (g.M.FlatMem.size m / 512) (g.M.FlatMem.reveals m) (map run_bytes map_is.runs)) (sym here) map_is.listed in
    subst (λ m. g.M.FlatMem.spent (tree_memory c.cut.new.entries).now ≤ g.M.FlatMem.spent m + (1 + (size + 2) * (7 + 8 + 36)) * g.M.FlatMem.cost) here
    (cut_spent (size + 2) g.M.FlatMem.cost _ _ (c.cut.ensures.cost_sized named size (relisted c.args.self.now.sectors _ _ named map_is listed) is))
