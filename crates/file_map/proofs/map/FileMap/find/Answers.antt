use Rattle.std.proofs.Common.{◌≡◌, ◌/◌, ℕ, List, map, IfOk, IfErr, IfSome, subst, sym}
use Rattle.page_tree.specs.PageTree.{tree_memory}
use Rattle.page_tree.specs.Page.{page_at, count_in}
use Rattle.page_tree.specs.Reveals.{RevealsTree}
use Rattle.file_map.specs.Run.{run_bytes}
use Rattle.file_map.specs.Entries.{Entry}
use Rattle.file_map.specs.Cause.{IsCause}
use Rattle.file_map.specs.Shown.{IsShown}
use Rattle.file_map.proofs.Edits.{relisted}
use Rattle.file_map.proofs.map.FileMap.find.Goals as goal

pub returns-clause-found : goal.returns-clause-found
returns-clause-found g c = λ named map_is.
    let here : (tree_memory c.over-tree.result).now ≡ c.args.self.now.mem = λ i. (c.over-tree.ensures.memory i).now in
    let listed = subst (λ m. RevealsTree 24 12 (g.M.FlatMem.size m / 512) (g.M.FlatMem.reveals m) (map run_bytes map_is.runs)) (sym here) map_is.listed in
    c.find.ensures.found named (relisted c.args.self.now.sectors _ _ named map_is listed)

pub returns-clause-same : goal.returns-clause-same
returns-clause-same g c = λ named map_is.
    let here : (tree_memory c.over-tree.result).now ≡ c.args.self.now.mem = λ i. (c.over-tree.ensures.memory i).now in
    let listed = subst (λ m. RevealsTree 24 12 (g.M.FlatMem.size m / 512) (g.M.FlatMem.reveals m) (map run_bytes map_is.runs)) (sym here) map_is.listed in
    relisted c.args.self.now.sectors _ _ named map_is (c.find.ensures.same (map run_bytes map_is.runs) listed)

pub returns-clause-same_count : goal.returns-clause-same_count
returns-clause-same_count g c = λ n counted.
    let here : (tree_memory c.over-tree.result).now ≡ c.args.self.now.mem = λ i. (c.over-tree.ensures.memory i).now in
    c.find.ensures.same_count n (subst (λ m. (b : List ℕ) × g.M.FlatMem.reveals m b × (n ≡ count_in (page_at b 0))) (sym here) counted)

pub returns-clause-cause : goal.returns-clause-cause
returns-clause-cause g c =
    let here : (tree_memory c.over-tree.result).now ≡ c.args.self.now.mem = λ i. (c.over-tree.ensures.memory i).now in
    subst (λ m. IfErr c.find.result (IsCause c.args.self.now.sectors ⊥ (λ sight. (b : List ℕ) → g.M.FlatMem.reveals m b → IsShown (g.M.FlatMem.size m / 512) b sight) (g.M.FlatMem.accounted m (tree_memory c.find.new.entries).now))) here c.find.ensures.cause

pub returns-clause-read : goal.returns-clause-read
returns-clause-read g c =
    let here : (tree_memory c.over-tree.result).now ≡ c.args.self.now.mem = λ i. (c.over-tree.ensures.memory i).now in
    subst (λ m. IfOk c.find.result (λ found. IfSome found (λ run. (at : ℕ) × ((b : List ℕ) → g.M.FlatMem.reveals m b → IsShown (g.M.FlatMem.size m / 512) b (Entry at (run_bytes run)))))) here c.find.ensures.read
