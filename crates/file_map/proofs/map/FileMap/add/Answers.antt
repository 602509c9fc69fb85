use Rattle.std.proofs.Common.{◌≡◌, ◌/◌, ℕ, List, map, IfErr, MatchResult, subst, sym}
use Rattle.page_tree.specs.PageTree.{tree_memory}
use Rattle.page_tree.specs.Page.{page_at, count_in}
use Rattle.page_tree.specs.Reveals.{RevealsTree}
use Rattle.file_map.specs.Run.{run_bytes}
use Rattle.file_map.specs.FileMap.{AreNamed, with_run, most_records}
use Rattle.file_map.specs.Cause.{IsAddCause, IsFullOr, IsMost}
use Rattle.file_map.specs.Shown.{IsShown}
use Rattle.file_map.proofs.Edits.{relisted}
use Rattle.file_map.proofs.map.FileMap.add.Goals as goal

pub returns-clause-added : goal.returns-clause-added
returns-clause-added g c = λ named map_is new.
    let here : (tree_memory c.over-tree.result).now ≡ c.args.self.now.mem = λ i. (c.over-tree.ensures.memory i).now in
    let listed = subst (λ m. RevealsTree 24 12 (g.M.FlatMem.size m / 512) (g.M.FlatMem.reveals m) (map run_bytes map_is.runs)) (sym here) map_is.listed in
    subst (λ m. MatchResult c.add.result (λ _. AreNamed c.args.self.now.sectors (λ xs. RevealsTree 24 12 (g.M.FlatMem.size (tree_memory c.add.new.entries).now / 512) (g.M.FlatMem.reveals (tree_memory c.add.new.entries).now) xs) (with_run named c.args.run)) (IsFullOr ((b : List ℕ) × g.M.FlatMem.reveals m b × (most_records c.args.self.now.sectors ≡ count_in (page_at b 0))) (AreNamed c.args.self.now.sectors (λ xs. RevealsTree 24 12 (g.M.FlatMem.size (tree_memory c.add.new.entries).now / 512) (g.M.FlatMem.reveals (tree_memory c.add.new.entries).now) xs) named))) here
    (c.add.ensures.added named (relisted c.args.self.now.sectors _ _ named map_is listed) new)

pub returns-clause-room : goal.returns-clause-room
returns-clause-room g c = λ n counted.
    let here : (tree_memory c.over-tree.result).now ≡ c.args.self.now.mem = λ i. (c.over-tree.ensures.memory i).now in
    c.add.ensures.room n (subst (λ m. (b : List ℕ) × g.M.FlatMem.reveals m b × (n ≡ count_in (page_at b 0))) (sym here) counted)

pub returns-clause-cause : goal.returns-clause-cause
returns-clause-cause g c =
    let here : (tree_memory c.over-tree.result).now ≡ c.args.self.now.mem = λ i. (c.over-tree.ensures.memory i).now in
    subst (λ m. IfErr c.add.result (IsAddCause c.args.self.now.sectors (IsMost c.args.self.now.sectors (λ n. (b : List ℕ) × g.M.FlatMem.reveals m b × (n ≡ count_in (page_at b 0)))) (λ sight. (b : List ℕ) → g.M.FlatMem.reveals m b → IsShown (g.M.FlatMem.size m / 512) b sight) (g.M.FlatMem.accounted m (tree_memory c.add.new.entries).now))) here c.add.ensures.cause

pub returns-clause-full_same : goal.returns-clause-full_same
returns-clause-full_same g c = λ b h.
    let here : (tree_memory c.over-tree.result).now ≡ c.args.self.now.mem = λ i. (c.over-tree.ensures.memory i).now in
    c.add.ensures.full_same b (subst (λ m. g.M.FlatMem.reveals m b) (sym here) h)
