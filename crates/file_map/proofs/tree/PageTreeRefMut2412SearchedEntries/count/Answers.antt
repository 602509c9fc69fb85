use Rattle.std.proofs.Common.{◌/◌, ℕ, List}
use Rattle.page_tree.specs.PageTree.{tree_memory}
use Rattle.file_map.specs.Shown.{IsShown}
use Rattle.file_map.proofs.Trees.{from_memory, cause}
use Rattle.file_map.proofs.tree.PageTreeRefMut2412SearchedEntries.count.Goals as goal

pub returns-clause-well : goal.returns-clause-well
returns-clause-well g c = λ xs listed. from_memory _ _ (c.count.ensures.count xs listed)

pub returns-clause-cause : goal.returns-clause-cause
returns-clause-cause g c = cause c.count.result _ _ (λ sight. (b : List ℕ) → g.M.FlatMem.reveals (tree_memory c.args.self.now).now b → IsShown (g.M.FlatMem.size (tree_memory c.args.self.now).now / 512) b sight) _ (λ page broken. broken) c.count.ensures.malformed c.count.ensures.cause
