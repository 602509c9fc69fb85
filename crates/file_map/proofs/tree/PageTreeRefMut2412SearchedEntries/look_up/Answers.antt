use Rattle.std.proofs.Common.{◌/◌, ℕ, List}
use Rattle.page_tree.specs.PageTree.{tree_memory}
use Rattle.file_map.specs.Shown.{IsShown}
use Rattle.file_map.proofs.Trees.{cause}
use Rattle.file_map.proofs.tree.PageTreeRefMut2412SearchedEntries.look_up.Goals as goal

pub returns-clause-answer : goal.returns-clause-answer
returns-clause-answer g c = λ xs listed. c.look_up_at.ensures.found xs listed

pub returns-clause-cause : goal.returns-clause-cause
returns-clause-cause g c = cause c.look_up_at.result _ _ (λ sight. (b : List ℕ) → g.M.FlatMem.reveals (tree_memory c.args.self.now).now b → IsShown (g.M.FlatMem.size (tree_memory c.args.self.now).now / 512) b sight) _ (λ page broken. broken) c.look_up_at.ensures.malformed c.look_up_at.ensures.cause
