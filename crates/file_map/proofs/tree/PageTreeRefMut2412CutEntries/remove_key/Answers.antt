use Rattle.std.proofs.Common.{◌/◌, ℕ, List}
use Rattle.page_tree.specs.PageTree.{tree_memory, Lists}
use Rattle.file_map.specs.Shown.{IsShown}
use Rattle.file_map.proofs.Trees.{taken_out, cause}
use Rattle.file_map.proofs.tree.PageTreeRefMut2412CutEntries.remove_key.Goals as goal

pub returns-clause-answer : goal.returns-clause-answer
returns-clause-answer g c = λ xs listed. taken_out c.remove_key.result (Lists c.remove_key.new.self) xs c.args.key.now (c.remove_key.ensures.removed xs listed)

pub returns-clause-cause : goal.returns-clause-cause
returns-clause-cause g c = cause c.remove_key.result _ _ (λ sight. (b : List ℕ) → g.M.FlatMem.reveals (tree_memory c.args.self.now).now b → IsShown (g.M.FlatMem.size (tree_memory c.args.self.now).now / 512) b sight) _ (λ page broken. broken) c.remove_key.ensures.malformed c.remove_key.ensures.cause
