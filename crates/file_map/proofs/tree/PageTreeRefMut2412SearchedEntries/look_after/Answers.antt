use Rattle.std.proofs.Common.{◌/◌, ℕ, List}
use Rattle.page_tree.specs.PageTree.{tree_memory}
use Rattle.file_map.specs.Shown.{IsShown}
use Rattle.file_map.proofs.Trees.{first_entry, cause}
use Rattle.file_map.proofs.tree.PageTreeRefMut2412SearchedEntries.look_after.Goals as goal

pub returns-clause-answer : goal.returns-clause-answer
returns-clause-answer g c = λ xs listed. first_entry _ xs c.args.key.now c.look_after_at.new.into (c.look_after_at.ensures.found xs listed)

pub returns-clause-cause : goal.returns-clause-cause
returns-clause-cause g c = cause c.look_after_at.result _ _ (λ sight. (b : List ℕ) → g.M.FlatMem.reveals (tree_memory c.args.self.now).now b → IsShown (g.M.FlatMem.size (tree_memory c.args.self.now).now / 512) b sight) _ (λ page broken. broken) c.look_after_at.ensures.malformed c.look_after_at.ensures.cause
