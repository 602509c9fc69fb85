use Rattle.std.proofs.Common.{◌/◌, ℕ, List}
use Rattle.page_tree.specs.PageTree.{tree_memory, Lists}
use Rattle.file_map.specs.Shown.{IsShown}
use Rattle.file_map.proofs.Trees.{put_over, cause, kept_count, kept_sights}
use Rattle.file_map.proofs.tree.PageTreeRefMut2412SortedEntries.replace_key.Goals as goal

pub returns-clause-answer : goal.returns-clause-answer
returns-clause-answer g c = λ xs listed. put_over c.replace_key.result (Lists c.replace_key.new.self) xs c.args.entry.now (c.replace_key.ensures.replaced xs listed)

pub returns-clause-cause : goal.returns-clause-cause
returns-clause-cause g c = cause c.replace_key.result _ _ (λ sight. (b : List ℕ) → g.M.FlatMem.reveals (tree_memory c.args.self.now).now b → IsShown (g.M.FlatMem.size (tree_memory c.args.self.now).now / 512) b sight) _ (λ page broken. broken) c.replace_key.ensures.malformed c.replace_key.ensures.cause

pub returns-clause-same_count : goal.returns-clause-same_count
returns-clause-same_count g c = kept_count c.replace_key.result _ _ c.replace_key.ensures.absent

pub returns-clause-same_sights : goal.returns-clause-same_sights
returns-clause-same_sights g c = kept_sights c.replace_key.result _ _ _ _ (g.met.M.FlatMem.same_size _ _ c.replace_key.ensures.kept.1) c.replace_key.ensures.absent
