use Rattle.std.proofs.Common.{◌/◌, ◌≤◌, ℕ, List, subst, sym}
use Rattle.page_tree.specs.PageTree.{tree_memory}
use Rattle.page_tree.specs.Page.{page_at, count_in}
use Rattle.page_tree.specs.Put.{capacity_of}
use Rattle.file_map.specs.Shown.{IsShown}
use Rattle.file_map.proofs.Trees.{put, put_cause}
use Rattle.file_map.proofs.tree.PageTreeRefMut2412SortedEntries.insert.Goals as goal

pub returns-clause-answer : goal.returns-clause-answer
returns-clause-answer g c = λ xs listed. put _ _ _ xs c.args.entry.now (c.insert.ensures.inserted xs listed)

pub returns-clause-cause : goal.returns-clause-cause
returns-clause-cause g c = put_cause c.insert.result (λ b. capacity_of 24 (g.M.FlatMem.size (tree_memory c.args.self.now).now / 512) ≤ count_in (page_at b 0)) _ _ _ (λ sight. (b : List ℕ) → g.M.FlatMem.reveals (tree_memory c.args.self.now).now b → IsShown (g.M.FlatMem.size (tree_memory c.args.self.now).now / 512) b sight) _
    (λ most n counted. subst (λ (m : ℕ). capacity_of 24 (g.M.FlatMem.size (tree_memory c.args.self.now).now / 512) ≤ m) (sym counted.2) (most counted.0 counted.1))
    (λ page broken. broken) c.insert.ensures.full c.insert.ensures.malformed c.insert.ensures.cause
