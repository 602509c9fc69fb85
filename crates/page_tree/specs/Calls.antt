-- How a call of the tree goes on its memory, and what it leaves of the header's numbers.
use Rattle.std.specs.Prelude.{◌≡◌, ◌≢◌, ℕ, ◌+◌, ◌<◌, ◌≤◌, Bool, false, List, get_or, Result, IfOk, IfErr}
use Rattle.flat_mem.specs.declared.memory.FlatMem.{Ghosts}
use Rattle.page_tree.specs.Page.{filled, leaf_room, key_room, link_at}
use Rattle.page_tree.specs.Bounds.{HasChild}
use Rattle.page_tree.specs.Answer.{IfMemNotFull}
use Rattle.page_tree.specs.declared.error.TreeError.{TreeError}
use Rattle.page_tree.specs.declared.look.Header.{Header}

-- ---- The memory.

module _ {M X T : Type 0} where
  -- it only reads, and spends at most so much: the revealed bytes and what stands beside them stay. An error of the memory is accounted for
  pub record Looks (G : Ghosts M X) (most : ℕ) (old new : M) (result : Result T (TreeError X)) : Type 0 where
    pub unchanged : (b : List ℕ) → G.reveals old b → G.reveals new b
    pub kept : G.beside old new
    pub looked : G.only_reads old new
    pub cause : IfErr result (IfMemNotFull (G.accounted old new))
    pub cost : G.spent new ≤ G.spent old + most

  -- it may write, and spends at most so much: what stands beside the bytes stays. An error of the memory is accounted for
  pub record Works (G : Ghosts M X) (most : ℕ) (old new : M) (result : Result T (TreeError X)) : Type 0 where
    pub kept : G.beside old new
    pub cause : IfErr result (IfMemNotFull (G.accounted old new))
    pub cost : G.spent new ≤ G.spent old + most

-- ---- The header's numbers.

-- the count, the root and the levels stay: pages alone were taken or given
pub record KeepsTree (old new : Header) : Type 0 where
  pub count : new.count ≡ old.count
  pub root : new.root ≡ old.root
  pub levels : new.levels ≡ old.levels

-- the count stays, and there are no more levels than before
pub record LowersTree (old new : Header) : Type 0 where
  pub levels : new.levels ≤ old.levels
  pub count : new.count ≡ old.count

-- a removal goes up by a level: where it is not done, the page of the path above is at hand, and the root and the levels stay
pub record GoesUp {X : Type 0} (pages level : ℕ) (paths : List ℕ) (old new : Header) (at : ℕ) (result : Result Bool (TreeError X)) : Type 0 where
  pub up : IfOk result (λ done. done ≡ false → at ≡ get_or paths (level + 1) 0)
  pub same_levels : IfOk result (λ done. done ≡ false → new.levels ≡ old.levels)
  pub same_root : IfOk result (λ done. done ≡ false → new.root ≡ old.root)
  pub levels : new.levels ≤ old.levels
  pub some_levels : 1 ≤ new.levels
  pub count : new.count ≡ old.count
  pub inside : IfOk result (λ _. at < pages)

-- ---- The pages beside a page that is underfull.

-- this is the page above level `level` on the path, and it has the child that the path takes
pub record IsPageAbove (k pages levels level : ℕ) (paths index above : List ℕ) (up : ℕ) : Type 0 where
  pub up_is : up ≡ get_or paths (level + 1) 0
  pub inside : up < pages
  pub child : HasChild k above (get_or index (level + 1) 0)
  pub more : level + 1 < levels → 2 ≤ filled above

-- this is child `index` of the page above, and it counts no more items than a page of its level has room for
pub record IsChildPage (e k pages level : ℕ) (above : List ℕ) (index : ℕ) (page : List ℕ) (at : ℕ) : Type 0 where
  pub linked : at ≡ link_at k above index
  pub inside : at < pages
  pub after : 1 ≤ at
  pub leaf : level ≡ 1 → filled page ≤ leaf_room e
  pub inner : level ≢ 1 → filled page ≤ key_room k
