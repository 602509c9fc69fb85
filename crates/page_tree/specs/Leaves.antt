-- The leaves below a page, whatever the bytes are.
use Rattle.std.specs.Prelude.{ℕ, zero, suc, List, [], ◌∷◌, ◌++◌}
use Rattle.std.specs.List.{sum_by}
use Rattle.page_tree.specs.Page.{page_at, filled, link_at, root_in, levels_in}

-- the lists f 0, f 1, .. one after the other, n of them
abbrev pub gathered : (ℕ → List ℕ) → ℕ → List ℕ
gathered f zero = []
gathered f (suc n) = gathered f n ++ f n

-- those below page p, which stands d levels above them: those below its children, in their order
abbrev pub leaves_below : ℕ → List ℕ → ℕ → ℕ → List ℕ
leaves_below k b zero p = p ∷ []
leaves_below k b (suc d) p = gathered (λ i. leaves_below k b d (link_at k (page_at b p) i)) (suc (filled (page_at b p)))

-- those of a tree of so many levels with this root
abbrev pub leaves_of : ℕ → List ℕ → ℕ → ℕ → List ℕ
leaves_of k b zero root = []
leaves_of k b (suc d) root = leaves_below k b d root

-- those of the tree that the header names
abbrev pub leaves_in : ℕ → List ℕ → List ℕ
leaves_in k b = leaves_of k b (levels_in (page_at b 0)) (root_in (page_at b 0))

-- how many records stand in these leaves
abbrev pub records_in : List ℕ → List ℕ → ℕ
records_in b ps = sum_by (λ p. filled (page_at b p)) ps
