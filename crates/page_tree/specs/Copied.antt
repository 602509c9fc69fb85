-- What a removal writes into a page.
use Rattle.std.specs.Prelude.{ℕ, ◌+◌, ◌-◌, ◌*◌, List, [], ◌∷◌}
use Rattle.std.specs.Int.{bytes_high_first}
use Rattle.flat_mem.specs.Memory.{part, overwritten}
use Rattle.page_tree.specs.Change.{with_count}
use Rattle.page_tree.specs.Page.{links_at}

-- the cells from m up to n of another page, copied to this place and after it
abbrev pub copy_cells : ℕ → ℕ → List ℕ → ℕ → List ℕ → ℕ → ℕ → List ℕ
copy_cells base w page at other m n = overwritten page (base + w * at) (part other (base + w * m) ((base + w * n) - (base + w * m)))

-- n cells without the one at this place
abbrev pub without_cell : ℕ → ℕ → List ℕ → ℕ → ℕ → List ℕ
without_cell base w page n at = copy_cells base w page at page (at + 1) n

-- the n cells of another page after these
abbrev pub append_cells : ℕ → ℕ → List ℕ → ℕ → List ℕ → ℕ → List ℕ
append_cells base w page at other n = copy_cells base w page at other 0 n

-- a leaf of n records without the one at this place
abbrev pub leaf_without : ℕ → List ℕ → ℕ → ℕ → List ℕ
leaf_without e page n at = with_count (without_cell 8 e page n at) (n - 1)

-- a leaf of n records with those of a leaf of m after them
abbrev pub leaf_joined : ℕ → List ℕ → ℕ → List ℕ → ℕ → List ℕ
leaf_joined e page n other m = with_count (append_cells 8 e page n other m) (n + m)

-- an inner page of n keys without the child at this place and the key at this slot
abbrev pub inner_without : ℕ → List ℕ → ℕ → ℕ → ℕ → List ℕ
inner_without k page n slot at = with_count (without_cell (links_at k) 4 (without_cell 8 k page n slot) (n + 1) at) (n - 1)

-- an inner page of n keys with this key and the children of an inner page of m keys after them
abbrev pub inner_joined : ℕ → List ℕ → ℕ → List ℕ → List ℕ → ℕ → List ℕ
inner_joined k page n key other m = with_count (append_cells (links_at k) 4 (append_cells 8 k (overwritten page (8 + k * n) key) (n + 1) other m) (n + 1) other (m + 1)) (n + m + 1)

-- a free page, with the number of the next
abbrev pub with_free : List ℕ → ℕ → List ℕ
with_free page next = overwritten (overwritten page 0 (0 ∷ [])) 4 (bytes_high_first 4 next)
