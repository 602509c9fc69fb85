-- Pages in a search, and entries that are moved in one page.
use Rattle.std.specs.Prelude.{◌≡◌, ℕ, ◌+◌, ◌*◌, ◌≤◌, ◌<◌, true, false, List}
use Rattle.flat_mem.specs.Memory.{part}
use Rattle.flat_mem.specs.Order.{at_most}
use Rattle.record_table.specs.Table.{per_page}

-- page i is one of these whose first key is at most this one, and the next page's is not
pub record IsLastPage (k : ℕ) (b : List ℕ) (pages : ℕ) (key : List ℕ) (i : ℕ) : Type 0 where
  pub below : i < pages
  pub holds : at_most (part b (512 * i) k) key ≡ true
  pub above : i + 1 < pages → at_most (part b (512 * (i + 1)) k) key ≡ false

-- a page with the piece in a slot, those from there on moved one slot up, and the last one taken out
pub record IsPushed (e slot : ℕ) (page new piece taken : List ℕ) : Type 0 where
  pub below : (i : ℕ) → i < slot → part new (e * i) e ≡ part page (e * i) e
  pub here : part new (e * slot) e ≡ piece
  pub above : (i : ℕ) → slot ≤ i → i + 1 < per_page e → part new (e * (i + 1)) e ≡ part page (e * i) e
  pub out : (i : ℕ) → i + 1 ≡ per_page e → taken ≡ part page (e * i) e

-- a page with one slot taken out, those after it moved one slot down, and the piece in the last one
pub record IsPulled (e slot : ℕ) (page new piece taken : List ℕ) : Type 0 where
  pub below : (i : ℕ) → i < slot → part new (e * i) e ≡ part page (e * i) e
  pub moved : (i : ℕ) → slot ≤ i → i + 1 < per_page e → part new (e * i) e ≡ part page (e * (i + 1)) e
  pub last : (i : ℕ) → i + 1 ≡ per_page e → part new (e * i) e ≡ piece
  pub out : taken ≡ part page (e * slot) e
