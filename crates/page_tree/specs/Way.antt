-- An insertion that has written pages, over the bytes of its start.
use Rattle.std.specs.Prelude.{◌≡◌, ◌≢◌, ℕ, ◌+◌, ◌<◌, ◌≤◌, ◌⊎◌, List, length, Bool, true, false}
use Rattle.page_tree.specs.Page.{page_at, kind_of, filled, key_room, top_in}
use Rattle.page_tree.specs.Broken.{Meets, Frees, Breaks}

-- page q is used by the insertion: it was met at a level up to this one, or taken, as one of the first n of the list or from above the greatest that was used
pub data IsSpent (k : ℕ) (b : List ℕ) (level n q : ℕ) : Type 0 where
  tree : (l : ℕ) → 1 ≤ l → l ≤ level → Meets k b l q → IsSpent k b level n q
  list : (m : ℕ) → m < n → Frees b m q → 1 ≤ q → IsSpent k b level n q
  above : top_in (page_at b 0) < q → IsSpent k b level n q

-- t pages were taken, the first n of the list and the rest from above; pages are as they were at the start but those that are used, which are no free ones
pub record IsUnderWay (k : ℕ) (b c : List ℕ) (level t free top : ℕ) : Type 0 where
  pub n : ℕ
  pub n_most : n ≤ t
  pub long : length c ≡ length b
  pub free_is : Frees b n free
  pub top_is : top + n ≡ top_in (page_at b 0) + t
  pub pages : (q : ℕ) → (page_at c q ≡ page_at b q) ⊎ ((kind_of (page_at c q) ≢ 0) × IsSpent k b level n q)

-- a page more is taken
pub record IsTakenOn (k : ℕ) (b c : List ℕ) (level t page free top : ℕ) : Type 0 where
  pub way : IsUnderWay k b c level (t + 1) free top
  pub spent : IsSpent k b level way.n page

-- a page was full at the start, or it breaks the form
abbrev pub WasFull : ℕ → ℕ → ℕ → List ℕ → ℕ → Type 0
WasFull e k pages b page = (filled (page_at b page) ≡ key_room k) ⊎ Breaks e k pages b page

-- the insertion goes on to the next level, where it was not done
abbrev pub GoesOn : ℕ → (List ℕ → Type 0) → List ℕ → ℕ → ℕ → ℕ → Bool → Type 0
GoesOn k reveals b level free top true = Unit {0}
GoesOn k reveals b level free top false = (d : List ℕ) × reveals d × IsUnderWay k b d level level free top
