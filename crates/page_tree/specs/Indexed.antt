-- A record by its index among those of all leaves, whatever the bytes are.
use Rattle.std.specs.Prelude.{◌≡◌, ℕ, ◌+◌, ◌*◌, ◌<◌, ◌≤◌, List, ◌∷◌, ◌++◌, length}
use Rattle.flat_mem.specs.Memory.{overwritten}
use Rattle.page_tree.specs.Page.{page_at, filled, record_at, count_in}
use Rattle.page_tree.specs.Leaves.{leaves_in, records_in}
use Rattle.page_tree.specs.Broken.{IsHeaderForm, IsLeafForm, Meets}

-- record `slot` of the leaf in this page is the one of this index: the leaves before the page, as a walk from the root
-- passes them, and the records before it in the page, hold `index` records
pub record IsIndexed (e k : ℕ) (b : List ℕ) (index page slot : ℕ) : Type 0 where
  pub passed : List ℕ
  pub after : List ℕ
  pub leaves : leaves_in k b ≡ passed ++ page ∷ after
  pub count : records_in b passed + slot ≡ index
  pub met : Meets k b 1 page
  pub form : IsLeafForm e (page_at b page)
  pub below : slot < filled (page_at b page)

-- the leaves hold a record of this index
abbrev pub HasNth : ℕ → ℕ → List ℕ → ℕ → Type 0
HasNth e k b index = (page : ℕ) × (slot : ℕ) × IsIndexed e k b index page slot

-- they hold one, and it is this
pub record IsNth (e k : ℕ) (b : List ℕ) (index : ℕ) (entry : List ℕ) : Type 0 where
  pub page : ℕ
  pub slot : ℕ
  pub place : IsIndexed e k b index page slot
  pub is : entry ≡ record_at e (page_at b page) slot

-- they hold one, and these bytes are revealed now: those before with the entry written over it
pub record IsNthSet (e k : ℕ) (reveals : List ℕ → Type 0) (b : List ℕ) (index : ℕ) (entry : List ℕ) : Type 0 where
  pub page : ℕ
  pub slot : ℕ
  pub place : IsIndexed e k b index page slot
  pub now : reveals (overwritten b (512 * page + (8 + e * slot)) entry)

-- why a call by index names the header
pub data MissesNth (e k pages : ℕ) (b : List ℕ) (index : ℕ) : Type 0 where
  -- a number of it is not in form
  unlike : ¬ IsHeaderForm e pages (page_at b 0) → MissesNth e k pages b index
  -- it does not count so many records
  uncounted : count_in (page_at b 0) ≤ index → MissesNth e k pages b index
  -- the leaves do not hold so many
  short : records_in b (leaves_in k b) ≤ index → MissesNth e k pages b index
  -- the tree that it names has no fewer leaves than the memory has pages
  crowded : pages ≤ length (leaves_in k b) → MissesNth e k pages b index
