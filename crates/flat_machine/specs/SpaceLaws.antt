-- What the definitions say of spaces and of least numbers.
use Rattle.std.specs.Prelude.{◌≡◌, ℕ, ◌<◌, ◌≤◌, Bool, List, map, Some, IsTrue, IsFalse}
use Rattle.std.specs.List.{AllByRecursion}
use Rattle.flat_machine.specs.Space.{Space, root_pages, holds, is_child_of, space_at, innermost}
use Rattle.flat_machine.specs.Machine.{IsAscending}
use Rattle.flat_machine.specs.Spaces.{AreSpaces}
use Rattle.flat_machine.specs.Refusal.{least, lowest_handle}
use Rattle.flat_machine.specs.Laws.{IsOneOf}

-- the space holds the page, and none of its children does
pub record IsInnermost (ss : List Space) (page : ℕ) (s : Space) : Type 0 where
  pub there : space_at ss s.handle ≡ Some s
  pub holds_it : IsTrue (holds s page)
  pub no_child : (t : Space) → space_at ss t.handle ≡ Some t → IsTrue (is_child_of s.handle t) → IsFalse (holds t page)

-- each page of the root has one innermost space, and no other
abbrev pub InnermostIsOne : Type 0
InnermostIsOne = (ss : List Space) (page : ℕ) → AreSpaces ss → page < root_pages
    → (s : Space) × (innermost ss page ≡ Some s) × IsInnermost ss page s × ((t : Space) → IsInnermost ss page t → t ≡ s)

-- the least number of a list is one of it, and none of it is less
abbrev pub LeastIsLeast : Type 0
LeastIsLeast = (ns : List ℕ) (n : ℕ) → least ns ≡ Some n → IsOneOf ns n × AllByRecursion (λ k. n ≤ k) ns

-- a space of the lowest handle passes the test, and no space of a lower one does
pub record IsLowest (test : Space → Bool) (ss : List Space) (handle : ℕ) : Type 0 where
  pub space : Space
  pub there : space_at ss handle ≡ Some space
  pub passes : IsTrue (test space)
  pub lowest : (t : Space) → space_at ss t.handle ≡ Some t → IsTrue (test t) → handle ≤ t.handle

-- of spaces in ascending handles the lowest handle is the lowest
abbrev pub LowestHandleIsLowest : Type 0
LowestHandleIsLowest = (test : Space → Bool) (ss : List Space) (handle : ℕ) → IsAscending (map (λ s. s.handle) ss) → lowest_handle test ss ≡ Some handle
    → IsLowest test ss handle
