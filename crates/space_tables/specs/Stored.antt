-- The tables in a memory's bytes, and the spaces and intervals that stand in them.
use Rattle.std.specs.Prelude.{◌≡◌, ℕ, ◌≤◌, true, List, length, Option, Some, slice_get}
use Rattle.flat_machine.specs.declared.space.Space.{Space}
use Rattle.projection_laws.specs.Spaces.{AreSpaces}
use Rattle.projection_laws.specs.Slots.{listed, AreNumbered}
use Rattle.projection_laws.specs.Sight.{Interval, AreIntervals}
use Rattle.projection_laws.specs.Laws.{WindowsFit}
use Rattle.projection_laws.specs.Stored.{bytes_of, slot_bytes, IsTyped, IsTypedSpace}
use Rattle.space_tables.specs.Form.{slot_record, interval_record, in_form, space_in_form}

-- 512 records of the hierarchy, each a space or none, and the records of the intervals
pub record AreTables (b : List ℕ) (slots : List (Option Space)) (xs : List Interval) : Type 0 where
  pub handles : length slots ≡ 512
  pub hierarchy : (h : ℕ) (o : Option Space) → slice_get slots h ≡ Some o → slot_record b h ≡ slot_bytes o
  pub projection : (k : ℕ) (x : Interval) → slice_get xs k ≡ Some x → interval_record b k ≡ bytes_of x

-- a memory reveals bytes that are these tables
pub record HoldTables (reveals : List ℕ → Type 0) (slots : List (Option Space)) (xs : List Interval) : Type 0 where
  pub bytes : List ℕ
  pub revealed : reveals bytes
  pub are : AreTables bytes slots xs

-- the record of the interval reads back
abbrev pub IsReadable : Interval → Type 0
IsReadable x = (in_form x ≡ true) × IsTyped x

-- each record reads back what stands there
pub record AreReadable (slots : List (Option Space)) (xs : List Interval) : Type 0 where
  pub numbered : AreNumbered 0 slots
  pub spaces : (h : ℕ) (s : Space) → slice_get slots h ≡ Some (Some s) → (space_in_form s ≡ true) × IsTypedSpace s
  pub intervals : (k : ℕ) (x : Interval) → slice_get xs k ≡ Some x → IsReadable x

-- the spaces have a machine's form, and the intervals are their projection
pub record AreRight (slots : List (Option Space)) (xs : List Interval) : Type 0 where
  pub numbered : AreNumbered 0 slots
  pub spaces : AreSpaces (listed slots)
  pub windows : WindowsFit (listed slots)
  pub intervals : AreIntervals (listed slots) xs

-- A memory reveals the tables of these spaces, with so many intervals: their projection.
pub record RevealSpaces (reveals : List ℕ → Type 0) (count : ℕ) (ss : List Space) : Type 0 where
  pub slots : List (Option Space)
  pub xs : List Interval
  pub hold : HoldTables reveals slots xs
  pub right : AreRight slots xs
  pub counted : length xs ≡ count
  pub spaces : listed slots ≡ ss

-- A memory reveals bytes, and the records of the projection from an index on are those of others.
pub record RevealsRest (reveals : List ℕ → Type 0) (b : List ℕ) (from : ℕ) : Type 0 where
  pub bytes : List ℕ
  pub revealed : reveals bytes
  pub rest : (k : ℕ) → from ≤ k → interval_record bytes k ≡ interval_record b k
