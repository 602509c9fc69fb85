-- What calls of the space tables answer over a core, and what they leave.
use Rattle.std.specs.Prelude.{◌≡◌, ℕ, List, [], Option, Some, None, Result, Ok, Err}
use Rattle.labelled_disk.specs.declared.disk.Disk.{Ghosts}
use Rattle.labelled_disk.specs.declared.evidence.Evidence.TheVariants as evidence
use Rattle.labelled_disk.specs.declared.structure.Structure.TheVariants as structures
use Rattle.labelled_disk.specs.declared.evidence.Halt.{Halt}
use Rattle.labelled_disk.specs.declared.evidence.Halt.TheVariants.{Damaged}
use Rattle.labelled_disk.specs.Sectors.{Sector}
use Rattle.file_map.specs.FileMap.{Triples}
use Rattle.flat_machine.specs.declared.call.Refusal.{Refusal}
use Rattle.flat_machine.specs.declared.space.Space.{Space}
use Rattle.space_tables.specs.declared.error.SpaceError.{SpaceError}
use Rattle.space_tables.specs.declared.error.SpaceError.TheVariants.{Refused, Malformed, Mem}
use Rattle.filer_kernel.specs.Tables.{BesideTables}
use Rattle.fault_core.specs.declared.core_over.Core.{Core}
use Rattle.fault_core.specs.Core.{kept, state, Knows}
use Rattle.fault_core.specs.Reach.{Reaches, BringsOwn, StayOrYield}
use Rattle.filer_kernel.specs.View.{View, TablesAre, TablesBeside}

-- what the tables answered, where a refusal is revealed from a halt: a page that breaks its form is one of the space tables
abbrev pub refused_or_halted : {A : Type 0} → Result A (SpaceError Halt) → Result (Result A Refusal) Halt
refused_or_halted (Ok answer) = Ok (Ok answer)
refused_or_halted (Err (Refused word)) = Ok (Err word)
refused_or_halted (Err (Malformed page)) = Err (Damaged (evidence.Malformed structures.SpaceTables page))
refused_or_halted (Err (Mem halt)) = Err halt

-- the answer is the refusal, and this stays then; or, where there is none, it is this
abbrev pub Changes : {A : Type 0} → Option Refusal → (A → Type 0) → Type 0 → Result A Refusal → Type 0
Changes refusal P stays (Ok answer) = (refusal ≡ None) × P answer
Changes refusal P stays (Err word) = (refusal ≡ Some word) × stays

-- of a call that only asks
abbrev pub Reveals : {A : Type 0} → Option Refusal → (A → Type 0) → Result A Refusal → Type 0
Reveals refusal P result = Changes refusal P (Unit {0}) result

-- a fact of the answer that is no refusal
abbrev pub IfGiven : {A : Type 0} → (A → Type 0) → Result A Refusal → Type 0
IfGiven P (Ok answer) = P answer
IfGiven P (Err word) = Unit {0}

-- it was done, and this is so
abbrev pub IsDone : Type 0 → Result Unit Refusal → Type 0
IsDone P (Ok answer) = P
IsDone P (Err word) = ⊥

-- a page of the space tables breaks its form so, where they are revealed
abbrev pub TablesBreak : View → (List ℕ → ℕ → Type 0) → ℕ → Type 0
TablesBreak v breaks page = (b : List ℕ) → TablesAre v b → breaks b page

-- the bytes of the space tables say so of an answer, where they are revealed
abbrev pub TablesSay : {A : Type 0} → View → (List ℕ → A → Type 0) → A → Type 0
TablesSay v says answer = (b : List ℕ) → TablesAre v b → says b answer

-- The tables were asked: pages were found and brought in, and what the tables say has not changed.
pub record AskedTables (old new : View) : Type 0 where
  pub beside : TablesBeside old new
  pub same : (b : List ℕ) → TablesAre old b → TablesAre new b

module _ {D A : Type 0} {G : Ghosts D} where
  -- Pages were found and brought in, and nothing that is known has changed.
  pub record Asked (old new : Core D A G) : Type 0 where
    pub reaches : Reaches (state old) (state new)
    pub came : BringsOwn (state old).slots (state new).slots
    pub stay : StayOrYield (state old).slots (state new).slots
    pub kept : kept new ≡ kept old
    pub intervals : new.intervals ≡ old.intervals
    pub same : (m : List Sector) (named : Triples) (spaces : List Space) → Knows old m named spaces → Knows new m named spaces

  -- Pages of the space tables alone may have changed, and no interval is kept any more.
  pub record Retabled (old new : Core D A G) : Type 0 where
    pub beside : BesideTables (state old).disk (state old).slots (state old).layout (state old).runs (state new).disk (state new).slots (state new).layout (state new).runs
    pub came : BringsOwn (state old).slots (state new).slots
    pub kept : kept new ≡ []
