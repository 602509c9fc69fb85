-- One step from a file to the next one, named or not.
use Rattle.std.specs.Prelude.{◌≡◌, ℕ, not, Option, Some, None}
use Rattle.flat_machine.specs.Machine.{Machine, is_anonymous}
use Rattle.session_words.specs.Parts.{shapes_of}
use Rattle.file_manager.specs.Answer.{IsNextFile}
use Rattle.pilot_engine.specs.declared.order.Passed.{Passed}

-- it is the file with the least identifier above this one, and it is revealed whether an anonymous window shows it
abbrev pub IsTurn : Machine → ℕ → Option Passed → Type 0
IsTurn m cursor None = IsNextFile (shapes_of m.files) cursor None
IsTurn m cursor (Some passed) = IsNextFile (shapes_of m.files) cursor (Some passed.id) × (is_anonymous m.spaces passed.id ≡ not passed.named)

-- a search among the files, and a question to the space tables
abbrev pub turn_cost : ℕ
turn_cost = 14568
