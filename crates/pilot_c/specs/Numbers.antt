-- What C gets of calls that begin and end a session, that make and restore volumes, and that move bytes.
use Rattle.std.specs.Prelude.{◌≡◌, ℕ, ◌-◌, ◌^◌, min, ℤ, pos, length, Result, Ok, Err}
use Rattle.labelled_disk.specs.declared.disk.Disk.{Ghosts}
use Rattle.scavenger.specs.declared.report.Report.{Report as Found}
use Rattle.scavenger.specs.Reported.{lost_in}
use Rattle.embedded.specs.declared.code.Code.{Code}
use Rattle.embedded.specs.declared.engine.Engine.{Engine}
use Rattle.embedded.specs.Made.{Scavenges}
use Rattle.embedded.specs.Taking.{LetsGo}
use Rattle.pilot_c.specs.declared.answers.Report.{Report}
use Rattle.pilot_c.specs.Answers.{number_of}

-- there is an answer of which this is so, and this is its number
pub record IsNumberOf {T : Type 0} (P : Result T Code → Type 0) (number : ℤ) : Type 0 where
  pub answer : Result T Code
  pub answered : P answer
  pub number_is : number ≡ pos (number_of answer)

-- the numbers of what a restoration found
abbrev pub report_of : {A : Type 0} → Found A → Report
report_of found = record { files = found.files; pages = found.pages; freed = found.freed; lost = min (length (lost_in found)) (2 ^ 32 - 1) }

-- a report once this was answered, where another stood before
abbrev pub reported : {A : Type 0} → Report → Result (Found A) Code → Report
reported before (Ok found) = report_of found
reported before (Err e) = before

module _ {D A : Type 0} {G : Ghosts D} where
  -- so it is of an engine between and the answer, of which this is the number; and then the engine let its disk go
  pub record IsNumberAtEnd (P : Result (Unit {0}) Code → Engine D A G → Type 0) (number : ℤ) (new : Engine D A G) : Type 0 where
    pub answer : Result (Unit {0}) Code
    pub between : Engine D A G
    pub answered : P answer between
    pub gone : LetsGo between new
    pub number_is : number ≡ pos (number_of answer)

  -- a volume was to be restored, this is the number of the answer, and the report has what was found
  pub record HasReport (old : Engine D A G) (before : Report) (number : ℤ) (after : Report) (new : Engine D A G) : Type 0 where
    pub answer : Result (Found A) Code
    pub answered : Scavenges old answer new
    pub number_is : number ≡ pos (number_of answer)
    pub report_is : after ≡ reported before answer
