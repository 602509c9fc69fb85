-- Lines whose call is in form.
use Rattle.flat_machine.specs.Form.{IsInForm}
use Rattle.trace_io.specs.declared.progress.Line.{Line}
use Rattle.trace_io.specs.declared.progress.Line.TheVariants as line

abbrev pub GivesForm : Line → Type 0
GivesForm (line.Call c) = IsInForm c
GivesForm other = Unit {0}
