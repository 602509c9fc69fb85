-- What clients that were answered leave on the sink, in the source and on the disk, by the status.
use Rattle.std.specs.Prelude.{◌≡◌, ◌≢◌, ◌⊎◌, ◌+◌, ◌≤◌, ℕ, List, ◌++◌, flat_map, sum_by, if◌then◌else◌, Option, Some, None}
use Rattle.std.specs.Io.KnownBytes.{Appends}
use Rattle.labelled_disk.specs.Sectors.{Sector}
use Rattle.labelled_disk.specs.State.{DiskState}
use Rattle.labelled_disk.specs.declared.evidence.Evidence.{Evidence}
use Rattle.labelled_disk.specs.declared.evidence.Halt.{Halt}
use Rattle.labelled_disk.specs.declared.evidence.Halt.TheVariants as halt
use Rattle.labelled_disk.specs.declared.layout.RootFault.{RootFault}
use Rattle.flat_machine.specs.Machine.{Machine}
use Rattle.flat_machine.specs.References.{is_reference}
use Rattle.flight_core.specs.Carrying.{Carried}
use Rattle.flight_core.specs.Crowd.{Crowd, alone}
use Rattle.flight_core.specs.declared.pending.Pending.{Pending}
use Rattle.trace_io.specs.EventReading.{event_reading}
use Rattle.trace_io.specs.Stream.{IsPrefixOf}
use Rattle.client_events.specs.Answers.{Item, AnswersEach, AreTo}
use Rattle.client_events.specs.Carrying.{MayCarryEach}
use Rattle.client_events.specs.Dropped.{dropped_line, waiting_clients}
use Rattle.client_events.specs.Ending.{Ended}
use Rattle.client_events.specs.Outcome.{Outcome}
use Rattle.client_events.specs.declared.ending.Ending.{Ending}
use Rattle.client_events.specs.declared.ending.Ending.TheVariants as ending
use Rattle.session_words.specs.StandsFor.{RevealsSettled}
use Rattle.running_words.specs.Bound.{other_bound}
use Rattle.pilot_engine.specs.Closing.{HasShut}
use Rattle.pilot_engine.specs.Leading.{call_of, reference_bound}
use Rattle.pilot_top.specs.Ending.{end_text}
use Rattle.pilot_top.specs.Headline.{HasWritten, IsLeftOpen}
use Rattle.pilot_top.specs.Last.{last_line, Puts}
use Rattle.pilot_top.specs.declared.last.Cause.TheVariants as cause
use Rattle.pilot_top.specs.declared.status.Status.{Status}
use Rattle.pilot_top.specs.declared.status.Status.TheVariants as status
use Rattle.pilot_top.specs.declared.turn.End.{End}
use Rattle.pilot_top.specs.declared.turn.End.TheVariants as end

-- how the session ends where the events do, if it does
abbrev pub end_of : Ending → Option End
end_of ending.Close = Some end.Close
end_of ending.Halt = Some end.Halt
end_of ending.End = Some end.Trace
end_of how = None

-- a line for each of these clients, that its reference is dropped, and the reply to the line that ended the events
abbrev pub end_lines : List ℕ → End → List ℕ
end_lines clients how = flat_map dropped_line clients ++ end_text how

-- an event halted so, or the end of the session did
abbrev pub StoppedBy : Ending → Halt → Type 0
StoppedBy how why = (how ≡ ending.Halted why) ⊎ (how ≡ ending.Close) ⊎ (how ≡ ending.End)

-- What the sink took after the lines of the events, by the status, where these clients waited. `failed` says that the sink
-- failed, and `shown` of evidence that the disk has it, and for a reason.
abbrev pub Follows : Status → Ending → List ℕ → Option (List ℕ) → Option (List ℕ) → Type 0 → (Evidence → Type 0) → Type 0
-- the lines of those who are dropped, and the reply
Follows status.Done how clients old new failed shown = (e : End) × (end_of how ≡ Some e) × Appends old new (end_lines clients e)
-- nothing, as source or sink failed before; or a prefix of these lines
Follows status.StreamFault how clients old new failed shown =
    (((how ≡ ending.ReadFault) ⊎ ((how ≡ ending.SinkFault) × failed)) × (new ≡ old))
    ⊎ (failed × (e : End) × (end_of how ≡ Some e) × (prefix : List ℕ) × IsPrefixOf prefix (end_lines clients e) × Appends old new prefix)
-- the line that says why it stopped
Follows status.Long how clients old new failed shown = (how ≡ ending.Long) × Puts failed old new (last_line cause.Long)
Follows status.DiskFault how clients old new failed shown = StoppedBy how halt.Disk × Puts failed old new (last_line cause.DiskFault)
Follows status.Damaged how clients old new failed shown =
    (e : Evidence) × StoppedBy how (halt.Damaged e) × shown e × Puts failed old new (last_line (cause.Damaged e))
Follows other how clients old new failed shown = ⊥

-- Events of a source with the bytes b were answered to a sink with the bytes t, and the session was ended, or it stopped: how the
-- events ended, what the sink had then, and what it took after that. `each` holds of the lines that were carried out, with what
-- came of them; `halted` of those before one that halted, and of that one.
pub record HasAnswered (s : Status) (waiting : List Pending) (b : List ℕ) (left : Option (List ℕ)) (t : List ℕ) (took : Option (List ℕ)) (failed : Type 0) (shown : Evidence → Type 0)
    (each : List Item → List Outcome → Type 0) (halted : Halt → List Item → Item → List Outcome → Type 0) : Type 0 where
  pub how : Ending
  pub mid : Option (List ℕ)
  pub ended : Ended how b left t mid each halted
  pub follows : Follows s how (waiting_clients waiting) mid took failed shown

-- the session was left before its end
abbrev pub IsLeft : Ending → Type 0
IsLeft ending.Close = ⊥
IsLeft ending.End = ⊥
IsLeft how = Unit {0}

-- whatever is stood for: the outcomes suit the lines, and `unset` holds where the session was left
abbrev pub AnswersEvents : Status → List ℕ → Option (List ℕ) → List ℕ → Option (List ℕ) → Type 0 → (Evidence → Type 0) → Type 0 → Type 0
AnswersEvents s b left t took failed shown unset =
    (waiting : List Pending) × (answered : HasAnswered s waiting b left t took failed shown AreTo (λ why items item os. AreTo items os)) × (IsLeft answered.how → unset)

-- the disk reveals the settled files of the machine
abbrev pub HasFiles : Machine → DiskState → Type 0
HasFiles m disk = (d : List Sector) → disk.contents ≡ Some d → RevealsSettled d m

-- what the disk has by how the events ended, where it did not fail: it is closed, sound and on the medium, or left open
abbrev pub Keeps : Ending → Machine → DiskState → Type 0
Keeps ending.Close m disk = HasShut m disk
Keeps ending.End m disk = HasShut m disk
Keeps how m disk = HasFiles m disk × IsLeftOpen disk

-- The machine m was stood for: the lines that were carried out are a run of the crowd that begins with it, each with its outcome;
-- those who wait then are dropped; and the disk has the files of the crowd's machine.
pub record AnswersCrowd (s : Status) (m : Machine) (b : List ℕ) (left : Option (List ℕ)) (t : List ℕ) (took : Option (List ℕ)) (failed : Type 0) (disk : DiskState) : Type 0 where
  pub crowd : Crowd
  pub answered : HasAnswered s crowd.waiting b left t took failed (λ e. ⊥) (λ items os. AnswersEach (alone m) items os crowd) (λ why items item os. AnswersEach (alone m) items os crowd)
  pub keeps : s ≢ status.DiskFault → Keeps answered.how crowd.machine disk

-- how many transfers a call may make on a disk of n sectors, whether it is tried or carried out
abbrev pub carried_bound : ℕ → Carried → ℕ
carried_bound n one = if is_reference (call_of one) then reference_bound one else other_bound n

-- So many transfers at most, and those of calls that may be carried out for some first lines of the source's text.
pub record CostsEvents (b : List ℕ) (least : ℕ) (old new : DiskState) : Type 0 where
  pub items : List Item
  pub more : List Item
  pub first : event_reading b ≡ items ++ more
  pub calls : List Carried
  pub may : MayCarryEach items calls
  pub most : new.transfers ≤ old.transfers + (least + sum_by (carried_bound old.sectors) calls)

-- nothing was taken from the source, and this line alone was written
abbrev pub StopsAtOnce : List ℕ → Option (List ℕ) → List ℕ → Option (List ℕ) → Type 0 → List ℕ → Type 0
StopsAtOnce b left t took failed line = (left ≡ Some b) × HasWritten failed t took line

-- The disk had a sound volume for which the machine m stands.
abbrev pub Processes : Status → Machine → List ℕ → Option (List ℕ) → List ℕ → Option (List ℕ) → Type 0 → DiskState → Type 0
-- a sound volume is not refused
Processes status.NotOpened m b left t took failed disk = ⊥
-- nothing was taken, and nothing was written
Processes status.NoMemory m b left t took failed disk = (left ≡ Some b) × (took ≡ Some t)
-- no session started, or one did
Processes status.DiskFault m b left t took failed disk =
    StopsAtOnce b left t took failed (last_line cause.DiskFault) ⊎ AnswersCrowd status.DiskFault m b left t took failed disk
Processes s m b left t took failed disk = AnswersCrowd s m b left t took failed disk

-- Whatever the disk holds; `unset` says that it is left open.
abbrev pub RepliesToClients : Status → List ℕ → Option (List ℕ) → List ℕ → Option (List ℕ) → Type 0 → (Evidence → Type 0) → Type 0 → Type 0
RepliesToClients status.NotOpened b left t took failed shown unset = (why : RootFault) × StopsAtOnce b left t took failed (last_line (cause.Root why))
RepliesToClients status.NoMemory b left t took failed shown unset = (left ≡ Some b) × (took ≡ Some t)
RepliesToClients status.DiskFault b left t took failed shown unset =
    StopsAtOnce b left t took failed (last_line cause.DiskFault) ⊎ AnswersEvents status.DiskFault b left t took failed shown unset
RepliesToClients status.Damaged b left t took failed shown unset =
    ((e : Evidence) × shown e × StopsAtOnce b left t took failed (last_line (cause.Damaged e))) ⊎ AnswersEvents status.Damaged b left t took failed shown unset
RepliesToClients s b left t took failed shown unset = AnswersEvents s b left t took failed shown unset
