-- What the tables answered is what a call over a core answers.
use Rattle.std.proofs.Common.{◌≡◌, ℕ, List, Option, Result, Ok, Err, refl, inr}
use Rattle.std.specs.Prelude.{IfOk, IfErr, MatchResult}
use Rattle.labelled_disk.specs.declared.evidence.Halt.{Halt}
use Rattle.labelled_disk.specs.declared.evidence.Halt.TheVariants.{Disk}
use Rattle.labelled_disk.specs.Sectors.{Sector}
use Rattle.file_map.specs.FileMap.{Triples}
use Rattle.flat_machine.specs.declared.call.Refusal.{Refusal}
use Rattle.flat_machine.specs.declared.space.Space.{Space}
use Rattle.swap_units.specs.declared.interval.Interval.{Interval}
use Rattle.space_tables.specs.declared.error.SpaceError.{SpaceError}
use Rattle.space_tables.specs.declared.error.SpaceError.TheVariants.{Refused, Malformed, Mem}
use Rattle.space_tables.specs.Answer.{FromMemory, IfMem, IfMalformed, Answers}
use Rattle.space_tables.specs.Stored.{RevealSpaces}
use Rattle.filer_kernel.specs.Tables.{IsTableAccounted}
use Rattle.filer_kernel.specs.View.{View, TablesAre}
use Rattle.fault_core.specs.Reach.{ReachHalts}
use Rattle.fault_core.specs.Revealed.{Revealed}
use Rattle.fault_core.proofs.RevealedLemmas.{spaces_in, tables_revealed}
use Rattle.fault_core.proofs.TurnLemmas.{tables_halt}
use Rattle.table_calls.specs.Answers.{refused_or_halted, Changes, IfGiven, IsDone, TablesBreak, TablesSay}

-- an error of the memory that these states account for
abbrev pub Accounted : View → View → Halt → Type 0
Accounted v w halt = IsTableAccounted v.disk v.slots v.layout v.runs w.disk halt

-- no page is malformed
abbrev pub IsWhole : SpaceError Halt → Type 0
IsWhole (Refused word) = Unit {0}
IsWhole (Malformed page) = ⊥
IsWhole (Mem halt) = Unit {0}

module _ {A : Type 0} where
  pub answered : (r : Result A (SpaceError Halt)) (refusal : Option Refusal) (P : A → Type 0) (stays : Type 0) → Answers refusal P stays r → IfOk (refused_or_halted r) (Changes refusal P stays)
  answered (Ok answer) refusal P stays h = h
  answered (Err (Refused word)) refusal P stays h = h
  answered (Err (Malformed page)) refusal P stays h = tt
  answered (Err (Mem halt)) refusal P stays h = tt

  pub given : (r : Result A (SpaceError Halt)) (P : A → Type 0) → IfOk r P → IfOk (refused_or_halted r) (IfGiven P)
  given (Ok answer) P h = h
  given (Err (Refused word)) P h = tt
  given (Err (Malformed page)) P h = tt
  given (Err (Mem halt)) P h = tt

  -- what the tables say of each answer
  pub read_from : (r : Result A (SpaceError Halt)) (v : View) (says : List ℕ → A → Type 0) → ((b : List ℕ) → TablesAre v b → IfOk r (says b)) → IfOk (refused_or_halted r) (IfGiven (TablesSay v says))
  read_from (Ok answer) v says h = h
  read_from (Err (Refused word)) v says h = tt
  read_from (Err (Malformed page)) v says h = tt
  read_from (Err (Mem halt)) v says h = tt

  pub halted : (r : Result A (SpaceError Halt)) (v w : View) (breaks : List ℕ → ℕ → Type 0) → ((b : List ℕ) → TablesAre v b → IfErr r (IfMalformed (breaks b))) → IfErr r (IfMem (Accounted v w))
      → IfErr (refused_or_halted r) (ReachHalts (TablesBreak v breaks) v w)
  halted (Ok answer) v w breaks malformed cause = tt
  halted (Err (Refused word)) v w breaks malformed cause = tt
  halted (Err (Malformed page)) v w breaks malformed cause = inr (refl, malformed)
  halted (Err (Mem halt)) v w breaks malformed cause = tables_halt v w (TablesBreak v breaks) halt cause

  pub whole : (r : Result A (SpaceError Halt)) (refusal : Option Refusal) (P : A → Type 0) (stays : Type 0) → Answers refusal P stays r → IfErr r IsWhole
  whole (Ok answer) refusal P stays h = tt
  whole (Err (Refused word)) refusal P stays h = tt
  whole (Err (Malformed page)) refusal P stays h = absurd h
  whole (Err (Mem halt)) refusal P stays h = tt

  pub from_memory : (r : Result A (SpaceError Halt)) → IfErr r FromMemory → IfErr r IsWhole
  from_memory (Ok answer) h = tt
  from_memory (Err (Refused word)) h = tt
  from_memory (Err (Malformed page)) h = absurd h
  from_memory (Err (Mem halt)) h = tt

  -- where the tables are those of spaces, no page is malformed
  pub sound : (r : Result A (SpaceError Halt)) {v : View} (w : View) {kept : List Interval} {count : ℕ} {m : List Sector} {named : Triples} {ss : List Space}
      → Revealed v kept count m named ss → IfErr r IsWhole → IfErr r (IfMem (Accounted v w)) → IfErr (refused_or_halted r) (λ e. e ≡ Disk)
  sound (Ok answer) w knows right cause = tt
  sound (Err (Refused word)) w knows right cause = tt
  sound (Err (Malformed page)) w knows right cause = absurd right
  sound (Err (Mem halt)) w knows right cause = cause.sound _ _ knows.known.stands knows.known.map_labels (tables_revealed knows)

-- the tables are those of the spaces that are known
pub known_spaces : {v : View} {kept : List Interval} {count : ℕ} {m : List Sector} {named : Triples} {ss : List Space} → Revealed v kept count m named ss → RevealSpaces (TablesAre v) count ss
known_spaces knows = spaces_in _ _ _ knows.bytes (tables_revealed knows) knows.tables

-- where an error comes from the memory alone, an answer is no refusal
pub done : (r : Result (Unit {0}) (SpaceError Halt)) (X : Type 0) → MatchResult r (λ _. X) FromMemory → IfOk (refused_or_halted r) (IsDone X)
done (Ok answer) X h = h
done (Err (Refused word)) X h = absurd h
done (Err (Malformed page)) X h = tt
done (Err (Mem halt)) X h = tt

pub right : (r : Result (Unit {0}) (SpaceError Halt)) (X : Type 0) → MatchResult r (λ _. X) FromMemory → IfErr r FromMemory
right (Ok answer) X h = tt
right (Err why) X h = h
