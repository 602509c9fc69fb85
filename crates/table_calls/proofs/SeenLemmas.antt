-- Calls where nothing is known but that the tables are revealed and in form.
use Rattle.std.proofs.Common.{ℕ, List, [], Option, Result, Ok, Err, refl}
use Rattle.std.specs.Prelude.{IfOk, IfErr, MatchResult}
use Rattle.std.proofs.lemmas.Option.{none-some}
use Rattle.labelled_disk.specs.declared.evidence.Halt.{Halt}
use Rattle.flat_machine.specs.declared.call.Refusal.{Refusal}
use Rattle.flat_machine.specs.declared.space.Space.{Space}
use Rattle.swap_units.specs.declared.interval.Interval.{Interval}
use Rattle.space_tables.specs.declared.error.SpaceError.{SpaceError}
use Rattle.space_tables.specs.declared.error.SpaceError.TheVariants.{Refused, Malformed, Mem}
use Rattle.space_tables.specs.Answer.{Answers, FromMemory, IfMem}
use Rattle.space_tables.specs.Form.{Breaks}
use Rattle.space_tables.specs.Stored.{RevealSpaces}
use Rattle.filer_kernel.proofs.Outcomes.{err_wider}
use Rattle.fault_core.specs.Lack.{Sees}
use Rattle.fault_core.specs.Reach.{ReachHalts, no_break}
use Rattle.fault_core.specs.NeverBlames.{NeverBlamesTables}
use Rattle.filer_kernel.specs.View.{View, TablesAre}
use Rattle.fault_core.proofs.NeverBlamesLemmas.{form_is_right, never_blames_revealed}
use Rattle.fault_core.proofs.RevealedLemmas.{spaces_in}
use Rattle.fault_core.proofs.TurnLemmas.{tables_halt}
use Rattle.table_calls.specs.Answers.{refused_or_halted, Changes, IsDone, TablesBreak}
use Rattle.table_calls.proofs.HaltingLemmas.{Accounted, IsWhole}

-- the tables are those of the spaces that are seen
pub seen_spaces : {v : View} {kept : List Interval} {count : ℕ} {ss : List Space} → Sees v kept count ss → RevealSpaces (TablesAre v) count ss
seen_spaces s = spaces_in _ _ _ s.bytes s.revealed s.tables

-- where the tables of spaces are revealed, and no interval is kept, they are seen
pub sees_revealed : {v : View} {count : ℕ} {ss : List Space} → RevealSpaces (TablesAre v) count ss → Sees v [] count ss
sees_revealed t = record {
  bytes = t.hold.bytes;
  revealed = t.hold.revealed;
  tables = record {
    slots = t.slots;
    xs = t.xs;
    hold = record { bytes = t.hold.bytes; revealed = refl; are = t.hold.are };
    right = t.right;
    counted = t.counted;
    spaces = t.spaces;
  };
  cached = λ x one. absurd (none-some x one.1);
}

module _ {A : Type 0} where
  -- what is so of the tables after a change
  pub changed : (r : Result A (SpaceError Halt)) (refusal : Option Refusal) (P Q : A → Type 0) (stays leaves : Type 0) → ((a : A) → P a → Q a) → (stays → leaves) → Answers refusal P stays r → IfOk (refused_or_halted r) (Changes refusal Q leaves)
  changed (Ok answer) refusal P Q stays leaves f g h = (h.0, f answer h.1)
  changed (Err (Refused word)) refusal P Q stays leaves f g h = (h.0, g h.1)
  changed (Err (Malformed page)) refusal P Q stays leaves f g h = tt
  changed (Err (Mem halt)) refusal P Q stays leaves f g h = tt

  -- no page is malformed, so none is reported as broken, nor as missing
  pub blameless : (r : Result A (SpaceError Halt)) {v : View} {b : List ℕ} (w : View) → TablesAre v b → IfErr r IsWhole → IfErr r (IfMem (Accounted v w)) → IfErr (refused_or_halted r) NeverBlamesTables
  blameless (Ok answer) w revealed right cause = tt
  blameless (Err (Refused word)) w revealed right cause = tt
  blameless (Err (Malformed page)) w revealed right cause = absurd right
  blameless (Err (Mem halt)) {v = v} w revealed right cause = never_blames_revealed revealed no_break (λ page none. absurd none) w halt (tables_halt v w no_break halt cause)

  -- nor where a page of them would break its form
  pub blameless_form : (r : Result (Result A Refusal) Halt) {v : View} {kept : List Interval} {count : ℕ} {ss : List Space} (w : View) → Sees v kept count ss → IfErr r (ReachHalts (TablesBreak v (Breaks count)) v w) → IfErr r NeverBlamesTables
  blameless_form r {v = v} {count = count} w s cause =
      err_wider r (ReachHalts (TablesBreak v (Breaks count)) v w) NeverBlamesTables
      (λ e halts. never_blames_revealed s.revealed (TablesBreak v (Breaks count)) (λ page breaks. form_is_right s.tables page (breaks s.bytes s.revealed)) w e halts) cause

-- where an error comes from the memory alone, an answer is no refusal
pub done_so : (r : Result (Unit {0}) (SpaceError Halt)) (X Y : Type 0) → (X → Y) → MatchResult r (λ _. X) FromMemory → IfOk (refused_or_halted r) (IsDone Y)
done_so (Ok answer) X Y f h = f h
done_so (Err (Refused word)) X Y f h = absurd h
done_so (Err (Malformed page)) X Y f h = tt
done_so (Err (Mem halt)) X Y f h = tt
