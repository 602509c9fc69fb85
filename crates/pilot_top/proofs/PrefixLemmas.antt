-- Lines that were read, and the machine after the last of a trace.
use Rattle.std.proofs.Common.{◌≡◌, ◌≢◌, inl, inr, ℕ, zero, suc, List, [], ◌∷◌, ◌++◌, length, Option, Some, None, refl, sym, ap, ◌∙◌, subst, append-nil}
use Rattle.std.proofs.lemmas.Bool.{true≢false}
use Rattle.std.proofs.lemmas.Option.{none-some, same_Some}
use Rattle.std.specs.Io.KnownBytes.{Consumes}
use Rattle.labelled_disk.specs.Sectors.{Sector}
use Rattle.labelled_disk.specs.State.{DiskState}
use Rattle.flat_machine.specs.declared.call.Call.TheVariants as call
use Rattle.flat_machine.specs.After.{TraceLine, after, next_line}
use Rattle.flat_machine.specs.Machine.{Machine}
use Rattle.flat_machine.specs.Next.{next}
use Rattle.trace_io.specs.Course.{HasRead, GoesOn}
use Rattle.trace_io.specs.Progress.{Progress}
use Rattle.trace_io.specs.Reading.{reading}
use Rattle.trace_io.specs.declared.progress.Stop.{Stop}
use Rattle.trace_io.specs.declared.progress.Stop.TheVariants as stop
use Rattle.trace_io.proofs.CourseLemmas.{HasRead-last, HasRead-end}
use Rattle.session_words.specs.StandsFor.{RevealsSettled}
use Rattle.pilot_engine.specs.Closing.{HasShut}
use Rattle.pilot_top.specs.Headline.{HasFilesAt}
use Rattle.pilot_top.specs.Turn.{EndsTrace}
use Rattle.pilot_top.specs.Waiting.{WaitsAt, WaitsLine}
use Rattle.pilot_top.specs.declared.turn.End.{End}
use Rattle.pilot_top.specs.declared.turn.End.TheVariants as end
use Rattle.pilot_top.proofs.PlaceLemmas.{files_end}
use Rattle.pilot_top.proofs.StagedLemmas.{after_then}
use Rattle.pilot_top.proofs.TopLemmas.{Going, last_of}

-- Lines that were read are the first ones of the trace.

-- whether or not the source is at its end
pub read_prefix : (x : List ℕ) (b : Option (List ℕ)) (p : Progress) (lines : List TraceLine) → HasRead (Some x) b p lines → (more : List TraceLine) × (reading x ≡ lines ++ more)
read_prefix x b p lines read = from b read.took p.stopped read.goes_on
  where
    from : (b : Option (List ℕ)) → Consumes (Some x) b read.bytes → (s : Option Stop) → GoesOn s (Some x) b p.taken p.limit read.bytes lines → (more : List TraceLine) × (reading x ≡ lines ++ more)
    from None took s goes = absurd took
    from (Some s) took None goes = (reading s, ap reading took ∙ goes.reads s)
    from (Some s) took (Some stop.End) goes = ([], goes.0.items_are ∙ sym (append-nil lines))
    from (Some s) took (Some stop.ReadFault) goes = absurd goes
    from (Some s) took (Some stop.Long) goes = absurd goes

-- Lines that don't wait.

one_waits_not : (m : Machine) (line : TraceLine) → (WaitsLine m line → ⊥) → (j : ℕ) → WaitsAt m (line ∷ []) j → ⊥
one_waits_not m line not zero waits = not (subst (WaitsLine m) (sym (same_Some line waits.0 waits.1)) waits.2)
one_waits_not m line not (suc j) waits = none-some waits.0 waits.1

no_halt_waits : (m : Machine) → WaitsLine m (Some call.Halt) → ⊥
no_halt_waits m (inl waiting, fits) = true≢false (sym waiting)
no_halt_waits m (inr closes, fits) = cc closes

pub halt_waits_not : (m : Machine) (j : ℕ) → WaitsAt m (Some call.Halt ∷ []) j → ⊥
halt_waits_not m = one_waits_not m (Some call.Halt) (no_halt_waits m)

-- The end of a trace.

-- the machine after the line that ends the trace
abbrev pub ended_by : Machine → End → Machine
ended_by m end.Close = next m call.Close
ended_by m end.Halt = next m call.Halt
ended_by m end.Trace = m

module _ (m : Machine) (x : List ℕ) (b t u : Option (List ℕ)) (p : Progress) (first now : Machine → Type 0) (going : Going (Some x) b t u p first now) where
  after_last : (line : TraceLine) → reading x ≡ going.lines ++ line ∷ [] → after m (reading x) (length (reading x)) ≡ next_line (last_of m going.lines) line
  after_last line are = ap (λ (l : List TraceLine). after m l (length l)) are ∙ after_then m going.lines (line ∷ [])

  -- the line that closes the session comes after those that were answered
  pub closed_tail : (c : Option (List ℕ)) (q : Progress) → EndsTrace end.Close b c p q → reading x ≡ going.lines ++ Some call.Close ∷ []
  closed_tail c q ended = let all = HasRead-last (Some x) b c p q going.lines (Some call.Close) going.read ended.0 ended.1 refl in all.items_are

  -- so does the line `halt`, and else none does
  pub halted_tail : (c : Option (List ℕ)) (q : Progress) → EndsTrace end.Halt b c p q → reading x ≡ going.lines ++ Some call.Halt ∷ []
  halted_tail c q ended = let all = HasRead-last (Some x) b c p q going.lines (Some call.Halt) going.read ended.0 ended.1 refl in all.items_are

  pub trace_tail : (c : Option (List ℕ)) (q : Progress) → EndsTrace end.Trace b c p q → reading x ≡ going.lines
  trace_tail c q (inl ended) = let all = HasRead-end (Some x) b c p going.lines going.read ended.0 ended.1 ended.2 ended.3 in all.items_are
  trace_tail c q (inr ended) = let all = rw ended.0 at going.read.goes_on in all.0.items_are

  pub End-after : (how : End) (c : Option (List ℕ)) (q : Progress) → EndsTrace how b c p q → after m (reading x) (length (reading x)) ≡ ended_by (last_of m going.lines) how
  End-after end.Close c q ended = after_last (Some call.Close) (closed_tail c q ended)
  End-after end.Halt c q ended = after_last (Some call.Halt) (halted_tail c q ended)
  End-after end.Trace c q ended = ap (λ (l : List TraceLine). after m l (length l)) (trace_tail c q ended)

  -- what an end of the session leaves
  module _ (disk : DiskState) (stop : (e : List Sector) → disk.contents ≡ Some e → RevealsSettled e (last_of m going.lines)) where
    reveals_end : (how : End) → (how ≢ end.Halt → HasShut (last_of m going.lines) disk) → (e : List Sector) → disk.contents ≡ Some e → RevealsSettled e (ended_by (last_of m going.lines) how)
    reveals_end end.Close shut e revealed =
        let is = shut (λ same. absurd (cc same)) in
        subst (λ (d : List Sector). RevealsSettled d (next (last_of m going.lines) call.Close)) (same_Some is.reveals.sectors e (sym is.reveals.revealed ∙ revealed)) is.reveals.shut.revealed
    reveals_end end.Halt shut e revealed = stop e revealed
    reveals_end end.Trace shut e revealed = stop e revealed

    pub End-has : (how : End) (c : Option (List ℕ)) (q : Progress) → EndsTrace how b c p q → (how ≢ end.Halt → HasShut (last_of m going.lines) disk) → HasFilesAt m (reading x) disk (length (reading x)) 0
    End-has how c q ended shut = files_end m (reading x) disk (λ e revealed. subst (RevealsSettled e) (sym (End-after how c q ended)) (reveals_end how shut e revealed))
