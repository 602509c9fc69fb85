-- A run, turn by turn, with what it wrote to the disk.
use Rattle.std.proofs.Common.{◌≡◌, inl, ℕ, suc, ◌+◌, ◌≤◌, false, List, [], ◌∷◌, ◌++◌, length, Option, Some, None, refl, sym, subst, arith, append-nil, length-append}
use Rattle.std.specs.Io.KnownBytes.{Appends}
use Rattle.labelled_disk.specs.Calls.{RevealsSame}
use Rattle.labelled_disk.specs.Sectors.{Sector}
use Rattle.labelled_disk.specs.State.{DiskState}
use Rattle.flat_machine.specs.declared.call.Reply.{Reply}
use Rattle.flat_machine.specs.declared.call.Call.TheVariants.{Close}
use Rattle.flat_machine.specs.After.{TraceLine, next_line}
use Rattle.flat_machine.specs.Machine.{Machine}
use Rattle.flat_machine.specs.Text.{text}
use Rattle.swapper_kernel.specs.Goes.{Went}
use Rattle.trace_io.specs.Course.{HasRead}
use Rattle.trace_io.specs.Lines.{TakesLine}
use Rattle.trace_io.specs.Progress.{Progress}
use Rattle.trace_io.specs.Reading.{is_last, reading}
use Rattle.trace_io.proofs.CourseLemmas.{HasRead-line}
use Rattle.running_words.specs.Bound.{CostsOther}
use Rattle.pilot_engine.specs.Closing.{HasShut, IsStop, Throughout}
use Rattle.pilot_top.specs.Headline.{CostsLine, CostsLines, HasFilesAt, LeadsTo}
use Rattle.pilot_top.specs.CrashStates.{CrashStates, IsCrashState, LineCrashStates, Openly}
use Rattle.pilot_top.specs.Parts.{InParts, LineWrote, PartMay}
use Rattle.pilot_top.specs.Turn.{Answers}
use Rattle.pilot_top.specs.Waiting.{HasWaited, IsBrought, WaitsAt}
use Rattle.pilot_top.proofs.AlongLemmas.{by_itself}
use Rattle.pilot_top.proofs.CostLemmas.{Spends, end_spends, prefix_spends, more_cost, none_cost}
use Rattle.pilot_top.proofs.LineParts.{parts_line, parts_of_trace}
use Rattle.pilot_top.proofs.PartLemmas.{parts_none}
use Rattle.pilot_top.proofs.PrefixLemmas.{read_prefix}
use Rattle.pilot_top.proofs.PermittedRuns.{openly_then}
use Rattle.pilot_top.proofs.PlaceLemmas.{leads_after, leads_before}
use Rattle.pilot_top.proofs.StagedLemmas.{from_end, crash_states_before, crash_states_then, line_close, line_whole, shut_revealed}
use Rattle.pilot_top.proofs.OwnLemmas.{AreAllOfLines}
use Rattle.pilot_top.proofs.WaitedLemmas.{HasAnswered, HasLastSync, Reached, answered_before, answered_later, answered_none, answered_then, ended_then, line_reached, reached_all, waited_later}
use Rattle.pilot_top.proofs.TopLemmas.{Going, Going-start, Going-reply, last_of, reply_lines}

-- what one line has written, and what it cost
abbrev pub Made : Type 0 → (Machine → Type 0) → TraceLine → DiskState → DiskState → Type 0
Made going now line mid new = (m : Machine) → now m → LineCrashStates m line mid new × CostsLine line mid new × (going → IsBrought m line new)

-- the disk of a session after a line, which stands for such machines then
pub record Holds (then : Machine → Type 0) (mid new : DiskState) : Type 0 where
  pub went : Went mid new
  pub has_sync : HasLastSync new
  pub here : (m : Machine) → then m → (d : List Sector) → new.contents ≡ Some d → IsCrashState m [] 0 0 d

-- So many lines are answered, and these are the crash states of what was written in them, and what they cost.
pub record Turned (a c t u : Option (List ℕ)) (p : Progress) (first now : Machine → Type 0) (old new : DiskState) : Type 0 where
  pub going : Going a c t u p first now
  pub along : (m : Machine) → first m → HasAnswered m going.lines old new
  pub cost : (m : Machine) → first m → CostsLines going.lines old new
  pub permitted : Openly old new
  pub parts : InParts (PartMay going.lines) (length going.lines) old new

pub Turned-start : (a t : Option (List ℕ)) (p : Progress) (first : Machine → Type 0) (disk : DiskState) → p.taken ≡ 0 → p.stopped ≡ None → ((m : Machine) → first m → (d : List Sector) → disk.contents ≡ Some d → IsCrashState m [] 0 0 d) → Openly disk disk
    → Turned a a t t p first first disk disk
Turned-start a t p first disk none stopped along permitted = record {
  going = Going-start a t p first none stopped;
  along = λ m is. answered_none m (along m is);
  cost = λ m is. none_cost disk;
  permitted = permitted;
  parts = parts_none (PartMay []) 0 (record { contents = refl; writes = refl });
}

module _ {a b t u : Option (List ℕ)} {p : Progress} {first now : Machine → Type 0} {old mid : DiskState} (turned : Turned a b t u p first now old mid) where
  -- what one line more has written
  pub more_crash_states : {going : Type 0} {new : DiskState} {line : TraceLine} → Made going now line mid new → (m : Machine) → first m → CrashStates m (turned.going.lines ++ line ∷ []) old new
  more_crash_states {line = line} made m is = crash_states_then m turned.going.lines (line ∷ []) (turned.along m is).0 (line_whole (last_of m turned.going.lines) line (made (last_of m turned.going.lines) (turned.going.stands m is)).0)

  -- what was waited for was so also later
  pub still_waited : (m : Machine) (is : first m) {new : DiskState} → Went mid new → HasWaited m turned.going.lines (length turned.going.lines) (turned.along m is).0.writes (turned.along m is).0.line old new
  still_waited m is went = waited_later m turned.going.lines (length turned.going.lines) (turned.along m is).0.writes (turned.along m is).0.line old went (turned.along m is).1

  -- and where it was answered, what was waited for
  pub more_answered : {then : Machine → Type 0} {new : DiskState} {line : TraceLine} {r : Reply} → Holds then mid new → Answers now then line r → is_last line ≡ false → Made (Unit {0}) now line mid new → LineWrote line mid new
      → (m : Machine) → first m → HasAnswered m (turned.going.lines ++ line ∷ []) old new
  more_answered {line = line} holds answers goes made wrote m is =
      let last = last_of m turned.going.lines in
      let stands = turned.going.stands m is in
      answered_then m turned.going.lines (line ∷ []) holds.went (turned.along m is)
      (line_reached last line (made last stands).0 (holds.here (next_line last line) (answers.next last stands goes)) holds.has_sync ((made last stands).2 tt) wrote)

  -- what the session's end has
  pub ended_reached : (m : Machine) → first m → {new : DiskState} → Went mid new → Throughout (IsStop (last_of m turned.going.lines)) mid new → Reached m turned.going.lines old new
  ended_reached m is {new = new} went stops =
      subst (λ (all : List TraceLine). Reached m all old new) (append-nil turned.going.lines) (ended_then m turned.going.lines went (turned.along m is) (from_end (last_of m turned.going.lines) stops))

  -- and where a line `close` ended it, that line was waited for
  pub closed_reached : (m : Machine) → first m → {new : DiskState} → Went mid new → HasLastSync new → LineWrote (Some Close) mid new → HasShut (last_of m turned.going.lines) new → Throughout (IsStop (last_of m turned.going.lines)) mid new
      → Reached m (turned.going.lines ++ Some Close ∷ []) old new
  closed_reached m is went has_sync wrote shut stops =
      let last = last_of m turned.going.lines in
      reached_all m (turned.going.lines ++ Some Close ∷ [])
      (answered_then m turned.going.lines (Some Close ∷ []) went (turned.along m is) (line_reached last (Some Close) (line_close last stops) (shut_revealed last shut) has_sync (λ waiting. shut.synced) wrote))

  -- and where it was left as it stood, by a line that wrote nothing
  pub left_reached : (m : Machine) → first m → {new : DiskState} (tail : List TraceLine) → RevealsSame mid new → Went mid new → ((j : ℕ) → WaitsAt (last_of m turned.going.lines) tail j → ⊥) → Reached m (turned.going.lines ++ tail) old new
  left_reached m is tail same went none =
      reached_all m (turned.going.lines ++ tail) (answered_before m turned.going.lines tail none (answered_later m turned.going.lines same went (turned.along m is)))

  pub ended_crash_states : (m : Machine) → first m → {new : DiskState} → Throughout (IsStop (last_of m turned.going.lines)) mid new → CrashStates m turned.going.lines old new
  ended_crash_states m is {new = new} stops =
      subst (λ (all : List TraceLine). CrashStates m all old new) (append-nil turned.going.lines) (crash_states_then m turned.going.lines [] (turned.along m is).0 (from_end (last_of m turned.going.lines) stops))

  -- what a line more has cost
  pub more_costs : {going : Type 0} {new : DiskState} {line : TraceLine} → mid.sectors ≡ old.sectors → Made going now line mid new → (m : Machine) → first m → CostsLines (turned.going.lines ++ line ∷ []) old new
  more_costs {new = new} {line = line} same made m is = more_cost turned.going.lines line old mid new same (turned.cost m is) (made (last_of m turned.going.lines) (turned.going.stands m is)).1

  -- a line was answered, and others follow
  pub Turned-reply : {c v : Option (List ℕ)} {q : Progress} {then : Machine → Type 0} {new : DiskState} {line : TraceLine} {r : Reply} → mid.sectors ≡ old.sectors → p.stopped ≡ None → TakesLine line b c p q → Answers now then line r
      → is_last line ≡ false → Holds then mid new → Made (Unit {0}) now line mid new → LineWrote line mid new → Openly mid new → Appends u v (text r) → Turned a c t v q first then old new
  Turned-reply {c = c} {v = v} {q = q} {then = then} {new = new} {line = line} {r = r} same none takes answers goes holds made written permitted wrote = record {
    going = Going-reply a b t u p first now turned.going c v q then line r none takes answers goes wrote;
    along = subst (λ (lines : List TraceLine). (m : Machine) → first m → HasAnswered m lines old new) (sym (reply_lines a b t u p first now turned.going c v q then line r none takes answers goes wrote))
        (more_answered holds answers goes made written);
    cost = subst (λ (lines : List TraceLine). (m : Machine) → first m → CostsLines lines old new) (sym (reply_lines a b t u p first now turned.going c v q then line r none takes answers goes wrote))
        (more_costs same made);
    permitted = openly_then turned.permitted permitted;
    parts = subst (λ (lines : List TraceLine). InParts (PartMay lines) (length lines) old new) (sym (reply_lines a b t u p first now turned.going c v q then line r none takes answers goes wrote))
        (parts_line turned.going.lines line turned.parts written);
  }

  -- where the source reveals its bytes, and the sink
  pub Turned-source : {x : List ℕ} → a ≡ Some x → Turned (Some x) b t u p first now old mid
  Turned-source source = subst (λ r. Turned r b t u p first now old mid) source turned

  pub Turned-revealed : {x y : List ℕ} → a ≡ Some x → t ≡ Some y → Turned (Some x) b (Some y) u p first now old mid
  Turned-revealed {x = x} source sink = subst (λ s. Turned (Some x) b s u p first now old mid) sink (Turned-source source)

-- for the same session under another name
pub Turned-same : {S : Type 0} (disk : S → DiskState) (stands : S → Machine → Type 0) {s r : S} {a b t u : Option (List ℕ)} {p : Progress} {first : Machine → Type 0} {old : DiskState} → r ≡ s
    → Turned a b t u p first (stands s) old (disk s) → Turned a b t u p first (stands r) old (disk r)
Turned-same disk stands {a = a} {b = b} {t = t} {u = u} {p = p} {first = first} {old = old} same turned = subst (λ z. Turned a b t u p first (stands z) old (disk z)) (sym same) turned

-- The whole trace.

module _ (m : Machine) {x : List ℕ} {c : Option (List ℕ)} {q : Progress} {lines : List TraceLine} (read : HasRead (Some x) c q lines) where
  pub of_reading : {old new : DiskState} → CrashStates m lines old new → CrashStates m (reading x) old new
  of_reading {old = old} {new = new} on =
      let prefix = read_prefix x c q lines read in
      subst (λ (all : List TraceLine). CrashStates m all old new) (sym prefix.1) (crash_states_before m lines prefix.0 on)

  pub spends_reading : (old new : DiskState) → CostsLines lines old new → Spends (reading x) old new
  spends_reading old new cost = let prefix = read_prefix x c q lines read in prefix_spends lines prefix.0 (reading x) old new prefix.1 cost

  pub end_spends_reading : (old mid new : DiskState) → mid.sectors ≡ old.sectors → CostsLines lines old mid → CostsOther mid new → Spends (reading x) old new
  end_spends_reading old mid new same cost last = let prefix = read_prefix x c q lines read in end_spends lines prefix.0 (reading x) old mid new prefix.1 same cost last

  -- all lines that were read are answered
  pub leads_of_reading : {old new : DiskState} → HasFilesAt m lines new (length lines) 0 → Reached m lines old new → LeadsTo m (reading x) old new (length lines) 0
  leads_of_reading {old = old} {new = new} has on =
      let prefix = read_prefix x c q lines read in
      subst (λ (all : List TraceLine). LeadsTo m all old new (length lines) 0) (sym prefix.1) (leads_before m lines prefix.0 (length lines) 0 (by_itself (length lines) 0) (has, on.0, on.1, on.2))

-- a line was begun after these
pub leads_of_begun : (m : Machine) {x : List ℕ} {c : Option (List ℕ)} {q : Progress} (lines : List TraceLine) (line : TraceLine) → HasRead (Some x) c q (lines ++ line ∷ []) → {old mid new : DiskState} (on : CrashStates m lines old mid) → HasWaited m lines (length lines) on.writes on.line old new → AreAllOfLines lines on.writes on.line old → (i : ℕ)
    → LeadsTo (last_of m lines) (line ∷ []) mid new 0 i → LeadsTo m (reading x) old new (length lines) i
leads_of_begun m {x = x} {c = c} {q = q} lines line read {old = old} {new = new} on early all i leads =
    let prefix = read_prefix x c q (lines ++ line ∷ []) read in
    let here : LeadsTo m (lines ++ line ∷ []) old new (length lines + 0) i = leads_after m lines (line ∷ []) 0 i on leads refl early all in
    let there : LeadsTo m (lines ++ line ∷ []) old new (length lines) i = subst (λ (k : ℕ). LeadsTo m (lines ++ line ∷ []) old new k i) (omega arith) here in
    subst (λ (all : List TraceLine). LeadsTo m all old new (length lines) i) (sym prefix.1)
    (leads_before m (lines ++ line ∷ []) prefix.0 (length lines) i (inl (omega (arith, length-append lines (line ∷ [])))) there)

-- The parts of the whole trace.

module _ {x : List ℕ} {b t u : Option (List ℕ)} {p : Progress} {first now : Machine → Type 0} {old mid : DiskState} (turned : Turned (Some x) b t u p first now old mid) where
  -- nothing was written since the last reply
  pub still_parts : (last : ℕ) → length turned.going.lines ≤ last → InParts (PartMay (reading x)) last old mid
  still_parts last le = let prefix = read_prefix x b p turned.going.lines turned.going.read in parts_of_trace turned.going.lines prefix.0 (reading x) last prefix.1 le turned.parts

  -- one line more was read
  pub line_parts : {c : Option (List ℕ)} {q : Progress} {line : TraceLine} {new : DiskState} → p.stopped ≡ None → TakesLine line b c p q → is_last line ≡ false → LineWrote line mid new
      → InParts (PartMay (reading x)) (suc (length turned.going.lines)) old new
  line_parts {c = c} {q = q} {line = line} {new = new} none takes goes wrote =
      let lines = turned.going.lines in
      let read = HasRead-line (Some x) b c p q lines line turned.going.read none takes goes in
      let prefix = read_prefix x c q (lines ++ line ∷ []) read in
      parts_of_trace (lines ++ line ∷ []) prefix.0 (reading x) (suc (length lines)) prefix.1 (let e = length-append lines (line ∷ []) in omega (arith, e)) (parts_line lines line turned.parts wrote)
