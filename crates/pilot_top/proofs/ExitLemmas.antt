-- The ways out of a run, with what it wrote.
use Rattle.std.proofs.Common.{◌≡◌, ◌≢◌, ◌⊎◌, inl, inr, ℕ, ◌<◌, true, false, List, [], ◌∷◌, ◌++◌, length, Option, Some, None, refl, sym, ap, ◌∙◌, subst, arith, length-append}
use Rattle.labelled_disk.specs.Calls.{RevealsSame}
use Rattle.labelled_disk.specs.Sectors.{Sector}
use Rattle.labelled_disk.specs.State.{DiskState}
use Rattle.labelled_disk.specs.declared.evidence.Evidence.{Evidence}
use Rattle.labelled_disk.specs.declared.evidence.Halt.{Halt}
use Rattle.labelled_disk.specs.declared.evidence.Halt.TheVariants as halt
use Rattle.frame_pool.specs.Frames.{Slots}
use Rattle.flat_machine.specs.declared.call.Call.TheVariants as call
use Rattle.flat_machine.specs.declared.call.Reply.{Reply}
use Rattle.flat_machine.specs.After.{TraceLine, after}
use Rattle.flat_machine.specs.Machine.{Machine}
use Rattle.swapper_kernel.specs.Goes.{Went}
use Rattle.trace_io.specs.Course.{HasRead}
use Rattle.trace_io.specs.Lines.{TakesLine}
use Rattle.trace_io.specs.Progress.{Progress}
use Rattle.trace_io.specs.Reading.{is_last, reading, rest_of}
use Rattle.trace_io.proofs.CourseLemmas.{HasRead-line}
use Rattle.session_words.specs.StandsFor.{RevealsSettled}
use Rattle.volume_root.specs.declared.root.Root.{Root}
use Rattle.running_words.specs.Bound.{CostsOther}
use Rattle.pilot_engine.specs.Closing.{HasShut, IsStop, Throughout, WroteOn}
use Rattle.pilot_top.specs.Ending.{closes, halts}
use Rattle.pilot_top.specs.Headline.{LeadsTo}
use Rattle.pilot_top.specs.CrashStates.{CrashStates}
use Rattle.pilot_top.specs.Parts.{LineWrote}
use Rattle.pilot_top.specs.Stopping.{status_of}
use Rattle.pilot_top.specs.Turn.{Answers, EndsTrace}
use Rattle.pilot_top.specs.declared.status.Status.{Status}
use Rattle.pilot_top.specs.declared.status.Status.TheVariants as status
use Rattle.pilot_top.specs.declared.turn.End.{End}
use Rattle.pilot_top.specs.declared.turn.End.TheVariants as end
use Rattle.pilot_top.proofs.ClosedTwice.{shut_again}
use Rattle.pilot_top.proofs.CostLemmas.{Spends}
use Rattle.pilot_top.proofs.EndLemmas.{End-halts, End-closes}
use Rattle.pilot_top.proofs.OwnLemmas.{close_wrote}
use Rattle.pilot_top.proofs.PrefixLemmas.{End-after, End-has, closed_tail, ended_by, halt_waits_not, halted_tail, trace_tail}
use Rattle.pilot_top.proofs.PlaceLemmas.{files_end, line_leads, stop_revealed}
use Rattle.pilot_top.proofs.RestLemmas.{not_closed}
use Rattle.pilot_top.proofs.StagedLemmas.{after_then}
use Rattle.pilot_top.proofs.WaitedLemmas.{HasLastSync, Reached, reached_all}
use Rattle.pilot_top.proofs.TopLemmas.{last_of, none-push}
use Rattle.pilot_top.proofs.TurnedLemmas.{Holds, Made, Turned, closed_reached, ended_crash_states, ended_reached, left_reached, more_answered, more_costs, more_crash_states, of_reading, spends_reading, end_spends_reading, leads_of_begun, leads_of_reading, still_waited}

-- no session that stopped is done, or was stopped by a stream
pub halt_not_done : (why : Halt) (s : Status) → s ≡ status_of why → s ≢ status.Done
halt_not_done halt.Disk s is done = absurd (cc (is, done))
halt_not_done (halt.Damaged e) s is done = absurd (cc (is, done))

pub halt_not_stream : (why : Halt) (s : Status) → s ≡ status_of why → s ≢ status.StreamFault
halt_not_stream halt.Disk s is stream = absurd (cc (is, stream))
halt_not_stream (halt.Damaged e) s is stream = absurd (cc (is, stream))

pub halt_not_damaged : (why : Halt) (s : Status) → s ≡ status_of why → why ≡ halt.Disk → s ≢ status.Damaged
halt_not_damaged why s is disk damaged = let e : s ≡ status.DiskFault = is ∙ ap status_of disk in absurd (cc (e, damaged))

-- one that stopped at a damaged volume has what shows it
pub halt_evidence : (why : Halt) (s : Status) → s ≡ status_of why → s ≡ status.Damaged → (e : Evidence) × (why ≡ halt.Damaged e)
halt_evidence halt.Disk s is damaged = absurd (cc (is, damaged))
halt_evidence (halt.Damaged e) s is damaged = (e, refl)

-- an end of a session that stood for a machine
pub three_ways : (s : Status) → (s ≡ status.Done) ⊎ (s ≡ status.StreamFault) ⊎ (s ≡ status.DiskFault) ⊎ (s ≡ status.Damaged) → s ≢ status.Damaged → (s ≡ status.Done) ⊎ (s ≡ status.StreamFault) ⊎ (s ≡ status.DiskFault)
three_ways s (inl done) sound = inl done
three_ways s (inr (inl stream)) sound = inr (inl stream)
three_ways s (inr (inr (inl disk))) sound = inr (inr disk)
three_ways s (inr (inr (inr damaged))) sound = absurd (sound damaged)

-- a line has a byte, or its line feed
pub takes_more : (line : TraceLine) (b c : Option (List ℕ)) (p q : Progress) → TakesLine line b c p q → p.taken < q.taken
takes_more line b c p q takes = elim takes.ends [
  | inl fed ↦ omega (arith, takes.taken, ap length fed.0, length-append takes.line (10 ∷ []))
  | inr last ↦ let more = last.1 in omega (arith, takes.taken, ap length last.0, more)
]

-- The source reveals its bytes, and the session stood for a machine.
module _ (m : Machine) {x : List ℕ} {b t u : Option (List ℕ)} {p : Progress} {first now : Machine → Type 0} {old mid : DiskState} (turned : Turned (Some x) b t u p first now old mid) (is : first m) where
  abbrev lines : List TraceLine
  lines = turned.going.lines

  -- nothing was done since the last reply
  pub still_crash_states : CrashStates m (reading x) old mid
  still_crash_states = of_reading m turned.going.read (turned.along m is).0

  pub still_spends : Spends (reading x) old mid
  still_spends = spends_reading m turned.going.read old mid (turned.cost m is)

  pub still_leads : ((n : Machine) → now n → (e : List Sector) → mid.contents ≡ Some e → RevealsSettled e n) → LeadsTo m (reading x) old mid (length lines) 0
  still_leads reveals = leads_of_reading m turned.going.read (files_end m lines mid (reveals (last_of m lines) (turned.going.stands m is))) (reached_all m lines (turned.along m is))

  -- one line more was read
  module _ {c : Option (List ℕ)} {q : Progress} {line : TraceLine} (none : p.stopped ≡ None) (takes : TakesLine line b c p q) (goes : is_last line ≡ false) where
    read_more : HasRead (Some x) c q (lines ++ line ∷ [])
    read_more = HasRead-line (Some x) b c p q lines line turned.going.read none takes goes

    pub line_crash_states : {going : Type 0} {new : DiskState} → Made going now line mid new → CrashStates m (reading x) old new
    line_crash_states made = of_reading m read_more (more_crash_states turned made m is)

    pub line_spends : {going : Type 0} {new : DiskState} → mid.sectors ≡ old.sectors → Made going now line mid new → Spends (reading x) old new
    line_spends {new = new} same made = spends_reading m read_more old new (more_costs turned same made m is)

    -- it has no reply
    pub halt_leads : {going : Type 0} {new : DiskState} → Went mid new → Made going now line mid new → (i : ℕ) × LeadsTo m (reading x) old new (length lines) i
    halt_leads {new = new} went made =
        let some = line_leads (last_of m lines) line (made (last_of m lines) (turned.going.stands m is)).0 in
        (some.0, leads_of_begun m lines line read_more (turned.along m is).0 (still_waited turned m is went) (turned.along m is).2 some.0 some.1)

    -- it has this reply
    pub reply_leads : {then : Machine → Type 0} {r : Reply} (new : DiskState) → Holds then mid new → Made (Unit {0}) now line mid new → LineWrote line mid new → Answers now then line r → ((n : Machine) → then n → (e : List Sector) → new.contents ≡ Some e → RevealsSettled e n)
        → LeadsTo m (reading x) old new (length (lines ++ line ∷ [])) 0
    reply_leads {then = then} new holds made wrote answers reveals =
        leads_of_reading m read_more
        (files_end m (lines ++ line ∷ []) new
        (reveals (last_of m (lines ++ line ∷ [])) (subst then (sym (after_then m lines (line ∷ []))) (answers.next (last_of m lines) (turned.going.stands m is) goes))))
        (reached_all m (lines ++ line ∷ []) (more_answered turned holds answers goes made wrote m is))

    -- and it doesn't end the trace
    pub line_not_close : c ≡ Some (rest_of x) → closes (reading x) ≡ true → ⊥
    line_not_close left closed =
        let open_still = not_closed x (lines ++ line ∷ []) (none-push is_last lines line turned.going.none_last goes) c q read_more left in
        absurd (cc (closed, open_still))

  -- the session is ended
  module _ (new : DiskState) where
    pub stopped_leads : Went mid new → ((e : List Sector) → new.contents ≡ Some e → RevealsSettled e (last_of m lines)) → Throughout (IsStop (last_of m lines)) mid new → LeadsTo m (reading x) old new (length lines) 0
    stopped_leads went revealed stops = leads_of_reading m turned.going.read (files_end m lines new revealed) (ended_reached turned m is went stops)

    pub end_crash_states : Throughout (IsStop (last_of m lines)) mid new → CrashStates m (reading x) old new
    end_crash_states stops = of_reading m turned.going.read (ended_crash_states turned m is stops)

    pub end_spent : mid.sectors ≡ old.sectors → CostsOther mid new → Spends (reading x) old new
    end_spent same last = end_spends_reading m turned.going.read old mid new same (turned.cost m is) last

    -- after the line that ended it, or where none did
    all_reached : (how : End) (c : Option (List ℕ)) (q : Progress) → EndsTrace how b c p q → Went mid new → HasLastSync new → LineWrote (Some call.Close) mid new → (how ≡ end.Halt → RevealsSame mid new) → (how ≢ end.Halt → HasShut (last_of m lines) new)
        → Throughout (IsStop (last_of m lines)) mid new → Reached m (reading x) old new
    all_reached end.Close c q ended went has_sync wrote halted shut stops =
        subst (λ (all : List TraceLine). Reached m all old new) (sym (closed_tail m x b t u p first now turned.going c q ended)) (closed_reached turned m is went has_sync wrote (shut (λ same. absurd (cc same))) stops)
    all_reached end.Halt c q ended went has_sync wrote halted shut stops =
        subst (λ (all : List TraceLine). Reached m all old new) (sym (halted_tail m x b t u p first now turned.going c q ended)) (left_reached turned m is (Some call.Halt ∷ []) (halted refl) went (halt_waits_not (last_of m lines)))
    all_reached end.Trace c q ended went has_sync wrote halted shut stops =
        subst (λ (all : List TraceLine). Reached m all old new) (sym (trace_tail m x b t u p first now turned.going c q ended)) (ended_reached turned m is went stops)

    -- at the trace's end
    module _ (how : End) (c : Option (List ℕ)) (q : Progress) (ended : EndsTrace how b c p q) where
      pub done_leads : {root : Root} {before : Slots} → WroteOn root before mid new → HasLastSync new → (how ≡ end.Halt → RevealsSame mid new) → (how ≢ end.Halt → HasShut (last_of m lines) new) → Throughout (IsStop (last_of m lines)) mid new → LeadsTo m (reading x) old new (length (reading x)) 0
      done_leads wrote has_sync halted shut stops =
          let reached = all_reached how c q ended wrote.went has_sync (close_wrote wrote) halted shut stops in
          (End-has m x b t u p first now turned.going new (stop_revealed (last_of m lines) stops) how c q ended shut, reached.0, reached.1, reached.2)

      end_shut : how ≢ end.Halt → (how ≢ end.Halt → HasShut (last_of m lines) new) → HasShut (after m (reading x) (length (reading x))) new
      end_shut other shut = subst (λ (n : Machine). HasShut n new) (sym (End-after m x b t u p first now turned.going how c q ended)) (by how other (shut other))
        where
          by : (how : End) → how ≢ end.Halt → HasShut (last_of m lines) new → HasShut (ended_by (last_of m lines) how) new
          by end.Close other shut = shut_again (last_of m lines) new shut
          by end.Halt other shut = absurd (other refl)
          by end.Trace other shut = shut

      pub end_closed : halts (reading x) ≡ false → (how ≢ end.Halt → HasShut (last_of m lines) new) → HasShut (after m (reading x) (length (reading x))) new
      end_closed going = end_shut (λ halted. let goes_on = sym (End-halts x b t u p first now turned.going how c q ended) ∙ going in absurd (cc (goes_on, halted)))

      pub end_unheard : closes (reading x) ≡ true → (how ≢ end.Halt → HasShut (last_of m lines) new) → HasShut (after m (reading x) (length (reading x))) new
      end_unheard closed = end_shut (λ halted. let closes = sym (End-closes x b t u p first now turned.going how c q ended) ∙ closed in absurd (cc (closes, halted)))
