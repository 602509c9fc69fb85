-- Events of clients that were answered, and what follows them.
use Rattle.std.proofs.Common.{◌≡◌, ◌≢◌, ◌⊎◌, inl, inr, ℕ, List, [], ◌∷◌, ◌++◌, append-nil, Option, Some, refl, sym, ap, ◌∙◌, subst}
use Rattle.std.specs.Io.KnownBytes.{Appends}
use Rattle.labelled_disk.specs.declared.evidence.Evidence.{Evidence}
use Rattle.labelled_disk.specs.declared.evidence.Halt.{Halt}
use Rattle.labelled_disk.specs.declared.evidence.Halt.TheVariants as halt
use Rattle.trace_io.specs.EventGrammar as event
use Rattle.trace_io.specs.EventReading.{event_reading}
use Rattle.trace_io.specs.Stream.{IsPrefixOf}
use Rattle.flat_machine.specs.Machine.{Machine}
use Rattle.flat_machine.specs.Text.{text}
use Rattle.flat_machine.specs.declared.call.Reply.TheVariants as reply
use Rattle.flight_core.specs.Crowd.{Crowd, alone}
use Rattle.flight_core.specs.Flights.{crowd_of}
use Rattle.flight_core.specs.declared.flights.Flights.{Flights}
use Rattle.flight_core.specs.declared.stepped.Stepped.{Ghosts}
use Rattle.client_events.specs.Answers.{AnswersEach, Item}
use Rattle.client_events.specs.Ending.{Ended, IsGoing, Leads, LeadsToHalt}
use Rattle.client_events.specs.Outcome.{Outcome}
use Rattle.client_events.specs.declared.ending.Ending.{Ending}
use Rattle.client_events.specs.declared.ending.Ending.TheVariants as ending
use Rattle.pilot_top.specs.Clients.{Follows, StoppedBy, end_lines, end_of}
use Rattle.pilot_top.specs.Ending.{end_text}
use Rattle.pilot_top.specs.Last.{last_line, Puts}
use Rattle.pilot_top.specs.Stopping.{cause_of, status_of}
use Rattle.pilot_top.specs.declared.last.Cause.TheVariants as cause
use Rattle.pilot_top.specs.declared.status.Status.{Status}
use Rattle.pilot_top.specs.declared.status.Status.TheVariants as status
use Rattle.pilot_top.specs.declared.turn.End.{End}
use Rattle.pilot_top.specs.declared.turn.End.TheVariants as end

-- Of what holds for some x of the lines that were answered, the x is taken out; with it comes what is so now, unless an event halted.
module _ (b : List ℕ) (left : Option (List ℕ)) (t : List ℕ) (took : Option (List ℕ)) {X : Type 0} (each : X → List Item → List Outcome → Type 0) (halted : X → Halt → List Item → Item → List Outcome → Type 0) (now : X → Type 0)
    {some : List Item → List Outcome → Type 0} {stopped : Halt → List Item → Item → List Outcome → Type 0}
    (of : (items : List Item) (os : List Outcome) → some items os → (x : X) × each x items os × now x)
    (before : (why : Halt) (items : List Item) (item : Item) (os : List Outcome) → stopped why items item os → (x : X) × halted x why items item os) where
  pub ended_some : (how : Ending) → Ended how b left t took some stopped → (x : X) × Ended how b left t took (each x) (halted x) × (IsGoing how → now x)
  ended_some ending.Close (items, takes, lines) =
      let found = of items lines.outcomes lines.are in
      (found.0, (items, takes, record { outcomes = lines.outcomes; are = found.1; took_is = lines.took_is }), λ going. found.2)
  ended_some ending.Halt (items, takes, lines) =
      let found = of items lines.outcomes lines.are in
      (found.0, (items, takes, record { outcomes = lines.outcomes; are = found.1; took_is = lines.took_is }), λ going. found.2)
  ended_some ending.End (none, lines) =
      let found = of (event_reading b) lines.outcomes lines.are in
      (found.0, (none, record { outcomes = lines.outcomes; are = found.1; took_is = lines.took_is }), λ going. found.2)
  ended_some ending.Long (items, takes, lines) =
      let found = of items lines.outcomes lines.are in
      (found.0, (items, takes, record { outcomes = lines.outcomes; are = found.1; took_is = lines.took_is }), λ going. found.2)
  ended_some ending.ReadFault (items, takes, lines) =
      let found = of items lines.outcomes lines.are in
      (found.0, (items, takes, record { outcomes = lines.outcomes; are = found.1; took_is = lines.took_is }), λ going. found.2)
  ended_some ending.SinkFault (items, takes, cut) =
      let found = of items (cut.outcomes ++ cut.last ∷ []) cut.are in
      (found.0, (items, takes, record { outcomes = cut.outcomes; last = cut.last; are = found.1; prefix = cut.prefix; is_prefix = cut.is_prefix; took_is = cut.took_is }), λ going. found.2)
  ended_some (ending.Halted why) (items, item, takes, lines) =
      let found = before why items item lines.outcomes lines.are in
      (found.0, (items, item, takes, record { outcomes = lines.outcomes; are = found.1; took_is = lines.took_is }), λ going. absurd going)

-- A crowd that the lines lead to from one machine alone; it is the one that is kept, unless an event halted.
pub crowd_answered : {S : Type 0} {G : Ghosts S} (m : Machine) (old new : Flights S G) → crowd_of m old ≡ alone m → (b : List ℕ) (left : Option (List ℕ)) (t : List ℕ) (took : Option (List ℕ)) (how : Ending)
    → Ended how b left t took (Leads m old new) (LeadsToHalt m old new)
    → (c : Crowd) × Ended how b left t took (λ items os. AnswersEach (alone m) items os c) (λ why items item os. AnswersEach (alone m) items os c)
    × (IsGoing how → (c.waiting ≡ new.waiting.items) × G.stands new.stepped c.machine)
crowd_answered {S} {G} m old new is b left t took how ended =
    ended_some b left t took (λ c items os. AnswersEach (alone m) items os c) (λ c why items item os. AnswersEach (alone m) items os c)
    (λ c. (c.waiting ≡ new.waiting.items) × G.stands new.stepped c.machine)
    (λ items os some. (crowd_of some.0 new, subst (λ (c : Crowd). AnswersEach c items os (crowd_of some.0 new)) is some.1, (refl, some.2)))
    (λ why items item os some. (some.0, subst (λ (c : Crowd). AnswersEach c items os some.0) is some.1)) how ended

-- the lines that were carried out are the first of the text
pub ended_first : (b : List ℕ) (left : Option (List ℕ)) (t : List ℕ) (took : Option (List ℕ)) (items : List Item) (how : Ending)
    → Ended how b left t took (λ taken os. taken ≡ items) (λ why taken item os. taken ++ item ∷ [] ≡ items) → (more : List Item) × (event_reading b ≡ items ++ more)
ended_first b left t took items ending.Close (taken, takes, lines) = (Some event.Close ∷ [], takes.0 ∙ ap (λ (l : List Item). l ++ Some event.Close ∷ []) lines.are)
ended_first b left t took items ending.Halt (taken, takes, lines) = (Some event.Halt ∷ [], takes.0 ∙ ap (λ (l : List Item). l ++ Some event.Halt ∷ []) lines.are)
ended_first b left t took items ending.End (none, lines) = ([], lines.are ∙ sym (append-nil items))
ended_first b left t took items ending.Long (taken, takes, lines) = (takes.0.0.more, takes.0.0.first ∙ ap (λ (l : List Item). l ++ takes.0.0.more) lines.are)
ended_first b left t took items ending.ReadFault (taken, takes, lines) = (takes.0.more, takes.0.first ∙ ap (λ (l : List Item). l ++ takes.0.more) lines.are)
ended_first b left t took items ending.SinkFault (taken, takes, cut) = (takes.0.more, takes.0.first ∙ ap (λ (l : List Item). l ++ takes.0.more) cut.are)
ended_first b left t took items (ending.Halted why) (taken, item, takes, lines) = (takes.0.more, takes.0.first ∙ ap (λ (l : List Item). l ++ takes.0.more) lines.are)

-- a line that ends the events is answered so
pub end_is_answered : (e : End) → e ≢ end.Trace → end_text e ≡ text reply.Done
end_is_answered end.Close other = refl
end_is_answered end.Halt other = refl
end_is_answered end.Trace other = absurd (other refl)

-- a session that is not halted by its line is ended at one that closes it, or at the end of the text
closes_at : (how : Ending) (e : End) → end_of how ≡ Some e → e ≢ end.Halt → (why : Halt) → StoppedBy how why
closes_at ending.Close e is other why = inr (inl refl)
closes_at ending.End e is other why = inr (inr refl)
closes_at ending.Halt e is other why = absurd (other (cc is))
closes_at ending.Long e is other why = absurd (cc is)
closes_at ending.ReadFault e is other why = absurd (cc is)
closes_at ending.SinkFault e is other why = absurd (cc is)
closes_at (ending.Halted h) e is other why = absurd (cc is)

module _ (s : Status) (how : Ending) (clients : List ℕ) (mid took : Option (List ℕ)) (failed rose : Type 0) (shown : Evidence → Type 0) (later : rose → failed) where
  puts_later : (line : List ℕ) → Puts rose mid took line → Puts failed mid took line
  puts_later line (inl all) = inl all
  puts_later line (inr part) = inr (later part.0, part.1, part.2, part.3)

  -- the session was ended
  pub follows_end : (e : End) → end_of how ≡ Some e
      → (s ≡ status.Done → Appends mid took (end_lines clients e))
      → (s ≡ status.StreamFault → rose × (prefix : List ℕ) × IsPrefixOf prefix (end_lines clients e) × Appends mid took prefix)
      → (s ≡ status.DiskFault → (e ≢ end.Halt) × Puts rose mid took (last_line cause.DiskFault))
      → (s ≡ status.Damaged → (e ≢ end.Halt) × (what : Evidence) × shown what × Puts rose mid took (last_line (cause.Damaged what)))
      → (s ≡ status.Done) ⊎ (s ≡ status.StreamFault) ⊎ (s ≡ status.DiskFault) ⊎ (s ≡ status.Damaged)
      → Follows s how clients mid took failed shown
  follows_end e at done part disk damage (inl is) = rw is (e, at, done is)
  follows_end e at done part disk damage (inr (inl is)) = let some = part is in rw is (inr (later some.0, e, at, some.1, some.2, some.3))
  follows_end e at done part disk damage (inr (inr (inl is))) = let some = disk is in rw is (closes_at how e at some.0 halt.Disk, puts_later (last_line cause.DiskFault) some.1)
  follows_end e at done part disk damage (inr (inr (inr is))) =
      let some = damage is in rw is (some.1, closes_at how e at some.0 (halt.Damaged some.1), some.2, puts_later (last_line (cause.Damaged some.1)) some.3)

  -- an event halted
  pub follows_halted : (why : Halt) → how ≡ ending.Halted why → s ≡ status_of why → Puts rose mid took (last_line (cause_of why))
      → ((what : Evidence) → why ≡ halt.Damaged what → shown what) → Follows s how clients mid took failed shown
  follows_halted halt.Disk at is line evident = rw is (inl at, puts_later (last_line cause.DiskFault) line)
  follows_halted (halt.Damaged what) at is line evident = rw is (what, inl at, evident what refl, puts_later (last_line (cause.Damaged what)) line)

  -- the text is too long
  pub follows_long : how ≡ ending.Long → s ≡ status.Long → Puts rose mid took (last_line cause.Long) → Follows s how clients mid took failed shown
  follows_long at is line = rw is (at, puts_later (last_line cause.Long) line)

  -- source or sink failed
  pub follows_fault : (how ≡ ending.ReadFault) ⊎ ((how ≡ ending.SinkFault) × rose) → s ≡ status.StreamFault → took ≡ mid → Follows s how clients mid took failed shown
  follows_fault (inl read) is same = rw is (inl (inl read, same))
  follows_fault (inr (sink, failed)) is same = rw is (inl (inr (sink, later failed), same))

-- an end of a session has one of four statuses
pub ended_ends : (s : Status) → (s ≡ status.Done) ⊎ (s ≡ status.StreamFault) ⊎ (s ≡ status.DiskFault) ⊎ (s ≡ status.Damaged)
    → (s ≢ status.Long) × (s ≢ status.Usage) × (s ≢ status.NotOpened) × (s ≢ status.NoMemory) × (s ≢ status.Unfit)
ended_ends s (inl is) = (λ e. absurd (cc (is, e)), λ e. absurd (cc (is, e)), λ e. absurd (cc (is, e)), λ e. absurd (cc (is, e)), λ e. absurd (cc (is, e)))
ended_ends s (inr (inl is)) = (λ e. absurd (cc (is, e)), λ e. absurd (cc (is, e)), λ e. absurd (cc (is, e)), λ e. absurd (cc (is, e)), λ e. absurd (cc (is, e)))
ended_ends s (inr (inr (inl is))) = (λ e. absurd (cc (is, e)), λ e. absurd (cc (is, e)), λ e. absurd (cc (is, e)), λ e. absurd (cc (is, e)), λ e. absurd (cc (is, e)))
ended_ends s (inr (inr (inr is))) = (λ e. absurd (cc (is, e)), λ e. absurd (cc (is, e)), λ e. absurd (cc (is, e)), λ e. absurd (cc (is, e)), λ e. absurd (cc (is, e)))

-- without a fault of the disk and without damage it was done, or a stream failed
pub ended_well : (s : Status) → (s ≡ status.Done) ⊎ (s ≡ status.StreamFault) ⊎ (s ≡ status.DiskFault) ⊎ (s ≡ status.Damaged) → s ≢ status.DiskFault → s ≢ status.Damaged
    → (s ≡ status.Done) ⊎ (s ≡ status.StreamFault)
ended_well s (inl is) other sound = inl is
ended_well s (inr (inl is)) other sound = inr is
ended_well s (inr (inr (inl is))) other sound = absurd (other is)
ended_well s (inr (inr (inr is))) other sound = absurd (sound is)
