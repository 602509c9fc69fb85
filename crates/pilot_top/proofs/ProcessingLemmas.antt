-- Clients whose session started, or did not, and whose disk is lent.
use Rattle.std.proofs.Common.{◌≡◌, ◌≢◌, inl, inr, ℕ, ◌+◌, ◌*◌, ◌≤◌, List, [], Option, Some, refl, sym, ap, ◌∙◌, subst, arith}
use Rattle.std.specs.Prelude.{sum_by}
use Rattle.labelled_disk.specs.declared.evidence.Evidence.{Evidence}
use Rattle.labelled_disk.specs.declared.evidence.Halt.TheVariants as halt
use Rattle.labelled_disk.specs.State.{DiskState, lent_state}
use Rattle.flat_machine.specs.Machine.{Machine}
use Rattle.flat_machine.specs.Start.{start}
use Rattle.trace_io.specs.EventReading.{event_reading}
use Rattle.client_events.specs.Dropped.{waiting_clients}
use Rattle.client_events.specs.declared.ending.Ending.{Ending}
use Rattle.client_events.specs.declared.ending.Ending.TheVariants as ending
use Rattle.running_words.specs.Bound.{CostsOther, other_bound}
use Rattle.pilot_engine.specs.declared.fault.StartFault.{StartFault}
use Rattle.pilot_engine.specs.declared.fault.StartFault.TheVariants as start_fault
use Rattle.pilot_engine.specs.Opening.{IsOutside, IsSoAtStart}
use Rattle.pilot_top.specs.Clients.{AnswersCrowd, AnswersEvents, CostsEvents, Follows, Keeps, Processes, RepliesToClients, carried_bound}
use Rattle.pilot_top.specs.InitialState.{FromInitialState}
use Rattle.pilot_top.specs.Headline.{IsLeftOpen}
use Rattle.pilot_top.specs.Last.{last_line, Puts}
use Rattle.pilot_top.specs.Processing.{Processed, ShowsDamage}
use Rattle.pilot_top.specs.Stopping.{StopsAs}
use Rattle.pilot_top.specs.World.{world}
use Rattle.pilot_top.specs.declared.last.Cause.TheVariants as cause
use Rattle.pilot_top.specs.declared.status.Status.{Status}
use Rattle.pilot_top.specs.declared.status.Status.TheVariants as status
use Rattle.pilot_top.proofs.AfterLemmas.{from_after, lawfully_after, none_rose_after, open_after, reads_after, shut_after, so_there}
use Rattle.pilot_top.proofs.PutLemmas.{put_alone}
use Rattle.pilot_top.proofs.RunLemmas.{how}

-- ---- Where a session started.

-- it answers as clients do, but for the statuses of a session that did not start
pub processes_of : (s : Status) (m : Machine) (b : List ℕ) (left : Option (List ℕ)) (t : List ℕ) (took : Option (List ℕ)) (failed : Type 0) (disk : DiskState) → s ≢ status.NotOpened → s ≢ status.NoMemory
    → AnswersCrowd s m b left t took failed disk → Processes s m b left t took failed disk
processes_of status.NotOpened m b left t took failed disk opened memory is = absurd (opened refl)
processes_of status.NoMemory m b left t took failed disk opened memory is = absurd (memory refl)
processes_of status.DiskFault m b left t took failed disk opened memory is = inr is
processes_of status.Done m b left t took failed disk opened memory is = is
processes_of status.StreamFault m b left t took failed disk opened memory is = is
processes_of status.Long m b left t took failed disk opened memory is = is
processes_of status.Damaged m b left t took failed disk opened memory is = is
processes_of status.Usage m b left t took failed disk opened memory is = is
processes_of status.Unfit m b left t took failed disk opened memory is = is

-- so it does whatever is stood for
replies_of : (s : Status) (b : List ℕ) (left : Option (List ℕ)) (t : List ℕ) (took : Option (List ℕ)) (failed : Type 0) (shown : Evidence → Type 0) (unset : Type 0) → s ≢ status.NotOpened → s ≢ status.NoMemory
    → AnswersEvents s b left t took failed shown unset → RepliesToClients s b left t took failed shown unset
replies_of status.NotOpened b left t took failed shown unset opened memory is = absurd (opened refl)
replies_of status.NoMemory b left t took failed shown unset opened memory is = absurd (memory refl)
replies_of status.DiskFault b left t took failed shown unset opened memory is = inr is
replies_of status.Damaged b left t took failed shown unset opened memory is = inr is
replies_of status.Done b left t took failed shown unset opened memory is = is
replies_of status.StreamFault b left t took failed shown unset opened memory is = is
replies_of status.Long b left t took failed shown unset opened memory is = is
replies_of status.Usage b left t took failed shown unset opened memory is = is
replies_of status.Unfit b left t took failed shown unset opened memory is = is

-- ---- Another word for what is shown of evidence.

module _ (shown wanted : Evidence → Type 0) (from : (e : Evidence) → shown e → wanted e) (unset kept : Type 0) (keeps : unset → kept) where
  follows_less : (s : Status) (ended : Ending) (clients : List ℕ) (old new : Option (List ℕ)) (failed : Type 0) → Follows s ended clients old new failed shown → Follows s ended clients old new failed wanted
  follows_less status.Damaged ended clients old new failed is = (is.0, is.1, from is.0 is.2, is.3)
  follows_less status.Done ended clients old new failed is = is
  follows_less status.StreamFault ended clients old new failed is = is
  follows_less status.Long ended clients old new failed is = is
  follows_less status.DiskFault ended clients old new failed is = is
  follows_less status.NotOpened ended clients old new failed is = is
  follows_less status.NoMemory ended clients old new failed is = is
  follows_less status.Usage ended clients old new failed is = is
  follows_less status.Unfit ended clients old new failed is = is

  events_less : (s : Status) (b : List ℕ) (left : Option (List ℕ)) (t : List ℕ) (took : Option (List ℕ)) (failed : Type 0) → AnswersEvents s b left t took failed shown unset → AnswersEvents s b left t took failed wanted kept
  events_less s b left t took failed is = (
    is.0,
    record { how = is.1.how; mid = is.1.mid; ended = is.1.ended; follows = follows_less s is.1.how (waiting_clients is.0) is.1.mid took failed is.1.follows },
    λ left. keeps (is.2 left),
  )

  -- a session started
  pub replies_started : (s : Status) (b : List ℕ) (left : Option (List ℕ)) (t : List ℕ) (took : Option (List ℕ)) (failed : Type 0) → s ≢ status.NotOpened → s ≢ status.NoMemory
      → AnswersEvents s b left t took failed shown unset → RepliesToClients s b left t took failed wanted kept
  replies_started s b left t took failed opened memory is = replies_of s b left t took failed wanted kept opened memory (events_less s b left t took failed is)

  pub replies_less : (s : Status) (b : List ℕ) (left : Option (List ℕ)) (t : List ℕ) (took : Option (List ℕ)) (failed : Type 0) → RepliesToClients s b left t took failed shown unset → RepliesToClients s b left t took failed wanted kept
  replies_less status.Damaged b left t took failed (inl is) = inl (is.0, from is.0 is.1, is.2)
  replies_less status.Damaged b left t took failed (inr is) = inr (events_less status.Damaged b left t took failed is)
  replies_less status.DiskFault b left t took failed (inl is) = inl is
  replies_less status.DiskFault b left t took failed (inr is) = inr (events_less status.DiskFault b left t took failed is)
  replies_less status.NotOpened b left t took failed is = is
  replies_less status.NoMemory b left t took failed is = is
  replies_less status.Done b left t took failed is = events_less status.Done b left t took failed is
  replies_less status.StreamFault b left t took failed is = events_less status.StreamFault b left t took failed is
  replies_less status.Long b left t took failed is = events_less status.Long b left t took failed is
  replies_less status.Usage b left t took failed is = events_less status.Usage b left t took failed is
  replies_less status.Unfit b left t took failed is = events_less status.Unfit b left t took failed is

-- ---- What it costs.

-- the start is before the events
pub costs_started : (b : List ℕ) (before mid after : DiskState) → mid.sectors ≡ before.sectors → CostsOther before mid → CostsEvents b (other_bound mid.sectors) mid after → CostsEvents b (2 * other_bound before.sectors) before after
costs_started b before mid after same start cost = record {
  items = cost.items;
  more = cost.more;
  first = cost.first;
  calls = cost.calls;
  may = cost.may;
  most =
      let here : after.transfers ≤ mid.transfers + (other_bound before.sectors + sum_by (carried_bound before.sectors) cost.calls) =
      subst (λ (n : ℕ). after.transfers ≤ mid.transfers + (other_bound n + sum_by (carried_bound n) cost.calls)) same cost.most in
      omega (arith, start, here);
}

-- no session started
pub costs_refused : (b : List ℕ) (before after : DiskState) → CostsOther before after → CostsEvents b (2 * other_bound before.sectors) before after
costs_refused b before after start = record { items = []; more = event_reading b; first = refl; calls = []; may = refl; most = omega (arith, start) }

-- ---- Where no session started.

-- what it shows of damage is so, and for a reason
pub damage_at_start : (before after : DiskState) (f : StartFault) → IsSoAtStart after f → ((e : Evidence) → f ≡ start_fault.Halt (halt.Damaged e) → FromInitialState before after e)
    → (e : Evidence) → f ≡ start_fault.Halt (halt.Damaged e) → ShowsDamage before after e
damage_at_start before after f evidence_seen reason e is = (subst (IsSoAtStart after) is evidence_seen, reason e is)

module _ {K : Type 0} (f : StartFault) (s : Status) (old new : K) (took : K → Option (List ℕ)) (failed : Type 0) (stops : StopsAs f s old new (Puts failed (took old) (took new))) where
  pub processes_refused : (m : Machine) (b t : List ℕ) (left : Option (List ℕ)) (disk : DiskState) → IsOutside f → left ≡ Some b → took old ≡ Some t → Processes s m b left t (took new) failed disk
  processes_refused m b t left disk outside source sink = elim (how f s old new (Puts failed (took old) (took new)) stops) [
    | inl refusal ↦ absurd (refusal.2 (subst IsOutside refusal.1 outside))
    | inr (inl fault) ↦
        subst (λ (x : Status). Processes x m b left t (took new) failed disk) (sym fault.1) (inl (source, put_alone failed t (took old) (took new) (last_line cause.DiskFault) sink fault.2))
    | inr (inr (inl memory)) ↦ subst (λ (x : Status). Processes x m b left t (took new) failed disk) (sym memory.1) (source, ap took memory.2 ∙ sink)
    | inr (inr (inr damage)) ↦ absurd (let e : halt.Damaged damage.0 ≡ halt.Disk = subst IsOutside damage.1 outside in cc e)
  ]

  module _ (shown : Evidence → Type 0) (shows : (e : Evidence) → f ≡ start_fault.Halt (halt.Damaged e) → shown e) where
    pub replies_refused : (unset : Type 0) (b t : List ℕ) (left : Option (List ℕ)) → left ≡ Some b → took old ≡ Some t → RepliesToClients s b left t (took new) failed shown unset
    replies_refused unset b t left source sink = elim (how f s old new (Puts failed (took old) (took new)) stops) [
      | inl refusal ↦
          subst (λ (x : Status). RepliesToClients x b left t (took new) failed shown unset) (sym refusal.3)
          (refusal.0, (source, put_alone failed t (took old) (took new) (last_line (cause.Root refusal.0)) sink refusal.4))
      | inr (inl fault) ↦
          subst (λ (x : Status). RepliesToClients x b left t (took new) failed shown unset) (sym fault.1) (inl (source, put_alone failed t (took old) (took new) (last_line cause.DiskFault) sink fault.2))
      | inr (inr (inl memory)) ↦ subst (λ (x : Status). RepliesToClients x b left t (took new) failed shown unset) (sym memory.1) (source, ap took memory.2 ∙ sink)
      | inr (inr (inr damage)) ↦
          subst (λ (x : Status). RepliesToClients x b left t (took new) failed shown unset) (sym damage.2)
          (inl (damage.0, shows damage.0 damage.1, (source, put_alone failed t (took old) (took new) (last_line (cause.Damaged damage.0)) sink damage.3)))
    ]

    pub damage_refused : s ≡ status.Damaged → (e : Evidence) × shown e
    damage_refused is = elim (how f s old new (Puts failed (took old) (took new)) stops) [
      | inl refusal ↦ absurd (let e = sym refusal.3 ∙ is in cc e)
      | inr (inl fault) ↦ absurd (let e = sym fault.1 ∙ is in cc e)
      | inr (inr (inl memory)) ↦ absurd (let e = sym memory.1 ∙ is in cc e)
      | inr (inr (inr damage)) ↦ (damage.0, shows damage.0 damage.1)
    ]

-- ---- What is so of a disk that is lent is so of the disk.

module _ {D : Type 0} (state : D → DiskState) (x y : D) (same : x ≡ y) (n : ℕ) where
  -- what it has by how the events ended
  keeps_after : (ended : Ending) (m : Machine) → Keeps ended m (lent_state n (state y)) → Keeps ended m (state x)
  keeps_after ending.Close m keeps = shut_after state x y same m n keeps
  keeps_after ending.End m keeps = shut_after state x y same m n keeps
  keeps_after ending.Halt m keeps = rw same keeps
  keeps_after ending.Long m keeps = rw same keeps
  keeps_after ending.ReadFault m keeps = rw same keeps
  keeps_after ending.SinkFault m keeps = rw same keeps
  keeps_after (ending.Halted why) m keeps = rw same keeps

  crowd_after : (s : Status) (m : Machine) (b : List ℕ) (left : Option (List ℕ)) (t : List ℕ) (took : Option (List ℕ)) (failed : Type 0) → AnswersCrowd s m b left t took failed (lent_state n (state y)) → AnswersCrowd s m b left t took failed (state x)
  crowd_after s m b left t took failed is = record { crowd = is.crowd; answered = is.answered; keeps = λ other. keeps_after is.answered.how is.crowd.machine (is.keeps other) }

  processes_after : (s : Status) (m : Machine) (b : List ℕ) (left : Option (List ℕ)) (t : List ℕ) (took : Option (List ℕ)) (failed : Type 0) → Processes s m b left t took failed (lent_state n (state y)) → Processes s m b left t took failed (state x)
  processes_after status.DiskFault m b left t took failed (inl is) = inl is
  processes_after status.DiskFault m b left t took failed (inr is) = inr (crowd_after status.DiskFault m b left t took failed is)
  processes_after status.NotOpened m b left t took failed is = is
  processes_after status.NoMemory m b left t took failed is = is
  processes_after status.Done m b left t took failed is = crowd_after status.Done m b left t took failed is
  processes_after status.StreamFault m b left t took failed is = crowd_after status.StreamFault m b left t took failed is
  processes_after status.Long m b left t took failed is = crowd_after status.Long m b left t took failed is
  processes_after status.Damaged m b left t took failed is = crowd_after status.Damaged m b left t took failed is
  processes_after status.Usage m b left t took failed is = crowd_after status.Usage m b left t took failed is
  processes_after status.Unfit m b left t took failed is = crowd_after status.Unfit m b left t took failed is

  -- and what it costs
  costs_after : (b : List ℕ) (least : ℕ) (before : DiskState) (m : ℕ) → CostsEvents b least (lent_state m before) (lent_state n (state y)) → CostsEvents b least before (state x)
  costs_after b least before m cost = record { items = cost.items; more = cost.more; first = cost.first; calls = cost.calls; may = cost.may; most = rw same cost.most }

-- so all is that `processes` does
module _ {D : Type 0} (state : D → DiskState) (x y : D) (same : x ≡ y) (first : DiskState) (m n : ℕ) where
  shown_after : (e : Evidence) → ShowsDamage (lent_state m first) (lent_state n (state y)) e → ShowsDamage first (state x) e
  shown_after e is = (so_there state x y same n e is.0, from_after state x y same first m n e is.1)

  pub processed_after : {s : Status} {left0 took0 left1 took1 : Option (List ℕ)} {source0 sink0 source1 sink1 : ℕ} → Processed s (world (lent_state m first) left0 source0 took0 sink0) (world (lent_state n (state y)) left1 source1 took1 sink1)
      → Processed s (world first left0 source0 took0 sink0) (world (state x) left1 source1 took1 sink1)
  processed_after {s = s} {left1 = left1} {took1 = took1} r = record {
    answers = λ d b t revealed sound source sink. processes_after state x y same n s (start d) b left1 t took1 _ (r.answers d b t revealed sound source sink);
    replied = λ b t source sink. replies_less _ (ShowsDamage first (state x)) shown_after _ (IsLeftOpen (state x)) (open_after state x y same) s b left1 t took1 _ (r.replied b t source sink);
    transfers = λ d b t revealed sound source sink. costs_after state x y same n b (2 * other_bound first.sectors) first m (r.transfers d b t revealed sound source sink);
    permitted = lawfully_after state x y same first m n r.permitted;
    left_open = λ is. open_after state x y same (r.left_open is);
    damage = λ is. let all = r.damage is in (all.0, shown_after all.0 all.1);
    sound = r.sound;
    not_opened = r.not_opened;
    refused = r.refused;
    refused_unwritten = λ d why revealed refused. reads_after state x y same first m n (r.refused_unwritten d why revealed refused);
    complete = λ d b revealed sound source short disk_held source_held sink_held. r.complete d b revealed sound source short (none_rose_after state first.faults x y disk_held same) source_held sink_held;
    short = r.short;
  }
