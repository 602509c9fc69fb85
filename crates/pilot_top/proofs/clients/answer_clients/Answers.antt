use Rattle.std.proofs.Common.{◌≡◌, inl, inr, ℕ, ◌+◌, ◌≤◌, true, List, [], refl, sym, ap, ◌∙◌, subst, arith}
use Rattle.labelled_disk.specs.Calls.{Rose}
use Rattle.labelled_disk.specs.declared.evidence.Evidence.{Evidence}
use Rattle.labelled_disk.specs.declared.evidence.Halt.{Halt}
use Rattle.labelled_disk.specs.declared.evidence.Halt.TheVariants as halt
use Rattle.flat_machine.specs.Machine.{Machine}
use Rattle.swapper_kernel.specs.GoesLaws.{went_then}
use Rattle.flat_machine.specs.Start.{start}
use Rattle.flight_core.specs.Carrying.{LedInARow}
use Rattle.flight_core.specs.Crowd.{Crowd}
use Rattle.flight_core.specs.declared.pending.Pending.{Pending}
use Rattle.client_events.specs.Dropped.{waiting_clients}
use Rattle.client_events.specs.declared.ending.Ending.TheVariants as ending
use Rattle.filer_kernel.specs.Evidence.{IsEvident, ShowsEvidence}
use Rattle.filer_kernel.specs.View.{disk_of}
use Rattle.fault_core.specs.Core.{state}
use Rattle.running_words.specs.Bound.{other_bound}
use Rattle.pilot_engine.specs.declared.session.Session.{Session}
use Rattle.pilot_engine.specs.Leading.{Leads}
use Rattle.pilot_engine.specs.Trying.{IsAccounted, StandsAs}
use Rattle.pilot_top.specs.Clients.{Follows, HasFiles}
use Rattle.pilot_top.specs.Stopping.{status_of}
use Rattle.pilot_top.specs.InitialState.{FromEachInitialState}
use Rattle.pilot_top.specs.declared.status.Status.TheVariants as status
use Rattle.pilot_top.specs.declared.turn.End.TheVariants as end
use Rattle.pilot_top.proofs.CallsInARow.{HasLed, has_led, row_costs, row_stands}
use Rattle.pilot_top.proofs.EventLemmas.{crowd_answered, ended_ends, ended_first, ended_well, follows_end, follows_fault, follows_halted, follows_long}
use Rattle.pilot_top.proofs.ExitLemmas.{halt_evidence, halt_not_damaged}
use Rattle.pilot_top.proofs.PermittedRuns.{ended_last, openly_last}
use Rattle.pilot_top.proofs.ReasonLemmas.{goes_nowhere, reason_before, reason_halted}
use Rattle.pilot_top.proofs.SameLemmas.{unset_same}
use Rattle.pilot_top.proofs.StagedLemmas.{stands_revealed}
use Rattle.pilot_top.proofs.StatusLemmas.{halt_disk, halt_ends}
use Rattle.pilot_top.proofs.TopLemmas.{rose_later}
use Rattle.pilot_top.proofs.clients.answer_clients.Given as given
use Rattle.pilot_top.proofs.clients.answer_clients.Goals as goal

abbrev Sessions : given.Over → Type 0
Sessions g = Session g.row.D.Denot g.row.A.Denot g.D.Disk

-- a session that stands for a machine has its settled files on the disk
files : (g : given.Over) (s : Sessions g) (m : Machine) → StandsAs s m → HasFiles m (state s.core).disk
files g s m stands e revealed = (stands_revealed m stands (λ d is. g.met.D.Disk.in_form (disk_of s.core.filer) d is) e revealed).revealed

-- no flight has begun
pub answer_events-requires-clause-few : goal.answer_events-requires-clause-few
answer_events-requires-clause-few g c =
    let none : c.new-flights.result.begun ≡ 0 = ap (λ (x : Crowd). x.begun) (c.new-flights.ensures.alone (start [])) in
    rw none (omega arith)

-- the session was ended at its line
pub returns-in-Close : goal.returns-in-Close
returns-in-Close g c =
    let f = c.answer_events.new.flights in
    let carries = c.in-Close.ensures.carried.carries in
    let begun = c.new-flights.ensures.stepped in
    let row : LedInARow Leads c.args.session carries.0 f.stepped = subst (λ (s : Sessions g). LedInARow Leads s carries.0 f.stepped) begun carries.2 in
    let led : HasLed c.args.session f.stepped = has_led c.args.session carries.0 f.stepped row in
    let stands_at = λ (m : Machine) (is : StandsAs c.args.session m). subst (λ (s : Sessions g). StandsAs s m) (sym begun) is in
    let e = c.end_events.ensures in
    let s = c.end_events.result.0 in
    let disk = g.D.Disk.state c.end_events.result.1 in
    let running : f.stepped.running ≡ true = (c.in-Close.ensures.goes_on tt).running in
    let later : Rose (g.K.Sink.faults c.answer_events.new.sink) (g.K.Sink.faults c.end_events.new.sink) → Rose (g.K.Sink.faults c.args.sink.now) (g.K.Sink.faults c.end_events.new.sink) = rose_later _ _ _ c.in-Close.ensures.reason.sink_later in
    let reason = λ (what : Evidence) (from : FromEachInitialState f.stepped disk what). reason_before c.args.session f.stepped led.layout (led.goes running) disk what from in
    let other = ended_ends s e.ends in
    record {
      answers = λ m b t is unset left took.
          let some = crowd_answered m c.new-flights.result f (c.new-flights.ensures.alone m) b _ t _ ending.Close (c.in-Close.ensures.answers m b t (stands_at m is) left took) in
          let now = some.2 tt in
          record {
            crowd = some.0;
            answered = record {
              how = ending.Close;
              mid = g.K.Sink.took c.answer_events.new.sink;
              ended = some.1;
              follows = subst (λ (ps : List Pending). Follows s ending.Close (waiting_clients ps) (g.K.Sink.took c.answer_events.new.sink) (g.K.Sink.took c.end_events.new.sink) (Rose (g.K.Sink.faults c.args.sink.now) (g.K.Sink.faults c.end_events.new.sink)) (λ (what : Evidence). ⊥)) (sym now.0)
                  (follows_end s ending.Close (waiting_clients f.waiting.items) (g.K.Sink.took c.answer_events.new.sink) (g.K.Sink.took c.end_events.new.sink) (Rose (g.K.Sink.faults c.args.sink.now) (g.K.Sink.faults c.end_events.new.sink)) (Rose (g.K.Sink.faults c.answer_events.new.sink) (g.K.Sink.faults c.end_events.new.sink)) (λ (what : Evidence). ⊥) later end.Close refl e.done (λ failed. e.part failed)
                  (λ failed. let why = e.disk_fault failed in (why.0, why.2)) (λ damaged. absurd (e.sound some.0.machine now.1 damaged)) e.ends);
            };
            keeps = λ well. e.closed some.0.machine now.1 (λ halts. cc halts) (ended_well s e.ends well (e.sound some.0.machine now.1));
          };
      replied = λ b t unset left took. (
        f.waiting.items,
        record {
          how = ending.Close;
          mid = g.K.Sink.took c.answer_events.new.sink;
          ended = c.in-Close.ensures.replied b t left took;
          follows = follows_end s ending.Close (waiting_clients f.waiting.items) _ _ _ _ _ later end.Close refl e.done (λ failed. e.part failed)
              (λ failed. let why = e.disk_fault failed in (why.0, why.2)) (λ damaged. let why = e.damage damaged in (why.0, why.1, (why.2, reason why.1 why.3), why.4)) e.ends;
        },
        λ early. absurd early,
      );
      transfers = λ m b t is left took.
          let first = ended_first b _ t _ c.in-Close.ensures.carried.items ending.Close (c.in-Close.ensures.carried.ended b t left took) in
          let most = row_costs c.args.session carries.0 f.stepped (λ runs. (m, is)) row in
          let here = row_stands m c.args.session carries.0 f.stepped is row running in
          let last : disk.transfers ≤ (state f.stepped.core).disk.transfers + other_bound (state c.args.session.core).disk.sectors =
          subst (λ (n : ℕ). disk.transfers ≤ (state f.stepped.core).disk.transfers + other_bound n) led.went.sectors (e.cost here.0 here.1) in
          record { items = c.in-Close.ensures.carried.items; more = first.0; first = first.1; calls = carries.0; may = carries.1; most = omega (arith, most, last) };
      permitted = ended_last led.openly e.wrote;
      left_open = λ unset is. elim is [ inl long ↦ absurd (other.0 long) | inr damaged ↦ e.left_open (led.unset unset) damaged ];
      damage = λ damaged. let why = e.damage damaged in (why.1, why.2, reason why.1 why.3);
      sound = λ m is. let here = row_stands m c.args.session carries.0 f.stepped is row running in e.sound here.0 here.1;
      same_disk = went_then led.went e.wrote.went;
      short = λ b left is. c.in-Close.ensures.reason.short b left (inl refl);
      causes = record {
        disk = λ is. rose_later _ _ _ led.went.faults (e.disk_fault is).1;
        stream = λ is. inr (later (e.part is).0);
        long = λ b left is. absurd (other.0 is);
        no_other = (other.1, other.4);
      };
      began = (other.2, other.3);
    }

-- the session was ended as it was
pub returns-in-Halt : goal.returns-in-Halt
returns-in-Halt g c =
    let f = c.answer_events.new.flights in
    let carries = c.in-Halt.ensures.carried.carries in
    let begun = c.new-flights.ensures.stepped in
    let row : LedInARow Leads c.args.session carries.0 f.stepped = subst (λ (s : Sessions g). LedInARow Leads s carries.0 f.stepped) begun carries.2 in
    let led : HasLed c.args.session f.stepped = has_led c.args.session carries.0 f.stepped row in
    let stands_at = λ (m : Machine) (is : StandsAs c.args.session m). subst (λ (s : Sessions g). StandsAs s m) (sym begun) is in
    let e = c.end_events-in-Halt.ensures in
    let s = c.end_events-in-Halt.result.0 in
    let disk = g.D.Disk.state c.end_events-in-Halt.result.1 in
    let running : f.stepped.running ≡ true = (c.in-Halt.ensures.goes_on tt).running in
    let later : Rose (g.K.Sink.faults c.answer_events.new.sink) (g.K.Sink.faults c.end_events-in-Halt.new.sink) → Rose (g.K.Sink.faults c.args.sink.now) (g.K.Sink.faults c.end_events-in-Halt.new.sink) = rose_later _ _ _ c.in-Halt.ensures.reason.sink_later in
    let reason = λ (what : Evidence) (from : FromEachInitialState f.stepped disk what). reason_before c.args.session f.stepped led.layout (led.goes running) disk what from in
    let other = ended_ends s e.ends in
    record {
      answers = λ m b t is unset left took.
          let some = crowd_answered m c.new-flights.result f (c.new-flights.ensures.alone m) b _ t _ ending.Halt (c.in-Halt.ensures.answers m b t (stands_at m is) left took) in
          let now = some.2 tt in
          record {
            crowd = some.0;
            answered = record {
              how = ending.Halt;
              mid = g.K.Sink.took c.answer_events.new.sink;
              ended = some.1;
              follows = subst (λ (ps : List Pending). Follows s ending.Halt (waiting_clients ps) (g.K.Sink.took c.answer_events.new.sink) (g.K.Sink.took c.end_events-in-Halt.new.sink) (Rose (g.K.Sink.faults c.args.sink.now) (g.K.Sink.faults c.end_events-in-Halt.new.sink)) (λ (what : Evidence). ⊥)) (sym now.0)
                  (follows_end s ending.Halt (waiting_clients f.waiting.items) (g.K.Sink.took c.answer_events.new.sink) (g.K.Sink.took c.end_events-in-Halt.new.sink) (Rose (g.K.Sink.faults c.args.sink.now) (g.K.Sink.faults c.end_events-in-Halt.new.sink)) (Rose (g.K.Sink.faults c.answer_events.new.sink) (g.K.Sink.faults c.end_events-in-Halt.new.sink)) (λ (what : Evidence). ⊥) later end.Halt refl e.done (λ failed. e.part failed)
                  (λ failed. let why = e.disk_fault failed in (why.0, why.2)) (λ damaged. absurd (e.sound some.0.machine now.1 damaged)) e.ends);
            };
            keeps = λ well. (λ d revealed. files g f.stepped some.0.machine now.1 d (sym (e.halted refl).contents ∙ revealed), unset_same (e.halted refl) (led.unset unset));
          };
      replied = λ b t unset left took. (
        f.waiting.items,
        record {
          how = ending.Halt;
          mid = g.K.Sink.took c.answer_events.new.sink;
          ended = c.in-Halt.ensures.replied b t left took;
          follows = follows_end s ending.Halt (waiting_clients f.waiting.items) _ _ _ _ _ later end.Halt refl e.done (λ failed. e.part failed)
              (λ failed. let why = e.disk_fault failed in (why.0, why.2)) (λ damaged. let why = e.damage damaged in (why.0, why.1, (why.2, reason why.1 why.3), why.4)) e.ends;
        },
        λ early. unset_same (e.halted refl) (led.unset unset),
      );
      transfers = λ m b t is left took.
          let first = ended_first b _ t _ c.in-Halt.ensures.carried.items ending.Halt (c.in-Halt.ensures.carried.ended b t left took) in
          let most = row_costs c.args.session carries.0 f.stepped (λ runs. (m, is)) row in
          let here = row_stands m c.args.session carries.0 f.stepped is row running in
          let last : disk.transfers ≤ (state f.stepped.core).disk.transfers + other_bound (state c.args.session.core).disk.sectors =
          subst (λ (n : ℕ). disk.transfers ≤ (state f.stepped.core).disk.transfers + other_bound n) led.went.sectors (e.cost here.0 here.1) in
          record { items = c.in-Halt.ensures.carried.items; more = first.0; first = first.1; calls = carries.0; may = carries.1; most = omega (arith, most, last) };
      permitted = ended_last led.openly e.wrote;
      left_open = λ unset is. elim is [ inl long ↦ absurd (other.0 long) | inr damaged ↦ e.left_open (led.unset unset) damaged ];
      damage = λ damaged. let why = e.damage damaged in (why.1, why.2, reason why.1 why.3);
      sound = λ m is. let here = row_stands m c.args.session carries.0 f.stepped is row running in e.sound here.0 here.1;
      same_disk = went_then led.went e.wrote.went;
      short = λ b left is. c.in-Halt.ensures.reason.short b left (inr (inl refl));
      causes = record {
        disk = λ is. rose_later _ _ _ led.went.faults (e.disk_fault is).1;
        stream = λ is. inr (later (e.part is).0);
        long = λ b left is. absurd (other.0 is);
        no_other = (other.1, other.4);
      };
      began = (other.2, other.3);
    }

-- the session was ended where the text ends
pub returns-in-End : goal.returns-in-End
returns-in-End g c =
    let f = c.answer_events.new.flights in
    let carries = c.in-End.ensures.carried.carries in
    let begun = c.new-flights.ensures.stepped in
    let row : LedInARow Leads c.args.session carries.0 f.stepped = subst (λ (s : Sessions g). LedInARow Leads s carries.0 f.stepped) begun carries.2 in
    let led : HasLed c.args.session f.stepped = has_led c.args.session carries.0 f.stepped row in
    let stands_at = λ (m : Machine) (is : StandsAs c.args.session m). subst (λ (s : Sessions g). StandsAs s m) (sym begun) is in
    let e = c.end_events-in-End.ensures in
    let s = c.end_events-in-End.result.0 in
    let disk = g.D.Disk.state c.end_events-in-End.result.1 in
    let running : f.stepped.running ≡ true = (c.in-End.ensures.goes_on tt).running in
    let later : Rose (g.K.Sink.faults c.answer_events.new.sink) (g.K.Sink.faults c.end_events-in-End.new.sink) → Rose (g.K.Sink.faults c.args.sink.now) (g.K.Sink.faults c.end_events-in-End.new.sink) = rose_later _ _ _ c.in-End.ensures.reason.sink_later in
    let reason = λ (what : Evidence) (from : FromEachInitialState f.stepped disk what). reason_before c.args.session f.stepped led.layout (led.goes running) disk what from in
    let other = ended_ends s e.ends in
    record {
      answers = λ m b t is unset left took.
          let some = crowd_answered m c.new-flights.result f (c.new-flights.ensures.alone m) b _ t _ ending.End (c.in-End.ensures.answers m b t (stands_at m is) left took) in
          let now = some.2 tt in
          record {
            crowd = some.0;
            answered = record {
              how = ending.End;
              mid = g.K.Sink.took c.answer_events.new.sink;
              ended = some.1;
              follows = subst (λ (ps : List Pending). Follows s ending.End (waiting_clients ps) (g.K.Sink.took c.answer_events.new.sink) (g.K.Sink.took c.end_events-in-End.new.sink) (Rose (g.K.Sink.faults c.args.sink.now) (g.K.Sink.faults c.end_events-in-End.new.sink)) (λ (what : Evidence). ⊥)) (sym now.0)
                  (follows_end s ending.End (waiting_clients f.waiting.items) (g.K.Sink.took c.answer_events.new.sink) (g.K.Sink.took c.end_events-in-End.new.sink) (Rose (g.K.Sink.faults c.args.sink.now) (g.K.Sink.faults c.end_events-in-End.new.sink)) (Rose (g.K.Sink.faults c.answer_events.new.sink) (g.K.Sink.faults c.end_events-in-End.new.sink)) (λ (what : Evidence). ⊥) later end.Trace refl e.done (λ failed. e.part failed)
                  (λ failed. let why = e.disk_fault failed in (why.0, why.2)) (λ damaged. absurd (e.sound some.0.machine now.1 damaged)) e.ends);
            };
            keeps = λ well. e.closed some.0.machine now.1 (λ halts. cc halts) (ended_well s e.ends well (e.sound some.0.machine now.1));
          };
      replied = λ b t unset left took. (
        f.waiting.items,
        record {
          how = ending.End;
          mid = g.K.Sink.took c.answer_events.new.sink;
          ended = c.in-End.ensures.replied b t left took;
          follows = follows_end s ending.End (waiting_clients f.waiting.items) _ _ _ _ _ later end.Trace refl e.done (λ failed. e.part failed)
              (λ failed. let why = e.disk_fault failed in (why.0, why.2)) (λ damaged. let why = e.damage damaged in (why.0, why.1, (why.2, reason why.1 why.3), why.4)) e.ends;
        },
        λ early. absurd early,
      );
      transfers = λ m b t is left took.
          let first = ended_first b _ t _ c.in-End.ensures.carried.items ending.End (c.in-End.ensures.carried.ended b t left took) in
          let most = row_costs c.args.session carries.0 f.stepped (λ runs. (m, is)) row in
          let here = row_stands m c.args.session carries.0 f.stepped is row running in
          let last : disk.transfers ≤ (state f.stepped.core).disk.transfers + other_bound (state c.args.session.core).disk.sectors =
          subst (λ (n : ℕ). disk.transfers ≤ (state f.stepped.core).disk.transfers + other_bound n) led.went.sectors (e.cost here.0 here.1) in
          record { items = c.in-End.ensures.carried.items; more = first.0; first = first.1; calls = carries.0; may = carries.1; most = omega (arith, most, last) };
      permitted = ended_last led.openly e.wrote;
      left_open = λ unset is. elim is [ inl long ↦ absurd (other.0 long) | inr damaged ↦ e.left_open (led.unset unset) damaged ];
      damage = λ damaged. let why = e.damage damaged in (why.1, why.2, reason why.1 why.3);
      sound = λ m is. let here = row_stands m c.args.session carries.0 f.stepped is row running in e.sound here.0 here.1;
      same_disk = went_then led.went e.wrote.went;
      short = λ b left is. c.in-End.ensures.reason.short b left (inr (inr refl));
      causes = record {
        disk = λ is. rose_later _ _ _ led.went.faults (e.disk_fault is).1;
        stream = λ is. inr (later (e.part is).0);
        long = λ b left is. absurd (other.0 is);
        no_other = (other.1, other.4);
      };
      began = (other.2, other.3);
    }

-- as many bytes as the limit were taken
pub returns-in-Long : goal.returns-in-Long
returns-in-Long g c =
    let f = c.answer_events.new.flights in
    let carries = c.in-Long.ensures.carried.carries in
    let begun = c.new-flights.ensures.stepped in
    let row : LedInARow Leads c.args.session carries.0 f.stepped = subst (λ (s : Sessions g). LedInARow Leads s carries.0 f.stepped) begun carries.2 in
    let led : HasLed c.args.session f.stepped = has_led c.args.session carries.0 f.stepped row in
    let stands_at = λ (m : Machine) (is : StandsAs c.args.session m). subst (λ (s : Sessions g). StandsAs s m) (sym begun) is in
    let same : c.into_disk.result ≡ disk_of f.stepped.core.filer = c.into_disk.ensures ∙ ap (λ (s : Sessions g). disk_of s.core.filer) c.into_inner.ensures in
    let shows = λ (what : Evidence). IsEvident (state f.stepped.core).disk what × FromEachInitialState c.args.session (state f.stepped.core).disk what in
    let running : f.stepped.running ≡ true = (c.in-Long.ensures.goes_on tt).running in
    record {
      answers = λ m b t is unset left took.
          let some = crowd_answered m c.new-flights.result f (c.new-flights.ensures.alone m) b _ t _ ending.Long (c.in-Long.ensures.answers m b t (stands_at m is) left took) in
          let now = some.2 tt in
          rw same (record {
            crowd = some.0;
            answered = record {
              how = ending.Long;
              mid = g.K.Sink.took c.answer_events.new.sink;
              ended = some.1;
              follows = follows_long status.Long ending.Long (waiting_clients some.0.waiting) _ _ _ _ (λ (what : Evidence). ⊥) (rose_later _ _ _ c.in-Long.ensures.reason.sink_later) refl refl c.put_last.ensures.put;
            };
            keeps = λ well. (files g f.stepped some.0.machine now.1, led.unset unset);
          });
      replied = λ b t unset left took. rw same (
        f.waiting.items,
        record {
          how = ending.Long;
          mid = g.K.Sink.took c.answer_events.new.sink;
          ended = c.in-Long.ensures.replied b t left took;
          follows = follows_long status.Long ending.Long (waiting_clients f.waiting.items) _ _ _ _ shows (rose_later _ _ _ c.in-Long.ensures.reason.sink_later) refl refl c.put_last.ensures.put;
        },
        λ early. led.unset unset,
      );
      transfers = λ m b t is left took.
          let first = ended_first b _ t _ c.in-Long.ensures.carried.items ending.Long (c.in-Long.ensures.carried.ended b t left took) in
          let most = row_costs c.args.session carries.0 f.stepped (λ runs. (m, is)) row in
          rw same (record { items = c.in-Long.ensures.carried.items; more = first.0; first = first.1; calls = carries.0; may = carries.1; most = omega (arith, most) });
      permitted = rw same (openly_last led.openly);
      left_open = λ unset is. rw same (led.unset unset);
      damage = λ damaged. absurd (cc damaged);
      sound = λ m is damaged. cc damaged;
      same_disk = rw same led.went;
      short = λ b left is. absurd (cc is);
      causes = record {
        disk = λ is. absurd (cc is);
        stream = λ is. absurd (cc is);
        long = λ b left is. c.in-Long.ensures.reason.long b left refl;
        no_other = (λ is. cc is, λ is. cc is);
      };
      began = (λ is. cc is, λ is. cc is);
    }

-- the source failed
pub returns-in-ReadFault : goal.returns-in-ReadFault
returns-in-ReadFault g c =
    let f = c.answer_events.new.flights in
    let carries = c.in-ReadFault.ensures.carried.carries in
    let begun = c.new-flights.ensures.stepped in
    let row : LedInARow Leads c.args.session carries.0 f.stepped = subst (λ (s : Sessions g). LedInARow Leads s carries.0 f.stepped) begun carries.2 in
    let led : HasLed c.args.session f.stepped = has_led c.args.session carries.0 f.stepped row in
    let stands_at = λ (m : Machine) (is : StandsAs c.args.session m). subst (λ (s : Sessions g). StandsAs s m) (sym begun) is in
    let same : c.into_disk-in-ReadFault.result ≡ disk_of f.stepped.core.filer = c.into_disk-in-ReadFault.ensures ∙ ap (λ (s : Sessions g). disk_of s.core.filer) c.into_inner-in-ReadFault.ensures in
    let shows = λ (what : Evidence). IsEvident (state f.stepped.core).disk what × FromEachInitialState c.args.session (state f.stepped.core).disk what in
    let running : f.stepped.running ≡ true = (c.in-ReadFault.ensures.goes_on tt).running in
    record {
      answers = λ m b t is unset left took.
          let some = crowd_answered m c.new-flights.result f (c.new-flights.ensures.alone m) b _ t _ ending.ReadFault (c.in-ReadFault.ensures.answers m b t (stands_at m is) left took) in
          let now = some.2 tt in
          rw same (record {
            crowd = some.0;
            answered = record {
              how = ending.ReadFault;
              mid = g.K.Sink.took c.answer_events.new.sink;
              ended = some.1;
              follows = follows_fault status.StreamFault ending.ReadFault (waiting_clients some.0.waiting) _ _ _ _ (λ (what : Evidence). ⊥) (λ rose. rose) (inl refl) refl refl;
            };
            keeps = λ well. (files g f.stepped some.0.machine now.1, led.unset unset);
          });
      replied = λ b t unset left took. rw same (
        f.waiting.items,
        record {
          how = ending.ReadFault;
          mid = g.K.Sink.took c.answer_events.new.sink;
          ended = c.in-ReadFault.ensures.replied b t left took;
          follows = follows_fault status.StreamFault ending.ReadFault (waiting_clients f.waiting.items) _ _ _ _ shows (λ rose. rose) (inl refl) refl refl;
        },
        λ early. led.unset unset,
      );
      transfers = λ m b t is left took.
          let first = ended_first b _ t _ c.in-ReadFault.ensures.carried.items ending.ReadFault (c.in-ReadFault.ensures.carried.ended b t left took) in
          let most = row_costs c.args.session carries.0 f.stepped (λ runs. (m, is)) row in
          rw same (record { items = c.in-ReadFault.ensures.carried.items; more = first.0; first = first.1; calls = carries.0; may = carries.1; most = omega (arith, most) });
      permitted = rw same (openly_last led.openly);
      left_open = λ unset is. rw same (led.unset unset);
      damage = λ damaged. absurd (cc damaged);
      sound = λ m is damaged. cc damaged;
      same_disk = rw same led.went;
      short = λ b left is. absurd (cc is);
      causes = record {
        disk = λ is. absurd (cc is);
        stream = λ is. inl (c.in-ReadFault.ensures.reason.source refl);
        long = λ b left is. absurd (cc is);
        no_other = (λ is. cc is, λ is. cc is);
      };
      began = (λ is. cc is, λ is. cc is);
    }

-- the sink failed on the lines of an event
pub returns-in-SinkFault : goal.returns-in-SinkFault
returns-in-SinkFault g c =
    let f = c.answer_events.new.flights in
    let carries = c.in-SinkFault.ensures.carried.carries in
    let begun = c.new-flights.ensures.stepped in
    let row : LedInARow Leads c.args.session carries.0 f.stepped = subst (λ (s : Sessions g). LedInARow Leads s carries.0 f.stepped) begun carries.2 in
    let led : HasLed c.args.session f.stepped = has_led c.args.session carries.0 f.stepped row in
    let stands_at = λ (m : Machine) (is : StandsAs c.args.session m). subst (λ (s : Sessions g). StandsAs s m) (sym begun) is in
    let same : c.into_disk-in-SinkFault.result ≡ disk_of f.stepped.core.filer = c.into_disk-in-SinkFault.ensures ∙ ap (λ (s : Sessions g). disk_of s.core.filer) c.into_inner-in-SinkFault.ensures in
    let shows = λ (what : Evidence). IsEvident (state f.stepped.core).disk what × FromEachInitialState c.args.session (state f.stepped.core).disk what in
    let running : f.stepped.running ≡ true = (c.in-SinkFault.ensures.goes_on tt).running in
    record {
      answers = λ m b t is unset left took.
          let some = crowd_answered m c.new-flights.result f (c.new-flights.ensures.alone m) b _ t _ ending.SinkFault (c.in-SinkFault.ensures.answers m b t (stands_at m is) left took) in
          let now = some.2 tt in
          rw same (record {
            crowd = some.0;
            answered = record {
              how = ending.SinkFault;
              mid = g.K.Sink.took c.answer_events.new.sink;
              ended = some.1;
              follows = follows_fault status.StreamFault ending.SinkFault (waiting_clients some.0.waiting) _ _ _ _ (λ (what : Evidence). ⊥) (λ rose. rose) (inr (refl, c.in-SinkFault.ensures.reason.sink refl)) refl refl;
            };
            keeps = λ well. (files g f.stepped some.0.machine now.1, led.unset unset);
          });
      replied = λ b t unset left took. rw same (
        f.waiting.items,
        record {
          how = ending.SinkFault;
          mid = g.K.Sink.took c.answer_events.new.sink;
          ended = c.in-SinkFault.ensures.replied b t left took;
          follows = follows_fault status.StreamFault ending.SinkFault (waiting_clients f.waiting.items) _ _ _ _ shows (λ rose. rose) (inr (refl, c.in-SinkFault.ensures.reason.sink refl)) refl refl;
        },
        λ early. led.unset unset,
      );
      transfers = λ m b t is left took.
          let first = ended_first b _ t _ c.in-SinkFault.ensures.carried.items ending.SinkFault (c.in-SinkFault.ensures.carried.ended b t left took) in
          let most = row_costs c.args.session carries.0 f.stepped (λ runs. (m, is)) row in
          rw same (record { items = c.in-SinkFault.ensures.carried.items; more = first.0; first = first.1; calls = carries.0; may = carries.1; most = omega (arith, most) });
      permitted = rw same (openly_last led.openly);
      left_open = λ unset is. rw same (led.unset unset);
      damage = λ damaged. absurd (cc damaged);
      sound = λ m is damaged. cc damaged;
      same_disk = rw same led.went;
      short = λ b left is. absurd (cc is);
      causes = record {
        disk = λ is. absurd (cc is);
        stream = λ is. inr (c.in-SinkFault.ensures.reason.sink refl);
        long = λ b left is. absurd (cc is);
        no_other = (λ is. cc is, λ is. cc is);
      };
      began = (λ is. cc is, λ is. cc is);
    }

-- an event halted
pub returns-in-Halted : goal.returns-in-Halted
returns-in-Halted g c =
    let f = c.answer_events.new.flights in
    let carries = c.in-Halted.ensures.carried.carries in
    let begun = c.new-flights.ensures.stepped in
    let row : LedInARow Leads c.args.session carries.0 f.stepped = subst (λ (s : Sessions g). LedInARow Leads s carries.0 f.stepped) begun carries.2 in
    let led : HasLed c.args.session f.stepped = has_led c.args.session carries.0 f.stepped row in
    let stands_at = λ (m : Machine) (is : StandsAs c.args.session m). subst (λ (s : Sessions g). StandsAs s m) (sym begun) is in
    let same : c.into_disk-in-Halted.result ≡ disk_of f.stepped.core.filer = c.into_disk-in-Halted.ensures ∙ ap (λ (s : Sessions g). disk_of s.core.filer) c.into_inner-in-Halted.ensures in
    let disk = (state f.stepped.core).disk in
    let why = c.in-Halted.halt in
    let s = c.stop-status.result in
    let is_so : s ≡ status_of why = c.stop-status.ensures.status in
    let account : IsAccounted c.args.session f.stepped why = subst (λ (x : Sessions g). IsAccounted x f.stepped why) begun c.in-Halted.ensures.accounts.cause in
    let later : Rose (g.K.Sink.faults c.answer_events.new.sink) (g.K.Sink.faults c.stop-status.new.sink) → Rose (g.K.Sink.faults c.args.sink.now) (g.K.Sink.faults c.stop-status.new.sink) = rose_later _ _ _ c.in-Halted.ensures.reason.sink_later in
    let there = λ (d : g.row.D.Denot) (what : Evidence). IsEvident (g.D.Disk.state d) what × FromEachInitialState c.args.session (g.D.Disk.state d) what in
    let before : (what : Evidence) → why ≡ halt.Damaged what → there (disk_of f.stepped.core.filer) what = λ what is. (
      subst (λ (h : Halt). ShowsEvidence disk h) is account.evidence_seen,
      reason_halted c.args.session c.args.session refl (goes_nowhere c.args.session) disk what why (λ o keeps not_older. (account.reasons o keeps not_older, account.blameless o keeps not_older)) is,
    ) in
    let shows : (what : Evidence) → why ≡ halt.Damaged what → there c.into_disk-in-Halted.result what = λ what is. subst (λ (d : g.row.D.Denot). there d what) (sym same) (before what is) in
    let other = halt_ends why s is_so in
    record {
      answers = λ m b t is unset left took.
          let some = crowd_answered m c.new-flights.result f (c.new-flights.ensures.alone m) b _ t _ (ending.Halted why) (c.in-Halted.ensures.answers m b t (stands_at m is) left took) in
          let failed : why ≡ halt.Disk = c.in-Halted.ensures.sound m (stands_at m is) in
          rw same (record {
            crowd = some.0;
            answered = record {
              how = ending.Halted why;
              mid = g.K.Sink.took c.answer_events.new.sink;
              ended = some.1;
              follows = follows_halted s (ending.Halted why) (waiting_clients some.0.waiting) _ _ _ _ (λ (what : Evidence). ⊥) later why refl is_so c.stop-status.ensures.line (λ what damaged. absurd (cc (failed, damaged)));
            };
            keeps = λ well. absurd (well (is_so ∙ ap status_of failed));
          });
      replied = λ b t unset left took. (
        f.waiting.items,
        record {
          how = ending.Halted why;
          mid = g.K.Sink.took c.answer_events.new.sink;
          ended = c.in-Halted.ensures.replied b t left took;
          follows = follows_halted s (ending.Halted why) (waiting_clients f.waiting.items) _ _ _ _ (there c.into_disk-in-Halted.result) later why refl is_so c.stop-status.ensures.line shows;
        },
        λ early. rw same (led.unset unset),
      );
      transfers = λ m b t is left took.
          let first = ended_first b _ t _ c.in-Halted.ensures.carried.items (ending.Halted why) (c.in-Halted.ensures.carried.ended b t left took) in
          let most = row_costs c.args.session carries.0 f.stepped (λ runs. (m, is)) row in
          rw same (record { items = c.in-Halted.ensures.carried.items; more = first.0; first = first.1; calls = carries.0; may = carries.1; most = omega (arith, most) });
      permitted = rw same (openly_last led.openly);
      left_open = λ unset is. rw same (led.unset unset);
      damage = λ damaged. let what = halt_evidence why s is_so damaged in let found = shows what.0 what.1 in (what.0, found.0, found.1);
      sound = λ m is. halt_not_damaged why s is_so (c.in-Halted.ensures.sound m (stands_at m is));
      same_disk = rw same led.went;
      short = λ b left is. absurd (other.0 is);
      causes = record {
        disk = λ is. rw same (account.counted (halt_disk why s is_so is));
        stream = λ is. absurd (other.1 is);
        long = λ b left is. absurd (other.2 is);
        no_other = (other.3, other.6);
      };
      began = (other.4, other.5);
    }
