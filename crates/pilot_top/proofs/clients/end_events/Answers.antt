use Rattle.std.proofs.Common.{rules, ◌≡◌, ◌≢◌, inl, inr, Option, Some, None, sym, ap, ◌∙◌, subst}
use denote.Enum.Bare.{same_true}
use Rattle.flat_machine.specs.Machine.{Machine}
use Rattle.fault_core.specs.Core.{state}
use Rattle.pilot_engine.specs.declared.session.Session.{Session}
use Rattle.pilot_engine.specs.Trying.{StandsAs}
use Rattle.pilot_engine.proofs.ShutLemmas.{nothing_on}
use Rattle.pilot_top.specs.contracts.turn.End.{the_type}
use Rattle.pilot_top.specs.declared.status.Status.{Status}
use Rattle.pilot_top.specs.declared.turn.End.TheVariants as end
use Rattle.pilot_top.proofs.CloseLemmas.{not_closed}
use Rattle.pilot_top.proofs.clients.end_events.Given as given
use Rattle.pilot_top.proofs.clients.end_events.Goals as goal

abbrev Sessions : given.Over → Type 0
Sessions g = Session g.row.D.Denot g.row.A.Denot g.D.Disk

-- the session is the one that the flights held
stands_in : (g : given.Over) (s t : Sessions g) (m : Machine) → s ≡ t → StandsAs t m → StandsAs s m
stands_in g s t m same stands = subst (λ (x : Sessions g). StandsAs x m) (sym same) stands

-- it was halted by its line

pub returns-then-eq-clause-closed : goal.returns-then-eq-clause-closed
returns-then-eq-clause-closed g c = λ m is other done. absurd (other (same_true the_type (search rules) _ _ (sym c.if-eq.ensures)))

pub returns-then-eq-clause-sound : goal.returns-then-eq-clause-sound
returns-then-eq-clause-sound g c = λ m is damaged. elim c.put_end.ensures.ends [
  | inl done ↦ cc (done, damaged)
  | inr part ↦ cc (part, damaged)
]

pub returns-then-eq-clause-wrote : goal.returns-then-eq-clause-wrote
returns-then-eq-clause-wrote g c =
    let s = c.args.flights.stepped in
    rw (c.into_disk-disk.ensures, c.into_inner-session.ensures) (nothing_on s.volume.root (state s.core).disk (state s.core).slots)

-- its end failed

pub returns-in-Some-clause-closed : goal.returns-in-Some-clause-closed
returns-in-Some-clause-closed g c = λ m is other done. absurd (not_closed c.close-stopped.result.0 c.in-Some.status c.in-Some.is c.close-stopped.ensures.stops.ends done)

pub returns-in-Some-clause-disk_fault : goal.returns-in-Some-clause-disk_fault
returns-in-Some-clause-disk_fault g c = λ failed.
    let other : c.args.end ≢ end.Halt = search rules in
    let stopped = c.close-stopped.ensures.stops.disk_fault (c.in-Some.is ∙ ap (λ (s : Status). Some s) failed) in
    rw (sym c.into_inner-session.ensures) (other, stopped.1, stopped.2)

pub returns-in-Some-clause-damage : goal.returns-in-Some-clause-damage
returns-in-Some-clause-damage g c = λ damaged.
    let other : c.args.end ≢ end.Halt = search rules in
    let seen = c.close-stopped.ensures.stops.damage (c.in-Some.is ∙ ap (λ (s : Status). Some s) damaged) in
    rw (sym c.into_inner-session.ensures) (other, seen.0, seen.1.0, seen.1.1, seen.2)

pub returns-in-Some-clause-sound : goal.returns-in-Some-clause-sound
returns-in-Some-clause-sound g c = λ m is damaged. (c.close-stopped.ensures.stands m (stands_in g _ _ m c.into_inner-session.ensures is)).sound (c.in-Some.is ∙ ap (λ (s : Status). Some s) damaged)

pub returns-in-Some-clause-cost : goal.returns-in-Some-clause-cost
returns-in-Some-clause-cost g c = λ m is. let most = (c.close-stopped.ensures.stands m (stands_in g _ _ m c.into_inner-session.ensures is)).cost in rw (sym c.into_inner-session.ensures) most

-- it was closed

pub returns-in-None-clause-closed : goal.returns-in-None-clause-closed
returns-in-None-clause-closed g c = λ m is other done. let none : ◌≡◌ {A = Option Status} c.close-stopped.result.0 None = search rules in (c.close-stopped.ensures.stands m (stands_in g _ _ m c.into_inner-session.ensures is)).closed none

pub returns-in-None-clause-part : goal.returns-in-None-clause-part
returns-in-None-clause-part g c = λ failed.
    let none : ◌≡◌ {A = Option Status} c.close-stopped.result.0 None = search rules in
    let quiet = c.close-stopped.ensures.quiet none in
    let clients = c.waiting_clients-clients.ensures in
    let rose = c.put_end-in-None.ensures.cause failed in
    let part = c.put_end-in-None.ensures.part failed in
    rw (sym clients, sym quiet) (rose, part.0, part.1, part.2)

pub returns-in-None-clause-sound : goal.returns-in-None-clause-sound
returns-in-None-clause-sound g c = λ m is damaged. elim c.put_end-in-None.ensures.ends [
  | inl done ↦ cc (done, damaged)
  | inr part ↦ cc (part, damaged)
]

pub returns-in-None-clause-cost : goal.returns-in-None-clause-cost
returns-in-None-clause-cost g c = λ m is. let most = (c.close-stopped.ensures.stands m (stands_in g _ _ m c.into_inner-session.ensures is)).cost in rw (sym c.into_inner-session.ensures) most
