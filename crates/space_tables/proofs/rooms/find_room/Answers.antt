use Rattle.std.proofs.Common.{rules, ◌≡◌, None, Some, refl, sym, ◌∙◌, ap}
use Rattle.projection_laws.specs.Slots.{listed}
use Rattle.projection_laws.specs.Tests.{no_place}
use Rattle.flat_machine.specs.Next.{first_page_for}
use Rattle.space_tables.proofs.Right.{right_reads}
use Rattle.space_tables.proofs.Sets.{handle_is}
use Rattle.space_tables.proofs.Asks.{from_memory}
use Rattle.space_tables.proofs.Places.{gap_found, no_gap_found}
use Rattle.space_tables.proofs.rooms.find_room.Goals as goal

pub returns-in_err-room-clause-answer : goal.returns-in_err-room-clause-answer
returns-in_err-room-clause-answer g c = λ slots xs p h r long at.
    let m = c.in_err-room.ensures.found slots xs h long (right_reads slots xs r).intervals in
    let k = from_memory (Unit {0}) (no_place (listed slots) c.args.parent c.args.pages c.args.first) _ m in search (rules, k)

pub returns-in-Some-2-clause-answer : goal.returns-in-Some-2-clause-answer
returns-in-Some-2-clause-answer g c = λ slots xs p h r long at.
    let m = rw c.in-Some-2.is at (c.in_ok-room.ensures.found slots xs h long (right_reads slots xs r).intervals) in
    let k = gap_found slots xs r p c.args.parent at (handle_is (listed slots) c.args.parent p at) c.args.pages c.requires.pages c.in-Some-2.room.interval m.1 in
    (ap (no_place (listed slots) c.args.parent c.args.pages) c.in_default.is ∙ k.0, (m.0, m.2 ∙ k.1 ∙ sym (ap (first_page_for (listed slots) c.args.parent c.args.pages) c.in_default.is)))

pub returns-in-None-clause-answer : goal.returns-in-None-clause-answer
returns-in-None-clause-answer g c = λ slots xs p h r long at.
    let m = rw c.in-None.is at (c.in_ok-room.ensures.found slots xs h long (right_reads slots xs r).intervals) in
    (ap (no_place (listed slots) c.args.parent c.args.pages) c.in_default.is ∙ no_gap_found slots xs r p c.args.parent at (handle_is (listed slots) c.args.parent p at) c.args.pages c.requires.pages m, tt)

pub returns-clause-answer : goal.returns-clause-answer
returns-clause-answer g c = λ slots xs p h r long at. rw c.in-Some.is (c.given_room.ensures.answer slots xs p h r long at)
