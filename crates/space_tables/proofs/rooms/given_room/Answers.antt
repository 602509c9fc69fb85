use Rattle.std.proofs.Common.{rules, ◌≡◌, ◌<◌, ◌≤◌, Some, None, refl, sym, ◌∙◌, ap, arith}
use Rattle.flat_machine.specs.Space.{root_pages}
use Rattle.space_tables.proofs.Right.{right_reads}
use Rattle.space_tables.proofs.Sets.{handle_is}
use Rattle.projection_laws.specs.Slots.{listed}
use Rattle.projection_laws.specs.Tests.{no_place}
use Rattle.space_tables.proofs.Asks.{from_memory}
use Rattle.space_tables.proofs.Places.{place_found, past_root}
use Rattle.space_tables.proofs.rooms.given_room.Goals as goal

pub returns-then-first-ge-ROOT_PAGES-clause-answer : goal.returns-then-first-ge-ROOT_PAGES-clause-answer
returns-then-first-ge-ROOT_PAGES-clause-answer g c = λ slots xs p h r long at.
    (past_root slots xs r p c.args.parent at (handle_is (listed slots) c.args.parent p at) c.args.pages c.requires.pages c.args.first (omega (arith, c.if-first-ge-ROOT_PAGES.true)), tt)

pub returns-in_err-index-clause-answer : goal.returns-in_err-index-clause-answer
returns-in_err-index-clause-answer g c = λ slots xs p h r long at.
    let inside : c.args.first < root_pages = omega (arith, c.if-first-ge-ROOT_PAGES.false) in
    let m = c.in_err-index.ensures.found slots xs h r long inside in
    let k = from_memory (Unit {0}) (no_place (listed slots) c.args.parent c.args.pages (Some c.args.first)) _ m in search (rules, k)

pub returns-then-ends_in-clause-answer : goal.returns-then-ends_in-clause-answer
returns-then-ends_in-clause-answer g c = λ slots xs p h r long at.
    let inside : c.args.first < root_pages = omega (arith, c.if-first-ge-ROOT_PAGES.false) in
    let there = c.in_ok-index.ensures.found slots xs h r long inside in
    (place_found slots xs r p c.args.parent at (handle_is (listed slots) c.args.parent p at) c.args.pages c.requires.pages c.in_ok-index.index c.args.first c.in_ok-index.interval there c.in_ok-index.ensures.form.2 _ (sym c.if-ends_in.ensures), (there, refl))

pub returns-else-ends_in-clause-answer : goal.returns-else-ends_in-clause-answer
returns-else-ends_in-clause-answer g c = λ slots xs p h r long at.
    let inside : c.args.first < root_pages = omega (arith, c.if-first-ge-ROOT_PAGES.false) in
    let there = c.in_ok-index.ensures.found slots xs h r long inside in
    (place_found slots xs r p c.args.parent at (handle_is (listed slots) c.args.parent p at) c.args.pages c.requires.pages c.in_ok-index.index c.args.first c.in_ok-index.interval there c.in_ok-index.ensures.form.2 _ (sym c.if-ends_in.ensures), tt)
