use Rattle.std.proofs.Common.{◌≡◌, ◌+◌, length, sym, ◌∙◌, ap, arith}
use Rattle.labelled_disk.specs.Layout.{first_data}
use Rattle.scavenger.proofs.LayoutLemmas.{of_layout, first_within}
use Rattle.scavenger.proofs.PlanLemmas.{ok_anyway}
use Rattle.scavenger.proofs.restoring.plan_of.Goals as goal

pub fill-requires-clause-first : goal.fill-requires-clause-first
fill-requires-clause-first g c =
    let parts = of_layout c.args.layout.now c.args.layout.now.sectors c.requires.layout in
    let all : c.args.layout.now.sectors ≡ c.args.layout.now.first + length c.deref-2.result.now =
    omega (arith, parts.first, c.requires.all, c.deref-2.ensures.len, ap length c.deref-2.ensures.value, first_within c.args.layout.now.sectors c.requires.counted) in
    parts.first ∙ ap first_data all

pub fill-requires-clause-reveals : goal.fill-requires-clause-reveals
fill-requires-clause-reveals g c = λ d has.
    let parts = of_layout c.args.layout.now c.args.layout.now.sectors c.requires.layout in
    let all : length d ≡ c.args.layout.now.sectors =
    omega (arith, has.sectors, parts.first, c.requires.all, ap length c.deref-2.ensures.value, first_within c.args.layout.now.sectors c.requires.counted) in
    c.in_ok-survey.ensures.reveals d (parts.first ∙ ap first_data (sym all)) (c.deref.ensures.value ∙ sym c.deref-2.ensures.value ∙ has.are)

pub of-requires-clause-sector_states : goal.of-requires-clause-sector_states
of-requires-clause-sector_states g c = λ d has.
    let parts = of_layout c.args.layout.now c.args.layout.now.sectors c.requires.layout in
    (c.in_ok-survey.ensures.reveals d (parts.first ∙ ap first_data (sym has.sectors)) (c.deref.ensures.value ∙ has.are)).sector_states

pub returns-clause-report : goal.returns-clause-report
returns-clause-report g c = ok_anyway c.of.result (λ d has.
    let parts = of_layout c.args.layout.now c.args.layout.now.sectors c.requires.layout in
    c.in_ok-fill.ensures d (record {
      sectors = omega (arith, has.sectors, parts.first, c.requires.all, ap length c.deref-2.ensures.value, first_within c.args.layout.now.sectors c.requires.counted);
      are = c.deref-2.ensures.value ∙ has.are;
    }))
