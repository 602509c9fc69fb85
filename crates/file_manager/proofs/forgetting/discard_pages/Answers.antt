use Rattle.std.proofs.Common.{◌≡◌, ◌∙◌, refl, subst, rules, None}
use Rattle.std.specs.Prelude.{◌+◌}
use Rattle.frame_pool.specs.Frames.{Slots, HasPage, HasDistinct, IsNowhere}
use Rattle.swapper_kernel.specs.Homes.{ArePlaced}
use Rattle.file_manager.proofs.DiscardSteps.{forgets_none, forgets_on, forgets_more, forgets_all}
use Rattle.file_manager.proofs.forgetting.discard_pages.Goals as goal
use Rattle.file_manager.proofs.forgetting.discard_pages.Goals.{in-Some, in_default}

pub loop-page-init : goal.loop-page-init
loop-page-init g c = (forgets_none c.args.id c.args.first c.args.memory.now.layout (g.D.Disk.state c.args.memory.now.disk) c.args.memory.now.pool, refl, refl)

pub loop-page-preserved : goal.loop-page-preserved
loop-page-preserved g c =
    let t = c.loop-page.memory.pool in
    let so_far = c.loop-page.invariant in
    let distinct : HasDistinct t = subst HasDistinct c.frames.ensures c.find.ensures.distinct in
    let placed : ArePlaced t c.args.memory.now.layout = subst (ArePlaced t) so_far.2 c.loop-page.memory.placed in
    elim c.match-find.branch [
      | in-Some w ↦
          let has : HasPage t w.in-Some.slot c.args.id (c.args.first + c.loop-page.page) = search rules in
          rw w.memory-is (
            forgets_more so_far.0 c.requires.of_file placed distinct w.in-Some.slot has.0 has.1 has.2 w.clear.ensures.slot,
            w.clear.ensures.disk ∙ so_far.1,
            w.clear.ensures.layout ∙ so_far.2,
          )
      | in_default w ↦
          let none : c.find.result ≡ None = search rules in
          let nowhere : IsNowhere t c.args.id (c.args.first + c.loop-page.page) = subst (λ (s : Slots). IsNowhere s c.args.id (c.args.first + c.loop-page.page)) c.frames.ensures (c.find.ensures.nowhere.0 none) in
          rw w.memory-is (forgets_on so_far.0 nowhere, so_far.1, so_far.2)
    ]

pub returns-clause-forgets : goal.returns-clause-forgets
returns-clause-forgets g c =
    let all : c.loop-page.page ≡ c.args.pages = search rules in
    forgets_all c.loop-page.invariant.0 all
