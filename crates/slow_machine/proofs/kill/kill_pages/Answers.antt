use Rattle.std.specs.Prelude.{ℕ, if◌then◌else◌}
use Rattle.flat_machine.specs.File.{Page, any_page}
use Rattle.flat_machine.specs.Next.{is_writable_within}
use Rattle.slow_machine.proofs.EditLemmas.{each_place_step}
use Rattle.slow_machine.proofs.kill.kill_pages.Goals as goal

pub loop-index-preserved : goal.loop-index-preserved
loop-index-preserved c =
    let each = λ (i : ℕ) (page : Page). if is_writable_within c.args.spaces.now c.args.range.now (record { file = c.args.file; page = i }) then any_page else page in
    rw c.killed_page.ensures
    (each_place_step each c.args.pages.now c.loop-index.pages c.loop-index.index _ c.loop-index-test.true c.loop-index.invariant)
